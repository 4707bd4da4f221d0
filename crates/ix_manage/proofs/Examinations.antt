-- The text of the workload stands for an expression, so it has no fault.
use Rattle.std.proofs.Common.{◌≡◌, ℕ, ◌+◌, List, [], ◌∷◌, ◌++◌, refl, subst, sym, arith, codes}
use Rattle.std.proofs.Common.{Result, Ok, Err, IfOk, IfErr}
use Rattle.std.proofs.lemmas.Result.{IfOk-weaker}
use Rattle.std.specs.Prelude.{All}
use Rattle.std.proofs.lemmas.List.Elements.{All-from_recursion}
use Rattle.ix_values.specs.Texts.{IsName}
use Rattle.ix_expr.specs.declared.arg.Arg.{Arg}
use Rattle.ix_expr.specs.declared.arg.Arg.TheVariants.{Param}
use Rattle.ix_expr.specs.Form.{Form, all, any, atom, atom_of, couple, seq, star}
use Rattle.ix_expr.specs.FormFaults.{IsWellFormed, nodes_of}
use Rattle.ix_expr.specs.Spelling.{IsArgument, IsAtom, IsSpelled}
use Rattle.ix_expr.specs.CanonicalText.{canonical_text}
use Rattle.ix_expr.specs.inside.Walk.{free_end, free_node}
use Rattle.ix_expr.proofs.Walks.{passed-HaveNoFault}
use Rattle.ix_parse.specs.Faults.{IsFirstFault, StandsFor}
use Rattle.ix_parse.proofs.FewLevels.{few_levels-stand}
use Rattle.ix_parse.proofs.OneMeaning.{faulty-none}
use Rattle.ix_parse.proofs.Printing.{Printed, printed, printed-all, printed-couple, printed-group}
use Rattle.ix_parse.proofs.Printing.{printed-loosen, printed-star}
use Rattle.ix_engine.specs.inside.Engine.{EngineState}
use Rattle.ix_generate.specs.Workload.{examinations}
use Rattle.ix_manage.specs.declared.refusal.Refusal.{Refusal}
use Rattle.ix_manage.specs.declared.refusal.Refusal.TheVariants.{Bad, Large, Memory}
use Rattle.ix_manage.specs.declared.refusal.Input.TheVariants.{Expression}
use Rattle.ix_manage.specs.inside.Refusal.{RefusesForm, RefusesText, RefusesWorkload}

-- the action of a name on a patient and an examination
abbrev arguments : List Arg
arguments = Param (codes "p") ∷ Param (codes "x") ∷ []

abbrev on : List ℕ → Form
on name = atom (atom_of name arguments)

-- for some examination, or some patient, the call and the performance
abbrev some_visit : List ℕ → Form
some_visit p = any p (seq (on (codes "call")) (on (codes "perform")))

-- each patient, or each examination, has one visit after the other
abbrev each_in_turn : List ℕ → List ℕ → Form
each_in_turn p q = all p (star (some_visit q))

abbrev expression : Form
expression = couple (each_in_turn (codes "p") (codes "x")) (each_in_turn (codes "x") (codes "p"))

p_is_name : IsName (codes "p")
p_is_name = record { begins = refl; word = refl; short = omega arith }

x_is_name : IsName (codes "x")
x_is_name = record { begins = refl; word = refl; short = omega arith }

both_are_names : All IsArgument arguments
both_are_names = All-from_recursion IsArgument arguments (p_is_name, (x_is_name, tt))

call_is_atom : IsAtom (atom_of (codes "call") arguments)
call_is_atom = record {
  name = record { begins = refl; word = refl; short = omega arith };
  unreserved = refl;
  arguments = both_are_names;
  few = omega arith;
}

perform_is_atom : IsAtom (atom_of (codes "perform") arguments)
perform_is_atom = record {
  name = record { begins = refl; word = refl; short = omega arith };
  unreserved = refl;
  arguments = both_are_names;
  few = omega arith;
}

formed : IsWellFormed expression
formed = record {
  faultless = passed-HaveNoFault (nodes_of expression)
      (free_node refl (free_node refl (free_node refl (free_node refl (free_node refl (free_node refl
      (free_node refl (free_node refl (free_node refl (free_node refl (free_node refl (free_node refl
      (free_node refl free_end)))))))))))));
  numbers = ((tt, tt), (tt, tt));
}

-- the text of one of the two rules
abbrev text_of_each : List ℕ → List ℕ → List ℕ
text_of_each p q = (codes "all" ++ (32 ∷ 36 ∷ p))
    ++ (32 ∷ 42 ∷ ((40 ∷ canonical_text (some_visit q)) ++ 41 ∷ []))

each-printed : (p q : List ℕ) → IsName p → IsName q → (at : ℕ)
    → Printed at (text_of_each p q) 6 (each_in_turn p q) 5
each-printed p q p_name q_name at =
    let visit : Form = some_visit q in
    let spelled : IsSpelled visit = (q_name, (call_is_atom, perform_is_atom)) in
    let text : List ℕ = (40 ∷ canonical_text visit) ++ 41 ∷ [] in
    printed-all p (star visit) (42 ∷ text) at 4 p_name (λ from.
    printed-star visit text from 3
    (printed-group visit (canonical_text visit) (from + 1) 2
    (printed-loosen 1 6 visit (canonical_text visit) (from + 1 + 1) 2 2 (omega arith) (omega arith)
    (omega arith) (printed visit spelled (tt, tt) (from + 1 + 1)))))

abbrev whole_text : List ℕ
whole_text = (text_of_each (codes "p") (codes "x") ++ (32 ∷ 64 ∷ 32 ∷ []))
    ++ text_of_each (codes "x") (codes "p")

whole-printed : Printed 0 whole_text 1 expression 5
whole-printed =
    let patients : Form = each_in_turn (codes "p") (codes "x") in
    let rooms : Form = each_in_turn (codes "x") (codes "p") in
    let first : List ℕ = text_of_each (codes "p") (codes "x") in
    let second : List ℕ = text_of_each (codes "x") (codes "p") in
    printed-loosen 1 3 expression whole_text 0 5 5 (omega arith) (omega arith) (omega arith)
    (printed-couple patients rooms first second 0 5 5
    (printed-loosen 3 6 patients first 0 5 5 (omega arith) (omega arith) (omega arith)
    (each-printed (codes "p") (codes "x") p_is_name x_is_name 0))
    (λ from. printed-loosen 4 6 rooms second from 5 5 (omega arith) (omega arith) (omega arith)
    (each-printed (codes "x") (codes "p") x_is_name p_is_name from)))

stands : StandsFor examinations expression
unfolding examinations
stands = few_levels-stand examinations 5 expression whole-printed (omega arith) formed (omega arith)

-- it has no fault
pub no_fault : (code at : ℕ) → IsFirstFault examinations code at → ⊥
no_fault code at faulty = faulty-none examinations code at expression faulty stands

-- what refuses the text is want of memory
pub text_refused : (limit : ℕ) (refusal : Refusal) → RefusesText examinations refusal
    → RefusesWorkload limit refusal
text_refused limit (Bad Expression code at) why = absurd (no_fault code at why)
text_refused limit Memory why = why
text_refused limit _ why = absurd why

-- the engine of an expression that the text stands for
module _ (r : Result EngineState Refusal) (x : Form) (reads : StandsFor examinations x) where
  pub engine_stands : IfOk r (λ engine. engine.form ≡ x)
      → IfOk r (λ engine. StandsFor examinations engine.form)
  engine_stands = IfOk-weaker r _ _ (λ engine same. subst (StandsFor examinations) (sym same) reads)

-- what refuses the expression refuses the workload
pub form_refused : (x : Form) → StandsFor examinations x → (limit : ℕ) (refusal : Refusal)
    → RefusesForm x limit refusal → RefusesWorkload limit refusal
form_refused x reads limit (Large most) why = (why.0, (x, reads, why.1))
form_refused x reads limit Memory why = why
form_refused x reads limit _ why = absurd why

pub engine_refused : (r : Result EngineState Refusal) (x : Form) → StandsFor examinations x
    → (limit : ℕ) → IfErr r (RefusesForm x limit) → IfErr r (RefusesWorkload limit)
engine_refused (Ok engine) x reads limit why = tt
engine_refused (Err refusal) x reads limit why = form_refused x reads limit refusal why
