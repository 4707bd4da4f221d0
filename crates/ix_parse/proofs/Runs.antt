-- A derivation of the grammar is read by the machine: what carries precedence and grouping.
use Rattle.std.proofs.Common.{◌≡◌, ℕ, suc, ◌+◌, ◌≤◌, Bool, true, false, leb, ltb, cond, List, [], ◌∷◌, ◌++◌, length, Option, Some, None, refl, sym, ap, ◌∙◌, subst, arith, append_assoc, length-append, lt-ltb, le-leb}
use Rattle.std.proofs.lemmas.Bool.Decides.{nat_tests}
use Rattle.ix_expr.specs.declared.arg.Arg.{Arg}
use Rattle.ix_parse.specs.declared.signs.Operator.{Operator}
use Rattle.ix_parse.specs.declared.signs.Operator.TheVariants as operators
use Rattle.ix_parse.specs.declared.signs.WordClass.{WordClass}
use Rattle.ix_parse.specs.declared.signs.WordClass.TheVariants.{Counts}
use Rattle.ix_parse.specs.Symbols.{Symbol, word, param, opening, closing, comma, between, class_of, IsNumberWord, level, Meaning, joined_meaning, quantified, counted, named}
use Rattle.ix_parse.specs.Grammar.{Arguments, Stands, CutAtOperand, CanGoOn, Wanted, AfterTimes, AfterArgument}
use Rattle.ix_parse.specs.inside.StackMachine.{Entry, group, sign, binder, counter, left, Mode, wanted, name_read, argument_wanted, argument_read, quantifier_read, times_read, operand_read, Config, WithOperand, operand_held, config, closed, reduced, with_operand, left_group, with_left, step_operand, step_word, with_argument, times_with_number, step_by, step, settled_mode, settled_config, joined_whole, joined_all, whole, start, step_some, run, levels}
use Rattle.ix_parse.proofs.Numbers.{number-is}

-- a run over an appended list is a run over its parts
pub run-append : (c : Option Config) (ts us : List Symbol) → run c (ts ++ us) ≡ run (run c ts) us
run-append c [] us = refl
run-append c (t ∷ ts) us = run-append (step_some c t) ts us

-- what is stuck stays so
pub run-none : (ts : List Symbol) → run None ts ≡ None
run-none [] = refl
run-none (t ∷ ts) = run-none ts

-- the loosest level of an operand behind what is open
abbrev pub hole : List Entry → ℕ
hole [] = 1
hole (group ∷ s) = 1
hole (sign at p ∷ s) = 6
hole (binder at q p ∷ s) = 6
hole (counter at n ∷ s) = 6
hole (left at o x ∷ s) = suc (level o)

-- where an operand of this level may stand, nothing is joined_meaning to it
pub reduced-clear : (k : ℕ) (s : List Entry) (x : Meaning) → hole s ≤ k → reduced k s x ≡ operand_held s x
reduced-clear k [] x h = refl
reduced-clear k (group ∷ s) x h = refl
reduced-clear k (sign at p ∷ s) x h = refl
reduced-clear k (binder at q p ∷ s) x h = refl
reduced-clear k (counter at n ∷ s) x h = refl
reduced-clear k (left at o y ∷ s) x h = let below : leb k (level o) ≡ false = grind (arith, nat_tests) in rw below refl

-- at the end of an operand that no prefix takes, nothing is closed
pub closed-clear : (s : List Entry) (x : Meaning) → hole s ≤ 5 → closed s x ≡ operand_held s x
closed-clear [] x h = refl
closed-clear (group ∷ s) x h = refl
closed-clear (sign at p ∷ s) x h = absurd (omega arith)
closed-clear (binder at q p ∷ s) x h = absurd (omega arith)
closed-clear (counter at n ∷ s) x h = absurd (omega arith)
closed-clear (left at o y ∷ s) x h = refl

-- behind an operand the machine goes on as from the operand
pub step-closing : (s : List Entry) (mode : Mode) (h : WithOperand) → settled_mode s mode ≡ Some h → step_by s mode closing ≡ step_operand h.stack h.operand closing
step-closing s wanted h e = absurd cc
step-closing s (name_read at w) h e = let same : closed s (named at w []) ≡ h = cc in ap (λ (g : WithOperand). step_operand g.stack g.operand closing) same
step-closing s (argument_wanted at w args) h e = absurd cc
step-closing s (argument_read at w args) h e = absurd cc
step-closing s (quantifier_read at q) h e = absurd cc
step-closing s (times_read at) h e = absurd cc
step-closing s (operand_read x) h e = let same : operand_held s x ≡ h = cc in ap (λ (g : WithOperand). step_operand g.stack g.operand closing) same

pub step-between : (s : List Entry) (mode : Mode) (h : WithOperand) (at : ℕ) (o : Operator) → settled_mode s mode ≡ Some h → step_by s mode (between at o) ≡ step_operand h.stack h.operand (between at o)
step-between s wanted h at o e = absurd cc
step-between s (name_read at' w) h at o e = let same : closed s (named at' w []) ≡ h = cc in ap (λ (g : WithOperand). step_operand g.stack g.operand (between at o)) same
step-between s (argument_wanted at' w args) h at o e = absurd cc
step-between s (argument_read at' w args) h at o e = absurd cc
step-between s (quantifier_read at' q) h at o e = absurd cc
step-between s (times_read at') h at o e = absurd cc
step-between s (operand_read x) h at o e = let same : operand_held s x ≡ h = cc in ap (λ (g : WithOperand). step_operand g.stack g.operand (between at o)) same

abbrev pub reduced_held : ℕ → WithOperand → WithOperand
reduced_held k h = reduced k h.stack h.operand

-- the machine has read an operand of level n: what it holds means, at each level up to n, what `whole` means
pub record Reached (n : ℕ) (whole : WithOperand) (c : Option Config) : Type 0 where
  pub last : Config
  pub is : c ≡ Some last
  pub held : WithOperand
  pub settled_is : settled_config last ≡ Some held
  pub same : (k : ℕ) → k ≤ n → reduced_held k held ≡ reduced_held k whole

pub some_arguments : (ts : List Symbol) (args : List Arg) → Arguments ts args → 1 ≤ length args
some_arguments _ _ (Arguments.one t a is) = omega arith
some_arguments _ _ (Arguments.more t a ts args is others) = omega arith

-- arguments are read
pub run-arguments : (s : List Entry) (at : ℕ) (w : List ℕ) (earlier : List Arg) (ts : List Symbol) (args : List Arg) → Arguments ts args → length earlier + length args ≤ 4 → run (Some (config s (argument_wanted at w earlier))) ts ≡ Some (config s (argument_read at w (earlier ++ args)))
run-arguments s at w earlier _ _ (Arguments.one t a is) few = ap (with_argument s at w earlier) is
run-arguments s at w earlier _ _ (Arguments.more t a ts args is others) few =
    let some = some_arguments ts args others in
    let len : length (earlier ++ a ∷ []) ≡ length earlier + 1 = length-append earlier (a ∷ []) in
    let room : ltb (length (earlier ++ a ∷ [])) 4 ≡ true = lt-ltb (length (earlier ++ a ∷ [])) 4 (omega arith) in
    ap (λ (c : Option Arg). run (step_some (with_argument s at w earlier c) comma) ts) is
    ∙ ap (λ (b : Bool). run (cond b (Some (config s (argument_wanted at w (earlier ++ a ∷ [])))) None) ts) room
    ∙ run-arguments s at w (earlier ++ a ∷ []) ts args others (omega arith)
    ∙ ap (λ (l : List Arg). Some (config s (argument_read at w l))) (append_assoc earlier (a ∷ []) args)

pub level-low : (o : Operator) → level o ≤ 5
level-low operators.Or = omega arith
level-low operators.And = omega arith
level-low operators.Couple = omega arith
level-low operators.Par = omega arith
level-low operators.Seq = omega arith

pub level-some : (o : Operator) → 1 ≤ level o
level-some operators.Or = omega arith
level-some operators.And = omega arith
level-some operators.Couple = omega arith
level-some operators.Par = omega arith
level-some operators.Seq = omega arith

reduced-left : (k at : ℕ) (o : Operator) (x y : Meaning) (s : List Entry) → k ≤ level o → reduced k (left at o x ∷ s) y ≡ reduced k s (joined_meaning o at x y)
reduced-left k at o x y s low = ap (λ (b : Bool). cond b (reduced k s (joined_meaning o at x y)) (operand_held (left at o x ∷ s) y)) (le-leb k (level o) low)

-- an operator behind a left operand that was read
pub run-left : (at : ℕ) (o : Operator) (ts us : List Symbol) (x : Meaning) (s : List Entry) → hole s ≤ level o → Reached (level o) (closed s x) (run (Some (config s wanted)) ts) → run (Some (config s wanted)) (ts ++ between at o ∷ us) ≡ run (Some (config (left at o x ∷ s) wanted)) us
run-left at o ts us x s fits r =
    let low = level-low o in
    let clear = closed-clear s x (omega arith) in
    let found : reduced_held (level o) r.held ≡ operand_held s x = r.same (level o) (omega arith) ∙ ap (reduced_held (level o)) clear ∙ reduced-clear (level o) s x fits in
    let stepped : step r.last (between at o) ≡ Some (config (left at o x ∷ s) wanted) = step-between r.last.stack r.last.mode r.held at o r.settled_is ∙ ap (λ (h : WithOperand). Some (with_left at o h)) found in
    run-append (Some (config s wanted)) ts (between at o ∷ us) ∙ ap (λ (c : Option Config). run (step_some c (between at o)) us) r.is ∙ ap (λ (c : Option Config). run c us) stepped

-- `times` and its number in front of an operand
pub run-counts : (s : List Entry) (at at' : ℕ) (w v : List ℕ) (n : ℕ) (ts : List Symbol) → class_of w ≡ Counts → IsNumberWord v n → run (Some (config s wanted)) (word at w ∷ word at' v ∷ ts) ≡ run (Some (config (counter at n ∷ s) wanted)) ts
run-counts s at at' w v n ts is number =
    ap (λ (k : WordClass). run (step_some (step_word s at w k) (word at' v)) ts) is
    ∙ ap (λ (o : Option ℕ). run (times_with_number s at o) ts) (number-is v n number)

-- each symbol list that stands for a meaning is read as it
pub run-stands : (n : ℕ) (ts : List Symbol) (x : Meaning) → Stands n ts x → (s : List Entry) → hole s ≤ n → Reached n (closed s x) (run (Some (config s wanted)) ts)
run-stands _ _ _ (Stands.tighter n ts x low tight) s fits =
    let r = run-stands (suc n) ts x tight s (omega arith) in
    record { last = r.last; is = r.is; held = r.held; settled_is = r.settled_is; same = λ k h. r.same k (omega arith) }
run-stands _ _ _ (Stands.binary at o ts us x y first second) s fits =
    let low = level-low o in
    let ran = run-left at o ts us x s fits (run-stands (level o) ts x first s fits) in
    let r2 = run-stands (suc (level o)) us y second (left at o x ∷ s) (omega arith) in
    record {
      last = r2.last;
      is = ran ∙ r2.is;
      held = r2.held;
      settled_is = r2.settled_is;
      same = λ k h. r2.same k (omega arith) ∙ reduced-left k at o x y s h ∙ sym (ap (reduced_held k) (closed-clear s (joined_meaning o at x y) (omega arith)));
    }
run-stands _ _ _ (Stands.prefixes at p ts x operand) s fits = run-stands 6 ts x operand (sign at p ∷ s) (omega arith)
run-stands _ _ _ (Stands.quantifies at w q p ts x is operand) s fits =
    let ran : run (Some (config s wanted)) (word at w ∷ param p ∷ ts) ≡ run (Some (config (binder at q p ∷ s) wanted)) ts = ap (λ (k : WordClass). run (step_some (step_word s at w k) (param p)) ts) is in
    subst (Reached 6 (closed s (quantified q at p x))) (sym ran) (run-stands 6 ts x operand (binder at q p ∷ s) (omega arith))
run-stands _ _ _ (Stands.counts at at' w v n ts x is number operand) s fits =
    subst (Reached 6 (closed s (counted n at x))) (sym (run-counts s at at' w v n ts is number)) (run-stands 6 ts x operand (counter at n ∷ s) (omega arith))
run-stands _ _ _ (Stands.group ts x inner) s fits =
    let r = run-stands 1 ts x inner (group ∷ s) (omega arith) in
    let found : reduced_held 1 r.held ≡ operand_held (group ∷ s) x = r.same 1 (omega arith) in
    record {
      last = with_operand (closed s x);
      is =
          run-append (Some (config (group ∷ s) wanted)) ts (closing ∷ []) ∙ ap (λ (c : Option Config). step_some c closing) r.is
          ∙ step-closing r.last.stack r.last.mode r.held r.settled_is ∙ ap (λ (h : WithOperand). left_group h.stack h.operand) found;
      held = closed s x;
      settled_is = refl;
      same = λ k h. refl;
    }
run-stands _ _ _ (Stands.bare at w is) s fits =
    record { last = config s (name_read at w); is = ap (step_word s at w) is; held = closed s (named at w []); settled_is = refl; same = λ k h. refl }
run-stands _ _ _ (Stands.applied at w ts args is arguments few) s fits =
    record {
      last = with_operand (closed s (named at w args));
      is =
          ap (λ (k : WordClass). run (step_some (step_word s at w k) opening) (ts ++ closing ∷ [])) is
          ∙ run-append (Some (config s (argument_wanted at w []))) ts (closing ∷ [])
          ∙ ap (λ (c : Option Config). step_some c closing) (run-arguments s at w [] ts args arguments (omega arith));
      held = closed s (named at w args);
      settled_is = refl;
      same = λ k h. refl;
    }

-- what stands for a meaning is read whole as it
pub whole-stands : (ts : List Symbol) (x : Meaning) → Stands 1 ts x → (c : Config) → run (Some start) ts ≡ Some c → whole c ≡ Some x
whole-stands ts x stands c is =
    let r = run-stands 1 ts x stands [] (omega arith) in
    let same : r.last ≡ c = let e : Some r.last ≡ Some c = sym r.is ∙ is in cc in
    ap whole (sym same) ∙ ap joined_all r.settled_is ∙ ap (λ (h : WithOperand). joined_whole h.stack h.operand) (r.same 1 (omega arith))

-- where symbols can go on, the machine isn't stuck
pub run-can : (ts : List Symbol) → CanGoOn ts → run (Some start) ts ≡ None → ⊥
run-can ts can stuck =
    let r = run-stands 1 (ts ++ can.rest) can.meaning can.stands [] (omega arith) in
    let none : run (Some start) (ts ++ can.rest) ≡ None = run-append (Some start) ts can.rest ∙ ap (λ (c : Option Config). run c can.rest) stuck ∙ run-none can.rest in
    let e : Some r.last ≡ None = sym r.is ∙ none in
    cc

-- what the machine makes of a cut: it wants an operand, with as many levels more
pub record ReachedCut (s : List Entry) (d : ℕ) (c : Option Config) : Type 0 where
  pub stack : List Entry
  pub is : c ≡ Some (config stack wanted)
  pub deeper : levels stack ≡ levels s + d

one_deeper : (s t : List Entry) (d : ℕ) (c : Option Config) → levels t ≡ suc (levels s) → ReachedCut t d c → ReachedCut s (suc d) c
one_deeper s t d c more r = record { stack = r.stack; is = r.is; deeper = let deeper = r.deeper in omega arith }

pub run-cut : (n m d : ℕ) (ts : List Symbol) → CutAtOperand n m d ts → (s : List Entry) → hole s ≤ n → ReachedCut s d (run (Some (config s wanted)) ts)
run-cut _ _ _ _ (CutAtOperand.here n) s fits = record { stack = s; is = refl; deeper = omega arith }
run-cut _ _ _ _ (CutAtOperand.tighter n m d ts low cut) s fits = run-cut (suc n) m d ts cut s (omega arith)
run-cut _ _ _ _ (CutAtOperand.binary at o m d ts us x first cut) s fits =
    let r = run-cut (suc (level o)) m d us cut (left at o x ∷ s) (omega arith) in
    record { stack = r.stack; is = run-left at o ts us x s fits (run-stands (level o) ts x first s fits) ∙ r.is; deeper = r.deeper }
run-cut _ _ _ _ (CutAtOperand.prefixes at p m d ts cut) s fits = one_deeper s (sign at p ∷ s) d _ refl (run-cut 6 m d ts cut (sign at p ∷ s) (omega arith))
run-cut _ _ _ _ (CutAtOperand.quantifies at w q p m d ts is cut) s fits =
    let ran : run (Some (config s wanted)) (word at w ∷ param p ∷ ts) ≡ run (Some (config (binder at q p ∷ s) wanted)) ts = ap (λ (k : WordClass). run (step_some (step_word s at w k) (param p)) ts) is in
    subst (ReachedCut s (suc d)) (sym ran) (one_deeper s (binder at q p ∷ s) d _ refl (run-cut 6 m d ts cut (binder at q p ∷ s) (omega arith)))
run-cut _ _ _ _ (CutAtOperand.counts at at' w v n m d ts is number cut) s fits =
    subst (ReachedCut s (suc d)) (sym (run-counts s at at' w v n ts is number)) (one_deeper s (counter at n ∷ s) d _ refl (run-cut 6 m d ts cut (counter at n ∷ s) (omega arith)))
run-cut _ _ _ _ (CutAtOperand.group m d ts cut) s fits = one_deeper s (group ∷ s) d _ refl (run-cut 1 m d ts cut (group ∷ s) (omega arith))

-- where the grammar wants an operand, so does the machine
pub run-wanted : (d : ℕ) (ts : List Symbol) → Wanted d ts → ReachedCut [] d (run (Some start) ts)
run-wanted d ts wants = run-cut 1 wants.hole d ts wants.cut [] (omega arith)

-- where the grammar has read `times`, so has the machine
pub record ReachedTimes (c : Option Config) : Type 0 where
  pub stack : List Entry
  pub at : ℕ
  pub is : c ≡ Some (config stack (times_read at))

pub run-after_times : (ts : List Symbol) → AfterTimes ts → ReachedTimes (run (Some start) ts)
run-after_times _ (AfterTimes.behind d at w ts wants is) =
    let r = run-wanted d ts wants in
    record {
      stack = r.stack;
      at = at;
      is =
          run-append (Some start) ts (word at w ∷ []) ∙ ap (λ (c : Option Config). run c (word at w ∷ [])) r.is
          ∙ ap (λ (k : WordClass). step_word r.stack at w k) is;
    }

-- where the grammar has read n arguments, so has the machine
pub record ReachedArgument (n : ℕ) (c : Option Config) : Type 0 where
  pub stack : List Entry
  pub at : ℕ
  pub name : List ℕ
  pub args : List Arg
  pub is : c ≡ Some (config stack (argument_read at name args))
  pub count : length args ≡ n

pub run-after_argument : (n : ℕ) (ts : List Symbol) → n ≤ 4 → AfterArgument n ts → ReachedArgument n (run (Some start) ts)
run-after_argument _ _ few (AfterArgument.after d at w ts us args wants is arguments) =
    let r = run-wanted d ts wants in
    record {
      stack = r.stack;
      at = at;
      name = w;
      args = args;
      is =
          run-append (Some start) ts (word at w ∷ opening ∷ us) ∙ ap (λ (c : Option Config). run c (word at w ∷ opening ∷ us)) r.is
          ∙ ap (λ (k : WordClass). run (step_some (step_word r.stack at w k) opening) us) is
          ∙ run-arguments r.stack at w [] us args arguments (omega arith);
      count = refl;
    }
