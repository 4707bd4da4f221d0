-- What is found of the candidates of an expression.
use Rattle.std.proofs.Common.{◌≡◌, true, false, List, [], ◌∷◌, ◌++◌, map, flat_map, filter, fold, refl, ap, ◌∙◌}
use Rattle.ix_values.specs.Order.{text_eq}
use Rattle.ix_values.specs.PlainAction.{PlainAction}
use Rattle.ix_expr.specs.Form.{PlainAtom, Form}
use Rattle.ix_next.specs.declared.fill.Scope.{Scope}
use Rattle.ix_next.specs.Given.{PlainGiven}
use Rattle.ix_next.specs.declared.trial.Test.TheVariants.{Everything}
use Rattle.ix_expr.specs.Atoms.{atoms_of}
use Rattle.ix_next.specs.Fixed.{fixed_in}
use Rattle.ix_next.specs.Given.{given_for}
use Rattle.ix_next.specs.Candidates.{PlainCandidate, candidate_of, candidate_eq, action_with, candidates, fillings, once}
use Rattle.ix_next.specs.Menu.{moves}
use Rattle.ix_next.specs.inside.Fillings.{filled_atoms, keep}
use Rattle.ix_next.specs.inside.Trials.{passes_filter, new_of}
use Rattle.ix_next.proofs.Kept.{kept_is}

-- the candidates of the atoms are those of the expression
pub atoms_candidates : (s : Scope) (x : Form) (given : List PlainGiven) (atoms : List PlainAtom) → atoms ≡ atoms_of x → s.fixed.now ≡ fixed_in x → s.given.now ≡ given
    → filled_atoms s atoms ≡ candidates s.new x given
atoms_candidates s x given atoms same fixed gave = λ i.
    flat_map (λ a. map (candidate_of a.name) (fillings s.new (λ p. once text_eq (given_for p (gave i) ++ fixed i)) a.arguments [] 0)) (same i)

pub all_found : (s : Scope) (x : Form) (given : List PlainGiven) (atoms : List PlainAtom) → atoms ≡ atoms_of x → s.fixed.now ≡ fixed_in x → s.given.now ≡ given
    → fold (keep s.test) [] (filled_atoms s atoms) ≡ filter (passes_filter s.test) (once candidate_eq (candidates s.new x given))
all_found s x given atoms same fixed gave = kept_is (passes_filter s.test) (filled_atoms s atoms) ∙ ap (λ w. filter (passes_filter s.test) (once candidate_eq w)) (atoms_candidates s x given atoms same fixed gave)

filter_all : {A : Type 0} (w : List A) → filter (λ a. true) w ≡ w
filter_all [] = refl
filter_all (a ∷ w) = ap (λ u. a ∷ u) (filter_all w)

-- the moves
pub moves_are : (s : Scope) (x : Form) (given : List PlainGiven) (atoms : List PlainAtom) (keys : List PlainCandidate) (actions : List PlainAction) → s.test ≡ Everything → s.new ≡ false
    → atoms ≡ atoms_of x → s.fixed.now ≡ fixed_in x → s.given.now ≡ given
    → keys ≡ fold (keep s.test) [] (filled_atoms s atoms) → actions ≡ map (action_with (new_of [])) keys → actions ≡ moves x given
moves_are s x given atoms keys actions test old same fixed gave found made =
    made ∙ ap (map (action_with (new_of []))) (found ∙ all_found s x given atoms same fixed gave
    ∙ (λ i. filter (passes_filter (test i)) (once candidate_eq (candidates (old i) x given)))
    ∙ filter_all (once candidate_eq (candidates false x given)))
