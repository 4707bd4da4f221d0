-- Candidates whose places are being filled.
use Rattle.std.specs.Prelude.{◌≡◌, ℕ, ◌+◌, ◌≤◌, List, [], ◌∷◌, ◌++◌, map as each, fold, length}
use Rattle.std.specs.Prelude.{Option, Some, None, if◌then◌else◌}
use Rattle.std.specs.List.{flat_map}
use Rattle.indexmap.specs.IndexSet.{insert_key}
use Rattle.ix_values.specs.Order.{text_eq}
use Rattle.ix_expr.specs.declared.arg.Arg.{Arg}
use Rattle.ix_expr.specs.Form.{PlainAtom}
use Rattle.ix_next.specs.declared.filling.Filling.{Filling}
use Rattle.ix_next.specs.declared.fill.Scope.{Scope}
use Rattle.ix_next.specs.declared.fill.Tray.{Tray}
use Rattle.ix_next.specs.declared.term.Term.{Term}
use Rattle.ix_next.specs.declared.term.Term.TheVariants.{Known}
use Rattle.ix_next.specs.declared.trial.Test.{Test}
use Rattle.ix_next.specs.Given.{given_for}
use Rattle.ix_next.specs.Candidates.{PlainCandidate, candidate_of, candidate_eq, fillings}
use Rattle.ix_next.specs.Candidates.{new_behind, once}
use Rattle.ix_next.specs.inside.Trials.{passes_filter}

-- no place is filled
abbrev pub begun_filling : List ℕ → Filling
begun_filling name = record { candidate = candidate_of name []; chosen = []; news = 0 }

-- the candidate with a term more
abbrev pub with_term : PlainCandidate → Term → PlainCandidate
with_term c t = candidate_of c.name (c.terms ++ t ∷ [])

-- a fixed value in the next place
abbrev pub with_fixed : Filling → List ℕ → Filling
with_fixed f v = record {
  candidate = with_term f.candidate (Known v);
  chosen = f.chosen;
  news = f.news;
}

-- the parameter's term in the next place
abbrev pub with_param : Filling → List ℕ → Option Term → Term → Filling
with_param f p own t = record {
  candidate = with_term f.candidate t;
  chosen = (p, t) ∷ f.chosen;
  news = new_behind own f.news t;
}

abbrev pub with_own : Filling → List ℕ → Term → Filling
with_own f p t = with_param f p (Some t) t

abbrev pub with_first : Filling → List ℕ → Term → Filling
with_first f p t = with_param f p None t

-- the candidate with these terms behind its own
abbrev pub with_terms : PlainCandidate → List Term → PlainCandidate
with_terms c ts = candidate_of c.name (c.terms ++ ts)

-- the values that a parameter gets
abbrev pub pool : Scope → List ℕ → List (List ℕ)
pool s p = once text_eq (given_for p s.given.now ++ s.fixed.now)

-- the candidates that come of a filling by filling the places of these arguments too
abbrev pub filled : Scope → List Arg → Filling → List PlainCandidate
filled s arguments f = each (with_terms f.candidate)
    (fillings s.new (pool s) arguments f.chosen f.news)

-- the same with each of these terms in the place before them
abbrev pub filled_with : Scope → List Arg → Filling → List ℕ → List Term → List PlainCandidate
filled_with s arguments f p terms = flat_map (λ t. filled s arguments (with_first f p t)) terms

-- what is found with the candidate too, if it is kept
abbrev pub keep : Test → List PlainCandidate → PlainCandidate → List PlainCandidate
keep test found c = if passes_filter test c then insert_key candidate_eq found c else found

-- the tray has taken these candidates
pub record Took (s : Scope) (old new : Tray) (candidates : List PlainCandidate) : Type 0 where
  pub found : new.found.keys ≡ fold (keep s.test) old.found.keys candidates
  pub seen : new.seen ≡ old.seen + length candidates
  pub within : new.seen ≤ s.limit

-- the candidates of these atoms
abbrev pub filled_atoms : Scope → List PlainAtom → List PlainCandidate
filled_atoms s atoms = flat_map (λ a. filled s a.arguments (begun_filling a.name)) atoms
