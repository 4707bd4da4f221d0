-- Which candidates are kept.
use Rattle.std.specs.Prelude.{ℕ, ◌-◌, Bool, true, false, List, [], ◌∷◌, get_or}
use Rattle.ix_can.specs.Laws.{IsProper}
use Rattle.ix_can.specs.May.{may}
use Rattle.ix_next.specs.Candidates.{PlainCandidate, action_with}
use Rattle.ix_next.specs.declared.trial.Trial.{Trial}
use Rattle.ix_next.specs.declared.trial.Test.{Test}
use Rattle.ix_next.specs.declared.trial.Test.TheVariants.{Nothing, Everything, MayCome}

-- the value of a number, where these are the values of the numbers from 1
abbrev pub new_of : List (List ℕ) → ℕ → List ℕ
new_of values n = get_or values (n - 1) (48 ∷ [])

-- whether the action of the candidate, with these new values, may come
abbrev pub may_come_next : Trial → PlainCandidate → Bool
may_come_next trial c =
    may trial.expression.now [] trial.tree.now (action_with (new_of trial.new.now) c)

-- whether the candidate is kept
abbrev pub passes_filter : Test → PlainCandidate → Bool
passes_filter Nothing c = false
passes_filter Everything c = true
passes_filter (MayCome trial) c = may_come_next trial c

-- the tree can be asked
abbrev pub CanAskTrial : Trial → Type 0
CanAskTrial trial = IsProper trial.expression.now trial.tree.now

abbrev pub CanTry : Test → Type 0
CanTry Nothing = Unit {0}
CanTry Everything = Unit {0}
CanTry (MayCome trial) = CanAskTrial trial
