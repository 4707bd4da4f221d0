-- The generated workload: which ask is drawn, and what is kept of those that were granted.
use Rattle.std.specs.Prelude.{ℕ, ◌<◌, ◌/◌, ◌%◌, List, [], ◌∷◌, ◌++◌, Option, Some, None, codes}
use Rattle.std.specs.Prelude.{decimal, replicate, slice_set}
use Rattle.std.specs.List.{slice_index_or}
use Rattle.ix_values.specs.PlainAction.{PlainAction}
use Rattle.rand_pcg.specs.Lcg.{Lcg, increment_of, started}
use Rattle.rand_pcg.specs.Pcg.{multiplier_64, pcg32}

-- the text of the expression that asks are made for
unfoldable pub examinations : List ℕ
examinations = codes "all $p *(any $x (call($p,$x) - perform($p,$x))) @ "
    ++ codes "all $x *(any $p (call($p,$x) - perform($p,$x)))"

-- an ask: a patient is called to an examination, or it is performed
pub data Ask : Type 0 where
  call : (patient examination : ℕ) → Ask
  perform : (patient examination : ℕ) → Ask

-- there are 40 patients and 10 examinations
abbrev pub IsAsk : Ask → Type 0
IsAsk (call patient examination) = (patient < 40) × (examination < 10)
IsAsk (perform patient examination) = (patient < 40) × (examination < 10)

-- the action of this name on patient `pI` and examination `xJ`
abbrev pub action_on : List ℕ → ℕ → ℕ → PlainAction
action_on name patient examination = record {
  name = name;
  values = (codes "p" ++ decimal patient) ∷ (codes "x" ++ decimal examination) ∷ [];
}

-- `call(pI,xJ)` or `perform(pI,xJ)`
abbrev pub asked_action : Ask → PlainAction
asked_action (call patient examination) = action_on (codes "call") patient examination
asked_action (perform patient examination) = action_on (codes "perform") patient examination

-- a workload: its generator, and for each patient the examination of its open call, or none
pub record PlainWorkload : Type 0 where
  pub generator : Lcg
  pub calls : List (Option ℕ)

-- the workload of a seed: the generator's stream is 1, and no call is open
abbrev pub begun_workload : ℕ → PlainWorkload
begun_workload seed = record {
  generator = started 64 multiplier_64 seed (increment_of 64 1);
  calls = replicate 40 None;
}

-- the open call of a patient
abbrev pub open_call : PlainWorkload → ℕ → Option ℕ
open_call workload patient = slice_index_or workload.calls patient None

-- what is asked for a patient: its open call is performed, and where there is none it is called
abbrev pub ask_for : Option ℕ → ℕ → ℕ → Ask
ask_for None patient examination = call patient examination
ask_for (Some called) patient examination = perform patient called

-- the ask that a number of 32 bits stands for
abbrev pub ask_by : PlainWorkload → ℕ → Ask
ask_by workload number =
    ask_for (open_call workload (number % 40)) (number % 40) (number / 40 % 10)

-- the ask that is drawn next, and the workload behind that draw
abbrev pub drawn : PlainWorkload → Ask
drawn workload = ask_by workload (pcg32 workload.generator).0

abbrev pub behind_draw : PlainWorkload → PlainWorkload
behind_draw workload = record workload { generator = (pcg32 workload.generator).1 }

-- the workload with an ask granted: a call is then open, and one that was performed isn't
abbrev pub with_granted : PlainWorkload → Ask → PlainWorkload
with_granted workload (call patient examination) =
    record workload { calls = slice_set workload.calls patient (Some examination) }
with_granted workload (perform patient examination) =
    record workload { calls = slice_set workload.calls patient None }
