-- What is drawn behind a history of granted asks.
use Rattle.std.specs.Prelude.{◌==◌, ◌/◌, ◌%◌, ◌++◌, ℕ, Bool, List, [], ◌∷◌, Option, Some, None}
use Rattle.std.specs.Prelude.{find}
use Rattle.std.specs.Prelude.{option_and_then, reverse}
use Rattle.rand_pcg.specs.Lcg.{Lcg, advance}
use Rattle.rand_pcg.specs.Pcg.{multiplier_64, pcg32}
use Rattle.ix_generate.specs.Workload.{Ask, PlainWorkload, ask_for, begun_workload, behind_draw}
use Rattle.ix_generate.specs.Workload.{call, drawn}
use Rattle.ix_generate.specs.Workload.{perform, with_granted}

-- the ask is one for this patient
abbrev pub is_for : ℕ → Ask → Bool
is_for patient (call asked examination) = asked == patient
is_for patient (perform asked examination) = asked == patient

-- the examination of a call
abbrev pub called_to : Ask → Option ℕ
called_to (call patient examination) = Some examination
called_to (perform patient examination) = None

-- the examination of a patient's last granted ask, where that is a call
abbrev pub last_call : List Ask → ℕ → Option ℕ
last_call history patient = option_and_then called_to (find (is_for patient) (reverse history))

-- the ask that a number of 32 bits stands for behind a history
abbrev pub ask_behind : List Ask → ℕ → Ask
ask_behind history number =
    ask_for (last_call history (number % 40)) (number % 40) (number / 40 % 10)

-- the generator of a seed behind so many draws, and the number that it gives then
abbrev pub generator_behind : ℕ → ℕ → Lcg
generator_behind seed count = advance 64 multiplier_64 count (begun_workload seed).generator

abbrev pub number_behind : ℕ → ℕ → ℕ
number_behind seed count = (pcg32 (generator_behind seed count)).0

-- Asks were drawn from the workload of a seed, each of them refused or granted: those granted are
-- this history, and this is the workload then.
pub data RunsWorkload (seed : ℕ) : List Ask → PlainWorkload → Type 0 where
  begins : RunsWorkload seed [] (begun_workload seed)
  refused : {history : List Ask} {workload : PlainWorkload} → RunsWorkload seed history workload
      → RunsWorkload seed history (behind_draw workload)
  granted : {history : List Ask} {workload : PlainWorkload} → RunsWorkload seed history workload
      → RunsWorkload seed (history ++ drawn workload ∷ [])
      (with_granted (behind_draw workload) (drawn workload))
