-- The laws of the workload, as statements over the definitions alone.
use Rattle.std.specs.Prelude.{◌≡◌, ℕ, List}
use Rattle.rand_pcg.specs.Pcg.{pcg32}
use Rattle.ix_generate.specs.Workload.{Ask, IsAsk, PlainWorkload, asked_action, drawn}
use Rattle.ix_generate.specs.History.{RunsWorkload, ask_behind}

-- what is drawn goes by the history: a patient whose last granted ask is a call is asked for its
-- performance, and any other is called
abbrev pub DrawsGoByTheHistory : Type 0
DrawsGoByTheHistory = (seed : ℕ) (history : List Ask) (workload : PlainWorkload)
    → RunsWorkload seed history workload
    → drawn workload ≡ ask_behind history (pcg32 workload.generator).0

-- two asks with one action are the same
abbrev pub ActionsTellAsksApart : Type 0
ActionsTellAsksApart = (ask other : Ask) → IsAsk ask → IsAsk other
    → asked_action ask ≡ asked_action other → ask ≡ other
