-- What is drawn behind so many draws.
use Rattle.std.proofs.Common.{◌≡◌, ◌∙◌, ℕ, zero, suc, List, ap, refl, sym}
use Rattle.rand_pcg.specs.Lcg.{Lcg, advance, next, next_state, state_after}
use Rattle.rand_pcg.specs.Pcg.{multiplier_64, pcg32}
use Rattle.ix_generate.specs.Workload.{Ask, PlainWorkload, begun_workload, behind_draw, call, drawn, perform}
use Rattle.ix_generate.specs.Workload.{with_granted}
use Rattle.ix_generate.specs.History.{RunsWorkload, ask_behind, generator_behind, number_behind}
use Rattle.ix_generate.proofs.OpenCalls.{drawn_behind}

-- one step behind so many
state_step : (w m increment count state : ℕ)
    → state_after w m increment (suc count) state
    ≡ next_state w m increment (state_after w m increment count state)
unfolding state_after
state_step w m increment zero state = refl
state_step w m increment (suc count) state =
    state_step w m increment count (next_state w m increment state)

advance_step : (w m count : ℕ) (g : Lcg)
    → advance w m (suc count) g ≡ next w m (advance w m count g)
advance_step w m count g =
    ap (λ s. record g { state = s }) (state_step w m g.increment count g.state)

-- before the first draw
pub begun_generator : (seed : ℕ) → (begun_workload seed).generator ≡ generator_behind seed 0
unfolding state_after
begun_generator seed = refl

-- behind one more
pub drawn_generator : (seed count : ℕ) (workload : PlainWorkload)
    → workload.generator ≡ generator_behind seed count
    → (behind_draw workload).generator ≡ generator_behind seed (suc count)
drawn_generator seed count workload is =
    ap (next 64 multiplier_64) is
    ∙ sym (advance_step 64 multiplier_64 count (begun_workload seed).generator)

-- a granted ask leaves the generator
pub granted_generator : (workload : PlainWorkload) (ask : Ask)
    → (with_granted workload ask).generator ≡ workload.generator
granted_generator workload (call patient examination) = refl
granted_generator workload (perform patient examination) = refl

-- what is drawn goes by the granted asks and by how many draws there were
pub drawn_then : (seed count : ℕ) (history : List Ask) (workload : PlainWorkload)
    → RunsWorkload seed history workload → workload.generator ≡ generator_behind seed count
    → drawn workload ≡ ask_behind history (number_behind seed count)
drawn_then seed count history workload run is =
    drawn_behind seed history workload run ∙ ap (λ g. ask_behind history (pcg32 g).0) is
