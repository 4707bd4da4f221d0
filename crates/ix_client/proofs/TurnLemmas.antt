-- Turns counted up, and turns that are left.
use Rattle.std.proofs.Common.{◌≡◌, ℕ, ◌+◌, ◌-◌, ◌<◌, ◌≤◌, suc, add-one, sym, ◌∙◌, subst, arith}
use Rattle.ix_client.specs.Client.{TakesTurn, TakesTurns, another, ends, none_left}
use Rattle.ix_client.specs.Grant.{Grant}
use Rattle.ix_client.specs.Links.{LinkState}
use Rattle.ix_client.specs.declared.ended.Ended.{Ended}
use Rattle.ix_client.specs.declared.ended.Ended.TheVariants as ended
use Rattle.ix_client.specs.declared.turns.Turned.TheVariants as turned

-- one turn more is left
one_more : (k : ℕ) → k < 8 → suc (8 - (k + 1)) ≡ 8 - k
one_more k below = sym (add-one (8 - (k + 1))) ∙ omega arith

pub turn_over : (k : ℕ) (g : Grant) (how : Ended) (s u : LinkState) → k < 8 → TakesTurn g (turned.Over how) s u → TakesTurns (8 - k) g how s u
turn_over k g how s u below turn = subst (λ n. TakesTurns n g how s u) (one_more k below) (ends turn)

pub turn_again : (k : ℕ) (g back : Grant) (how : Ended) (s t u : LinkState) → k < 8 → TakesTurn g (turned.Unsure back) s t
    → TakesTurns (8 - (k + 1)) back how t u → TakesTurns (8 - k) g how s u
turn_again k g back how s t u below turn turns = subst (λ n. TakesTurns n g how s u) (one_more k below) (another turn turns)

pub no_turn : (k : ℕ) (g : Grant) (s : LinkState) → 8 ≤ k → TakesTurns (8 - k) g (ended.Unsure g.ticket) s s
no_turn k g s all = subst (λ n. TakesTurns n g (ended.Unsure g.ticket) s s) (let none : 0 ≡ 8 - k = omega arith in none) none_left
