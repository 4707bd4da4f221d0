-- How many calls a run makes.
use Rattle.std.proofs.Common.{◌≡◌, ℕ, ◌+◌, ◌*◌, List, Result, Ok, Err, sym, subst, arith}
use Rattle.ix_values.specs.PlainAction.{PlainAction}
use Rattle.ix_proto.specs.Requests.{PlainRequest}
use Rattle.ix_client.specs.Client.{GoesOnBehind, GoesOnAfter, Runs, Serves, TakesTurn, TakesTurns, again, another, bad_words, comes_to, done, ends, left_out, never, none_left, serves, unsure, usage}
use Rattle.ix_client.specs.Grant.{Grant}
use Rattle.ix_client.specs.Grants.{Heard}
use Rattle.ix_client.specs.Hearing.{Hears}
use Rattle.ix_client.specs.Links.{LinkState}
use Rattle.ix_client.specs.Rising.{CallsAtMost}
use Rattle.ix_client.specs.declared.ended.Ended.{Ended}
use Rattle.ix_client.specs.declared.grants.AskFault.{AskFault}
use Rattle.ix_client.specs.declared.turns.Turned.{Turned}
use Rattle.ix_client.specs.declared.turns.Turned.TheVariants as turned

one_call : (asked : PlainRequest) (heard : Heard) (s u : LinkState) → Hears asked heard s u → CallsAtMost 1 s u
one_call asked heard s u hears = let once = hears.once in omega (arith, once)

no_call : (n : ℕ) (s u : LinkState) → u ≡ s → CallsAtMost n s u
no_call n s u is = subst (CallsAtMost n s) (sym is) (omega arith)

both_calls : (m n : ℕ) (s t u : LinkState) → CallsAtMost m s t → CallsAtMost n t u → CallsAtMost (m + n) s u
both_calls m n s t u first second = omega (arith, first, second)

turn_calls : (g : Grant) (how : Turned) (s u : LinkState) → TakesTurn g how s u → CallsAtMost 2 s u
turn_calls g how s u (done number settles is) = let one = one_call _ settles.heard s u settles.hears in omega (arith, one)
turn_calls g how s u (never settles is) = let one = one_call _ settles.heard s u settles.hears in omega (arith, one)
turn_calls g how s u (left_out settles is) = let one = one_call _ settles.heard s u settles.hears in omega (arith, one)
turn_calls g how s u (again back confirmed t settles confirms is) =
    both_calls 1 1 s t u (one_call _ settles.heard s t settles.hears) (one_call _ confirms.heard t u confirms.hears)
turn_calls g how s u (unsure back settles is) = let one = one_call _ settles.heard s u settles.hears in omega (arith, one)

turns_calls : {n : ℕ} {g : Grant} {how : Ended} {s u : LinkState} → TakesTurns n g how s u → CallsAtMost (2 * n) s u
turns_calls {s = s} none_left = omega arith
turns_calls {g = g} {how = how} {s = s} {u = u} (ends {n = n} turn) =
    let two = turn_calls g (turned.Over how) s u turn in omega (arith, two)
turns_calls {g = g} {s = s} {u = u} (another {n = n} {back = back} {t = t} turn turns) =
    let two = turn_calls g (turned.Unsure back) s t turn in
    let rest = turns_calls turns in
    omega (arith, two, rest)

from_calls : (first : Turned) (how : Ended) (s u : LinkState) → GoesOnAfter first how s u → CallsAtMost 16 s u
from_calls (turned.Over over) how s u goes = no_call 16 s u goes.1
from_calls (turned.Unsure g) how s u turns = turns_calls turns

behind_calls : (asked : Result Grant AskFault) (how : Ended) (s u : LinkState) → GoesOnBehind asked how s u → CallsAtMost 17 s u
behind_calls (Ok g) how s u (confirmed, t, confirms, goes) =
    both_calls 1 16 s t u (one_call _ confirms.heard s t confirms.hears) (from_calls (comes_to confirmed) how t u goes)
behind_calls (Err why) how s u (is, same) = no_call 17 s u same

serves_calls : (a : PlainAction) (lease : ℕ) (how : Ended) (s u : LinkState) → Serves a lease how s u → CallsAtMost 18 s u
serves_calls a lease how s u (asked, t, asks, goes) =
    both_calls 1 17 s t u (one_call _ asks.heard s t asks.hears) (behind_calls asked how t u goes)

pub runs_calls : (words : List (List ℕ)) (how : Ended) (s u : LinkState) → Runs words how s u → CallsAtMost 18 s u
runs_calls words how s u (usage none is same) = no_call 18 s u same
runs_calls words how s u (bad_words some none is same) = no_call 18 s u same
runs_calls words how s u (serves a lease names run) = serves_calls a lease how s u run
