-- The program over a link: what its words name, and how its calls end it.
use Rattle.std.specs.Prelude.{◌≡◌, ◌≢◌, ℕ, suc, List, [], ◌∷◌}
use Rattle.std.specs.Prelude.{Result, Ok, Err, decimal}
use Rattle.ix_values.specs.PlainAction.{PlainAction, text_of}
use Rattle.ix_values.specs.Texts.{IsAction}
use Rattle.ix_outside.specs.SinkState.{SinkState}
use Rattle.ix_proto.specs.Requests.{IsLease}
use Rattle.ix_client.specs.Endings.{PutsLine}
use Rattle.ix_client.specs.Grant.{Grant}
use Rattle.ix_client.specs.Hearing.{Asks, Confirms, SettlesBy}
use Rattle.ix_client.specs.Links.{LinkState}
use Rattle.ix_client.specs.declared.ended.Ended.{Ended}
use Rattle.ix_client.specs.declared.ended.Ended.TheVariants as ended
use Rattle.ix_client.specs.declared.grants.AskFault.{AskFault}
use Rattle.ix_client.specs.declared.grants.AskFault.TheVariants as fault
use Rattle.ix_client.specs.declared.grants.Confirm.{Confirm}
use Rattle.ix_client.specs.declared.grants.Confirm.TheVariants as confirm
use Rattle.ix_client.specs.declared.grants.Settle.TheVariants as settle
use Rattle.ix_client.specs.declared.turns.Turned.{Turned}
use Rattle.ix_client.specs.declared.turns.Turned.TheVariants as turned

-- the words are a socket, an action and a lease
pub record NamesAsk (words : List (List ℕ)) (a : PlainAction) (lease : ℕ) : Type 0 where
  pub socket : List ℕ
  pub words_are : words ≡ socket ∷ text_of a ∷ decimal lease ∷ []
  pub action : IsAction a
  pub short : IsLease lease

-- what a confirm comes to: it ends the run, or leaves the grant unsure
abbrev pub comes_to : Confirm → Turned
comes_to (confirm.Done number) = turned.Over (ended.Done number)
comes_to confirm.Expired = turned.Over ended.Never
comes_to (confirm.Unsure g) = turned.Unsure g

-- a turn: the grant is settled; and where its reservation is still open, it is confirmed again
pub data TakesTurn (g : Grant) (how : Turned) (s u : LinkState) : Type 0 where
  done : (number : ℕ) → SettlesBy g (settle.Done number) s u → how ≡ turned.Over (ended.Done number)
      → TakesTurn g how s u
  never : SettlesBy g settle.Never s u → how ≡ turned.Over ended.Never → TakesTurn g how s u
  left_out : SettlesBy g settle.LeftOut s u → how ≡ turned.Over (ended.LeftOut g.ticket)
      → TakesTurn g how s u
  again : (back : Grant) (confirmed : Confirm) (t : LinkState)
      → SettlesBy g (settle.Open back) s t → Confirms back confirmed t u → how ≡ comes_to confirmed
      → TakesTurn g how s u
  unsure : (back : Grant) → SettlesBy g (settle.Unsure back) s u → how ≡ turned.Unsure back
      → TakesTurn g how s u

-- at most so many turns with a grant that is unsure, and how they end
pub data TakesTurns : ℕ → Grant → Ended → LinkState → LinkState → Type 0 where
  none_left : {g : Grant} {s : LinkState} → TakesTurns 0 g (ended.Unsure g.ticket) s s
  ends : {n : ℕ} {g : Grant} {how : Ended} {s u : LinkState}
      → TakesTurn g (turned.Over how) s u → TakesTurns (suc n) g how s u
  another : {n : ℕ} {g back : Grant} {how : Ended} {s t u : LinkState}
      → TakesTurn g (turned.Unsure back) s t → TakesTurns n back how t u
      → TakesTurns (suc n) g how s u

-- what is left to do behind a confirm, where it left the grant unsure: at most 8 turns
abbrev pub GoesOnAfter : Turned → Ended → LinkState → LinkState → Type 0
GoesOnAfter (turned.Over over) how s u = (how ≡ over) × (u ≡ s)
GoesOnAfter (turned.Unsure g) how s u = TakesTurns 8 g how s u

-- how a run ends where its ask wasn't granted
abbrev pub ends_with : AskFault → Ended
ends_with (fault.Refused code) = ended.Refused code
ends_with fault.Memory = ended.NoMemory
ends_with fault.Odd = ended.OddReply
ends_with fault.Link = ended.NoLink

-- behind an ask: a grant is confirmed
abbrev pub GoesOnBehind : Result Grant AskFault → Ended → LinkState → LinkState → Type 0
GoesOnBehind (Ok g) how s u =
    (confirmed : Confirm) × (t : LinkState) × Confirms g confirmed s t
    × GoesOnAfter (comes_to confirmed) how t u
GoesOnBehind (Err why) how s u = (how ≡ ends_with why) × (u ≡ s)

-- the run of an ask
abbrev pub Serves : PlainAction → ℕ → Ended → LinkState → LinkState → Type 0
Serves a lease how s u =
    (asked : Result Grant AskFault) × (t : LinkState) × Asks a lease asked s t
    × GoesOnBehind asked how t u

-- a run: with no words and with words that name no ask nothing of the link is called
pub data Runs (words : List (List ℕ)) (how : Ended) (s u : LinkState) : Type 0 where
  usage : words ≡ [] → how ≡ ended.Usage → u ≡ s → Runs words how s u
  bad_words : words ≢ [] → ((a : PlainAction) (lease : ℕ) → ¬ NamesAsk words a lease)
      → how ≡ ended.BadWords → u ≡ s → Runs words how s u
  serves : (a : PlainAction) (lease : ℕ) → NamesAsk words a lease → Serves a lease how s u
      → Runs words how s u

-- the whole program
pub record ClientEnds (words : List (List ℕ)) (status : ℕ) (s u : LinkState)
    (before after : SinkState) : Type 0 where
  pub how : Ended
  pub runs : Runs words how s u
  pub puts : PutsLine how status before after
