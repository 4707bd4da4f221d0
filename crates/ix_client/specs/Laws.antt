-- What holds of grants: which of them stand, and what an answer says of all that comes later.
use Rattle.std.specs.Prelude.{◌≡◌, ◌≢◌, ◌⊎◌, ℕ, ◌+◌, ◌<◌, List, [], ◌∷◌, ◌++◌, length, Some}
use Rattle.std.specs.Prelude.{Result, Ok, Err}
use Rattle.ix_words.specs.Each.{Each}
use Rattle.ix_values.specs.PlainAction.{PlainAction}
use Rattle.ix_expr.specs.Form.{Form}
use Rattle.ix_journal.specs.History.{PlainHistory, Spent}
use Rattle.ix_outside.specs.Counts.{Rose}
use Rattle.ix_proto.specs.Requests as request
use Rattle.ix_proto.specs.Requests.{PlainRequest}
use Rattle.ix_proto.specs.declared.reply.Reply.{Reply}
use Rattle.ix_proto.specs.declared.reply.Reply.TheVariants as reply
use Rattle.ix_manager.specs.Granted.{IsGranted}
use Rattle.ix_manager.specs.Later.{Later}
use Rattle.ix_manager.specs.Machine.{IsAbsent, MachineState, Step, ahead_of}
use Rattle.ix_client.specs.Grant.{Grant}
use Rattle.ix_client.specs.Grants.{Heard, asked_by}
use Rattle.ix_client.specs.Hearing.{Asks, Cancels, Confirms, SettlesBy}
use Rattle.ix_client.specs.Links.{LinkState, Told}
use Rattle.ix_client.specs.Rising.{EitherRose}
use Rattle.ix_client.specs.Sound.{IsSound, all_pairs}
use Rattle.ix_client.specs.declared.grants.AskFault.{AskFault}
use Rattle.ix_client.specs.declared.grants.AskFault.TheVariants as fault
use Rattle.ix_client.specs.declared.grants.Cancel.TheVariants as cancel
use Rattle.ix_client.specs.declared.grants.Confirm.TheVariants as confirm
use Rattle.ix_client.specs.declared.grants.Settle.TheVariants as settle

-- where the pair has the grant's ticket, it has the grant's action
abbrev pub AgreesWith : Grant → Spent → Type 0
AgreesWith g spent = spent.0 ≡ Some g.ticket → spent.1 ≡ g.action

-- A grant stands in a state: its ticket was granted, and wherever the ticket is, in the history or
-- the reservation, it is with the grant's action.
pub record StandsGranted (g : Grant) (s : MachineState) : Type 0 where
  pub boot : 0 < g.ticket.boot
  pub number : 0 < g.ticket.seq
  pub granted : IsGranted s.boot s.number g.ticket
  pub agrees : Each (AgreesWith g) (all_pairs s)

-- over a link that tells its manager before a call and behind it
pub record IsToldOver (old new : LinkState) (before after : Told) : Type 0 where
  pub before_is : old.told ≡ Some before
  pub after_is : new.told ≡ Some after
  pub sound : IsSound before.machine

-- a sound state stays sound, and what stands goes on to stand, at a step of anyone, and whatever
-- comes later
abbrev pub SoundStatesLast : Type 0
SoundStatesLast =
    ((x : Form) (limit : ℕ) (s u : MachineState) (asked : PlainRequest) (replies : List Reply)
    → Step x limit s asked replies u → IsSound s → IsSound u)
    × ((x : Form) (s later : MachineState) → Later x s later → IsSound s → IsSound later)

abbrev pub StandingGrantsLast : Type 0
StandingGrantsLast =
    ((x : Form) (limit : ℕ) (s u : MachineState) (asked : PlainRequest) (replies : List Reply)
    (g : Grant) → Step x limit s asked replies u → StandsGranted g s → StandsGranted g u)
    × ((x : Form) (s later : MachineState) (g : Grant) → Later x s later → StandsGranted g s
    → StandsGranted g later)

-- a grant that an ask gives stands; and behind a confirm, a cancel or a settling a grant that stood
-- still does, so one that is handed back does: it is the same grant
abbrev pub GrantsStand : Type 0
GrantsStand =
    (old new : LinkState) (before after : Told) → IsToldOver old new before after
    → ((a : PlainAction) (lease : ℕ) (g : Grant) → Asks a lease (Ok g) old new
    → StandsGranted g after.machine)
    × ((g back : Grant) → StandsGranted g before.machine
    → Confirms g (confirm.Unsure back) old new ⊎ Cancels g (cancel.Unsure back) old new
    ⊎ SettlesBy g (settle.Unsure back) old new ⊎ SettlesBy g (settle.Open back) old new
    → (back ≡ g) × StandsGranted back after.machine)

-- the state's confirmed pair of this number, counted from 1
pub record IsPairOf (s : MachineState) (number : ℕ) (spent : Spent) : Type 0 where
  pub before : PlainHistory
  pub behind : PlainHistory
  pub split : s.history ≡ before ++ spent ∷ behind
  pub place : number ≡ ahead_of s.renewed + length before + 1

-- what was told to be done is in every later history, at its number
abbrev pub DoneIsPermanent : Type 0
DoneIsPermanent =
    (old new : LinkState) (before after : Told) (g : Grant) (number : ℕ) (later : MachineState)
    → IsToldOver old new before after → StandsGranted g before.machine
    → Confirms g (confirm.Done number) old new ⊎ SettlesBy g (settle.Done number) old new
    → Later after.form after.machine later
    → IsPairOf later number (Some g.ticket, g.action)

-- the answer tells that the grant's ticket is over
abbrev pub TellsNever : Grant → LinkState → LinkState → Type 0
TellsNever g old new =
    SettlesBy g settle.Never old new ⊎ Confirms g confirm.Expired old new
    ⊎ Cancels g cancel.Expired old new ⊎ Cancels g cancel.Done old new

-- a ticket that was told to be over is in no later history
abbrev pub NeverIsPermanent : Type 0
NeverIsPermanent =
    (old new : LinkState) (before after : Told) (g : Grant) (later : MachineState)
    → IsToldOver old new before after → TellsNever g old new
    → Later after.form after.machine later
    → IsAbsent g.ticket later.history

-- over every link, an answer that isn't the expected one comes only where a count rose
pub record OddAnswersHaveACause : Type 0 where
  pub unsure : (old new : LinkState) (g back : Grant)
      → Confirms g (confirm.Unsure back) old new ⊎ Cancels g (cancel.Unsure back) old new
      ⊎ SettlesBy g (settle.Unsure back) old new
      → EitherRose old new
  pub expired : (old new : LinkState) (g : Grant)
      → Confirms g confirm.Expired old new ⊎ Cancels g cancel.Expired old new
      → Rose old.balks new.balks
  pub asked : (old new : LinkState) (a : PlainAction) (lease : ℕ)
      → Asks a lease (Err fault.Memory) old new ⊎ Asks a lease (Err fault.Odd) old new
      → Rose old.balks new.balks
  pub no_link : (old new : LinkState) (a : PlainAction) (lease : ℕ)
      → Asks a lease (Err fault.Link) old new → Rose old.faults new.faults

-- what was heard is a refusal with one of the codes 30 and 91
abbrev pub IsHeardRefusal : Heard → Type 0
IsHeardRefusal heard = (code : ℕ) × (number : ℕ) × (heard ≡ Ok (Some (reply.Refused code number)))
    × ((code ≡ 30) ⊎ (code ≡ 91))

-- Over a link that tells its manager, of a grant that stands: settling is unsure only where a call
-- failed; a confirm and a cancel only there, and where the reply is 30 or 91; and an ask never gets
-- an odd line: its answer is that of its step, unless the call failed.
pub record UnsureHasACause : Type 0 where
  pub settled : (old new : LinkState) (before after : Told) (g back : Grant)
      → IsToldOver old new before after → StandsGranted g before.machine
      → SettlesBy g (settle.Unsure back) old new → Rose old.faults new.faults
  pub confirmed : (old new : LinkState) (before after : Told) (g back : Grant)
      → IsToldOver old new before after
      → (confirms : Confirms g (confirm.Unsure back) old new)
      → Rose old.faults new.faults ⊎ IsHeardRefusal confirms.heard
  pub cancelled : (old new : LinkState) (before after : Told) (g back : Grant)
      → IsToldOver old new before after
      → (cancels : Cancels g (cancel.Unsure back) old new)
      → Rose old.faults new.faults ⊎ IsHeardRefusal cancels.heard
  pub asked : (old new : LinkState) (before after : Told) (a : PlainAction) (lease : ℕ)
      (result : Result Grant AskFault)
      → IsToldOver old new before after → Asks a lease result old new → result ≢ Err fault.Link
      → (result ≢ Err fault.Odd)
      × ((between : MachineState) × (first : Reply) × Later before.form before.machine between
      × Step before.form before.limit between (request.ask a lease) (first ∷ []) after.machine
      × (result ≡ asked_by a (Ok (Some first))))
