-- The states that come later, also over renewals, and what stays true in them.
use Rattle.std.specs.Prelude.{◌≡◌, ◌⊎◌, ℕ, ◌+◌, ◌≤◌, List, [], ◌∷◌, None, length, map}
use Rattle.ix_values.specs.PlainAction.{PlainAction, Word}
use Rattle.ix_values.specs.declared.tickets.Ticket.{Ticket}
use Rattle.ix_journal.specs.Format.{renewed_journal}
use Rattle.ix_journal.specs.History.{PlainHistory, actions_of}
use Rattle.ix_journal.specs.Recovery.{HoldsBoots, Recovers}
use Rattle.ix_journal.specs.declared.entries.Renewed.{Renewed}
use Rattle.ix_expr.specs.CanonicalText.{canonical_text}
use Rattle.ix_expr.specs.Form.{Form}
use Rattle.ix_proto.specs.Requests as request
use Rattle.ix_proto.specs.Requests.{PlainRequest}
use Rattle.ix_proto.specs.declared.reply.Outcome.TheVariants as became
use Rattle.ix_proto.specs.declared.reply.Reply.{Reply}
use Rattle.ix_proto.specs.declared.reply.Reply.TheVariants as reply
use Rattle.ix_manager.specs.Images.{IsStartable}
use Rattle.ix_manager.specs.Later.{Later, MayKeep}
use Rattle.ix_manager.specs.LaterLaws.{TellsOver}
use Rattle.ix_manager.specs.Machine.{IsAbsent, MachineState, Step, count, count_of, start_of}
use Rattle.ix_manager.specs.Refusals as refused
use Rattle.ix_manager.specs.Runs.{Opening, opening_of}
use Rattle.ix_renew.specs.Carried.{IsCarriedFor}
use Rattle.ix_renew.specs.Renewal.{IsRenewal}

-- the carried actions as a history: they have no tickets
abbrev pub without_tickets : Word → PlainHistory
without_tickets carried = map (λ a. (None, a)) carried

-- what the carried actions stand for where the journal of this state, which keeps this history, is
-- renewed: every action that was confirmed, and every boot
abbrev pub renewed_as : MachineState → PlainHistory → Word → Renewed
renewed_as s kept carried =
    record { carried = length carried; actions = count_of s.renewed kept; boots = s.boot }

-- the start from the renewed journal, in the next boot
abbrev pub start_renewed : MachineState → PlainHistory → Word → MachineState
start_renewed s kept carried =
    start_of (without_tickets carried) (renewed_as s kept carried) (s.boot + 1)

-- A state, and one that comes later, also over renewals: it comes later without one; or the journal
-- that an end or a crash left of a state between them is renewed, under whatever limit, and the
-- next boot starts from the new one.
pub data LaterRenewed (x : Form) : MachineState → MachineState → Type 0 where
  goes_on : {s later : MachineState} → Later x s later → LaterRenewed x s later
  renews : {s between later : MachineState} {kept : PlainHistory} {carried : Word} {limit : ℕ}
      → Later x s between → MayKeep between kept
      → IsCarriedFor x limit (actions_of kept) carried
      → LaterRenewed x (start_renewed between kept carried) later → LaterRenewed x s later

-- once a reply told that a ticket is over, no later state has it in its history, also over renewals
abbrev pub OverTicketsStayOverRenewals : Type 0
OverTicketsStayOverRenewals =
    (opening : Opening) (image : List ℕ) (s after later : MachineState) (limit : ℕ)
    (asked : PlainRequest) (replies : List Reply) (ticket : Ticket)
    → IsStartable opening image
    → Later opening.form (start_of opening.history opening.renewed opening.boot) s
    → Step opening.form limit s asked replies after → TellsOver asked replies ticket
    → LaterRenewed opening.form after later → IsAbsent ticket later.history

-- once the action of a number was told, whatever is answered to its number in a later state, also
-- over renewals, is this action, or that it is left out
abbrev pub ToldNumbersStay : Type 0
ToldNumbersStay =
    (x : Form) (limit other : ℕ) (s after later last : MachineState) (number : ℕ)
    (a : PlainAction) (replies : List Reply)
    → Step x limit s (request.log number) (reply.Entry number a ∷ []) after
    → LaterRenewed x after later → Step x other later (request.log number) replies last
    → (replies ≡ reply.Entry number a ∷ []) ⊎ (replies ≡ refused.entry_left_out ∷ [])

-- the count doesn't fall
abbrev pub CountsDontFall : Type 0
CountsDontFall =
    (x : Form) (s later : MachineState) → LaterRenewed x s later → count s ≤ count later

-- a renewal leaves the count as it was
abbrev pub RenewalsKeepTheCount : Type 0
RenewalsKeepTheCount =
    (x : Form) (limit : ℕ) (s : MachineState) (kept : PlainHistory) (carried : Word)
    → IsCarriedFor x limit (actions_of kept) carried
    → count (start_renewed s kept carried) ≡ count_of s.renewed kept

-- so counts go on over renewals
abbrev pub CountsGoOn : Type 0
CountsGoOn = CountsDontFall × RenewalsKeepTheCount

-- the reply tells that the ticket was confirmed: its confirm is answered, or its outcome is so
abbrev pub TellsConfirmed : PlainRequest → List Reply → Ticket → Type 0
TellsConfirmed (request.confirm asked) (reply.Confirmed number ∷ []) ticket = asked ≡ ticket
TellsConfirmed (request.outcome asked) (reply.Outcome (became.Confirmed number) ∷ []) ticket =
    asked ≡ ticket
TellsConfirmed _ _ ticket = ⊥

-- once a reply told that a ticket was confirmed, no reply in a later state tells that it is over,
-- also over renewals
abbrev pub ConfirmedTicketsStayConfirmed : Type 0
ConfirmedTicketsStayConfirmed =
    (opening : Opening) (image : List ℕ) (s after later last : MachineState) (limit other : ℕ)
    (asked again : PlainRequest) (replies answers : List Reply) (ticket : Ticket)
    → IsStartable opening image
    → Later opening.form (start_of opening.history opening.renewed opening.boot) s
    → Step opening.form limit s asked replies after → TellsConfirmed asked replies ticket
    → LaterRenewed opening.form after later → Step opening.form other later again answers last
    → TellsOver again answers ticket → ⊥

-- A renewed journal of the one that an end or a crash left of a state can be started from, in the
-- next boot, and whatever starts from it comes later than that state.
abbrev pub RenewedStartsComeLater : Type 0
RenewedStartsComeLater =
    (x : Form) (limit : ℕ) (file : List ℕ) (s : MachineState) (kept : PlainHistory)
    (carried : Word) (actions boots : ℕ)
    → MayKeep s kept → Recovers file kept → HoldsBoots file s.renewed s.boot
    → IsRenewal x limit file carried actions boots
    → let image = renewed_journal (canonical_text x) carried actions boots in
    let renewed = renewed_as s kept carried in
    IsStartable (opening_of x limit (without_tickets carried) renewed (s.boot + 1)) image
    × ((opening : Opening) → IsStartable opening image
    → LaterRenewed x s (start_of opening.history opening.renewed opening.boot))

-- A renewal of a renewed journal from which nothing started is one of the journal before it.
abbrev pub RenewedTwice : Type 0
RenewedTwice =
    (x : Form) (limit : ℕ) (file : List ℕ) (carried again : Word)
    (actions boots actions' boots' : ℕ)
    → IsRenewal x limit file carried actions boots
    → IsRenewal x limit (renewed_journal (canonical_text x) carried actions boots) again actions'
    boots'
    → IsRenewal x limit file again actions' boots'

-- so runs go on from the journals that renewals make
abbrev pub RenewedJournalsGoOn : Type 0
RenewedJournalsGoOn = RenewedStartsComeLater × RenewedTwice
