-- Laws of two runs on one journal, a crash between them.
use Rattle.std.specs.Prelude.{◌≡◌, ℕ, List, Some}
use Rattle.ix_values.specs.declared.tickets.Ticket.{Ticket}
use Rattle.ix_journal.specs.Recovery.{HoldsBoots}
use Rattle.ix_outside.specs.Crashes.{Crashes}
use Rattle.ix_outside.specs.Disk.{Disk, Opened}
use Rattle.ix_outside.specs.SinkState.{SinkState}
use Rattle.ix_manager.specs.Answered.{HasGranted}
use Rattle.ix_manager.specs.Images.{with_failed}
use Rattle.ix_manager.specs.Machine.{IsAbsent}
use Rattle.ix_manager.specs.ToldLaws.{HasToldOver}
use Rattle.ix_manage.specs.Around.{Around}
use Rattle.ix_manage.specs.Ends.{Ended, EndsOver}
use Rattle.ix_manage.specs.Session.{Session}

-- a run had this session and opened this file, over a site that told its disk before and behind it
pub record HadSession (session : Session) (opened : Opened) (is : Crashes) : Type 0 where
  pub words : List (List ℕ)
  pub around : Around
  pub status : ℕ
  pub old : SinkState
  pub new : SinkState
  pub ended : Ended (EndsOver words around is) status old new
  pub session_is : ended.session ≡ Some session
  pub before : Disk
  pub told : around.before.disk ≡ Some before
  pub after : Disk
  pub still_told : around.after.disk ≡ Some after
  pub opened_is : after.opened ≡ Some opened

-- an image that a crash left of a session: behind its run, or at a moment since its boot was kept
pub data IsLeftOf (session : Session) (opened : Opened) (is : Crashes) (image : List ℕ)
    : Type 0 where
  behind : is.now image → IsLeftOf session opened is image
  meanwhile : is.left opened.tick image
      → HoldsBoots image session.opening.renewed session.opening.boot
      → IsLeftOf session opened is image

-- the second of two sessions began with what a crash left of the first
pub record RunsAgain {S : Type 0} (crashes : S → Crashes) (first second : Session) : Type 0 where
  pub site : S
  pub later : S
  pub opened : Opened
  pub again : Opened
  pub had : HadSession first opened (crashes site)
  pub left : IsLeftOf first opened (crashes site) again.file
  pub has : HadSession second again (crashes later)

-- of two runs, the second from what a crash left of the first, no ticket is granted in both
abbrev pub TicketsAreGrantedOnce : {S : Type 0} → (S → Crashes) → Type 0
TicketsAreGrantedOnce crashes = (first second : Session) (ticket : Ticket)
    → RunsAgain crashes first second
    → HasGranted ticket first.answers → HasGranted ticket second.answers → ⊥

-- and a ticket of which the first told that it is over isn't in the second's history, nor in what a
-- confirm that failed in it may leave
abbrev pub OverTicketsStayOut : {S : Type 0} → (S → Crashes) → Type 0
OverTicketsStayOut crashes = (first second : Session) (ticket : Ticket)
    → RunsAgain crashes first second → HasToldOver ticket first.taken first.answers
    → IsAbsent ticket (with_failed second.ending second.last.history)
