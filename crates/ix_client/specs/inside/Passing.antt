-- What passing a request on makes of a manager and its site.
use Rattle.std.specs.Prelude.{◌≡◌, ℕ, ◌<◌, ◌≤◌, ◌-◌, ◌++◌, [], ◌∷◌, true, List, length}
use Rattle.std.specs.Prelude.{Option, None, Some, slice_get}
use Rattle.ix_journal.specs.declared.entries.Renewed.{Renewed}
use Rattle.ix_values.specs.declared.tickets.Ticket.{Ticket}
use Rattle.ix_expr.specs.Form.{Form}
use Rattle.ix_journal.specs.History.{PlainHistory}
use Rattle.ix_memory.specs.inside.MemorySiteState.{MemorySiteState}
use Rattle.ix_outside.specs.Contents.{SentBytes, Sends}
use Rattle.ix_proto.specs.Requests as request
use Rattle.ix_proto.specs.Requests.{PlainRequest}
use Rattle.ix_manager.specs.Handled.{ManagerState}
use Rattle.ix_manager.specs.Images.{IsStartable}
use Rattle.ix_manager.specs.Later.{Later}
use Rattle.ix_manager.specs.Machine.{MachineState, start_of}
use Rattle.ix_manager.specs.Refusals.{disk}
use Rattle.ix_manager.specs.Runs.{opening_of}
use Rattle.ix_client.specs.Links.{Answers, IsLineWith}
use Rattle.ix_lines.specs.Cutting.{HasNoEnd}
use Rattle.ix_client.specs.inside.ManagerLinks.{IsManagerOf, IsRunEnded, ManagerLinkState}
use Rattle.ix_client.specs.declared.manager_link.Passed.{Passed}
use Rattle.ix_client.specs.declared.manager_link.Passed.TheVariants.{Answered, Ended, Lost}

-- there are more pairs than so many, and the last one is the line with its byte 10
pub record EndsInLine (sent : ℕ) (sends : Sends) (line : List ℕ) : Type 0 where
  pub more : sent < length sends.sent
  pub pair : SentBytes
  pub last : slice_get sends.sent (length sends.sent - 1) ≡ Some pair
  pub bytes : pair.bytes ≡ line ++ 10 ∷ []

-- whatever starts from the image comes later than the state
abbrev pub StartsAgain : Form → MachineState → List ℕ → Type 0
StartsAgain x s image = (limit : ℕ) (history : PlainHistory) (renewed : Renewed) (boot : ℕ)
    → IsStartable (opening_of x limit history renewed boot) image
    → Later x s (start_of history renewed boot)

-- A manager answered a request and goes on over its site. Where the site still tells its contents,
-- the line is that of its reply.
pub record AnswersOver (asked : PlainRequest) (line : List ℕ) (old new : ManagerState)
    (after : MemorySiteState) : Type 0 where
  pub form : new.form ≡ old.form
  pub limit : new.limit ≡ old.limit
  pub over : IsRunEnded new after
  pub later : after.told ≡ true → Later old.form old.machine new.machine
  pub reply : after.told ≡ true → IsLineWith
      (λ told. Answers asked told old.form old.limit old.machine new.machine) line

-- the line tells of a confirm that the disk failed
abbrev pub TellsDisk : PlainRequest → List ℕ → Type 0
TellsDisk asked = IsLineWith
    (λ told. (ticket : Ticket) × (asked ≡ request.confirm ticket) × (told ≡ disk))

-- what is kept of a manager to which a request was passed on: itself where it answered, and else
-- nothing; what starts from the file comes later than its state before, where the site tells that
abbrev pub KeepsAsked : PlainRequest → Passed → Option ManagerState → List ℕ → ManagerState
    → MemorySiteState → Type 0
KeepsAsked asked Answered (Some new) line old after = AnswersOver asked line old new after
KeepsAsked asked Answered None line old after = ⊥
KeepsAsked asked Ended kept line old after = (kept ≡ None)
    × (after.told ≡ true → TellsDisk asked line)
    × (after.told ≡ true → StartsAgain old.form old.machine after.image)
KeepsAsked asked Lost kept line old after =
    (kept ≡ None) × (after.told ≡ true → StartsAgain old.form old.machine after.image)

-- a manager that was started from the text over the site, where its contents are told
pub record StartedFrom (text : List ℕ) (limit : ℕ) (m : ManagerState)
    (before after : MemorySiteState) : Type 0 where
  pub manages : IsManagerOf text limit m after
  pub startable : before.told ≡ true
      → IsStartable (opening_of m.form m.limit m.machine.history m.machine.renewed m.machine.boot)
      before.image
  pub machine : m.machine ≡ start_of m.machine.history m.machine.renewed m.machine.boot

-- the bytes, and a byte 10 at their end alone, which a manager takes as one line
pub record IsShortLine (bytes all : List ℕ) : Type 0 where
  pub is : all ≡ bytes ++ 10 ∷ []
  pub plain : HasNoEnd bytes
  pub short : length bytes ≤ 512

-- a request was passed on to the link's manager
pub record ExchangesOver (asked : PlainRequest) (passed : Passed) (line : List ℕ)
    (m : ManagerState) (old new : ManagerLinkState) : Type 0 where
  pub manages : IsManagerOf old.text old.limit m old.site
  pub told : new.site.told ≡ true → old.site.told ≡ true
  pub keeps : KeepsAsked asked passed new.manager line m new.site
