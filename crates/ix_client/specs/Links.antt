-- What a proof knows of a link, and what a call makes of it.
use Rattle.std.specs.Prelude.{◌≡◌, ◌⊎◌, ℕ, ◌≤◌, List, [], ◌∷◌, ◌++◌, Option, None, Some}
use Rattle.std.specs.Prelude.{Result, Ok, Err, ⊤}
use Rattle.ix_values.specs.declared.tickets.Ticket.{Ticket}
use Rattle.ix_expr.specs.Form.{Form}
use Rattle.ix_lines.specs.Words.{words_of}
use Rattle.ix_outside.specs.Counts.{one_more, Rose}
use Rattle.ix_proto.specs.Replies.{IsReply, reply_text}
use Rattle.ix_proto.specs.Requests as request
use Rattle.ix_proto.specs.Requests.{PlainRequest, IsRequest, request_words}
use Rattle.ix_proto.specs.declared.reply.Reply.{Reply}
use Rattle.ix_proto.specs.declared.reply.Reply.TheVariants as reply
use Rattle.ix_manager.specs.Later.{Later}
use Rattle.ix_manager.specs.Machine.{MachineState, Step}
use Rattle.ix_manager.specs.Refusals.{disk}
use Rattle.ix_client.specs.declared.link.LinkFailed.{LinkFailed}

-- the manager behind a link: its expression, its limit of Size, and the state of its machine
pub record Told : Type 0 where
  pub form : Form
  pub limit : ℕ
  pub machine : MachineState

-- how many calls were made, how many of them failed, how many gave a line that wasn't expected,
-- each up to 2 ^ 64 - 1; the line of the last call, with no bytes before the first; and the
-- manager, where the link tells it
pub record LinkState : Type 0 where
  pub calls : ℕ
  pub line : List ℕ
  pub faults : ℕ
  pub balks : ℕ
  pub told : Option Told

-- no count fell
pub record NoFewer (old new : LinkState) : Type 0 where
  pub faults : old.faults ≤ new.faults
  pub balks : old.balks ≤ new.balks

-- one more call was made, with this line
pub record MakesCall (sent : List ℕ) (old new : LinkState) : Type 0 where
  pub calls : new.calls ≡ one_more old.calls
  pub line : new.line ≡ sent

-- a manager of the same expression and limit, whose state came so of the other's
pub record GoesOn (Comes : Form → ℕ → MachineState → MachineState → Type 0) (old new : Told)
    : Type 0 where
  pub form : new.form ≡ old.form
  pub limit : new.limit ≡ old.limit
  pub machine : Comes old.form old.limit old.machine new.machine

-- where the manager is told, its state came so of the one before; a link may cease to tell, and
-- never begins to
abbrev pub TellsBy : (Form → ℕ → MachineState → MachineState → Type 0) → Option Told → Option Told
    → Type 0
TellsBy Comes None new = new ≡ None
TellsBy Comes (Some old) None = ⊤
TellsBy Comes (Some old) (Some new) = GoesOn Comes old new

-- an ask, a confirm, a cancel or an outcome
abbrev pub IsOfTickets : PlainRequest → Type 0
IsOfTickets (request.ask a lease) = ⊤
IsOfTickets (request.confirm ticket) = ⊤
IsOfTickets (request.cancel ticket) = ⊤
IsOfTickets (request.outcome ticket) = ⊤
IsOfTickets _ = ⊥

-- the line of such a request, with the byte 10 that ends it
pub record IsLineOf (asked : PlainRequest) (line : List ℕ) : Type 0 where
  pub kind : IsOfTickets asked
  pub valid : IsRequest asked
  pub bytes : List ℕ
  pub words : words_of bytes ≡ request_words asked
  pub ended : line ≡ bytes ++ 10 ∷ []

-- the line of some such request
abbrev pub IsCall : List ℕ → Type 0
IsCall line = (asked : PlainRequest) × IsLineOf asked line

-- the replies that are expected: to an ask a ticket or a refusal from 20 to 23, to a confirm the
-- number of its action, to a cancel its own ticket, to an outcome what became of the ticket, or
-- that this is left out
abbrev pub IsExpected : PlainRequest → Reply → Type 0
IsExpected (request.ask a lease) (reply.Granted ticket) = ⊤
IsExpected (request.ask a lease) (reply.Refused code number) = (20 ≤ code) × (code ≤ 23)
IsExpected (request.confirm ticket) (reply.Confirmed count) = ⊤
IsExpected (request.cancel ticket) (reply.Cancelled told) = told ≡ ticket
IsExpected (request.outcome ticket) (reply.Outcome became) = ⊤
IsExpected (request.outcome ticket) (reply.Refused code number) = code ≡ 32
IsExpected _ _ = ⊥

-- The first reply to a request, and the state behind it: it comes of the request's step, in front
-- of which any time passed, others were answered and the manager was started again; or a confirm is
-- answered that the disk failed, and its step was taken or not.
pub data Answers (asked : PlainRequest) (first : Reply) (x : Form) (limit : ℕ) (s u : MachineState)
    : Type 0 where
  stepped : {between : MachineState} {others : List Reply}
      → Later x s between → Step x limit between asked (first ∷ others) u
      → Answers asked first x limit s u
  failed : {ticket : Ticket}
      → asked ≡ request.confirm ticket → first ≡ disk → Later x s u
      → Answers asked first x limit s u

-- the line is the text of a reply, of which this holds
pub record IsLineWith (P : Reply → Type 0) (line : List ℕ) : Type 0 where
  pub told : Reply
  pub valid : IsReply told
  pub text : reply_text told ≡ line
  pub holds : P told

-- a line came: it is an expected reply, or it is counted; and where the manager is told, it is its
-- reply
pub record GivesLine (asked : PlainRequest) (line : List ℕ) (old new : LinkState) : Type 0 where
  pub expected : IsLineWith (IsExpected asked) line ⊎ Rose old.balks new.balks
  pub told : TellsBy (λ x limit s u. IsLineWith (λ told. Answers asked told x limit s u) line)
      old.told new.told

-- no line came, which is counted: the request was taken or not
pub record Fails (old new : LinkState) : Type 0 where
  pub counted : Rose old.faults new.faults
  pub told : TellsBy (λ x limit. Later x) old.told new.told

-- a call with a request
abbrev pub Calls : {T : Type 0} → PlainRequest → Result T LinkFailed → List ℕ → LinkState
    → LinkState → Type 0
Calls asked (Ok done) line old new = GivesLine asked line old new
Calls asked (Err fault) line old new = Fails old new
