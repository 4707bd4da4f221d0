-- What is heard over a link, and the four calls that go by it.
use Rattle.std.specs.Prelude.{◌≡◌, ◌⊎◌, ℕ, None, Some, Result, Ok, Err}
use Rattle.ix_values.specs.PlainAction.{PlainAction}
use Rattle.ix_expr.specs.Form.{Form}
use Rattle.ix_outside.specs.Counts.{one_more, Rose}
use Rattle.ix_proto.specs.Requests as request
use Rattle.ix_proto.specs.Requests.{PlainRequest}
use Rattle.ix_manager.specs.Later.{Later}
use Rattle.ix_manager.specs.Machine.{MachineState}
use Rattle.ix_client.specs.Grant.{Grant}
use Rattle.ix_client.specs.Grants.{Heard, asked_by, cancelled_by, confirmed_by, settled_by}
use Rattle.ix_client.specs.Links.{Answers, IsExpected, IsLineOf, LinkState, NoFewer, TellsBy}
use Rattle.ix_client.specs.declared.grants.AskFault.{AskFault}
use Rattle.ix_client.specs.declared.grants.Cancel.{Cancel}
use Rattle.ix_client.specs.declared.grants.Confirm.{Confirm}
use Rattle.ix_client.specs.declared.grants.Settle.{Settle}

-- a failure is counted, and so is a line that isn't an expected reply
abbrev pub HasCause : PlainRequest → Heard → LinkState → LinkState → Type 0
HasCause asked (Err failed) old new = Rose old.faults new.faults
HasCause asked (Ok None) old new = Rose old.balks new.balks
HasCause asked (Ok (Some told)) old new = IsExpected asked told ⊎ Rose old.balks new.balks

-- a manager that is told answers with replies alone
abbrev pub ComesOf : PlainRequest → Heard → Form → ℕ → MachineState → MachineState → Type 0
ComesOf asked (Err failed) x limit s u = Later x s u
ComesOf asked (Ok None) x limit s u = ⊥
ComesOf asked (Ok (Some told)) x limit s u = Answers asked told x limit s u

-- one call, whose line is the request's, and what is heard of it
pub record Hears (asked : PlainRequest) (heard : Heard) (old new : LinkState) : Type 0 where
  pub once : new.calls ≡ one_more old.calls
  pub line : IsLineOf asked new.line
  pub counts : NoFewer old new
  pub cause : HasCause asked heard old new
  pub told : TellsBy (ComesOf asked heard) old.told new.told

-- one request, and what is made of what is heard of it
pub record GoesBy {R : Type 0} (asked : PlainRequest) (made : Heard → R) (result : R)
    (old new : LinkState) : Type 0 where
  pub heard : Heard
  pub hears : Hears asked heard old new
  pub is : result ≡ made heard

abbrev pub Asks : PlainAction → ℕ → Result Grant AskFault → LinkState → LinkState → Type 0
Asks a lease = GoesBy (request.ask a lease) (asked_by a)

abbrev pub Confirms : Grant → Confirm → LinkState → LinkState → Type 0
Confirms g = GoesBy (request.confirm g.ticket) (confirmed_by g)

abbrev pub Cancels : Grant → Cancel → LinkState → LinkState → Type 0
Cancels g = GoesBy (request.cancel g.ticket) (cancelled_by g)

abbrev pub SettlesBy : Grant → Settle → LinkState → LinkState → Type 0
SettlesBy g = GoesBy (request.outcome g.ticket) (settled_by g)
