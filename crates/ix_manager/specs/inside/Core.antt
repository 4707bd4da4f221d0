-- The machine as the contracts of its own crate see it.
use Rattle.std.specs.Prelude.{◌≡◌, ℕ, List, [], ◌∷◌, map, Bool}
use Rattle.ix_words.specs.Each.{Each}
use Rattle.ix_values.specs.PlainAction.{PlainAction}
use Rattle.ix_expr.specs.Form.{Form}
use Rattle.ix_watch.specs.inside.Watches.{PlainWatch, changes_of}
use Rattle.ix_proto.specs.Requests.{PlainRequest, IsRequest, confirm, poll, stop}
use Rattle.ix_proto.specs.inside.Lends.{LendsRequest}
use Rattle.ix_proto.specs.inside.ReplyTexts.{CanBeTold}
use Rattle.ix_proto.specs.declared.reply.Reply.{Reply}
use Rattle.ix_proto.specs.declared.reply.Reply.TheVariants as reply
use Rattle.ix_proto.specs.declared.request.Request.{Request}
use Rattle.ix_engine.specs.Allowed.{IsAllowed}
use Rattle.ix_manager.specs.Machine.{MachineState, MachineWatch, Step, Tells, Polls, word_of}
use Rattle.ix_manager.specs.declared.machine.Answer.{Answer}
use Rattle.ix_manager.specs.declared.machine.Answer.TheVariants as answer

-- the expression, the limit of Size, the state, and the watches with what was last noted to hold of
-- each
pub record Core : Type 0 where
  pub form : Form
  pub limit : ℕ
  pub state : MachineState
  pub noted : List PlainWatch

-- a watch without what was noted of it
abbrev pub core_watch : PlainWatch → MachineWatch
core_watch watch = record { name = watch.name; action = watch.action; told = watch.told }

-- of each watch of this name it is noted whether its action is allowed
abbrev pub IsRefreshed : Core → List ℕ → Type 0
IsRefreshed core name =
    Each (λ (watch : PlainWatch). watch.name ≡ name
    → Tells (IsAllowed core.form core.limit (word_of core.state) watch.action) watch.now)
    core.noted

-- the replies that tell changes
abbrev pub change_replies : List (PlainAction × Bool) → List Reply
change_replies changes =
    map (λ (change : PlainAction × Bool). reply.Change change.1 change.0) changes

-- The machine's answer to a request: one reply, with its step, and the run goes on; or a poll is to
-- be told, of which nothing is told yet; or a confirm is to be answered, by which nothing changed
-- yet; or the run ends, by which nothing changes.
abbrev pub MachineAnswers : Core → Request → Answer → Core → Type 0
MachineAnswers old request (answer.One one) new =
    ((plain : PlainRequest) → IsRequest plain → LendsRequest request plain
    → Step old.form old.limit old.state plain (one ∷ []) new.state)
    × (¬ LendsRequest request stop)
    × CanBeTold one
MachineAnswers old request (answer.Poll name) new =
    LendsRequest request (poll name) × (new.state ≡ old.state) × IsRefreshed new name
MachineAnswers old request (answer.Confirm ticket) new =
    LendsRequest request (confirm ticket) × (new ≡ old)
MachineAnswers old request answer.Stop new = LendsRequest request stop × (new ≡ old)

-- a poll of a name was told
pub record TellsPoll (old : Core) (name : List ℕ) (new : Core) : Type 0 where
  pub polls : Polls (IsAllowed old.form old.limit (word_of old.state)) name old.state.watches
      (change_replies (changes_of name old.noted)) new.state.watches
  pub rest : new.state ≡ record old.state { watches = new.state.watches }
  pub form : new.form ≡ old.form
  pub limit : new.limit ≡ old.limit
