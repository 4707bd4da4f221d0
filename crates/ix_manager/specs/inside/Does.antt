-- What a call that answers one request makes of the machine.
use Rattle.std.specs.Prelude.{◌≡◌, ◌⊎◌, ℕ, ◌+◌, ◌<◌, Bool, false, List, [], ◌∷◌, length, Result, Ok}
use Rattle.std.specs.Prelude.{Err}
use Rattle.ix_words.specs.Each.{Each}
use Rattle.ix_engine.specs.inside.Engine.{EngineState, Allows}
use Rattle.ix_values.specs.PlainAction.{PlainAction}
use Rattle.ix_watch.specs.inside.Watches.{PlainWatch, is_watched, AreDistinct}
use Rattle.ix_watch.specs.inside.Added.{Adds}
use Rattle.ix_watch.specs.declared.Added.{Added}
use Rattle.ix_watch.specs.declared.WatchFault.{WatchFault}
use Rattle.ix_watch.specs.declared.WatchFault.TheVariants.{Full, Memory}
use Rattle.ix_proto.specs.Requests.{PlainRequest, poll}
use Rattle.ix_proto.specs.inside.ReplyTexts.{CanBeTold}
use Rattle.ix_proto.specs.declared.reply.Reply.{Reply}
use Rattle.ix_lease.specs.declared.Slot.TheVariants.{Free, Held}
use Rattle.ix_manager.specs.Machine.{MachineState, Step, Tells, next_ticket}
use Rattle.ix_manager.specs.inside.Core.{Core, IsRefreshed}
use Rattle.ix_manager.specs.declared.machine.Answer.{Answer}
use Rattle.ix_manager.specs.declared.machine.Answer.TheVariants as answer

-- What the carried actions stand for stays, and the boot. The slot and the next number stay, or the
-- slot is free now, or it is held by the next ticket, and the number rose by one.
pub record MayReserve (old new : MachineState) : Type 0 where
  pub renewed : new.renewed ≡ old.renewed
  pub boot : new.boot ≡ old.boot
  pub slot : ((new.slot ≡ old.slot) × (new.number ≡ old.number))
      ⊎ ((new.slot ≡ Free) × (new.number ≡ old.number))
      ⊎ ((a : PlainAction) × (deadline : ℕ) × (new.slot ≡ Held (next_ticket old) a deadline)
      × (new.number ≡ old.number + 1))

-- the request's step, with one reply; the expression and the limit stay
pub record Does (old : Core) (request : PlainRequest) (one : Reply) (new : Core) : Type 0 where
  pub step : Step old.form old.limit old.state request (one ∷ []) new.state
  pub told : CanBeTold one
  pub form : new.form ≡ old.form
  pub limit : new.limit ≡ old.limit

-- nothing changes but what is noted, and this is whether the actions of the name's watches are
-- allowed
pub record Refreshes (old : Core) (name : List ℕ) (new : Core) : Type 0 where
  pub state : new.state ≡ old.state
  pub refreshed : IsRefreshed new name
  pub form : new.form ≡ old.form
  pub limit : new.limit ≡ old.limit

-- a poll of the name is to be told, or its step was one reply
abbrev pub PollAnswers : Core → List ℕ → Answer → Core → Type 0
PollAnswers old name (answer.One one) new = Does old (poll name) one new
PollAnswers old name (answer.Poll told) new = (told ≡ name) × Refreshes old name new
PollAnswers old name (answer.Confirm ticket) new = ⊥
PollAnswers old name answer.Stop new = ⊥

-- of each watch of this name it is noted whether its action is permitted
abbrev pub IsNoted : EngineState → List ℕ → List PlainWatch → Type 0
IsNoted engine name watches =
    Each (λ (watch : PlainWatch). watch.name ≡ name
    → Tells (Allows engine watch.action) watch.now) watches

-- a pair was added to distinct watches, of which whether its action is permitted is told
pub record AddsTold (engine : EngineState) (name : List ℕ) (a : PlainAction) (old : List PlainWatch)
    (told : Bool) (new : List PlainWatch) : Type 0 where
  pub tells : Tells (Allows engine a) told
  pub distinct : AreDistinct old
  pub added : Added
  pub adds : Adds old name a told (Ok added) new

-- what watching a pair answers, and what the watches are then
abbrev pub WatchAnswers : EngineState → List ℕ → PlainAction → List PlainWatch
    → Result Bool WatchFault → List PlainWatch → Type 0
WatchAnswers engine name a old (Ok told) new = AddsTold engine name a old told new
WatchAnswers engine name a old (Err Full) new =
    (is_watched name a old ≡ false) × (length old ≡ 4096) × (new ≡ old)
WatchAnswers engine name a old (Err Memory) new =
    (is_watched name a old ≡ false → length old < 4096) × (new ≡ old)
