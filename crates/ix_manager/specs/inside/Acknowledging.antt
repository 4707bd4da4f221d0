-- What calls on a site send by each moment, and what each image that a crash may leave since they
-- began keeps beside that.
use Rattle.std.specs.Prelude.{◌≡◌, ℕ, ◌≤◌, List, ◌++◌, length, Some, IsSome}
use Rattle.ix_journal.specs.History.{PlainHistory}
use Rattle.ix_journal.specs.declared.entries.Renewed.{Renewed}
use Rattle.ix_expr.specs.Form.{Form}
use Rattle.ix_outside.specs.Contents.{SentBytes, Sends}
use Rattle.ix_outside.specs.Crashes.{Left, Stretch}
use Rattle.ix_proto.specs.declared.reply.Reply.{Reply}
use Rattle.ix_manager.specs.Acknowledged.{KeepsAcknowledged}

-- what had been sent at a moment of calls: what had been sent before them and maybe more, but no
-- more sends than behind them
pub record IsSentBetween (before after sent : List SentBytes) : Type 0 where
  pub more : List SentBytes
  pub behind : sent ≡ before ++ more
  pub no_longer : length sent ≤ length after

-- Over calls: sends that are told behind them were told before. At each moment since they began
-- that a crash may have come at what had been sent stands between, and so does all behind them.
pub record SendsMore (stretch : Stretch) : Type 0 where
  pub told : IsSome stretch.after.contents.sends → IsSome stretch.before.contents.sends
  pub all : (sends sends' : Sends)
      → stretch.before.contents.sends ≡ Some sends → stretch.after.contents.sends ≡ Some sends'
      → IsSentBetween sends.sent sends'.sent sends'.sent
  pub by_then : (sends sends' : Sends)
      → stretch.before.contents.sends ≡ Some sends → stretch.after.contents.sends ≡ Some sends'
      → (left : Left) → stretch.is.left_since stretch.before.tick left
      → IsSentBetween sends.sent sends'.sent left.sent

-- Over calls that sent these replies, in order: where the site still tells its disk and its sends,
-- each image that a crash since they began may have left keeps what was acknowledged by then.
abbrev pub Acknowledges : Form → ℕ → PlainHistory → Renewed → List Reply → Stretch → Type 0
Acknowledges x least history renewed replies stretch =
    IsSome stretch.after.disk → (sends sends' : Sends)
    → stretch.before.contents.sends ≡ Some sends → stretch.after.contents.sends ≡ Some sends'
    → (left : Left) → stretch.is.left_since stretch.before.tick left
    → KeepsAcknowledged x least history renewed replies sends.sent left
