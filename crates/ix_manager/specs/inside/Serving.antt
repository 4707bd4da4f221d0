-- A run over a site since a tick, with what a crash at any moment since may have left.
use Rattle.std.specs.Prelude.{◌≡◌, ℕ, ◌≤◌, Bool, List, length, Some, IsSome}
use Rattle.ix_journal.specs.History.{PlainHistory}
use Rattle.ix_journal.specs.declared.entries.Renewed.{Renewed}
use Rattle.ix_expr.specs.Form.{Form}
use Rattle.ix_outside.specs.Contents.{GivenEvent, SentBytes, Sends}
use Rattle.ix_outside.specs.Crashes.{Crashes, Left}
use Rattle.ix_outside.specs.SiteState.{SiteState}
use Rattle.ix_proto.specs.declared.reply.Reply.{Reply}
use Rattle.ix_manager.specs.Acknowledged.{KeepsAcknowledged}
use Rattle.ix_manager.specs.Wire.{Wire}

-- since the tick nothing was sent behind these sends, where they are told
abbrev pub SentNothingSince : ℕ → List SentBytes → SiteState → Crashes → Type 0
SentNothingSince t before site is = (sends : Sends) → site.contents.sends ≡ Some sends
    → (sends.sent ≡ before) × ((left : Left) → is.left_since t left → left.sent ≡ before)

-- each image that a crash since the tick may have left, where the site tells its disk, keeps what
-- was acknowledged by then of these replies
abbrev pub KeepsSince : ℕ → Form → ℕ → PlainHistory → Renewed → List Reply → Sends → SiteState
    → Crashes → Type 0
KeepsSince t x least history renewed replies before site is =
    IsSome site.disk → (left : Left) → is.left_since t left
    → KeepsAcknowledged x least history renewed replies before.sent left

-- The events so far of a run over a site, since a tick up to which these sends were made: where the
-- site tells its sends, they are the wire of the run, and what was acknowledged is kept.
pub record ServesSince (t : ℕ) (x : Form) (least : ℕ) (history : PlainHistory) (renewed : Renewed)
    (before : Sends)
    (events : List GivenEvent) (answers : List (List (List Reply))) (marks : List Bool)
    (site : SiteState) (is : Crashes) : Type 0 where
  pub began : t ≤ site.tick
  pub long : least ≤ length history
  pub wired : (sends : Sends) → site.contents.sends ≡ Some sends
      → (replies : List Reply)
      × Wire before events answers marks (record { sends = sends; replies = replies })
      × KeepsSince t x least history renewed replies before site is
