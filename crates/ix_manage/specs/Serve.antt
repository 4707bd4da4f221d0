-- What `serve` puts, and what it makes of its connections.
use Rattle.std.specs.Prelude.{◌≡◌, ◌⊎◌, ℕ, ◌<◌, List, [], ◌∷◌, ◌++◌, length, Bool, codes}
use Rattle.std.specs.Prelude.{Option, None, Some}
use Rattle.ix_journal.specs.Recovery.{HoldsBoots}
use Rattle.ix_outside.specs.Contents.{with_heard, GivenEvent, Sends}
use Rattle.ix_outside.specs.Counts.{Counts, Rose}
use Rattle.ix_outside.specs.Crashes.{Crashes, Left}
use Rattle.ix_outside.specs.Disk.{Disk, Opened}
use Rattle.ix_outside.specs.SiteState.{SiteState}
use Rattle.ix_proto.specs.declared.reply.Reply.{Reply}
use Rattle.ix_manager.specs.Acknowledged.{KeepsAcknowledged}
use Rattle.ix_manager.specs.Images.{with_failed}
use Rattle.ix_manager.specs.Wire.{Wire}
use Rattle.ix_cli.specs.Words.{Job}
use Rattle.ix_manage.specs.ActionLines.{line}
use Rattle.ix_manage.specs.Command.{socket_of}
use Rattle.ix_manage.specs.Puts.{LastLine}
use Rattle.ix_manage.specs.Session.{MayGoOn, Session, SessionEnds, history_line}

-- how a session of `serve` ends: behind the line of the history, or where no further event came
-- since the wire failed
pub data ServeEnds (turns : ℕ) (before after : Counts) (session : Session)
    : ℕ → List ℕ → List ℕ → Type 0 where
  ends : {status : ℕ} {whole part : List ℕ}
      → SessionEnds turns before after (history_line session.opening) session
      status whole part
      → ServeEnds turns before after session status whole part
  wire_failed : {status : ℕ} {whole part : List ℕ}
      → length session.taken < turns → MayGoOn session → Rose before.wire after.wire
      → LastLine 6 (history_line session.opening)
      (line (codes "refused wire")) status whole part
      → ServeEnds turns before after session status whole part

-- What a session sent since, on no other socket than this: its replies are the wire of its run, one
-- send each, and which of them the sends carry. Each image that a crash since the journal was
-- attached may have left, beside what had been sent by then, keeps the confirmed actions, the first
-- ones and no others: all that it held at first, and each that was acknowledged by then. If more
-- had been sent by then than before, it holds the session's boot.
pub record SendsReplies (socket : List ℕ) (session : Session) (old new : Sends) (disk : Option Disk)
    (is : Crashes) : Type 0 where
  pub marks : List Bool
  pub replies : List Reply
  pub wire : Wire (with_heard socket old) session.taken session.answers marks
      (record { sends = new; replies = replies })
  pub keeps : (now : Disk) (opened : Opened) → disk ≡ Some now → now.opened ≡ Some opened
      → (left : Left) → is.left_since opened.tick left
      → KeepsAcknowledged session.opening.form (length session.opening.history)
      (with_failed session.ending session.last.history) session.opening.renewed replies old.sent
      left
  pub boots : (now : Disk) (opened : Opened) → disk ≡ Some now → now.opened ≡ Some opened
      → (left : Left) → is.left_since opened.tick left
      → (left.sent ≡ old.sent) ⊎ HoldsBoots left.image session.opening.renewed session.opening.boot

-- A session's events are those that the site gave since, and its replies are what it sent since,
-- each where the site tells it. Where the count of sends didn't rise, no send answered Gone.
pub record ServesWire (socket : List ℕ) (session : Session) (before after : SiteState)
    (is : Crashes)
    : Type 0 where
  pub given : (old new : List GivenEvent) → before.contents.given ≡ Some old
      → after.contents.given ≡ Some new → new ≡ old ++ session.taken
  pub sends : (old new : Sends) → before.contents.sends ≡ Some old → after.contents.sends ≡ Some new
      → SendsReplies socket session old new after.disk is
  pub whole : ¬ Rose before.counts.send after.counts.send → (old new : Sends)
      → before.contents.sends ≡ Some old → after.contents.sends ≡ Some new → new.gone ≡ old.gone

-- where no session came to be, no event was given, nothing was sent and nothing was listened to
abbrev pub UsesWire : List ℕ → Option Session → SiteState → SiteState → Crashes → Type 0
UsesWire socket None before after is = after.contents ≡ before.contents
UsesWire socket (Some session) before after is = ServesWire socket session before after is

-- what a job makes of the connections of its socket, where it has one
abbrev pub OnWire : Job → SiteState → SiteState → Crashes → Option Session → Type 0
OnWire job before after is session = (socket : List ℕ) → socket_of job ≡ Some socket
    → UsesWire socket session before after is
