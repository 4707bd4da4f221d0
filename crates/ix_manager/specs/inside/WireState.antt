-- A connection while replies are sent on it, and what an item's replies make of it.
use Rattle.std.specs.Prelude.{◌≡◌, ℕ, ◌+◌, ◌≤◌, Bool, true, false, List, ◌∷◌, length}
use Rattle.ix_values.specs.PlainAction.{PlainAction}
use Rattle.ix_lines.specs.Items.{Item, line}
use Rattle.ix_lines.specs.Words.{words_of}
use Rattle.ix_outside.specs.Contents.{SendsWhole, SendsPart}
use Rattle.ix_outside.specs.Counts.{Rose}
use Rattle.ix_outside.specs.Crashes.{Crashes, Stretch}
use Rattle.ix_outside.specs.SiteState.{SiteState}
use Rattle.ix_outside.specs.inside.DiskCalls.{span}
use Rattle.ix_proto.specs.declared.reply.Reply.{Reply}
use Rattle.ix_proto.specs.declared.reply.Reply.TheVariants as reply
use Rattle.ix_proto.specs.Requests.{PlainRequest, IsRequest, request_words}
use Rattle.ix_proto.specs.inside.Lends.{LendsRequest}
use Rattle.ix_proto.specs.declared.request.Request.{Request}
use Rattle.ix_manager.specs.Runs.{Ending, ItemStep, Steps}
use Rattle.ix_manager.specs.Wire.{SendsInOrder, reply_line, all_replies}
use Rattle.ix_manager.specs.inside.OverSite.{OnlyServes}
use Rattle.ix_manager.specs.inside.Core.{Core, change_replies}

-- whether the connection is marked as gone, and the site
pub record WireState : Type 0 where
  pub gone : Bool
  pub site : SiteState

-- the same, part by part
abbrev pub wired : Bool → SiteState → WireState
wired gone site = record { gone = gone; site = site }

-- A stretch of calls of a site, with whether a connection is marked as gone before and after them,
-- and what a crash may leave then.
pub record WireStretch : Type 1 where
  pub before : WireState
  pub after : WireState
  pub was : Crashes
  pub is : Crashes

-- the stretch from one wire to another
abbrev pub wire_span : WireState → WireState → Crashes → Crashes → WireStretch
wire_span before after was is = record { before = before; after = after; was = was; is = is }

-- the stretch over which a mark was this, and is that
abbrev pub wire_stretch : Bool → Bool → Stretch → WireStretch
wire_stretch gone is_gone stretch =
    wire_span (wired gone stretch.before) (wired is_gone stretch.after) stretch.was stretch.is

-- the same without the marks
abbrev pub site_stretch : WireStretch → Stretch
site_stretch wires = span wires.before.site wires.after.site wires.was wires.is

-- replies are sent in order on a connection; it is newly marked only where the count of sends rose
pub record SendsAll (conn : ℕ) (replies : List Reply) (old new : WireState) : Type 0 where
  pub order : SendsInOrder (λ reply. SendsWhole conn (reply_line reply)) (λ reply.
      SendsPart conn (reply_line reply))
      replies old.gone old.site.contents new.gone new.site.contents
  pub marks : old.gone ≡ false → new.gone ≡ true → Rose old.site.counts.send new.site.counts.send
  pub site : OnlyServes old.site new.site

-- the replies that tell a poll's changes, behind their number
abbrev pub poll_replies : List (PlainAction × Bool) → List Reply
poll_replies changes = reply.Changes (length (change_replies changes)) ∷ change_replies changes

-- the request lends a request's texts
abbrev pub IsPlain : Request → Type 0
IsPlain request = (plain : PlainRequest) × IsRequest plain × LendsRequest request plain

-- each line of a request whose texts are lent makes its step, and the replies are sent
pub record AnswersRequest (conn : ℕ) (request : Request) (ending : Ending) (replies : List Reply)
    (old new : Core) (before after : WireState) : Type 0 where
  pub step : (plain : PlainRequest) → IsRequest plain → LendsRequest request plain
      → (bytes : List ℕ) → words_of bytes ≡ request_words plain
      → ItemStep old.form old.limit old.state (line bytes) replies new.state ending
  pub sends : SendsAll conn replies before after
  pub form : new.form ≡ old.form
  pub limit : new.limit ≡ old.limit
  pub number : new.state.number ≤ old.state.number + 1

-- an item is answered by the machine, and the replies are sent
pub record AnswersItem (conn : ℕ) (item : Item) (ending : Ending) (replies : List Reply)
    (old new : Core) (before after : WireState) : Type 0 where
  pub step : ItemStep old.form old.limit old.state item replies new.state ending
  pub sends : SendsAll conn replies before after
  pub form : new.form ≡ old.form
  pub limit : new.limit ≡ old.limit
  pub number : new.state.number ≤ old.state.number + 1

-- items are answered in order, and the replies are sent
pub record AnswersItems (conn : ℕ) (items : List Item) (ending : Ending) (replies : List Reply)
    (old new : Core) (before after : WireState) : Type 0 where
  pub answers : List (List Reply)
  pub all : replies ≡ all_replies answers
  pub steps : Steps old.form old.limit old.state items answers new.state ending
  pub sends : SendsAll conn replies before after
  pub form : new.form ≡ old.form
  pub limit : new.limit ≡ old.limit
