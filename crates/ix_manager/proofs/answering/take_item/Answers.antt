use Rattle.std.proofs.Common.{rules, ◌≡◌, take, refl, subst, ◌∙◌, ap}
use Rattle.std.proofs.Math.Seq.{take-length}
use Rattle.ix_lines.specs.Feeding.{Feeds, holds_after}
use Rattle.ix_lines.specs.Items.{too_long}
use Rattle.ix_lines.specs.declared.FedKind.{FedKind}
use Rattle.ix_lines.specs.inside.FeedAnswers.{told_item}
use Rattle.ix_store.specs.inside.KeptBy.{kept}
use Rattle.ix_manager.specs.inside.WireState.{wired}
use Rattle.ix_manager.proofs.OverLemmas.{long_over}
use Rattle.ix_manager.proofs.SavingLemmas.{saves_none}
use Rattle.ix_manager.proofs.answering.take_item.Goals as goal

-- a line is too long
pub returns-in-TooLong : goal.returns-in-TooLong
returns-in-TooLong g c =
    let a = c.args.site.now in
    let b = c.send_reply.new.site in
    record {
      item = too_long;
      feeds = subst (λ (kind : FedKind). Feeds c.args.lines.now c.args.piece.bytes.now (told_item kind) c.feed-fed.result.used)
          c.in-TooLong.is c.feed-fed.ensures.tells;
      held_is = search rules;
      answers = long_over c.args.piece.conn c.refused.result c.args.journaled.now
          (wired c.args.gone.now (g.S.Site.state a)) (wired c.send_reply.new.gone (g.S.Site.state b)) (g.S.Site.crashes a) (g.S.Site.crashes b)
          (g.met.S.Site.lawful a) (g.met.S.Site.lawful b) c.requires.fits c.send_reply.ensures.only c.refused.ensures c.send_reply.ensures.sends;
    }

-- the piece completes nothing
pub returns-in-More : goal.returns-in-More
returns-in-More g c =
    let a = c.args.site.now in
    let j = c.args.journaled.now in
    let lines = c.args.lines.now in
    let piece = c.args.piece.bytes.now in
    let used = c.feed-fed.result.used in
    let fed = subst (λ (kind : FedKind). Feeds lines piece (told_item kind) used) c.in-More.is c.feed-fed.ensures.tells in
    let all : take used piece ≡ piece = ap (λ n. take n piece) (fed.whole refl) ∙ take-length piece in
    let behind : c.feed-fed.follows.lender-at-none ≡ holds_after lines (take used piece) = search rules in
    record {
      completes_none = search rules;
      held_is = behind ∙ ap (holds_after lines) all;
      rests = record {
        machine = refl;
        wire = refl;
        saves = saves_none j.machine.form j.machine.state (kept j.store) (g.S.Site.state a) (g.S.Site.crashes a) (g.met.S.Site.lawful a) c.requires.fits.fits;
      };
    }
