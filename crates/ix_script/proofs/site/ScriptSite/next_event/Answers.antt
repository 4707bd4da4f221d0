use Rattle.std.proofs.Common.{length, ap, sym, ◌∙◌}
use Rattle.ix_script.specs.Pieces.{left_after}
use Rattle.ix_script.specs.inside.NextPiece.{next_piece}
use Rattle.ix_script.specs.inside.Progress.{events_of, given_by, left_by}
use Rattle.ix_script.proofs.GivenEvents.{left_by-end, given_by-end, is_next}
use Rattle.ix_script.proofs.site.ScriptSite.next_event.Goals as goal

pub invariant_of-self : goal.invariant_of-self
invariant_of-self g c =
    let old = c.args.self.now in
    let room = length c.args.buf.now in
    record {
      place =
          (λ i. left_by (c.and-self.ensures i) (events_of (c.next-event.ensures.bytes i).now))
          ∙ left_by-end old.rooms.items room (events_of old.cursor.bytes.now)
          ∙ ap (left_after room) old.place
          ∙ sym c.next-event.ensures.left;
    }

pub returns-clause-given : goal.returns-clause-given
returns-clause-given g c =
    let old = c.args.self.now in
    let room = length c.args.buf.now in
    (λ i. given_by (c.and-self.ensures i) (events_of (c.next-event.ensures.bytes i).now))
    ∙ given_by-end old.rooms.items room (events_of old.cursor.bytes.now) _ (ap (next_piece room) old.place ∙ c.next-event.ensures.next)

pub returns-clause-next : goal.returns-clause-next
returns-clause-next g c =
    let old = c.args.self.now in
    let room = length c.args.buf.now in
    is_next room old.cursor.bytes.now old.rooms.items _ (ap (next_piece room) old.place ∙ c.next-event.ensures.next)
