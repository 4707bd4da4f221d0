-- The piece that is taken is the next event.
use Rattle.std.proofs.Common.{◌∙◌, length, drop, ap, arith}
use Rattle.ix_outside.specs.Contents.{piece_of}
use Rattle.ix_memory.proofs.GivingNext.{given_event, events-then, next_kept, next_fits, AreEventsKept-more, AreEventsKept-drop}
use Rattle.ix_memory.proofs.events.Events.next.Goals as goal

pub take_piece-piece-requires-clause-kept : goal.take_piece-piece-requires-clause-kept
take_piece-piece-requires-clause-kept c =
    AreEventsKept-more (length c.self.inside.bytes.items) _ c.self.inside.pieces.items (omega (arith, c.self.inside.bytes.small, c.self.inside.bytes.ok.0, c.self.inside.bytes.ok.1)) c.self.invariant.0

pub copy_front-requires-clause-kept : goal.copy_front-requires-clause-kept
copy_front-requires-clause-kept c =
    rw (c.deref.ensures.value, c.take_piece-piece.ensures.piece)
    (next_kept (length c.self.inside.bytes.items) _ _ (drop c.self.inside.at c.self.inside.pieces.items) c.requires.buf
    (AreEventsKept-drop _ c.self.inside.at c.self.inside.pieces.items c.self.invariant.0))

pub copy_front-requires-clause-fits : goal.copy_front-requires-clause-fits
copy_front-requires-clause-fits c =
    rw c.take_piece-piece.ensures.piece
    (next_fits (length c.self.inside.bytes.items) _ _ (drop c.self.inside.at c.self.inside.pieces.items) c.requires.buf
    (AreEventsKept-drop _ c.self.inside.at c.self.inside.pieces.items c.self.invariant.0))

pub invariant_of-self : goal.invariant_of-self
invariant_of-self c = (c.take_piece-piece.ensures.kept _ c.self.invariant.0, c.take_piece-piece.ensures.at)

pub returns-clause-event : goal.returns-clause-event
returns-clause-event c =
    rw (← c.self.view_is)
    (given_event c.self.inside.bytes.items _ _ (drop c.self.inside.at c.self.inside.pieces.items) c.take_piece-piece.result _
    c.take_piece-piece.ensures.piece
    (c.copy_front.ensures ∙ ap (λ bytes. piece_of c.take_piece-piece.result.event.kind (drop c.take_piece-piece.result.start bytes)) c.deref.ensures.value))

pub returns-clause-coming : goal.returns-clause-coming
returns-clause-coming c =
    rw (← c.self.view_is, c.take_piece-piece.ensures.coming)
    (events-then c.self.inside.bytes.items _ (drop c.self.inside.at c.self.inside.pieces.items))

pub returns-clause-fits : goal.returns-clause-fits
returns-clause-fits c =
    rw c.take_piece-piece.ensures.piece
    (next_fits (length c.self.inside.bytes.items) _ _ (drop c.self.inside.at c.self.inside.pieces.items) c.requires.buf
    (AreEventsKept-drop _ c.self.inside.at c.self.inside.pieces.items c.self.invariant.0))
