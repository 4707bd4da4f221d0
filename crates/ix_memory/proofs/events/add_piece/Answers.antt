-- The bytes of the event were put behind the others.
use Rattle.std.proofs.Common.{◌∙◌}
use Rattle.ix_memory.proofs.TakingAll.{events-push, kept-push}
use Rattle.ix_memory.proofs.events.add_piece.Goals as goal

pub returns-in-Ok-clause-events : goal.returns-in-Ok-clause-events
returns-in-Ok-clause-events c = rw (c.in_ok-extend_from_slice.ensures.items, c.in-Ok.ensures.items)
    (events-push c.args.bytes.now.items c.args.text.now c.args.pieces.now.items c.args.event c.len-start.result
    (c.len-start.ensures ∙ c.args.bytes.now.ok.0) c.requires.kept c.requires.come)

pub returns-in-Ok-clause-kept : goal.returns-in-Ok-clause-kept
returns-in-Ok-clause-kept c = rw (c.in_ok-extend_from_slice.ensures.items, c.in-Ok.ensures.items)
    (kept-push c.args.bytes.now.items c.args.text.now c.args.pieces.now.items c.args.event c.len-start.result
    (c.len-start.ensures ∙ c.args.bytes.now.ok.0) c.requires.kept c.requires.come)
