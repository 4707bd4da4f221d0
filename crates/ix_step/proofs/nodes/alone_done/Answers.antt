use Rattle.std.proofs.Common.{◌&&◌, sym, ap, ◌∙◌}
use Rattle.ix_tree.specs.Plain.{items_of}
use Rattle.ix_tree.specs.PlainOf.{plain_entry, plain_entries}
use Rattle.ix_can.specs.Ways.{is_empty}
use Rattle.ix_step.proofs.Pruning.{parts_empty}
use Rattle.ix_step.proofs.nodes.alone_done.Goals as goal

pub returns-then-is_done : goal.returns-then-is_done
returns-then-is_done c =
    c.is_empty.ensures ∙ parts_empty plain_entry c.args.entries.now
    ∙ ap (λ b. b && is_empty (items_of (plain_entries c.args.entries.now))) (sym c.if-is_done.true ∙ c.is_done.ensures)
