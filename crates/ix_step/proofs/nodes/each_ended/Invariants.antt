use Rattle.std.proofs.Common.{◌≡◌}
use Rattle.std.specs.List.{list_all}
use Rattle.ix_tree.specs.Order.{first_part}
use Rattle.ix_tree.specs.Plain.{items_of}
use Rattle.ix_tree.specs.PlainOf.{plain_entries}
use Rattle.ix_can.specs.Nodes.{is_ended}
use Rattle.ix_step.proofs.nodes.each_ended.Given as goal

abbrev pub invariant-loop-entry : goal.invariant-loop-entry
invariant-loop-entry l =
    list_all (λ x. is_ended (first_part x)) (items_of (plain_entries l.entries))
    ≡ list_all (λ x. is_ended (first_part x)) (items_of (plain_entries l.entry-iterator))
