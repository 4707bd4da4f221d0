-- Empty lists of parts in memory and as parts of a tree.
use Rattle.std.proofs.Common.{◌&&◌, ◌==◌, length, sym, ap, ◌∙◌}
use Rattle.ix_tree.specs.PlainOf.{plain_pair, plain_bag, plain_map, plain_entry, plain_entries}
use Rattle.ix_tree.specs.inside.PlainNode.{plain_node}
use Rattle.ix_step.specs.inside.Pruned.{is_none, has_died}
use Rattle.ix_step.proofs.Pruning.{parts_none}
use Rattle.ix_step.proofs.nodes.has_died.Goals as goal

pub returns-in-Par : goal.returns-in-Par
returns-in-Par c =
    c.is_empty.ensures ∙ ap (λ l. length l == 0) c.as_slice.ensures.value ∙ parts_none plain_pair c.in-Par.pairs.items
    ∙ sym (ap (λ n. has_died (plain_node n)) c.in-Par.is)

pub returns-in-ParStar : goal.returns-in-ParStar
returns-in-ParStar c =
    c.is_empty-in-ParStar.ensures ∙ ap (λ l. length l == 0) c.as_slice-in-ParStar.ensures.value ∙ parts_none plain_bag c.in-ParStar.bags.items
    ∙ sym (ap (λ n. has_died (plain_node n)) c.in-ParStar.is)

pub returns-then-is_dead-3 : goal.returns-then-is_dead-3
returns-then-is_dead-3 c =
    c.is_empty-then-is_dead-3.ensures ∙ parts_none plain_entry c.in-Any.entries
    ∙ ap (λ b. b && is_none (plain_entries c.in-Any.entries)) (sym c.if-is_dead-3.true ∙ c.is_dead-in-Any.ensures)
    ∙ sym (ap (λ n. has_died (plain_node n)) c.in-Any.is)

pub returns-in-All : goal.returns-in-All
returns-in-All c =
    c.is_empty-in-All.ensures ∙ ap (λ l. length l == 0) c.as_slice-in-All.ensures.value ∙ parts_none plain_map c.in-All.maps.items
    ∙ sym (ap (λ n. has_died (plain_node n)) c.in-All.is)

pub returns-in-Times : goal.returns-in-Times
returns-in-Times c =
    c.is_empty-in-Times.ensures ∙ ap (λ l. length l == 0) c.as_slice-in-Times.ensures.value ∙ parts_none plain_bag c.in-Times.bags.items
    ∙ sym (ap (λ n. has_died (plain_node n)) c.in-Times.is)
