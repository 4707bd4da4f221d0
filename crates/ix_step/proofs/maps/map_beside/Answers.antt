use Rattle.std.proofs.Common.{refl, sym}
use Rattle.ix_tree.specs.Plain.{items_of}
use Rattle.ix_tree.specs.PlainOf.{plain_map}
use Rattle.ix_tree.specs.Order.{first_part}
use Rattle.ix_step.proofs.Mapping.{map_items, map_keys, copy_with_tree}
use Rattle.ix_step.proofs.maps.map_beside.Goals as goal

pub with-requires : goal.with-requires
with-requires c =
    map_keys c.args.state.now c.args.state.now.entries refl c.requires.held.1.beside.ascending

pub returns : goal.returns
returns c =
    copy_with_tree c.args.first.now c.args.state.now.entries c.in_ok-entries.entries (items_of (first_part (plain_map c.args.state.now))) c.args.value c.args.tree
    (sym (map_items c.args.state.now)) c.requires.held.1.beside.ascending c.in_ok-entries.ensures
