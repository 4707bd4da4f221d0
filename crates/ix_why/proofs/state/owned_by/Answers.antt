use Rattle.std.proofs.Common.{sym, ap, ◌∙◌, subst, arith}
use Rattle.ix_entries.specs.inside.Entries.{KeysAscend}
use Rattle.ix_values.specs.Order.{text_cmp}
use Rattle.ix_tree.specs.Plain.{items_of}
use Rattle.ix_tree.specs.PlainOf.{plain_entries}
use Rattle.ix_can.specs.May.{tree_at}
use Rattle.ix_why.specs.inside.Held.{kept_tree}
use Rattle.ix_why.proofs.Owned.{not_alone, alone_owned, alone_ascends}
use Rattle.ix_why.proofs.state.owned_by.Goals as goal

pub state_in-requires : goal.state_in-requires
state_in-requires c =
    subst (λ m. KeysAscend text_cmp m.entries) c.index-maps-0.is
    (alone_ascends c.args.maps.now c.index-maps-0.result c.requires (omega (arith, c.if-maps-eq1.true)) c.index-maps-0.is)

pub returns-then-maps-eq1 : goal.returns-then-maps-eq1
returns-then-maps-eq1 c =
    let v = c.args.value.now in
    alone_owned c.args.maps.now c.index-maps-0.result v (kept_tree c.state_in.result) c.if-maps-eq1.true c.index-maps-0.is
    (λ common. c.state_in.ensures common ∙ ap (λ m. tree_at v common (items_of (plain_entries m.entries))) (sym c.index-maps-0.is))

pub returns-else-maps-eq1 : goal.returns-else-maps-eq1
returns-else-maps-eq1 c = not_alone c.args.maps.now c.if-maps-eq1.false
