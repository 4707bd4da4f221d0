use Rattle.std.proofs.Common.{◌+◌, ◌-◌, length, drop}
use Rattle.ix_step.proofs.Rising.{rising_take, rising_drop}
use Rattle.ix_step.proofs.bags.with_moved.Goals as goal

pub with_in_place-requires-clause-rising : goal.with_in_place-requires-clause-rising
with_in_place-requires-clause-rising c =
    let from = c.args.place + 1 in
    rising_take (drop from c.args.items.now) (length c.args.items.now - from) (rising_drop c.args.items.now from c.requires.rising)

pub with_in_place-requires-2-clause-rising : goal.with_in_place-requires-2-clause-rising
with_in_place-requires-2-clause-rising c = rising_take c.args.items.now c.args.place c.requires.rising
