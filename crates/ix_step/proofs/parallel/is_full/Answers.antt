use Rattle.std.proofs.Common.{sym, ◌∙◌}
use Rattle.ix_step.proofs.LimitedBags.{no_run_full, other_number_full, all_done_full}
use Rattle.ix_step.proofs.parallel.is_full.Goals as goal

pub returns-then-is_empty : goal.returns-then-is_empty
returns-then-is_empty c = no_run_full c.args.number c.args.items.now (sym c.is_empty.ensures ∙ c.if-is_empty.true)

pub returns-then-items-from : goal.returns-then-items-from
returns-then-items-from c = other_number_full c.args.number c.args.items.now (λ e. c.if-items-from.true (e ∙ sym c.from.ensures))

pub returns : goal.returns
returns c =
    all_done_full c.args.number c.args.items.now (sym c.is_empty.ensures ∙ c.if-is_empty.false) (c.if-items-from.false ∙ c.from.ensures) c.each_done.ensures
