use Rattle.std.proofs.Common.{◌∙◌, Some, false, leb, refl, ap, sym}
use Rattle.ix_parse.specs.declared.stack.Entry.TheVariants as entries
use Rattle.ix_parse.specs.inside.Stack.{is_left_inmost}
use Rattle.ix_parse.proofs.Stacks.{told, taking-no_left}
use Rattle.ix_parse.proofs.stack.binds_inmost.Goals as goal

pub returns-in-Some-Left : goal.returns-in-Some-Left
returns-in-Some-Left c =
    told (is_left_inmost c.args.lowest) c.args.stack.now (entries.Left c.in-Some-Left.left) (leb c.args.lowest c.level.result)
    (sym c.in-Some-Left.ensures.value ∙ ap Some c.in-Some-Left.field-0-is)
    (λ s. ap (leb c.args.lowest) (sym c.level.ensures))

pub returns-in-Some-Taking : goal.returns-in-Some-Taking
returns-in-Some-Taking c =
    told (is_left_inmost c.args.lowest) c.args.stack.now (entries.Taking c.in-Some-Taking.field-0-0) false
    (sym c.in-Some-Taking.ensures.value ∙ ap Some c.in-Some-Taking.field-0-is)
    (taking-no_left c.args.lowest c.in-Some-Taking.field-0-0)

pub returns-in-Some-Group : goal.returns-in-Some-Group
returns-in-Some-Group c =
    told (is_left_inmost c.args.lowest) c.args.stack.now entries.Group false (sym c.in-Some-Group.ensures.value ∙ ap Some c.in-Some-Group.field-0-is) (λ s. refl)
