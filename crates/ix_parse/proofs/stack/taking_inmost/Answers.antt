use Rattle.std.proofs.Common.{◌∙◌, Some, false, refl, sym, ap}
use Rattle.ix_parse.specs.declared.stack.Entry.TheVariants as entries
use Rattle.ix_parse.specs.inside.Stack.{is_prefix_inmost}
use Rattle.ix_parse.proofs.Stacks.{told}
use Rattle.ix_parse.proofs.stack.taking_inmost.Goals as goal

pub returns-in-Some-Taking : goal.returns-in-Some-Taking
returns-in-Some-Taking c = sym c.in-Some-Taking.ensures.value ∙ ap Some c.in-Some-Taking.field-0-is

pub returns-in-Some-Left : goal.returns-in-Some-Left
returns-in-Some-Left c =
    sym (told is_prefix_inmost c.args.stack.now (entries.Left c.in-Some-Left.field-0-0) false (sym c.in-Some-Left.ensures.value ∙ ap Some c.in-Some-Left.field-0-is) (λ s. refl))

pub returns-in-Some-Group : goal.returns-in-Some-Group
returns-in-Some-Group c =
    sym (told is_prefix_inmost c.args.stack.now entries.Group false (sym c.in-Some-Group.ensures.value ∙ ap Some c.in-Some-Group.field-0-is) (λ s. refl))
