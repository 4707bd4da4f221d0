use Rattle.std.proofs.Common.{◌∷◌, [], ◌++◌, ◌∙◌, Some, refl, ap, sym}
use Rattle.ix_parse.specs.declared.stack.Entry.TheVariants as entries
use Rattle.ix_parse.specs.inside.Operands.{meaning_of}
use Rattle.ix_parse.specs.inside.Stack.{stack_of}
use Rattle.ix_parse.specs.inside.StackMachine as machine
use Rattle.ix_parse.proofs.Stacks.{left_group-popped, taking-no_group}
use Rattle.ix_parse.proofs.step.leave.Goals as goal

pub returns-in-Some-Taking : goal.returns-in-Some-Taking
returns-in-Some-Taking c =
    let fs = c.pop.new.self.items in
    sym
    (left_group-popped (stack_of c.args.stack.items) (meaning_of c.args.operand) c.reduced.new.stack.items fs (entries.Taking c.in-Some-Taking.field-0-0) (meaning_of c.in_ok-inner.inner) c.in_ok-inner.ensures
    (c.in-Some-Taking.ensures.items ∙ ap (λ e. fs ++ e ∷ []) c.in-Some-Taking.field-0-is)
    ∙ taking-no_group c.in-Some-Taking.field-0-0 (stack_of fs) (meaning_of c.in_ok-inner.inner))

pub returns-in-Some-Left : goal.returns-in-Some-Left
returns-in-Some-Left c =
    let fs = c.pop.new.self.items in
    sym
    (left_group-popped (stack_of c.args.stack.items) (meaning_of c.args.operand) c.reduced.new.stack.items fs (entries.Left c.in-Some-Left.field-0-0) (meaning_of c.in_ok-inner.inner) c.in_ok-inner.ensures
    (c.in-Some-Left.ensures.items ∙ ap (λ e. fs ++ e ∷ []) c.in-Some-Left.field-0-is)
    ∙ refl)

pub returns-in_ok-group-in-Some-Group : goal.returns-in_ok-group-in-Some-Group
returns-in_ok-group-in-Some-Group c =
    let fs = c.pop.new.self.items in
    ap Some c.behind.ensures
    ∙ sym
    (left_group-popped (stack_of c.args.stack.items) (meaning_of c.args.operand) c.reduced.new.stack.items fs entries.Group (meaning_of c.in_ok-inner.inner) c.in_ok-inner.ensures
    (c.in-Some-Group.ensures.items ∙ ap (λ e. fs ++ e ∷ []) c.in-Some-Group.field-0-is)
    ∙ ap (λ (h : machine.WithOperand). Some (machine.with_operand h)) c.in_ok-group-in-Some-Group.ensures)
