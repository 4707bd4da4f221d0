use Rattle.std.proofs.Common.{◌≡◌, ◌∷◌, [], ◌++◌, ◌∙◌, refl, ap, sym, leb-true}
use Rattle.ix_parse.specs.declared.stack.Entry.TheVariants as entries
use Rattle.ix_parse.specs.Symbols.{level}
use Rattle.ix_parse.specs.inside.Stack.{is_left_inmost, stack_of}
use Rattle.ix_parse.proofs.Stacks.{clash_popped, popped, taking-no_left}
use Rattle.ix_parse.proofs.stack.pop_left.Goals as goal

pub unreachable-requires : goal.unreachable-requires
unreachable-requires c =
    let es = c.args.stack.now.items in
    let fs = c.pop.new.self.items in
    clash_popped (is_left_inmost c.args.lowest) es fs (entries.Taking c.in-Some-Taking.field-0-0)
    (c.in-Some-Taking.ensures.items ∙ ap (λ e. fs ++ e ∷ []) c.in-Some-Taking.field-0-is)
    (c.if-not-binds_inmost.ensures ∙ ap (λ l. is_left_inmost c.args.lowest (stack_of l)) c.as_slice.ensures.value)
    (taking-no_left c.args.lowest c.in-Some-Taking.field-0-0 (stack_of fs))

pub unreachable-requires-in-Some-Group : goal.unreachable-requires-in-Some-Group
unreachable-requires-in-Some-Group c =
    let es = c.args.stack.now.items in
    let fs = c.pop.new.self.items in
    clash_popped (is_left_inmost c.args.lowest) es fs entries.Group
    (c.in-Some-Group.ensures.items ∙ ap (λ e. fs ++ e ∷ []) c.in-Some-Group.field-0-is)
    (c.if-not-binds_inmost.ensures ∙ ap (λ l. is_left_inmost c.args.lowest (stack_of l)) c.as_slice.ensures.value)
    refl

pub returns : goal.returns
returns c =
    let es = c.args.stack.now.items in
    let fs = c.pop.new.self.items in
    let split : es ≡ fs ++ entries.Left c.in-Some-Left.left ∷ [] = c.in-Some-Left.ensures.items ∙ ap (λ e. fs ++ e ∷ []) c.in-Some-Left.field-0-is in (
      split,
      leb-true c.args.lowest (level c.in-Some-Left.left.operator)
          (sym (c.if-not-binds_inmost.ensures ∙ ap (λ l. is_left_inmost c.args.lowest (stack_of l)) c.as_slice.ensures.value ∙ popped (is_left_inmost c.args.lowest) es fs (entries.Left c.in-Some-Left.left) split)),
    )
