use Rattle.std.proofs.Common.{◌≡◌, ◌∙◌, length, true, false, eqb, ap, sym, eqb-true, eq-eqb}
use Rattle.ix_parse.specs.inside.Operands.{meaning_of}
use Rattle.ix_parse.specs.inside.StackMachine as machine
use Rattle.ix_parse.proofs.Stacks.{alone_empty, alone_more}
use Rattle.ix_parse.proofs.step.whole_operand.Goals as goal

clash : false ≡ true → ⊥
clash e = cc

pub returns-then-is_empty : goal.returns-then-is_empty
returns-then-is_empty c =
    let es = c.reduced.new.stack.items in
    sym
    (ap (λ (h : machine.WithOperand). machine.joined_whole h.stack h.operand) c.in_ok-whole.ensures
    ∙ alone_empty es (meaning_of c.in_ok-whole.whole) (ap length (sym c.as_slice.ensures.value) ∙ eqb-true (length c.as_slice.result.now) 0 (sym c.if-is_empty.ensures)))

pub returns : goal.returns
returns c =
    let es = c.reduced.new.stack.items in
    sym
    (ap (λ (h : machine.WithOperand). machine.joined_whole h.stack h.operand) c.in_ok-whole.ensures
    ∙ alone_more es (meaning_of c.in_ok-whole.whole)
    (λ none. (let same : length c.as_slice.result.now ≡ 0 = ap length c.as_slice.ensures.value ∙ none in let empty : eqb (length c.as_slice.result.now) 0 ≡ true = eq-eqb _ 0 same in let full = c.if-is_empty.ensures in clash (full ∙ empty))))
