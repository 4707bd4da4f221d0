use Rattle.ix_script.proofs.LineParts.{cut_end, whole_end, no_text_bytes}
use Rattle.ix_script.proofs.line.open_text.Goals as goal

pub returns-in_default : goal.returns-in_default
returns-in_default c = no_text_bytes c.args.text.now c.in_default.ensures.cases

pub returns-then-last-eq92 : goal.returns-then-last-eq92
returns-then-last-eq92 c = cut_end c.args.text.now c.in-Some.front.now c.in-Some.last.now c.in-Some.ensures.cases.0 c.if-last-eq92.true

pub returns : goal.returns
returns c = whole_end c.args.text.now c.in-Some.front.now c.in-Some.last.now c.in-Some.ensures.cases.0 c.if-last-eq92.false
