use Rattle.std.proofs.Common.{◌<◌, ◌≤◌, ◌≡◌, length, sym, ◌∙◌, true≢false, arith}
use Rattle.ix_tree.proofs.Equal.{same_plain}
use Rattle.ix_renew.proofs.Tested.{gave_none, gave_some, begins, fails, goes_on, ends, differs}
use Rattle.ix_renew.proofs.leads.leads.Goals as goal

pub loop-action-init : goal.loop-action-init
loop-action-init c = begins c.args.rules c.args.word.now c.in_ok-tree.tree c.requires c.in_ok-tree.ensures

-- an action may not stand
pub returns-in-None : goal.returns-in-None
returns-in-None c =
    let r = c.args.rules in
    let w = c.args.word.now in
    let i = c.loop-action.action-index in
    let within : i < length w = omega arith in
    let few : length w ≤ length r.history.now = omega arith in
    let none_stands = gave_none r c.loop-action.tree c.action-item.result c.in_ok-next.field-0 c.in-None.is c.in_ok-next.ensures in (
      λ t. absurd (true≢false (sym t)),
      λ k. absurd (fails r c.requires w few i c.loop-action.tree c.action-item.result within c.action-item.is c.loop-action.invariant none_stands k),
    )

-- it may
pub loop-action-preserved : goal.loop-action-preserved
loop-action-preserved c =
    let r = c.args.rules in
    let w = c.args.word.now in
    let i = c.loop-action.action-index in
    let within : i < length w = omega arith in
    let few : length w ≤ length r.history.now = omega arith in
    let next = gave_some r c.loop-action.tree c.action-item.result c.in_ok-next.field-0 c.in-Some.next c.in-Some.is c.in_ok-next.ensures in
    goes_on r c.requires w few i c.loop-action.tree c.in-Some.next c.action-item.result within c.action-item.is c.loop-action.invariant next.0 next.1

-- all actions were tested
pub returns : goal.returns
returns c =
    let r = c.args.rules in
    let w = c.args.word.now in
    let i = c.loop-action.action-index in
    let t = c.loop-action.tree in
    let all : i ≡ length w = omega arith in
    let few : length w ≤ length r.history.now = omega arith in (
      λ is. ends r c.requires w few i t all c.loop-action.invariant ((same_plain t r.last.now).0 (sym c.eq.ensures ∙ is)),
      λ k. c.eq.ensures ∙ (same_plain t r.last.now).1 (differs r c.requires w few i t all c.loop-action.invariant k),
    )
