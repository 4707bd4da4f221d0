use Rattle.std.proofs.Common.{Option, Ok, sym, subst}
use Rattle.ix_tree.specs.Plain.{Plain}
use Rattle.ix_values.specs.PlainAction.{Word}
use Rattle.ix_words.specs.Each.{Member}
use Rattle.ix_stuck.specs.inside.Marks.{LeadsTo}
use Rattle.ix_stuck.specs.inside.Ruled.{IsNextTree, form}
use Rattle.ix_stuck.proofs.Places.{among}
use Rattle.ix_stuck.proofs.Steps.{leads_next, led_next, stops_at}
use Rattle.ix_stuck.proofs.word.go_on.Goals as goal

pub returns-in_ok-push-in-Ok-Some-clause-leads : goal.returns-in_ok-push-in-Ok-Some-clause-leads
returns-in_ok-push-in-Ok-Some-clause-leads c =
    let r = c.args.rules in
    let a = c.in-Some.action.now in
    let h = c.in-Some.ensures.lookup in
    let m : Member a r.moves.now = among r.moves.now c.args.by a (record { within = h.3.0; is = h.1 }) in
    let facts = subst (λ (o : Option Plain). IsNextTree r c.args.told.tree a (Ok o)) c.in-Ok-Some.field-0-is c.in-Ok-Some.ensures in
    subst (λ (w : Word). LeadsTo (form r) r.moves.now r.start.now w c.in-Ok-Some.next) (sym c.in_ok-push-in-Ok-Some.ensures.items)
    (leads_next (form r) r.moves.now r.limits.nodes r.start.now c.args.told.word.items c.args.told.tree a c.in-Ok-Some.next c.requires.leads m facts.0)

pub returns-in_ok-push-in-Ok-Some-clause-led : goal.returns-in_ok-push-in-Ok-Some-clause-led
returns-in_ok-push-in-Ok-Some-clause-led c =
    let r = c.args.rules in
    let a = c.in-Some.action.now in
    let h = c.in-Some.ensures.lookup in
    let m : Member a r.moves.now = among r.moves.now c.args.by a (record { within = h.3.0; is = h.1 }) in
    let facts = subst (λ (o : Option Plain). IsNextTree r c.args.told.tree a (Ok o)) c.in-Ok-Some.field-0-is c.in-Ok-Some.ensures in
    led_next (form r) r.moves.now r.limits.nodes r.start.now c.args.told.tree a c.in-Ok-Some.next c.requires.led m facts.0 facts.1 facts.2

pub returns-in-Err-clause-stops : goal.returns-in-Err-clause-stops
returns-in-Err-clause-stops c =
    let r = c.args.rules in
    let a = c.in-Some.action.now in
    let h = c.in-Some.ensures.lookup in
    let m : Member a r.moves.now = among r.moves.now c.args.by a (record { within = h.3.0; is = h.1 }) in
    stops_at r c.args.told.tree a c.in-Err.halt c.requires.led m c.in-Err.ensures
