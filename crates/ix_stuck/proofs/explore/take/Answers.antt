use Rattle.std.proofs.Common.{Option, Ok, subst}
use Rattle.ix_tree.specs.Plain.{Plain}
use Rattle.ix_stuck.specs.inside.Graphs.{At}
use Rattle.ix_stuck.specs.inside.Ruled.{IsNextTree, form}
use Rattle.ix_stuck.proofs.Places.{among, each_at}
use Rattle.ix_stuck.proofs.Steps.{dead_move, stops_at}
use Rattle.ix_stuck.proofs.explore.take.Goals as goal

pub next_tree-requires-clause-led : goal.next_tree-requires-clause-led
next_tree-requires-clause-led c =
    let at : At c.args.graph.now.states.items c.args.origin.from c.index.result.now = record { within = c.requires.within; is = c.index.ensures } in
    each_at c.requires.holds.led at

pub lead-requires-clause-joins : goal.lead-requires-clause-joins
lead-requires-clause-joins c =
    let at : At c.args.graph.now.states.items c.args.origin.from c.index.result.now = record { within = c.requires.within; is = c.index.ensures } in
    let facts = subst (λ (o : Option Plain). IsNextTree c.args.rules c.index.result.now.tree c.args.action.now (Ok o)) c.in-Ok-Some.field-0-is c.in-Ok-Some.ensures in
    record {
      source = c.index.result.now;
      action = c.args.action.now;
      at_source = at;
      by_action = c.requires.action;
      tree = facts.0;
      live = facts.1;
      small = facts.2;
    }

pub returns-in-Ok-None-clause-taken : goal.returns-in-Ok-None-clause-taken
returns-in-Ok-None-clause-taken c =
    let r = c.args.rules in
    let at : At c.args.graph.now.states.items c.args.origin.from c.index.result.now = record { within = c.requires.within; is = c.index.ensures } in
    dead_move (form r) r.moves.now r.limits.nodes r.start.now c.args.graph.now.states.items c.args.graph.now.edges.items c.args.origin.from c.args.origin.by c.requires.holds c.index.result.now c.args.action.now at c.requires.action
    (subst (λ (o : Option Plain). IsNextTree r c.index.result.now.tree c.args.action.now (Ok o)) c.in-Ok-None.field-0-is c.in-Ok-None.ensures)

pub returns-in-Err-clause-stops : goal.returns-in-Err-clause-stops
returns-in-Err-clause-stops c =
    let r = c.args.rules in
    let at : At c.args.graph.now.states.items c.args.origin.from c.index.result.now = record { within = c.requires.within; is = c.index.ensures } in
    stops_at r c.index.result.now.tree c.args.action.now c.in-Err.halt (each_at c.requires.holds.led at) (among r.moves.now c.args.origin.by c.args.action.now c.requires.action) c.in-Err.ensures
