use Rattle.std.proofs.Common.{◌≤◌, [], Err, sym, ap, ◌∙◌, subst}
use Rattle.ix_expr.specs.inside.FormOf.{form_of}
use Rattle.ix_tree.specs.Plain.{is_dead}
use Rattle.ix_tree.specs.Size.{size_of}
use Rattle.ix_can.specs.TreeOf.{tree_of}
use Rattle.ix_step.specs.inside.Builds.{Builds}
use Rattle.ix_step.specs.declared.fault.BuildFault.{BuildFault}
use Rattle.ix_stuck.proofs.Ends.{tells_of, large_root, empty_live}
use Rattle.ix_stuck.proofs.Steps.{fits_of}
use Rattle.ix_stuck.proofs.whole.answer.Goals as goal

pub returns-in-Err-Over-clause-halts : goal.returns-in-Err-Over-clause-halts
returns-in-Err-Over-clause-halts c =
    let x = form_of c.args.expr.now in
    let facts = subst (λ (f : BuildFault). Builds c.args.limits.nodes (tree_of x [] []) (Err f)) c.in-Err-Over.field-0-is c.in-Err-Over.ensures in
    large_root x c.args.moves.now c.args.limits.nodes facts.1

pub search-requires-clause-ready : goal.search-requires-clause-ready
search-requires-clause-ready c =
    let x = form_of c.args.expr.now in
    let is = c.in-Ok.ensures.0 in
    record {
      formed = c.requires.formed;
      empty = c.new-2.ensures;
      least = c.requires.least;
      most = c.requires.most;
      tree = ([], is);
      live = ap is_dead is ∙ empty_live x (fits_of x c.requires.formed);
      small = subst (λ t. size_of t ≤ c.args.limits.nodes) (sym is) c.in-Ok.ensures.1;
    }

pub returns-clause-halts : goal.returns-clause-halts
returns-clause-halts c =
    let x = form_of c.args.expr.now in
    tells_of x c.args.moves.now c.args.limits.nodes c.in-Ok.start (fits_of x c.requires.formed) c.requires.least c.in-Ok.ensures.0 c.in-Err.halt c.in-Err.ensures.stops
