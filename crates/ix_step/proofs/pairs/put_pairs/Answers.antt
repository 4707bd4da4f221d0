use Rattle.std.proofs.Common.{◌∷◌, [], map, arith}
use Rattle.ix_words.specs.Canon.{when}
use Rattle.ix_tree.specs.Plain.{pair}
use Rattle.ix_tree.specs.PlainOf.{plain_pair}
use Rattle.ix_can.specs.Nodes.{is_live}
use Rattle.ix_step.proofs.Exits.{exit_over}
use Rattle.ix_step.proofs.Gathering.{front_size}
use Rattle.ix_step.proofs.pairs.put_pairs.Goals as goal

pub returns-in_err-put_left-clause-gathers : goal.returns-in_err-put_left-clause-gathers
returns-in_err-put_left-clause-gathers c =
    let p = c.args.pair.now in
    let k = front_size (when (is_live c.args.left) (pair c.args.left p.second ∷ [])) (when (is_live c.args.right) (pair p.first c.args.right ∷ [])) (map plain_pair c.args.set.now.items) in
    exit_over _ c.from_residual.result _ c.from_residual.ensures.1 c.in_err-put_left.ensures.gathers (λ lt. omega arith)
