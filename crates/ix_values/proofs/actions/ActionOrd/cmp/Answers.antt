use Rattle.std.proofs.Common.{◌≡◌, ◌∙◌, rules}
use Rattle.ix_values.specs.inside.ActionOrder.{action_cmp}
use Rattle.ix_values.specs.lemmas.Order.{action_cmp-same}
use Rattle.ix_values.proofs.actions.ActionOrd.cmp.Goals as goal

pub returns-clause-same : goal.returns-clause-same
returns-clause-same c =
    let value : action_cmp c.args.self.now c.args.other.now ≡ c.then.result = search rules in
    λ e. action_cmp-same c.args.self.now c.args.other.now (value ∙ e)
