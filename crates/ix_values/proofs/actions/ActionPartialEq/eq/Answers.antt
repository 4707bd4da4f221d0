use Rattle.std.proofs.Common.{◌≡◌, ◌∙◌, sym, rules}
use Rattle.ix_values.specs.inside.ActionOrder.{action_eq}
use Rattle.ix_values.specs.lemmas.Order.{action_eq-decides}
use Rattle.ix_values.proofs.actions.ActionPartialEq.eq.Goals as goal

pub returns-then-eq-clause-same : goal.returns-then-eq-clause-same
returns-then-eq-clause-same c =
    let value : action_eq c.args.self.now c.args.other.now ≡ c.eq-then-eq.result = search rules in
    let decides = action_eq-decides c.args.self.now c.args.other.now in
    (λ t. decides.0 (value ∙ t), λ e. sym value ∙ decides.1 e)
