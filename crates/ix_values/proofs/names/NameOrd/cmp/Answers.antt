use Rattle.std.proofs.Common.{◌≡◌, ◌∙◌, rules}
use Rattle.ix_values.specs.Order.{text_cmp}
use Rattle.ix_values.specs.lemmas.Order.{text_cmp-same}
use Rattle.ix_values.proofs.names.NameOrd.cmp.Goals as goal

pub returns-clause-same : goal.returns-clause-same
returns-clause-same c =
    let value : text_cmp c.args.self.now c.args.other.now ≡ c.cmp.result = search rules in
    λ e. text_cmp-same c.args.self.now c.args.other.now (value ∙ e)
