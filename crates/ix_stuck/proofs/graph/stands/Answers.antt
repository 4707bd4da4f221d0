use Rattle.std.proofs.Common.{sym, ◌∙◌}
use Rattle.std.proofs.lemmas.Bool.{OnTrue_from}
use Rattle.ix_tree.proofs.Equal.{same_plain}
use Rattle.ix_stuck.proofs.graph.stands.Goals as goal

pub returns-in-Some : goal.returns-in-Some
returns-in-Some c =
    let h = c.in-Some.ensures.lookup in
    OnTrue_from c.eq.result _ (λ is. record {
      state = c.in-Some.state.now;
      at = record { within = h.3.0; is = h.1 };
      tree = (same_plain c.in-Some.state.now.tree c.args.tree.now).0 (sym c.eq.ensures ∙ is);
    })
