use Rattle.std.proofs.Common.{[], ◌∷◌, ◌∙◌, ap, set, take, arith}
use Rattle.ix_values.specs.inside.Padding.{padded}
use Rattle.ix_values.proofs.Slots.{padded-set, each-more}
use Rattle.ix_expr.specs.declared.arg.Arg.TheVariants.{Fixed}
use Rattle.ix_expr.specs.Spelling.{IsArgument}
use Rattle.ix_expr.proofs.atom.zero_padded.Goals as goal

pub loop-index-preserved : goal.loop-index-preserved
loop-index-preserved c =
    let item = c.index-args-index in
    record {
      written = ap (λ slots. set slots c.loop-index.index c.checked.result) c.loop-index.invariant.written ∙ ap (λ x. set (padded 4 (Fixed (48 ∷ [])) (take c.loop-index.index c.args.args.now)) c.loop-index.index x) c.checked.ensures.same ∙ padded-set 4 (Fixed (48 ∷ [])) c.args.args.now c.loop-index.index item.result (omega arith) item.is c.requires;
      valid = each-more IsArgument c.args.args.now c.loop-index.index item.result (omega arith) item.is c.checked.ensures.valid c.loop-index.invariant.valid;
    }

pub returns-clause-valid : goal.returns-clause-valid
returns-clause-valid c k d below = c.loop-index.invariant.valid k d (omega arith)
