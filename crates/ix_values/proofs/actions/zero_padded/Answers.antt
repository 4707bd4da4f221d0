use Rattle.std.proofs.Common.{[], ◌∷◌, ◌∙◌, ap, set, arith}
use Rattle.ix_values.specs.Texts.{IsValue}
use Rattle.ix_values.proofs.Slots.{padded-set, each-more}
use Rattle.ix_values.proofs.actions.zero_padded.Goals as goal

pub loop-index-preserved : goal.loop-index-preserved
loop-index-preserved c =
    let item = c.index-args-index in
    record {
      written = ap (λ slots. set slots c.loop-index.index item.result) c.loop-index.invariant.written ∙ padded-set 4 (48 ∷ []) c.args.args.now c.loop-index.index item.result (omega arith) item.is c.requires;
      valid = each-more IsValue c.args.args.now c.loop-index.index item.result (omega arith) item.is c.bytes.ensures.valid c.loop-index.invariant.valid;
    }

pub returns-clause-valid : goal.returns-clause-valid
returns-clause-valid c k d below = c.loop-index.invariant.valid k d (omega arith)
