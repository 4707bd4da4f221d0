use Rattle.std.proofs.Common.{map, sym, subst, string_bytes, true≢false}
use Rattle.ix_words.specs.Each.{Each, no_item}
use Rattle.ix_next.specs.Given.{IsGivenText}
use Rattle.ix_next.specs.Lists.{IsGiven}
use Rattle.ix_next.proofs.ListLemmas.{given_at, given_next}
use Rattle.ix_next.proofs.list.are_given.Goals as goal

pub loop-text-init : goal.loop-text-init
loop-text-init c = no_item

pub returns-in-None : goal.returns-in-None
returns-in-None c =
    let is : Each IsGiven (map string_bytes c.args.texts.now) → IsGiven (string_bytes c.text-item.result) =
    given_at string_bytes c.args.texts.now c.loop-text.text-index c.text-item.result
    c.loop-text-test.true c.text-item.is in (
      (λ bad. absurd (true≢false (sym bad))),
      (λ each. absurd (c.in-None.ensures (is each).given
          (subst (λ t. IsGivenText t (is each).given) (sym c.as_bytes.ensures.value) (is each).is))),
    )

pub loop-text-preserved : goal.loop-text-preserved
loop-text-preserved c =
    given_next string_bytes c.args.texts.now c.loop-text.text-index c.text-item.result
    c.loop-text-test.true c.text-item.is c.loop-text.invariant
    (record {
      given = c.in-Some.field-0;
      is = subst (λ t. IsGivenText t c.in-Some.field-0) c.as_bytes.ensures.value c.in-Some.ensures;
    })
