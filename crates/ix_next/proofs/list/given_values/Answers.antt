use Rattle.std.proofs.Common.{sym, subst, string_bytes, take, map, ◌+◌}
use Rattle.std.specs.Prelude.{MatchOption}
use Rattle.ix_next.specs.Given.{IsGivenText, PlainGiven}
use Rattle.ix_next.specs.Lists.{AreGiven, IsGiven}
use Rattle.ix_next.proofs.ListLemmas.{are_next, given_at, some_given}
use Rattle.ix_next.proofs.list.given_values.Goals as goal

pub unwrap-requires : goal.unwrap-requires
unwrap-requires c =
    some_given c.as_bytes.result.now c.read_given.result c.read_given.ensures
    (subst IsGiven (sym c.as_bytes.ensures.value)
    (given_at string_bytes c.args.texts.now c.loop-text.text-index c.text-item.result
    c.loop-text-test.true c.text-item.is c.requires))

pub loop-text-preserved : goal.loop-text-preserved
loop-text-preserved c =
    let texts = c.args.texts.now in
    let i = c.loop-text.text-index in
    let g = c.unwrap.result in
    let read = subst (λ r. MatchOption r ((h : PlainGiven) → ¬ IsGivenText c.as_bytes.result.now h)
    (IsGivenText c.as_bytes.result.now)) c.unwrap.ensures c.read_given.ensures in
    let is = subst (λ t. IsGivenText t g) c.as_bytes.ensures.value read in
    subst (AreGiven (map string_bytes (take (i + 1) texts))) (sym c.in_ok-push.ensures.items)
    (are_next string_bytes texts i c.text-item.result c.loop-text.given.items g
    c.loop-text-test.true c.text-item.is c.loop-text.invariant is)
