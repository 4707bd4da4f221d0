use Rattle.std.proofs.Common.{◌≡◌, ℕ, ◌-◌, ◌≤◌, length, Some, get_or, refl, sym, ◌∙◌, ap, arith, true≢false}
use Rattle.std.specs.List.{slice_get}
use Rattle.std.proofs.lemmas.Option.{slice_get_read}
use Rattle.ix_values.specs.PlainAction.{PlainAction, Word}
use Rattle.ix_engine.specs.inside.Engine.{EngineState}
use Rattle.ix_follow.proofs.follower.Follower.compare.Goals as goal

-- the kept action is the history's of this number
has : (history lent : Word) (number : ℕ) (kept : PlainAction) → lent ≡ history → 1 ≤ number → number ≤ length history
    → kept ≡ get_or lent (number - 1) kept → slice_get history (number - 1) ≡ Some kept
has history lent number kept same one within is =
    slice_get_read history (length history) (number - 1) kept refl (omega (arith, one, within))
    (is ∙ ap (λ (w : Word). get_or w (number - 1) kept) same)

pub returns-then-eq-clause-meets : goal.returns-then-eq-clause-meets
returns-then-eq-clause-meets c =
    let kept = c.index-history-number in (
      refl,
      has c.args.self.now.history c.history.result.now c.args.number kept.result (c.history.ensures.value ∙ ap (λ (s : EngineState). s.history) c.self.view_is) c.requires.from_one c.requires.kept kept.is
          ∙ ap Some (c.eq.ensures.same.0 c.if-eq.true),
    )

pub returns-else-eq-clause-meets : goal.returns-else-eq-clause-meets
returns-else-eq-clause-meets c =
    let kept = c.index-history-number in (
      refl,
      (
        kept.result,
        has c.args.self.now.history c.history.result.now c.args.number kept.result (c.history.ensures.value ∙ ap (λ (s : EngineState). s.history) c.self.view_is) c.requires.from_one c.requires.kept kept.is,
        λ same. true≢false (sym (c.eq.ensures.same.1 same) ∙ c.if-eq.false),
      ),
    )
