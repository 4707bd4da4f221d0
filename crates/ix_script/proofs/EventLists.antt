-- The events of lines that are all in the grammar.
use Rattle.std.proofs.Common.{◌≡◌, ℕ, List, [], ◌∷◌, refl, subst}
use Rattle.std.proofs.Math.Logic.{∥∥₁_map}
use Rattle.std.specs.List.{AllByRecursion}
use Rattle.ix_outside.specs.Contents.{GivenEvent}
use Rattle.ix_script.specs.Events.{end_event, line_event, AreEvents}
use Rattle.ix_script.specs.Grammar.{InGrammar}

-- there are some
pub some_events : (moment : ℕ) (lines : List (List ℕ)) → AllByRecursion InGrammar lines
    → (events : List GivenEvent) × AreEvents moment lines events
some_events moment [] good = (end_event moment ∷ [], refl)
some_events moment (line ∷ lines) good =
    let first = good.0 in
    let later = some_events first.0 lines good.1 in
    (line_event first.0 first.1 first.2 ∷ later.0, (first.0, first.1, first.2, later.0, first.3, refl, later.1))

-- of lines that are all in the grammar the first is, and so are those behind it
pub first_good : {line : List ℕ} {lines all : List (List ℕ)} → all ≡ line ∷ lines
    → ∥ AllByRecursion InGrammar all ∥₁ → ∥ InGrammar line ∥₁
first_good cut good = ∥∥₁_map good (λ each. (subst (AllByRecursion InGrammar) cut each).0)

pub later_good : {line : List ℕ} {lines all : List (List ℕ)} → all ≡ line ∷ lines
    → ∥ AllByRecursion InGrammar all ∥₁ → ∥ AllByRecursion InGrammar lines ∥₁
later_good cut good = ∥∥₁_map good (λ each. (subst (AllByRecursion InGrammar) cut each).1)
