-- What a search through the nodes of an expression answers, and the pairs by which terms are
-- replaced.
use Rattle.std.specs.Prelude.{◌≡◌, ℕ, ◌+◌, List, [], ◌∷◌, Some, None}
use Rattle.ix_lint.specs.declared.owners.Partner.{Partner}
use Rattle.ix_lint.specs.declared.owners.Partner.TheVariants as partner
use Rattle.ix_lint.specs.declared.owners.Pair.{Pair}
use Rattle.ix_lint.specs.declared.owners.Pair.TheVariants as pair
use Rattle.ix_lint.specs.declared.terms.Term.{Term}
use Rattle.ix_lint.specs.declared.terms.Replaced.{Replaced, Nothing, One'}
use Rattle.ix_lint.specs.Nodes.{first}

-- the first of these numbers, or the number behind a list of this length that is numbered from n
abbrev pub IsPartner : List ℕ → ℕ → ℕ → Partner → Type 0
IsPartner numbers n size (partner.Found node) = first numbers ≡ Some node
IsPartner numbers n size (partner.Behind next) = (first numbers ≡ None) × (next ≡ n + size)

-- the same of pairs
abbrev pub IsPair : List (ℕ × ℕ) → ℕ → ℕ → Pair → Type 0
IsPair numbers n size (pair.Found one other) = first numbers ≡ Some (one, other)
IsPair numbers n size (pair.Behind next) = (first numbers ≡ None) × (next ≡ n + size)

-- the newest pair first
abbrev pub pairs_of_replaced : Replaced → List (Term × Term)
pairs_of_replaced Nothing = []
pairs_of_replaced (One' from to place before) = (from.now, to.now) ∷ pairs_of_replaced before
