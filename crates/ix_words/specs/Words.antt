-- Words cut, split, owned and projected: what holds of a word because of what holds of its parts.
-- Q and R range over predicates of words.
use Rattle.std.specs.Prelude.{◌≡◌, ℕ, ◌<◌, Bool, not, ◌==◌, List, ◌++◌, length}
use Rattle.ix_words.specs.Each.{Each}
use Rattle.ix_words.specs.Parts.{part, joined, Projection}

-- w is a front with Q and then a back with R
pub record Joined {A : Type 0} (Q R : List A → Type 0) (w : List A) : Type 0 where
  pub front : List A
  pub back : List A
  pub whole : w ≡ front ++ back
  pub front_has : Q front
  pub back_has : R back

-- w is a concatenation of pieces, each with Q
pub record Repeated {A : Type 0} (Q : List A → Type 0) (w : List A) : Type 0 where
  pub pieces : List (List A)
  pub whole : w ≡ joined pieces
  pub each_has : Each Q pieces

-- w has marks, true for left and false for right; its left part has Q and its right part has R
pub record Split {A : Type 0} (Q R : List A → Type 0) (w : List A) : Type 0 where
  pub marks : List Bool
  pub as_long : length marks ≡ length w
  pub left_has : Q (part (λ mark. mark) marks w)
  pub right_has : R (part not marks w)

-- w has owner numbers; the part of each number that is used has Q
pub record Numbered {A : Type 0} (Q : List A → Type 0) (w : List A) : Type 0 where
  pub owners : List ℕ
  pub as_long : length owners ≡ length w
  pub each_has : Each (λ owner. Q (part (λ other. owner == other) owners w)) owners

-- w has owner numbers below n; the part of each number below n, used or not, has Q
pub record Shared {A : Type 0} (n : ℕ) (Q : List A → Type 0) (w : List A) : Type 0 where
  pub owners : List ℕ
  pub as_long : length owners ≡ length w
  pub below : Each (λ owner. owner < n) owners
  pub each_has : (k : ℕ) → k < n → Q (part (λ other. k == other) owners w)

-- w has owner values; for every value v, used or not, the part of v has Q v
pub record Owned {A V : Type 0} (same : V → V → Bool) (Q : V → List A → Type 0)
    (w : List A) : Type 0 where
  pub owners : List V
  pub as_long : length owners ≡ length w
  pub each_has : (v : V) → Q v (part (same v) owners w)

-- the projection of w to the items that are in has Q
pub record Projected {A : Type 0} (In : A → Type 0) (Q : List A → Type 0)
    (w : List A) : Type 0 where
  pub rest : List A
  pub projection : Projection In w rest
  pub rest_has : Q rest

-- each front of a word with Q has Q
abbrev pub Closed : {A : Type 0} → (List A → Type 0) → Type 0
Closed {A} Q = (u v : List A) → Q (u ++ v) → Q u

-- each item of a word with Q has G
abbrev pub GivesEach : {A : Type 0} → (A → Type 0) → (List A → Type 0) → Type 0
GivesEach {A} G Q = (u : List A) → Q u → Each G u
