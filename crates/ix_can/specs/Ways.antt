-- All ways to cut a word into pieces, and to give its actions to owners.
use Rattle.std.specs.Prelude.{ℕ, zero, suc, Bool, true, false, not, ◌==◌, List, [], ◌∷◌, ◌++◌, map}
use Rattle.std.specs.Prelude.{flat_map, filter, length}
use Rattle.std.specs.List.{list_any, list_all}
use Rattle.ix_values.specs.PlainAction.{Word}
use Rattle.ix_words.specs.Parts.{part}

-- whether a list has no item
abbrev pub is_empty : {A : Type 0} → List A → Bool
is_empty [] = true
is_empty (a ∷ w) = false

-- a as a piece of its own before the others, or in front of the first of them
abbrev pub begin_or_join : {A : Type 0} → A → List (List A) → List (List (List A))
begin_or_join a [] = ((a ∷ []) ∷ []) ∷ []
begin_or_join a (piece ∷ pieces) = ((a ∷ []) ∷ piece ∷ pieces) ∷ ((a ∷ piece) ∷ pieces) ∷ []

-- every way to cut w into pieces that aren't empty
abbrev pub ways_into_pieces : {A : Type 0} → List A → List (List (List A))
ways_into_pieces [] = [] ∷ []
ways_into_pieces (a ∷ w) = flat_map (begin_or_join a) (ways_into_pieces w)

-- whether w is a concatenation of pieces that pass the test
abbrev pub is_concatenation : {A : Type 0} → (List A → Bool) → List A → Bool
is_concatenation test w = list_any (list_all test) (ways_into_pieces w)

-- the numbers below n
abbrev pub numbers_below : ℕ → List ℕ
numbers_below zero = []
numbers_below (suc n) = numbers_below n ++ n ∷ []

-- every list of these choices that is as long as w
abbrev pub lists_as_long : {A K : Type 0} → List K → List A → List (List K)
lists_as_long choices [] = [] ∷ []
lists_as_long choices (a ∷ w) = flat_map (λ owners. map (λ choice. choice ∷ owners) choices)
    (lists_as_long choices w)

-- every way to give the actions of w owner numbers below n
abbrev pub sharings : {A : Type 0} → ℕ → List A → List (List ℕ)
sharings n w = lists_as_long (numbers_below n) w

-- the parts of the numbers below n that aren't empty
abbrev pub parts_below : {A : Type 0} → ℕ → List ℕ → List A → List (List A)
parts_below n owners w =
    filter (λ u. not (is_empty u))
    (map (λ number. part (λ owner. number == owner) owners w) (numbers_below n))

-- every way to give the actions of w owner numbers below its length
abbrev pub numberings : {A : Type 0} → List A → List (List ℕ)
numberings w = sharings (length w) w

-- the parts of the numbers below the length of w that aren't empty
abbrev pub nonempty_parts : {A : Type 0} → List ℕ → List A → List (List A)
nonempty_parts owners w = parts_below (length w) owners w

-- every way to give each action of w one of its own values as its owner
abbrev pub ownings : Word → List (List (List ℕ))
ownings [] = [] ∷ []
ownings (a ∷ w) = flat_map (λ owners. map (λ v. v ∷ owners) a.values) (ownings w)
