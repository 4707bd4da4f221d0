-- The laws of words, as statements: K is the type of owners, A that of items.
use Rattle.std.specs.Prelude.{◌≡◌, ◌≢◌, ℕ, ◌<◌, ◌↔◌, ◌⊎◌, ◌+◌, Bool, true, not, cond, IsTrue}
use Rattle.std.specs.Prelude.{List, [], ◌∷◌, ◌++◌, map, flat_map, filter, length}
use Rattle.std.specs.declared.cmp.Ordering.{Ordering}
use Rattle.ix_words.specs.Each.{Each, Member, EachPair}
use Rattle.ix_words.specs.Parts.{part, joined, Projection}
use Rattle.ix_words.specs.Words.{Joined, Split, Numbered, Shared, Owned, Projected, Closed}
use Rattle.ix_words.specs.Words.{GivesEach}
use Rattle.ix_words.specs.Words.{Repeated}
use Rattle.ix_words.specs.Canon.{IsStrictOrder, Ascending, SameMembers, put_once, canon, cuts}
use Rattle.ix_words.specs.Canon.{splits, with_end, give_end}

-- the part of an appended word is the part of the first with that of the second behind it
abbrev pub PartsAppend : Type 0 → Type 0 → Type 0
PartsAppend K A = (mine : K → Bool) (ks ls : List K) (u v : List A) → length ks ≡ length u
    → part mine (ks ++ ls) (u ++ v) ≡ part mine ks u ++ part mine ls v

-- one more item lengthens exactly the parts of its owner
abbrev pub PartsGrow : Type 0 → Type 0 → Type 0
PartsGrow K A = (mine : K → Bool) (owners : List K) (w : List A) (owner : K) (a : A)
    → length owners ≡ length w
    → part mine (owners ++ owner ∷ []) (w ++ a ∷ [])
    ≡ part mine owners w ++ cond (mine owner) (a ∷ []) []

-- each item is in the left or in the right part
abbrev pub PartsCover : Type 0 → Type 0
PartsCover A = (marks : List Bool) (w : List A) → length marks ≡ length w
    → length (part (λ mark. mark) marks w) + length (part not marks w) ≡ length w

-- where a test says what is in, the projection is the list of the items that pass, and nothing else
abbrev pub ProjectionsByTest : Type 0 → Type 0
ProjectionsByTest A = (test : A → Bool) (w u : List A)
    → Projection (λ a. IsTrue (test a)) w u ↔ (u ≡ filter test w)

-- one more item lengthens the projection exactly where it is in
abbrev pub ProjectionsGrow : Type 0 → Type 0
ProjectionsGrow A = (test : A → Bool) (w u : List A) (a : A)
    → Projection (λ b. IsTrue (test b)) (w ++ a ∷ []) u
    ↔ ((rest : List A) × Projection (λ b. IsTrue (test b)) w rest
    × (u ≡ rest ++ cond (test a) (a ∷ []) []))

-- one more piece stands behind the others
abbrev pub JoinedGrow : Type 0 → Type 0
JoinedGrow A = (pieces : List (List A)) (piece : List A)
    → joined (pieces ++ piece ∷ []) ≡ joined pieces ++ piece

-- the words that pass a test
abbrev pub PassesTest : {A : Type 0} → (List A → Bool) → List A → Type 0
PassesTest test w = IsTrue (test w)

-- fronts of split, numbered, shared, owned and projected words are such words, where fronts of what
-- the parts pass pass
abbrev pub SplitsClosed : Type 0 → Type 0
SplitsClosed A = (q r : List A → Bool) → Closed (PassesTest q) → Closed (PassesTest r)
    → Closed (Split (PassesTest q) (PassesTest r))

abbrev pub NumberedClosed : Type 0 → Type 0
NumberedClosed A = (q : List A → Bool) → Closed (PassesTest q) → Closed (Numbered (PassesTest q))

abbrev pub SharedClosed : Type 0 → Type 0
SharedClosed A = (n : ℕ) (q : List A → Bool) → Closed (PassesTest q)
    → Closed (Shared n (PassesTest q))

abbrev pub OwnedClosed : Type 0 → Type 0 → Type 0
OwnedClosed V A = (same : V → V → Bool) (q : V → List A → Bool)
    → ((v : V) → Closed (PassesTest (q v)))
    → Closed (Owned same (λ v. PassesTest (q v)))

abbrev pub ProjectedClosed : Type 0 → Type 0
ProjectedClosed A = (test : A → Bool) (q : List A → Bool) → Closed (PassesTest q)
    → Closed (Projected (λ a. IsTrue (test a)) (PassesTest q))

-- a front of a joined word is a front of its front, or its front and a front of its back
abbrev pub JoinedFronts : Type 0 → Type 0
JoinedFronts A = (q r : List A → Bool) (u v : List A) → Closed (PassesTest r)
    → Joined (PassesTest q) (PassesTest r) (u ++ v)
    → ((t : List A) × PassesTest q (u ++ t)) ⊎ Joined (PassesTest q) (PassesTest r) u

-- each way to cut w is listed, and no other
abbrev pub CutsAll : Type 0 → Type 0
CutsAll A = (w : List A) (p : List A × List A) → Member p (cuts w) ↔ (w ≡ p.0 ++ p.1)

-- the cuts of w and one more item: the cuts of w with the item behind the back, and the whole with
-- nothing behind it
abbrev pub CutsGrow : Type 0 → Type 0
CutsGrow A = (w : List A) (a : A)
    → cuts (w ++ a ∷ []) ≡ map (with_end a) (cuts w) ++ (w ++ a ∷ [], []) ∷ []

-- each way to split w is listed, and no other
abbrev pub SplitsAll : Type 0 → Type 0
SplitsAll A = (w : List A) (p : List A × List A)
    → Member p (splits w)
    ↔ ((marks : List Bool) × (length marks ≡ length w) × (part (λ mark. mark) marks w ≡ p.0)
    × (part not marks w ≡ p.1))

-- the splits of w and one more item: those of w with the item behind the left or behind the right
-- part
abbrev pub SplitsGrow : Type 0 → Type 0
SplitsGrow A = (w : List A) (a : A)
    → SameMembers (splits (w ++ a ∷ [])) (flat_map (give_end a) (splits w))

-- a canonical list ascends and has the members of its list
abbrev pub CanonStands : Type 0 → Type 0
CanonStands A = (compare : A → A → Ordering) → IsStrictOrder compare → (w : List A)
    → Ascending compare (canon compare w) × SameMembers (canon compare w) w

-- two ascending lists with the same members are one list
abbrev pub AscendingOnce : Type 0 → Type 0
AscendingOnce A = (compare : A → A → Ordering) → IsStrictOrder compare → (u v : List A)
    → Ascending compare u → Ascending compare v → SameMembers u v → u ≡ v

-- lists have one canonical list exactly where they have the same members
abbrev pub CanonByMembers : Type 0 → Type 0
CanonByMembers A = (compare : A → A → Ordering) → IsStrictOrder compare → (u v : List A)
    → SameMembers u v ↔ (canon compare u ≡ canon compare v)

-- the canonical list of an appended list is that of the two canonical lists
abbrev pub CanonAppend : Type 0 → Type 0
CanonAppend A = (compare : A → A → Ordering) → IsStrictOrder compare → (u v : List A)
    → canon compare (u ++ v) ≡ canon compare (canon compare u ++ canon compare v)

-- one more item is put in its place, unless it is there
abbrev pub CanonGrow : Type 0 → Type 0
CanonGrow A = (compare : A → A → Ordering) → IsStrictOrder compare → (w : List A) (a : A)
    → canon compare (w ++ a ∷ []) ≡ put_once compare a (canon compare w)

-- what is made from each item of a canonical list is what is made from each item of the list
abbrev pub CanonEach : Type 0 → Type 0 → Type 0
CanonEach A B = (compare : A → A → Ordering) (order : B → B → Ordering) → IsStrictOrder compare
    → IsStrictOrder order → (make : A → List B) (w : List A)
    → canon order (flat_map make (canon compare w)) ≡ canon order (flat_map make w)

-- owner numbers below the length of the word suffice
abbrev pub NumbersBelowTheLength : Type 0 → Type 0
NumbersBelowTheLength A = (q : List A → Bool) (w : List A) → Numbered (PassesTest q) w
    → (n : Numbered (PassesTest q) w) × Each (λ k. k < length w) n.owners

-- where the items of what passes for v have to do with v, each owner has to do with its item
abbrev pub OwnersOfTheirItems : Type 0 → Type 0 → Type 0
OwnersOfTheirItems V A = (same : V → V → Bool) (q : V → List A → Bool) (own : V → A → Bool)
    → ((v : V) → same v v ≡ true) → ((v : V) → GivesEach (λ a. IsTrue (own v a)) (PassesTest (q v)))
    →
    (w : List A) (h : Owned same (λ v. PassesTest (q v)) w)
    → EachPair (λ v a. IsTrue (own v a)) h.owners w

-- pieces that aren't empty suffice
abbrev pub PiecesAreFilled : Type 0 → Type 0
PiecesAreFilled A = (q : List A → Bool) (w : List A) → Repeated (PassesTest q) w
    → (r : Repeated (PassesTest q) w) × Each (λ piece. piece ≢ []) r.pieces
