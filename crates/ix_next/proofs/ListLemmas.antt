-- Lists of given values, by one more.
use Rattle.std.proofs.Common.{◌≡◌, ℕ, zero, suc, ◌+◌, ◌<◌, List, [], ◌∷◌, ◌++◌, length, map, take, get_or, arith, refl, sym, ap, subst, ◌∙◌, append-nil}
use Rattle.std.proofs.Common.{◌⊎◌, inl, inr, Option, Some, None}
use Rattle.std.specs.Prelude.{IsSome, MatchOption}
use Rattle.std.specs.List.{flat_map}
use Rattle.ix_words.specs.Each.{Each, Member, here, there, no_item, item}
use Rattle.ix_words.proofs.Canon.{flat_map-append}
use Rattle.ix_words.proofs.Each.{Each-append}
use Rattle.std.proofs.lemmas.List.{length-append, map-append, take_more}
use Rattle.ix_lines.specs.TextLines.{bytes_of}
use Rattle.ix_next.specs.Given.{IsGivenText, PlainGiven}
use Rattle.ix_next.specs.Lists.{AreGiven, IsGiven, StandOnce}

-- no bytes
pub empty_is : (bytes : List ℕ) → length bytes ≡ 0 → bytes ≡ []
empty_is [] is = refl
empty_is (b ∷ bytes) is = absurd (omega (arith, is))

-- one text more, and its given value
pub are_more : (texts : List (List ℕ)) (given : List PlainGiven) (text : List ℕ) (g : PlainGiven)
    → AreGiven texts given → IsGivenText text g → AreGiven (texts ++ text ∷ []) (given ++ g ∷ [])
are_more [] [] text g are is = (is, tt)
are_more [] (h ∷ given) text g are is = absurd are
are_more (t ∷ texts) [] text g are is = absurd are
are_more (t ∷ texts) (h ∷ given) text g are is = (are.0, are_more texts given text g are.1 is)

-- a text among some stands first or behind
split : {t u : List ℕ} {us : List (List ℕ)} → Member t (u ∷ us) → (t ≡ u) ⊎ Member t us
split here = inl refl
split (there m) = inr m

not_among : (t text : List ℕ) (us : List (List ℕ)) → ¬ Member t us → ¬ (t ≡ text) → ¬ Member t (us ++ text ∷ [])
not_among t text [] none apart m = elim (split m) [ inl e ↦ apart e | inr n ↦ none n ]
not_among t text (u ∷ us) none apart m = elim (split m) [
  | inl e ↦ none (subst (λ v. Member t (v ∷ us)) e here)
  | inr n ↦ not_among t text us (λ k. none (there k)) apart n
]

-- one that doesn't stand before
pub once_more : (texts : List (List ℕ)) (text : List ℕ) → StandOnce texts → ¬ Member text texts
    → StandOnce (texts ++ text ∷ [])
once_more [] text once new = (new, tt)
once_more (t ∷ texts) text once new = (
  not_among t text texts once.0 (λ same. new (subst (λ u. Member text (u ∷ texts)) (sym same) here)),
  once_more texts text once.1 (λ m. new (there m)),
)

-- the bytes that one line more takes
pub bytes_more : (texts : List (List ℕ)) (text : List ℕ)
    → bytes_of (texts ++ text ∷ []) ≡ bytes_of texts + (length text + 1)
bytes_more texts text =
    ap length (flat_map-append (λ line. line ++ 10 ∷ []) texts (text ∷ []))
    ∙ length-append (flat_map (λ line. line ++ 10 ∷ []) texts) ((text ++ 10 ∷ []) ++ [])
    ∙ ap (λ n. bytes_of texts + n) (ap length (append-nil (text ++ 10 ∷ [])) ∙ length-append text (10 ∷ []))

-- there are as many given values as texts
pub are_as_many : (texts : List (List ℕ)) (given : List PlainGiven) → AreGiven texts given
    → length texts ≡ length given
are_as_many [] [] are = refl
are_as_many [] (g ∷ given) are = absurd are
are_as_many (t ∷ texts) [] are = absurd are
are_as_many (t ∷ texts) (g ∷ given) are = ap suc (are_as_many texts given are.1)

module _ {A : Type 0} (f : A → List ℕ) where
  -- the text at a place is a given value's, if each is
  pub given_at : (xs : List A) (i : ℕ) (x : A) → i < length xs → x ≡ get_or xs i x
      → Each IsGiven (map f xs) → IsGiven (f x)
  given_at [] i x lt is each = absurd (omega (arith, lt))
  given_at (y ∷ xs) zero x lt is (item given more) = subst (λ z. IsGiven (f z)) (sym is) given
  given_at (y ∷ xs) (suc i) x lt is (item given more) = given_at xs i x (omega (arith, lt)) is more

  -- the texts up to one more place
  taken_next : (xs : List A) (i : ℕ) (x : A) → i < length xs → x ≡ get_or xs i x
      → map f (take (i + 1) xs) ≡ map f (take i xs) ++ f x ∷ []
  taken_next xs i x lt is =
      ap (map f) (take_more xs i x lt ∙ ap (λ y. take i xs ++ y ∷ []) (sym is)) ∙ map-append f (take i xs) (x ∷ [])

  pub given_next : (xs : List A) (i : ℕ) (x : A) → i < length xs → x ≡ get_or xs i x
      → Each IsGiven (map f (take i xs)) → IsGiven (f x) → Each IsGiven (map f (take (i + 1) xs))
  given_next xs i x lt is each given =
      subst (Each IsGiven) (sym (taken_next xs i x lt is)) (Each-append each (item given no_item))

  pub are_next : (xs : List A) (i : ℕ) (x : A) (given : List PlainGiven) (g : PlainGiven) → i < length xs
      → x ≡ get_or xs i x → AreGiven (map f (take i xs)) given → IsGivenText (f x) g
      → AreGiven (map f (take (i + 1) xs)) (given ++ g ∷ [])
  are_next xs i x given g lt is are text =
      subst (λ ts. AreGiven ts (given ++ g ∷ [])) (sym (taken_next xs i x lt is))
      (are_more (map f (take i xs)) given (f x) g are text)

  -- a text that isn't among those up to one more place
  pub member_next : (text : List ℕ) (xs : List A) (i : ℕ) (d : A) → i < length xs
      → ¬ Member text (map f (take i xs)) → ¬ (text ≡ f (get_or xs i d)) → ¬ Member text (map f (take (i + 1) xs))
  member_next text xs i d lt none apart m =
      not_among text (f (get_or xs i d)) (map f (take i xs)) none apart
      (subst (Member text) (ap (map f) (take_more xs i d lt) ∙ map-append f (take i xs) (get_or xs i d ∷ [])) m)

  -- a text at a place is among them
  pub member_at : (text : List ℕ) (xs : List A) (i : ℕ) (d : A) → i < length xs
      → f (get_or xs i d) ≡ text → Member text (map f xs)
  member_at text [] i d lt same = absurd (omega (arith, lt))
  member_at text (y ∷ xs) zero d lt same = subst (λ t. Member t (map f (y ∷ xs))) same here
  member_at text (y ∷ xs) (suc i) d lt same = there (member_at text xs i d (omega (arith, lt)) same)

-- among texts that are given values, each once, one more
pub record Grown (texts : List (List ℕ)) (given : List PlainGiven) : Type 0 where
  pub are : AreGiven texts given
  pub once : StandOnce texts

pub grown : (texts : List (List ℕ)) (given : List PlainGiven) (text : List ℕ) (g : PlainGiven)
    → AreGiven texts given → StandOnce texts → IsGivenText text g → ¬ Member text texts
    → Grown (texts ++ text ∷ []) (given ++ g ∷ [])
grown texts given text g are once is new = record {
  are = are_more texts given text g are is;
  once = once_more texts text once new;
}

-- what was read of a given value's text is one
pub some_given : (text : List ℕ) (r : Option PlainGiven)
    → MatchOption r ((g : PlainGiven) → ¬ IsGivenText text g) (IsGivenText text) → IsGiven text → IsSome r
some_given text None none given = absurd (none given.given given.is)
some_given text (Some g) is given = refl
