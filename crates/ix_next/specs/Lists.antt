-- Lists of given values, as texts and as the lines of a file.
use Rattle.std.specs.Prelude.{◌≡◌, ℕ, ◌≤◌, List, [], ◌∷◌, ◌++◌, length}
use Rattle.ix_words.specs.Each.{Member}
use Rattle.ix_lines.specs.TextLines.{bytes_of, lines_of}
use Rattle.ix_next.specs.Given.{IsGivenText}
use Rattle.ix_next.specs.Given.{PlainGiven}

-- the text is that of a given value
pub record IsGiven (text : List ℕ) : Type 0 where
  pub given : PlainGiven
  pub is : IsGivenText text given

-- the texts are those of these given values
abbrev pub AreGiven : List (List ℕ) → List PlainGiven → Type 0
AreGiven [] [] = Unit {0}
AreGiven [] (g ∷ given) = ⊥
AreGiven (text ∷ texts) [] = ⊥
AreGiven (text ∷ texts) (g ∷ given) = IsGivenText text g × AreGiven texts given

-- no text stands twice
abbrev pub StandOnce : List (List ℕ) → Type 0
StandOnce [] = Unit {0}
StandOnce (text ∷ texts) = (¬ Member text texts) × StandOnce texts

-- the most given values of a file
abbrev pub most_listed : ℕ
most_listed = 64

-- each text is that of a given value, none stands twice, and there aren't too many
pub record AreGood (texts : List (List ℕ)) (given : List PlainGiven) : Type 0 where
  pub are : AreGiven texts given
  pub once : StandOnce texts
  pub few : length texts ≤ most_listed

-- why the text isn't one more of them: it is no given value's, it stands before, or there are as
-- many already as there may be
pub data IsBadLine (before : List (List ℕ)) (text : List ℕ) : ℕ → Type 0 where
  other : (¬ IsGiven text) → IsBadLine before text 72
  again : IsGiven text → Member text before → IsBadLine before text 73
  full : IsGiven text → ¬ Member text before → length before ≡ most_listed
      → IsBadLine before text 74

-- the lines of the bytes aren't a list of given values: there is none, or this is the first that
-- isn't one more behind those before it, by its place in the bytes
pub data HasBadLine (bytes : List ℕ) : ℕ → ℕ → Type 0 where
  none : bytes ≡ [] → HasBadLine bytes 75 0
  one : {bad : List ℕ} {code : ℕ} {given : List PlainGiven} (before behind : List (List ℕ))
      → lines_of bytes ≡ before ++ bad ∷ behind → AreGood before given
      → IsBadLine before bad code
      → HasBadLine bytes code (bytes_of before)
