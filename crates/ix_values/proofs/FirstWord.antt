-- The word bytes that a text begins with, at most 32 of them.
use Rattle.std.proofs.Common.{◌≡◌, ℕ, zero, suc, ◌+◌, ◌<◌, ◌≤◌, Bool, true, false, cond, List, [], ◌∷◌, ◌++◌, length, take, drop, get_or, refl, sym, ◌∙◌, ap, subst, arith, true≢false, length-take-le, length-drop, take-add}
use Rattle.std.specs.Prelude.{◌&&◌, Option, Some, None, slice_get, MatchOption}
use Rattle.std.specs.List.{list_all, prefix_len}
use Rattle.ix_lines.specs.Bytes.{is_word_byte}
use Rattle.ix_values.specs.inside.FirstWord.{word_length, first_word}
use Rattle.ix_values.specs.Texts.{IsName, IsValue, begins_with_letter}
use Rattle.ix_values.proofs.Machine.{letters_are_words}
use Rattle.ix_values.proofs.Stuck.{word_next, slice_get-drop, head}
use Rattle.std.proofs.lemmas.List.{drop-drop, take_more}
use Rattle.std.proofs.lemmas.Option.{slice_get_within, slice_get-get_or}

module _ (test : ℕ → Bool) where
  -- how many of the first n items pass the test, up to the first that doesn't
  abbrev run_length : ℕ → List ℕ → ℕ
  run_length n text = prefix_len test (take n text)

  abbrev passes : Option ℕ → Bool
  passes None = false
  passes (Some byte) = test byte

  pub run_short : (n : ℕ) (text : List ℕ) → run_length n text ≤ n
  run_short zero text = omega arith
  run_short (suc n) [] = omega arith
  run_short (suc n) (x ∷ xs) = by (test x) (run_short n xs)
    where
      by : (b : Bool) → run_length n xs ≤ n → cond b (1 + run_length n xs) 0 ≤ suc n
      by true before = omega arith
      by false before = omega arith

  pub run_within : (n : ℕ) (text : List ℕ) → run_length n text ≤ length text
  run_within zero text = omega arith
  run_within (suc n) [] = omega arith
  run_within (suc n) (x ∷ xs) = by (test x) (run_within n xs)
    where
      by : (b : Bool) → run_length n xs ≤ length xs → cond b (1 + run_length n xs) 0 ≤ suc (length xs)
      by true before = omega arith
      by false before = omega arith

  pub run_passes : (n : ℕ) (text : List ℕ) → list_all test (take (run_length n text) text) ≡ true
  run_passes zero text = refl
  run_passes (suc n) [] = refl
  run_passes (suc n) (x ∷ xs) = by (test x) refl (run_passes n xs)
    where
      by : (b : Bool) → test x ≡ b → list_all test (take (run_length n xs) xs) ≡ true → list_all test (take (cond b (1 + run_length n xs) 0) (x ∷ xs)) ≡ true
      by true e before = subst (λ k. list_all test (take k (x ∷ xs)) ≡ true) (suc_is (run_length n xs)) (ap (λ t. t && list_all test (take (run_length n xs) xs)) e ∙ before)
        where
          suc_is : (k : ℕ) → suc k ≡ 1 + k
          suc_is k = omega arith
      by false e before = refl

  pub run_ends : (n : ℕ) (text : List ℕ) → passes (slice_get text (run_length n text)) ≡ true → run_length n text ≡ n
  run_ends zero text h = refl
  run_ends (suc n) [] h = absurd (true≢false (sym h))
  run_ends (suc n) (x ∷ xs) h = by (test x) refl (run_ends n xs) h
    where
      suc_is : (k : ℕ) → 1 + k ≡ suc k
      suc_is k = omega arith

      by : (b : Bool) → test x ≡ b → (passes (slice_get xs (run_length n xs)) ≡ true → run_length n xs ≡ n) → passes (slice_get (x ∷ xs) (cond b (1 + run_length n xs) 0)) ≡ true → cond b (1 + run_length n xs) 0 ≡ suc n
      by true e before p = suc_is (run_length n xs) ∙ ap suc (before (subst (λ k. passes (slice_get (x ∷ xs) k) ≡ true) (suc_is (run_length n xs)) p))
      by false e before p = absurd (true≢false (sym p ∙ e))

word_passes : (o : Option ℕ) → passes is_word_byte o ≡ word_next o
word_passes None = refl
word_passes (Some byte) = refl

pub word_length-within : (text : List ℕ) → word_length text ≤ length text
word_length-within text = run_within is_word_byte 32 text

-- the text of these bytes is as long as there are such bytes
pub length-first_word : (text : List ℕ) → length (first_word text) ≡ word_length text
length-first_word text = length-take-le (word_length text) text (word_length-within text)

-- where a word byte follows, there are 32 of them
pub full_word : (text : List ℕ) → word_next (slice_get text (word_length text)) ≡ true → word_length text ≡ 32
full_word text h = run_ends is_word_byte 32 text (word_passes (slice_get text (word_length text)) ∙ h)

-- where there are none, none stands first
pub no_word_next : (text : List ℕ) → word_length text ≡ 0 → word_next (slice_get text 0) ≡ false
no_word_next text none = by (word_next (slice_get text 0)) refl
  where
    by : (b : Bool) → word_next (slice_get text 0) ≡ b → b ≡ false
    by true h = absurd (let full : word_length text ≡ 32 = full_word text (ap (λ k. word_next (slice_get text k)) none ∙ h) in omega arith)
    by false h = refl

-- a first word is a value, unless it is empty
pub value_first : (text : List ℕ) → 0 < word_length text → IsValue (first_word text)
value_first text some = record {
  begins = omega (arith, length-first_word text);
  word = run_passes is_word_byte 32 text;
  short = omega (arith, length-first_word text, run_short is_word_byte 32 text);
}

starts_with_word : (text : List ℕ) → begins_with_letter text ≡ true → 0 < word_length text
starts_with_word [] h = absurd (true≢false (sym h))
starts_with_word (x ∷ xs) h = subst (λ t. 0 < cond t (1 + prefix_len is_word_byte (take 31 xs)) 0) (sym (letters_are_words x h)) (omega arith)

begins-take : (text : List ℕ) (k : ℕ) → 0 < k → begins_with_letter text ≡ true → begins_with_letter (take k text) ≡ true
begins-take [] zero some h = absurd (omega arith)
begins-take [] (suc k) some h = h
begins-take (x ∷ xs) zero some h = absurd (omega arith)
begins-take (x ∷ xs) (suc k) some h = h

-- a first word is a name where the text begins with a letter
pub name_first : (text : List ℕ) → begins_with_letter text ≡ true → IsName (first_word text)
name_first text h =
    let some : 0 < word_length text = starts_with_word text h in
    let value : IsValue (first_word text) = value_first text some in
    record { begins = begins-take text (word_length text) some h; word = value.word; short = value.short }

-- what the readers of a first name and of a first value answer

pub name_answer : (o : Option (List ℕ)) (text : List ℕ) (k : ℕ) → k ≡ word_length text → MatchOption o (¬ IsName (take k text)) (λ name. (name ≡ take k text) × IsName (take k text)) → MatchOption o (begins_with_letter text ≡ false) (λ name. (name ≡ first_word text) × IsName name)
name_answer None text k e none = by (begins_with_letter text) refl
  where
    by : (b : Bool) → begins_with_letter text ≡ b → b ≡ false
    by true h = absurd (none (subst (λ n. IsName (take n text)) (sym e) (name_first text h)))
    by false h = refl
name_answer (Some name) text k e some = (some.0 ∙ ap (λ n. take n text) e, subst IsName (sym some.0) some.1)

pub value_answer : (o : Option (List ℕ)) (text : List ℕ) (k : ℕ) → k ≡ word_length text → MatchOption o (¬ IsValue (take k text)) (λ value. (value ≡ take k text) × IsValue (take k text)) → MatchOption o (word_length text ≡ 0) (λ value. (value ≡ first_word text) × IsValue value)
value_answer None text k e none = by (word_length text) refl
  where
    by : (n : ℕ) → word_length text ≡ n → n ≡ 0
    by zero h = refl
    by (suc n) h = absurd (none (subst (λ m. IsValue (take m text)) (sym e) (value_first text (omega arith))))
value_answer (Some value) text k e some = (some.0 ∙ ap (λ n. take n text) e, subst IsValue (sym some.0) some.1)

slice_get-add : (text : List ℕ) (at n : ℕ) → slice_get text (at + n) ≡ slice_get (drop at text) n
slice_get-add text at n = slice_get-drop text (at + n) ∙ sym (ap head (drop-drop n at text)) ∙ sym (slice_get-drop (drop at text) n)

-- a word that was read at a place: what stands in front of its end, and that a word byte behind it stands behind 32 others
pub record WasRead (text : List ℕ) (at : ℕ) (word : List ℕ) : Type 0 where
  pub within : at + length word ≤ length text
  pub front : take (at + length word) text ≡ take at text ++ word
  pub full : word_next (slice_get text (at + length word)) ≡ true → length word ≡ 32

pub first_word-WasRead : (text : List ℕ) (at : ℕ) (word : List ℕ) → at ≤ length text → word ≡ first_word (drop at text) → WasRead text at word
first_word-WasRead text at word within is =
    let rest : List ℕ = drop at text in
    let long : length word ≡ word_length rest = ap length is ∙ length-first_word rest in
    record {
      within = omega (arith, word_length-within rest, length-drop at text);
      front = take-add at (length word) text ∙ ap (λ xs. take at text ++ xs) (ap (λ k. take k rest) long ∙ sym is);
      full = λ h. long ∙ full_word rest (ap word_next (ap (slice_get rest) (sym long) ∙ sym (slice_get-add text at (length word))) ∙ h);
    }

-- one byte more
pub take-next : (text front : List ℕ) (k byte : ℕ) → take k text ≡ front → slice_get text k ≡ Some byte → take (k + 1) text ≡ front ++ byte ∷ []
take-next text front k byte before here =
    let below : k < length text = slice_get_within text k byte here in
    let is : Some (get_or text k byte) ≡ Some byte = sym (slice_get-get_or text k byte below) ∙ here in
    take_more text k byte below ∙ join before (same is)
  where
    same : {x y : ℕ} → Some x ≡ Some y → x ≡ y
    same e = cc

    join : {xs ys : List ℕ} {x y : ℕ} → xs ≡ ys → x ≡ y → xs ++ x ∷ [] ≡ ys ++ y ∷ []
    join e f = λ i. e i ++ f i ∷ []
