-- How a text is cut at its first space.
use Rattle.std.proofs.Common.{take-append-drop, add-one, drop-cons, ◌≡◌, ℕ, ◌+◌, ◌<◌, ◌==◌, Bool, true, false, cond, List, [], ◌∷◌, ◌++◌, length, get_or, take, drop, Some, None, refl, sym, ◌∙◌, ap, arith, nat_lt}
use Rattle.std.specs.List.{position, position_or_len, All}
use Rattle.std.proofs.lemmas.List.Splits.{slice_split_none, slice_split_at}
use Rattle.std.proofs.lemmas.List.Sums.{fails_before_first}
use Rattle.std.proofs.lemmas.List.Folds.{list_any_none}
use Rattle.std.proofs.lemmas.List.Elements.{All-from_get_or}
use Rattle.std.proofs.lemmas.List.Quantifiers.{position-Some}
use Rattle.std.proofs.lemmas.Grind.{common_steps}
use Rattle.std.proofs.lemmas.Bool.Decides.{nat_tests}
use Rattle.ix_lines.specs.Words.{words_of}
use Rattle.ix_lines.specs.inside.WordsBehind.{HasNoSpace}

-- whether a byte is this one
abbrev pub is_byte : ℕ → ℕ → Bool
is_byte wanted byte = byte == wanted

-- whether a byte is a space
abbrev pub is_space : ℕ → Bool
is_space byte = is_byte 32 byte

plain_from_all : (xs : List ℕ) → All (λ x. is_space x ≡ false) xs → HasNoSpace xs
plain_from_all xs h = list_any_none is_space xs h

front_all : (wanted : ℕ) (xs : List ℕ) (at : ℕ) → position (is_byte wanted) xs ≡ Some at
    → All (λ x. is_byte wanted x ≡ false) (take at xs)
front_all wanted xs at e =
    let found = position-Some (is_byte wanted) xs at 0 e in
    All-from_get_or (λ x. is_byte wanted x ≡ false) (take at xs) 0
    (λ k l. let here = found.2 k (grind (arith, common_steps)) in grind (arith, common_steps))

pub front-plain : (xs : List ℕ) (at : ℕ) → position is_space xs ≡ Some at → HasNoSpace (take at xs)
front-plain xs at e = plain_from_all (take at xs) (front_all 32 xs at e)

at_place : (wanted : ℕ) (xs : List ℕ) (at : ℕ) → at < length xs → get_or xs at 0 ≡ wanted
    → take at xs ++ wanted ∷ drop (at + 1) xs ≡ xs
at_place wanted xs at l e =
    let rest : drop at xs ≡ wanted ∷ drop (at + 1) xs = rw (add-one, drop-cons xs at 0, e) refl in
    ap (λ z. take at xs ++ z) (sym rest) ∙ take-append-drop at xs

byte_is : (wanted byte : ℕ) → is_byte wanted byte ≡ true → byte ≡ wanted
byte_is wanted byte e = grind (arith, nat_tests)

-- a text is cut at the first place of a byte
pub cut-at_byte : (wanted : ℕ) (xs : List ℕ) (at : ℕ) → position (is_byte wanted) xs ≡ Some at
    → xs ≡ take at xs ++ wanted ∷ drop (at + 1) xs
cut-at_byte wanted xs at e =
    let found = position-Some (is_byte wanted) xs at 0 e in
    sym (at_place wanted xs at found.0 (byte_is wanted (get_or xs at 0) found.1))

pub cut-at : (xs : List ℕ) (at : ℕ) → position is_space xs ≡ Some at → xs ≡ take at xs ++ 32 ∷ drop (at + 1) xs
cut-at xs at e = cut-at_byte 32 xs at e

pub words-at : (xs : List ℕ) (at : ℕ) → position is_space xs ≡ Some at → words_of xs ≡ take at xs ∷ words_of (drop (at + 1) xs)
words-at xs at e =
    ap words_of (cut-at xs at e) ∙ slice_split_at is_space (take at xs) 32 (drop (at + 1) xs) (front_all 32 xs at e) refl

none_before : (n m k : ℕ) → cond (nat_lt n m) (Some n) None ≡ None → k < m → k < n
none_before n m k e l = grind (arith, nat_tests)

none_all : (xs : List ℕ) → position is_space xs ≡ None → All (λ x. is_space x ≡ false) xs
none_all xs e =
    All-from_get_or (λ x. is_space x ≡ false) xs 0
    (λ k l. fails_before_first is_space xs k 0 (none_before (position_or_len is_space xs) (length xs) k e l))

pub none-plain : (xs : List ℕ) → position is_space xs ≡ None → HasNoSpace xs
none-plain xs e = plain_from_all xs (none_all xs e)

pub words-none : (xs : List ℕ) → position is_space xs ≡ None → words_of xs ≡ xs ∷ []
words-none xs e = slice_split_none is_space xs (none_all xs e)
