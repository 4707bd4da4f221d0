-- The longest run of bytes that pass a test, at the front of a text.
use Rattle.std.proofs.Common.{◌≡◌, ℕ, suc, ◌+◌, Bool, true, false, cond, List, [], ◌∷◌, ◌++◌, length, take, drop, refl, ap, ◌∙◌, arith, ◌&&◌}
use Rattle.std.specs.List.{list_all, prefix_len, take_while}
use Rattle.std.proofs.lemmas.List.Folds.{length-prefix_len}
use Rattle.ix_lex.specs.WordBytes.{begins}

pub one-add : (n : ℕ) → 1 + n ≡ suc n
one-add n = omega arith

-- each byte of the run passes
passes-step : (p : ℕ → Bool) (x : ℕ) (xs : List ℕ) (n : ℕ) (v : Bool) → p x ≡ v → list_all p (take n xs) ≡ true → list_all p (take (cond v (1 + n) 0) (x ∷ xs)) ≡ true
passes-step p x xs n true e h = rw (one-add n, e) h
passes-step p x xs n false e h = refl

pub run_passes : (p : ℕ → Bool) (xs : List ℕ) → list_all p (take (prefix_len p xs) xs) ≡ true
run_passes p [] = refl
run_passes p (x ∷ xs) = passes-step p x xs (prefix_len p xs) (p x) refl (run_passes p xs)

-- no byte that passes follows the run
ends-step : (p : ℕ → Bool) (x : ℕ) (xs : List ℕ) (n : ℕ) (v : Bool) → p x ≡ v → begins p (drop n xs) ≡ false → begins p (drop (cond v (1 + n) 0) (x ∷ xs)) ≡ false
ends-step p x xs n true e h = rw (one-add n) h
ends-step p x xs n false e h = e

pub run_ends : (p : ℕ → Bool) (xs : List ℕ) → begins p (drop (prefix_len p xs) xs) ≡ false
run_ends p [] = refl
run_ends p (x ∷ xs) = ends-step p x xs (prefix_len p xs) (p x) refl (run_ends p xs)

-- the run in front of a text that doesn't go on with it
pub prefix_len-run : (p : ℕ → Bool) (bs rest : List ℕ) → list_all p bs ≡ true → begins p rest ≡ false → prefix_len p (bs ++ rest) ≡ length bs
prefix_len-run p [] [] all ends = refl
prefix_len-run p [] (r ∷ rest) all ends = rw ends refl
prefix_len-run p (b ∷ bs) rest all ends = run-step p b bs rest (p b) refl all (prefix_len-run p bs rest) ends
  where
    run-step : (p : ℕ → Bool) (b : ℕ) (bs rest : List ℕ) (v : Bool) → p b ≡ v → v && list_all p bs ≡ true → (list_all p bs ≡ true → begins p rest ≡ false → prefix_len p (bs ++ rest) ≡ length bs) → begins p rest ≡ false → cond v (1 + prefix_len p (bs ++ rest)) 0 ≡ suc (length bs)
    run-step p b bs rest true e all more ends = one-add _ ∙ ap suc (more all ends)
    run-step p b bs rest false e all more ends = cc

-- the run in front of a text is as long as the elements that are taken from it
pub length-take_while : (p : ℕ → Bool) (xs : List ℕ) (n : ℕ) → n ≡ length (take_while p xs) → n ≡ prefix_len p xs
length-take_while p xs n e = e ∙ length-prefix_len p xs
