-- The token that a text begins with, by its first byte.
use Rattle.std.proofs.Common.{◌≡◌, ℕ, suc, ◌+◌, true, List, [], ◌∷◌, length, take, drop, sym, subst, ◌∙◌, arith, ap}
use Rattle.std.specs.List.{prefix_len, take_while}
use Rattle.std.proofs.lemmas.List.Sums.{prefix_len-le-length}
use Rattle.ix_lex.specs.declared.TokenKind.TheVariants.{Word, Param}
use Rattle.ix_lex.specs.WordBytes.{begins}
use Rattle.ix_lines.specs.Bytes.{is_letter, is_word_byte}
use Rattle.ix_lex.specs.Lexing.{BeginsWith}
use Rattle.ix_lex.specs.inside.FirstToken.{FirstToken}
use Rattle.ix_lex.proofs.ByteClasses.{letter-word}
use Rattle.ix_lex.proofs.LongestRuns.{one-add, run_passes, run_ends, length-take_while}

-- a word byte begins a word
pub FirstToken-word : (first : ℕ) (after : List ℕ) (n : ℕ) → is_word_byte first ≡ true → n ≡ length (take_while is_word_byte after) → FirstToken Word (1 + n) (first ∷ after)
FirstToken-word first after n is_word run =
    let k = prefix_len is_word_byte after in
    let e : 1 + n ≡ suc k = one-add n ∙ ap suc (length-take_while is_word_byte after n run) in
    subst (λ m. FirstToken Word m (first ∷ after)) (sym e)
    (omega (arith, prefix_len-le-length is_word_byte after), BeginsWith.word first (take k after) (drop k after) (rw is_word (run_passes is_word_byte after)) (run_ends is_word_byte after))

-- `$` and a letter begin a parameter
param-run : (b : ℕ) (rest : List ℕ) (k : ℕ) → is_letter b ≡ true → k ≡ prefix_len is_word_byte (b ∷ rest) → FirstToken Param (suc k) (36 ∷ b ∷ rest)
param-run b rest k letter e =
    let j = prefix_len is_word_byte rest in
    let word = letter-word b letter in
    let k_is : k ≡ suc j = rw word at e ∙ one-add j in
    subst (λ m. FirstToken Param (suc m) (36 ∷ b ∷ rest)) (sym k_is)
    (omega (arith, prefix_len-le-length is_word_byte rest), BeginsWith.param b (take j rest) (drop j rest) letter (rw word (run_passes is_word_byte rest)) (run_ends is_word_byte rest))

pub FirstToken-param : (after : List ℕ) (n : ℕ) → begins is_letter after ≡ true → n ≡ length (take_while is_word_byte after) → FirstToken Param (1 + n) (36 ∷ after)
FirstToken-param [] n letter run = absurd cc
FirstToken-param (b ∷ rest) n letter run =
    subst (λ m. FirstToken Param m (36 ∷ b ∷ rest)) (sym (one-add n)) (param-run b rest n letter (length-take_while is_word_byte (b ∷ rest) n run))
