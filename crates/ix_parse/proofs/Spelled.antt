-- The tokens of a text are spelled as words and parameters are, so that the reader can take them.
use Rattle.std.proofs.Common.{◌≡◌, ℕ, suc, ◌+◌, ◌<◌, Bool, true, false, cond, eqb, List, [], ◌∷◌, ◌++◌, length, map, Option, Some, subst, arith, ltb-false}
use Rattle.std.specs.List.{list_all}
use Rattle.ix_values.specs.Texts.{begins_with_letter}
use Rattle.ix_lex.specs.declared.TokenKind.{TokenKind}
use Rattle.ix_lex.specs.declared.TokenKind.TheVariants as kinds
use Rattle.ix_lex.specs.WordBytes.{sign_of}
use Rattle.ix_lines.specs.Bytes.{is_word_byte}
use Rattle.ix_lex.specs.Lexing.{PlainToken, Piece, token, bad_byte, BeginsWith, Pieces}
use Rattle.ix_parse.specs.Symbols.{Symbol, word, param, opening, closing, comma, before, between, symbol_by, symbol_of}
use Rattle.ix_parse.specs.inside.Configs.{IsReadable}
use Rattle.ix_parse.specs.inside.Judged.{is_long}

-- a word has word bytes, and a parameter's name begins with a letter
abbrev pub IsSpelled : Symbol → Type 0
IsSpelled (word at w) = (0 < length w) × (list_all is_word_byte w ≡ true)
IsSpelled (param p) = (begins_with_letter p ≡ true) × (list_all is_word_byte p ≡ true)
IsSpelled opening = Unit {0}
IsSpelled closing = Unit {0}
IsSpelled comma = Unit {0}
IsSpelled (before at p) = Unit {0}
IsSpelled (between at o) = Unit {0}

abbrev AlwaysSpelled : TokenKind → Type 0
AlwaysSpelled kind = (at : ℕ) (bytes : List ℕ) → IsSpelled (symbol_by kind at bytes)

-- a sign is neither a word nor a parameter
peel : (v : Bool) (one kind : TokenKind) (rest : Option TokenKind) → AlwaysSpelled one → (rest ≡ Some kind → AlwaysSpelled kind) → cond v (Some one) rest ≡ Some kind → AlwaysSpelled kind
peel true one kind rest here others e = let same : one ≡ kind = cc in subst AlwaysSpelled same here
peel false one kind rest here others e = others e

sign-spelled : (kind : TokenKind) (b : ℕ) → sign_of b ≡ Some kind → AlwaysSpelled kind
sign-spelled kind b =
    peel (eqb b 40) kinds.Open kind _ (λ at bytes. tt)
    (peel (eqb b 41) kinds.Close kind _ (λ at bytes. tt)
    (peel (eqb b 44) kinds.Comma kind _ (λ at bytes. tt)
    (peel (eqb b 63) kinds.Question kind _ (λ at bytes. tt)
    (peel (eqb b 42) kinds.Star kind _ (λ at bytes. tt)
    (peel (eqb b 35) kinds.Hash kind _ (λ at bytes. tt)
    (peel (eqb b 43) kinds.Plus kind _ (λ at bytes. tt)
    (peel (eqb b 124) kinds.Bar kind _ (λ at bytes. tt)
    (peel (eqb b 38) kinds.Amp kind _ (λ at bytes. tt)
    (peel (eqb b 64) kinds.At kind _ (λ at bytes. tt)
    (peel (eqb b 45) kinds.Minus kind _ (λ at bytes. tt) (λ e. absurd cc)))))))))))

token-spelled : (kind : TokenKind) (bytes rest : List ℕ) (at : ℕ) → BeginsWith kind bytes rest → IsSpelled (symbol_by kind at bytes)
token-spelled _ _ _ at (BeginsWith.word b bs rest all ends) = (omega arith, all)
token-spelled _ _ _ at (BeginsWith.param b bs rest letter all ends) = (letter, all)
token-spelled _ _ _ at (BeginsWith.sign kind b rest is) = sign-spelled kind b is at (b ∷ [])

abbrev AllSpelled : List Piece → Type 0
AllSpelled [] = Unit {0}
AllSpelled (token t ∷ pieces) = IsSpelled (symbol_of t) × AllSpelled pieces
AllSpelled (bad_byte at ∷ pieces) = AllSpelled pieces

pieces-spelled : (at : ℕ) (bytes : List ℕ) (pieces : List Piece) → Pieces at bytes pieces → AllSpelled pieces
pieces-spelled _ _ _ (Pieces.done at) = tt
pieces-spelled _ _ _ (Pieces.blank at b rest pieces blank after) = pieces-spelled (suc at) rest pieces after
pieces-spelled _ _ _ (Pieces.next at kind bytes rest pieces first after) = (token-spelled kind bytes rest at first, pieces-spelled (at + length bytes) rest pieces after)
pieces-spelled _ _ _ (Pieces.bad at b rest bad) = tt

spelled-at : (us : List PlainToken) (t : PlainToken) (rest : List Piece) → AllSpelled (map token us ++ token t ∷ rest) → IsSpelled (symbol_of t)
spelled-at [] t rest all = all.0
spelled-at (u ∷ us) t rest all = spelled-at us t rest all.1

-- what is spelled and isn't long can be taken
readable : (u : Symbol) → IsSpelled u → is_long u ≡ false → IsReadable u
readable (word at w) spelled short = record { begins = spelled.0; word = spelled.1; short = ltb-false 32 (length w) short }
readable (param p) spelled short = record { begins = spelled.0; word = spelled.1; short = ltb-false 32 (length p) short }
readable opening spelled short = tt
readable closing spelled short = tt
readable comma spelled short = tt
readable (before at p) spelled short = tt
readable (between at o) spelled short = tt

pub token-readable : (text : List ℕ) (pieces rest : List Piece) (us : List PlainToken) (t : PlainToken) → Pieces 0 text pieces → pieces ≡ map token us ++ token t ∷ rest → is_long (symbol_of t) ≡ false → IsReadable (symbol_of t)
token-readable text pieces rest us t cut split short = readable (symbol_of t) (spelled-at us t rest (subst AllSpelled split (pieces-spelled 0 text pieces cut))) short
