-- What `Tokens` has left, as a list that computes, and how its items are seen.
use Rattle.std.specs.Prelude.{ℕ, suc, List, [], ◌∷◌, drop, Option, Some, None, Ok, Err, Result}
use Rattle.std.specs.Prelude.{if◌then◌else◌, ◌==◌}
use Rattle.ix_lex.specs.declared.TokenKind.{TokenKind}
use Rattle.ix_lex.specs.declared.TokenKind.TheVariants.{Word, Param}
use Rattle.ix_lex.specs.declared.Token.{Token}
use Rattle.ix_lex.specs.declared.LexFault.{LexFault}
use Rattle.ix_lex.specs.declared.Tokens.{Tokens}
use Rattle.ix_lex.specs.WordBytes.{is_blank, sign_of, begins}
use Rattle.ix_lines.specs.Bytes.{is_letter, is_word_byte}
use Rattle.ix_lex.specs.Lexing.{PlainToken, Piece, token, bad_byte}

-- a byte put in front of the token that begins next
abbrev pub grown : TokenKind → ℕ → ℕ → List Piece → List Piece
grown kind at b [] = []
grown kind at b (token t ∷ pieces) =
    token (record { kind = kind; bytes = b ∷ t.bytes; start = at; end = t.end }) ∷ pieces
grown kind at b (bad_byte at' ∷ pieces) = []

-- a byte that is a token by itself, unless it is none
abbrev pub single_fault : Option TokenKind → ℕ → ℕ → List Piece → List Piece
single_fault None at b pieces = bad_byte at ∷ []
single_fault (Some kind) at b pieces =
    token (record { kind = kind; bytes = b ∷ []; start = at; end = suc at }) ∷ pieces

-- a byte put in front of a text whose pieces are known
abbrev pub with_byte : ℕ → ℕ → List ℕ → List Piece → List Piece
with_byte at b rest pieces =
    if is_word_byte b then (if begins is_word_byte rest then grown Word at b pieces
    else single_fault (Some Word) at b pieces)
    else (if b == 36 then (if begins is_letter rest then grown Param at b pieces
    else single_fault None at b pieces)
    else (if is_blank b then pieces
    else single_fault (sign_of b) at b pieces))

-- the pieces of a text that starts at this place
unfoldable pub item_pieces : ℕ → List ℕ → List Piece
item_pieces at [] = []
item_pieces at (b ∷ rest) = with_byte at b rest (item_pieces (suc at) rest)

-- a token as plain data
abbrev pub plain_token : Token → PlainToken
plain_token t = record { kind = t.kind; bytes = t.text.now; start = t.start; end = t.end }

-- an item as plain data
abbrev pub item_piece : Result Token LexFault → Piece
item_piece (Ok t) = token (plain_token t)
item_piece (Err fault) = bad_byte fault.at

-- the pieces that are still to come
abbrev pub pieces_left : Tokens → List Piece
pieces_left tokens = item_pieces tokens.place (drop tokens.place tokens.text.now)
