-- The faults of a text, and which is the first.
use Rattle.std.specs.Prelude.{◌≡◌, ℕ, suc, ◌<◌, ◌≤◌, List, [], ◌∷◌, ◌++◌, length, map, slice_get}
use Rattle.std.specs.Prelude.{Some}
use Rattle.ix_lex.specs.Lexing.{PlainToken, Piece, token, bad_byte, Pieces}
use Rattle.ix_expr.specs.Form.{Form}
use Rattle.ix_expr.specs.FormFaults.{IsWellFormed, IsFirstFormFault}
use Rattle.ix_parse.specs.declared.faults.Fault.{Fault}
use Rattle.ix_parse.specs.declared.faults.Fault.TheVariants as faults
use Rattle.ix_parse.specs.declared.signs.Quantifier.{Quantifier}
use Rattle.ix_parse.specs.declared.signs.WordClass.{WordClass}
use Rattle.ix_parse.specs.declared.signs.WordClass.TheVariants.{Quantifies, Counts, Names, Other}
use Rattle.ix_parse.specs.Limits.{most_text}
use Rattle.ix_parse.specs.Symbols.{Symbol, word, param, opening, comma, before, between}
use Rattle.ix_parse.specs.Symbols.{symbol_of, class_of, IsNumberWord, Meaning}
use Rattle.ix_parse.specs.Grammar.{Stands, CanGoOn, Wanted, AfterTimes, AfterArgument}

-- the order in which the faults that are met at one place are told
abbrev pub order_of : Fault → ℕ
order_of faults.NoToken = 1
order_of faults.Reserved = 2
order_of faults.NoNumber = 3
order_of faults.FifthArgument = 4
order_of faults.Unexpected = 5
order_of faults.LongName = 6
order_of faults.TooDeep = 7
order_of faults.TooManyNodes = 8
order_of faults.Ended = 9

-- the codes that are told
abbrev pub code_of : Fault → ℕ
code_of faults.NoToken = 2
code_of faults.Reserved = 12
code_of faults.NoNumber = 16
code_of faults.FifthArgument = 10
code_of faults.Unexpected = 3
code_of faults.LongName = 11
code_of faults.TooDeep = 9
code_of faults.TooManyNodes = 8
code_of faults.Ended = 4

-- the next piece is a parameter
pub data ParamNext : List Piece → Type 0 where
  param_next : (t : PlainToken) (p : List ℕ) (rest : List Piece) → symbol_of t ≡ param p
      → ParamNext (token t ∷ rest)

-- the next piece is a word
pub data WordNext : List Piece → Type 0 where
  word_next : (t : PlainToken) (at : ℕ) (w : List ℕ) (rest : List Piece) → symbol_of t ≡ word at w
      → WordNext (token t ∷ rest)

-- a word that begins nothing: `times` with no word behind it, or a quantifier's word with no
-- parameter behind it
pub data BeginsNoOperand : List ℕ → List Piece → Type 0 where
  no_word : (w : List ℕ) (rest : List Piece) → class_of w ≡ Counts → ¬ WordNext rest
      → BeginsNoOperand w rest
  no_param : (w : List ℕ) (q : Quantifier) (rest : List Piece) → class_of w ≡ Quantifies q
      → ¬ ParamNext rest → BeginsNoOperand w rest

-- a word that takes an operand: a quantifier's word, or `times`
abbrev pub TakesOperand : WordClass → Type 0
TakesOperand (Quantifies q) = Unit {0}
TakesOperand Counts = Unit {0}
TakesOperand Names = ⊥
TakesOperand Other = ⊥

-- the symbol opens a level in the place of an operand: a parenthesis, a prefix, a quantifier's word
-- or `times`
abbrev pub OpensLevel : Symbol → Type 0
OpensLevel (word at w) = TakesOperand (class_of w)
OpensLevel opening = Unit {0}
OpensLevel (before at sign) = Unit {0}
OpensLevel _ = ⊥

-- the symbol is a node's token: an operator, a prefix, or a word in the place of an operand
abbrev pub IsNode : List Symbol → Symbol → Type 0
IsNode ts (word at w) = (d : ℕ) × Wanted d ts
IsNode ts (before at sign) = Unit {0}
IsNode ts (between at o) = Unit {0}
IsNode ts _ = ⊥

-- of the symbols us, which stand behind ts, n are nodes' tokens
pub data Nodes : List Symbol → List Symbol → ℕ → Type 0 where
  none : (ts : List Symbol) → Nodes ts [] 0
  node : (ts us : List Symbol) (t : Symbol) (n : ℕ) → IsNode ts t → Nodes (ts ++ t ∷ []) us n
      → Nodes ts (t ∷ us) (suc n)
  other : (ts us : List Symbol) (t : Symbol) (n : ℕ) → ¬ IsNode ts t → Nodes (ts ++ t ∷ []) us n
      → Nodes ts (t ∷ us) n

-- the name of a word or a parameter is longer than 32 bytes
abbrev pub IsLong : Symbol → Type 0
IsLong (word at w) = 32 < length w
IsLong (param p) = 32 < length p
IsLong _ = ⊥

-- the fault is met after the symbols ts, at the first of the pieces or, where there is none, at the
-- end
pub data Met (ts : List Symbol) : List Piece → Fault → Type 0 where
  no_token : (at : ℕ) (rest : List Piece) → Met ts (bad_byte at ∷ rest) faults.NoToken
  reserved : (t : PlainToken) (rest : List Piece) (at d : ℕ) (w : List ℕ) → symbol_of t ≡ word at w
      → Wanted d ts → BeginsNoOperand w rest → Met ts (token t ∷ rest) faults.Reserved
  no_number : (t : PlainToken) (rest : List Piece) (at : ℕ) (w : List ℕ) → symbol_of t ≡ word at w
      → AfterTimes ts → ((n : ℕ) → ¬ IsNumberWord w n) → Met ts (token t ∷ rest) faults.NoNumber
  fifth_argument : (t : PlainToken) (rest : List Piece) → symbol_of t ≡ comma → AfterArgument 4 ts
      → Met ts (token t ∷ rest) faults.FifthArgument
  unexpected : (t : PlainToken) (rest : List Piece) → ¬ CanGoOn (ts ++ symbol_of t ∷ [])
      → Met ts (token t ∷ rest) faults.Unexpected
  long_name : (t : PlainToken) (rest : List Piece) → IsLong (symbol_of t)
      → Met ts (token t ∷ rest) faults.LongName
  too_deep : (t : PlainToken) (rest : List Piece) → Wanted 64 ts → OpensLevel (symbol_of t)
      → Met ts (token t ∷ rest) faults.TooDeep
  too_many_nodes : (t : PlainToken) (rest : List Piece) → Nodes [] ts 512 → IsNode ts (symbol_of t)
      → Met ts (token t ∷ rest) faults.TooManyNodes
  ended : ((x : Meaning) → ¬ Stands 1 ts x) → Met ts [] faults.Ended

-- the symbols of tokens
abbrev pub symbols_of : List PlainToken → List Symbol
symbols_of tokens = map symbol_of tokens

-- no fault is met in the pieces before the place n
abbrev pub NothingMet : ℕ → List Piece → Type 0
NothingMet n pieces = (before : List PlainToken) (after : List Piece) (fault : Fault)
    → pieces ≡ map token before ++ after → length before < n → ¬ Met (symbols_of before) after fault

-- where the first of the pieces starts, or the end of the text
abbrev pub place_of : List Piece → ℕ → ℕ
place_of [] end = end
place_of (token t ∷ _) end = t.start
place_of (bad_byte at ∷ _) end = at

-- the first syntax fault of the pieces of a text of this length: nothing is met before its place,
-- and nothing of a lower order at it
pub record IsFirstSyntaxFault (pieces : List Piece) (end code at : ℕ) : Type 0 where
  pub before : List PlainToken
  pub after : List Piece
  pub fault : Fault
  pub split : pieces ≡ map token before ++ after
  pub met : Met (symbols_of before) after fault
  pub nothing_before : NothingMet (length before) pieces
  pub nothing_lower : (other : Fault) → order_of other < order_of fault
      → ¬ Met (symbols_of before) after other
  pub code_is : code ≡ code_of fault
  pub place_is : at ≡ place_of after end

-- the text is of at most 16,384 bytes, meets no syntax fault, and means this
pub record HasMeaning (text : List ℕ) (x : Meaning) : Type 0 where
  pub tokens : List PlainToken
  pub short : length text ≤ most_text
  pub pieces : Pieces 0 text (map token tokens)
  pub nothing_met : NothingMet (suc (length tokens)) (map token tokens)
  pub stands : Stands 1 (symbols_of tokens) x

-- the text stands for the well-formed expression
pub record StandsFor (text : List ℕ) (x : Form) : Type 0 where
  pub places : List ℕ
  pub means : HasMeaning text (record { form = x; places = places })
  pub well_formed : IsWellFormed x

-- the text stands for the well-formed expression of this meaning, and its nodes' tokens start there
pub record IsPlaced (text : List ℕ) (x : Meaning) : Type 0 where
  pub means : HasMeaning text x
  pub well_formed : IsWellFormed x.form

-- the first fault of a text
pub data IsFirstFault (text : List ℕ) : ℕ → ℕ → Type 0 where
  -- the length of the text
  too_long : most_text < length text → IsFirstFault text 1 most_text
  -- a syntax fault
  syntax_fault : (pieces : List Piece) (code at : ℕ) → length text ≤ most_text
      → Pieces 0 text pieces → IsFirstSyntaxFault pieces (length text) code at
      → IsFirstFault text code at
  -- a form fault, at the start of its node's token
  form_fault : (x : Meaning) (code number at : ℕ) → HasMeaning text x
      → IsFirstFormFault x.form code number → slice_get x.places number ≡ Some at
      → IsFirstFault text code at
