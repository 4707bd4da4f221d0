-- Tokens as the grammar sees them, and what operators and words mean.
use Rattle.std.specs.Prelude.{◌≡◌, ℕ, List, [], ◌∷◌, ◌++◌, Option, Some, None, drop, codes}
use Rattle.std.specs.Prelude.{if◌then◌else◌, decimal}
use Rattle.ix_lex.specs.declared.TokenKind.{TokenKind}
use Rattle.ix_lex.specs.declared.TokenKind.TheVariants as kinds
use Rattle.ix_lex.specs.Lexing.{PlainToken}
use Rattle.ix_values.specs.Order.{text_eq}
use Rattle.ix_values.specs.Texts.{begins_with_letter}
use Rattle.ix_expr.specs.declared.arg.Arg.{Arg}
use Rattle.ix_expr.specs.declared.arg.Arg.TheVariants.{Fixed, Param}
use Rattle.ix_expr.specs.Form as forms
use Rattle.ix_expr.specs.Form.{Form, atom_of}
use Rattle.ix_expr.specs.FormFaults.{IsTimesNumber}
use Rattle.ix_parse.specs.declared.signs.Operator.{Operator}
use Rattle.ix_parse.specs.declared.signs.Operator.TheVariants as operators
use Rattle.ix_parse.specs.declared.signs.Prefix.{Prefix}
use Rattle.ix_parse.specs.declared.signs.Prefix.TheVariants as prefixes
use Rattle.ix_parse.specs.declared.signs.Quantifier.{Quantifier}
use Rattle.ix_parse.specs.declared.signs.Quantifier.TheVariants as quantifiers
use Rattle.ix_parse.specs.declared.signs.WordClass.{WordClass}
use Rattle.ix_parse.specs.declared.signs.WordClass.TheVariants.{Quantifies, Counts, Names, Other}

-- a token of an expression's text; those that may be a node's have their start
pub data Symbol : Type 0 where
  word : ℕ → List ℕ → Symbol
  param : List ℕ → Symbol
  opening : Symbol
  closing : Symbol
  comma : Symbol
  before : ℕ → Prefix → Symbol
  between : ℕ → Operator → Symbol

-- the symbol of a kind, a start and bytes; a parameter's name stands behind its `$`
abbrev pub symbol_by : TokenKind → ℕ → List ℕ → Symbol
symbol_by kinds.Word at bytes = word at bytes
symbol_by kinds.Param at bytes = param (drop 1 bytes)
symbol_by kinds.Open at bytes = opening
symbol_by kinds.Close at bytes = closing
symbol_by kinds.Comma at bytes = comma
symbol_by kinds.Question at bytes = before at prefixes.Opt
symbol_by kinds.Star at bytes = before at prefixes.Star
symbol_by kinds.Hash at bytes = before at prefixes.ParStar
symbol_by kinds.Bar at bytes = between at operators.Or
symbol_by kinds.Amp at bytes = between at operators.And
symbol_by kinds.At at bytes = between at operators.Couple
symbol_by kinds.Plus at bytes = between at operators.Par
symbol_by kinds.Minus at bytes = between at operators.Seq

-- the symbol of a token
abbrev pub symbol_of : PlainToken → Symbol
symbol_of t = symbol_by t.kind t.start t.bytes

-- what a word is in the place of an operand: a quantifier's word, `times`, the name of an atom, or
-- none of these
unfoldable pub class_of : List ℕ → WordClass
class_of w =
    if text_eq w (codes "any") then Quantifies quantifiers.Any
    else (if text_eq w (codes "every") then Quantifies quantifiers.Every
    else (if text_eq w (codes "sync") then Quantifies quantifiers.Sync
    else (if text_eq w (codes "all") then Quantifies quantifiers.All
    else (if text_eq w (codes "times") then Counts
    else (if begins_with_letter w then Names
    else Other)))))

-- the word stands for a number that may stand behind `times`: 2 to 64, in decimal without leading
-- zeros
pub record IsNumberWord (w : List ℕ) (n : ℕ) : Type 0 where
  pub same : w ≡ decimal n
  pub number : IsTimesNumber n

-- how tightly an operator binds, the weakest first
abbrev pub level : Operator → ℕ
level operators.Or = 1
level operators.And = 2
level operators.Couple = 3
level operators.Par = 4
level operators.Seq = 5

-- what an expression's text means: its form, and where each node's token starts, the nodes in
-- pre-order
pub record Meaning : Type 0 where
  pub form : Form
  pub places : List ℕ

-- the form of an operator and its operands
abbrev pub joined_form : Operator → Form → Form → Form
joined_form operators.Or x y = forms.or x y
joined_form operators.And x y = forms.and x y
joined_form operators.Couple x y = forms.couple x y
joined_form operators.Par x y = forms.par x y
joined_form operators.Seq x y = forms.seq x y

-- the form of a prefix and its operand
abbrev pub prefixed_form : Prefix → Form → Form
prefixed_form prefixes.Opt x = forms.opt x
prefixed_form prefixes.Star x = forms.star x
prefixed_form prefixes.ParStar x = forms.par_star x

-- the form of a quantifier, its parameter and its operand
abbrev pub quantified_form : Quantifier → List ℕ → Form → Form
quantified_form quantifiers.Any p x = forms.any p x
quantified_form quantifiers.Every p x = forms.every p x
quantified_form quantifiers.Sync p x = forms.sync p x
quantified_form quantifiers.All p x = forms.all p x

-- an operator between two operands
abbrev pub joined_meaning : Operator → ℕ → Meaning → Meaning → Meaning
joined_meaning o at x y =
    record { form = joined_form o x.form y.form; places = at ∷ x.places ++ y.places }

-- a prefix in front of an operand
abbrev pub prefixed : Prefix → ℕ → Meaning → Meaning
prefixed sign at x = record { form = prefixed_form sign x.form; places = at ∷ x.places }

-- a quantifier in front of an operand
abbrev pub quantified : Quantifier → ℕ → List ℕ → Meaning → Meaning
quantified q at p x = record { form = quantified_form q p x.form; places = at ∷ x.places }

-- `times` and its number in front of an operand
abbrev pub counted : ℕ → ℕ → Meaning → Meaning
counted n at x = record { form = forms.times n x.form; places = at ∷ x.places }

-- an atom
abbrev pub named : ℕ → List ℕ → List Arg → Meaning
named at w arguments = record { form = forms.atom (atom_of w arguments); places = at ∷ [] }

-- the argument that a word or a parameter is
abbrev pub argument_of : Symbol → Option Arg
argument_of (word at v) = Some (Fixed v)
argument_of (param p) = Some (Param p)
argument_of _ = None
