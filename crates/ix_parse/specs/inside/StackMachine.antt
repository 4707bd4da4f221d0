-- The stack machine that the reader runs: it reads the grammar without recursion.
use Rattle.std.specs.Prelude.{ℕ, zero, suc, ◌+◌, List, [], ◌∷◌, ◌++◌, length, Option, Some, None}
use Rattle.std.specs.Prelude.{if◌then◌else◌, nat_le, nat_lt, decimal}
use Rattle.ix_values.specs.Order.{text_eq}
use Rattle.ix_expr.specs.declared.arg.Arg.{Arg}
use Rattle.ix_parse.specs.declared.signs.Operator.{Operator}
use Rattle.ix_parse.specs.declared.signs.Prefix.{Prefix}
use Rattle.ix_parse.specs.declared.signs.Quantifier.{Quantifier}
use Rattle.ix_parse.specs.declared.signs.WordClass.{WordClass}
use Rattle.ix_parse.specs.declared.signs.WordClass.TheVariants.{Quantifies, Counts, Names, Other}
use Rattle.ix_parse.specs.Symbols.{Symbol, word, param, opening, closing, comma, before, between}
use Rattle.ix_parse.specs.Symbols.{class_of, level, Meaning, joined_meaning, prefixed, quantified}
use Rattle.ix_parse.specs.Symbols.{counted, named, argument_of}

-- the number from 2 to k + 1 that the word stands for
abbrev pub number_below : ℕ → List ℕ → Option ℕ
number_below zero w = None
number_below (suc k) w = if text_eq w (decimal (k + 2)) then Some (k + 2) else number_below k w

-- the number from 2 to 64 that the word stands for
unfoldable pub number_of : List ℕ → Option ℕ
number_of w = number_below 63 w

-- what is open: a parenthesis, a prefix, a quantifier, `times` with its number, or an operator with
-- its left operand
pub data Entry : Type 0 where
  group : Entry
  sign : ℕ → Prefix → Entry
  binder : ℕ → Quantifier → List ℕ → Entry
  counter : ℕ → ℕ → Entry
  left : ℕ → Operator → Meaning → Entry

-- what was read last
pub data Mode : Type 0 where
  -- an operand is wanted
  wanted : Mode
  -- the name of an atom
  name_read : ℕ → List ℕ → Mode
  -- the parenthesis of an atom's arguments, or a comma in them
  argument_wanted : ℕ → List ℕ → List Arg → Mode
  -- an argument
  argument_read : ℕ → List ℕ → List Arg → Mode
  -- the word of a quantifier
  quantifier_read : ℕ → Quantifier → Mode
  -- the word `times`
  times_read : ℕ → Mode
  -- an operand
  operand_read : Meaning → Mode

-- what is open, the inmost first, and what was read last
pub record Config : Type 0 where
  pub stack : List Entry
  pub mode : Mode

-- what is open, with an operand behind it
pub record WithOperand : Type 0 where
  pub stack : List Entry
  pub operand : Meaning

abbrev pub operand_held : List Entry → Meaning → WithOperand
operand_held s x = record { stack = s; operand = x }

abbrev pub config : List Entry → Mode → Config
config s mode = record { stack = s; mode = mode }

-- the operand takes the prefixes in front of it
abbrev pub closed : List Entry → Meaning → WithOperand
closed [] x = operand_held [] x
closed (group ∷ s) x = operand_held (group ∷ s) x
closed (sign at p ∷ s) x = closed s (prefixed p at x)
closed (binder at q p ∷ s) x = closed s (quantified q at p x)
closed (counter at n ∷ s) x = closed s (counted n at x)
closed (left at o y ∷ s) x = operand_held (left at o y ∷ s) x

-- the operand is joined_meaning to the left operands of operators that bind at least as tightly as
-- the level
abbrev pub reduced : ℕ → List Entry → Meaning → WithOperand
reduced k [] x = operand_held [] x
reduced k (group ∷ s) x = operand_held (group ∷ s) x
reduced k (sign at p ∷ s) x = operand_held (sign at p ∷ s) x
reduced k (binder at q p ∷ s) x = operand_held (binder at q p ∷ s) x
reduced k (counter at n ∷ s) x = operand_held (counter at n ∷ s) x
reduced k (left at o y ∷ s) x =
    if nat_le k (level o) then reduced k s (joined_meaning o at y x)
    else operand_held (left at o y ∷ s) x

-- an operand was read
abbrev pub with_operand : WithOperand → Config
with_operand h = config h.stack (operand_read h.operand)

-- a parenthesis closes the group that is inmost
abbrev pub left_group : List Entry → Meaning → Option Config
left_group (group ∷ s) x = Some (with_operand (closed s x))
left_group _ x = None

-- an operator, with its left operand
abbrev pub with_left : ℕ → Operator → WithOperand → Config
with_left at o h = config (left at o h.operand ∷ h.stack) wanted

-- a symbol behind an operand
abbrev pub step_operand : List Entry → Meaning → Symbol → Option Config
step_operand s x closing = left_group (reduced 1 s x).stack (reduced 1 s x).operand
step_operand s x (between at o) = Some (with_left at o (reduced (level o) s x))
step_operand s x _ = None

-- a word where an operand is wanted
abbrev pub step_word : List Entry → ℕ → List ℕ → WordClass → Option Config
step_word s at w (Quantifies q) = Some (config s (quantifier_read at q))
step_word s at w Counts = Some (config s (times_read at))
step_word s at w Names = Some (config s (name_read at w))
step_word s at w Other = None

-- a symbol where an operand is wanted
abbrev pub step_wanted : List Entry → Symbol → Option Config
step_wanted s (word at w) = step_word s at w (class_of w)
step_wanted s opening = Some (config (group ∷ s) wanted)
step_wanted s (before at p) = Some (config (sign at p ∷ s) wanted)
step_wanted s _ = None

-- a symbol behind the name of an atom
abbrev pub step_name : List Entry → ℕ → List ℕ → Symbol → Option Config
step_name s at w opening = Some (config s (argument_wanted at w []))
step_name s at w closing =
    step_operand (closed s (named at w [])).stack (closed s (named at w [])).operand closing
step_name s at w (between at' o) =
    step_operand (closed s (named at w [])).stack (closed s (named at w [])).operand (between at' o)
step_name s at w _ = None

-- an argument
abbrev pub with_argument : List Entry → ℕ → List ℕ → List Arg → Option Arg → Option Config
with_argument s at w args None = None
with_argument s at w args (Some a) = Some (config s (argument_read at w (args ++ a ∷ [])))

-- a symbol behind an argument
abbrev pub step_argument : List Entry → ℕ → List ℕ → List Arg → Symbol → Option Config
step_argument s at w args closing = Some (with_operand (closed s (named at w args)))
step_argument s at w args comma =
    if nat_lt (length args) 4 then Some (config s (argument_wanted at w args)) else None
step_argument s at w args _ = None

-- a symbol behind the word of a quantifier
abbrev pub step_quantifier : List Entry → ℕ → Quantifier → Symbol → Option Config
step_quantifier s at q (param p) = Some (config (binder at q p ∷ s) wanted)
step_quantifier s at q _ = None

-- the number behind `times`
abbrev pub times_with_number : List Entry → ℕ → Option ℕ → Option Config
times_with_number s at None = None
times_with_number s at (Some n) = Some (config (counter at n ∷ s) wanted)

-- a symbol behind the word `times`
abbrev pub step_times : List Entry → ℕ → Symbol → Option Config
step_times s at (word at' w) = times_with_number s at (number_of w)
step_times s at _ = None

abbrev pub step_by : List Entry → Mode → Symbol → Option Config
step_by s wanted t = step_wanted s t
step_by s (name_read at w) t = step_name s at w t
step_by s (argument_wanted at w args) t = with_argument s at w args (argument_of t)
step_by s (argument_read at w args) t = step_argument s at w args t
step_by s (quantifier_read at q) t = step_quantifier s at q t
step_by s (times_read at) t = step_times s at t
step_by s (operand_read x) t = step_operand s x t

-- what a symbol makes of a configuration, if it may come
abbrev pub step : Config → Symbol → Option Config
step c t = step_by c.stack c.mode t

-- the operand that was read, with what is open
abbrev pub settled_mode : List Entry → Mode → Option WithOperand
settled_mode s (name_read at w) = Some (closed s (named at w []))
settled_mode s (operand_read x) = Some (operand_held s x)
settled_mode s _ = None

abbrev pub settled_config : Config → Option WithOperand
settled_config c = settled_mode c.stack c.mode

-- the operand, where nothing is open
abbrev pub joined_whole : List Entry → Meaning → Option Meaning
joined_whole [] x = Some x
joined_whole (e ∷ s) x = None

abbrev pub joined_all : Option WithOperand → Option Meaning
joined_all None = None
joined_all (Some h) =
    joined_whole (reduced 1 h.stack h.operand).stack (reduced 1 h.stack h.operand).operand

-- what was read, if it is whole
abbrev pub whole : Config → Option Meaning
whole c = joined_all (settled_config c)

-- the configuration at the begin
abbrev pub start : Config
start = config [] wanted

abbrev pub step_some : Option Config → Symbol → Option Config
step_some None t = None
step_some (Some c) t = step c t

-- what symbols make of a configuration
abbrev pub run : Option Config → List Symbol → Option Config
run c [] = c
run c (t ∷ ts) = run (step_some c t) ts

-- how many levels are open
abbrev pub levels : List Entry → ℕ
levels [] = 0
levels (group ∷ s) = suc (levels s)
levels (sign at p ∷ s) = suc (levels s)
levels (binder at q p ∷ s) = suc (levels s)
levels (counter at n ∷ s) = suc (levels s)
levels (left at o x ∷ s) = levels s

-- how many groups are open
abbrev pub groups : List Entry → ℕ
groups [] = 0
groups (group ∷ s) = suc (groups s)
groups (sign at p ∷ s) = groups s
groups (binder at q p ∷ s) = groups s
groups (counter at n ∷ s) = groups s
groups (left at o x ∷ s) = groups s
