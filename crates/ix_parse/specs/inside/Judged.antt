-- Which fault the next symbol meets, as tests of what the machine holds.
use Rattle.std.specs.Prelude.{ℕ, Bool, true, false, not, ◌&&◌, List, [], ◌∷◌, length, Option, Some}
use Rattle.std.specs.Prelude.{None, is_some, if◌then◌else◌, nat_lt, nat_le, ◌==◌}
use Rattle.ix_parse.specs.declared.faults.Fault.{Fault}
use Rattle.ix_parse.specs.declared.faults.Fault.TheVariants as faults
use Rattle.ix_parse.specs.declared.signs.Follower.{Follower}
use Rattle.ix_parse.specs.declared.signs.Follower.TheVariants as followers
use Rattle.ix_parse.specs.declared.signs.WordClass.{WordClass}
use Rattle.ix_parse.specs.declared.signs.WordClass.TheVariants.{Quantifies, Counts, Names, Other}
use Rattle.ix_lex.specs.Lexing.{Piece, token, bad_byte}
use Rattle.ix_parse.specs.Symbols.{symbol_of, Symbol, word, param, opening, closing, comma, before}
use Rattle.ix_parse.specs.Symbols.{between, class_of}
use Rattle.ix_parse.specs.inside.StackMachine.{Mode, wanted, name_read, argument_wanted}
use Rattle.ix_parse.specs.inside.StackMachine.{argument_read, quantifier_read, times_read}
use Rattle.ix_parse.specs.inside.StackMachine.{operand_read, Config, number_of, levels, groups}

abbrev pub is_wanted : Mode → Bool
is_wanted wanted = true
is_wanted _ = false

-- whether a parameter, and whether a word follows
abbrev pub is_param_next : Follower → Bool
is_param_next followers.Word = false
is_param_next followers.Param = true
is_param_next followers.Neither = false

abbrev pub is_word_next : Follower → Bool
is_word_next followers.Word = true
is_word_next followers.Param = false
is_word_next followers.Neither = false

-- a word that begins no operand, by what follows it
abbrev pub begins_nothing : WordClass → Follower → Bool
begins_nothing (Quantifies q) next = not (is_param_next next)
begins_nothing Counts next = not (is_word_next next)
begins_nothing Names next = false
begins_nothing Other next = false

abbrev pub is_reserved_word : Symbol → Follower → Bool
is_reserved_word (word at w) next = begins_nothing (class_of w) next
is_reserved_word _ next = false

-- the word `times` was read
abbrev pub is_times : Mode → Bool
is_times (times_read at) = true
is_times _ = false

-- a word that is a number, and one that is none
abbrev pub is_number : Symbol → Bool
is_number (word at w) = is_some (number_of w)
is_number _ = false

abbrev pub is_no_number : Symbol → Bool
is_no_number (word at w) = not (is_some (number_of w))
is_no_number _ = false

abbrev pub is_comma : Symbol → Bool
is_comma comma = true
is_comma _ = false

-- four arguments were read
abbrev pub has_four : Mode → Bool
has_four (argument_read at w args) = nat_le 4 (length args)
has_four _ = false

abbrev pub begins_operand : WordClass → Bool
begins_operand (Quantifies q) = true
begins_operand Counts = true
begins_operand Names = true
begins_operand Other = false

abbrev pub may_begin : Symbol → Bool
may_begin (word at w) = begins_operand (class_of w)
may_begin opening = true
may_begin (before at p) = true
may_begin _ = false

-- behind an operand, by whether a group is open
abbrev pub may_follow : Bool → Symbol → Bool
may_follow open_group closing = open_group
may_follow open_group (between at o) = true
may_follow open_group _ = false

abbrev pub may_follow_name : Bool → Symbol → Bool
may_follow_name open_group opening = true
may_follow_name open_group closing = open_group
may_follow_name open_group (between at o) = true
may_follow_name open_group _ = false

abbrev pub is_param : Symbol → Bool
is_param (param p) = true
is_param _ = false

abbrev pub is_argument : Symbol → Bool
is_argument (word at w) = true
is_argument (param p) = true
is_argument _ = false

-- behind so many arguments
abbrev pub may_follow_argument : ℕ → Symbol → Bool
may_follow_argument count closing = true
may_follow_argument count comma = nat_lt count 4
may_follow_argument count _ = false

-- whether the symbol may come, by what was read last and whether a group is open
abbrev pub may_come_by : Bool → Mode → Symbol → Bool
may_come_by open_group wanted t = may_begin t
may_come_by open_group (name_read at w) t = may_follow_name open_group t
may_come_by open_group (argument_wanted at w args) t = is_argument t
may_come_by open_group (argument_read at w args) t = may_follow_argument (length args) t
may_come_by open_group (quantifier_read at q) t = is_param t
may_come_by open_group (times_read at) t = is_number t
may_come_by open_group (operand_read x) t = may_follow open_group t

abbrev pub may_come : Config → Symbol → Bool
may_come c t = may_come_by (nat_lt 0 (groups c.stack)) c.mode t

abbrev pub is_long : Symbol → Bool
is_long (word at w) = nat_lt 32 (length w)
is_long (param p) = nat_lt 32 (length p)
is_long _ = false

-- a word that takes an operand
abbrev pub takes_operand : WordClass → Bool
takes_operand (Quantifies q) = true
takes_operand Counts = true
takes_operand Names = false
takes_operand Other = false

abbrev pub opens_level : Symbol → Bool
opens_level (word at w) = takes_operand (class_of w)
opens_level opening = true
opens_level (before at p) = true
opens_level _ = false

-- the symbol is a node's token, by whether an operand is wanted
abbrev pub is_node : Bool → Symbol → Bool
is_node wants (word at w) = wants
is_node wants (before at p) = true
is_node wants (between at o) = true
is_node wants _ = false

-- whether a fault is met at a symbol, after n nodes, by what follows
abbrev pub meets : Config → ℕ → Symbol → Follower → Fault → Bool
meets c n t next faults.NoToken = false
meets c n t next faults.Reserved = is_wanted c.mode && is_reserved_word t next
meets c n t next faults.NoNumber = is_times c.mode && is_no_number t
meets c n t next faults.FifthArgument = has_four c.mode && is_comma t
meets c n t next faults.Unexpected = not (may_come c t)
meets c n t next faults.LongName = is_long t
meets c n t next faults.TooDeep = (is_wanted c.mode && opens_level t) && (levels c.stack == 64)
meets c n t next faults.TooManyNodes = is_node (is_wanted c.mode) t && (n == 512)
meets c n t next faults.Ended = false

-- the first of the faults that is met
abbrev pub first_met : (Fault → Bool) → Option Fault
first_met test =
    if test faults.Reserved then Some faults.Reserved
    else (if test faults.NoNumber then Some faults.NoNumber
    else (if test faults.FifthArgument then Some faults.FifthArgument
    else (if test faults.Unexpected then Some faults.Unexpected
    else (if test faults.LongName then Some faults.LongName
    else (if test faults.TooDeep then Some faults.TooDeep
    else (if test faults.TooManyNodes then Some faults.TooManyNodes
    else None))))))

-- the fault that is met at a symbol
abbrev pub judged : Config → ℕ → Symbol → Follower → Option Fault
judged c n t next = first_met (meets c n t next)

-- what a symbol is to the word before it
abbrev pub as_follower : Symbol → Follower
as_follower (word at w) = followers.Word
as_follower (param p) = followers.Param
as_follower _ = followers.Neither

-- what follows, by the next pieces
abbrev pub follower_of : List Piece → Follower
follower_of [] = followers.Neither
follower_of (token t ∷ rest) = as_follower (symbol_of t)
follower_of (bad_byte at ∷ rest) = followers.Neither
