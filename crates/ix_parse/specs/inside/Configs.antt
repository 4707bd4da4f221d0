-- The machine's configuration that a reader in memory holds.
use Rattle.std.specs.Prelude.{◌≡◌, ◌<◌, ◌≤◌, length}
use Rattle.ix_values.specs.Texts.{IsName, IsValue}
use Rattle.ix_parse.specs.declared.reader.Mode.{Mode}
use Rattle.ix_parse.specs.declared.reader.Mode.TheVariants.{Wanted, NameRead, ArgumentWanted}
use Rattle.ix_parse.specs.declared.reader.Mode.TheVariants.{ArgumentRead, QuantifierRead, TimesRead}
use Rattle.ix_parse.specs.declared.reader.Mode.TheVariants.{OperandRead}
use Rattle.ix_parse.specs.declared.reader.Reader.{Reader}
use Rattle.ix_parse.specs.declared.signs.WordClass.TheVariants.{Names}
use Rattle.ix_parse.specs.Symbols.{Symbol, word, param, class_of}
use Rattle.ix_parse.specs.inside.StackMachine as machine
use Rattle.ix_parse.specs.inside.StackMachine.{wanted, name_read, argument_wanted, argument_read}
use Rattle.ix_parse.specs.inside.StackMachine.{quantifier_read, times_read, operand_read}
use Rattle.ix_parse.specs.inside.Operands.{meaning_of}
use Rattle.ix_parse.specs.inside.Stack.{stack_of}

abbrev pub mode_of : Mode → machine.Mode
mode_of Wanted = wanted
mode_of (NameRead at w) = name_read at w
mode_of (ArgumentWanted at w args) = argument_wanted at w args.items
mode_of (ArgumentRead at w args) = argument_read at w args.items
mode_of (QuantifierRead at q) = quantifier_read at q
mode_of (TimesRead at) = times_read at
mode_of (OperandRead x) = operand_read (meaning_of x)

abbrev pub config_of : Reader → machine.Config
config_of r = record { stack = stack_of r.stack.items; mode = mode_of r.mode }

-- the atom that is being read has a name and at most four arguments
abbrev pub IsModeSound : machine.Mode → Type 0
IsModeSound (name_read at w) = class_of w ≡ Names
IsModeSound (argument_wanted at w args) = (class_of w ≡ Names) × (length args < 4)
IsModeSound (argument_read at w args) = (class_of w ≡ Names) × (length args ≤ 4)
IsModeSound _ = Unit {0}

-- a word is a value and a parameter has a name
abbrev pub IsReadable : Symbol → Type 0
IsReadable (word at w) = IsValue w
IsReadable (param p) = IsName p
IsReadable _ = Unit {0}
