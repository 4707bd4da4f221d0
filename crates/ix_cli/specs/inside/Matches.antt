-- What holds of the matches of a command with no subcommands.
use Rattle.std.specs.Prelude.{◌≡◌, ◌≢◌, ⊤, ◌<◌, ◌^◌, ◌&&◌, ◌||◌, ◌==◌, ℕ, Bool, true, false, not}
use Rattle.std.specs.Prelude.{List, [], ◌∷◌}
use Rattle.std.specs.Prelude.{Option, Some, length, is_some, codes}
use Rattle.std.specs.List.{Contains, list_any}
use Rattle.std.specs.Str.{bytes_eq}
use Rattle.std.specs.Str.Parse.{IsNumeral, digits_value, without_leading_plus}
use Rattle.clap.specs.Words.{App, Row, Rule, Text, fault_of, first_of, found_of, matches_of}
use Rattle.clap.specs.Words.{is_simple_and_free, one_of, rows_of}
use Rattle.clap.specs.Values.{IsUnsignedIn}
use Rattle.clap.specs.Simple.{is_ready}
use Rattle.clap.specs.Faults.{has_free_rules}
use Rattle.clap.specs.declared.builder.action.ArgAction.{ArgAction}
use Rattle.clap.specs.declared.builder.action.ArgAction.TheVariants.{Set}
use Rattle.clap.specs.declared.builder.value_parser.ValueParser.TheVariants as parser
use Rattle.clap.specs.declared.parser.matches.ArgMatches.{ArgMatches}
use Rattle.ix_cli.specs.declared.fault.WordsFault.{WordsFault}
use Rattle.ix_cli.specs.declared.fault.WordsFault.TheVariants.{Bad, Memory}

-- the action that keeps one value
abbrev pub is_set : Option ArgAction → Bool
is_set (Some Set) = true
is_set _ = false

-- the argument takes one value where it is used, and is used or has a default
abbrev pub takes_one : Rule → Bool
takes_one rule = is_set rule.action && (not (is_some rule.range)
    && ((rule.required || not (length rule.defaults == 0))
    && (not (length rule.id == 0) && (not (bytes_eq rule.id (codes "help"))
    && not (bytes_eq rule.id (codes "version"))))))

-- no two arguments have one name
abbrev pub are_distinct : List Rule → Bool
are_distinct [] = true
are_distinct (rule ∷ rules) =
    not (list_any (λ other. bytes_eq other.id rule.id) rules) && are_distinct rules

-- a command with no subcommands
pub record IsPlainCommand (command : App) : Type 0 where
  pub no_subcommands : command.subs ≡ []
  pub simple : is_simple_and_free command ≡ true
  pub ready : is_ready command.top ≡ true
  pub free : has_free_rules command.top ≡ true
  pub requires_all : command.top.subcommand_negates_reqs ≡ false
  pub distinct : are_distinct command.top.rules ≡ true

-- a number that `u64` reads was found under this name
abbrev pub HasNumber : List Row → Text → Type 0
HasNumber rows name = (text : Text) × (one_of name rows ≡ Some text)
    × IsNumeral 10 (without_leading_plus text)
    × (digits_value 10 (without_leading_plus text) < 2 ^ 64)

-- The command takes the words, these are its matches of them, and each of its arguments that takes
-- one value has it, and it is a number in the argument's range where there is one.
pub record MatchesWords (command : App) (words : List Text) (m : ArgMatches) : Type 0 where
  pub taken : fault_of command words ≡ []
  pub rows : rows_of (found_of m) ≡ matches_of command words
  pub texts : (rule : Rule) → Contains command.top.rules rule → takes_one rule ≡ true
      → is_some (first_of rule.id (rows_of (found_of m))) ≡ true
  pub numbers : (rule : Rule) → Contains command.top.rules rule → takes_one rule ≡ true
      → (least most : ℕ) → rule.parser ≡ Some (parser.Unsigned least most)
      → (text : Text) × (one_of rule.id (rows_of (found_of m)) ≡ Some text)
      × IsUnsignedIn least most text

-- the command refuses words that are bad
abbrev pub Blames : App → List Text → WordsFault → Type 0
Blames command words (Bad text) = fault_of command words ≢ []
Blames command words Memory = ⊤
