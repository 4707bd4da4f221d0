-- The commands of the command line, as clap sees them: the words and the options of each.
use Rattle.std.specs.Prelude.{ℕ, ◌-◌, ◌^◌, [], ◌∷◌, Some, true, codes}
use Rattle.clap.specs.Words.{App, Rule, Text, new_app, new_rule, with_rule}
use Rattle.clap.specs.declared.builder.action.ArgAction.TheVariants.{Set}
use Rattle.clap.specs.declared.builder.value_parser.ValueParser.TheVariants as parser

-- the greatest limit of Size, the most events of a run and the most asks of a workload
abbrev pub most_nodes : ℕ
most_nodes = 1000000

abbrev pub most_turns : ℕ
most_turns = 1000000000

abbrev pub most_asks : ℕ
most_asks = 1000000

-- the most different values over which a bound is told
abbrev pub most_values : ℕ
most_values = 1000000

-- the most states that a search visits
abbrev pub most_states : ℕ
most_states = 1000000

-- the most values that are given
abbrev pub most_given : ℕ
most_given = 16

-- the greatest seed
abbrev pub most_seed : ℕ
most_seed = 2 ^ 64 - 1

-- a word that has to be there
abbrev pub word : Text → Rule
word name = record (new_rule name) { action = Some Set; required = true }

-- a word that has to be there and is a number in a range
abbrev pub number_word : Text → ℕ → ℕ → Rule
number_word name least most = record (word name) { parser = Some (parser.Unsigned least most) }

-- words that may be there, so many at most
abbrev pub words : Text → ℕ → Rule
words name most = record (new_rule name) {
  action = Some Set;
  range = Some (record { start_inclusive = 0; end_inclusive = most });
}

-- an option with a number in a range, and the text of the number where the option isn't there
abbrev pub number_option : Text → ℕ → ℕ → Text → Rule
number_option name least most usual = record (new_rule name) {
  long = Some name;
  action = Some Set;
  parser = Some (parser.Unsigned least most);
  defaults = usual ∷ [];
}

-- the options `--nodes N`, `--turns N` and `--states N`
abbrev pub nodes_option : Rule
nodes_option = number_option (codes "nodes") 1 most_nodes (codes "100000")

abbrev pub turns_option : Rule
turns_option = number_option (codes "turns") 1 most_turns (codes "1000000000")

abbrev pub states_option : Rule
states_option = number_option (codes "states") 1 most_states (codes "100000")

-- `trace EXPR ACTIONS [--nodes N]`
unfoldable pub trace_command : App
trace_command = with_rule (with_rule (with_rule (new_app (codes "trace")) (word (codes "EXPR")))
    (word (codes "ACTIONS"))) nodes_option

-- `replay EXPR JOURNAL SCRIPT [--nodes N] [--turns N]`
unfoldable pub replay_command : App
replay_command = with_rule (with_rule (with_rule (with_rule (with_rule (new_app (codes "replay"))
    (word (codes "EXPR"))) (word (codes "JOURNAL"))) (word (codes "SCRIPT")))
    nodes_option) turns_option

-- `serve EXPR JOURNAL SOCKET [--nodes N] [--turns N]`
unfoldable pub serve_command : App
serve_command = with_rule (with_rule (with_rule (with_rule (with_rule (new_app (codes "serve"))
    (word (codes "EXPR"))) (word (codes "JOURNAL"))) (word (codes "SOCKET")))
    nodes_option) turns_option

-- `simplify EXPR`
unfoldable pub simplify_command : App
simplify_command = with_rule (new_app (codes "simplify")) (word (codes "EXPR"))

-- `bound EXPR K`
unfoldable pub bound_command : App
bound_command = with_rule (with_rule (new_app (codes "bound")) (word (codes "EXPR")))
    (number_word (codes "K") 0 most_values)

-- `follow EXPR LINES [--nodes N]`
unfoldable pub follow_command : App
follow_command = with_rule (with_rule (with_rule (new_app (codes "follow")) (word (codes "EXPR")))
    (word (codes "LINES"))) nodes_option

-- `lint EXPR`
unfoldable pub lint_command : App
lint_command = with_rule (new_app (codes "lint")) (word (codes "EXPR"))

-- `why EXPR ACTIONS ACTION [--nodes N]`
unfoldable pub why_command : App
why_command = with_rule (with_rule (with_rule (with_rule (new_app (codes "why"))
    (word (codes "EXPR"))) (word (codes "ACTIONS"))) (word (codes "ACTION"))) nodes_option

-- `next EXPR ACTIONS [VALUE..] [--nodes N]`
unfoldable pub next_command : App
next_command = with_rule (with_rule (with_rule (with_rule (new_app (codes "next"))
    (word (codes "EXPR"))) (word (codes "ACTIONS"))) (words (codes "VALUE") most_given))
    nodes_option

-- `stuck EXPR VALUES [--nodes N] [--states N]`
unfoldable pub stuck_command : App
stuck_command = with_rule (with_rule (with_rule (with_rule (new_app (codes "stuck"))
    (word (codes "EXPR"))) (word (codes "VALUES"))) nodes_option) states_option

-- `work N SEED [--nodes N]`
unfoldable pub work_command : App
work_command = with_rule (with_rule (with_rule (new_app (codes "work"))
    (number_word (codes "N") 0 most_asks)) (number_word (codes "SEED") 0 most_seed)) nodes_option

-- `renew EXPR JOURNAL NEW [--nodes N]`
unfoldable pub renew_command : App
renew_command = with_rule (with_rule (with_rule (with_rule (new_app (codes "renew"))
    (word (codes "EXPR"))) (word (codes "JOURNAL"))) (word (codes "NEW"))) nodes_option
