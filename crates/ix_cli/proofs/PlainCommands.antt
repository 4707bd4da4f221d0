-- The commands are plain, and these are their arguments.
use Rattle.std.proofs.Common.{◌≡◌, refl, lit<, codes}
use Rattle.std.specs.List.{Contains}
use Rattle.clap.specs.Words.{App, Rule}
use Rattle.ix_cli.specs.Commands.{trace_command, replay_command, serve_command, work_command}
use Rattle.ix_cli.specs.Commands.{simplify_command, bound_command, follow_command, lint_command}
use Rattle.ix_cli.specs.Commands.{why_command, next_command, stuck_command, renew_command}
use Rattle.ix_cli.specs.Commands.{word, number_word, nodes_option, turns_option}
use Rattle.ix_cli.specs.Commands.{states_option, most_asks, most_seed, most_values}
use Rattle.ix_cli.specs.inside.Matches.{IsPlainCommand}

-- the command has this argument
abbrev pub HasArgument : App → Rule → Type 0
HasArgument command rule = Contains command.top.rules rule

pub trace_plain : IsPlainCommand trace_command
unfolding trace_command
trace_plain = record {
  no_subcommands = refl;
  simple = refl;
  ready = refl;
  free = refl;
  requires_all = refl;
  distinct = refl;
}

pub replay_plain : IsPlainCommand replay_command
unfolding replay_command
replay_plain = record {
  no_subcommands = refl;
  simple = refl;
  ready = refl;
  free = refl;
  requires_all = refl;
  distinct = refl;
}

pub serve_plain : IsPlainCommand serve_command
unfolding serve_command
serve_plain = record {
  no_subcommands = refl;
  simple = refl;
  ready = refl;
  free = refl;
  requires_all = refl;
  distinct = refl;
}

pub work_plain : IsPlainCommand work_command
unfolding work_command
work_plain = record {
  no_subcommands = refl;
  simple = refl;
  ready = refl;
  free = refl;
  requires_all = refl;
  distinct = refl;
}

pub simplify_plain : IsPlainCommand simplify_command
unfolding simplify_command
simplify_plain = record {
  no_subcommands = refl;
  simple = refl;
  ready = refl;
  free = refl;
  requires_all = refl;
  distinct = refl;
}

pub lint_plain : IsPlainCommand lint_command
unfolding lint_command
lint_plain = record {
  no_subcommands = refl;
  simple = refl;
  ready = refl;
  free = refl;
  requires_all = refl;
  distinct = refl;
}

pub bound_plain : IsPlainCommand bound_command
unfolding bound_command
bound_plain = record {
  no_subcommands = refl;
  simple = refl;
  ready = refl;
  free = refl;
  requires_all = refl;
  distinct = refl;
}

pub follow_plain : IsPlainCommand follow_command
unfolding follow_command
follow_plain = record {
  no_subcommands = refl;
  simple = refl;
  ready = refl;
  free = refl;
  requires_all = refl;
  distinct = refl;
}

pub trace_expr : HasArgument trace_command (word (codes "EXPR"))
unfolding trace_command
trace_expr = (0, lit< tt, refl)

pub trace_actions : HasArgument trace_command (word (codes "ACTIONS"))
unfolding trace_command
trace_actions = (1, lit< tt, refl)

pub trace_nodes : HasArgument trace_command nodes_option
unfolding trace_command
trace_nodes = (2, lit< tt, refl)

pub replay_expr : HasArgument replay_command (word (codes "EXPR"))
unfolding replay_command
replay_expr = (0, lit< tt, refl)

pub replay_journal : HasArgument replay_command (word (codes "JOURNAL"))
unfolding replay_command
replay_journal = (1, lit< tt, refl)

pub replay_script : HasArgument replay_command (word (codes "SCRIPT"))
unfolding replay_command
replay_script = (2, lit< tt, refl)

pub replay_nodes : HasArgument replay_command nodes_option
unfolding replay_command
replay_nodes = (3, lit< tt, refl)

pub replay_turns : HasArgument replay_command turns_option
unfolding replay_command
replay_turns = (4, lit< tt, refl)

pub serve_expr : HasArgument serve_command (word (codes "EXPR"))
unfolding serve_command
serve_expr = (0, lit< tt, refl)

pub serve_journal : HasArgument serve_command (word (codes "JOURNAL"))
unfolding serve_command
serve_journal = (1, lit< tt, refl)

pub serve_socket : HasArgument serve_command (word (codes "SOCKET"))
unfolding serve_command
serve_socket = (2, lit< tt, refl)

pub serve_nodes : HasArgument serve_command nodes_option
unfolding serve_command
serve_nodes = (3, lit< tt, refl)

pub serve_turns : HasArgument serve_command turns_option
unfolding serve_command
serve_turns = (4, lit< tt, refl)

pub work_count : HasArgument work_command (number_word (codes "N") 0 most_asks)
unfolding work_command
work_count = (0, lit< tt, refl)

pub work_seed : HasArgument work_command (number_word (codes "SEED") 0 most_seed)
unfolding work_command
work_seed = (1, lit< tt, refl)

pub work_nodes : HasArgument work_command nodes_option
unfolding work_command
work_nodes = (2, lit< tt, refl)

pub simplify_expr : HasArgument simplify_command (word (codes "EXPR"))
unfolding simplify_command
simplify_expr = (0, lit< tt, refl)

pub lint_expr : HasArgument lint_command (word (codes "EXPR"))
unfolding lint_command
lint_expr = (0, lit< tt, refl)

pub bound_expr : HasArgument bound_command (word (codes "EXPR"))
unfolding bound_command
bound_expr = (0, lit< tt, refl)

pub bound_count : HasArgument bound_command (number_word (codes "K") 0 most_values)
unfolding bound_command
bound_count = (1, lit< tt, refl)

pub follow_expr : HasArgument follow_command (word (codes "EXPR"))
unfolding follow_command
follow_expr = (0, lit< tt, refl)

pub follow_lines : HasArgument follow_command (word (codes "LINES"))
unfolding follow_command
follow_lines = (1, lit< tt, refl)

pub follow_nodes : HasArgument follow_command nodes_option
unfolding follow_command
follow_nodes = (2, lit< tt, refl)

pub trace_name : trace_command.top.name ≡ codes "trace"
unfolding trace_command
trace_name = refl

pub replay_name : replay_command.top.name ≡ codes "replay"
unfolding replay_command
replay_name = refl

pub serve_name : serve_command.top.name ≡ codes "serve"
unfolding serve_command
serve_name = refl

pub work_name : work_command.top.name ≡ codes "work"
unfolding work_command
work_name = refl

pub simplify_name : simplify_command.top.name ≡ codes "simplify"
unfolding simplify_command
simplify_name = refl

pub lint_name : lint_command.top.name ≡ codes "lint"
unfolding lint_command
lint_name = refl

pub bound_name : bound_command.top.name ≡ codes "bound"
unfolding bound_command
bound_name = refl

pub follow_name : follow_command.top.name ≡ codes "follow"
unfolding follow_command
follow_name = refl

pub why_plain : IsPlainCommand why_command
unfolding why_command
why_plain = record {
  no_subcommands = refl;
  simple = refl;
  ready = refl;
  free = refl;
  requires_all = refl;
  distinct = refl;
}

pub next_plain : IsPlainCommand next_command
unfolding next_command
next_plain = record {
  no_subcommands = refl;
  simple = refl;
  ready = refl;
  free = refl;
  requires_all = refl;
  distinct = refl;
}

pub stuck_plain : IsPlainCommand stuck_command
unfolding stuck_command
stuck_plain = record {
  no_subcommands = refl;
  simple = refl;
  ready = refl;
  free = refl;
  requires_all = refl;
  distinct = refl;
}

pub why_expr : HasArgument why_command (word (codes "EXPR"))
unfolding why_command
why_expr = (0, lit< tt, refl)

pub why_actions : HasArgument why_command (word (codes "ACTIONS"))
unfolding why_command
why_actions = (1, lit< tt, refl)

pub why_action : HasArgument why_command (word (codes "ACTION"))
unfolding why_command
why_action = (2, lit< tt, refl)

pub why_nodes : HasArgument why_command nodes_option
unfolding why_command
why_nodes = (3, lit< tt, refl)

pub why_name : why_command.top.name ≡ codes "why"
unfolding why_command
why_name = refl

pub next_expr : HasArgument next_command (word (codes "EXPR"))
unfolding next_command
next_expr = (0, lit< tt, refl)

pub next_actions : HasArgument next_command (word (codes "ACTIONS"))
unfolding next_command
next_actions = (1, lit< tt, refl)

pub next_nodes : HasArgument next_command nodes_option
unfolding next_command
next_nodes = (3, lit< tt, refl)

pub next_name : next_command.top.name ≡ codes "next"
unfolding next_command
next_name = refl

pub stuck_expr : HasArgument stuck_command (word (codes "EXPR"))
unfolding stuck_command
stuck_expr = (0, lit< tt, refl)

pub stuck_values : HasArgument stuck_command (word (codes "VALUES"))
unfolding stuck_command
stuck_values = (1, lit< tt, refl)

pub stuck_nodes : HasArgument stuck_command nodes_option
unfolding stuck_command
stuck_nodes = (2, lit< tt, refl)

pub stuck_states : HasArgument stuck_command states_option
unfolding stuck_command
stuck_states = (3, lit< tt, refl)

pub stuck_name : stuck_command.top.name ≡ codes "stuck"
unfolding stuck_command
stuck_name = refl

pub renew_plain : IsPlainCommand renew_command
unfolding renew_command
renew_plain = record {
  no_subcommands = refl;
  simple = refl;
  ready = refl;
  free = refl;
  requires_all = refl;
  distinct = refl;
}

pub renew_expr : HasArgument renew_command (word (codes "EXPR"))
unfolding renew_command
renew_expr = (0, lit< tt, refl)

pub renew_journal : HasArgument renew_command (word (codes "JOURNAL"))
unfolding renew_command
renew_journal = (1, lit< tt, refl)

pub renew_new : HasArgument renew_command (word (codes "NEW"))
unfolding renew_command
renew_new = (2, lit< tt, refl)

pub renew_nodes : HasArgument renew_command nodes_option
unfolding renew_command
renew_nodes = (3, lit< tt, refl)

pub renew_name : renew_command.top.name ≡ codes "renew"
unfolding renew_command
renew_name = refl
