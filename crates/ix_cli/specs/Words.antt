-- The words of the command line, and the job that they name.
use Rattle.std.specs.Prelude.{◌≡◌, ◌≢◌, ◌⊎◌, ◌≤◌, ℕ, List, [], Some, codes, slice_get, unwrap_or}
use Rattle.std.specs.Str.Parse.{digits_value, without_leading_plus}
use Rattle.clap.specs.Words.{App, Text, all_of, fault_of, first_of, matches_of, one_of}
use Rattle.ix_cli.specs.Commands.{trace_command, replay_command, serve_command, work_command}
use Rattle.ix_cli.specs.Commands.{simplify_command, bound_command, follow_command, lint_command}
use Rattle.ix_cli.specs.Commands.{why_command, next_command, stuck_command, renew_command}
use Rattle.ix_cli.specs.Commands.{most_states}
use Rattle.ix_cli.specs.Commands.{most_nodes, most_turns, most_asks, most_seed, most_values}

-- What the program is to do: trace the actions of a file, replay a script or serve a socket over a
-- journal, work through so many asks of a generated workload, simplify an expression, tell its
-- bound over so many values, follow a log by the lines of a file, tell what looks wrong in an
-- expression, why it refuses an action, what may come next, whether it gets stuck, or renew a
-- journal. `nodes` is the limit of Size, `turns` the most events that are taken, and `states` the
-- most that are visited.
pub data Job : Type 0 where
  trace : (expr actions : Text) (nodes : ℕ) → Job
  replay : (expr journal script : Text) (nodes turns : ℕ) → Job
  serve : (expr journal socket : Text) (nodes turns : ℕ) → Job
  work : (count seed nodes : ℕ) → Job
  simplify : (expr : Text) → Job
  bound : (expr : Text) (count : ℕ) → Job
  follow : (expr lines : Text) (nodes : ℕ) → Job
  lint : (expr : Text) → Job
  why : (expr actions action : Text) (nodes : ℕ) → Job
  next : (expr actions : Text) (values : List Text) (nodes : ℕ) → Job
  stuck : (expr values : Text) (nodes states : ℕ) → Job
  renew : (expr journal new : Text) (nodes : ℕ) → Job

-- the first word is the command's name, and clap's definition of it takes the words behind
pub record IsTaken (command : App) (words : List Text) : Type 0 where
  pub name : slice_get words 0 ≡ Some command.top.name
  pub taken : fault_of command words ≡ []

-- the first word isn't the command's name, or clap's definition of it refuses the words behind
abbrev pub Refuses : App → List Text → Type 0
Refuses command words =
    (slice_get words 0 ≢ Some command.top.name) ⊎ (fault_of command words ≢ [])

-- what clap matches for a word of the command
abbrev pub Says : App → List Text → Text → Text → Type 0
Says command words name text = first_of name (matches_of command words) ≡ Some text

-- what clap matches for words that may be there
abbrev pub SaysAll : App → List Text → Text → List Text → Type 0
SaysAll command words name texts = unwrap_or (all_of name (matches_of command words)) [] ≡ texts

-- what clap matches for a word or an option of the command is a number in a range, as `u64` reads
-- it: in decimal, maybe with a plus before it
pub record SaysNumber (command : App) (words : List Text) (name : Text) (least most number : ℕ)
    : Type 0 where
  pub text : Text
  pub said : one_of name (matches_of command words) ≡ Some text
  pub same : number ≡ digits_value 10 (without_leading_plus text)
  pub at_least : least ≤ number
  pub at_most : number ≤ most

abbrev pub SaysNodes : App → List Text → ℕ → Type 0
SaysNodes command words = SaysNumber command words (codes "nodes") 1 most_nodes

abbrev pub SaysTurns : App → List Text → ℕ → Type 0
SaysTurns command words = SaysNumber command words (codes "turns") 1 most_turns

abbrev pub SaysStates : App → List Text → ℕ → Type 0
SaysStates command words = SaysNumber command words (codes "states") 1 most_states

-- The words name this job: its command takes them, and the job is made of what clap matches.
abbrev pub Names : List Text → Job → Type 0
Names words (trace expr actions nodes) = IsTaken trace_command words
    × Says trace_command words (codes "EXPR") expr
    × Says trace_command words (codes "ACTIONS") actions
    × SaysNodes trace_command words nodes
Names words (replay expr journal script nodes turns) = IsTaken replay_command words
    × Says replay_command words (codes "EXPR") expr
    × Says replay_command words (codes "JOURNAL") journal
    × Says replay_command words (codes "SCRIPT") script
    × SaysNodes replay_command words nodes × SaysTurns replay_command words turns
Names words (serve expr journal socket nodes turns) = IsTaken serve_command words
    × Says serve_command words (codes "EXPR") expr
    × Says serve_command words (codes "JOURNAL") journal
    × Says serve_command words (codes "SOCKET") socket
    × SaysNodes serve_command words nodes × SaysTurns serve_command words turns
Names words (work count seed nodes) = IsTaken work_command words
    × SaysNumber work_command words (codes "N") 0 most_asks count
    × SaysNumber work_command words (codes "SEED") 0 most_seed seed
    × SaysNodes work_command words nodes
Names words (simplify expr) = IsTaken simplify_command words
    × Says simplify_command words (codes "EXPR") expr
Names words (bound expr count) = IsTaken bound_command words
    × Says bound_command words (codes "EXPR") expr
    × SaysNumber bound_command words (codes "K") 0 most_values count
Names words (follow expr lines nodes) = IsTaken follow_command words
    × Says follow_command words (codes "EXPR") expr
    × Says follow_command words (codes "LINES") lines
    × SaysNodes follow_command words nodes
Names words (lint expr) = IsTaken lint_command words × Says lint_command words (codes "EXPR") expr
Names words (why expr actions action nodes) = IsTaken why_command words
    × Says why_command words (codes "EXPR") expr
    × Says why_command words (codes "ACTIONS") actions
    × Says why_command words (codes "ACTION") action
    × SaysNodes why_command words nodes
Names words (next expr actions values nodes) = IsTaken next_command words
    × Says next_command words (codes "EXPR") expr
    × Says next_command words (codes "ACTIONS") actions
    × SaysAll next_command words (codes "VALUE") values
    × SaysNodes next_command words nodes
Names words (stuck expr values nodes states) = IsTaken stuck_command words
    × Says stuck_command words (codes "EXPR") expr
    × Says stuck_command words (codes "VALUES") values
    × SaysNodes stuck_command words nodes × SaysStates stuck_command words states
Names words (renew expr journal new nodes) = IsTaken renew_command words
    × Says renew_command words (codes "EXPR") expr
    × Says renew_command words (codes "JOURNAL") journal
    × Says renew_command words (codes "NEW") new
    × SaysNodes renew_command words nodes

-- the words name no job: each command refuses them
abbrev pub NamesNoJob : List Text → Type 0
NamesNoJob words = Refuses trace_command words × Refuses replay_command words
    × Refuses serve_command words × Refuses work_command words × Refuses simplify_command words
    × Refuses bound_command words × Refuses follow_command words × Refuses lint_command words
    × Refuses why_command words × Refuses next_command words × Refuses stuck_command words
    × Refuses renew_command words
