-- What a job names.
use Rattle.std.specs.Prelude.{◌≡◌, ℕ, List, Option, None, Some}
use Rattle.ix_cli.specs.Words.{Job, Names, trace, replay, serve, work, simplify, bound}
use Rattle.ix_cli.specs.Words.{follow, lint, why, next, stuck, renew}

-- the file of its expression, where it has one
abbrev pub expression_of : Job → Option (List ℕ)
expression_of (trace expression actions limit) = Some expression
expression_of (replay expression journal script limit turns) = Some expression
expression_of (serve expression journal socket limit turns) = Some expression
expression_of (work count seed limit) = None
expression_of (simplify expression) = Some expression
expression_of (bound expression count) = Some expression
expression_of (follow expression lines limit) = Some expression
expression_of (lint expression) = Some expression
expression_of (why expression actions action limit) = Some expression
expression_of (next expression actions values limit) = Some expression
expression_of (stuck expression values limit states) = Some expression
expression_of (renew expression journal new limit) = Some expression

-- the file of the actions that it takes as a history, where it has one
abbrev pub history_file_of : Job → Option (List ℕ)
history_file_of (why expression actions action limit) = Some actions
history_file_of (next expression actions values limit) = Some actions
history_file_of _ = None

-- the file of its given values, where it has one
abbrev pub values_file_of : Job → Option (List ℕ)
values_file_of (stuck expression values limit states) = Some values
values_file_of _ = None

-- the journal that its run keeps
abbrev pub journal_of : Job → Option (List ℕ)
journal_of (replay expression journal script limit turns) = Some journal
journal_of (serve expression journal socket limit turns) = Some journal
journal_of _ = None

-- the file that it makes a renewed journal of
abbrev pub new_file_of : Job → Option (List ℕ)
new_file_of (renew expression journal new limit) = Some new
new_file_of _ = None

-- the socket on which it takes connections
abbrev pub socket_of : Job → Option (List ℕ)
socket_of (serve expression journal socket limit turns) = Some socket
socket_of _ = None

-- the limit of Size; 0 where it has none, as it makes no tree
abbrev pub limit_of : Job → ℕ
limit_of (trace expression actions limit) = limit
limit_of (replay expression journal script limit turns) = limit
limit_of (serve expression journal socket limit turns) = limit
limit_of (work count seed limit) = limit
limit_of (simplify expression) = 0
limit_of (bound expression count) = 0
limit_of (follow expression lines limit) = limit
limit_of (lint expression) = 0
limit_of (why expression actions action limit) = limit
limit_of (next expression actions values limit) = limit
limit_of (stuck expression values limit states) = limit
limit_of (renew expression journal new limit) = limit

-- the words name no job that has a journal, or makes one
abbrev pub NamesNoJournal : List (List ℕ) → Type 0
NamesNoJournal words = (job : Job) → Names words job
    → (journal_of job ≡ None) × (new_file_of job ≡ None)

-- the words name no job that takes connections
abbrev pub NamesNoSocket : List (List ℕ) → Type 0
NamesNoSocket words = (job : Job) → Names words job → socket_of job ≡ None
