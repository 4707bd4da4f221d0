-- The laws of words, as statements over the definitions alone.
use Rattle.std.specs.Prelude.{◌≡◌, ℕ, List}
use Rattle.ix_cli.specs.Words.{Job, Names, NamesNoJob}

-- words name at most one job
abbrev pub WordsNameOneJob : Type 0
WordsNameOneJob = (words : List (List ℕ)) (job other : Job) → Names words job → Names words other
    → job ≡ other

-- words that each command refuses name none
abbrev pub RefusedWordsNameNone : Type 0
RefusedWordsNameNone = (words : List (List ℕ)) (job : Job) → NamesNoJob words → Names words job → ⊥
