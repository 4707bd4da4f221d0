-- Files that are opened as the journal of a text.
use Rattle.std.specs.Prelude.{◌⊎◌, ℕ, List}
use Rattle.ix_journal.specs.Kinds.{IsUnfinished, IsUnopened, IsReady}

-- an open journal of this text
abbrev pub IsReadyWith : List ℕ → List ℕ → Type 0
IsReadyWith file text = (gate : ℕ) × IsReady file text gate

-- a journal that was never opened, not even finished or with this text: it is made anew
abbrev pub IsNew : List ℕ → List ℕ → Type 0
IsNew file text = IsUnfinished file ⊎ IsUnopened file text
