-- Files in memory.
use Rattle.std.specs.Prelude.{◌≢◌, ◌⊎◌, ◌≡◌, ℕ, List, [], ◌∷◌, map, string_bytes, true, ⊤, Some}
use Rattle.std.specs.Prelude.{String, Vec}
use Rattle.std.specs.declared.alloc.Global.{Global}
use Rattle.ix_outside.specs.Files.{Listing}
use Rattle.ix_outside.specs.FilesState.{FilesState}
use Rattle.ix_outside.specs.Loans.{free}
use Rattle.ix_memory.specs.Calls.{CallList, is_told}

-- the files, which calls fail, and how many failed
pub record MemoryFilesState : Type 0 where
  pub files : Listing
  pub calls : CallList
  pub faults : ℕ

-- the files as every contract of their trait sees them; the object was lent nothing
abbrev pub memory_files_state : MemoryFilesState → FilesState
memory_files_state state =
    record { contents = Some state.files; faults = state.faults; held = free }

-- the names with the bytes of their files
abbrev pub listing_of : List (String Global × Vec ℕ Global) → Listing
listing_of files = map (λ file. (string_bytes file.0, file.1.items)) files

-- no file has this name
abbrev pub HasNoFile : Listing → List ℕ → Type 0
HasNoFile [] name = ⊤
HasNoFile (file ∷ files) name = (file.0 ≢ name) × HasNoFile files name

-- a load fails: it is told to, or no file has the name
abbrev pub FailsToLoad : MemoryFilesState → List ℕ → Type 0
FailsToLoad state name = (is_told state.calls ≡ true) ⊎ HasNoFile state.files name
