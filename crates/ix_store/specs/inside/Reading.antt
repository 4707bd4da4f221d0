-- Calls that only read, and what they read of the file.
use Rattle.std.specs.Prelude.{◌≡◌, ℕ, ◌+◌, ◌<◌, ◌≤◌, List, [], ◌++◌, length, drop, Option}
use Rattle.ix_outside.specs.Crashes.{LeavesTheSame, Stretch}
use Rattle.ix_outside.specs.Disk.{Disk, OfFile, MakesFile, Stays}
use Rattle.ix_outside.specs.inside.DiskCalls.{DiskCalls, LeavesOnly}
use Rattle.ix_journal.specs.declared.slide.TheConstants.{SLIDE_ROOM}
use Rattle.ix_journal.specs.Kept.{Kept, extended, finished}
use Rattle.ix_journal.specs.Kinds.{Kind, HasKind}

-- calls of the disk that change nothing of it: the file stays, and all along just the images may be
-- left that might have been before
pub record OnlyReads (stretch : Stretch) : Type 0 where
  pub calls : DiskCalls stretch
  pub stays : MakesFile Stays stretch.before.disk stretch.after.disk
  pub now : LeavesTheSame stretch.was.now stretch.is.now
  pub images : LeavesOnly stretch.was.now stretch

-- the file goes on behind these bytes
abbrev pub HasFront : List ℕ → List ℕ → Type 0
HasFront bytes file = (rest : List ℕ) × (file ≡ bytes ++ rest)

-- the file begins with these bytes, they tell its kind, and one that they don't tell more of than
-- its first byte has no more
pub record IsHeadOf (bytes file : List ℕ) : Type 0 where
  pub rest : List ℕ
  pub whole : file ≡ bytes ++ rest
  pub all : length bytes ≤ 1 → rest ≡ []
  pub kind : (kind : Kind) → HasKind bytes kind → HasKind file kind

-- What a Slide comes to by one read from `at` on: some of the file's next bytes come, up to the
-- place that is next, or no more are there.
pub data ReadsOn (disk : Option Disk) (at : ℕ) (old : Kept) : ℕ → Kept → Type 0 where
  took : (piece : List ℕ) → 0 < length piece → length old.bytes + length piece ≤ SLIDE_ROOM
      → OfFile (λ file. drop at file ≡ piece ++ drop (at + length piece) file) disk
      → ReadsOn disk at old (at + length piece) (extended old piece)
  told_the_end : OfFile (λ file. drop at file ≡ []) disk → ReadsOn disk at old at (finished old)
