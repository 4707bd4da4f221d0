-- What a site tells of its disk, and what the calls of the disk make of it.
use Rattle.std.specs.Prelude.{◌≡◌, ◌⊎◌, ℕ, ◌+◌, ◌≤◌, List, ◌++◌, length, take, drop, max, ⊤}
use Rattle.std.specs.Prelude.{Option, None, Some, Result, Ok, Err}

-- an attach that answered Ok: the name, the tick right behind it, and the file as it read then
pub record Opened : Type 0 where
  pub name : List ℕ
  pub tick : ℕ
  pub file : List ℕ

-- what a read of the file gives, and what was attached
pub record Disk : Type 0 where
  pub file : List ℕ
  pub opened : Option Opened

-- where the disk is told, this holds of its file
abbrev pub OfFile : (List ℕ → Type 0) → Option Disk → Type 0
OfFile P None = ⊤
OfFile P (Some disk) = P disk.file

-- where the disk is told, no attach is told of
abbrev pub HasNothingOpened : Option Disk → Type 0
HasNothingOpened None = ⊤
HasNothingOpened (Some disk) = disk.opened ≡ None

-- where the disk is told, this holds of its file before and after; whether it is told stays, and so
-- does what was attached
abbrev pub MakesFile : (List ℕ → List ℕ → Type 0) → Option Disk → Option Disk → Type 0
MakesFile R None new = new ≡ None
MakesFile R (Some old) None = ⊥
MakesFile R (Some old) (Some new) = R old.file new.file × (new.opened ≡ old.opened)

-- the bytes are over what was there at this place, and past the end
abbrev pub Overwrites : ℕ → List ℕ → List ℕ → List ℕ → Type 0
Overwrites at bytes old new = new ≡ take at old ++ bytes ++ drop (at + length bytes) old

-- After a write of `count` bytes at this place that was cut short: any bytes are in the range and
-- past the old end, all others stay, and the end is anywhere from the old one to that of the range.
pub record Torn (at count : ℕ) (old new : List ℕ) : Type 0 where
  pub before : take at new ≡ take at old
  pub behind : drop (at + count) new ≡ drop (at + count) old
  pub no_shorter : length old ≤ length new
  pub no_longer : length new ≤ max (length old) (at + count)

-- after a cut to this length that may or may not have taken place
abbrev pub MaybeCut : ℕ → List ℕ → List ℕ → Type 0
MaybeCut count old new = (new ≡ old) ⊎ (new ≡ take count old)

-- the file stays
abbrev pub Stays : List ℕ → List ℕ → Type 0
Stays old new = new ≡ old

-- the bytes are written; where the call failed, maybe in part
abbrev pub Writes : {T E : Type 0} → ℕ → List ℕ → Result T E → Option Disk → Option Disk → Type 0
Writes at bytes (Ok done) old new = MakesFile (Overwrites at bytes) old new
Writes at bytes (Err fault) old new = MakesFile (Torn at (length bytes)) old new

-- the file is cut to this length; where the call failed, maybe
abbrev pub Cuts : {T E : Type 0} → ℕ → Result T E → Option Disk → Option Disk → Type 0
Cuts count (Ok done) old new = MakesFile (λ before after. after ≡ take count before) old new
Cuts count (Err fault) old new = MakesFile (MaybeCut count) old new

-- the file of this name was attached right before this tick, where the disk is told
abbrev pub IsOpened : List ℕ → ℕ → Option Disk → Option Disk → Type 0
IsOpened name tick None new = new ≡ None
IsOpened name tick (Some old) None = ⊥
IsOpened name tick (Some old) (Some new) =
    new.opened ≡ Some (record { name = name; tick = tick; file = new.file })

-- the file of this name is attached, and the tick behind that is this; where the call failed,
-- nothing of the disk changed
abbrev pub Attaches : {T E : Type 0} → List ℕ → Result T E → ℕ → Option Disk → Option Disk → Type 0
Attaches name (Ok done) tick old new = IsOpened name tick old new
Attaches name (Err fault) tick old new = new ≡ old
