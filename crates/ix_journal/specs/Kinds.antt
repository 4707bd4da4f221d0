-- The kinds of file, by the bytes read.
use Rattle.std.specs.Prelude.{◌≡◌, ◌≢◌, ◌⊎◌, ℕ, ◌+◌, ◌<◌, ◌≤◌, Some, List, [], ◌∷◌, ◌++◌, length}
use Rattle.std.specs.Prelude.{drop, slice_get}
use Rattle.ix_journal.specs.declared.TheConstants.{FRONT_LENGTH, OPEN}
use Rattle.ix_journal.specs.Format.{IsVersion, header}

-- the file is a head gate, the whole header of this text, of a version that is read, and these
-- bytes behind it, at least one
pub record HasHeader (bytes : List ℕ) (head : ℕ) (text behind : List ℕ) : Type 0 where
  pub version : ℕ
  pub known : IsVersion version
  pub spells : bytes ≡ head ∷ header version text ++ behind
  pub short : length text < 65536
  pub gate : 0 < length behind

-- the length is 0 or 1, or byte 0 is 00
abbrev pub IsUnfinished : List ℕ → Type 0
IsUnfinished bytes = (length bytes ≤ 1) ⊎ (slice_get bytes 0 ≡ Some 0)

-- not unfinished; byte 0 isn't open, and exactly one byte follows the header, and it isn't open
pub record IsUnopened (bytes text : List ℕ) : Type 0 where
  pub head : ℕ
  pub gate : ℕ
  pub header : HasHeader bytes head text (gate ∷ [])
  pub finished : head ≢ 0
  pub unopened : head ≢ OPEN
  pub closed : gate ≢ OPEN

-- byte 0 is open, and the header is whole; the gate behind it is at this place
pub record IsReady (bytes text : List ℕ) (gate : ℕ) : Type 0 where
  pub header : HasHeader bytes OPEN text (drop gate bytes)
  pub place : gate ≡ FRONT_LENGTH + length text

-- not unfinished, and behind byte 0 the magic isn't there or the header isn't whole
pub record LacksHeader (bytes : List ℕ) : Type 0 where
  pub finished : ¬ IsUnfinished bytes
  pub none : (head : ℕ) (text behind : List ℕ) → ¬ HasHeader bytes head text behind

-- neither unfinished nor unopened, and byte 0 isn't open
pub record LacksGate (bytes : List ℕ) : Type 0 where
  pub finished : ¬ IsUnfinished bytes
  pub no_unopened : (text : List ℕ) → ¬ IsUnopened bytes text
  pub closed : slice_get bytes 0 ≢ Some OPEN

-- the header isn't whole, or byte 0 isn't open
abbrev pub IsForeign : List ℕ → Type 0
IsForeign bytes = LacksHeader bytes ⊎ LacksGate bytes

-- a kind of file, with the text of its header, and of a ready one the place of its first gate
pub data Kind : Type 0 where
  unfinished : Kind
  unopened : List ℕ → Kind
  foreign : Kind
  ready : List ℕ → ℕ → Kind

-- the file is of this kind
abbrev pub HasKind : List ℕ → Kind → Type 0
HasKind bytes unfinished = IsUnfinished bytes
HasKind bytes (unopened text) = IsUnopened bytes text
HasKind bytes foreign = IsForeign bytes
HasKind bytes (ready text gate) = IsReady bytes text gate
