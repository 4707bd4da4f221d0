-- What bytes begin with.
use Rattle.std.specs.Prelude.{◌≡◌, ℕ, ◌<◌, List, ◌∷◌, ◌++◌, length, drop, codes}
use Rattle.ix_journal.specs.Format.{IsVersion, with_length, header}

-- the bytes begin with this text behind its length, and at least one byte follows
pub record BeginsWithText (bytes text : List ℕ) : Type 0 where
  pub behind : List ℕ
  pub spells : bytes ≡ with_length text ++ behind
  pub gate : 0 < length behind
  pub short : length text < 65536

-- the bytes begin with the magic of a version that is read
pub record BeginsWithMagic (bytes : List ℕ) : Type 0 where
  pub version : ℕ
  pub known : IsVersion version
  pub spells : bytes ≡ codes "IXJ" ++ version ∷ drop 4 bytes

-- the bytes begin with the header of this text, of a version that is read, and at least one byte
-- follows
pub record BeginsWithHeader (bytes text : List ℕ) : Type 0 where
  pub version : ℕ
  pub known : IsVersion version
  pub behind : List ℕ
  pub spells : bytes ≡ header version text ++ behind
  pub gate : 0 < length behind
  pub short : length text < 65536
