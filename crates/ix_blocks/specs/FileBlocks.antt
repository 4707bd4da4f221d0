-- A file cut into blocks, and what a sync of it brings.
use Rattle.std.specs.Prelude.{◌≡◌, ℕ, ◌<◌, ◌*◌, ◌==◌, nat_lt, Bool, false, List, length, take, drop}
use Rattle.std.specs.Prelude.{length as list_length, map, filter, Some}
use Rattle.std.specs.List.{list_any}
use Rattle.std.specs.Int.{div_ceil}
use Rattle.ix_blocks.specs.Register.{Register}
use Rattle.ix_blocks.specs.Owners.{Unsynced}

-- the block of this number, of 4,096 bytes; fewer at the file's end, and none past it
abbrev pub block_of : List ℕ → ℕ → List ℕ
block_of file number = take 4096 (drop (number * 4096) file)

-- how many blocks a file has
abbrev pub block_count : List ℕ → ℕ
block_count file = div_ceil (length file) 4096

-- a number is one of these
abbrev pub is_among : List ℕ → ℕ → Bool
is_among numbers number = list_any (λ other. other == number) numbers

-- each block of the file whose number isn't among these is as it was synced
abbrev pub DiffersIn : List ℕ → List ℕ → List ℕ → Type 0
DiffersIn changed synced file = (number : ℕ) → number < block_count file
    → is_among changed number ≡ false → block_of file number ≡ block_of synced number

-- the blocks of these numbers that the file has, each with its number
abbrev pub changed_blocks : List ℕ → List ℕ → List (ℕ × List ℕ)
changed_blocks changed file = map (λ number. (number, block_of file number))
    (filter (λ number. nat_lt number (block_count file)) changed)

-- what a sync of the file brings: its length and these blocks, and none are left behind its end
abbrev pub brings : List ℕ → List ℕ → Unsynced
brings changed file = record {
  length = length file;
  puts = changed_blocks changed file;
  gone_from = Some (block_count file);
}

-- the store has this file: its length, and each of its blocks
pub record HoldsFile (file : List ℕ) (register : Register) : Type 0 where
  pub length : register.head.length ≡ list_length file
  pub blocks : (number : ℕ) → number < block_count file
      → register.blocks number ≡ block_of file number
