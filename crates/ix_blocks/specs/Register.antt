-- A file in blocks as a store of keys has it, and the transactions on it.
use Rattle.std.specs.Prelude.{ℕ, zero, suc, ◌+◌, ◌==◌, nat_lt, Bool, if◌then◌else◌}
use Rattle.std.specs.Prelude.{List, [], ◌∷◌, ◌++◌, take, Option, None, Some}
use Rattle.std.specs.Int.{div_ceil}
use Rattle.ix_blocks.specs.declared.claim.Head.{Head}
use Rattle.ix_blocks.specs.declared.claim.Seen.{Seen}

-- The keys of one file: the head; the revision of the store at which it was put last, 0 where it
-- never was; the bytes of each block, none where it is absent; and the store's newest revision,
-- which the transactions on other keys raise too.
pub record Register : Type 0 where
  pub head : Head
  pub revision : ℕ
  pub blocks : ℕ → List ℕ
  pub newest : ℕ

-- what a look at the head sees
abbrev pub seen_of : Register → Seen
seen_of register = record { head = register.head; revision = register.revision }

-- where the head was put last at the revision `guard`: puts the head, and each of these blocks by
-- its number, and deletes the blocks from a number on
pub record Transaction : Type 0 where
  pub guard : ℕ
  pub head : Head
  pub puts : List (ℕ × List ℕ)
  pub gone_from : Option ℕ

-- the blocks after one is put
abbrev pub put_block : (ℕ → List ℕ) → ℕ × List ℕ → ℕ → List ℕ
put_block blocks put number = if number == put.0 then put.1 else blocks number

-- the blocks after these are put, in order
abbrev pub put_blocks : (ℕ → List ℕ) → List (ℕ × List ℕ) → ℕ → List ℕ
put_blocks blocks [] = blocks
put_blocks blocks (put ∷ puts) = put_blocks (put_block blocks put) puts

-- the blocks after those from a number on are deleted
abbrev pub delete_from : (ℕ → List ℕ) → Option ℕ → ℕ → List ℕ
delete_from blocks None = blocks
delete_from blocks (Some from) = λ number. if nat_lt number from then blocks number else []

-- the guard is the revision at which the head was put last
abbrev pub fits : Transaction → Register → Bool
fits transaction register = transaction.guard == register.revision

-- what a transaction makes where its guard fits
abbrev pub changed : Transaction → Register → Register
changed transaction register = record {
  head = transaction.head;
  revision = register.newest + 1;
  blocks = delete_from (put_blocks register.blocks transaction.puts) transaction.gone_from;
  newest = register.newest + 1;
}

-- what a transaction makes: all of its work, or nothing
abbrev pub apply : Transaction → Register → Register
apply transaction register =
    if fits transaction register then changed transaction register else register

-- the first blocks, one behind the other
abbrev pub first_blocks : ℕ → (ℕ → List ℕ) → List ℕ
first_blocks zero blocks = []
first_blocks (suc count) blocks = first_blocks count blocks ++ blocks count

-- the file: its bytes up to the length, in blocks of 4,096 bytes
abbrev pub image : Register → List ℕ
image register =
    take register.head.length (first_blocks (div_ceil register.head.length 4096) register.blocks)
