-- What a send that failed leaves is a part of it.
use Rattle.std.proofs.Common.{◌≡◌, ℕ, ◌/◌, Bool, true, false, List, [], length, drop, Some, inl, inr, refl, ap}
use Rattle.std.proofs.lemmas.List.{take-append-drop}
use Rattle.ix_outside.specs.Contents.{GivenEvent, Sends, SendsPart, with_gone}
use Rattle.ix_outside.specs.inside.NothingTold.{nothing_told}
use Rattle.ix_memory.specs.inside.MemorySiteState.{told_contents, half_of}

-- the first half was sent
pub half_is_part : (told : Bool) (given : List GivenEvent) (sends sends' : Sends) (conn : ℕ) (bytes : List ℕ)
    → sends' ≡ with_gone conn (half_of bytes) sends
    → SendsPart conn bytes (told_contents told given sends) (told_contents told given sends')
half_is_part true given sends sends' conn bytes is = record {
  given = inl refl;
  sends = inl (record {
    front = half_of bytes;
    is_front = (drop (length bytes / 2) bytes, take-append-drop (length bytes / 2) bytes);
    sends = ap (λ (s : Sends). Some s) is;
  });
  text = ([], (_, refl), refl);
  lost = refl;
}
half_is_part false given sends sends' conn bytes is = record {
  given = inl refl;
  sends = inr refl;
  text = ([], (_, refl), refl);
  lost = refl;
}

-- the site tells no contents any more
pub nothing_is_part : (told : Bool) (given : List GivenEvent) (sends : Sends) (conn : ℕ) (bytes : List ℕ)
    → SendsPart conn bytes (told_contents told given sends) nothing_told
nothing_is_part true given sends conn bytes =
    record { given = inr refl; sends = inr refl; text = ([], (_, refl), refl); lost = refl }
nothing_is_part false given sends conn bytes =
    record { given = inr refl; sends = inr refl; text = ([], (_, refl), refl); lost = refl }
