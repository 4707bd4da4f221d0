-- What a text gives: it is cut at each byte 10.
use Rattle.std.specs.Prelude.{ℕ, List, [], ◌∷◌, ◌++◌, length, map, nat_le, ◌==◌, if◌then◌else◌}

-- a text cut at each byte 10: the parts that a byte 10 ends, and the last part, which none ends
pub record Cut : Type 0 where
  pub ended : List (List ℕ)
  pub last : List ℕ

-- the parts with a byte before the first of them
abbrev pub in_front : ℕ → List (List ℕ) → List ℕ → Cut
in_front byte [] last = record { ended = []; last = byte ∷ last }
in_front byte (part ∷ parts) last = record { ended = (byte ∷ part) ∷ parts; last = last }

-- the text, cut
abbrev pub cut : List ℕ → Cut
cut [] = record { ended = []; last = [] }
cut (byte ∷ text) =
    if byte == 10 then record { ended = [] ∷ (cut text).ended; last = (cut text).last }
    else in_front byte (cut text).ended (cut text).last

-- what a text gives: lines, and one item for each line that is too long
pub data Item : Type 0 where
  line : List ℕ → Item
  too_long : Item

-- a part that a byte 10 ends is a line of at most 512 bytes, or too long
abbrev pub item_of : List ℕ → Item
item_of part = if nat_le (length part) 512 then line part else too_long

-- the last part is nothing so far, or too long already
abbrev pub item_of_last : List ℕ → List Item
item_of_last part = if nat_le (length part) 512 then [] else too_long ∷ []

-- the items of a text
abbrev pub items : List ℕ → List Item
items text = map item_of (cut text).ended ++ item_of_last (cut text).last
