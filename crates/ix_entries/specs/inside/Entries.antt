-- Entries by key beside a common item, which stands for every key without an entry.
use Rattle.std.specs.Prelude.{◌≡◌, Bool, false, cond, List}
use Rattle.std.specs.BTreeMap.{is_at, insert_entry}
use Rattle.std.specs.List.{All}
use Rattle.std.specs.List.Sorted.{IsStrictlySortedBy}
use Rattle.std.specs.Map.{keys_of, values_of, lookup, remove_entry}
use Rattle.std.specs.Option.{unwrap_or}
use Rattle.std.specs.declared.cmp.Ordering.{Ordering}

-- the keys ascend strictly
abbrev pub KeysAscend : {K T : Type 0} → (K → K → Ordering) → List (K × T) → Type 0
KeysAscend cmp entries = IsStrictlySortedBy cmp (keys_of entries)

-- the keys ascend strictly, and no item equals the common one
pub record AreProperEntries {K T : Type 0} (cmp : K → K → Ordering) (eq : T → T
    → Bool) (common : T) (entries : List (K × T)) : Type 0 where
  pub ascending : KeysAscend cmp entries
  pub differing : All (λ item. eq item common ≡ false) (values_of entries)

-- the item of a key: that of its entry, or the common one
abbrev pub item_at : {K T : Type 0} → (K → K → Ordering) → List (K × T) → T → K → T
item_at cmp entries common key = unwrap_or (lookup (is_at (cmp key)) entries) common

-- the entries with this item at the key, and with no entry for it where the item equals the common
-- one
abbrev pub with_entry : {K T : Type 0} → (K → K → Ordering) → (T → T → Bool) → T → List (K × T) → K
    → T → List (K × T)
with_entry cmp eq common entries key item =
    cond (eq item common) (remove_entry (is_at (cmp key)) entries)
    (insert_entry cmp entries key item)
