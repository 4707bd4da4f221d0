-- The place of a key among entries whose keys ascend strictly.
use Rattle.std.proofs.Common.{◌≡◌, ℕ, suc, zero, ◌+◌, ◌<◌, ◌≤◌, ◌++◌, List, [], ◌∷◌, length, get_or, set, take, drop, Some, None, refl, sym, ap, ◌∙◌, subst, arith}
use Rattle.std.specs.BTreeMap.{is_at, insert_entry}
use Rattle.std.specs.Cmp.{IsTotalOrder}
use Rattle.std.specs.List.{insert, remove, AllWithin, HoldsAt}
use Rattle.std.specs.List.Sorted.{IsStrictlySortedBy, IsNonDecreasingBy, IsPartitionPoint}
use Rattle.std.specs.Map.{keys_of, lookup, remove_entry}
use Rattle.std.specs.Ordering.{ordering_reverse, ordering_index, is_lt}
use Rattle.std.specs.declared.cmp.Ordering.{Ordering}
use Rattle.std.specs.declared.cmp.Ordering.TheVariants.{Less, Equal, Greater}
use Rattle.std.proofs.lemmas.Cmp.{alike_right}
use Rattle.std.proofs.lemmas.List.{get_or-map}
use Rattle.std.proofs.lemmas.List.Sorted.{searchable_from_sorted}
use Rattle.std.proofs.lemmas.Map.Entries.{length-keys_of}
use Rattle.std.proofs.lemmas.Map.Keys.{Less-from_sorted}
use Rattle.ix_entries.specs.inside.Entries.{KeysAscend}

-- what a look-up, a removal and an insert do where the key's entry stands at this place
pub record Found {K T : Type 0} (cmp : K → K → Ordering) (entries : List (K × T)) (key : K) (place : ℕ) : Type 0 where
  pub looked_up : (d : K × T) → lookup (is_at (cmp key)) entries ≡ Some (get_or entries place d).1
  pub removed : remove entries place ≡ remove_entry (is_at (cmp key)) entries
  pub written : (item : T) (d : K × T) → set entries place ((get_or entries place d).0, item) ≡ insert_entry cmp entries key item
  pub beside : ((other : K) → cmp key other ≡ Equal → other ≡ key) → (item : T) → take place entries ++ (key, item) ∷ drop (suc place) entries ≡ insert_entry cmp entries key item

-- and where the key has no entry, and this is the place where one would stand
pub record Missing {K T : Type 0} (cmp : K → K → Ordering) (entries : List (K × T)) (key : K) (place : ℕ) : Type 0 where
  pub looked_up : lookup (is_at (cmp key)) entries ≡ None
  pub removed : remove_entry (is_at (cmp key)) entries ≡ entries
  pub inserted : (item : T) → insert entries place (key, item) ≡ insert_entry cmp entries key item

-- an answer of the order, the other way round
pub turned : {K : Type 0} {cmp : K → K → Ordering} → IsTotalOrder cmp → (x y : K) (r : Ordering) → cmp x y ≡ r → cmp y x ≡ ordering_reverse r
turned o x y r e = o.antisymm y x ∙ ap ordering_reverse e

module _ {K T : Type 0} {cmp : K → K → Ordering} (o : IsTotalOrder cmp) where
  -- the keys of two entries, the first of which stands before the second
  keys_less : (entries : List (K × T)) (i j : ℕ) (d : K × T) → KeysAscend cmp entries → i < j → j < length entries → cmp (get_or entries i d).0 (get_or entries j d).0 ≡ Less
  keys_less entries i j d h lt bound =
      let a = get_or-map (λ (e : K × T). e.0) entries i d d.0 (omega arith) in
      let b = get_or-map (λ (e : K × T). e.0) entries j d d.0 bound in
      rw (← a, ← b) (Less-from_sorted cmp (keys_of entries) i j d.0 h lt (rw length-keys_of bound))

  -- entries whose keys ascend strictly can be searched by halving
  pub searchable : (entries : List (K × T)) (key : K) → KeysAscend cmp entries → IsNonDecreasingBy (λ entry. ordering_index (cmp entry.0 key)) entries
  searchable entries key h =
      searchable_from_sorted o (λ (e : K × T). e.0) entries key
      (λ k d _ lt. ap is_lt (turned o (get_or entries k d).0 (get_or entries (k + 1) d).0 Less (keys_less entries k (k + 1) d h (omega arith) lt)))

  -- where an entry's key is equal, the entry is the key's
  pub found : (entries : List (K × T)) (key : K) (place : ℕ) → KeysAscend cmp entries → place < length entries → HoldsAt (λ entry. cmp entry.0 key ≡ Equal) entries place → Found cmp entries key place
  unfolding IsStrictlySortedBy
  found [] key place h lt at = absurd (omega arith)
  found (e ∷ es) key zero h lt at =
      let t : cmp key e.0 ≡ Equal = turned o e.0 key Equal (at e) in
      record {
        looked_up = λ d. rw t refl;
        removed = rw t refl;
        written = λ item d. rw t refl;
        beside = λ same item. rw t (ap (λ (k : K). (k, item) ∷ es) (sym (same e.0 t)));
      }
  found (e ∷ es) key (suc k) h lt at =
      let rest = found es key k h.1 (omega arith) at in
      let before : cmp e.0 (get_or es k e).0 ≡ Less = keys_less (e ∷ es) 0 (suc k) e h (omega arith) lt in
      let t : cmp key e.0 ≡ Greater = turned o e.0 key Less (sym (alike_right o (get_or es k e).0 key e.0 (at e)) ∙ before) in
      record {
        looked_up = λ d. rw t (rest.looked_up d);
        removed = rw t (ap (λ l. e ∷ l) rest.removed);
        written = λ item d. rw t (ap (λ l. e ∷ l) (rest.written item d));
        beside = λ same item. rw t (ap (λ l. e ∷ l) (rest.beside same item));
      }

  -- where all keys before a place are less and the others greater, the key has no entry
  pub missing : (entries : List (K × T)) (key : K) (place : ℕ) → place ≤ length entries → AllWithin (λ entry. cmp entry.0 key ≡ Less) entries 0 place → AllWithin (λ entry. cmp entry.0 key ≡ Greater) entries place (length entries) → Missing cmp entries key place
  missing [] key zero le below above = record { looked_up = refl; removed = refl; inserted = λ item. refl }
  missing [] key (suc place) le below above = absurd (omega arith)
  missing (e ∷ es) key zero le below above =
      let t : cmp key e.0 ≡ Less = turned o e.0 key Greater (above 0 e (omega arith) (omega arith)) in
      let rest = missing es key zero (omega arith) (λ k d a b. absurd (omega arith)) (λ k d a b. above (suc k) d (omega arith) (omega arith)) in
      record {
        looked_up = rw t rest.looked_up;
        removed = rw t (ap (λ l. e ∷ l) rest.removed);
        inserted = λ item. rw t refl;
      }
  missing (e ∷ es) key (suc place) le below above =
      let t : cmp key e.0 ≡ Greater = turned o e.0 key Less (below 0 e (omega arith) (omega arith)) in
      let rest = missing es key place (omega arith) (λ k d a b. below (suc k) d (omega arith) (omega arith)) (λ k d a b. above (suc k) d (omega arith) (omega arith)) in
      record {
        looked_up = rw t rest.looked_up;
        removed = rw t (ap (λ l. e ∷ l) rest.removed);
        inserted = λ item. rw t (ap (λ l. e ∷ l) (rest.inserted item));
      }

  -- the same of a list that was searched by halving
  pub found_in : (entries seen : List (K × T)) (key : K) (place : ℕ) → seen ≡ entries → KeysAscend cmp entries → place < length seen → HoldsAt (λ entry. cmp entry.0 key ≡ Equal) seen place → Found cmp entries key place
  found_in entries seen key place e h lt at =
      let P : List (K × T) → Type 0 = λ l. (place < length l) × HoldsAt (λ entry. cmp entry.0 key ≡ Equal) l place in
      let p : P entries = subst P e (lt, at) in
      found entries key place h p.0 p.1

  pub missing_in : (entries seen : List (K × T)) (key : K) (place : ℕ) → seen ≡ entries → KeysAscend cmp entries → place ≤ length seen → (IsNonDecreasingBy (λ entry. ordering_index (cmp entry.0 key)) seen → IsPartitionPoint (λ entry. cmp entry.0 key ≡ Less) (λ entry. cmp entry.0 key ≡ Greater) seen place) → Missing cmp entries key place
  missing_in entries seen key place e h le cut =
      let P : List (K × T) → Type 0 = λ l. (place ≤ length l) × (IsNonDecreasingBy (λ entry. ordering_index (cmp entry.0 key)) l → IsPartitionPoint (λ entry. cmp entry.0 key ≡ Less) (λ entry. cmp entry.0 key ≡ Greater) l place) in
      let p : P entries = subst P e (le, cut) in
      let parts = p.1 (searchable entries key h) in
      missing entries key place p.0 parts.0 parts.1
