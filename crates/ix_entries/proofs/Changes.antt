-- What entries hold after a change of one.
use Rattle.std.proofs.Common.{◌≡◌, Bool, true, false, cond, List, [], ◌∷◌, Option, Some, None, refl, sym, ap, ◌∙◌, subst}
use Rattle.std.specs.BTreeMap.{is_at, insert_entry}
use Rattle.std.specs.Cmp.{IsTotalOrder}
use Rattle.std.specs.List.{AllByRecursion}
use Rattle.std.specs.List.Sorted.{IsStrictlySortedBy}
use Rattle.std.specs.Map.{keys_of, lookup, remove_entry}
use Rattle.std.specs.Option.{unwrap_or}
use Rattle.std.specs.Ordering.{match_ordering, is_eq}
use Rattle.std.specs.declared.cmp.Ordering.{Ordering}
use Rattle.std.specs.declared.cmp.Ordering.TheVariants.{Less, Equal, Greater}
use Rattle.std.proofs.lemmas.Cmp.{eq_by_cmp_equiv}
use Rattle.std.proofs.lemmas.Map.{lookup-remove_entry}
use Rattle.std.proofs.lemmas.Map.Keys.{IsDistinct-from_sorted}
use Rattle.std.proofs.lemmas.Map.Views.{All-map-remove_entry, All-values-insert_entry}
use Rattle.ix_entries.specs.inside.Entries.{KeysAscend, AreProperEntries, item_at, with_entry}
use Rattle.ix_entries.proofs.Places.{turned}

all_above : {K : Type 0} {cmp : K → K → Ordering} → IsTotalOrder cmp → (key x : K) (ks : List K) → cmp key x ≡ Less → AllByRecursion (λ y. cmp x y ≡ Less) ks → AllByRecursion (λ y. cmp key y ≡ Less) ks
all_above o key x [] e h = tt
all_above o key x (y ∷ ys) e h = (o.trans key x y e h.0, all_above o key x ys e h.1)

module _ {K T : Type 0} {cmp : K → K → Ordering} (o : IsTotalOrder cmp) where
  keys-insert_entry : (P : K → Type 0) (entries : List (K × T)) (key : K) (item : T) → AllByRecursion P (keys_of entries) → P key → AllByRecursion P (keys_of (insert_entry cmp entries key item))
  keys-insert_entry P [] key item h p = (p, tt)
  keys-insert_entry P (e ∷ es) key item h p = by_answer (keys-insert_entry P es key item h.1 p) (cmp key e.0)
    where
      by_answer : AllByRecursion P (keys_of (insert_entry cmp es key item)) → (r : Ordering) → AllByRecursion P (keys_of (match_ordering r ((key, item) ∷ e ∷ es) ((e.0, item) ∷ es) (e ∷ insert_entry cmp es key item)))
      by_answer rest Less = (p, h)
      by_answer rest Equal = h
      by_answer rest Greater = (h.0, rest)

  -- keys that ascend strictly still do with an entry inserted
  pub KeysAscend-insert_entry : (entries : List (K × T)) (key : K) (item : T) → KeysAscend cmp entries → KeysAscend cmp (insert_entry cmp entries key item)
  unfolding IsStrictlySortedBy
  KeysAscend-insert_entry [] key item h = (tt, tt)
  KeysAscend-insert_entry (e ∷ es) key item h = by_answer (KeysAscend-insert_entry es key item h.1) (cmp key e.0) refl
    where
      by_answer : KeysAscend cmp (insert_entry cmp es key item) → (r : Ordering) → cmp key e.0 ≡ r → KeysAscend cmp (match_ordering r ((key, item) ∷ e ∷ es) ((e.0, item) ∷ es) (e ∷ insert_entry cmp es key item))
      by_answer rest Less t = ((t, all_above o key e.0 (keys_of es) t h.0), h)
      by_answer rest Equal t = h
      by_answer rest Greater t =
          (keys-insert_entry (λ y. cmp e.0 y ≡ Less) es key item h.0 (turned o key e.0 Greater t), rest)

  keys-remove_entry : (P : K → Type 0) (test : K → Bool) (entries : List (K × T)) → AllByRecursion P (keys_of entries) → AllByRecursion P (keys_of (remove_entry test entries))
  keys-remove_entry P test [] h = tt
  keys-remove_entry P test (e ∷ es) h = by_test (keys-remove_entry P test es h.1) (test e.0)
    where
      by_test : AllByRecursion P (keys_of (remove_entry test es)) → (b : Bool) → AllByRecursion P (keys_of (cond b es (e ∷ remove_entry test es)))
      by_test rest true = h.1
      by_test rest false = (h.0, rest)

  -- and with an entry removed
  pub KeysAscend-remove_entry : (test : K → Bool) (entries : List (K × T)) → KeysAscend cmp entries → KeysAscend cmp (remove_entry test entries)
  unfolding IsStrictlySortedBy
  KeysAscend-remove_entry test [] h = tt
  KeysAscend-remove_entry test (e ∷ es) h = by_test (KeysAscend-remove_entry test es h.1) (test e.0)
    where
      by_test : KeysAscend cmp (remove_entry test es) → (b : Bool) → KeysAscend cmp (cond b es (e ∷ remove_entry test es))
      by_test rest true = h.1
      by_test rest false = (keys-remove_entry (λ y. cmp e.0 y ≡ Less) test es h.0, rest)

  -- proper entries are proper after the change
  pub IsProper-with_entry : (eq : T → T → Bool) (common : T) (entries : List (K × T)) (key : K) (item : T) → AreProperEntries cmp eq common entries → AreProperEntries cmp eq common (with_entry cmp eq common entries key item)
  IsProper-with_entry eq common entries key item h = by_test (eq item common) refl
    where
      by_test : (b : Bool) → eq item common ≡ b → AreProperEntries cmp eq common (cond b (remove_entry (is_at (cmp key)) entries) (insert_entry cmp entries key item))
      by_test true e = record {
        ascending = KeysAscend-remove_entry (is_at (cmp key)) entries h.ascending;
        differing = All-map-remove_entry (is_at (cmp key)) (λ (e : K × T). e.1) (λ x. eq x common ≡ false) entries h.differing;
      }
      by_test false e = record {
        ascending = KeysAscend-insert_entry entries key item h.ascending;
        differing = All-values-insert_entry cmp key item (λ x. eq x common ≡ false) entries h.differing e;
      }

  lookup-insert_entry : (key other : K) (entries : List (K × T)) (item : T) → lookup (is_at (cmp other)) (insert_entry cmp entries key item) ≡ cond (is_at (cmp key) other) (Some item) (lookup (is_at (cmp other)) entries)
  lookup-insert_entry key other [] item = ap (λ b. cond b (Some item) None) ((eq_by_cmp_equiv o).symm other key)
  lookup-insert_entry key other (e ∷ es) item = by_answer (lookup-insert_entry key other es item) (cmp key e.0) refl
    where
      both : (b c : Bool) → (b ≡ true → c ≡ true → ⊥) → cond c (Some e.1) (cond b (Some item) (lookup (is_at (cmp other)) es)) ≡ cond b (Some item) (cond c (Some e.1) (lookup (is_at (cmp other)) es))
      both true true h = absurd (h refl refl)
      both true false h = refl
      both false c h = refl

      twice : (b : Bool) → cond b (Some item) (lookup (is_at (cmp other)) es) ≡ cond b (Some item) (cond b (Some e.1) (lookup (is_at (cmp other)) es))
      twice true = refl
      twice false = refl

      by_answer : lookup (is_at (cmp other)) (insert_entry cmp es key item) ≡ cond (is_at (cmp key) other) (Some item) (lookup (is_at (cmp other)) es) → (r : Ordering) → cmp key e.0 ≡ r → lookup (is_at (cmp other)) (match_ordering r ((key, item) ∷ e ∷ es) ((e.0, item) ∷ es) (e ∷ insert_entry cmp es key item)) ≡ cond (is_at (cmp key) other) (Some item) (lookup (is_at (cmp other)) (e ∷ es))
      by_answer rest Less t = ap (λ b. cond b (Some item) (lookup (is_at (cmp other)) (e ∷ es))) ((eq_by_cmp_equiv o).symm other key)
      by_answer rest Equal t =
          let laws = eq_by_cmp_equiv o in
          let same : is_at (cmp other) e.0 ≡ is_at (cmp key) other = sym (laws.congr key e.0 other (ap is_eq t) ∙ laws.symm e.0 other) in
          rw same (twice (is_at (cmp key) other))
      by_answer rest Greater t =
          let laws = eq_by_cmp_equiv o in
          ap (λ l. cond (is_at (cmp other) e.0) (Some e.1) l) rest ∙ both (is_at (cmp key) other) (is_at (cmp other) e.0) (λ p q. let k = laws.congr key other e.0 p in let n = ap is_eq t in cc)

  -- where each key's item is after the change
  pub item_at-with_entry : (eq : T → T → Bool) (common : T) (entries : List (K × T)) (key other : K) (item : T) → KeysAscend cmp entries → item_at cmp (with_entry cmp eq common entries key item) common other ≡ cond (is_at (cmp key) other) (cond (eq item common) common item) (item_at cmp entries common other)
  item_at-with_entry eq common entries key other item h = by_test (eq item common)
    where
      out : (b : Bool) (x : Option T) (l : Option T) → unwrap_or (cond b x l) common ≡ cond b (unwrap_or x common) (unwrap_or l common)
      out true x l = refl
      out false x l = refl

      by_test : (b : Bool) → item_at cmp (cond b (remove_entry (is_at (cmp key)) entries) (insert_entry cmp entries key item)) common other ≡ cond (is_at (cmp key) other) (cond b common item) (item_at cmp entries common other)
      by_test true =
          let laws = eq_by_cmp_equiv o in
          ap (λ l. unwrap_or l common) (lookup-remove_entry laws (is_at (cmp key)) (λ x y p. laws.congr key x y p) other entries (IsDistinct-from_sorted cmp (keys_of entries) h)) ∙ out (is_at (cmp key) other) None (lookup (is_at (cmp other)) entries)
      by_test false =
          ap (λ l. unwrap_or l common) (lookup-insert_entry key other entries item) ∙ out (is_at (cmp key) other) (Some item) (lookup (is_at (cmp other)) entries)

  -- what follows where a list of entries is another with one change
  pub record Changed (eq : T → T → Bool) (common : T) (old : List (K × T)) (key : K) (item : T) (new : List (K × T)) : Type 0 where
    pub proper : AreProperEntries cmp eq common new
    pub itself : item_at cmp new common key ≡ cond (eq item common) common item
    pub others : (other : K) → is_eq (cmp key other) ≡ false → item_at cmp new common other ≡ item_at cmp old common other

  pub changed : (eq : T → T → Bool) (common : T) (old : List (K × T)) (key : K) (item : T) (new : List (K × T)) → AreProperEntries cmp eq common old → new ≡ with_entry cmp eq common old key item → Changed eq common old key item new
  changed eq common old key item new h e =
      let same = (eq_by_cmp_equiv o).refl key in
      record {
        proper = subst (AreProperEntries cmp eq common) (sym e) (IsProper-with_entry eq common old key item h);
        itself = ap (λ l. item_at cmp l common key) e ∙ item_at-with_entry eq common old key key item h.ascending ∙ ap (λ b. cond b (cond (eq item common) common item) (item_at cmp old common key)) same;
        others = λ other ne. ap (λ l. item_at cmp l common other) e ∙ item_at-with_entry eq common old key other item h.ascending ∙ ap (λ b. cond b (cond (eq item common) common item) (item_at cmp old common other)) ne;
      }
