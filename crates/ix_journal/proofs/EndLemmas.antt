-- The open records of a file end in one place.
use Rattle.std.proofs.Common.{◌≡◌, ℕ, zero, suc, ◌+◌, ◌<◌, List, [], ◌∷◌, ◌++◌, length, drop, Some, refl}
use Rattle.std.proofs.Common.{sym, ◌∙◌, ap, subst, arith}
use Rattle.std.proofs.lemmas.List.{append_assoc, length-append, length-drop}
use Rattle.std.proofs.lemmas.List.Elements.{All-head, All-tail}
use Rattle.std.specs.Prelude.{slice_get, All}
use Rattle.ix_journal.specs.declared.entries.Entry.{Entry}
use Rattle.ix_journal.specs.Entries.{AreFew, InOrder, IsEntry, MayFollow, entry_text, fresh, marks_of}
use Rattle.ix_journal.specs.Format.{IsOpen, IsClosed, record_of, open_records}
use Rattle.ix_journal.specs.Records.{BeginsWithRecord, Holds, ClosesAt, IsDamagedFrom, IsManyFrom}
use Rattle.ix_journal.proofs.KindLemmas.{cons_tail, some_same}
use Rattle.ix_journal.proofs.TextFronts.{with_length-apart}
use Rattle.ix_journal.proofs.EntryTexts.{entries-same}
use Rattle.ix_journal.proofs.OrderLemmas.{entry_short, few_front, order-at}
use Rattle.ix_journal.proofs.RecordFronts.{drop_gate}
use Rattle.ix_journal.proofs.RecordTexts.{text_of_record, text_unique}

-- the second list goes on where the first one ends: there the bytes have one record more
pub record GoesOn (x y : List Entry) (r : List ℕ) : Type 0 where
  pub entry : Entry
  pub later : List Entry
  pub behind : List ℕ
  pub word : y ≡ x ++ entry ∷ later
  pub spells : r ≡ 165 ∷ record_of entry ++ behind
  pub gate : 0 < length behind
  pub valid : IsEntry entry

-- two lists whose records begin the same bytes
data Compared (x y : List Entry) (r s : List ℕ) : Type 0 where
  same : x ≡ y → Compared x y r s
  longer : GoesOn x y r → Compared x y r s
  shorter : GoesOn y x s → Compared x y r s

-- the same record in front of both
goes_on-cons : (a b : Entry) (x y : List Entry) (r : List ℕ) → a ≡ b → GoesOn x y r → GoesOn (a ∷ x) (b ∷ y) r
goes_on-cons a b x y r e w =
    record {
      entry = w.entry;
      later = w.later;
      behind = w.behind;
      word =
          (λ i. sym e i ∷ w.word i);
      spells = w.spells;
      gate = w.gate;
      valid = w.valid;
    }

compared-cons : (a b : Entry) (x y : List Entry) (r s : List ℕ) → a ≡ b → Compared x y r s
    → Compared (a ∷ x) (b ∷ y) r s
compared-cons a b x y r s e (same p) = same (λ i. e i ∷ p i)
compared-cons a b x y r s e (longer w) = longer (goes_on-cons a b x y r e w)
compared-cons a b x y r s e (shorter w) = shorter (goes_on-cons b a y x s (sym e) w)

-- nothing of the first list is left
begins : (entry : Entry) (later : List Entry) (r s : List ℕ) → All IsEntry (entry ∷ later)
    → 0 < length s → r ≡ open_records (entry ∷ later) ++ s → GoesOn [] (entry ∷ later) r
begins entry later r s valid some e =
    record {
      entry = entry;
      later = later;
      behind = open_records later ++ s;
      word = refl;
      spells = e ∙ append_assoc (165 ∷ record_of entry) (open_records later) s;
      gate = omega (arith, length-append (open_records later) s);
      valid = All-head IsEntry entry later valid;
    }

compare : (x y : List Entry) (r s : List ℕ) → All IsEntry x → All IsEntry y → 0 < length r
    → 0 < length s → open_records x ++ r ≡ open_records y ++ s → Compared x y r s
compare [] [] r s valid_x valid_y some_r some_s e = same refl
compare [] (b ∷ y) r s valid_x valid_y some_r some_s e = longer (begins b y r s valid_y some_s e)
compare (a ∷ x) [] r s valid_x valid_y some_r some_s e = shorter (begins a x s r valid_x some_r (sym e))
compare (a ∷ x) (b ∷ y) r s valid_x valid_y some_r some_s e =
    let fits_a : IsEntry a = All-head IsEntry a x valid_x in
    let fits_b : IsEntry b = All-head IsEntry b y valid_y in
    let short_a = entry_short a fits_a in
    let short_b = entry_short b fits_b in
    let cut : record_of a ++ (open_records x ++ r) ≡ record_of b ++ (open_records y ++ s) =
    sym (append_assoc (record_of a) (open_records x) r) ∙ cons_tail _ _ _ _ e
    ∙ append_assoc (record_of b) (open_records y) s in
    let parts = with_length-apart (entry_text a) (entry_text b) (open_records x ++ r)
    (open_records y ++ s) (omega arith) (omega arith) cut in
    compared-cons a b x y r s (entries-same a b fits_a fits_b parts.0)
    (compare x y r s (All-tail IsEntry a x valid_x) (All-tail IsEntry b y valid_y) some_r some_s parts.1)

-- the open records end here: they aren't too many, and a further one that may follow makes too many
pub record EndsAt (bytes : List ℕ) (first : ℕ) (entries : List Entry) (gate : ℕ) : Type 0 where
  pub records : Holds bytes first entries gate
  pub few : AreFew entries
  pub stops : (entry : Entry) → IsOpen bytes gate
      → BeginsWithRecord (drop (gate + 1) bytes) entry → MayFollow (marks_of entries) entry
      → AreFew (entries ++ entry ∷ []) → ⊥

-- a gate is open or closed
pub not_both : (bytes : List ℕ) (gate : ℕ) → IsOpen bytes gate → IsClosed bytes gate → ⊥
not_both bytes gate is_open closed = closed.2 (some_same closed.0 165 (sym closed.1 ∙ is_open))

-- bytes begin with one record at most
one_record : (bytes : List ℕ) (x y : Entry) → BeginsWithRecord bytes x → BeginsWithRecord bytes y → x ≡ y
one_record bytes x y v w =
    entries-same x y v.valid w.valid (text_unique bytes (entry_text x) (entry_text y)
    (text_of_record bytes x v) (text_of_record bytes y w))

module _ (bytes : List ℕ) (first : ℕ) where
  pub ends_closed : (entries : List Entry) (gate : ℕ) → ClosesAt bytes first entries gate
      → EndsAt bytes first entries gate
  ends_closed entries gate w =
      record {
        records = w.records;
        few = w.few;
        stops =
            λ entry is_open more follows few. not_both bytes gate is_open w.closed;
      }

  pub ends_damaged : (at : ℕ) → (w : IsDamagedFrom bytes first at) → EndsAt bytes first w.entries w.gate
  ends_damaged at w =
      record {
        records = w.records;
        few = w.few;
        stops =
            λ entry is_open more follows few. w.no_record entry follows more;
      }

  pub ends_many : (w : IsManyFrom bytes first) → EndsAt bytes first w.entries w.gate
  ends_many w =
      record {
        records = w.records;
        few = w.few;
        stops = λ entry is_open more follows few.
            w.many (subst (λ (e : Entry). AreFew (w.entries ++ e ∷ [])) (one_record (drop (w.gate + 1) bytes)
            entry w.entry more w.begins) few);
      }

  -- a list that goes on behind the end of the records has too many
  no_further : (x y : List Entry) (gate other : ℕ) → EndsAt bytes first x gate
      → EndsAt bytes first y other → GoesOn x y (drop gate bytes) → ⊥
  no_further x y gate other v w more =
      let at_gate : slice_get bytes gate ≡ Some 165 =
      gate_of bytes gate 165 (record_of more.entry ++ more.behind) more.spells in
      let behind : drop (gate + 1) bytes ≡ record_of more.entry ++ more.behind =
      cons_tail _ _ _ _ (sym (drop_gate bytes gate 165 at_gate) ∙ more.spells) in
      let whole : y ≡ (x ++ more.entry ∷ []) ++ more.later =
      more.word ∙ sym (append_assoc x (more.entry ∷ []) more.later) in
      v.stops more.entry at_gate
      (record { behind = more.behind; spells = behind; gate = more.gate; valid = more.valid })
      (order-at fresh x more.entry more.later
      (subst (λ (z : List Entry). InOrder fresh z) more.word w.records.order))
      (few_front (x ++ more.entry ∷ []) more.later (subst (All IsEntry) whole w.records.valid)
      (subst (λ (z : List Entry). InOrder fresh z) whole w.records.order) (subst AreFew whole w.few))
    where
      gate_of : (b : List ℕ) (g byte : ℕ) (rest : List ℕ) → drop g b ≡ byte ∷ rest → slice_get b g ≡ Some byte
      gate_of [] zero byte rest e = absurd cc
      gate_of [] (suc g) byte rest e = absurd cc
      gate_of (x' ∷ b) zero byte rest e = cc
      gate_of (x' ∷ b) (suc g) byte rest e = gate_of b g byte rest e

  -- the open records end in one place
  pub one_end : (x y : List Entry) (gate other : ℕ) → EndsAt bytes first x gate
      → EndsAt bytes first y other → (x ≡ y) × (gate ≡ other)
  one_end x y gate other v w =
      by-compared (compare x y (drop gate bytes) (drop other bytes) v.records.valid w.records.valid
      (left gate x v) (left other y w) (sym v.records.spells ∙ w.records.spells))
    where
      left : (g : ℕ) (z : List Entry) → EndsAt bytes first z g → 0 < length (drop g bytes)
      left g z u = let within = u.records.within in omega (arith, length-drop g bytes)

      by-compared : Compared x y (drop gate bytes) (drop other bytes) → (x ≡ y) × (gate ≡ other)
      by-compared (same e) =
          let place_x = v.records.place in
          let place_y = w.records.place in
          (e, omega (arith, ap (λ (z : List Entry). length (open_records z)) e))
      by-compared (longer more) = absurd (no_further x y gate other v w more)
      by-compared (shorter more) = absurd (no_further y x other gate w v more)
