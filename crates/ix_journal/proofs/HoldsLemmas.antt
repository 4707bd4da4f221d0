-- Records one behind another.
use Rattle.std.proofs.Common.{◌≡◌, ℕ, ◌+◌, ◌<◌, List, [], ◌∷◌, ◌++◌, length, drop, refl, sym, ◌∙◌, ap, arith}
use Rattle.std.proofs.lemmas.Grind.{flat_map-append}
use Rattle.std.proofs.lemmas.List.{append-nil, append_assoc, drop_at, drop-drop, length-append, length-drop}
use Rattle.std.proofs.lemmas.List.Elements.{All-append, All-cons, All-nil}
use Rattle.ix_journal.specs.declared.entries.Entry.{Entry}
use Rattle.ix_journal.specs.Entries.{IsEntry, fresh}
use Rattle.ix_journal.specs.Format.{record_of, open_records}
use Rattle.ix_journal.specs.Records.{BeginsWithRecord}
use Rattle.ix_journal.specs.Laws.{HoldsNone, HoldsMore}
use Rattle.ix_journal.proofs.OrderLemmas.{order-more}
use Rattle.ix_journal.proofs.RecordFronts.{drop_gate}

-- no records in front of the first gate
pub holds_none : HoldsNone
holds_none bytes first within =
    record { spells = refl; place = omega arith; within = within; valid = All-nil IsEntry; order = tt }

-- one record more, as bytes
pub open_records-more : (entries : List Entry) (entry : Entry)
    → open_records (entries ++ entry ∷ []) ≡ open_records entries ++ (165 ∷ record_of entry)
open_records-more entries entry =
    flat_map-append (λ (a : Entry). 165 ∷ record_of a) entries (entry ∷ [])
    ∙ ap (λ (r : List ℕ). open_records entries ++ (165 ∷ r)) (append-nil (record_of entry))

module _ (bytes : List ℕ) (gate : ℕ) (entry : Entry)
    (w : BeginsWithRecord (drop (gate + 1) bytes) entry) where
  -- what stands behind the record
  pub drop_record : drop (gate + 1 + length (record_of entry)) bytes ≡ w.behind
  drop_record =
      sym (drop-drop (length (record_of entry)) (gate + 1) bytes)
      ∙ ap (drop (length (record_of entry))) w.spells
      ∙ drop_at (record_of entry) w.behind (length (record_of entry)) refl

  -- the gate behind the record is there
  pub gate_behind : gate + 1 + length (record_of entry) < length bytes
  gate_behind =
      let len : length (drop (gate + 1 + length (record_of entry)) bytes) ≡ length w.behind =
      ap length drop_record in
      let some = w.gate in
      omega (arith, length-drop (gate + 1 + length (record_of entry)) bytes)

-- one record more
pub holds_more : HoldsMore
holds_more bytes first entries gate entry h open_there w follows =
    let after = gate + 1 + length (record_of entry) in
    let here : drop gate bytes ≡ (165 ∷ record_of entry) ++ drop after bytes =
    drop_gate bytes gate 165 open_there
    ∙ ap (λ (r : List ℕ). 165 ∷ r)
    (w.spells ∙ ap (λ (r : List ℕ). record_of entry ++ r) (sym (drop_record bytes gate entry w))) in
    let more = open_records-more entries entry in
    let place = h.place in
    record {
      spells = h.spells ∙ ap (λ (r : List ℕ). open_records entries ++ r) here
          ∙ sym (append_assoc (open_records entries) (165 ∷ record_of entry) (drop after bytes))
          ∙ ap (λ (r : List ℕ). r ++ drop after bytes) (sym more);
      place = omega (arith, ap length more, length-append (open_records entries) (165 ∷ record_of entry));
      within = gate_behind bytes gate entry w;
      valid = All-append IsEntry entries (entry ∷ []) h.valid
          (All-cons IsEntry entry [] w.valid (All-nil IsEntry));
      order = order-more fresh entries entry h.order follows;
    }
