-- Files that are the same up to a gate.
use Rattle.std.proofs.Common.{◌≡◌, ℕ, ◌+◌, ◌*◌, ◌<◌, ◌≤◌, List, [], ◌∷◌, ◌++◌, length, take, drop, sym, ◌∙◌}
use Rattle.std.proofs.Common.{ap, arith}
use Rattle.std.proofs.lemmas.List.{append_assoc, drop_at, length-append, length-drop, take-append-drop}
use Rattle.std.proofs.lemmas.List.{take_at, take-take}
use Rattle.std.proofs.lemmas.List.Elements.{All-head, All-tail}
use Rattle.std.specs.Prelude.{All}
use Rattle.ix_journal.specs.declared.entries.Entry.{Entry}
use Rattle.ix_journal.specs.Entries.{AreFew, InOrder, IsEntry, behind, fresh, marks_behind, marks_of}
use Rattle.ix_journal.specs.Entries.{pairs_of}
use Rattle.ix_journal.specs.declared.entries.Marks.{Marks}
use Rattle.ix_journal.specs.Format.{farthest_gate, header, record_of, open_records}
use Rattle.ix_journal.specs.Kinds.{IsReady}
use Rattle.ix_journal.specs.Records.{Holds}
use Rattle.ix_journal.specs.inside.Counting.{AreSound}
use Rattle.ix_journal.proofs.OrderLemmas.{boots-grow, boots_since, entry_near, room_of}
use Rattle.ix_journal.proofs.OrderLemmas.{sound-behind, sound-fresh}

-- files that are the same in front of a place are the same in front of an earlier one
take_less : (m n : ℕ) (xs ys : List ℕ) → m ≤ n → take n xs ≡ take n ys → take m xs ≡ take m ys
take_less m n xs ys le e = sym (take-take m n xs le) ∙ ap (take m) e ∙ take-take m n ys le

-- what a front of a file says of the rest, of another file that is the same there
moved : (bytes new : List ℕ) (gate : ℕ) → take gate new ≡ take gate bytes → (front : List ℕ) (n : ℕ)
    → length front ≡ n → n ≤ gate
    → bytes ≡ front ++ drop n bytes → new ≡ front ++ drop n new
moved bytes new gate same front n len le e =
    let begins : take n new ≡ front = take_less n gate new bytes le same ∙ ap (take n) e
    ∙ take_at front (drop n bytes) n len in
    sym (take-append-drop n new) ∙ ap (λ (f : List ℕ). f ++ drop n new) begins

-- a ready file with these records, and another that is the same up to the gate behind them
module _ (bytes text : List ℕ) (first : ℕ) (entries : List Entry) (gate : ℕ) (new : List ℕ)
    (ready : IsReady bytes text first) (holds : Holds bytes first entries gate)
    (same : take gate new ≡ take gate bytes) (here : gate < length new) where
  place : first ≡ 7 + length text
  place = ready.place

  end : gate ≡ first + length (open_records entries)
  end = holds.place

  len_front : length (165 ∷ header ready.header.version text) ≡ first
  len_front = omega (arith, place)

  -- it has the same header
  pub kept_ready : IsReady new text first
  kept_ready =
      record {
        header = record {
          version = ready.header.version;
          known = ready.header.known;
          spells = moved bytes new gate same (165 ∷ header ready.header.version text) first len_front
              (omega (arith, end)) ready.header.spells;
          short = ready.header.short;
          gate = omega (arith, length-drop first new, end);
        };
        place = place;
      }

  whole : bytes ≡ ((165 ∷ header ready.header.version text) ++ open_records entries) ++ drop gate bytes
  whole =
      ready.header.spells ∙ ap (λ (r : List ℕ). (165 ∷ header ready.header.version text) ++ r) holds.spells
      ∙ sym (append_assoc (165 ∷ header ready.header.version text) (open_records entries) (drop gate bytes))

  whole_new : new ≡ ((165 ∷ header ready.header.version text) ++ open_records entries) ++ drop gate new
  whole_new =
      moved bytes new gate same ((165 ∷ header ready.header.version text) ++ open_records entries) gate
      (omega (arith, length-append (165 ∷ header ready.header.version text) (open_records entries), len_front, end))
      (omega arith) whole

  -- and the same records
  pub kept_records : Holds new first entries gate
  kept_records =
      record {
        spells = ap (drop first)
            (whole_new ∙ append_assoc (165 ∷ header ready.header.version text) (open_records entries) (drop gate new))
            ∙ drop_at (165 ∷ header ready.header.version text) (open_records entries ++ drop gate new) first len_front;
        place = end;
        within = here;
        valid = holds.valid;
        order = holds.order;
      }

-- how many bytes records have with their gates, where the boots aren't too many
records_short : (marks : Marks) (entries : List Entry) → AreSound marks → All IsEntry entries
    → InOrder marks entries → boots_since (marks_behind marks entries) ≤ 1000000
    → length (open_records entries) + room_of marks ≤ room_of (marks_behind marks entries)
records_short marks [] sound valid order few = omega arith
records_short marks (entry ∷ entries) sound valid order few =
    let first : IsEntry entry = All-head IsEntry entry entries valid in
    let later : All IsEntry entries = All-tail IsEntry entry entries valid in
    let sound_behind = sound-behind marks entry sound first order.0 in
    let within = boots-grow (behind marks entry) entries sound_behind later order.1 in
    let short = entry_near marks entry sound first order.0 (omega arith) in
    let rest = records_short (behind marks entry) entries sound_behind later order.1 few in
    omega (arith, length-append (record_of entry) (open_records entries))

-- the gate behind records isn't far, where the boots aren't too many
pub near : (bytes text : List ℕ) (first : ℕ) (entries : List Entry) (gate : ℕ) → IsReady bytes text first
    → Holds bytes first entries gate → AreFew entries
    → gate ≤ farthest_gate (marks_of entries)
near bytes text first entries gate ready holds few =
    let short = ready.header.short in
    let place = ready.place in
    let end = holds.place in
    let boots = few.boots in
    let records =
    records_short fresh entries sound-fresh holds.valid holds.order (omega arith) in
    omega arith
