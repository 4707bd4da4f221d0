-- What a file is by as many bytes as matter, it is.
use Rattle.std.proofs.Common.{◌≡◌, ℕ, ◌+◌, ◌-◌, ◌<◌, ◌≤◌, List, ◌++◌, length, take, drop}
use Rattle.std.proofs.Common.{sym, ◌∙◌, ap, subst, arith}
use Rattle.std.proofs.lemmas.List.{append_assoc, drop-append-le, drop-take, length-append, length-drop}
use Rattle.std.proofs.lemmas.List.{length-take, take-append-drop}
use Rattle.ix_journal.specs.Entries.{AreFew, MayFollow, marks_of}
use Rattle.std.proofs.Math.Seq.{take-append-add}
use Rattle.std.specs.Prelude.{slice_get}
use Rattle.ix_journal.specs.declared.entries.Entry.{Entry}
use Rattle.ix_journal.specs.Format.{record_of}
use Rattle.ix_journal.specs.Kinds.{IsReady, Kind}
use Rattle.ix_journal.specs.Kinds.{HasKind}
use Rattle.ix_journal.specs.Records.{BeginsWithRecord, Holds}
use Rattle.ix_journal.specs.Recovery.{IsJournal, IsDamaged, IsMany}
use Rattle.ix_journal.specs.Laws.{EnoughBytes}
use Rattle.ix_journal.proofs.KindFronts.{slice_get-take, front_len, front_read, same, kinds_of_front}
use Rattle.ix_journal.proofs.OrderLemmas.{entry_short, number_of, renewal_most}
use Rattle.ix_journal.proofs.SameFronts.{kept_ready, kept_records, near}
use Rattle.ix_journal.proofs.WritingLaws.{ignores_the_rest}

-- a record that ends within a front of the bytes is there in the front too
pub record_in_front : (m : ℕ) (bytes : List ℕ) (entry : Entry)
    → length (record_of entry) < m
    → BeginsWithRecord bytes entry → BeginsWithRecord (take m bytes) entry
record_in_front m bytes entry room w =
    let left = m - length (record_of entry) in
    let sum : m ≡ length (record_of entry) + left = omega arith in
    let some = w.gate in
    record {
      behind = take left w.behind;
      spells = ap (take m) w.spells ∙ ap (λ (n : ℕ). take n (record_of entry ++ w.behind)) sum
          ∙ take-append-add (record_of entry) w.behind left;
      gate = omega (arith, length-take left w.behind);
      valid = w.valid;
    }

-- a record is there with more bytes behind it
pub record_more : (bytes rest : List ℕ) (entry : Entry) → BeginsWithRecord bytes entry
    → BeginsWithRecord (bytes ++ rest) entry
record_more bytes rest entry w =
    let some = w.gate in
    record {
      behind = w.behind ++ rest;
      spells = ap (λ (b : List ℕ). b ++ rest) w.spells
          ∙ append_assoc (record_of entry) w.behind rest;
      gate = omega (arith, length-append w.behind rest);
      valid = w.valid;
    }

-- behind a place where a record begins there are bytes
begins_within : (at : ℕ) (bytes : List ℕ) (entry : Entry) → BeginsWithRecord (drop at bytes) entry
    → at ≤ length bytes
begins_within at bytes entry w =
    let some = w.gate in
    omega (arith, ap length w.spells, length-append (record_of entry) w.behind, length-drop at bytes)

module _ (bytes : List ℕ) (read : ℕ) (enough : 237065593 ≤ read) where
  at_gate : (gate : ℕ) → gate < length (take read bytes)
      → slice_get (take read bytes) gate ≡ slice_get bytes gate
  at_gate gate within = slice_get-take read gate bytes (omega (arith, front_read bytes read))

  module _ (text : List ℕ) (first : ℕ) (is_ready : IsReady (take read bytes) text first)
      (entries : List Entry) (gate : ℕ) (holds : Holds (take read bytes) first entries gate) where
    here : gate < length bytes
    here = let within = holds.within in omega (arith, front_len bytes read)

    still_ready : IsReady bytes text first
    still_ready = kept_ready (take read bytes) text first entries gate bytes is_ready holds
        (same bytes read gate holds.within) here

    still_holds : Holds bytes first entries gate
    still_holds = kept_records (take read bytes) text first entries gate bytes is_ready holds
        (same bytes read gate holds.within) here

    -- a record that isn't there in what was read isn't there in the file
    no_record_behind : AreFew entries
        → ((entry : Entry) → MayFollow (marks_of entries) entry
        → BeginsWithRecord (drop (gate + 1) (take read bytes)) entry → ⊥)
        → (entry : Entry) → MayFollow (marks_of entries) entry
        → BeginsWithRecord (drop (gate + 1) bytes) entry → ⊥
    no_record_behind few none entry follows w =
        let is_near = near (take read bytes) text first entries gate is_ready holds few in
        let actions = few.actions in
        let boots = few.boots in
        let room : 210 ≤ read - (gate + 1) =
        omega (arith, number_of entries, renewal_most (marks_of entries).renewal) in
        let sum : (gate + 1) + (read - (gate + 1)) ≡ read = omega arith in
        let cut : drop (gate + 1) (take read bytes) ≡ take (read - (gate + 1)) (drop (gate + 1) bytes) =
        ap (λ (n : ℕ). drop (gate + 1) (take n bytes)) (sym sum)
        ∙ drop-take (gate + 1) (read - (gate + 1)) bytes in
        none entry follows (subst (λ (b : List ℕ). BeginsWithRecord b entry) (sym cut)
        (record_in_front (read - (gate + 1)) (drop (gate + 1) bytes) entry
        (omega (arith, entry_short entry w.valid)) w))

  -- a record that was read is there in the file
  still_begins : (gate : ℕ) (entry : Entry) → BeginsWithRecord (drop (gate + 1) (take read bytes)) entry
      → BeginsWithRecord (drop (gate + 1) bytes) entry
  still_begins gate entry w =
      let far : gate + 1 ≤ length (take read bytes) = begins_within (gate + 1) (take read bytes) entry w in
      subst (λ (b : List ℕ). BeginsWithRecord b entry)
      (sym (drop-append-le (gate + 1) (take read bytes) (drop read bytes) far)
      ∙ ap (drop (gate + 1)) (take-append-drop read bytes))
      (record_more (drop (gate + 1) (take read bytes)) (drop read bytes) entry w)

  journal : (text : List ℕ) (entries : List Entry) (gate : ℕ)
      → IsJournal (take read bytes) text entries gate → IsJournal bytes text entries gate
  journal text entries gate v =
      let within = v.closes.records.within in
      ignores_the_rest (take read bytes) text entries gate bytes v (same bytes read gate within)
      (v.closes.closed.0, sym (at_gate gate within) ∙ v.closes.closed.1, v.closes.closed.2)

  damaged : (at : ℕ) → IsDamaged (take read bytes) at → IsDamaged bytes at
  damaged at v =
      let d = v.damaged in
      record {
        text = v.text;
        first = v.first;
        ready = still_ready v.text v.first v.ready d.entries d.gate d.records;
        damaged = record {
          entries = d.entries;
          gate = d.gate;
          records = still_holds v.text v.first v.ready d.entries d.gate d.records;
          open_there = sym (at_gate d.gate d.records.within) ∙ d.open_there;
          few = d.few;
          no_record = no_record_behind v.text v.first v.ready d.entries d.gate d.records d.few d.no_record;
          place = d.place;
        };
      }

  many : IsMany (take read bytes) → IsMany bytes
  many v =
      let m = v.many in
      record {
        text = v.text;
        first = v.first;
        ready = still_ready v.text v.first v.ready m.entries m.gate m.records;
        many = record {
          entries = m.entries;
          entry = m.entry;
          gate = m.gate;
          records = still_holds v.text v.first v.ready m.entries m.gate m.records;
          open_there = sym (at_gate m.gate m.records.within) ∙ m.open_there;
          few = m.few;
          begins = still_begins m.gate m.entry m.begins;
          follows = m.follows;
          many = m.many;
        };
      }

  kinds : (kind : Kind) → HasKind (take read bytes) kind → HasKind bytes kind
  kinds kind h =
      kinds_of_front bytes read (omega arith)
      (λ head text behind w. let short = w.short in omega arith) kind h

pub enough_bytes : EnoughBytes
enough_bytes bytes read enough =
    (journal bytes read enough, damaged bytes read enough, many bytes read enough, kinds bytes read enough)
