-- The texts given up to a gate.
use Rattle.std.proofs.Common.{◌≡◌, ℕ, ◌+◌, ◌<◌, List, [], ◌∷◌, ◌++◌, length, map, Some, Ok}
use Rattle.std.proofs.Common.{refl, sym, ◌∙◌, ap, subst}
use Rattle.std.proofs.lemmas.List.{map-append}
use Rattle.ix_journal.specs.Entries.{entry_text, fresh, marks_of}
use Rattle.ix_journal.specs.declared.entries.Entry.{Entry}
use Rattle.ix_journal.specs.Format.{record_of}
use Rattle.ix_journal.specs.Records.{Holds}
use Rattle.ix_journal.specs.Answers.{Standing, at_gate, GivesRecord, PassesRecords}
use Rattle.ix_journal.specs.Laws.{PassesTheHistory}
use Rattle.ix_journal.proofs.HoldsLemmas.{holds_none, holds_more}
use Rattle.ix_journal.proofs.OrderLemmas.{marks_of-more}

-- the records whose texts were given, and where they end
record Passed (bytes : List ℕ) (first : ℕ) (texts : List (List ℕ)) (new : Standing) : Type 0 where
  entries : List Entry
  stands : new ≡ at_gate bytes new.gate (marks_of entries)
  texts_of : texts ≡ map entry_text entries
  records : Holds bytes first entries new.gate

module _ (bytes : List ℕ) (first : ℕ) (there : first < length bytes) where
  passed : (old new : Standing) (texts : List (List ℕ)) → PassesRecords old texts new
      → old ≡ at_gate bytes first fresh
      → Passed bytes first texts new
  passed _ _ _ (PassesRecords.at_first old) here =
      let place : first ≡ old.gate = sym (ap (λ (s : Standing). s.gate) here) in
      record {
        entries = [];
        stands = here ∙ ap (λ (g : ℕ). at_gate bytes g fresh) place;
        texts_of = refl;
        records = subst (Holds bytes first []) place (holds_none bytes first there);
      }
  passed _ _ _ (PassesRecords.one_more old next new texts text before given) here =
      let p = passed old next texts before here in
      let at = subst (λ (s : Standing). GivesRecord s (Some (Ok text)) new) p.stands given in
      let place : next.gate + 1 + length (record_of at.0) ≡ new.gate =
      sym (ap (λ (s : Standing). s.gate) at.3) in
      record {
        entries = p.entries ++ at.0 ∷ [];
        stands = at.3 ∙ (λ i. at_gate bytes (place i) (sym (marks_of-more p.entries at.0) i));
        texts_of = (λ i. p.texts_of i ++ at.1 i ∷ [])
            ∙ sym (map-append entry_text p.entries (at.0 ∷ []));
        records = subst (Holds bytes first (p.entries ++ at.0 ∷ [])) place
            (holds_more bytes first p.entries next.gate at.0 p.records at.2.open_there at.2.begins
            at.2.follows);
      }

pub passes_the_history : PassesTheHistory
passes_the_history bytes first gate marks texts there passes =
    let p = passed bytes first there (at_gate bytes first fresh) (at_gate bytes gate marks) texts passes
    refl in
    (p.entries, p.texts_of, ap (λ (s : Standing). s.marks) p.stands, p.records)
