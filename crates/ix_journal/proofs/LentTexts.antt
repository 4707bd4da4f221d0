-- The texts that are lent one after another.
use Rattle.std.proofs.Common.{◌≡◌, ℕ, ◌+◌, ◌<◌, List, [], ◌∷◌, ◌++◌, length, map, Some, None, Ok, refl, sym, ◌∙◌}
use Rattle.std.proofs.Common.{ap, subst, arith, inl, inr}
use Rattle.std.proofs.lemmas.List.{append-nil, append_assoc, length-drop}
use Rattle.ix_journal.specs.Entries.{entry_text, fresh, marks_of}
use Rattle.ix_journal.specs.declared.entries.Entry.{Entry}
use Rattle.ix_journal.specs.Format.{IsClosed, record_of}
use Rattle.ix_journal.specs.Records.{Holds}
use Rattle.ix_journal.specs.Answers.{Standing, at_gate, GivesRecord, LendsRecords}
use Rattle.ix_journal.specs.Kinds.{IsReady}
use Rattle.ix_journal.specs.Laws.{LendsTheHistory}
use Rattle.ix_journal.proofs.HoldsLemmas.{holds_none, holds_more}
use Rattle.ix_journal.proofs.OrderLemmas.{marks_of-more}

-- the records that were lent behind those so far, and the closed gate behind them
record Lent (bytes : List ℕ) (first : ℕ) (so_far : List Entry) (texts : List (List ℕ)) (gate : ℕ) : Type 0 where
  later : List Entry
  texts_of : texts ≡ map entry_text later
  records : Holds bytes first (so_far ++ later) gate
  closed : IsClosed bytes gate

module _ (bytes : List ℕ) (first : ℕ) where
  ended : (gate : ℕ) (so_far : List Entry) (new : Standing) → Holds bytes first so_far gate
      → GivesRecord (at_gate bytes gate (marks_of so_far)) None new → Lent bytes first so_far [] new.gate
  ended gate so_far new holds given =
      let place : gate ≡ new.gate = sym (ap (λ (s : Standing). s.gate) given.1) in
      record {
        later = [];
        texts_of = refl;
        records = subst (Holds bytes first (so_far ++ [])) place
            (subst (λ (h : List Entry). Holds bytes first h gate) (sym (append-nil so_far)) holds);
        closed = subst (IsClosed bytes) place (elim given.0 [ inl told ↦ absurd cc | inr closed ↦ closed ]);
      }

  lent : (old new : Standing) (texts : List (List ℕ)) (gate : ℕ) (so_far : List Entry)
      → LendsRecords old texts new → old ≡ at_gate bytes gate (marks_of so_far) → Holds bytes first so_far gate
      → Lent bytes first so_far texts new.gate
  lent _ _ _ gate so_far (LendsRecords.at_end old new given) here holds =
      ended gate so_far new holds (subst (λ (s : Standing). GivesRecord s None new) here given)
  lent _ _ _ gate so_far (LendsRecords.going_on old next new text texts given later) here holds =
      let at = subst (λ (s : Standing). GivesRecord s (Some (Ok text)) next) here given in
      let rest = lent next new texts (gate + 1 + length (record_of at.0))
      (so_far ++ at.0 ∷ []) later
      (at.3 ∙ ap (at_gate bytes (gate + 1 + length (record_of at.0))) (sym (marks_of-more so_far at.0)))
      (holds_more bytes first so_far gate at.0 holds at.2.open_there at.2.begins at.2.follows) in
      record {
        later = at.0 ∷ rest.later;
        texts_of = λ i. at.1 i ∷ rest.texts_of i;
        records = subst (λ (h : List Entry). Holds bytes first h new.gate)
            (append_assoc so_far (at.0 ∷ []) rest.later) rest.records;
        closed = rest.closed;
      }

pub lends_the_history : LendsTheHistory
lends_the_history bytes text first texts end ready lends =
    let found = lent bytes first (at_gate bytes first fresh) end texts first [] lends refl
    (holds_none bytes first (within bytes text first ready)) in (
      found.later,
      found.texts_of,
      λ few. record {
        first = first;
        ready = ready;
        closes = record { records = found.records; closed = found.closed; few = few };
      },
    )
  where
    within : (b t : List ℕ) (g : ℕ) → IsReady b t g → g < length b
    within b t g w = let some = w.header.gate in omega (arith, length-drop g b)
