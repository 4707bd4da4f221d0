-- Journals by what their records tell.
use Rattle.std.proofs.Common.{◌≡◌, ◌≢◌, ℕ, ◌+◌, List, [], ◌∷◌, ◌++◌, length, take, sym, ◌∙◌, ap, subst, arith, inl, inr}
use Rattle.std.proofs.lemmas.List.{append-nil}
use Rattle.ix_journal.specs.Entries.{AreFew, IsEntry, MayFollow, behind, marks_of, pair_of, pairs_of}
use Rattle.ix_journal.specs.Entries.{renewed_of}
use Rattle.ix_journal.specs.Format.{IsClosed, record_of}
use Rattle.ix_journal.specs.inside.Counting.{AreNotMany}
use Rattle.ix_journal.specs.History.{PlainHistory}
use Rattle.ix_journal.specs.Recovery.{IsJournalWith}
use Rattle.ix_journal.specs.declared.entries.Entry.{Entry}
use Rattle.ix_journal.specs.declared.entries.Entry.TheVariants as entry
use Rattle.ix_journal.specs.declared.entries.Marks.{Marks}
use Rattle.ix_journal.proofs.OrderLemmas.{marks_of-more, number_of, pairs-append}
use Rattle.ix_journal.proofs.WritingLaws.{ignores_the_rest, appended}
use Rattle.ix_store.specs.inside.Keeping.{IsBootedOrNot, IsWithOrWithout, booted}

-- a record may be appended to a journal of these marks
pub record MayAppend (marks : Marks) (entry : Entry) : Type 0 where
  pub valid : IsEntry entry
  pub follows : MayFollow marks entry
  pub few : AreNotMany (behind marks entry)

-- what the records tell with one more
pub pairs-more : (entries : List Entry) (entry : Entry)
    → pairs_of (entries ++ entry ∷ []) ≡ pairs_of entries ++ pair_of entry
pairs-more entries entry =
    pairs-append entries (entry ∷ [])
    ∙ ap (λ (h : PlainHistory). pairs_of entries ++ h) (append-nil (pair_of entry))

-- with one more they aren't too many
pub few-more : (entries : List Entry) (entry : Entry) → AreNotMany (behind (marks_of entries) entry)
    → AreFew (entries ++ entry ∷ [])
few-more entries entry few =
    let marked = marks_of-more entries entry in
    record {
      actions = omega (
        arith,
        number_of (entries ++ entry ∷ []),
        ap (λ (m : Marks). m.actions) marked,
        few.0,
      );
      boots = omega (
        arith,
        ap (λ (m : Marks). m.boots) marked,
        ap (λ (m : Marks). (renewed_of m).boots) marked,
        few.1,
      );
    }

-- what stands behind the first closed gate means nothing
pub ignores : (bytes text : List ℕ) (history : PlainHistory) (marks : Marks) (gate : ℕ) (new : List ℕ)
    → IsJournalWith bytes text history marks gate → take gate new ≡ take gate bytes
    → IsClosed new gate → IsJournalWith new text history marks gate
ignores bytes text history marks gate new w same closed = record {
  entries = w.entries;
  journal = ignores_the_rest bytes text w.entries gate new w.journal same closed;
  pairs = w.pairs;
  marked = w.marked;
}

-- with its gate opened, a record that may be appended is the next record
pub grows : (bytes text : List ℕ) (history : PlainHistory) (marks : Marks) (gate : ℕ) (entry : Entry)
    (closed : ℕ) (rest : List ℕ)
    → IsJournalWith bytes text history marks gate → MayAppend marks entry
    → closed ≢ 165
    → IsJournalWith (take gate bytes ++ 165 ∷ record_of entry ++ closed ∷ rest) text
    (history ++ pair_of entry) (behind marks entry) (gate + 1 + length (record_of entry))
grows bytes text history marks gate entry closed rest w may shut =
    let few = few-more w.entries entry
    (subst (λ (m : Marks). AreNotMany (behind m entry)) (sym w.marked) may.few) in
    record {
      entries = w.entries ++ entry ∷ [];
      journal = appended bytes text w.entries gate entry closed rest w.journal few may.valid
          (subst (λ (m : Marks). MayFollow m entry) (sym w.marked) may.follows) shut;
      pairs = pairs-more w.entries entry
          ∙ ap (λ (h : PlainHistory). h ++ pair_of entry) w.pairs;
      marked = marks_of-more w.entries entry ∙ ap (λ (m : Marks). behind m entry) w.marked;
    }

-- a boot leaves the history as it is
pub booted_or_not : (text : List ℕ) (history : PlainHistory) (marks : Marks) (image : List ℕ)
    → IsWithOrWithout text history marks (entry.Boot (marks.boots + 1)) image
    → IsBootedOrNot text history marks image
booted_or_not text history marks image (gate, inl without) = (gate, inl without)
booted_or_not text history marks image (gate, inr with_it) = (
  gate,
  inr (subst (λ (h : PlainHistory). IsJournalWith image text h (booted marks) gate)
      (append-nil history) with_it),
)
