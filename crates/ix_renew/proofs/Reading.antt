-- Reading the records of a journal.
use Rattle.std.proofs.Common.{◌≡◌, ℕ, ◌+◌, ◌<◌, List, [], ◌∷◌, ◌++◌, length, Some, None, Result, Ok, Err, Bor}
use Rattle.std.proofs.Common.{refl, sym, ◌∙◌, ap, subst, arith, inl, inr}
use Rattle.std.proofs.lemmas.List.{append-nil, map-append}
use Rattle.ix_values.specs.PlainAction.{Word}
use Rattle.ix_journal.specs.Answers.{Standing, at_gate, GivesRecord}
use Rattle.ix_journal.specs.Entries.{MayFollow, behind, fresh, marks_of, pair_of, pairs_of, renewed_of}
use Rattle.ix_journal.specs.Format.{record_of}
use Rattle.ix_journal.specs.History.{PlainHistory, Spent, actions_of}
use Rattle.ix_journal.specs.Records.{Holds}
use Rattle.ix_journal.specs.declared.entries.Entry.{Entry}
use Rattle.ix_journal.specs.declared.entries.Marks.{Marks}
use Rattle.ix_journal.specs.declared.records.Damaged.{Damaged}
use Rattle.ix_journal.specs.inside.Counting.{AreNotMany}
use Rattle.ix_journal.specs.inside.Reading.{SaysEntry}
use Rattle.ix_journal.proofs.EntryTexts.{entries-same}
use Rattle.ix_journal.proofs.Following.{FewFollowed, Followed}
use Rattle.ix_journal.proofs.HoldsLemmas.{holds_more, holds_none}
use Rattle.ix_journal.proofs.OrderLemmas.{few_none, marks_of-more, number_of, pairs-append}
use Rattle.ix_renew.specs.inside.Renewing.{TellsActions}

-- the records that are open in front of this gate leave these marks, and tell these actions
pub record ReadTo (bytes : List ℕ) (first gate : ℕ) (marks : Marks) (actions : Word) : Type 0 where
  pub so_far : FewFollowed bytes first gate marks
  pub told : actions ≡ actions_of (pairs_of so_far.followed.entries)

-- none at the first gate
pub none_read : (bytes : List ℕ) (first : ℕ) → first < length bytes → (actions : Word) → actions ≡ [] → (old : Standing)
    → old ≡ at_gate bytes first fresh
    → (old ≡ at_gate bytes old.gate old.marks) × ReadTo bytes first old.gate old.marks actions
none_read bytes first within actions none old here =
    let family : Standing → Type 0 = λ s.
    (s ≡ at_gate bytes s.gate s.marks) × ReadTo bytes first s.gate s.marks actions in
    subst family (sym here) (
      refl,
      record {
        so_far = record {
          followed = record {
            entries = [];
            records = holds_none bytes first within;
            marked = refl;
          };
          few = few_none;
        };
        told = none;
      },
    )

module _ (bytes : List ℕ) (first gate : ℕ) (marks : Marks) (actions : Word)
    (read : ReadTo bytes first gate marks actions)
    (old new : Standing) (here : old ≡ at_gate bytes gate marks) where
  abbrev before : Followed bytes first gate marks
  before = read.so_far.followed

  -- one record more
  pub read_more : (item : Result (Bor (List ℕ)) Damaged) (text : Bor (List ℕ))
      → GivesRecord old (Some item) new → item ≡ Ok text → (entry : Entry) → SaysEntry text.now entry
      → AreNotMany new.marks → (after : Word) → after ≡ actions ++ actions_of (pair_of entry)
      → ReadTo bytes first new.gate new.marks after
  read_more (Ok found) text given e entry says few after more =
      let at = subst (λ (s : Standing). GivesRecord s (Some (Ok found)) new) here given in
      let texts : found ≡ text = cc in
      let same : at.0 ≡ entry =
      entries-same at.0 entry at.2.begins.valid says.valid
      (sym at.1 ∙ ap (λ (b : Bor (List ℕ)). b.now) texts ∙ says.same) in
      let place : new.gate ≡ gate + 1 + length (record_of at.0) = ap (λ (s : Standing). s.gate) at.3 in
      let marked : new.marks ≡ marks_of (before.entries ++ at.0 ∷ []) =
      ap (λ (s : Standing). s.marks) at.3
      ∙ ap (λ (m : Marks). behind m at.0) before.marked
      ∙ sym (marks_of-more before.entries at.0) in
      let follows : MayFollow (marks_of before.entries) at.0 =
      subst (λ (m : Marks). MayFollow m at.0) before.marked at.2.follows in
      let all : List Entry = before.entries ++ at.0 ∷ [] in
      let pairs : pairs_of all ≡ pairs_of before.entries ++ pair_of at.0 =
      pairs-append before.entries (at.0 ∷ []) ∙ ap (λ (p : PlainHistory). pairs_of before.entries ++ p) (append-nil (pair_of at.0)) in
      record {
        so_far = record {
          followed = record {
            entries = all;
            records = subst (Holds bytes first all) (sym place)
                (holds_more bytes first before.entries gate at.0 before.records at.2.open_there at.2.begins follows);
            marked = marked;
          };
          few = record {
            actions = omega (arith, number_of all, ap (λ (m : Marks). m.actions) marked, few.0);
            boots = omega (
              arith,
              ap (λ (m : Marks). m.boots) marked,
              ap (λ (m : Marks). (renewed_of m).boots) marked,
              few.1,
            );
          };
        };
        told = more
            ∙ ap (λ (w : Word). w ++ actions_of (pair_of entry)) read.told
            ∙ ap (λ (o : Entry). actions_of (pairs_of before.entries) ++ actions_of (pair_of o)) (sym same)
            ∙ sym (map-append (λ (spent : Spent). spent.1) (pairs_of before.entries) (pair_of at.0))
            ∙ ap actions_of (sym pairs);
      }
  read_more (Err damage) text given e entry says few after more = absurd cc

  -- a closed gate
  pub read_end : GivesRecord old None new → TellsActions bytes first actions new.marks
  read_end given =
      let at = subst (λ (s : Standing). GivesRecord s None new) here given in
      let family : Standing → Type 0 = λ s. TellsActions bytes first actions s.marks in
      subst family (sym at.1)
      (record {
        entries = before.entries;
        gate = gate;
        closes = record {
          records = before.records;
          closed = elim at.0 [ inl told ↦ absurd cc | inr closed ↦ closed ];
          few = read.so_far.few;
        };
        told = read.told;
        marked = before.marked;
      })

-- what the text of a record says, which stands behind an open gate
pub text_said : (old new : Standing) (item : Result (Bor (List ℕ)) Damaged) (text : Bor (List ℕ))
    → GivesRecord old (Some item) new → item ≡ Ok text → (entry : Entry) × SaysEntry text.now entry
text_said old new (Ok found) text given e =
    let texts : found ≡ text = cc in
    (given.0, record { valid = given.2.begins.valid; same = sym (ap (λ (b : Bor (List ℕ)). b.now) texts) ∙ given.1 })
text_said old new (Err damage) text given e = absurd cc
