-- Following the gates from the first one on.
use Rattle.std.proofs.Common.{◌≡◌, ℕ, ◌+◌, ◌<◌, ◌≤◌, List, [], ◌∷◌, ◌++◌, length, Some, None, Result, Ok, Err, Bor, refl, sym}
use Rattle.std.proofs.Common.{◌∙◌, ap, subst, arith, inl, inr}
use Rattle.ix_journal.specs.Entries.{AreFew, MayFollow, behind, fresh, marks_of, renewed_of}
use Rattle.ix_journal.specs.declared.entries.Entry.{Entry}
use Rattle.ix_journal.specs.declared.entries.Marks.{Marks}
use Rattle.ix_journal.specs.declared.records.Damaged.{Damaged}
use Rattle.ix_journal.specs.Format.{record_of}
use Rattle.ix_journal.specs.Records.{Holds, IsDamagedFrom, IsManyFrom}
use Rattle.ix_journal.specs.Answers.{Standing, at_gate, GivesRecord}
use Rattle.ix_journal.specs.inside.Counting.{AreMany, AreNotMany, CountsTo}
use Rattle.ix_journal.proofs.HoldsLemmas.{holds_none, holds_more}
use Rattle.ix_journal.proofs.OrderLemmas.{few_none, marks_of-more, number_of, sound-all, sound-fresh}

-- the records that are open in front of this gate leave these marks
pub record Followed (bytes : List ℕ) (first gate : ℕ) (marks : Marks) : Type 0 where
  pub entries : List Entry
  pub records : Holds bytes first entries gate
  pub marked : marks ≡ marks_of entries

-- of the records followed there aren't too many
pub record FewFollowed (bytes : List ℕ) (first gate : ℕ) (marks : Marks) : Type 0 where
  pub followed : Followed bytes first gate marks
  pub few : AreFew followed.entries

module _ (bytes : List ℕ) (first gate : ℕ) (marks : Marks) (w : Followed bytes first gate marks) where
  -- the boots before are among the boots
  pub boots_within : (renewed_of marks).boots ≤ marks.boots
  boots_within =
      let sound = sound-all fresh w.entries sound-fresh w.records.valid w.records.order in
      let within = sound.within in
      omega
      (arith, ap (λ (m : Marks). m.boots) w.marked, ap (λ (m : Marks). (renewed_of m).boots) w.marked)

  -- they are few where they aren't many
  pub few_followed : AreNotMany marks → FewFollowed bytes first gate marks
  few_followed few =
      record {
        followed = w;
        few = record {
          actions = omega (arith, number_of w.entries, ap (λ (m : Marks). m.actions) w.marked, few.0);
          boots = omega (
            arith,
            ap (λ (m : Marks). m.boots) w.marked,
            ap (λ (m : Marks). (renewed_of m).boots) w.marked,
            few.1,
          );
        };
      }

-- no records are followed at the first gate
pub none_followed : (bytes : List ℕ) (first : ℕ) → first < length bytes → (old : Standing)
    → old ≡ at_gate bytes first fresh
    → (old ≡ at_gate bytes old.gate old.marks) × FewFollowed bytes first old.gate old.marks
none_followed bytes first within old here =
    let family : Standing → Type 0 = λ s.
    (s ≡ at_gate bytes s.gate s.marks) × FewFollowed bytes first s.gate s.marks in
    subst family (sym here) (
      refl,
      record {
        followed = record {
          entries = [];
          records = holds_none bytes first within;
          marked = refl;
        };
        few = few_none;
      },
    )

-- many records aren't few
pub not_few : (entries : List Entry) (marks : Marks) → marks ≡ marks_of entries → AreMany marks → AreFew entries
    → ⊥
not_few entries marks marked (inl many) few =
    let actions = few.actions in omega (arith, number_of entries, ap (λ (m : Marks). m.actions) marked)
not_few entries marks marked (inr many) few =
    let most = few.boots in
    omega
    (arith, ap (λ (m : Marks). m.boots) marked, ap (λ (m : Marks). (renewed_of m).boots) marked)

module _ (bytes : List ℕ) (first gate : ℕ) (marks : Marks)
    (so_far : FewFollowed bytes first gate marks)
    (old new : Standing) (here : old ≡ at_gate bytes gate marks) where
  abbrev before : Followed bytes first gate marks
  before = so_far.followed

  -- one record more
  pub followed_more : (item : Result (Bor (List ℕ)) Damaged) (text : Bor (List ℕ))
      → GivesRecord old (Some item) new → item ≡ Ok text
      → (new ≡ at_gate bytes new.gate new.marks) × Followed bytes first new.gate new.marks
  followed_more (Ok found) text given e =
      let at = subst (λ (s : Standing). GivesRecord s (Some (Ok found)) new) here given in
      let place : new.gate ≡ gate + 1 + length (record_of at.0) = ap (λ (s : Standing). s.gate) at.3 in
      let marked : new.marks ≡ behind marks at.0 = ap (λ (s : Standing). s.marks) at.3 in
      let follows : MayFollow (marks_of before.entries) at.0 =
      subst (λ (m : Marks). MayFollow m at.0) before.marked at.2.follows in (
        at.3 ∙ (λ i. at_gate bytes (sym place i) (sym marked i)),
        record {
          entries = before.entries ++ at.0 ∷ [];
          records = subst (Holds bytes first (before.entries ++ at.0 ∷ [])) (sym place)
              (holds_more bytes first before.entries gate at.0 before.records at.2.open_there at.2.begins
              follows);
          marked = marked ∙ ap (λ (m : Marks). behind m at.0) before.marked
              ∙ sym (marks_of-more before.entries at.0);
        },
      )
  followed_more (Err damage) text given e = absurd cc

  -- one record more, which makes too many
  pub followed_many : (item : Result (Bor (List ℕ)) Damaged) (text : Bor (List ℕ))
      → GivesRecord old (Some item) new → item ≡ Ok text
      → AreMany new.marks → IsManyFrom bytes first
  followed_many (Ok found) text given e many =
      let at = subst (λ (s : Standing). GivesRecord s (Some (Ok found)) new) here given in
      let marked : new.marks ≡ marks_of (before.entries ++ at.0 ∷ []) =
      ap (λ (s : Standing). s.marks) at.3
      ∙ ap (λ (m : Marks). behind m at.0) before.marked
      ∙ sym (marks_of-more before.entries at.0) in
      record {
        entries = before.entries;
        entry = at.0;
        gate = gate;
        records = before.records;
        open_there = at.2.open_there;
        few = so_far.few;
        begins = at.2.begins;
        follows = subst (λ (m : Marks). MayFollow m at.0) before.marked at.2.follows;
        many = not_few (before.entries ++ at.0 ∷ []) new.marks marked many;
      }
  followed_many (Err damage) text given e many = absurd cc

  -- no whole record that may follow
  pub followed_damage : (item : Result (Bor (List ℕ)) Damaged) (damage : Damaged)
      → GivesRecord old (Some item) new → item ≡ Err damage
      → IsDamagedFrom bytes first damage.at
  followed_damage (Ok found) damage given e = absurd cc
  followed_damage (Err found) damage given e =
      let at = subst (λ (s : Standing). GivesRecord s (Some (Err found)) new) here given in
      let same : found ≡ damage = cc in
      record {
        entries = before.entries;
        gate = gate;
        records = before.records;
        open_there = at.1.open_there;
        few = so_far.few;
        no_record = λ entry follows. at.1.no_record entry
            (subst (λ (m : Marks). MayFollow m entry) (sym before.marked) follows);
        place = sym (ap (λ (d : Damaged). d.at) same) ∙ at.0;
      }

  -- a closed gate, or damage that was told: there the records end
  pub followed_end : GivesRecord old None new → CountsTo bytes first new.marks.actions new.gate new.marks.boots
  followed_end given =
      let at = subst (λ (s : Standing). GivesRecord s None new) here given in
      let family : Standing → Type 0 = λ s. CountsTo bytes first s.marks.actions s.gate s.marks.boots in
      subst family (sym at.1)
      (record {
        entries = before.entries;
        closes = record {
          records = before.records;
          closed = elim at.0 [ inl told ↦ absurd cc | inr closed ↦ closed ];
          few = so_far.few;
        };
        counted = ap (λ (m : Marks). m.actions) before.marked ∙ sym (number_of before.entries);
        booted = ap (λ (m : Marks). m.boots) before.marked;
      })
