-- What is read of a file is one thing.
use Rattle.std.proofs.Common.{◌≡◌, ℕ, ◌+◌, List, [], drop, refl, sym, ◌∙◌, ap, subst, arith}
use Rattle.ix_journal.specs.declared.entries.Entry.{Entry}
use Rattle.ix_journal.specs.Format.{IsClosed}
use Rattle.ix_journal.specs.Kinds.{IsUnfinished, IsUnopened, IsReady, unfinished, unopened, ready}
use Rattle.ix_journal.specs.Records.{BeginsWithRecord, ClosesAt, IsDamagedFrom}
use Rattle.ix_journal.specs.Recovery.{IsJournal, IsDamaged, IsMany, KeepsRecords, Recovers}
use Rattle.ix_journal.specs.Entries.{MayFollow, marks_of, pairs_of, renewed_of}
use Rattle.ix_journal.specs.History.{PlainHistory}
use Rattle.ix_journal.specs.Laws.{OneHistory, OneJournal, OneList, OneNumber, OneOutcome}
use Rattle.ix_journal.proofs.KindLaws.{one_kind, ready_same}
use Rattle.ix_journal.proofs.EndLemmas.{ends_closed, ends_damaged, ends_many, one_end, not_both}

pub one_journal : OneJournal
one_journal bytes text text' x y gate gate' v w =
    let same = ready_same bytes text text' v.first w.first v.ready w.ready in
    let closes : ClosesAt bytes w.first x gate =
    subst (λ (first : ℕ). ClosesAt bytes first x gate) same.1 v.closes in
    let end = one_end bytes w.first x y gate gate' (ends_closed bytes w.first x gate closes)
    (ends_closed bytes w.first y gate' w.closes) in
    (same.0, end.0, end.1)

-- a ready file is neither unfinished nor unopened
module _ (bytes text : List ℕ) (first : ℕ) (w : IsReady bytes text first) where
  ready_only : (entries : List Entry) → KeepsRecords bytes entries
      → (t : List ℕ) × (g : ℕ) × IsJournal bytes t entries g
  ready_only _ (KeepsRecords.unfinished _ h) =
      absurd (let e = one_kind bytes unfinished (ready text first) h w in cc)
  ready_only _ (KeepsRecords.unopened _ t h) =
      absurd (let e = one_kind bytes (unopened t) (ready text first) h w in cc)
  ready_only _ (KeepsRecords.ready _ t entries g h) = (t, g, h)

  pub closes_there : (entries : List Entry) → KeepsRecords bytes entries → (g : ℕ) × ClosesAt bytes first entries g
  closes_there entries h =
      let found = ready_only entries h in
      let same = ready_same bytes found.0 text found.2.first first found.2.ready w in
      (found.1, subst (λ (place : ℕ). ClosesAt bytes place entries found.1) same.1 found.2.closes)

not_damaged : (bytes : List ℕ) (history : PlainHistory) (at : ℕ) → Recovers bytes history → IsDamaged bytes at → ⊥
not_damaged bytes history at h w =
    let closes = closes_there bytes w.text w.first w.ready h.entries h.keeps in
    let end = one_end bytes w.first h.entries w.damaged.entries closes.0 w.damaged.gate
    (ends_closed bytes w.first h.entries closes.0 closes.1) (ends_damaged bytes w.first at w.damaged) in
    not_both bytes w.damaged.gate w.damaged.open_there (subst (IsClosed bytes) end.1 closes.1.closed)

not_many : (bytes : List ℕ) (history : PlainHistory) → Recovers bytes history → IsMany bytes → ⊥
not_many bytes history h w =
    let closes = closes_there bytes w.text w.first w.ready h.entries h.keeps in
    let end = one_end bytes w.first h.entries w.many.entries closes.0 w.many.gate
    (ends_closed bytes w.first h.entries closes.0 closes.1) (ends_many bytes w.first w.many) in
    not_both bytes w.many.gate w.many.open_there (subst (IsClosed bytes) end.1 closes.1.closed)

damaged_at : (bytes : List ℕ) (text : List ℕ) (first : ℕ) → IsReady bytes text first → (at : ℕ)
    → IsDamaged bytes at → IsDamagedFrom bytes first at
damaged_at bytes text first r at w =
    subst (λ (place : ℕ). IsDamagedFrom bytes place at)
    (ready_same bytes w.text text w.first first w.ready r).1 w.damaged

damaged_not_many : (bytes : List ℕ) (at : ℕ) → IsDamaged bytes at → IsMany bytes → ⊥
damaged_not_many bytes at v w =
    let d = damaged_at bytes w.text w.first w.ready at v in
    let end = one_end bytes w.first d.entries w.many.entries d.gate w.many.gate
    (ends_damaged bytes w.first at d) (ends_many bytes w.first w.many) in
    d.no_record w.many.entry
    (subst (λ (h : List Entry). MayFollow (marks_of h) w.many.entry) (sym end.0) w.many.follows)
    (subst (λ (g : ℕ). BeginsWithRecord (drop (g + 1) bytes) w.many.entry) (sym end.1) w.many.begins)

damaged_once : (bytes : List ℕ) (at other : ℕ) → IsDamaged bytes at → IsDamaged bytes other → at ≡ other
damaged_once bytes at other v w =
    let d = damaged_at bytes w.text w.first w.ready at v in
    let end = one_end bytes w.first d.entries w.damaged.entries d.gate w.damaged.gate
    (ends_damaged bytes w.first at d) (ends_damaged bytes w.first other w.damaged) in
    let place_v = d.place in
    let place_w = w.damaged.place in
    omega (arith, end.1)

pub one_outcome : OneOutcome
one_outcome bytes = (not_damaged bytes, not_many bytes, damaged_not_many bytes, damaged_once bytes)

-- two lists of records of one file
keeps_same : (bytes : List ℕ) (x y : List Entry) → KeepsRecords bytes x → KeepsRecords bytes y → x ≡ y
keeps_same _ _ y (KeepsRecords.unfinished bytes h) w = sym (unfinished_empty bytes y h w)
  where
    unfinished_empty : (b : List ℕ) (z : List Entry) → IsUnfinished b → KeepsRecords b z → z ≡ []
    unfinished_empty b _ p (KeepsRecords.unfinished _ q) = refl
    unfinished_empty b _ p (KeepsRecords.unopened _ t q) = refl
    unfinished_empty b _ p (KeepsRecords.ready _ t z g q) =
        absurd (let e = one_kind b unfinished (ready t q.first) p q.ready in cc)
keeps_same _ _ y (KeepsRecords.unopened bytes text h) w = sym (unopened_empty bytes y h w)
  where
    unopened_empty : (b : List ℕ) (z : List Entry) → IsUnopened b text → KeepsRecords b z → z ≡ []
    unopened_empty b _ p (KeepsRecords.unfinished _ q) = refl
    unopened_empty b _ p (KeepsRecords.unopened _ t q) = refl
    unopened_empty b _ p (KeepsRecords.ready _ t z g q) =
        absurd (let e = one_kind b (unopened text) (ready t q.first) p q.ready in cc)
keeps_same _ _ y (KeepsRecords.ready bytes text x gate v) w =
    let closes = closes_there bytes text v.first v.ready y w in
    (one_end bytes v.first x y gate closes.0 (ends_closed bytes v.first x gate v.closes)
    (ends_closed bytes v.first y closes.0 closes.1)).0

pub one_list : OneList
one_list bytes x y v w = keeps_same bytes x y v w

pub one_history : OneHistory
one_history bytes x y v w =
    sym v.pairs ∙ ap pairs_of (keeps_same bytes v.entries w.entries v.keeps w.keeps) ∙ w.pairs

pub one_number : OneNumber
one_number bytes x y m n v w =
    let same = keeps_same bytes v.entries w.entries v.keeps w.keeps in (
      sym v.said ∙ ap (λ (entries : List Entry). renewed_of (marks_of entries)) same ∙ w.said,
      sym v.number ∙ ap (λ (entries : List Entry). (marks_of entries).boots) same ∙ w.number,
    )
