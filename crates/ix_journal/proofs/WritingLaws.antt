-- What is written to a journal, and what it means then.
use Rattle.std.proofs.Common.{◌≡◌, ℕ, zero, suc, ◌+◌, ◌<◌, List, [], ◌∷◌, ◌++◌, length, take, drop, Some}
use Rattle.std.proofs.Common.{refl, sym, ◌∙◌, ap, subst, arith, inl, inr}
use Rattle.std.proofs.lemmas.List.{append_assoc, drop_at, length-append, length-take-le, take_at}
use Rattle.std.proofs.lemmas.Bool.{cases_eq}
use Rattle.std.proofs.lemmas.Option.{slice_get_within}
use Rattle.std.specs.Prelude.{slice_get}
use Rattle.ix_journal.specs.Format.{IsVersion, header, record_of}
use Rattle.ix_journal.specs.inside.Writing.{digit_of}
use Rattle.ix_journal.specs.declared.writing.Version.{Version}
use Rattle.ix_journal.specs.declared.writing.Version.TheVariants as version
use Rattle.ix_journal.specs.Recovery.{IsJournal}
use Rattle.ix_journal.specs.Laws.{OpenedIsEmpty, Begun, GateIsNear, IgnoresTheRest, Appended}
use Rattle.ix_journal.proofs.KindLemmas.{cons_tail}
use Rattle.ix_journal.proofs.OrderLemmas.{few_none}
use Rattle.ix_journal.proofs.RecordFronts.{drop_gate}
use Rattle.ix_journal.proofs.SameFronts.{kept_ready, kept_records, near}
use Rattle.ix_journal.proofs.HoldsLemmas.{holds_none, holds_more}

-- the byte behind a front
pub byte_behind : (front : List ℕ) (byte : ℕ) (rest : List ℕ) (at : ℕ) → length front ≡ at
    → slice_get (front ++ byte ∷ rest) at ≡ Some byte
byte_behind [] byte rest zero e = refl
byte_behind [] byte rest (suc at) e = absurd (omega arith)
byte_behind (x ∷ front) byte rest zero e = absurd (omega arith)
byte_behind (x ∷ front) byte rest (suc at) e = byte_behind front byte rest at (omega arith)

-- a version that is written is read
pub is_version : (v : Version) → IsVersion (digit_of v)
is_version version.Started = inr (inl refl)
is_version version.Renewed = inr (inr refl)

-- a header and a closed gate
pub opened : OpenedIsEmpty
opened version text gate rest known short closed =
    let bytes = 165 ∷ header version text ++ gate ∷ rest in
    let left : drop (7 + length text) bytes ≡ gate ∷ rest =
    drop_at (165 ∷ header version text) (gate ∷ rest) (7 + length text) (omega arith) in
    let len = length-append (header version text) (gate ∷ rest) in
    record {
      first = 7 + length text;
      ready = record {
        header = record {
          version = version;
          known = known;
          spells = ap (λ (r : List ℕ). 165 ∷ header version text ++ r) (sym left);
          short =
              short;
          gate = omega (arith, ap length left);
        };
        place = refl;
      };
      closes = record {
        records = holds_none bytes (7 + length text) (omega arith);
        closed = (
          gate,
          byte_behind (165 ∷ header version text) gate rest (7 + length text) (omega arith),
          closed,
        );
        few = few_none;
      };
    }

-- a header and one closed gate behind any head gate
pub begun : Begun
begun head version text gate known short closed = elim (cases_eq head 0) [
  | inl is_zero ↦ inl (inr (ap (λ (h : ℕ). Some h) is_zero))
  | inr started ↦ elim (cases_eq head 165) [
    | inl is_open ↦ inr (inr
        (subst (λ (h : ℕ). IsJournal (h ∷ header version text ++ gate ∷ []) text [] (7 + length text))
        (sym is_open) (opened version text gate [] known short closed)))
    | inr shut ↦
        inr (inl (record {
          head = head;
          gate = gate;
          header = record {
            version = version;
            known = known;
            spells = refl;
            short = short;
            gate = omega arith;
          };
          finished = started;
          unopened = shut;
          closed = closed;
        }))
  ]
]

pub ignores_the_rest : IgnoresTheRest
ignores_the_rest bytes text entries gate new v same closed =
    let here : gate < length new = slice_get_within new gate closed.0 closed.1 in
    record {
      first = v.first;
      ready = kept_ready bytes text v.first entries gate new v.ready v.closes.records same here;
      closes = record {
        records =
            kept_records bytes text v.first entries gate new v.ready v.closes.records same here;
        closed = closed;
        few = v.closes.few;
      };
    }

pub appended : Appended
appended bytes text entries gate entry closed rest v few valid follows shut =
    let within = v.closes.records.within in
    let front = take gate bytes in
    let new = (front ++ (165 ∷ record_of entry)) ++ (closed ∷ rest) in
    let len : length (take gate bytes) ≡ gate = length-take-le gate bytes (omega arith) in
    let parts : new ≡ front ++ (165 ∷ (record_of entry ++ (closed ∷ rest))) =
    append_assoc front (165 ∷ record_of entry) (closed ∷ rest) in
    let same : take gate new ≡ take gate bytes = ap (take gate) parts
    ∙ take_at front (165 ∷ (record_of entry ++ (closed ∷ rest))) gate len in
    let is_open : slice_get new gate ≡ Some 165 =
    ap (λ (b : List ℕ). slice_get b gate) parts
    ∙ byte_behind front 165 (record_of entry ++ (closed ∷ rest)) gate len in
    let here : gate < length new = slice_get_within new gate 165 is_open in
    let after : drop gate new ≡ 165 ∷ (record_of entry ++ (closed ∷ rest)) = ap (drop gate) parts
    ∙ drop_at front (165 ∷ (record_of entry ++ (closed ∷ rest))) gate len in
    let behind : drop (gate + 1) new ≡ record_of entry ++ (closed ∷ rest) =
    cons_tail _ _ _ _ (sym (drop_gate new gate 165 is_open) ∙ after) in
    let place : length (front ++ (165 ∷ record_of entry)) ≡ gate + 1 + length (record_of entry) =
    omega (arith, length-append front (165 ∷ record_of entry)) in
    record {
      first = v.first;
      ready = kept_ready bytes text v.first entries gate new v.ready v.closes.records same here;
      closes = record {
        records = holds_more new v.first entries gate entry
            (kept_records bytes text v.first entries gate new v.ready v.closes.records same here) is_open
            (record { behind = closed ∷ rest; spells = behind; gate = omega arith; valid = valid }) follows;
        closed = (
          closed,
          byte_behind (front ++ (165 ∷ record_of entry)) closed rest
              (gate + 1 + length (record_of entry)) place,
          shut,
        );
        few = few;
      };
    }

-- the first closed gate isn't far
pub gate_is_near : GateIsNear
gate_is_near bytes text entries gate v = near bytes text v.first entries gate v.ready v.closes.records v.closes.few
