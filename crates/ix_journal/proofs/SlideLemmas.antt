-- What bytes say of a longer file that has them behind a gate.
use Rattle.std.proofs.Common.{◌≡◌, ℕ, zero, suc, ◌+◌, ◌*◌, ◌/◌, ◌%◌, ◌≤◌, List, [], ◌∷◌, ◌++◌}
use Rattle.std.proofs.Common.{length, drop, get_or, true, Some, Bor, refl, sym, ◌∙◌, ap, subst}
use Rattle.std.proofs.Common.{arith, inl, inr}
use Rattle.std.proofs.lemmas.List.{drop-append-le, drop-drop, take_at}
use Rattle.std.specs.Prelude.{slice_get}
use Rattle.ix_journal.specs.declared.entries.Entry.{Entry}
use Rattle.ix_journal.specs.Entries.{behind, entry_text}
use Rattle.ix_journal.specs.declared.entries.Marks.{Marks}
use Rattle.ix_journal.specs.declared.slide.Slid.TheVariants as slid
use Rattle.ix_journal.specs.Format.{IsOpen, IsClosed, record_of}
use Rattle.ix_journal.specs.Records.{BeginsWithRecord}
use Rattle.ix_journal.specs.Answers.{Standing, at_gate, StandsBeforeDamage}
use Rattle.ix_journal.specs.Slide.{GivesText, WantMore, RecordsGive}
use Rattle.ix_journal.proofs.EnoughLemmas.{record_in_front, record_more}
use Rattle.ix_journal.proofs.HoldsLemmas.{gate_behind}
use Rattle.ix_journal.proofs.OrderLemmas.{entry_short}

at_drop : (gate : ℕ) (file : List ℕ) → slice_get file gate ≡ slice_get (drop gate file) 0
at_drop zero file = refl
at_drop (suc gate) [] = refl
at_drop (suc gate) (x ∷ file) = at_drop gate file

first_more : (bytes rest : List ℕ) (byte : ℕ) → slice_get bytes 0 ≡ Some byte
    → slice_get (bytes ++ rest) 0 ≡ Some byte
first_more [] rest byte h = absurd cc
first_more (x ∷ bytes) rest byte h = h

-- where the length is there and more bytes than it tells, a record behind more bytes ends in front
within : (high low : ℕ) (text rest : List ℕ) (entry : Entry)
    → ((256 * high + low ≤ 207) × (length text ≤ 256 * high + low) → ⊥)
    → BeginsWithRecord ((high ∷ low ∷ text) ++ rest) entry
    → BeginsWithRecord (high ∷ low ∷ text) entry
within high low text rest entry far w =
    let n = length (entry_text entry) in
    let short : n ≤ 207 = entry_short entry w.valid in
    let h : high ≡ n / 256 % 256 = ap (λ (b : List ℕ). get_or b 0 0) w.spells in
    let l : low ≡ n % 256 = ap (λ (b : List ℕ). get_or b 1 0) w.spells in
    let number : 256 * high + low ≡ n = omega arith in
    let long : length text ≤ n → ⊥ = λ le. far (omega arith, omega arith) in
    let whole : length (high ∷ low ∷ text) ≡ 2 + length text = omega arith in
    subst (λ (b : List ℕ). BeginsWithRecord b entry)
    (take_at (high ∷ low ∷ text) rest (2 + length text) whole)
    (record_in_front (2 + length text) ((high ∷ low ∷ text) ++ rest) entry (omega arith) w)

-- a record that isn't there in bytes that want no more isn't there with more of them
pub no_record_more : (bytes rest : List ℕ) (entry : Entry)
    → (WantMore bytes → ⊥) → IsOpen bytes 0
    → BeginsWithRecord (drop 1 bytes ++ rest) entry → BeginsWithRecord (drop 1 bytes) entry
no_record_more [] rest entry none open_there w = absurd (none tt)
no_record_more (gate ∷ []) rest entry none open_there w = absurd (none cc)
no_record_more (gate ∷ high ∷ []) rest entry none open_there w = absurd (none cc)
no_record_more (gate ∷ high ∷ low ∷ text) rest entry none open_there w =
    within high low text rest entry (λ k. none (cc, k.0, k.1)) w

-- a file that goes on with these bytes and the rest from its gate on
module _ (file : List ℕ) (gate : ℕ) (bytes rest : List ℕ)
    (here : bytes ++ rest ≡ drop gate file) where
  first_there : (byte : ℕ) → slice_get bytes 0 ≡ Some byte → slice_get file gate ≡ Some byte
  first_there byte h =
      at_drop gate file ∙ ap (λ (b : List ℕ). slice_get b 0) (sym here)
      ∙ first_more bytes rest byte h

  -- so many bytes further on
  pub further : (count : ℕ) → count ≤ length bytes
      → drop count bytes ++ rest ≡ drop (gate + count) file
  further count le =
      sym (drop-append-le count bytes rest le) ∙ ap (drop count) here ∙ drop-drop count gate file

  some : (byte : ℕ) (bytes : List ℕ) → slice_get bytes 0 ≡ Some byte → 1 ≤ length bytes
  some byte [] h = absurd cc
  some byte (x ∷ bytes) h = omega arith

  -- the next record
  pub gives_text : (marks left : Marks) (text : Bor (List ℕ)) → GivesText bytes 0 marks text left
      → GivesText file gate marks text left
  gives_text marks left text given =
      let entry : Entry = given.0 in
      let len : length text.now ≡ length (entry_text entry) = ap length given.1 in
      let begins : BeginsWithRecord (drop (gate + 1) file) entry =
      subst (λ (b : List ℕ). BeginsWithRecord b entry)
      (further 1 (some 165 bytes given.2.open_there))
      (record_more (drop 1 bytes) rest entry given.2.begins) in
      let place : gate + (3 + length text.now) ≡ gate + 1 + length (record_of entry) = omega (arith, len) in
      let marked : left ≡ behind marks entry = ap (λ (s : Standing). s.marks) given.3 in (
        entry,
        given.1,
        record {
          sound = refl;
          open_there = first_there 165 given.2.open_there;
          begins = begins;
          follows = given.2.follows;
        },
        λ i. at_gate file (place i) (marked i),
      )

  pub gives_record : (marks : Marks) (text : Bor (List ℕ))
      → RecordsGive gate bytes 0 marks (slid.Record text)
      → RecordsGive 0 file gate marks (slid.Record text)
  gives_record marks text given = (given.0, gives_text marks given.0 text given.1)

  pub record_within : (marks left : Marks) (text : Bor (List ℕ)) → GivesText bytes 0 marks text left
      → 3 + length text.now ≤ length bytes
  record_within marks left text given =
      let entry : Entry = given.0 in
      let len : length text.now ≡ length (entry_text entry) = ap length given.1 in
      omega (arith, len, gate_behind bytes 0 entry given.2.begins)

  closed_there : IsClosed bytes 0 → IsClosed file gate
  closed_there h = (h.0, first_there h.0 h.1, h.2)

  pub gives_closed : (marks : Marks) (place : ℕ) → RecordsGive gate bytes 0 marks (slid.Closed place)
      → RecordsGive 0 file gate marks (slid.Closed place)
  gives_closed marks place given =
      let closed : IsClosed file gate =
      elim given.1.0 [ inl told ↦ absurd cc | inr is ↦ closed_there is ] in
      (omega (arith, given.0), (inr closed, refl))

  -- no record with the rest behind the bytes, where they want no more or nothing is behind them
  abbrev StaysAway : Type 0
  StaysAway = (entry : Entry) → BeginsWithRecord (drop 1 bytes ++ rest) entry
      → BeginsWithRecord (drop 1 bytes) entry

  pub gives_damage : (marks : Marks) (at : ℕ) → StaysAway
      → RecordsGive gate bytes 0 marks (slid.Damaged at)
      → RecordsGive 0 file gate marks (slid.Damaged at)
  gives_damage marks at away given =
      let stands : StandsBeforeDamage (at_gate bytes 0 marks) = given.2.1.1 in
      let place = given.2.1.0 in (
        record { at = at },
        omega arith,
        (
          record (at_gate file gate marks) { damaged = true },
          (
            omega (arith, given.1, place),
            record {
              sound = refl;
              open_there = first_there 165 stands.open_there;
              no_record = λ entry follows w. stands.no_record entry follows
                  (away entry (subst (λ (b : List ℕ). BeginsWithRecord b entry)
                  (sym (further 1 (some 165 bytes stands.open_there))) w));
            },
            refl,
          ),
        ),
      )
