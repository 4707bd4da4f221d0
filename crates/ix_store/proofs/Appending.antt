-- What the two writes of an append may leave.
use Rattle.std.proofs.Common.{◌≡◌, ℕ, zero, suc, ◌+◌, ◌<◌, ◌≤◌, List, [], ◌∷◌, ◌++◌, length, get_or}
use Rattle.std.proofs.Common.{take, drop, Some}
use Rattle.std.proofs.Common.{refl, sym, ◌∙◌, ap, subst, arith, inl, inr}
use Rattle.std.proofs.lemmas.List.{append_assoc, drop_more, take-append-drop, take-append-le}
use Rattle.std.proofs.lemmas.List.{take-take, take_at, drop_at, length-take-le, length-append}
use Rattle.std.proofs.lemmas.Bool.{cases_eq}
use Rattle.std.specs.Prelude.{slice_get}
use Rattle.ix_journal.specs.History.{PlainHistory}
use Rattle.ix_outside.specs.Disk.{Torn, Overwrites}
use Rattle.ix_journal.specs.Entries.{behind, pair_of}
use Rattle.ix_journal.specs.Format.{record_of}
use Rattle.ix_journal.specs.Recovery.{IsJournalWith}
use Rattle.ix_journal.specs.declared.entries.Entry.{Entry}
use Rattle.ix_journal.specs.declared.entries.Marks.{Marks}
use Rattle.ix_store.proofs.Histories.{MayAppend, ignores, grows}
use Rattle.ix_store.specs.inside.Keeping.{IsWithOrWithout}

-- a byte of a front
slice_take : (xs : List ℕ) (m at : ℕ) → at < m → slice_get (take m xs) at ≡ slice_get xs at
slice_take xs zero at lt = absurd (omega arith)
slice_take [] (suc m) at lt = refl
slice_take (x ∷ xs) (suc m) zero lt = refl
slice_take (x ∷ xs) (suc m) (suc at) lt = slice_take xs m at (omega arith)

-- equal fronts have equal shorter fronts
front_of : (n m : ℕ) (xs ys : List ℕ) → n ≤ m → take m xs ≡ take m ys → take n xs ≡ take n ys
front_of n m xs ys le same = sym (take-take n m xs le) ∙ ap (take n) same ∙ take-take n m ys le

-- equal fronts have the same byte
byte_of : (at m : ℕ) (xs ys : List ℕ) (byte : ℕ) → at < m → take m xs ≡ take m ys
    → slice_get ys at ≡ Some byte
    → slice_get xs at ≡ Some byte
byte_of at m xs ys byte lt same there =
    sym (slice_take xs m at lt) ∙ ap (λ (l : List ℕ). slice_get l at) same ∙ slice_take ys m at lt
    ∙ there

-- the byte behind a front
byte_behind : (front : List ℕ) (byte : ℕ) (rest : List ℕ) (at : ℕ) → length front ≡ at
    → slice_get (front ++ byte ∷ rest) at ≡ Some byte
byte_behind [] byte rest zero e = refl
byte_behind [] byte rest (suc at) e = absurd (omega arith)
byte_behind (x ∷ front) byte rest zero e = absurd (omega arith)
byte_behind (x ∷ front) byte rest (suc at) e = byte_behind front byte rest at (omega arith)

module _ (text : List ℕ) (history : PlainHistory) (marks : Marks) (gate : ℕ) where
  -- what is written behind the closed gate means nothing
  pub torn_behind : (count : ℕ) (before image : List ℕ) → IsJournalWith before text history marks gate
      → Torn (gate + 1) count before image → IsJournalWith image text history marks gate
  torn_behind count before image journal torn =
      let closed = journal.journal.closes.closed in
      ignores before text history marks gate image journal
      (front_of gate (gate + 1) image before (omega arith) torn.before) (
        closed.0,
        byte_of gate (gate + 1) image before closed.0
            (omega arith) torn.before closed.1,
        closed.2,
      )

  -- the file with a record and a closed gate behind the closed gate
  abbrev pub staged : List ℕ → List ℕ → List ℕ
  staged file bytes = take (gate + 1) file ++ bytes ++ drop (gate + 1 + length bytes) file

  module _ (file : List ℕ) (journal : IsJournalWith file text history marks gate) (entry : Entry)
      (may : MayAppend marks entry) where
    abbrev bytes : List ℕ
    bytes = record_of entry ++ 0 ∷ []

    abbrev rest : List ℕ
    rest = drop (gate + 1 + length bytes) file

    within : gate < length file
    within = journal.journal.closes.records.within

    parts : staged file bytes ≡ take (gate + 1) file ++ (bytes ++ rest)
    parts = append_assoc (take (gate + 1) file) bytes rest

    long : length (take (gate + 1) file) ≡ gate + 1
    long = length-take-le (gate + 1) file (let here = within in omega arith)

    front : take gate (staged file bytes) ≡ take gate file
    front = ap (take gate) parts
        ∙ take-append-le gate (take (gate + 1) file) (bytes ++ rest) (omega (arith, long))
        ∙ take-take gate (gate + 1) file (omega arith)

    back : drop (gate + 1) (staged file bytes) ≡ record_of entry ++ 0 ∷ rest
    back = ap (drop (gate + 1)) parts
        ∙ drop_at (take (gate + 1) file) (bytes ++ rest) (gate + 1) long
        ∙ append_assoc (record_of entry) (0 ∷ []) rest

    longer : gate < length (staged file bytes)
    longer = omega
        (arith, long, ap length parts, length-append (take (gate + 1) file) (bytes ++ rest))

    place : gate + 1 + length (record_of entry) ≡ gate + length bytes
    place = omega (arith, length-append (record_of entry) (0 ∷ []))

    -- with any byte in the place of the gate
    abbrev gated : ℕ → List ℕ
    gated gate_byte = take gate file ++ (gate_byte ∷ (record_of entry ++ 0 ∷ rest))

    gated_open : IsJournalWith (gated 165) text (history ++ pair_of entry) (behind marks entry) (gate + length bytes)
    gated_open =
        let law = grows file text history marks gate entry 0 rest journal may (omega arith) in
        subst (IsJournalWith (gated 165) text (history ++ pair_of entry) (behind marks entry)) place
        (subst (λ (l : List ℕ). IsJournalWith l text (history ++ pair_of entry) (behind marks entry)
        (gate + 1 + length (record_of entry)))
        (append_assoc (take gate file) (165 ∷ record_of entry) (0 ∷ rest)) law)

    gated_kept : (gate_byte : ℕ) → (gate_byte ≡ 165 → ⊥)
        → IsJournalWith (gated gate_byte) text history marks gate
    gated_kept gate_byte shut =
        let size = length-take-le gate file (let here = within in omega arith) in
        ignores file text history marks gate (gated gate_byte) journal
        (take_at (take gate file) (gate_byte ∷ (record_of entry ++ 0 ∷ rest)) gate size) (
          gate_byte,
          byte_behind (take gate file) gate_byte
              (record_of entry ++ 0 ∷ rest) gate size,
          shut,
        )

    with_or_without : (gate_byte : ℕ) → IsWithOrWithout text history marks entry (gated gate_byte)
    with_or_without gate_byte = elim (cases_eq gate_byte 165) [
      | inl is_open ↦ (
        gate + length bytes,
        inr (subst
            (λ (b : ℕ). IsJournalWith (gated b) text (history ++ pair_of entry) (behind marks entry) (gate + length bytes))
            (sym is_open) gated_open),
      )
      | inr shut ↦ (gate, inl (gated_kept gate_byte shut))
    ]

    pub torn_gate : (image : List ℕ) → Torn gate 1 (staged file bytes) image
        → IsWithOrWithout text history marks entry image
    torn_gate image torn =
        let byte = get_or image gate 0 in
        let whole : image ≡ gated byte = sym (take-append-drop gate image)
        ∙ ap (λ (l : List ℕ). l ++ drop gate image) (torn.before ∙ front)
        ∙ ap (λ (l : List ℕ). take gate file ++ l)
        (drop_more image gate 0 (omega (arith, longer, torn.no_shorter))
        ∙ ap (λ (l : List ℕ). byte ∷ l) (torn.behind ∙ back)) in
        subst (IsWithOrWithout text history marks entry) (sym whole) (with_or_without byte)

    pub opened_gate : (image : List ℕ) → Overwrites gate (165 ∷ []) (staged file bytes) image
        → IsJournalWith image text (history ++ pair_of entry) (behind marks entry) (gate + length bytes)
    opened_gate image writes =
        let whole : image ≡ gated 165 = writes
        ∙ append_assoc (take gate (staged file bytes)) (165 ∷ [])
        (drop (gate + 1) (staged file bytes))
        ∙ ap (λ (l : List ℕ). l ++ (165 ∷ drop (gate + 1) (staged file bytes))) front
        ∙ ap (λ (l : List ℕ). take gate file ++ (165 ∷ l)) back in
        subst (λ (l : List ℕ). IsJournalWith l text (history ++ pair_of entry) (behind marks entry) (gate + length bytes))
        (sym whole) gated_open
