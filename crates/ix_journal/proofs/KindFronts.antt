-- What a file is by a front of it, it is, where the front has all of the header.
use Rattle.std.proofs.Common.{◌≡◌, ℕ, zero, suc, ◌+◌, ◌-◌, ◌<◌, ◌≤◌, List, [], ◌∷◌, ◌++◌, length}
use Rattle.std.proofs.Common.{take, drop}
use Rattle.std.proofs.Common.{refl, sym, ◌∙◌, ap, subst, arith, inl, inr}
use Rattle.std.proofs.lemmas.List.{append_assoc, length-append, length-drop, length-take}
use Rattle.std.proofs.lemmas.List.{take-append-drop}
use Rattle.std.proofs.lemmas.List.{take-take, take_all}
use Rattle.std.proofs.Math.Seq.{take-append-add}
use Rattle.std.specs.Prelude.{slice_get}
use Rattle.byteorder.specs.Endian.{big_number}
use Rattle.byteorder.specs.Numbers.{big_number-reads_back}
use Rattle.ix_journal.specs.Format.{header}
use Rattle.ix_journal.specs.Kinds.{HasHeader, IsUnfinished, IsUnopened, IsReady, IsForeign, Kind}
use Rattle.ix_journal.specs.Kinds.{unfinished}
use Rattle.ix_journal.specs.Kinds.{unopened, foreign, ready, HasKind}
use Rattle.ix_journal.proofs.HoldsLemmas.{holds_none}
use Rattle.ix_journal.proofs.SameFronts.{kept_ready}

pub slice_get-take : (n i : ℕ) (xs : List ℕ) → i < n → slice_get (take n xs) i ≡ slice_get xs i
slice_get-take zero i xs h = absurd (omega arith)
slice_get-take (suc n) i [] h = refl
slice_get-take (suc n) zero (x ∷ xs) h = refl
slice_get-take (suc n) (suc i) (x ∷ xs) h = slice_get-take n i xs (omega arith)

-- so many bytes of the file are a whole header, the gate behind it and one byte more, if it has one
abbrev pub Covers : List ℕ → ℕ → Type 0
Covers file count =
    (head : ℕ) (text behind : List ℕ) → HasHeader file head text behind → 9 + length text ≤ count

-- the number in front of the text of a header
pub header_number : (file : List ℕ) (head : ℕ) (text behind : List ℕ)
    → HasHeader file head text behind → big_number 2 (drop 5 (take 7 file)) ≡ length text
header_number file head text behind w =
    ap (λ (b : List ℕ). big_number 2 (drop 5 (take 7 b))) w.spells
    ∙ big_number-reads_back 2 (length text) [] w.short

module _ (bytes : List ℕ) (read : ℕ) where
  pub front_len : length (take read bytes) ≤ length bytes
  front_len = omega (arith, length-take read bytes)

  pub front_read : length (take read bytes) ≤ read
  front_read = omega (arith, length-take read bytes)

  -- up to a gate that was read the file is what was read
  pub same : (gate : ℕ) → gate < length (take read bytes)
      → take gate bytes ≡ take gate (take read bytes)
  same gate within = sym (take-take gate read bytes (omega (arith, front_read)))

  -- a file that isn't longer than what was read is what was read
  all_read : length bytes ≤ read → take read bytes ≡ bytes
  all_read le = take_all read bytes le

  module _ (two : 2 ≤ read) (covers : Covers bytes read) where
    -- a header is there in what was read too
    header_read : (head : ℕ) (text behind : List ℕ) → HasHeader bytes head text behind
        → (left : List ℕ) × HasHeader (take read bytes) head text left
    header_read head text behind w =
        let far = covers head text behind w in
        let left = read - length (head ∷ header w.version text) in
        let sum : read ≡ length (head ∷ header w.version text) + left = omega arith in
        let some = w.gate in (
          take left behind,
          record {
            version = w.version;
            known = w.known;
            spells = ap (take read) w.spells
                ∙ ap (λ (n : ℕ). take n ((head ∷ header w.version text) ++ behind)) sum
                ∙ take-append-add (head ∷ header w.version text) behind left;
            short = w.short;
            gate = omega (arith, length-take left behind);
          },
        )

    unopened_len : (b text : List ℕ) → IsUnopened b text → length b ≡ 8 + length text
    unopened_len b text u =
        omega (arith, ap length u.header.spells, length-append (header u.header.version text) (u.gate ∷ []))

    -- what was read of an unopened file is all of it
    unopened_whole : (text : List ℕ) → IsUnopened (take read bytes) text → take read bytes ≡ bytes
    unopened_whole text u =
        let rest = drop read bytes in
        let whole : bytes ≡ u.head ∷ header u.header.version text ++ (u.gate ∷ rest) =
        sym (take-append-drop read bytes) ∙ ap (λ (b : List ℕ). b ++ rest) u.header.spells
        ∙ append_assoc (u.head ∷ header u.header.version text) (u.gate ∷ []) rest in
        let far = covers u.head text (u.gate ∷ rest)
        (record {
          version = u.header.version;
          known = u.header.known;
          spells = whole;
          short = u.header.short;
          gate = omega arith;
        }) in
        all_read
        (omega (arith, unopened_len (take read bytes) text u, length-take read bytes))

    is_unfinished : IsUnfinished (take read bytes) → IsUnfinished bytes
    is_unfinished (inl short) = inl (omega (arith, length-take read bytes))
    is_unfinished (inr is_zero) =
        inr (sym (slice_get-take read 0 bytes (omega arith)) ∙ is_zero)

    back_unfinished : IsUnfinished bytes → IsUnfinished (take read bytes)
    back_unfinished (inl short) = inl (omega (arith, front_len))
    back_unfinished (inr is_zero) = inr (slice_get-take read 0 bytes (omega arith) ∙ is_zero)

    is_foreign : IsForeign (take read bytes) → IsForeign bytes
    is_foreign (inl lacks) =
        inl (record {
          finished = λ h. lacks.finished (back_unfinished h);
          none = λ head text behind w. let found = header_read head text behind w in
              lacks.none head text found.0 found.1;
        })
    is_foreign (inr lacks) =
        inr (record {
          finished = λ h. lacks.finished (back_unfinished h);
          no_unopened = λ text u. lacks.no_unopened text
              (subst (λ (b : List ℕ). IsUnopened b text)
              (sym (all_read (let far = covers u.head text (u.gate ∷ []) u.header in
              omega (arith, unopened_len bytes text u)))) u);
          closed = λ e. lacks.closed (slice_get-take read 0 bytes (omega arith) ∙ e);
        })

    is_ready : (text : List ℕ) (gate : ℕ) → IsReady (take read bytes) text gate
        → IsReady bytes text gate
    is_ready text gate w =
        let some = w.header.gate in
        let within : gate < length (take read bytes) =
        omega (arith, length-drop gate (take read bytes)) in
        kept_ready (take read bytes) text gate [] gate bytes w
        (holds_none (take read bytes) gate within)
        (same gate within) (omega (arith, front_len))

    pub kinds_of_front : (kind : Kind) → HasKind (take read bytes) kind → HasKind bytes kind
    kinds_of_front unfinished h = is_unfinished h
    kinds_of_front (unopened text) h =
        subst (λ (b : List ℕ). IsUnopened b text) (unopened_whole text h) h
    kinds_of_front foreign h = is_foreign h
    kinds_of_front (ready text gate) h = is_ready text gate h
