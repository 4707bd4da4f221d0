-- The kind of a file by its head gate and what its header is.
use Rattle.std.proofs.Common.{◌≡◌, ◌≢◌, ℕ, ◌+◌, ◌<◌, List, [], ◌∷◌, ◌++◌, length, get_or, Some, false, refl}
use Rattle.std.proofs.Common.{sym, ◌∙◌, ap, subst, arith, inl, inr}
use Rattle.std.proofs.lemmas.List.{get_or_at, length-append}
use Rattle.std.specs.Prelude.{◌==◌, slice_get}
use Rattle.ix_journal.specs.Format.{IsVersion, header}
use Rattle.ix_journal.specs.Kinds.{IsUnfinished, IsUnopened, IsForeign}
use Rattle.ix_journal.specs.inside.Fronts.{BeginsWithHeader}
use Rattle.ix_journal.proofs.HeaderFronts.{header-apart}

pub cons_head : (x y : ℕ) (xs ys : List ℕ) → x ∷ xs ≡ y ∷ ys → x ≡ y
cons_head x y xs ys e = cc

pub cons_tail : (x y : ℕ) (xs ys : List ℕ) → x ∷ xs ≡ y ∷ ys → xs ≡ ys
cons_tail x y xs ys e = cc

pub some_same : (x y : ℕ) → Some x ≡ Some y → x ≡ y
some_same x y e = cc

-- a further byte, and a first byte other than 00
finished : (head : ℕ) (rest : List ℕ) → (head ≡ 0 → ⊥) → (length rest == 0) ≡ false
    → IsUnfinished (head ∷ rest) → ⊥
finished head [] started more h = absurd cc
finished head (x ∷ rest) started more (inl short) = omega arith
finished head (x ∷ rest) started more (inr zero_head) = started (some_same head 0 zero_head)

-- what follows the header is one byte
unopened-of : (head version : ℕ) (text behind : List ℕ) → IsVersion version → (head ≡ 0 → ⊥) → (head ≡ 165 → ⊥)
    → length text < 65536
    → length (head ∷ header version text ++ behind) ≡ 7 + length text + 1
    → (get_or (head ∷ header version text ++ behind) (7 + length text) 0 ≡ 165 → ⊥)
    → IsUnopened (head ∷ header version text ++ behind) text
unopened-of head version text [] known started shut short len closed =
    absurd (omega (arith, length-append (header version text) []))
unopened-of head version text (gate ∷ []) known started shut short len closed =
    record {
      head = head;
      gate = gate;
      header = record { version = version; known = known; spells = refl; short = short; gate = omega arith };
      finished = started;
      unopened = shut;
      closed = λ e. closed (get_or_at (head ∷ header version text) gate [] 0 (7 + length text) (omega arith) ∙ e);
    }
unopened-of head version text (x ∷ y ∷ behind) known started shut short len closed =
    absurd (omega (arith, length-append (header version text) (x ∷ y ∷ behind)))

module _ (bytes : List ℕ) (head : ℕ) (rest : List ℕ) (cut : bytes ≡ head ∷ rest)
    (started : head ≡ 0 → ⊥) (more : (length rest == 0) ≡ false) where
  begun : IsUnfinished bytes → ⊥
  begun h = finished head rest started more (subst IsUnfinished cut h)

  -- no header
  pub foreign_without_header : ((text : List ℕ) → BeginsWithHeader rest text → ⊥) → IsForeign bytes
  foreign_without_header none =
      inl (record {
        finished = begun;
        none = λ h text behind w. none text
            (record {
              version = w.version;
              known = w.known;
              behind = behind;
              spells =
                  cons_tail head h rest (header w.version text ++ behind) (sym cut ∙ w.spells);
              gate = w.gate;
              short = w.short;
            });
      })

  module _ (text : List ℕ) (w : BeginsWithHeader rest text) (shut : head ≡ 165 → ⊥) where
    spelled : bytes ≡ head ∷ header w.version text ++ w.behind
    spelled = cut ∙ ap (λ (r : List ℕ). head ∷ r) w.spells

    -- a header and one closed gate
    pub is_unopened : length bytes ≡ 7 + length text + 1
        → (get_or bytes (7 + length text) 0 ≡ 165 → ⊥) → IsUnopened bytes text
    is_unopened len closed =
        let family : List ℕ → Type 0 = λ b. IsUnopened b text in
        subst family (sym spelled)
        (unopened-of head w.version text w.behind w.known started shut w.short (sym (ap length spelled) ∙ len)
        (λ e. closed (ap (λ (b : List ℕ). get_or b (7 + length text) 0) spelled ∙ e)))

    -- of an unopened file the length and the gate are known
    unopened_knows : (other : List ℕ) → IsUnopened bytes other
        → (length bytes ≡ 7 + length text + 1) × (get_or bytes (7 + length text) 0 ≢ 165)
    unopened_knows other u =
        let tails : header w.version text ++ w.behind ≡ header u.header.version other ++ u.gate ∷ [] =
        sym w.spells
        ∙ cons_tail head u.head rest (header u.header.version other ++ u.gate ∷ []) (sym cut ∙ u.header.spells) in
        let same = header-apart w.version u.header.version text other w.behind (u.gate ∷ []) w.short u.header.short tails in
        let whole : bytes ≡ head ∷ header w.version text ++ u.gate ∷ [] = spelled
        ∙ ap (λ (b : List ℕ). head ∷ header w.version text ++ b) same.1 in (
          ap length whole ∙ omega (arith, length-append (header w.version text) (u.gate ∷ [])),
          λ e. u.closed (sym (get_or_at (head ∷ header w.version text) u.gate [] 0 (7 + length text)
              (omega arith)) ∙ ap (λ (b : List ℕ). get_or b (7 + length text) 0) (sym whole) ∙ e),
        )

    -- neither open nor unopened
    pub foreign_without_gate :
        ((other : List ℕ) → (length bytes ≡ 7 + length text + 1) ×
        (get_or bytes (7 + length text) 0 ≢ 165) → ⊥)
        → IsForeign bytes
    foreign_without_gate differs =
        inr (record {
          finished = begun;
          no_unopened = λ other u. differs other (unopened_knows other u);
          closed = λ e. shut (some_same head 165 (ap (λ (b : List ℕ). slice_get b 0) (sym cut) ∙ e));
        })
