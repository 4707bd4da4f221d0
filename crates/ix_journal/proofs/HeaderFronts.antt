-- Bytes that begin with a header.
use Rattle.std.proofs.Common.{◌≡◌, ℕ, ◌+◌, ◌-◌, ◌<◌, List, ◌∷◌, ◌++◌, length, take, drop, Option, Some, None, Bool}
use Rattle.std.proofs.Common.{true, false, MatchOption, Bor, refl, sym, ◌∙◌, ap, subst, arith, inl, inr, true≢false}
use Rattle.std.proofs.lemmas.Bool.Decides.{Decides-eqb}
use Rattle.std.proofs.lemmas.List.{take_rest}
use Rattle.std.proofs.lemmas.Slice.Eq.{starts_is}
use Rattle.std.specs.Prelude.{codes, nat_eq}
use Rattle.std.specs.List.{starts_with}
use Rattle.ix_journal.specs.Format.{IsVersion, header}
use Rattle.ix_journal.specs.inside.Fronts.{BeginsWithText, BeginsWithMagic, BeginsWithHeader}
use Rattle.ix_journal.proofs.TextFronts.{with_length-apart}

-- behind the magic, a text with its length makes a header
header_from_text : (bytes text : List ℕ) → BeginsWithMagic bytes
    → BeginsWithText (drop 4 bytes) text → BeginsWithHeader bytes text
header_from_text bytes text magic w =
    record {
      version = magic.version;
      known = magic.known;
      behind = w.behind;
      spells = magic.spells
          ∙ ap (λ (rest : List ℕ). codes "IXJ" ++ magic.version ∷ rest) w.spells;
      gate = w.gate;
      short = w.short;
    }

-- a header is a text with its length behind the magic
text_from_header : (bytes text : List ℕ) → BeginsWithHeader bytes text → BeginsWithText (drop 4 bytes) text
text_from_header bytes text w =
    record { behind = w.behind; spells = ap (drop 4) w.spells; gate = w.gate; short = w.short }

-- a header begins with the magic
pub magic_from_header : (bytes text : List ℕ) → BeginsWithHeader bytes text → BeginsWithMagic bytes
magic_from_header bytes text w =
    record {
      version = w.version;
      known = w.known;
      spells = w.spells
          ∙ ap (λ (rest : List ℕ). codes "IXJ" ++ w.version ∷ rest) (sym (ap (drop 4) w.spells));
    }

-- the magic of version 1
pub first_magic : (bytes : List ℕ) (r : Bool) → r ≡ starts_with nat_eq bytes (codes "IXJ1") → r ≡ true
    → BeginsWithMagic bytes
first_magic bytes r starts passed = record {
  version = 49;
  known = inl refl;
  spells = (starts_is Decides-eqb bytes (codes "IXJ1") r starts).0 passed;
}

-- the magic of version 2
pub second_magic : (bytes : List ℕ) (r : Bool) → r ≡ starts_with nat_eq bytes (codes "IXJ2") → r ≡ true
    → BeginsWithMagic bytes
second_magic bytes r starts passed = record {
  version = 50;
  known = inr (inl refl);
  spells = (starts_is Decides-eqb bytes (codes "IXJ2") r starts).0 passed;
}

-- without the magic of versions 1 and 2 there is that of version 3, or none
pub third_magic : (bytes : List ℕ) (q r s : Bool) → q ≡ starts_with nat_eq bytes (codes "IXJ1")
    → r ≡ starts_with nat_eq bytes (codes "IXJ2") → s ≡ starts_with nat_eq bytes (codes "IXJ3")
    → q ≡ false → r ≡ false
    → (s ≡ true → BeginsWithMagic bytes) × (BeginsWithMagic bytes → s ≡ true)
third_magic bytes q r s first second third failed also = (
  λ passed. record {
    version = 51;
    known = inr (inr refl);
    spells = (starts_is Decides-eqb bytes (codes "IXJ3") s third).0 passed;
  },
  λ w. known-of w.version w.known w.spells,
)
  where
    known-of : (version : ℕ) → IsVersion version → bytes ≡ codes "IXJ" ++ version ∷ drop 4 bytes → s ≡ true
    known-of version (inl one) spells =
        absurd (true≢false (sym ((starts_is Decides-eqb bytes (codes "IXJ1") q first).1 (drop 4 bytes)
        (spells ∙ ap (λ (v : ℕ). codes "IXJ" ++ v ∷ drop 4 bytes) one)) ∙ failed))
    known-of version (inr (inl two)) spells =
        absurd (true≢false (sym ((starts_is Decides-eqb bytes (codes "IXJ2") r second).1 (drop 4 bytes)
        (spells ∙ ap (λ (v : ℕ). codes "IXJ" ++ v ∷ drop 4 bytes) two)) ∙ also))
    known-of version (inr (inr three)) spells =
        (starts_is Decides-eqb bytes (codes "IXJ3") s third).1 (drop 4 bytes)
        (spells ∙ ap (λ (v : ℕ). codes "IXJ" ++ v ∷ drop 4 bytes) three)

-- what is found behind the magic is found of the header
pub header_found : (bytes : List ℕ) (found : Option (Bor (List ℕ))) → BeginsWithMagic bytes
    → MatchOption found ((text : List ℕ)
    → BeginsWithText (take (length bytes - 4) (drop 4 bytes)) text → ⊥)
    (λ text. BeginsWithText (take (length bytes - 4) (drop 4 bytes)) text.now)
    → MatchOption found ((text : List ℕ) → BeginsWithHeader bytes text → ⊥)
    (λ text. BeginsWithHeader bytes text.now)
header_found bytes None magic none =
    λ text w. none text (subst (λ (rest : List ℕ). BeginsWithText rest text)
    (sym (take_rest bytes 4)) (text_from_header bytes text w))
header_found bytes (Some text) magic some =
    header_from_text bytes text.now magic
    (subst (λ (rest : List ℕ). BeginsWithText rest text.now) (take_rest bytes 4) some)

-- headers are told apart
pub header-apart : (v w : ℕ) (x y r s : List ℕ) → length x < 65536 → length y < 65536
    → header v x ++ r ≡ header w y ++ s → (x ≡ y) × (r ≡ s)
header-apart v w x y r s short_x short_y e = with_length-apart x y r s short_x short_y (ap (drop 4) e)

-- how long a header is
pub length-header : (version : ℕ) (text : List ℕ) → length (header version text) ≡ 6 + length text
length-header version text = omega arith
