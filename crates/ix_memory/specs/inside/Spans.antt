-- Texts in one list of bytes, each by its two ends.
use Rattle.std.specs.Prelude.{ℕ, ◌-◌, ◌≤◌, List, [], ◌∷◌, take, drop, ⊤}
use Rattle.ix_memory.specs.declared.sent.Span.{Span}

-- the bytes between the two ends
abbrev pub text_at : List ℕ → Span → List ℕ
text_at bytes span = take (span.end - span.start) (drop span.start bytes)

-- the ends are in order and within so many bytes
pub record IsSpanWithin (count : ℕ) (span : Span) : Type 0 where
  pub in_order : span.start ≤ span.end
  pub within : span.end ≤ count

-- each of them is within so many bytes
abbrev pub AreWithin : ℕ → List Span → Type 0
AreWithin count [] = ⊤
AreWithin count (span ∷ spans) = IsSpanWithin count span × AreWithin count spans
