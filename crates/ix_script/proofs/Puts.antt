-- A text that is put in two puts.
use Rattle.std.proofs.Common.{◌≡◌, ℕ, List, [], ◌∷◌, ◌++◌, Option, Some, None, Result, Ok, Err, OnErr, refl, sym, ap, ◌∙◌, append_assoc}
use Rattle.std.specs.Io.KnownBytes.{append_known}
use Rattle.ix_outside.specs.Sink.{AppendsPart}

-- the first put failed
pub first_part : (old new : Option (List ℕ)) (digits bytes front : List ℕ) → front ≡ digits ++ 32 ∷ [] → AppendsPart old front new → AppendsPart old (digits ++ 32 ∷ bytes) new
first_part old new digits bytes front is (part, (rest, split), after) =
    (part, (rest ++ bytes, sym (append_assoc part rest bytes) ∙ ap (λ t. t ++ bytes) (split ∙ is) ∙ append_assoc digits (32 ∷ []) bytes), after)

known-twice : (old : Option (List ℕ)) (x y : List ℕ) → append_known (append_known old x) y ≡ append_known old (x ++ y)
known-twice None x y = refl
known-twice (Some z) x y = ap Some (append_assoc z x y)

-- the second put failed
pub second_part : {T E : Type 0} (r : Result T E) (old now new : Option (List ℕ)) (digits bytes : List ℕ) → now ≡ append_known old (digits ++ 32 ∷ []) → OnErr r (AppendsPart now bytes new)
    → OnErr r (AppendsPart old (digits ++ 32 ∷ bytes) new)
second_part (Ok done) old now new digits bytes put part = part
second_part (Err fault) old now new digits bytes put (part, (rest, split), after) = (
  (digits ++ 32 ∷ []) ++ part,
  (rest, append_assoc (digits ++ 32 ∷ []) part rest ∙ ap (λ t. (digits ++ 32 ∷ []) ++ t) split ∙ append_assoc digits (32 ∷ []) bytes),
  after ∙ ap (λ t. append_known t part) put ∙ known-twice old (digits ++ 32 ∷ []) part,
)
