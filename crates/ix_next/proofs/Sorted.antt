-- The canonical list, and the list of what stands once, item by item.
use Rattle.std.proofs.Common.{◌≡◌, ℕ, ◌+◌, ◌<◌, suc, cond, List, [], ◌∷◌, ◌++◌, length, take, get_or, sym, ap, ◌∙◌, arith}
use Rattle.std.proofs.Math.Seq.{take-suc}
use Rattle.std.specs.List.{list_any}
use Rattle.ix_words.specs.Canon.{canon, put_once}
use Rattle.ix_words.proofs.Canon.{canon-end}
use Rattle.ix_values.specs.Order.{text_cmp, text_eq}
use Rattle.ix_next.specs.Candidates.{once}
use Rattle.ix_next.proofs.Terms.{text_order}
use Rattle.ix_next.proofs.Once.{texts_push}

-- one more item is taken
pub taken : {A : Type 0} (w : List A) (i : ℕ) (a : A) → i < length w → a ≡ get_or w i a → take (i + 1) w ≡ take i w ++ a ∷ []
taken w i a below at =
    let one : i + 1 ≡ suc i = omega arith in
    ap (λ n. take n w) one ∙ take-suc w i a below ∙ ap (λ b. take i w ++ b ∷ []) (sym at)

pub canon_taken : (w : List (List ℕ)) (i : ℕ) (v : List ℕ) → i < length w → v ≡ get_or w i v → canon text_cmp (take (i + 1) w) ≡ put_once text_cmp v (canon text_cmp (take i w))
canon_taken w i v below at = ap (canon text_cmp) (taken w i v below at) ∙ canon-end text_order (take i w) v

pub once_taken : (w : List (List ℕ)) (i : ℕ) (v : List ℕ) → i < length w → v ≡ get_or w i v
    → once text_eq (take (i + 1) w) ≡ cond (list_any (text_eq v) (once text_eq (take i w))) (once text_eq (take i w)) (once text_eq (take i w) ++ v ∷ [])
once_taken w i v below at = ap (once text_eq) (taken w i v below at) ∙ texts_push (take i w) v
