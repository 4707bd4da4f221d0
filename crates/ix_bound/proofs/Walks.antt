-- Where a walk comes to, from where it comes to over the parts.
use Rattle.std.proofs.Common.{◌≡◌, ◌⊎◌, inl, inr, ◌+◌, ℕ, suc, List, [], ◌∷◌, ◌++◌, length, Option, Some, None, sym, ap, ◌∙◌, subst, arith}
use Rattle.ix_expr.specs.declared.expr.Expr.{Expr}
use Rattle.ix_bound.specs.declared.walk.Walked.{Walked}
use Rattle.ix_bound.specs.declared.walk.Walked.TheVariants.{Passed, Refused}
use Rattle.ix_bound.specs.Refusals.{first_refused}
use Rattle.ix_bound.specs.inside.Walked.{WalksTo}

-- of an expression that is one of the five with two operands
pub two : {e : Expr} (P : Expr → Type 0) {a b c d f : Expr} → P a → P b → P c → P d → P f → (e ≡ a) ⊎ ((e ≡ b) ⊎ ((e ≡ c) ⊎ ((e ≡ d) ⊎ (e ≡ f)))) → P e
two P a b c d f (inl x) = subst P (sym x) a
two P a b c d f (inr (inl x)) = subst P (sym x) b
two P a b c d f (inr (inr (inl x))) = subst P (sym x) c
two P a b c d f (inr (inr (inr (inl x)))) = subst P (sym x) d
two P a b c d f (inr (inr (inr (inr x)))) = subst P (sym x) f

one_more : (n : ℕ) → n + 1 ≡ suc n
one_more n = omega arith

-- the node itself is refused
pub refused_here : (c : Option ℕ) (codes : List (Option ℕ)) (n code : ℕ) → c ≡ Some code → first_refused n (c ∷ codes) ≡ Some (code, n)
refused_here c codes n code e = ap (λ x. first_refused n (x ∷ codes)) e

from_next : (codes : List (Option ℕ)) (n : ℕ) (r : Walked) → WalksTo codes (suc n) r → WalksTo (None ∷ codes) n r
from_next codes n (Passed next) h = (h.0, omega (arith, h.1))
from_next codes n (Refused code node) h = h

-- the node itself isn't refused
pub walked_one : (c : Option ℕ) (codes : List (Option ℕ)) (n : ℕ) (r : Walked) → c ≡ None → WalksTo codes (n + 1) r → WalksTo (c ∷ codes) n r
walked_one c codes n r e h = subst (λ x. WalksTo (x ∷ codes) n r) (sym e) (from_next codes n r (subst (λ m. WalksTo codes m r) (one_more n) h))

-- the first of two parts is passed
behind : (xs ys : List (Option ℕ)) (n : ℕ) → first_refused n xs ≡ None → first_refused n (xs ++ ys) ≡ first_refused (n + length xs) ys
behind [] ys n e = ap (λ m. first_refused m ys) (omega arith)
behind (None ∷ xs) ys n e = behind xs ys (suc n) e ∙ ap (λ m. first_refused m ys) (omega arith)
behind (Some c ∷ xs) ys n e = cc

before : (xs ys : List (Option ℕ)) (n code node : ℕ) → first_refused n xs ≡ Some (code, node) → first_refused n (xs ++ ys) ≡ Some (code, node)
before [] ys n code node e = cc
before (None ∷ xs) ys n code node e = before xs ys (suc n) code node e
before (Some c ∷ xs) ys n code node e = e

pub length_append : {A : Type 0} (xs ys : List A) → length (xs ++ ys) ≡ length xs + length ys
length_append [] ys = omega arith
length_append (x ∷ xs) ys = omega (arith, length_append xs ys)

joined : (xs ys : List (Option ℕ)) (n m : ℕ) (r : Walked) → first_refused n xs ≡ None → m ≡ n + length xs → WalksTo ys m r → WalksTo (xs ++ ys) n r
joined xs ys n m (Passed next) e k h = (
  behind xs ys n e ∙ ap (λ j. first_refused j ys) (sym k) ∙ h.0,
  omega (arith, h.1, k, length_append xs ys),
)
joined xs ys n m (Refused code node) e k h = behind xs ys n e ∙ ap (λ j. first_refused j ys) (sym k) ∙ h

-- neither the node nor its left part has a refused one
pub walked_two : (c : Option ℕ) (xs ys : List (Option ℕ)) (n m : ℕ) (r : Walked) → c ≡ None → first_refused (n + 1) xs ≡ None → m ≡ n + 1 + length xs → WalksTo ys m r → WalksTo (c ∷ (xs ++ ys)) n r
walked_two c xs ys n m r e f k h = walked_one c (xs ++ ys) n r e (joined xs ys (n + 1) m r f k h)

-- the left part has one
pub refused_before : (c : Option ℕ) (xs ys : List (Option ℕ)) (n code node : ℕ) → c ≡ None → first_refused (n + 1) xs ≡ Some (code, node) → first_refused n (c ∷ (xs ++ ys)) ≡ Some (code, node)
refused_before c xs ys n code node e f = ap (λ x. first_refused n (x ∷ (xs ++ ys))) e ∙ before xs ys (suc n) code node (ap (λ m. first_refused m xs) (sym (one_more n)) ∙ f)
