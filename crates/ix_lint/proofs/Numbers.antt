-- Numbered lists, and what a search through the nodes of two operands comes to.
use Rattle.std.proofs.Common.{◌≡◌, ◌⊎◌, inl, inr, ℕ, suc, ◌+◌, List, [], ◌∷◌, ◌++◌, Some, None, length, refl, sym, ap, ◌∙◌, subst, append_assoc, arith}
use Rattle.std.specs.List.{flat_map}
use Rattle.ix_words.proofs.Canon.{flat_map-append}
use Rattle.ix_expr.specs.declared.expr.Expr.{Expr}
use Rattle.ix_lint.specs.declared.owners.Partner.{Partner}
use Rattle.ix_lint.specs.declared.owners.Partner.TheVariants as partner
use Rattle.ix_lint.specs.declared.owners.Pair.{Pair}
use Rattle.ix_lint.specs.declared.owners.Pair.TheVariants as pair
use Rattle.ix_lint.specs.Nodes.{Spot, numbered, first}
use Rattle.ix_lint.specs.Owners.{Held, partners, pairs}
use Rattle.ix_lint.specs.inside.Search.{IsPartner, IsPair}

-- of an expression that is one of the five with two operands
pub two : {e : Expr} (P : Expr → Type 0) {a b c d f : Expr} → P a → P b → P c → P d → P f → (e ≡ a) ⊎ ((e ≡ b) ⊎ ((e ≡ c) ⊎ ((e ≡ d) ⊎ (e ≡ f)))) → P e
two P a b c d f (inl x) = subst P (sym x) a
two P a b c d f (inr (inl x)) = subst P (sym x) b
two P a b c d f (inr (inr (inl x))) = subst P (sym x) c
two P a b c d f (inr (inr (inr (inl x)))) = subst P (sym x) d
two P a b c d f (inr (inr (inr (inr x)))) = subst P (sym x) f

pub length_append : {A : Type 0} (xs ys : List A) → length (xs ++ ys) ≡ length xs + length ys
length_append [] ys = omega arith
length_append (x ∷ xs) ys = omega (arith, length_append xs ys)

numbered-append : {A : Type 0} (n m : ℕ) (xs ys : List A) → m ≡ n + length xs → numbered n (xs ++ ys) ≡ numbered n xs ++ numbered m ys
numbered-append n m [] ys e = ap (λ k. numbered k ys) (omega arith)
numbered-append n m (x ∷ xs) ys e = ap (λ w. (n, x) ∷ w) (numbered-append (n + 1) m xs ys (omega arith))

-- what is made of the nodes of both operands
pub made_of_two : {A B : Type 0} (f : ℕ × A → List B) (n m : ℕ) (xs ys : List A) → m ≡ n + length xs → flat_map f (numbered n (xs ++ ys)) ≡ flat_map f (numbered n xs) ++ flat_map f (numbered m ys)
made_of_two f n m xs ys e = ap (flat_map f) (numbered-append n m xs ys e) ∙ flat_map-append f (numbered n xs) (numbered m ys)

-- two parts put behind what is there
pub put_both : {A : Type 0} (old mid new a b whole : List A) → mid ≡ old ++ a → new ≡ mid ++ b → whole ≡ a ++ b → new ≡ old ++ whole
put_both old mid new a b whole h k e = k ∙ ap (λ w. w ++ b) h ∙ append_assoc old a b ∙ ap (λ w. old ++ w) (sym e)

first_left : {A : Type 0} (xs ys : List A) {x : A} → first xs ≡ Some x → first (xs ++ ys) ≡ Some x
first_left [] ys e = absurd (cc)
first_left (x ∷ xs) ys e = e

first_right : {A : Type 0} (xs ys : List A) → first xs ≡ None → first (xs ++ ys) ≡ first ys
first_right [] ys e = refl
first_right (x ∷ xs) ys e = absurd (cc)

-- Searches for a partner

pub found_left : (p : List ℕ) (s : Held) (n k : ℕ) (xs ys : List Spot) → first (partners p s (numbered (n + 1) xs)) ≡ Some k → first (partners p s (numbered (n + 1) (xs ++ ys))) ≡ Some k
found_left p s n k xs ys h =
    ap first (made_of_two _ (n + 1) (n + 1 + length xs) xs ys refl) ∙ first_left (partners p s (numbered (n + 1) xs)) (partners p s (numbered (n + 1 + length xs) ys)) h

pub found_right : (p : List ℕ) (s : Held) (n m : ℕ) (xs ys : List Spot) (r : Partner) → first (partners p s (numbered (n + 1) xs)) ≡ None → m ≡ n + 1 + length xs → IsPartner (partners p s (numbered m ys)) m (length ys) r →
    IsPartner (partners p s (numbered (n + 1) (xs ++ ys))) n (suc (length (xs ++ ys))) r
found_right p s n m xs ys r h e k = moved r k
  where
    both : first (partners p s (numbered (n + 1) (xs ++ ys))) ≡ first (partners p s (numbered m ys))
    both = ap first (made_of_two _ (n + 1) m xs ys e) ∙ first_right (partners p s (numbered (n + 1) xs)) (partners p s (numbered m ys)) h

    moved : (r : Partner) → IsPartner (partners p s (numbered m ys)) m (length ys) r → IsPartner (partners p s (numbered (n + 1) (xs ++ ys))) n (suc (length (xs ++ ys))) r
    moved (partner.Found node) k = both ∙ k
    moved (partner.Behind next) k = (both ∙ k.0, omega (arith, k.1, e, length_append xs ys))

-- and for a pair

pub pair_left : (p : List ℕ) (others : List (ℕ × Spot)) (n k l : ℕ) (xs ys : List Spot) → first (pairs p others (numbered (n + 1) xs)) ≡ Some (k, l) → first (pairs p others (numbered (n + 1) (xs ++ ys))) ≡ Some (k, l)
pair_left p others n k l xs ys h =
    ap first (made_of_two _ (n + 1) (n + 1 + length xs) xs ys refl) ∙ first_left (pairs p others (numbered (n + 1) xs)) (pairs p others (numbered (n + 1 + length xs) ys)) h

pub pair_right : (p : List ℕ) (others : List (ℕ × Spot)) (n m : ℕ) (xs ys : List Spot) (r : Pair) → first (pairs p others (numbered (n + 1) xs)) ≡ None → m ≡ n + 1 + length xs → IsPair (pairs p others (numbered m ys)) m (length ys) r →
    IsPair (pairs p others (numbered (n + 1) (xs ++ ys))) n (suc (length (xs ++ ys))) r
pair_right p others n m xs ys r h e k = moved r k
  where
    both : first (pairs p others (numbered (n + 1) (xs ++ ys))) ≡ first (pairs p others (numbered m ys))
    both = ap first (made_of_two _ (n + 1) m xs ys e) ∙ first_right (pairs p others (numbered (n + 1) xs)) (pairs p others (numbered m ys)) h

    moved : (r : Pair) → IsPair (pairs p others (numbered m ys)) m (length ys) r → IsPair (pairs p others (numbered (n + 1) (xs ++ ys))) n (suc (length (xs ++ ys))) r
    moved (pair.Found k l) h = both ∙ h
    moved (pair.Behind next) h = (both ∙ h.0, omega (arith, h.1, e, length_append xs ys))
