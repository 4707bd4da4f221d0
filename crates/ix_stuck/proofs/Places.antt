-- Items at their places.
use Rattle.std.proofs.Common.{◌≡◌, ℕ, suc, ◌<◌, List, [], ◌∷◌, ◌++◌, length, refl, sym, ◌∙◌, subst, arith}
use Prim.Native.Nat.{zero}
use Rattle.std.proofs.lemmas.List.{get_or_default, get_or_append_left, length-append}
use Rattle.ix_words.specs.Each.{Each, Member, here, there}
use Rattle.ix_words.proofs.Each.{Each-member}
use Rattle.ix_stuck.specs.inside.Graphs.{At}

-- a place has one item
pub at_same : {A : Type 0} {xs : List A} {i : ℕ} {a b : A} → At xs i a → At xs i b → a ≡ b
at_same {xs = xs} {i = i} {a = a} {b = b} p q = p.is ∙ get_or_default xs i a b p.within ∙ sym q.is

-- an item at a place is among them
pub among : {A : Type 0} (xs : List A) (i : ℕ) (a : A) → At xs i a → Member a xs
among [] i a p = let w = p.within in absurd (omega arith)
among (x ∷ xs) zero a p = subst (λ b. Member b (x ∷ xs)) (sym p.is) here
among (x ∷ xs) (suc i) a p = there (among xs i a (record { within = let w = p.within in omega arith; is = p.is }))

pub each_at : {A : Type 0} {G : A → Type 0} {xs : List A} {i : ℕ} {a : A} → Each G xs → At xs i a → G a
each_at {xs = xs} {i = i} {a = a} e p = Each-member e (among xs i a p)

-- an item has a place
pub record Placed {A : Type 0} (xs : List A) (a : A) : Type 0 where
  pub place : ℕ
  pub at : At xs place a

pub placed : {A : Type 0} {a : A} {xs : List A} → Member a xs → Placed xs a
placed {xs = []} m = elim m [ ]
placed {a = a} {xs = x ∷ xs} here = record { place = 0; at = record { within = omega arith; is = refl } }
placed {a = a} {xs = x ∷ xs} (there m) = let p = placed m in record { place = suc p.place; at = record { within = let w = p.at.within in omega arith; is = p.at.is } }

-- it keeps it where more items come behind
pub at_left : {A : Type 0} {xs : List A} {i : ℕ} {a : A} (ys : List A) → At xs i a → At (xs ++ ys) i a
at_left {xs = xs} {i = i} {a = a} ys p = record {
  within = let w = p.within in omega (arith, length-append xs ys);
  is = p.is ∙ sym (get_or_append_left xs ys a i p.within);
}

-- and what stands there was there, where the place is one of those before
pub at_front : {A : Type 0} {xs : List A} {i : ℕ} {a : A} (ys : List A) → i < length xs → At (xs ++ ys) i a → At xs i a
at_front {xs = xs} {i = i} {a = a} ys within p = record { within = within; is = p.is ∙ get_or_append_left xs ys a i within }
