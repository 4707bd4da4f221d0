-- Marks of the moves that have an edge, and the numbers of atoms that are gone.
use Rattle.std.proofs.Common.{◌≡◌, ◌≢◌, ◌↔◌, inl, inr, ℕ, ◌+◌, ◌<◌, Bool, true, false, List, [], ◌∷◌, ◌++◌, length, set, replicate, refl, sym, ap, ◌∙◌, subst, true≢false, arith, map, filter}
use Rattle.std.proofs.lemmas.Bool.{cases_eq}
use Rattle.std.proofs.lemmas.List.{get_or-set_same, get_or-set_other, map-append, get_or-replicate}
use Rattle.std.proofs.lemmas.List.Elements.{filter-append}
use Rattle.ix_words.specs.Each.{Each, no_item, item, Member, here, there}
use Rattle.ix_words.proofs.Each.{Each-append, Member-left, Member-right, Member-either}
use Rattle.ix_values.specs.PlainAction.{PlainAction, Word}
use Rattle.ix_expr.specs.Form.{PlainAtom}
use Rattle.ix_stuck.specs.declared.graph.Edge.{Edge}
use Rattle.ix_stuck.specs.inside.Coming.{IsUsed, HasEdgeBy}
use Rattle.ix_stuck.specs.inside.Graphs.{At}
use Rattle.ix_stuck.specs.inside.Marks.{mark_at}
use Rattle.ix_stuck.specs.inside.Matching.{matches_none, gone_of}
use Rattle.ix_stuck.proofs.Places.{at_same}

pub gone_append : (w : Word) (xs ys : List (ℕ × PlainAtom)) → gone_of w (xs ++ ys) ≡ gone_of w xs ++ gone_of w ys
gone_append w xs ys = ap (map (λ (place : ℕ × PlainAtom). place.0)) (filter-append (matches_none w) xs ys) ∙ map-append (λ (place : ℕ × PlainAtom). place.0) (filter (matches_none w) xs) (filter (matches_none w) ys)

-- no edge yet
pub none_used : (marks : List Bool) (count : ℕ) → marks ≡ replicate count false → (k : ℕ) → k < count → (mark_at marks k ≡ true) ↔ IsUsed [] k
none_used marks count are k below = (
  λ m. absurd (true≢false (sym m ∙ ap (λ w. mark_at w k) are ∙ get_or-replicate count k false false below)),
  λ u. elim u.among [ ],
)

-- one edge more
used_before : (edges : List Edge) (e : Edge) (k : ℕ) → IsUsed edges k → IsUsed (edges ++ e ∷ []) k
used_before edges e k u = record { edge = u.edge; among = Member-left u.among (e ∷ []); by = u.by }

used_last : (edges : List Edge) (e : Edge) (k : ℕ) → e.by ≡ k → IsUsed (edges ++ e ∷ []) k
used_last edges e k is = record { edge = e; among = Member-right edges here; by = is }

only_item : {A : Type 0} {a b : A} → Member a (b ∷ []) → a ≡ b
only_item here = refl
only_item (there m) = elim m [ ]

used_other : (edges : List Edge) (e : Edge) (k : ℕ) → e.by ≢ k → IsUsed (edges ++ e ∷ []) k → IsUsed edges k
used_other edges e k differ u = elim (Member-either edges (e ∷ []) u.among) [
  | inl m ↦ record { edge = u.edge; among = m; by = u.by }
  | inr m ↦ absurd (differ (ap (λ (f : Edge). f.by) (sym (only_item m)) ∙ u.by))
]

-- the marks after it
pub used_more : (marks : List Bool) (edges : List Edge) (e : Edge) (count : ℕ) → length marks ≡ count → ((k : ℕ) → k < count → (mark_at marks k ≡ true) ↔ IsUsed edges k)
    → (k : ℕ) → k < count → (mark_at (set marks e.by true) k ≡ true) ↔ IsUsed (edges ++ e ∷ []) k
used_more marks edges e count long h k below = elim (cases_eq e.by k) [
  | inl same ↦ (
    λ _. used_last edges e k same,
    λ _. subst (λ j. mark_at (set marks j true) k ≡ true) (sym same) (get_or-set_same marks k true false (omega (arith, long, below))),
  )
  | inr differ ↦ (
    λ m. used_before edges e k ((h k below).0 (sym (get_or-set_other marks e.by k true false (λ same. differ (sym same))) ∙ m)),
    λ u. get_or-set_other marks e.by k true false (λ same. differ (sym same)) ∙ (h k below).1 (used_other edges e k differ u),
  )
]

-- The actions of the moves that have an edge

pub record ComingTo (moves : Word) (edges : List Edge) (n : ℕ) (coming : Word) : Type 0 where
  pub only : Each (HasEdgeBy moves edges) coming
  pub all : (k : ℕ) (a : PlainAction) → k < n → At moves k a → IsUsed edges k → Member a coming

pub none_yet : (moves : Word) (edges : List Edge) (coming : Word) → coming ≡ [] → ComingTo moves edges 0 coming
none_yet moves edges coming is = record {
  only = subst (Each (HasEdgeBy moves edges)) (sym is) no_item;
  all = λ k a below at used. absurd (omega arith);
}

module _ (moves : Word) (edges : List Edge) (n : ℕ) (coming : Word) (a : PlainAction) (c : ComingTo moves edges n coming) (at : At moves n a) where
  pub one_coming : IsUsed edges n → ComingTo moves edges (n + 1) (coming ++ a ∷ [])
  one_coming used = record {
    only = Each-append c.only (item (record { number = n; at = at; used = used }) no_item);
    all = λ k b below there used. elim (cases_eq k n) [
      | inl same ↦ Member-right coming (subst (λ d. Member d (a ∷ [])) (at_same at (subst (λ j. At moves j b) same there)) here)
      | inr differ ↦ Member-left (c.all k b (omega (arith, below, differ)) there used) (a ∷ [])
    ];
  }

  pub not_coming : ¬ IsUsed edges n → ComingTo moves edges (n + 1) coming
  not_coming unused = record {
    only = c.only;
    all = λ k b below there used. elim (cases_eq k n) [
      | inl same ↦ absurd (unused (subst (IsUsed edges) same used))
      | inr differ ↦ c.all k b (omega (arith, below, differ)) there used
    ];
  }
