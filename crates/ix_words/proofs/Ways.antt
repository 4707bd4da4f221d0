-- All ways to cut and to split a list, and those of a list with one more item.
use Rattle.std.proofs.Common.{◌≡◌, inl, inr, suc, Bool, true, false, not, List, [], ◌∷◌, ◌++◌, length, map, flat_map, refl, sym, ap, ◌∙◌, subst, arith}
use Rattle.ix_words.specs.Each.{Member, here, there}
use Rattle.ix_words.specs.Parts.{part}
use Rattle.ix_words.specs.Words.{Joined, Split}
use Rattle.ix_words.specs.Canon.{SameMembers, cuts, splits, with_start, with_end, give_start, give_end}
use Rattle.ix_words.proofs.Canon.{Member-cases, Member-same, SameMembers-refl, SameMembers-eq, SameMembers-trans, SameMembers-append, SameMembers-swap, SameMembers-flat_map, Member-map, map-Member, Member-flat_map, flat_map-Member, flat_map-flat_map}

swapped_middle : {B : Type 0} (w x y z : B) → SameMembers (w ∷ x ∷ y ∷ z ∷ []) (w ∷ y ∷ x ∷ z ∷ [])
swapped_middle w x y z =
    SameMembers-append
    (SameMembers-refl (w ∷ []))
    (SameMembers-append (SameMembers-swap (x ∷ []) (y ∷ [])) (SameMembers-refl (z ∷ [])))

module _ {A : Type 0} where
  pub cut_among : (w front back : List A) → w ≡ front ++ back → Member (front, back) (cuts w)
  cut_among [] [] back e = Member-same [] (ap (λ (b : List A). ([], b)) (sym e))
  cut_among [] (x ∷ front) back e = absurd (cc)
  cut_among (a ∷ w) [] back e = Member-same _ (ap (λ (b : List A). ([], b)) (sym e))
  cut_among (a ∷ w) (x ∷ front) back e =
      let first : a ≡ x = cc in
      let rest : w ≡ front ++ back = cc in
      let P : List A × List A → Type 0 = λ p. Member p (cuts (a ∷ w)) in
      subst P (ap (λ y. (y ∷ front, back)) first) (there (map-Member (with_start a) (cut_among w front back rest)))

  pub cut_is : (w : List A) (p : List A × List A) → Member p (cuts w) → w ≡ p.0 ++ p.1
  cut_is [] p m = elim (Member-cases m) [ inl e ↦ ap (λ (q : List A × List A). q.0 ++ q.1) (sym e) | inr n ↦ elim n [ ] ]
  cut_is (a ∷ w) p m =
      elim (Member-cases m) [
        | inl e ↦ ap (λ (q : List A × List A). q.0 ++ q.1) (sym e)
        | inr n ↦
            let k = Member-map (with_start a) (cuts w) n in
            ap (λ x. a ∷ x) (cut_is w k.0 k.1) ∙ ap (λ (q : List A × List A). q.0 ++ q.1) (sym k.2)
      ]

  pub split_among : (marks : List Bool) (w : List A) → length marks ≡ length w → Member (part (λ mark. mark) marks w, part not marks w) (splits w)
  split_among [] [] e = here
  split_among [] (a ∷ w) e = absurd (omega arith)
  split_among (m ∷ marks) [] e = absurd (omega arith)
  split_among (true ∷ marks) (a ∷ w) e = flat_map-Member (give_start a) (split_among marks w (omega arith)) here
  split_among (false ∷ marks) (a ∷ w) e = flat_map-Member (give_start a) (split_among marks w (omega arith)) (there here)

  -- marks of which p is the split
  pub record Marked (w : List A) (p : List A × List A) : Type 0 where
    pub marks : List Bool
    pub as_long : length marks ≡ length w
    pub left_is : part (λ mark. mark) marks w ≡ p.0
    pub right_is : part not marks w ≡ p.1

  pub split_is : (w : List A) (p : List A × List A) → Member p (splits w) → Marked w p
  split_is [] p m =
      elim (Member-cases m) [
        | inl e ↦ record { marks = []; as_long = refl; left_is = ap (λ (q : List A × List A). q.0) (sym e); right_is = ap (λ (q : List A × List A). q.1) (sym e) }
        | inr n ↦ elim n [ ]
      ]
  split_is (a ∷ w) p m =
      let k = Member-flat_map (give_start a) (splits w) m in
      let r = split_is w k.0 k.1 in
      elim (Member-cases k.2) [
        | inl e ↦ record {
          marks = true ∷ r.marks;
          as_long = ap suc r.as_long;
          left_is = ap (λ x. a ∷ x) r.left_is ∙ ap (λ (q : List A × List A). q.0) (sym e);
          right_is = r.right_is ∙ ap (λ (q : List A × List A). q.1) (sym e);
        }
        | inr n ↦ elim (Member-cases n) [
          | inl e ↦ record {
            marks = false ∷ r.marks;
            as_long = ap suc r.as_long;
            left_is = r.left_is ∙ ap (λ (q : List A × List A). q.0) (sym e);
            right_is = ap (λ x. a ∷ x) r.right_is ∙ ap (λ (q : List A × List A). q.1) (sym e);
          }
          | inr o ↦ elim o [ ]
        ]
      ]

  -- a word is split so that its parts have Q and R exactly where one of its splits has them
  pub split_from_ways : {Q R : List A → Type 0} (w : List A) (p : List A × List A) → Member p (splits w) → Q p.0 → R p.1 → Split Q R w
  split_from_ways {Q} {R} w p m q r =
      let k = split_is w p m in
      record {
        marks = k.marks;
        as_long = k.as_long;
        left_has = subst Q (sym k.left_is) q;
        right_has = subst R (sym k.right_is) r;
      }

  pub ways_from_split : {Q R : List A → Type 0} (w : List A) → Split Q R w → (p : List A × List A) × Member p (splits w) × Q p.0 × R p.1
  ways_from_split w s = ((part (λ mark. mark) s.marks w, part not s.marks w), split_among s.marks w s.as_long, s.left_has, s.right_has)

  -- a word is joined exactly where one of its cuts has Q and R
  pub joined_from_ways : {Q R : List A → Type 0} (w : List A) (p : List A × List A) → Member p (cuts w) → Q p.0 → R p.1 → Joined Q R w
  joined_from_ways w p m q r = record { front = p.0; back = p.1; whole = cut_is w p m; front_has = q; back_has = r }

  pub ways_from_joined : {Q R : List A → Type 0} (w : List A) → Joined Q R w → (p : List A × List A) × Member p (cuts w) × Q p.0 × R p.1
  ways_from_joined w j = ((j.front, j.back), cut_among w j.front j.back j.whole, j.front_has, j.back_has)

  moved_ends : (a b : A) (ps : List (List A × List A)) (q : List A × List A) → map (with_start b) (map (with_end a) ps ++ q ∷ []) ≡ map (with_end a) (map (with_start b) ps) ++ with_start b q ∷ []
  moved_ends a b [] q = refl
  moved_ends a b (p ∷ ps) q = ap (λ x. with_start b (with_end a p) ∷ x) (moved_ends a b ps q)

  pub cuts-end : (w : List A) (a : A) → cuts (w ++ a ∷ []) ≡ map (with_end a) (cuts w) ++ (w ++ a ∷ [], []) ∷ []
  cuts-end [] a = refl
  cuts-end (b ∷ w) a =
      let P : List (List A × List A) → List (List A × List A) = λ x. ([], b ∷ (w ++ a ∷ [])) ∷ map (with_start b) x in
      ap P (cuts-end w a) ∙ ap (λ x. ([], b ∷ (w ++ a ∷ [])) ∷ x) (moved_ends a b (cuts w) (w ++ a ∷ [], []))

  pub splits-end : (w : List A) (a : A) → SameMembers (splits (w ++ a ∷ [])) (flat_map (give_end a) (splits w))
  splits-end [] a = SameMembers-refl _
  splits-end (b ∷ w) a =
      SameMembers-trans
      (SameMembers-flat_map (give_start b) (give_start b) (splits-end w a) (λ p m. SameMembers-refl (give_start b p)))
      (SameMembers-trans
      (SameMembers-eq (flat_map-flat_map (give_end a) (give_start b) (splits w)))
      (SameMembers-trans
      (SameMembers-flat_map (λ p. flat_map (give_start b) (give_end a p)) (λ p. flat_map (give_end a) (give_start b p)) (SameMembers-refl (splits w)) (λ p m. swapped_middle _ _ _ _))
      (SameMembers-eq (sym (flat_map-flat_map (give_start b) (give_end a) (splits w))))))
