-- The laws on one more item, and on tests.
use Rattle.std.proofs.Common.{◌≡◌, ◌↔◌, ◌+◌, Bool, true, false, cond, not, IsTrue, List, [], ◌∷◌, ◌++◌, length, filter, append_assoc, append-nil, refl, sym, ap, ◌∙◌, subst, arith, true≢false}
use Rattle.ix_words.specs.Each.{Member}
use Rattle.ix_words.specs.Parts.{part, joined, Projection, ended, kept, left_out}
use Rattle.ix_words.specs.Canon.{splits}
use Rattle.ix_words.proofs.Parts.{part-append, Projection-append, Projection-once, projection_cut}
use Rattle.ix_words.proofs.Ways.{split_is, split_among}

module _ {K A : Type 0} where
  pub parts_grow : (mine : K → Bool) (owners : List K) (w : List A) (owner : K) (a : A) → length owners ≡ length w → part mine (owners ++ owner ∷ []) (w ++ a ∷ []) ≡ part mine owners w ++ cond (mine owner) (a ∷ []) []
  parts_grow mine owners w owner a e = part-append mine owners (owner ∷ []) w (a ∷ []) e

module _ {A : Type 0} where
  pub parts_cover : (marks : List Bool) (w : List A) → length marks ≡ length w → length (part (λ mark. mark) marks w) + length (part not marks w) ≡ length w
  parts_cover [] [] e = refl
  parts_cover [] (a ∷ w) e = absurd (omega arith)
  parts_cover (m ∷ marks) [] e = absurd (omega arith)
  parts_cover (true ∷ marks) (a ∷ w) e = let h = parts_cover marks w (omega arith) in omega arith
  parts_cover (false ∷ marks) (a ∷ w) e = let h = parts_cover marks w (omega arith) in omega arith

  pub joined_grow : (pieces : List (List A)) (piece : List A) → joined (pieces ++ piece ∷ []) ≡ joined pieces ++ piece
  joined_grow [] piece = append-nil piece
  joined_grow (p ∷ pieces) piece = ap (λ x. p ++ x) (joined_grow pieces piece) ∙ sym (append_assoc p (joined pieces) piece)

  module _ (test : A → Bool) where
    one_by_test : (a : A) (b : Bool) {w u : List A} → test a ≡ b → Projection (λ c. IsTrue (test c)) w u → Projection (λ c. IsTrue (test c)) (a ∷ w) (cond b (a ∷ u) u)
    one_by_test a true e p = kept e p
    one_by_test a false e p = left_out (λ f. true≢false (sym f ∙ e)) p

    pub filter_projection : (w : List A) → Projection (λ a. IsTrue (test a)) w (filter test w)
    filter_projection [] = ended
    filter_projection (a ∷ w) = one_by_test a (test a) refl (filter_projection w)

    pub projections_by_test : (w u : List A) → Projection (λ a. IsTrue (test a)) w u ↔ (u ≡ filter test w)
    projections_by_test w u =
        (λ p. Projection-once p (filter_projection w), λ e. subst (Projection (λ a. IsTrue (test a)) w) (sym e) (filter_projection w))

    grown_to : (w u : List A) (a : A) → Projection (λ b. IsTrue (test b)) (w ++ a ∷ []) u → (rest : List A) × Projection (λ b. IsTrue (test b)) w rest × (u ≡ rest ++ cond (test a) (a ∷ []) [])
    grown_to w u a p =
        let c = projection_cut w (a ∷ []) p in
        (c.first, c.first_is, c.whole ∙ ap (λ x. c.first ++ x) (Projection-once c.second_is (filter_projection (a ∷ []))))

    grown_from : (w u : List A) (a : A) → (rest : List A) × Projection (λ b. IsTrue (test b)) w rest × (u ≡ rest ++ cond (test a) (a ∷ []) []) → Projection (λ b. IsTrue (test b)) (w ++ a ∷ []) u
    grown_from w u a h =
        subst (Projection (λ b. IsTrue (test b)) (w ++ a ∷ [])) (sym h.2) (Projection-append h.1 (filter_projection (a ∷ [])))

    pub projections_grow : (w u : List A) (a : A) → Projection (λ b. IsTrue (test b)) (w ++ a ∷ []) u ↔ ((rest : List A) × Projection (λ b. IsTrue (test b)) w rest × (u ≡ rest ++ cond (test a) (a ∷ []) []))
    projections_grow w u a = (grown_to w u a, grown_from w u a)

  pub splits_all : (w : List A) (p : List A × List A) → Member p (splits w) ↔ ((marks : List Bool) × (length marks ≡ length w) × (part (λ mark. mark) marks w ≡ p.0) × (part not marks w ≡ p.1))
  splits_all w p = (
    λ m. let k = split_is w p m in (k.marks, k.as_long, k.left_is, k.right_is),
    λ h. let P : List A × List A → Type 0 = λ q. Member q (splits w) in
        subst P (λ i. (h.2 i, h.3 i)) (split_among h.0 w h.1),
  )
