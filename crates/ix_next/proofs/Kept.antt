-- What is kept of candidates is what passes of those that stand once.
use Rattle.std.proofs.Common.{◌≡◌, Bool, true, false, cond, if◌then◌else◌, List, [], ◌∷◌, ◌++◌, filter, fold, refl, sym, ap, ◌∙◌, append_assoc}
use Rattle.std.specs.List.{list_any}
use Rattle.indexmap.specs.IndexSet.{insert_key}
use Rattle.ix_words.specs.Each.{Member, here, there}
use Rattle.ix_words.specs.Parts.{Projection, ended, kept, left_out}
use Rattle.ix_words.proofs.Deciding.{any_from, any_says}
use Rattle.ix_can.proofs.Lists.{Member-filter, filter-Member}
use Rattle.ix_next.specs.Candidates.{PlainCandidate, candidate_eq, once}
use Rattle.ix_next.specs.lemmas.Same.{candidate_eq-tells, candidate_eq-equiv}
use Rattle.ix_next.proofs.Once.{once_push, filter_push}

no_more : {A : Type 0} (w : List A) → w ++ [] ≡ w
no_more [] = refl
no_more (a ∷ w) = ap (λ u. a ∷ u) (no_more w)

module _ (p : PlainCandidate → Bool) where
  -- what is found with one more
  abbrev kept_with : List PlainCandidate → PlainCandidate → List PlainCandidate
  kept_with found c = if p c then insert_key candidate_eq found c else found

  step : (done : List PlainCandidate) (c : PlainCandidate) → kept_with (filter p (once candidate_eq done)) c ≡ filter p (once candidate_eq (done ++ c ∷ []))
  step done c =
      by (list_any (candidate_eq c) ones) refl (p c) refl
      ∙ ap (filter p) (sym (once_push candidate_eq candidate_eq-tells candidate_eq-equiv.refl done c))
    where
      ones : List PlainCandidate
      ones = once candidate_eq done

      inserted : (t : Bool) → list_any (candidate_eq c) (filter p ones) ≡ t → insert_key candidate_eq (filter p ones) c ≡ cond t (filter p ones) (filter p ones ++ c ∷ [])
      inserted t e = ap (λ u. cond u (filter p ones) (filter p ones ++ c ∷ [])) e

      absent : list_any (candidate_eq c) ones ≡ false → (t : Bool) → list_any (candidate_eq c) (filter p ones) ≡ t → list_any (candidate_eq c) (filter p ones) ≡ false
      absent none true e =
          let some = (any_says (candidate_eq c) (filter p ones)).0 e in
          let wrong : list_any (candidate_eq c) ones ≡ true = any_from (candidate_eq c) ones (Member-filter p ones some.among).0 some.passes in
          cc
      absent none false e = e

      present : list_any (candidate_eq c) ones ≡ true → p c ≡ true → list_any (candidate_eq c) (filter p ones) ≡ true
      present e pass =
          let some = (any_says (candidate_eq c) ones).0 e in
          let same : c ≡ some.which = candidate_eq-tells c some.which some.passes in
          any_from (candidate_eq c) (filter p ones) (filter-Member p some.among (ap p (sym same) ∙ pass)) some.passes

      by : (b : Bool) → list_any (candidate_eq c) ones ≡ b → (t : Bool) → p c ≡ t → kept_with (filter p ones) c ≡ filter p (cond (list_any (candidate_eq c) ones) ones (ones ++ c ∷ []))
      by true e true f = ap (λ t. cond t (insert_key candidate_eq (filter p ones) c) (filter p ones)) f ∙ inserted true (present e f) ∙ ap (λ b. filter p (cond b ones (ones ++ c ∷ []))) (sym e)
      by true e false f = ap (λ t. cond t (insert_key candidate_eq (filter p ones) c) (filter p ones)) f ∙ ap (λ b. filter p (cond b ones (ones ++ c ∷ []))) (sym e)
      by false e true f =
          ap (λ t. cond t (insert_key candidate_eq (filter p ones) c) (filter p ones)) f
          ∙ inserted false (absent e (list_any (candidate_eq c) (filter p ones)) refl)
          ∙ ap (λ t. filter p ones ++ cond t (c ∷ []) []) (sym f)
          ∙ sym (filter_push p ones c)
          ∙ ap (λ b. filter p (cond b ones (ones ++ c ∷ []))) (sym e)
      by false e false f =
          ap (λ t. cond t (insert_key candidate_eq (filter p ones) c) (filter p ones)) f
          ∙ sym (no_more (filter p ones))
          ∙ ap (λ t. filter p ones ++ cond t (c ∷ []) []) (sym f)
          ∙ sym (filter_push p ones c)
          ∙ ap (λ b. filter p (cond b ones (ones ++ c ∷ []))) (sym e)

  folded : (cs done found : List PlainCandidate) → found ≡ filter p (once candidate_eq done) → fold kept_with found cs ≡ filter p (once candidate_eq (done ++ cs))
  folded [] done found e = e ∙ ap (λ w. filter p (once candidate_eq w)) (sym (no_more done))
  folded (c ∷ cs) done found e =
      folded cs (done ++ c ∷ []) (kept_with found c) (ap (λ w. kept_with w c) e ∙ step done c)
      ∙ ap (λ w. filter p (once candidate_eq w)) (append_assoc done (c ∷ []) cs)

  -- what is kept in the end
  pub kept_is : (cs : List PlainCandidate) → fold kept_with [] cs ≡ filter p (once candidate_eq cs)
  kept_is cs = folded cs [] [] refl

-- what passes is the projection to what it decides
pub projection_of : {A : Type 0} {In : A → Type 0} (p : A → Bool) (w : List A) → ((a : A) → Member a w → (p a ≡ true → In a) × (In a → p a ≡ true)) → Projection In w (filter p w)
projection_of p [] says = ended
projection_of {A} {In} p (a ∷ w) says = by (p a) refl (projection_of p w (λ b m. says b (there m)))
  where
    by : (b : Bool) → p a ≡ b → Projection In w (filter p w) → Projection In (a ∷ w) (cond b (a ∷ filter p w) (filter p w))
    by true e rest = kept ((says a here).0 e) rest
    by false e rest = left_out (λ i. let h : p a ≡ true = (says a here).1 i in cc) rest
