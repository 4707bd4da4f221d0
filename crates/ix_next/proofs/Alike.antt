-- Of the actions that a candidate stands for, all may come next or none.
use Rattle.std.proofs.Common.{◌≡◌, ℕ, true, List, [], ◌∷◌, ◌++◌, map, refl, sym, ap, ◌∙◌, subst}
use Rattle.std.proofs.lemmas.List.{map-append}
use Rattle.ix_words.specs.Each.{Member, here, there}
use Rattle.ix_words.proofs.Each.{Member-left, Member-right, Each-members}
use Rattle.ix_values.specs.PlainAction.{Word, values_of}
use Rattle.ix_expr.specs.Meaning.{IsPartial}
use Rattle.ix_next.specs.declared.term.Term.{Term}
use Rattle.ix_next.specs.declared.term.Term.TheVariants.{Known, New}
use Rattle.ix_expr.specs.Atoms.{atoms_of}
use Rattle.ix_next.specs.Fixed.{fixed_in}
use Rattle.ix_next.specs.Candidates.{value_of}
use Rattle.ix_next.specs.Menu.{known}
use Rattle.ix_next.specs.Laws.{CandidatesStandOrFall}
use Rattle.ix_next.proofs.Renaming.{Renaming, Keeps, renamed, renamed_action, partial_renamed}
use Rattle.ix_next.proofs.Swaps.{Carries, carried}
use Rattle.ix_next.proofs.Terms.{fixed_among, known_terms}

values_kept : (r : Renaming) (values : List (List ℕ)) → ((v : List ℕ) → Member v values → r.to v ≡ v) → map r.to values ≡ values
values_kept r [] keeps = refl
values_kept r (v ∷ values) keeps = λ i. keeps v here i ∷ values_kept r values (λ u m. keeps u (there m)) i

word_kept : (r : Renaming) (w : Word) → ((v : List ℕ) → Member v (values_of w) → r.to v ≡ v) → renamed r w ≡ w
word_kept r [] keeps = refl
word_kept r (a ∷ w) keeps = λ i.
    record { name = a.name; values = values_kept r a.values (λ v m. keeps v (Member-left m (values_of w))) i }
    ∷ word_kept r w (λ v m. keeps v (Member-right a.values m)) i

terms_carried : (r : Renaming) (new other : ℕ → List ℕ) (terms : List Term) → ((v : List ℕ) → Member (Known v) terms → r.to v ≡ v) → ((i : ℕ) → Member (New i) terms → r.to (new i) ≡ other i)
    → map r.to (map (value_of new) terms) ≡ map (value_of other) terms
terms_carried r new other [] keeps carries = refl
terms_carried r new other (Known v ∷ terms) keeps carries = λ i. keeps v here i ∷ terms_carried r new other terms (λ u m. keeps u (there m)) (λ j m. carries j (there m)) i
terms_carried r new other (New k ∷ terms) keeps carries = λ i. carries k here i ∷ terms_carried r new other terms (λ u m. keeps u (there m)) (λ j m. carries j (there m)) i

pub stand_or_fall : CandidatesStandOrFall
stand_or_fall x w given c a b among s t partial = subst (IsPartial x []) same (partial_renamed r x keeps_fixed [] (w ++ a ∷ []) partial)
  where
    carry : Carries (known x w given) c.terms s.new t.new
    carry = carried (known x w given) c.terms s.new t.new (record { unknown = s.unknown; apart = s.apart }) (record { unknown = t.unknown; apart = t.apart })

    r : Renaming
    r = carry.by

    keeps_fixed : Keeps r x
    keeps_fixed = Each-members (atoms_of x) (λ q m v n. carry.keeps v (Member-right (values_of w) (Member-left (fixed_among x q m v n) (map (λ g. g.value) given))))

    action_same : renamed_action r a ≡ b
    action_same = ap (renamed_action r) s.same
        ∙ (λ i. record { name = c.name; values = terms_carried r s.new t.new c.terms (λ v m. carry.keeps v (Member-right (values_of w) (known_terms true x given c among v m))) carry.carries i })
        ∙ sym t.same

    same : renamed r (w ++ a ∷ []) ≡ w ++ b ∷ []
    same = map-append (renamed_action r) w (a ∷ [])
        ∙ (λ i. word_kept r w (λ v m. carry.keeps v (Member-left m (fixed_in x ++ map (λ g. g.value) given))) i ++ action_same i ∷ [])
