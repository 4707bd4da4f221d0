-- An action whose values are given, fixed or new is what some candidate stands for.
use Rattle.std.proofs.Common.{◌≡◌, ℕ, ◌+◌, ◌<◌, ◌≤◌, zero, suc, Bool, true, false, cond, List, [], ◌∷◌, ◌++◌, length, map, Option, Some, None, ◌⊎◌, inl, inr, refl, sym, ap, ◌∙◌, subst, arith, append_assoc, length-append}
use Rattle.std.specs.List.{range_with_len}
use Rattle.ix_words.specs.Each.{Member, here, there}
use Rattle.ix_words.proofs.Each.{Member-left, Member-right}
use Rattle.ix_words.proofs.Canon.{map-Member, flat_map-Member, Member-cases}
use Rattle.ix_values.specs.Order.{text_eq}
use Rattle.ix_values.specs.lemmas.Order.{text_eq-decides}
use Rattle.ix_values.specs.PlainAction.{PlainAction, Word}
use Rattle.ix_expr.specs.declared.arg.Arg.{Arg}
use Rattle.ix_expr.specs.declared.arg.Arg.TheVariants.{Fixed, Param}
use Rattle.ix_expr.specs.Form.{Form}
use Rattle.ix_expr.specs.Environment.{Environment, value_in, HaveValues}
use Rattle.ix_next.specs.Given.{PlainGiven}
use Rattle.ix_next.specs.declared.term.Term.{Term}
use Rattle.ix_next.specs.declared.term.Term.TheVariants.{Known, New}
use Rattle.ix_next.specs.Candidates.{PlainCandidate, candidate_of, candidate_eq, value_of, action_with, candidates, candidates_at, fillings, terms_for, term_of, choices, new_behind, values_for}
use Rattle.ix_next.specs.Menu.{known, StandsForAction}
use Rattle.ix_next.specs.Laws.{HasTriedValues, TheMenuIsComplete, TheMenuIsSound}
use Rattle.ix_next.specs.lemmas.Same.{candidate_eq-tells}
use Rattle.ix_next.proofs.Alike.{stand_or_fall}
use Rattle.ix_next.proofs.Menus.{projection_has, projection_keeps, once_keeps}
use Rattle.ix_next.proofs.Places.{StandsAt, stands_before, stands_last, stands_below, stands_among, AreDistinct, distinct_places, distinct_push, place_or_none, value_at, stands_value, fresh, fresh_unknown, fresh_apart}

-- the term has this value, where the new values are these, the first of them numbered 1
abbrev Has : List (List ℕ) → Term → List ℕ → Type 0
Has news (Known u) v = u ≡ v
Has news (New zero) v = ⊥
Has news (New (suc i)) v = StandsAt news i v

has_before : (news more : List (List ℕ)) (t : Term) (v : List ℕ) → Has news t v → Has (news ++ more) t v
has_before news more (Known u) v h = h
has_before news more (New zero) v h = h
has_before news more (New (suc i)) v h = stands_before news more i v h

abbrev HaveAll : List (List ℕ) → List Term → List (List ℕ) → Type 0
HaveAll news [] [] = Unit {0}
HaveAll news [] (v ∷ values) = ⊥
HaveAll news (t ∷ terms) [] = ⊥
HaveAll news (t ∷ terms) (v ∷ values) = Has news t v × HaveAll news terms values

-- a term that has a value is no newer than the new values
behind_same : (news : List (List ℕ)) (t : Term) (v : List ℕ) → Has news t v → new_behind None (length news) t ≡ length news
behind_same news (Known u) v h = refl
behind_same news (New zero) v h = absurd h
behind_same news (New (suc i)) v h = let k = stands_below news i v h in omega (arith, k)

in_range : (i a n : ℕ) → i < n → Member (a + i) (range_with_len a n)
in_range i a zero h = absurd (omega (arith, h))
in_range zero a (suc n) h = subst (λ k. Member k (range_with_len a (suc n))) (omega arith) here
in_range (suc i) a (suc n) h = there (subst (λ k. Member k (range_with_len (a + 1) n)) (omega arith) (in_range i (a + 1) n (omega (arith, h))))

new_among : (values : List (List ℕ)) (n i : ℕ) → i ≤ n → Member (New (suc i)) (terms_for true values n)
new_among values n i h = Member-right (map Known values) (map-Member New (subst (λ k. Member k (range_with_len 1 (n + 1))) (omega arith) (in_range i 1 (n + 1) (omega (arith, h)))))

module _ (known : List (List ℕ)) (values : List ℕ → List (List ℕ)) (e : Environment) where
  -- the new values so far are different, and none is known
  record AreFine (news : List (List ℕ)) : Type 0 where
    distinct : AreDistinct news
    unknown : (v : List ℕ) → Member v news → ¬ Member v known

  -- the parameters' terms so far have their values
  abbrev IsChosen : List (List ℕ) → List (List ℕ × Term) → Type 0
  IsChosen news chosen = (q : List ℕ) (t : Term) (v : List ℕ) → term_of q chosen ≡ Some t → value_in e q ≡ Some v → Has news t v

  -- terms that fill the places of the arguments
  record Filled (arguments : List Arg) (chosen : List (List ℕ × Term)) (news vs : List (List ℕ)) : Type 0 where
    terms : List Term
    more : List (List ℕ)
    among : Member terms (fillings true values arguments chosen (length news))
    have : HaveAll (news ++ more) terms vs
    fine : AreFine (news ++ more)

  -- the term of one parameter
  record Taken (p v : List ℕ) (own : Option Term) (news : List (List ℕ)) : Type 0 where
    term : Term
    more : List (List ℕ)
    among : Member term (choices own (terms_for true (values p) (length news)))
    has : Has (news ++ more) term v
    fine : AreFine (news ++ more)
    behind : new_behind own (length news) term ≡ length (news ++ more)

  no_more : (news : List (List ℕ)) → news ++ [] ≡ news
  no_more [] = refl
  no_more (v ∷ news) = ap (λ vs. v ∷ vs) (no_more news)

  same_news : {news : List (List ℕ)} → AreFine news → AreFine (news ++ [])
  same_news {news} fine = subst AreFine (sym (no_more news)) fine

  taken : (p v : List ℕ) (own : Option Term) (news : List (List ℕ)) → AreFine news → ((t : Term) → own ≡ Some t → Has news t v)
      → (Member v (values p) ⊎ (¬ Member v known)) → Taken p v own news
  taken p v (Some t) news fine has tried = record {
    term = t;
    more = [];
    among = here;
    has = has_before news [] t v (has t refl);
    fine = same_news fine;
    behind = ap length (sym (no_more news));
  }
  taken p v None news fine has (inl m) = record {
    term = Known v;
    more = [];
    among = Member-left (map-Member Known m) (map New (range_with_len 1 (length news + 1)));
    has = refl;
    fine = same_news fine;
    behind = ap length (sym (no_more news));
  }
  taken p v None news fine has (inr unknown) = elim (place_or_none v news) [
    | inl k ↦
        let below = stands_below news k.0 v k.1 in
        record {
          term = New (suc k.0);
          more = [];
          among = new_among (values p) (length news) k.0 (omega (arith, below));
          has = has_before news [] (New (suc k.0)) v k.1;
          fine = same_news fine;
          behind = behind_same news (New (suc k.0)) v k.1 ∙ ap length (sym (no_more news));
        }
    | inr absent ↦ record {
      term = New (suc (length news));
      more = v ∷ [];
      among = new_among (values p) (length news) (length news) (omega arith);
      has = stands_last news v;
      fine = record { distinct = distinct_push news v fine.distinct absent; unknown = λ u m. pushed news fine.unknown u m };
      behind = let long = length-append news (v ∷ []) in omega (arith, long);
    }
  ]
    where
      pushed : (us : List (List ℕ)) → ((u : List ℕ) → Member u us → ¬ Member u known) → (u : List ℕ) → Member u (us ++ v ∷ []) → ¬ Member u known
      pushed [] fine u here = unknown
      pushed [] fine u (there m) = elim m [ ]
      pushed (w ∷ us) fine u here = fine u here
      pushed (w ∷ us) fine u (there m) = pushed us (λ x n. fine x (there n)) u m

  chosen_more : (p v : List ℕ) (t : Term) (news more : List (List ℕ)) (chosen : List (List ℕ × Term)) → value_in e p ≡ Some v → IsChosen news chosen → Has (news ++ more) t v → IsChosen (news ++ more) ((p, t) ∷ chosen)
  chosen_more p v t news more chosen at before has q u w f g = by (text_eq p q) refl f
    where
      by : (b : Bool) → text_eq p q ≡ b → cond b (Some t) (term_of q chosen) ≡ Some u → Has (news ++ more) u w
      by true same h =
          let it : t ≡ u = cc in
          let param : p ≡ q = (text_eq-decides p q).0 same in
          let value : Some v ≡ Some w = sym at ∙ ap (value_in e) param ∙ g in
          let value' : v ≡ w = cc in
          subst (λ x. Has (news ++ more) u x) value' (subst (λ x. Has (news ++ more) x v) it has)
      by false same h = has_before news more u w (before q u w h g)

  filled : (arguments : List Arg) (vs : List (List ℕ)) (chosen : List (List ℕ × Term)) (news : List (List ℕ)) → HaveValues e arguments vs → AreFine news → IsChosen news chosen
      → ((p v : List ℕ) → Member (Param p) arguments → value_in e p ≡ Some v → Member v (values p) ⊎ (¬ Member v known))
      → Filled arguments chosen news vs
  filled [] [] chosen news h fine before tried = record { terms = []; more = []; among = here; have = tt; fine = same_news fine }
  filled [] (v ∷ vs) chosen news h fine before tried = absurd h
  filled (argument ∷ arguments) [] chosen news h fine before tried = absurd h
  filled (Fixed u ∷ arguments) (v ∷ vs) chosen news h fine before tried =
      let rest = filled arguments vs chosen news h.1 fine before (λ p w m. tried p w (there m)) in
      record {
        terms = Known u ∷ rest.terms;
        more = rest.more;
        among = map-Member (λ ts. Known u ∷ ts) rest.among;
        have = (h.0, rest.have);
        fine = rest.fine;
      }
  filled (Param p ∷ arguments) (v ∷ vs) chosen news h fine before tried =
      let first = taken p v (term_of p chosen) news fine (λ t f. before p t v f h.0) (tried p v here h.0) in
      let rest = filled arguments vs ((p, first.term) ∷ chosen) (news ++ first.more) h.1 first.fine
      (chosen_more p v first.term news first.more chosen h.0 before first.has) (λ q w m. tried q w (there m)) in
      let group = append_assoc news first.more rest.more in
      record {
        terms = first.term ∷ rest.terms;
        more = first.more ++ rest.more;
        among = flat_map-Member (λ t. map (λ ts. t ∷ ts) (fillings true values arguments ((p, t) ∷ chosen) (new_behind (term_of p chosen) (length news) t))) first.among
            (map-Member (λ ts. first.term ∷ ts)
            (subst (λ n. Member rest.terms (fillings true values arguments ((p, first.term) ∷ chosen) n)) (sym first.behind) rest.among));
        have = subst (λ all. HaveAll all (first.term ∷ rest.terms) (v ∷ vs)) group (has_before (news ++ first.more) rest.more first.term v first.has, rest.have);
        fine = subst AreFine group rest.fine;
      }

-- the value of each number
abbrev numbered : List (List ℕ) → ℕ → List ℕ
numbered news zero = []
numbered news (suc i) = value_at news i

values_same : (news : List (List ℕ)) (terms : List Term) (vs : List (List ℕ)) → HaveAll news terms vs → vs ≡ map (value_of (numbered news)) terms
values_same news [] [] h = refl
values_same news [] (v ∷ vs) h = absurd h
values_same news (t ∷ terms) [] h = absurd h
values_same news (Known u ∷ terms) (v ∷ vs) h = λ i. sym h.0 i ∷ values_same news terms vs h.1 i
values_same news (New zero ∷ terms) (v ∷ vs) h = absurd h.0
values_same news (New (suc k) ∷ terms) (v ∷ vs) h = λ i. sym (stands_value news k h.0) i ∷ values_same news terms vs h.1 i

-- a new value of the terms stands among the new values
record IsNumbered (news : List (List ℕ)) (i : ℕ) : Type 0 where
  place : ℕ
  number : i ≡ suc place
  at : StandsAt news place (numbered news i)

made_numbered : (news : List (List ℕ)) (i k : ℕ) (v : List ℕ) → i ≡ suc k → StandsAt news k v → IsNumbered news i
made_numbered news i k v e at = record {
  place = k;
  number = e;
  at = subst (StandsAt news k) (sym (ap (numbered news) e ∙ stands_value news k at)) at;
}

is_numbered : (news : List (List ℕ)) (terms : List Term) (vs : List (List ℕ)) → HaveAll news terms vs → (i : ℕ) → Member (New i) terms → IsNumbered news i
is_numbered news [] vs h i m = elim m [ ]
is_numbered news (t ∷ terms) [] h i m = absurd h
is_numbered news (Known u ∷ terms) (v ∷ vs) h i m = is_numbered news terms vs h.1 i (behind m)
  where
    behind : Member (New i) (Known u ∷ terms) → Member (New i) terms
    behind (there n) = n
is_numbered news (New zero ∷ terms) (v ∷ vs) h i m = absurd h.0
is_numbered news (New (suc k) ∷ terms) (v ∷ vs) h i m = elim (Member-cases m) [
  | inl e ↦ let number : i ≡ suc k = cc in made_numbered news i k v number h.0
  | inr n ↦ is_numbered news terms vs h.1 i n
]

-- the candidate that stands for the action
record Candidate (x : Form) (w : Word) (given : List PlainGiven) (a : PlainAction) : Type 0 where
  plain : PlainCandidate
  among : Member plain (candidates true x given)
  stands : StandsForAction x w given plain a

found : (x : Form) (w : Word) (given : List PlainGiven) (a : PlainAction) → HasTriedValues x w given a → Candidate x w given a
found x w given a within =
    let f = filled (known x w given) (values_for x given) within.environment within.atom.arguments a.values [] [] within.matches.1
    (record { distinct = tt; unknown = λ v m. elim m [ ] }) (λ q t v e g. cc) within.tried in
    record {
      plain = candidate_of within.atom.name f.terms;
      among = flat_map-Member (candidates_at true x given) within.among (map-Member (candidate_of within.atom.name) f.among);
      stands = record {
        new = numbered f.more;
        same = λ i. record { name = sym within.matches.0 i; values = values_same f.more f.terms a.values f.have i };
        unknown = λ i m.
            let n = is_numbered f.more f.terms a.values f.have i m in
            f.fine.unknown (numbered f.more i) (stands_among f.more n.place n.at);
        apart = λ i j m n e.
            let p = is_numbered f.more f.terms a.values f.have i m in
            let q = is_numbered f.more f.terms a.values f.have j n in
            let same = distinct_places f.more p.place q.place (numbered f.more j) f.fine.distinct (subst (StandsAt f.more p.place) e p.at) q.at in
            p.number ∙ ap (λ k. suc k) same ∙ sym q.number;
      };
    }

pub menu_complete : TheMenuIsComplete
menu_complete x w given menu a is partial within =
    let c = found x w given a within in
    record {
      candidate = c.plain;
      among = projection_keeps is (once_keeps candidate_eq candidate_eq-tells (candidates true x given) c.among)
          (λ b t. stand_or_fall x w given c.plain a b c.among c.stands t partial);
      stands = c.stands;
    }

pub menu_sound : TheMenuIsSound
menu_sound x w given menu c is m =
    let may = (projection_has is m).1 in
    record { action = action_with (fresh (known x w given)) c; stands = some; may_come = may (action_with (fresh (known x w given)) c) some; each_may_come = may }
  where
    some : StandsForAction x w given c (action_with (fresh (known x w given)) c)
    some = record {
      new = fresh (known x w given);
      same = refl;
      unknown = λ i n. fresh_unknown (known x w given) i;
      apart = λ i j n o e. fresh_apart (known x w given) i j e;
    }
