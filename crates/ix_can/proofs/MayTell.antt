-- From the tree of a word one tells whether the word with one more action is partial: one lemma for each form.
use Rattle.std.proofs.Common.{◌≡◌, ◌↔◌, ◌⊎◌, inl, inr, ℕ, ◌<◌, ◌==◌, Bool, true, false, cond, not, ◌&&◌, ◌||◌, List, [], ◌∷◌, ◌++◌, map, flat_map, filter, length, refl, sym, ap, ◌∙◌, subst, true≢false, append-nil, arith, eq-eqb, eqb-true, if◌then◌else◌, suc, length-append}
use Rattle.std.specs.List.{list_any, list_all}
use Rattle.std.specs.Cmp.{both_ways}
use Rattle.ix_words.specs.Each.{Each, no_item, item, Member, here}
use Rattle.ix_words.specs.Parts.{part}
use Rattle.ix_words.specs.Words.{Repeated, Numbered, Projected, Closed}
use Rattle.ix_words.specs.Canon.{cuts, splits}
use Rattle.ix_words.proofs.Each.{Each-head, Each-weaker, Each-member, Each-members, Each-append, Each-left, Each-right}
use Rattle.ix_words.proofs.Canon.{Member-cases, Member-map, map-Member}
use Rattle.ix_words.proofs.Parts.{cut}
use Rattle.ix_words.proofs.Ways.{cut_is, cut_among}
use Rattle.ix_words.proofs.Owners.{part-map, part-members, part-unused, Each-map}
use Rattle.ix_words.proofs.Laws.{parts_grow}
use Rattle.std.proofs.lemmas.List.{length-map}
use Rattle.ix_words.proofs.Words.{Repeated-empty}
use Rattle.ix_values.specs.PlainAction.{PlainAction, Word}
use Rattle.ix_expr.specs.Form.{PlainAtom, Form, atom, opt, seq, star, par, par_star, or, and, couple}
use Rattle.ix_expr.specs.Environment.{Environment, Matches}
use Rattle.ix_expr.specs.Meaning.{InAlphabet, IsOneMatch, IsComplete, IsPartial}
use Rattle.ix_expr.proofs.LawsOfMeaning.{empty-partial, complete-partial, prefix-partial}
use Rattle.ix_tree.specs.Plain.{Plain, dead, done, opt as opt_tree, star as star_tree, par as par_tree, par_star as par_star_tree, or as or_tree, and as and_tree, couple as couple_tree, pair as pair_of, bag as bag_of}
use Rattle.ix_tree.specs.Order.{first_part, second_part}
use Rattle.ix_expr.specs.Tests.{is_match, in_alphabet, accepts_empty}
use Rattle.ix_can.specs.Ways.{is_empty, numberings, nonempty_parts, numbers_below}
use Rattle.ix_can.specs.Nodes.{is_dead, is_live, is_open, listed, items_of, set_of, sorted, live, dead_if, done_if, unless_done, is_spent, settled, seq_parts}
use Rattle.ix_can.specs.TreeOf.{tree_of}
use Rattle.ix_can.specs.May.{both_move, may_first, may}
use Rattle.ix_words.proofs.Deciding.{itself, iff_trans, iff_sym, when_either, when_both}
use Rattle.ix_can.proofs.Lists.{both_iff, same_test, when_not, SomeWay, when_passes, one_passes, made_says, all_map, any_map, filled_says, filter-Member, Member-filter}
use Rattle.ix_expr.proofs.Testing.{match_says, alphabet_says, empty_complete}
use Rattle.ix_can.proofs.Ways.{numbered_part, long_to, long_from, parts_to, parts_from, numbers_to, each_below, below_from, owner_or_none}
use Rattle.ix_can.proofs.Spent.{may_dead, may_done, unless_may, spent_may, done_live, done_may, any_open}
use Rattle.ix_can.proofs.Nodes.{tree_live, any_set, any_sorted, projected_says}
use Rattle.ix_can.proofs.OperatorsTell.{Tells, opt_told, seq_told, par_told, or_told, and_told, couple_told, star_told, par_star_told, again, again_says, seq_rest, seq_says, par_pair, star_rest, par_star_bag}
use Rattle.ix_can.proofs.Ends.{joined_end, joined_more, split_end, repeated_end, filter_end}

-- One action

nothing_joined : (u v : Word) → [] ≡ u ++ v → (u ≡ []) × (v ≡ [])
nothing_joined [] v e = (refl, sym e)
nothing_joined (a ∷ u) v e = absurd (cc)

module _ (a : PlainAction) where
  -- the word of the action
  abbrev pub only : Word
  only = a ∷ []

  abbrev pub Begins : Form → Environment → Type 0
  Begins y e = (may_first y e a ≡ true) ↔ IsPartial y e only

  pub first_atom : (x : PlainAtom) (e : Environment) → Begins (atom x) e
  first_atom x e = iff_trans (match_says x e a) (λ m. inr (a, refl, m), λ h. elim h [ inl n ↦ absurd (not_empty n) | inr k ↦ matches k ])
    where
      not_empty : ¬ (a ∷ [] ≡ [])
      not_empty n = cc

      matches : IsOneMatch x e only → Matches x e a
      matches k =
          let one : a ∷ [] ≡ k.0 ∷ [] = k.1 in
          let same : k.0 ≡ a = cc in
          subst (Matches x e) same k.2

  pub first_seq : (y z : Form) (e : Environment) → Begins y e → Begins z e → Begins (seq y z) e
  first_seq y z e k l = iff_trans
      (when_either (may_first y e a) (accepts_empty y && may_first z e a) k (when_both (accepts_empty y) (may_first z e a) (empty_complete y e) l)) (
        λ h. elim h [ inl p ↦ inl p | inr b ↦ inr (record { front = []; back = only; whole = refl; front_has = b.0; back_has = b.1 }) ],
        λ h. elim h [ inl p ↦ inl p | inr j ↦ from j.front j.back j.whole j.front_has j.back_has ],
      )
    where
      from : (u v : Word) → only ≡ u ++ v → IsComplete y e u → IsPartial z e v → IsPartial y e only ⊎ (IsComplete y e [] × IsPartial z e only)
      from [] v m c p = inr (c, subst (IsPartial z e) (sym m) p)
      from (b ∷ u) v m c p =
          let rest : [] ≡ u ++ v = cc in
          let same : b ∷ u ≡ only = let n = nothing_joined u v rest in let h : u ≡ [] = n.0 in cc in
          inl (complete-partial y e only (subst (IsComplete y e) same c))

  pub first_star : (y : Form) (e : Environment) → Begins y e → Begins (star y) e
  first_star y e k = iff_trans k (
    λ p. record { front = []; back = only; whole = refl; front_has = Repeated-empty; back_has = p },
    λ h. elim (joined_end {Q = Repeated (IsComplete y e)} {R = IsPartial y e} [] a h) [
      | inl b ↦ let j = repeated_end [] a b.0 in complete-partial y e only (last j.front j.back j.whole j.back_has)
      | inr c ↦ last_partial c.way.0 c.way.1 (one_cut c.among) c.has.1
    ],
  )
    where
      last : (u v : Word) → [] ≡ u ++ v → IsComplete y e (v ++ only) → IsComplete y e only
      last u v m c = subst (λ x. IsComplete y e (x ++ only)) (nothing_joined u v m).1 c

      last_partial : (u v : Word) → [] ≡ u ++ v → IsPartial y e (v ++ only) → IsPartial y e only
      last_partial u v m c = subst (λ x. IsPartial y e (x ++ only)) (nothing_joined u v m).1 c

      one_cut : {c : Word × Word} → Member c (cuts []) → [] ≡ c.0 ++ c.1
      one_cut m = elim (Member-cases m) [ inl e ↦ sym (ap (λ (q : Word × Word). q.0 ++ q.1) e) | inr n ↦ elim n [ ] ]

  pub first_par : (y z : Form) (e : Environment) → Begins y e → Begins z e → Begins (par y z) e
  first_par y z e k l = iff_trans (when_either (may_first y e a) (may_first z e a) k l) (iff_trans (
    λ h. record {
      way = ([], []);
      among = here;
      has = elim h [ inl p ↦ inl (p, empty-partial z e) | inr p ↦ inr (empty-partial y e, p) ];
    },
    λ s. elim (Member-cases s.among) [
      | inl m ↦ elim s.has [
        | inl q ↦ inl (subst (λ (c : Word × Word). IsPartial y e (c.0 ++ only)) m q.0)
        | inr q ↦ inr (subst (λ (c : Word × Word). IsPartial z e (c.1 ++ only)) m q.1)
      ]
      | inr n ↦ elim n [ ]
    ],
  )
      (iff_sym (split_end {Q = IsPartial y e} {R = IsPartial z e} [] a)))

  -- a coupling moves both sides by what is in their alphabets
  pub moved : (t : Bool) (P : Word → Type 0) (u : Word) → P u → {q : Bool} → (q ≡ true) ↔ P (u ++ only) → (not t || q ≡ true) ↔ P (u ++ cond t only [])
  moved true P u p k = k
  moved false P u p k = (λ h. subst P (sym (append-nil u)) p, λ h. refl)

  pub one_inside : (b : Bool) {G : Type 0} → (b ≡ true) ↔ G → {H : PlainAction → Type 0} → H a ↔ G → (u : Word) → Each H u → (b ≡ true) ↔ Each H (u ++ only)
  one_inside b k same u h = iff_trans k (λ g. Each-append h (item (same.1 g) no_item), λ i. same.0 (Each-head (Each-right u only i)))

  -- the longer word is partial in a coupling exactly where the action is inside and moves both sides
  pub couple_end : (y z : Form) (e : Environment) (w : Word) → IsPartial (couple y z) e w → {q r : Bool} →
      (q ≡ true) ↔ IsPartial y e (filter (in_alphabet y e) w ++ only) → (r ≡ true) ↔ IsPartial z e (filter (in_alphabet z e) w ++ only) →
      (both_move (in_alphabet y e a) (in_alphabet z e a) q r ≡ true) ↔ IsPartial (couple y z) e (w ++ only)
  couple_end y z e w h {q} {r} k l =
      let i : Bool = in_alphabet y e a in
      let j : Bool = in_alphabet z e a in
      let left : (not i || q ≡ true) ↔ Projected (InAlphabet y e) (IsPartial y e) (w ++ only) =
      iff_trans (moved i (IsPartial y e) (filter (in_alphabet y e) w) ((projected_says (IsPartial y e) (in_alphabet y e) (alphabet_says y e) w).1 h.1) k)
      (iff_trans (λ p. subst (IsPartial y e) (sym (filter_end (in_alphabet y e) w a)) p, λ p. subst (IsPartial y e) (filter_end (in_alphabet y e) w a) p)
      (projected_says (IsPartial y e) (in_alphabet y e) (alphabet_says y e) (w ++ only))) in
      let right : (not j || r ≡ true) ↔ Projected (InAlphabet z e) (IsPartial z e) (w ++ only) =
      iff_trans (moved j (IsPartial z e) (filter (in_alphabet z e) w) ((projected_says (IsPartial z e) (in_alphabet z e) (alphabet_says z e) w).1 h.2) l)
      (iff_trans (λ p. subst (IsPartial z e) (sym (filter_end (in_alphabet z e) w a)) p, λ p. subst (IsPartial z e) (filter_end (in_alphabet z e) w a) p)
      (projected_says (IsPartial z e) (in_alphabet z e) (alphabet_says z e) (w ++ only))) in
      iff_trans
      (when_both (i || j) ((not i || q) && (not j || r))
      (one_inside (i || j) (alphabet_says (couple y z) e a) {H = λ b. InAlphabet y e b ⊎ InAlphabet z e b} itself w h.0)
      (when_both (not i || q) (not j || r) left right))
      (λ g. (g.0, g.1.0, g.1.1), λ g. (g.0, (g.1, g.2)))

  pub first_par_star : (y : Form) (e : Environment) → Begins y e → Begins (par_star y) e
  first_par_star y e k = iff_trans k (λ p. record { owners = 0 ∷ []; as_long = refl; each_has = item p no_item }, λ h. from h.owners h.as_long h.each_has)
    where
      owned : (b : Bool) → b ≡ true → IsPartial y e (cond b only []) → IsPartial y e only
      owned true t p = p
      owned false t p = absurd (true≢false (sym t))

      from : (owners : List ℕ) → length owners ≡ length only → Each (λ owner. IsPartial y e (part (λ other. owner == other) owners only)) owners → IsPartial y e only
      from [] l h = absurd (omega arith)
      from (j ∷ []) l h = owned (j == j) (eq-eqb j j refl) (Each-head h)
      from (j ∷ i ∷ owners) l h = absurd (omega arith)

-- Numbers as owners of one more action

-- the place of the first k, or the length
abbrev pub place : List ℕ → ℕ → ℕ
place [] k = 0
place (j ∷ owners) k = cond (k == j) 0 (suc (place owners k))

pub place-below : (owners : List ℕ) (k : ℕ) → Member k owners → place owners k < length owners
place-below [] k m = elim m [ ]
place-below (j ∷ owners) k m = chosen (k == j) refl (Member-cases m) (place-below owners k)
  where
    chosen : (b : Bool) → (k == j) ≡ b → (k ≡ j) ⊎ Member k owners → (Member k owners → place owners k < length owners) → cond b 0 (suc (place owners k)) < suc (length owners)
    chosen true e c later = omega arith
    chosen false e (inl same) later = absurd (true≢false (sym (eq-eqb k j same) ∙ e))
    chosen false e (inr n) later = let h : place owners k < length owners = later n in omega arith

pub place-once : (owners : List ℕ) (k j : ℕ) → Member k owners → place owners k ≡ place owners j → k ≡ j
place-once [] k j m e = elim m [ ]
place-once (i ∷ owners) k j m e = both (k == i) (j == i) refl refl (Member-cases m) (place-once owners k j) e
  where
    both : (b c : Bool) → (k == i) ≡ b → (j == i) ≡ c → (k ≡ i) ⊎ Member k owners → (Member k owners → place owners k ≡ place owners j → k ≡ j) → cond b 0 (suc (place owners k)) ≡ cond c 0 (suc (place owners j)) → k ≡ j
    both true true f g h later d = eqb-true k i f ∙ sym (eqb-true j i g)
    both true false f g h later d = absurd (omega arith)
    both false true f g h later d = absurd (omega arith)
    both false false f g (inl same) later d = absurd (true≢false (sym (eq-eqb k i same) ∙ f))
    both false false f g (inr n) later d = later n (omega arith)

pub place-test : (owners : List ℕ) (j i : ℕ) → Member i owners → (place owners j == place owners i) ≡ (j == i)
place-test owners j i m = both_ways (place owners j == place owners i) (j == i)
    (λ e. eq-eqb j i (sym (place-once owners i j m (sym (eqb-true _ _ e)))))
    (λ e. eq-eqb _ _ (ap (place owners) (eqb-true j i e)))

-- numbered by places each number has the part that it had
pub placed_part : (owners : List ℕ) (w : Word) (k : ℕ) → numbered_part (map (place owners) owners) w (place owners k) ≡ numbered_part owners w k
placed_part owners w k =
    part-map (λ other. place owners k == other) (place owners) owners w
    ∙ part-members (λ i. place owners k == place owners i) (λ i. k == i) owners w (λ i m. place-test owners k i m)

module _ (P : Word → Type 0) (closed : Closed P) (w : Word) (a : PlainAction) where
  -- one more action goes to a part, or makes one of its own
  abbrev pub Goes : List ℕ → Type 0
  Goes owners = Each P (nonempty_parts owners w) × (P (a ∷ []) ⊎ SomeWay (λ u. P (u ++ a ∷ [])) (nonempty_parts owners w))

  pub one_more : (owners : List ℕ) → length owners ≡ length w → Each (λ j. P (numbered_part owners w j)) owners → (k : ℕ) → P (numbered_part owners w k ++ a ∷ []) → Numbered P (w ++ a ∷ [])
  one_more owners l h k p = record {
    owners = owners ++ k ∷ [];
    as_long = omega (arith, length-append owners (k ∷ []), length-append w (a ∷ []));
    each_has =
        Each-append
        (Each-members owners (λ j m. subst P (sym (grown j)) (chosen j (j == k) refl (Each-member h m))))
        (item (subst P (sym (grown k)) (own (k == k) (eq-eqb k k refl))) no_item);
  }
    where
      grown : (j : ℕ) → part (λ other. j == other) (owners ++ k ∷ []) (w ++ a ∷ []) ≡ numbered_part owners w j ++ cond (j == k) (a ∷ []) []
      grown j = parts_grow (λ other. j == other) owners w k a l

      own : (b : Bool) → b ≡ true → P (numbered_part owners w k ++ cond b (a ∷ []) [])
      own true e = p
      own false e = absurd (true≢false (sym e))

      chosen : (j : ℕ) (b : Bool) → (j == k) ≡ b → P (numbered_part owners w j) → P (numbered_part owners w j ++ cond b (a ∷ []) [])
      chosen j true e q = subst (λ i. P (numbered_part owners w i ++ a ∷ [])) (sym (eqb-true j k e)) p
      chosen j false e q = subst P (sym (append-nil (numbered_part owners w j))) q

  -- a number that owns nothing
  pub new_part : (owners : List ℕ) → Each (λ k. k < length w) owners → numbered_part owners w (length w) ≡ []
  new_part owners h = part-unused (λ other. length w == other) owners w (Each-weaker (λ k b. other k (length w == k) refl b) h)
    where
      other : (k : ℕ) (t : Bool) → (length w == k) ≡ t → k < length w → t ≡ false
      other k true e b = let same : length w ≡ k = eqb-true (length w) k e in absurd (omega arith)
      other k false e b = refl

  pub more_to : SomeWay Goes (numberings w) → Numbered P (w ++ a ∷ [])
  more_to k =
      let long : length k.way ≡ length w = long_to (numbers_below (length w)) w k.way k.among in
      let low : Each (λ j. j < length w) k.way = each_below (numbers_to (numbers_below (length w)) w k.way k.among) in
      let parts : Each (λ j. P (numbered_part k.way w j)) k.way = parts_to w k.way long low k.has.0 in
      elim k.has.1 [
        | inl p ↦ one_more k.way long parts (length w) (subst (λ u. P (u ++ a ∷ [])) (sym (new_part k.way low)) p)
        | inr j ↦
            let i = Member-map (numbered_part k.way w) (numbers_below (length w)) (Member-filter (λ u. not (is_empty u)) (map (numbered_part k.way w) (numbers_below (length w))) j.among).0 in
            one_more k.way long parts i.0 (subst (λ u. P (u ++ a ∷ [])) i.2 j.has)
      ]

  pub less_from : (owners : List ℕ) (k : ℕ) → length owners ≡ length w → Each (λ j. P (part (λ other. j == other) (owners ++ k ∷ []) (w ++ a ∷ []))) (owners ++ k ∷ []) → SomeWay Goes (numberings w)
  less_from owners k l h = record {
    way = numbers;
    among = long_from (numbers_below (length w)) w numbers long (Each-map (place owners) (Each-members owners (λ j m. below_from (length w) (place owners j) (below_length j m))));
    has = (parts_from w numbers parts, goes (numbered_part numbers w (place owners k)) refl);
  }
    where
      numbers : List ℕ
      numbers = map (place owners) owners

      long : length (map (place owners) owners) ≡ length w
      long = length-map owners (place owners) ∙ l

      below_length : (j : ℕ) → Member j owners → place owners j < length w
      below_length j m = let b : place owners j < length owners = place-below owners j m in omega arith

      grown : (j : ℕ) → part (λ other. j == other) (owners ++ k ∷ []) (w ++ a ∷ []) ≡ numbered_part owners w j ++ cond (j == k) (a ∷ []) []
      grown j = parts_grow (λ other. j == other) owners w k a l

      parts : Each (λ j. P (numbered_part (map (place owners) owners) w j)) (map (place owners) owners)
      parts = Each-map (place owners) (Each-members owners (λ j m. subst P (sym (placed_part owners w j)) (closed (numbered_part owners w j) (cond (j == k) (a ∷ []) []) (subst P (grown j) (Each-member (Each-left owners (k ∷ []) h) m)))))

      own : (b : Bool) → b ≡ true → P (numbered_part owners w k ++ cond b (a ∷ []) []) → P (numbered_part owners w k ++ a ∷ [])
      own true e p = p
      own false e p = absurd (true≢false (sym e))

      moved : P (numbered_part (map (place owners) owners) w (place owners k) ++ a ∷ [])
      moved = subst (λ u. P (u ++ a ∷ [])) (sym (placed_part owners w k)) (own (k == k) (eq-eqb k k refl) (subst P (grown k) (Each-head (Each-right owners (k ∷ []) h))))

      goes : (u : Word) → numbered_part (map (place owners) owners) w (place owners k) ≡ u → P (a ∷ []) ⊎ SomeWay (λ x. P (x ++ a ∷ [])) (nonempty_parts (map (place owners) owners) w)
      goes [] e = inl (subst (λ x. P (x ++ a ∷ [])) e moved)
      goes (b ∷ u) e = inr (record { way = b ∷ u; among = there_is (owner_or_none k owners); has = subst (λ x. P (x ++ a ∷ [])) e moved })
        where
          there_is : Member k owners ⊎ Each (λ owner. (k == owner) ≡ false) owners → Member (b ∷ u) (nonempty_parts (map (place owners) owners) w)
          there_is (inl m) =
              filter-Member (λ x. not (is_empty x))
              (subst (λ x. Member x (map (numbered_part (map (place owners) owners) w) (numbers_below (length w)))) e
              (map-Member (numbered_part (map (place owners) owners) w) (below_from (length w) (place owners k) (below_length k m))))
              refl
          there_is (inr n) =
              let none_is : b ∷ u ≡ [] = sym e ∙ placed_part owners w k ∙ part-unused (λ other. k == other) owners w n in
              absurd (cc)

  pub more_from : Numbered P (w ++ a ∷ []) → SomeWay Goes (numberings w)
  more_from h = let c = cut h.owners w (a ∷ []) h.as_long in last c.first c.second c.whole c.first_long c.second_long
    where
      last : (u v : List ℕ) → h.owners ≡ u ++ v → length u ≡ length w → length v ≡ length (a ∷ []) → SomeWay Goes (numberings w)
      last u [] e l m = absurd (omega arith)
      last u (k ∷ []) e l m = less_from u k l (subst (λ ks. Each (λ j. P (part (λ other. j == other) ks (w ++ a ∷ []))) ks) e h.each_has)
      last u (k ∷ j ∷ v) e l m = absurd (omega arith)

  pub numbered_end : SomeWay Goes (numberings w) ↔ Numbered P (w ++ a ∷ [])
  numbered_end = (more_to, more_from)

module _ (a : PlainAction) where
  -- the trees of all words tell whether one more action is partial
  abbrev pub MayTells : Form → Environment → Type 0
  MayTells y e = (w : Word) → (may y e (tree_of y e w) a ≡ true) ↔ IsPartial y e (w ++ a ∷ [])

  -- a node that is dead where one test holds, and done where the other does and it is stuck
  pub either_may : (x : Form) (e : Environment) (b d : Bool) (t : Plain) {P Q : Type 0} → (d ≡ true → may x e t a ≡ false) → is_dead t ≡ false → (is_dead (dead_if b (done_if d t)) ≡ false) ↔ P → (Q → P) → (P → (may x e t a ≡ true) ↔ Q) → (may x e (dead_if b (done_if d t)) a ≡ true) ↔ Q
  either_may x e true d t f l p g c = (λ h. absurd (true≢false (sym h ∙ may_dead x e a)), λ q. absurd (true≢false (p.1 (g q))))
  either_may x e false d t f l p g c = same_test (done_may x e d t a f) (c (p.0 (done_live d t l)))

  pub node_may : (x : Form) (e : Environment) (b : Bool) (t : Plain) {P Q : Type 0} → is_dead t ≡ false → (is_dead (dead_if b (settled t)) ≡ false) ↔ P → (Q → P) → (P → (may x e t a ≡ true) ↔ Q) → (may x e (dead_if b (settled t)) a ≡ true) ↔ Q
  node_may x e b t l p g c = either_may x e b (is_spent t) t (spent_may x e t a) l p g c

  pub live_may : (y : Form) (e : Environment) → Tells y e → MayTells y e → (v : Word) → (list_any (λ s. may y e s a) (live (tree_of y e v)) ≡ true) ↔ IsPartial y e (v ++ a ∷ [])
  live_may y e k m v = iff_trans
      (when_passes (λ s. may y e s a) (is_live (tree_of y e v)) (tree_of y e v ∷ []))
      (iff_trans
      (both_iff (tree_live (tree_of y e v) (k v)) (iff_trans (one_passes (λ s. may y e s a) (tree_of y e v)) (m v)))
      (λ h. h.1, λ p. (prefix-partial y e v (a ∷ []) p, p)))

  pub atom_may : (x : PlainAtom) (e : Environment) → MayTells (atom x) e
  atom_may x e [] = first_atom a x e
  atom_may x e (b ∷ []) = (λ h. absurd (true≢false (sym h ∙ started (is_match x e b))), λ h. absurd (too_long h))
    where
      started : (t : Bool) → may (atom x) e (if t then done else dead) a ≡ false
      started true = refl
      started false = refl

      too_long : ¬ ((b ∷ a ∷ [] ≡ []) ⊎ IsOneMatch x e (b ∷ a ∷ []))
      too_long (inl n) = cc
      too_long (inr k) = let one : b ∷ a ∷ [] ≡ k.0 ∷ [] = k.1 in cc
  atom_may x e (b ∷ c ∷ w) = (λ h. absurd (true≢false (sym h)), λ h. absurd (too_long h))
    where
      too_long : ¬ ((b ∷ c ∷ (w ++ a ∷ []) ≡ []) ⊎ IsOneMatch x e (b ∷ c ∷ (w ++ a ∷ [])))
      too_long (inl n) = cc
      too_long (inr k) = let one : b ∷ c ∷ (w ++ a ∷ []) ≡ k.0 ∷ [] = k.1 in cc

  pub opt_may : (y : Form) (e : Environment) → Tells y e → MayTells y e → MayTells (opt y) e
  opt_may y e k m w = node_may (opt y) e (is_dead (tree_of y e w)) (opt_tree (is_empty w) (tree_of y e w)) refl (opt_told y e k w).partial (prefix-partial y e w (a ∷ [])) (λ p. m w)

  module _ (y z : Form) (e : Environment) where
    pub seq_end : (w : Word) → (IsPartial y e (w ++ a ∷ []) ⊎ SomeWay (λ c. IsComplete y e c.0 × IsPartial z e (c.1 ++ a ∷ [])) (cuts w)) ↔ IsPartial (seq y z) e (w ++ a ∷ [])
    seq_end w = (
      λ h. elim h [ inl p ↦ inl p | inr k ↦ inr (joined_more w a k) ],
      λ h. elim h [
        | inl p ↦ inl p
        | inr j ↦ elim (joined_end w a j) [ inl b ↦ inl (complete-partial y e (w ++ a ∷ []) b.0) | inr k ↦ inr k ]
      ],
    )

    pub seq_may : Tells y e → Tells z e → MayTells y e → MayTells z e → MayTells (seq y z) e
    seq_may k l m n w =
        let test : Plain → Bool = λ s. may z e s a in
        let rest : List Plain = flat_map (seq_rest y z e) (cuts w) in
        node_may (seq y z) e (is_dead (tree_of y e w) && is_empty rest) (seq_parts (tree_of y e w) rest) refl (seq_told y z e k l w).partial (prefix-partial (seq y z) e w (a ∷ []))
        (λ p. iff_trans
        (when_either (may y e (unless_done (tree_of y e w)) a) (list_any test (items_of (set_of (filter is_open rest))))
        (same_test (unless_may y e (tree_of y e w) a) (m w))
        (same_test (any_set test (filter is_open rest) ∙ any_open test (may_dead z e a) (may_done z e a) rest) (made_says test (seq_rest y z e) (cuts w) (λ c i. seq_says y z e k test c (live_may z e l n c.1)))))
        (seq_end w))

    pub pair_may : Tells y e → Tells z e → MayTells y e → MayTells z e → (s : Word × Word) → (list_any (λ p. may y e (first_part p) a || may z e (second_part p) a) (par_pair y z e s) ≡ true) ↔ ((IsPartial y e (s.0 ++ a ∷ []) × IsPartial z e s.1) ⊎ (IsPartial y e s.0 × IsPartial z e (s.1 ++ a ∷ [])))
    pair_may k l m n s =
        let t : Plain = tree_of y e s.0 in
        let u : Plain = tree_of z e s.1 in
        let test : Plain → Bool = λ p. may y e (first_part p) a || may z e (second_part p) a in
        iff_trans (when_passes test (is_live t && is_live u) (pair_of t u ∷ []))
        (iff_trans
        (both_iff
        (when_both (is_live t) (is_live u) (tree_live t (k s.0)) (tree_live u (l s.1)))
        (iff_trans (one_passes test (pair_of t u)) (when_either (may y e t a) (may z e u a) (m s.0) (n s.1)))) (
          λ h. elim h.1 [ inl p ↦ inl (p, h.0.1) | inr p ↦ inr (h.0.0, p) ],
          λ h. elim h [
            | inl p ↦ ((prefix-partial y e s.0 (a ∷ []) p.0, p.1), inl p.0)
            | inr p ↦ ((p.0, prefix-partial z e s.1 (a ∷ []) p.1), inr p.1)
          ],
        ))

    pub par_may : Tells y e → Tells z e → MayTells y e → MayTells z e → MayTells (par y z) e
    par_may k l m n w =
        let test : Plain → Bool = λ p. may y e (first_part p) a || may z e (second_part p) a in
        let pairs : List Plain = flat_map (par_pair y z e) (splits w) in
        node_may (par y z) e (is_empty pairs) (par_tree (set_of pairs)) refl (par_told y z e k l w).partial (prefix-partial (par y z) e w (a ∷ []))
        (λ p. same_test (any_set test pairs) (iff_trans (made_says test (par_pair y z e) (splits w) (λ s i. pair_may k l m n s)) (iff_sym (split_end w a))))

    pub or_may : Tells y e → Tells z e → MayTells y e → MayTells z e → MayTells (or y z) e
    or_may k l m n w =
        node_may (or y z) e (is_dead (tree_of y e w) && is_dead (tree_of z e w)) (or_tree (tree_of y e w) (tree_of z e w)) refl (or_told y z e k l w).partial (prefix-partial (or y z) e w (a ∷ []))
        (λ p. when_either (may y e (tree_of y e w) a) (may z e (tree_of z e w) a) (m w) (n w))

    pub and_may : Tells y e → Tells z e → MayTells y e → MayTells z e → MayTells (and y z) e
    and_may k l m n w =
        node_may (and y z) e (is_dead (tree_of y e w) || is_dead (tree_of z e w)) (and_tree (tree_of y e w) (tree_of z e w)) refl (and_told y z e k l w).partial (prefix-partial (and y z) e w (a ∷ []))
        (λ p. when_both (may y e (tree_of y e w) a) (may z e (tree_of z e w) a) (m w) (n w))

    pub couple_may : Tells y e → Tells z e → MayTells y e → MayTells z e → MayTells (couple y z) e
    couple_may k l m n w =
        node_may (couple y z) e _ (couple_tree (tree_of y e (filter (in_alphabet y e) w)) (tree_of z e (filter (in_alphabet z e) w))) refl (couple_told y z e k l w).partial (prefix-partial (couple y z) e w (a ∷ []))
        (λ p. couple_end a y z e w p (m (filter (in_alphabet y e) w)) (n (filter (in_alphabet z e) w)))

  module _ (y : Form) (e : Environment) where
    pub star_end : (w : Word) → ((Repeated (IsComplete y e) w × IsPartial y e (a ∷ [])) ⊎ SomeWay (λ c. Repeated (IsComplete y e) c.0 × (¬ (c.1 ≡ []) × IsPartial y e (c.1 ++ a ∷ []))) (cuts w)) ↔ IsPartial (star y) e (w ++ a ∷ [])
    star_end w = (
      λ h. elim h [
        | inl b ↦ record { front = w; back = a ∷ []; whole = refl; front_has = b.0; back_has = b.1 }
        | inr k ↦ joined_more {Q = Repeated (IsComplete y e)} {R = IsPartial y e} w a (record { way = k.way; among = k.among; has = (k.has.0, k.has.1.1) })
      ],
      λ h. elim (joined_end {Q = Repeated (IsComplete y e)} {R = IsPartial y e} w a h) [
        | inl b ↦ let j = repeated_end w a b.0 in from j.front j.back j.whole j.front_has (complete-partial y e (j.back ++ a ∷ []) j.back_has)
        | inr k ↦ from k.way.0 k.way.1 (cut_is w k.way k.among) k.has.0 k.has.1
      ],
    )
      where
        from : (u v : Word) → w ≡ u ++ v → Repeated (IsComplete y e) u → IsPartial y e (v ++ a ∷ []) → (Repeated (IsComplete y e) w × IsPartial y e (a ∷ [])) ⊎ SomeWay (λ c. Repeated (IsComplete y e) c.0 × (¬ (c.1 ≡ []) × IsPartial y e (c.1 ++ a ∷ []))) (cuts w)
        from u [] i r p = inl (subst (Repeated (IsComplete y e)) (sym (i ∙ append-nil u)) r, p)
        from u (b ∷ v) i r p = inr (record { way = (u, b ∷ v); among = cut_among w u (b ∷ v) i; has = (r, (λ n. cc, p)) })

    pub rest_may : Tells y e → MayTells y e → (c : Word × Word) → (list_any (λ s. may y e s a) (star_rest y e c) ≡ true) ↔ (Repeated (IsComplete y e) c.0 × (¬ (c.1 ≡ []) × IsPartial y e (c.1 ++ a ∷ [])))
    rest_may k m c = iff_trans
        (when_passes (λ s. may y e s a) (not (is_empty c.1) && again y e c.0) (live (tree_of y e c.1)))
        (iff_trans
        (both_iff (when_both (not (is_empty c.1)) (again y e c.0) (when_not (is_empty c.1) (filled_says c.1)) (again_says y e k c.0)) (live_may y e k m c.1))
        (λ h. (h.0.1, (h.0.0, h.1)), λ h. ((h.1.0, h.0), h.1.1)))

    pub star_may : Tells y e → (may_first y e a ≡ true) ↔ IsPartial y e (a ∷ []) → MayTells y e → MayTells (star y) e
    star_may k f m w =
        let test : Plain → Bool = λ s. may y e s a in
        let rest : List Plain = flat_map (star_rest y e) (cuts w) in
        node_may (star y) e (not (again y e w) && is_empty rest) (star_tree (again y e w) (set_of (filter is_open rest))) refl (star_told y e k w).partial (prefix-partial (star y) e w (a ∷ []))
        (λ p. iff_trans
        (when_either (again y e w && may_first y e a) (list_any test (items_of (set_of (filter is_open rest))))
        (when_both (again y e w) (may_first y e a) (again_says y e k w) f)
        (same_test (any_set test (filter is_open rest) ∙ any_open test (may_dead y e a) (may_done y e a) rest) (made_says test (star_rest y e) (cuts w) (λ c i. rest_may k m c))))
        (star_end w))

    pub bag_may : Tells y e → (may_first y e a ≡ true) ↔ IsPartial y e (a ∷ []) → MayTells y e → (w : Word) (owners : List ℕ) → (list_any (λ b. may_first y e a || list_any (λ s. may y e s a) (items_of (first_part b))) (par_star_bag y e w owners) ≡ true) ↔ Goes (IsPartial y e) (prefix-partial y e) w a owners
    bag_may k f m w owners =
        let test : Plain → Bool = λ b. may_first y e a || list_any (λ s. may y e s a) (items_of (first_part b)) in
        let parts : List Word = nonempty_parts owners w in
        let trees : List Plain = map (tree_of y e) parts in
        let kept : List Plain = filter is_open trees in
        iff_trans (when_passes test (list_all is_live trees) (bag_of (listed (sorted kept)) ∷ []))
        (both_iff
        (all_map is_live (tree_of y e) parts (λ u i. tree_live (tree_of y e u) (k u)))
        (iff_trans (one_passes test (bag_of (listed (sorted kept))))
        (when_either (may_first y e a) (list_any (λ s. may y e s a) (items_of (listed (sorted kept)))) f
        (same_test (any_sorted (λ s. may y e s a) kept ∙ any_open (λ s. may y e s a) (may_dead y e a) (may_done y e a) trees) (any_map (λ s. may y e s a) (tree_of y e) parts (λ u i. m u))))))

    pub par_star_may : Tells y e → (may_first y e a ≡ true) ↔ IsPartial y e (a ∷ []) → MayTells y e → MayTells (par_star y) e
    par_star_may k f m w =
        let test : Plain → Bool = λ b. may_first y e a || list_any (λ s. may y e s a) (items_of (first_part b)) in
        let bags : List Plain = flat_map (par_star_bag y e w) (numberings w) in
        node_may (par_star y) e (is_empty bags) (par_star_tree (set_of bags)) refl (par_star_told y e k w).partial (prefix-partial (par_star y) e w (a ∷ []))
        (λ p. same_test (any_set test bags) (iff_trans (made_says test (par_star_bag y e w) (numberings w) (λ owners i. bag_may k f m w owners)) (numbered_end (IsPartial y e) (prefix-partial y e) w a)))
