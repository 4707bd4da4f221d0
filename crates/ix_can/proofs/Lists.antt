-- What tests of lists say of their members.
use Rattle.std.proofs.Common.{◌≡◌, ◌↔◌, ◌⊎◌, inl, inr, Bool, true, false, not, cond, ◌&&◌, ◌||◌, List, [], ◌∷◌, ◌++◌, map, flat_map, filter, refl, sym, ap, ◌∙◌, true≢false, subst}
use Rattle.std.specs.List.{list_any, list_all}
use Rattle.ix_words.specs.Each.{Each, no_item, item, Member, here, there}
use Rattle.ix_words.specs.Canon.{SameMembers, when}
use Rattle.ix_words.proofs.Each.{Each-head, Each-tail, Each-weaker, Each-member, Each-members, Member-left, Member-right, Member-either}
use Rattle.ix_words.proofs.Canon.{Member-cases, Member-same, Member-flat_map}
use Rattle.ix_words.proofs.Deciding.{itself, iff_trans, iff_sym, one_test, when_either, when_both, any_to, any_from}
use Rattle.ix_can.specs.Ways.{is_empty}

-- Equivalences

pub both_iff : {A B C D : Type 0} → A ↔ B → C ↔ D → (A × C) ↔ (B × D)
both_iff f g = (λ h. (f.0 h.0, g.0 h.1), λ h. (f.1 h.0, g.1 h.1))

pub either_iff : {A B C D : Type 0} → A ↔ B → C ↔ D → (A ⊎ C) ↔ (B ⊎ D)
either_iff f g = (λ h. elim h [ inl a ↦ inl (f.0 a) | inr c ↦ inr (g.0 c) ], λ h. elim h [ inl b ↦ inl (f.1 b) | inr d ↦ inr (g.1 d) ])

pub same_test : {a b : Bool} {C : Type 0} → a ≡ b → (b ≡ true) ↔ C → (a ≡ true) ↔ C
same_test e k = (λ h. k.0 (sym e ∙ h), λ c. e ∙ k.1 c)

pub unless_either : (a b : Bool) {A B : Type 0} → (a ≡ false) ↔ A → (b ≡ false) ↔ B → (a || b ≡ false) ↔ (A × B)
unless_either true b f g = (λ e. absurd (true≢false e), λ h. absurd (true≢false (f.1 h.0)))
unless_either false b f g = (λ e. (f.0 refl, g.0 e), λ h. g.1 h.1)

pub unless_both : (a b : Bool) {A B : Type 0} → (a ≡ false) ↔ A → (b ≡ false) ↔ B → (a && b ≡ false) ↔ (A ⊎ B)
unless_both true b f g = (λ e. inr (g.0 e), λ h. elim h [ inl k ↦ absurd (true≢false (f.1 k)) | inr k ↦ g.1 k ])
unless_both false b f g = (λ e. inl (f.0 refl), λ h. refl)

pub unless_not : (a : Bool) {A : Type 0} → (a ≡ true) ↔ A → (not a ≡ false) ↔ A
unless_not true f = (λ e. f.0 refl, λ h. refl)
unless_not false f = (λ e. absurd (true≢false e), λ h. absurd (true≢false (sym (f.1 h))))

pub when_not : (a : Bool) {A : Type 0} → (a ≡ false) ↔ A → (not a ≡ true) ↔ A
when_not true f = (λ e. absurd (true≢false (sym e)), λ h. absurd (true≢false (f.1 h)))
when_not false f = (λ e. f.0 refl, λ h. refl)

pub each_iff : {A : Type 0} {G H : A → Type 0} {w : List A} → ((a : A) → G a ↔ H a) → Each G w ↔ Each H w
each_iff says = (λ h. Each-weaker (λ a g. (says a).0 g) h, λ h. Each-weaker (λ a g. (says a).1 g) h)

-- Members that pass

module _ {A : Type 0} (test : A → Bool) where
  pub all_to : (w : List A) → list_all test w ≡ true → Each (λ a. test a ≡ true) w
  all_to [] e = no_item
  all_to (a ∷ w) e =
      let k = (when_both (test a) (list_all test w) itself itself).0 e in
      item k.0 (all_to w k.1)

  pub all_from : {w : List A} → Each (λ a. test a ≡ true) w → list_all test w ≡ true
  all_from no_item = refl
  all_from (item {a} {w} g h) = (when_both (test a) (list_all test w) itself itself).1 (g, all_from h)

  pub all_are : {G : A → Type 0} → ((a : A) → (test a ≡ true) ↔ G a) → (w : List A) → (list_all test w ≡ true) ↔ Each G w
  all_are says w = (
    λ e. Each-weaker (λ a h. (says a).0 h) (all_to w e),
    λ h. all_from (Each-weaker (λ a g. (says a).1 g) h),
  )

  -- none passes exactly where each fails
  pub none_says : (w : List A) → (list_any test w ≡ false) ↔ (list_all (λ a. not (test a)) w ≡ true)
  none_says [] = (λ e. refl, λ e. refl)
  none_says (a ∷ w) =
      let k = unless_either (test a) (list_any test w) (iff_sym (when_not (test a) itself)) (none_says w) in
      iff_trans k (iff_sym (when_both (not (test a)) (list_all (λ b. not (test b)) w) itself itself))

  kept_to : (b : Bool) (a : A) {c : A} (w : List A) → test a ≡ b → (Member c (filter test w) → Member c w × (test c ≡ true)) → Member c (cond b (a ∷ filter test w) (filter test w)) → Member c (a ∷ w) × (test c ≡ true)
  kept_to true a w e later m =
      elim (Member-cases m) [ inl same ↦ (Member-same w same, ap test same ∙ e) | inr n ↦ let k = later n in (there k.0, k.1) ]
  kept_to false a w e later m = let k = later m in (there k.0, k.1)

  -- what the filter keeps is among the list and passes
  pub Member-filter : {c : A} (w : List A) → Member c (filter test w) → Member c w × (test c ≡ true)
  Member-filter [] m = elim m [ ]
  Member-filter (a ∷ w) m = kept_to (test a) a w refl (Member-filter w) m

  kept_first : (b : Bool) (a : A) (w : List A) → b ≡ true → Member a (cond b (a ∷ w) w)
  kept_first true a w e = here
  kept_first false a w e = absurd (true≢false (sym e))

  kept_later : (b : Bool) (a : A) {c : A} (w : List A) → Member c w → Member c (cond b (a ∷ w) w)
  kept_later true a w m = there m
  kept_later false a w m = m

  pub filter-Member : {c : A} {w : List A} → Member c w → test c ≡ true → Member c (filter test w)
  filter-Member {c} (here {w}) e = kept_first (test c) c (filter test w) e
  filter-Member (there {b} {w} m) e = kept_later (test b) b (filter test w) (filter-Member m e)

  pub any_same : (u v : List A) → SameMembers u v → list_any test u ≡ list_any test v
  any_same u v s = one_test _ _ (
    λ e. let k = any_to test u e in any_from test v (s.to k.which k.among) k.passes,
    λ e. let k = any_to test v e in any_from test u (s.from k.which k.among) k.passes,
  )

  pub all_same : (u v : List A) → SameMembers u v → list_all test u ≡ list_all test v
  all_same u v s = one_test _ _ (
    λ e. all_from (Each-members v (λ a m. Each-member (all_to u e) (s.from a m))),
    λ e. all_from (Each-members u (λ a m. Each-member (all_to v e) (s.to a m))),
  )

  -- what is listed where a test holds
  pub when_passes : (b : Bool) (w : List A) → (list_any test (when b w) ≡ true) ↔ ((b ≡ true) × (list_any test w ≡ true))
  when_passes true w = (λ e. (refl, e), λ h. h.1)
  when_passes false w = (λ e. absurd (true≢false (sym e)), λ h. absurd (true≢false (sym h.0)))

  or_false : (b : Bool) → (b || false ≡ true) ↔ (b ≡ true)
  or_false true = (λ e. e, λ e. e)
  or_false false = (λ e. e, λ e. e)

  pub one_passes : (a : A) → (list_any test (a ∷ []) ≡ true) ↔ (test a ≡ true)
  one_passes a = or_false (test a)

  any_append : (u v : List A) → (list_any test (u ++ v) ≡ true) ↔ ((list_any test u ≡ true) ⊎ (list_any test v ≡ true))
  any_append u v = (
    λ e. let k = any_to test (u ++ v) e in
        elim (Member-either u v k.among) [ inl l ↦ inl (any_from test u l k.passes) | inr r ↦ inr (any_from test v r k.passes) ],
    λ h. elim h [
      | inl e ↦ let k = any_to test u e in any_from test (u ++ v) (Member-left k.among v) k.passes
      | inr e ↦ let k = any_to test v e in any_from test (u ++ v) (Member-right u k.among) k.passes
    ],
  )

-- a member of the list for which something that passes is made
pub record SomeWay {B : Type 0} (G : B → Type 0) (ws : List B) : Type 0 where
  pub way : B
  pub among : Member way ws
  pub has : G way

module _ {A B : Type 0} (test : A → Bool) (make : B → List A) where
  made_to : (ws : List B) → list_any test (flat_map make ws) ≡ true → SomeWay (λ b. list_any test (make b) ≡ true) ws
  made_to ws e =
      let k = any_to test (flat_map make ws) e in
      let m = Member-flat_map make ws k.among in
      record { way = m.0; among = m.1; has = any_from test (make m.0) m.2 k.passes }

  made_from : (ws : List B) {b : B} → Member b ws → list_any test (make b) ≡ true → list_any test (flat_map make ws) ≡ true
  made_from [] m e = elim m [ ]
  made_from (c ∷ ws) m e =
      elim (Member-cases m) [
        | inl same ↦ (any_append test (make c) (flat_map make ws)).1 (inl (ap (λ x. list_any test (make x)) (sym same) ∙ e))
        | inr n ↦ (any_append test (make c) (flat_map make ws)).1 (inr (made_from ws n e))
      ]

  -- something made passes exactly where what is made of some member passes
  pub made_says : {G : B → Type 0} (ws : List B) → ((b : B) → Member b ws → (list_any test (make b) ≡ true) ↔ G b) → (list_any test (flat_map make ws) ≡ true) ↔ SomeWay G ws
  made_says ws says = (
    λ e. let k = made_to ws e in record { way = k.way; among = k.among; has = (says k.way k.among).0 k.has },
    λ k. made_from ws k.among ((says k.way k.among).1 k.has),
  )

-- any tree passes
abbrev pub passes_all : {A : Type 0} → A → Bool
passes_all a = true

pub filled : {A : Type 0} (w : List A) → (is_empty w ≡ false) ↔ (list_any passes_all w ≡ true)
filled [] = (λ e. absurd (true≢false e), λ e. absurd (true≢false (sym e)))
filled (a ∷ w) = (λ e. refl, λ e. refl)

pub empty_says : {A : Type 0} (w : List A) → (is_empty w ≡ true) ↔ (w ≡ [])
empty_says [] = (λ e. refl, λ e. refl)
empty_says (a ∷ w) = (λ e. absurd (true≢false (sym e)), λ e. absurd (cc))

pub filled_says : {A : Type 0} (w : List A) → (is_empty w ≡ false) ↔ ¬ (w ≡ [])
filled_says [] = (λ e. absurd (true≢false e), λ n. absurd (n refl))
filled_says (a ∷ w) = (λ e f. cc, λ n. refl)

-- a way to have G is a way to have H
pub way_says : {B : Type 0} {G H : B → Type 0} {ws : List B} → ((b : B) → Member b ws → G b ↔ H b) → SomeWay G ws ↔ SomeWay H ws
way_says says = (
  λ k. record { way = k.way; among = k.among; has = (says k.way k.among).0 k.has },
  λ k. record { way = k.way; among = k.among; has = (says k.way k.among).1 k.has },
)

-- a test of what is made of each member
pub all_map : {A B : Type 0} {Q : B → Type 0} (test : A → Bool) (make : B → A) (ws : List B) → ((b : B) → Member b ws → (test (make b) ≡ true) ↔ Q b) → (list_all test (map make ws) ≡ true) ↔ Each Q ws
all_map test make [] says = (λ e. no_item, λ h. refl)
all_map test make (b ∷ ws) says =
    let rest = all_map test make ws (λ c m. says c (there m)) in
    let one = says b here in (
      λ e. let k = (when_both (test (make b)) (list_all test (map make ws)) one rest).0 e in item k.0 k.1,
      λ h. (when_both (test (make b)) (list_all test (map make ws)) one rest).1 (Each-head h, Each-tail h),
    )

pub any_map : {A B : Type 0} {Q : B → Type 0} (test : A → Bool) (make : B → A) (ws : List B) → ((b : B) → Member b ws → (test (make b) ≡ true) ↔ Q b) → (list_any test (map make ws) ≡ true) ↔ SomeWay Q ws
any_map test make [] says = (λ e. absurd (true≢false (sym e)), λ k. elim k.among [ ])
any_map {Q = Q} test make (b ∷ ws) says =
    let k = when_either (test (make b)) (list_any test (map make ws)) (says b here) (any_map test make ws (λ c m. says c (there m))) in (
      λ e. elim (k.0 e) [
        | inl q ↦ record { way = b; among = here; has = q }
        | inr j ↦ record { way = j.way; among = there j.among; has = j.has }
      ],
      λ j. k.1 (elim (Member-cases j.among) [
        | inl e ↦ inl (subst Q e j.has)
        | inr m ↦ inr (record { way = j.way; among = m; has = j.has })
      ]),
    )
