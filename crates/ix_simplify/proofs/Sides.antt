-- Both sides of a law mean the same, a lemma for each law.
use Rattle.std.proofs.Common.{◌≡◌, ◌↔◌, ◌⊎◌, inl, inr, ℕ, false, List, [], Some, sym, subst}
use Rattle.ix_words.specs.Each.{Each}
use Rattle.ix_words.specs.Words.{Joined, Repeated, Numbered}
use Rattle.ix_words.proofs.Each.{Each-weaker}
use Rattle.ix_words.proofs.Words.{Repeated-empty, Numbered-empty}
use Rattle.ix_values.specs.PlainAction.{Word}
use Rattle.ix_expr.specs.Form.{Form, opt, star, par_star, or, and, couple, any, every, sync}
use Rattle.ix_expr.specs.Environment.{Environment, bind}
use Rattle.ix_expr.specs.Meaning.{InAlphabet, IsComplete, IsPartial}
use Rattle.ix_expr.proofs.LawsOfMeaning.{complete-partial, partial-alphabet}
use Rattle.ix_expr.specs.Mentions.{some_names}
use Rattle.ix_simplify.specs.Laws.{MeanTheSame}
use Rattle.ix_simplify.specs.Rewriting.{Law, opt_opt, opt_star, opt_par_star, star_star, star_opt, star_par_star, par_star_par_star, par_star_star}
use Rattle.ix_simplify.specs.Rewriting.{par_star_opt, or_same, and_same, couple_same, any_unnamed, every_unnamed, sync_unnamed}
use Rattle.ix_simplify.proofs.Pieces.{Repeated-one, Repeated-both, Repeated-fold, Joined-back, Joined-twice, Joined-fronts, Projected-itself}
use Rattle.ix_simplify.proofs.Pieces.{Projected-whole}
use Rattle.ix_simplify.proofs.Numbers.{Numbered-one, Numbered-both, Joined-split, Repeated-numbered, Numbered-fold}
use Rattle.ix_simplify.proofs.Unnamed.{given-complete, given-partial, given-alphabet}

alike : {P : Type 0} → P ↔ P
alike = (λ h. h, λ h. h)

-- nothing, or what has it
or_nothing : (Q : Word → Type 0) (w : Word) → Q [] → (w ≡ []) ⊎ Q w → Q w
or_nothing Q w q h = elim h [ inl n ↦ subst Q (sym n) q | inr k ↦ k ]

optional-twice : (y : Form) → MeanTheSame (opt (opt y)) (opt y)
optional-twice y = record {
  complete = λ e w. (λ h. elim h [ inl n ↦ inl n | inr k ↦ k ], λ h. inr h);
  partial = λ e w. alike;
  alphabet = λ e a. alike;
}

optional-star : (y : Form) → MeanTheSame (opt (star y)) (star y)
optional-star y = record {
  complete = λ e w. (λ h. or_nothing (Repeated (IsComplete y e)) w Repeated-empty h, λ h. inr h);
  partial = λ e w. alike;
  alphabet = λ e a. alike;
}

optional-par_star : (y : Form) → MeanTheSame (opt (par_star y)) (par_star y)
optional-par_star y = record {
  complete = λ e w. (λ h. or_nothing (Numbered (IsComplete y e)) w Numbered-empty h, λ h. inr h);
  partial = λ e w. alike;
  alphabet = λ e a. alike;
}

star-twice : (y : Form) → MeanTheSame (star (star y)) (star y)
star-twice y = record {
  complete = λ e w. (Repeated-fold (λ u r. r) w, Repeated-one w);
  partial = λ e w. (
    λ h. Joined-twice {Q = Repeated (IsComplete y e)} (λ u v. Repeated-both u v) w (Joined-fronts (Repeated-fold (λ u r. r)) w h),
    Joined-back w Repeated-empty,
  );
  alphabet = λ e a. alike;
}

star-optional : (y : Form) → MeanTheSame (star (opt y)) (star y)
star-optional y =
    let to : (e : Environment) (u : Word) → Repeated (IsComplete (opt y) e) u → Repeated (IsComplete y e) u =
    λ e. Repeated-fold (λ u h. elim h [ inl n ↦ subst (Repeated (IsComplete y e)) (sym n) Repeated-empty | inr c ↦ Repeated-one u c ]) in
    let from : (e : Environment) (u : Word) → Repeated (IsComplete y e) u → Repeated (IsComplete (opt y) e) u =
    λ e. Repeated-fold (λ u c. Repeated-one u (inr c)) in
    record {
      complete = λ e w. (to e w, from e w);
      partial = λ e w. (Joined-fronts (to e) w, Joined-fronts (from e) w);
      alphabet = λ e a. alike;
    }

-- what is complete is partial, so a number of them side by side is partial
complete-numbered : (y : Form) (e : Environment) (u : Word) → Numbered (IsComplete y e) u → Numbered (IsPartial y e) u
complete-numbered y e = Numbered-fold (λ u c. Numbered-one u (complete-partial y e u c))

star-par_star : (y : Form) → MeanTheSame (star (par_star y)) (par_star y)
star-par_star y = record {
  complete = λ e w. (Repeated-numbered (λ u n. n) w, Repeated-one w);
  partial = λ e w. (
    λ h. Numbered-both w (Joined-split w (Joined-fronts (Repeated-numbered (complete-numbered y e)) w h)),
    Joined-back w Repeated-empty,
  );
  alphabet = λ e a. alike;
}

par_star-twice : (y : Form) → MeanTheSame (par_star (par_star y)) (par_star y)
par_star-twice y = record {
  complete = λ e w. (Numbered-fold (λ u n. n) w, Numbered-one w);
  partial = λ e w. (Numbered-fold (λ u n. n) w, Numbered-one w);
  alphabet = λ e a. alike;
}

par_star-star : (y : Form) → MeanTheSame (par_star (star y)) (par_star y)
par_star-star y = record {
  complete = λ e w. (
    Numbered-fold (Repeated-numbered (λ v c. Numbered-one v c)) w,
    Numbered-fold (λ u c. Numbered-one u (Repeated-one u c)) w,
  );
  partial = λ e w. (
    Numbered-fold (λ u h. Numbered-both u (Joined-split u (behind e u h))) w,
    Numbered-fold (λ u p. Numbered-one u (Joined-back u Repeated-empty p)) w,
  );
  alphabet = λ e a. alike;
}
  where
    behind : (e : Environment) (u : Word) → Joined (Repeated (IsComplete y e)) (IsPartial y e) u
        → Joined (Numbered (IsPartial y e)) (Numbered (IsPartial y e)) u
    behind e u h = record {
      front = h.front;
      back = h.back;
      whole = h.whole;
      front_has = Repeated-numbered (λ v c. Numbered-one v (complete-partial y e v c)) h.front h.front_has;
      back_has = Numbered-one h.back h.back_has;
    }

par_star-optional : (y : Form) → MeanTheSame (par_star (opt y)) (par_star y)
par_star-optional y = record {
  complete = λ e w. (
    Numbered-fold (λ u h. elim h [ inl n ↦ subst (Numbered (IsComplete y e)) (sym n) Numbered-empty | inr c ↦ Numbered-one u c ]) w,
    Numbered-fold (λ u c. Numbered-one u (inr c)) w,
  );
  partial = λ e w. alike;
  alphabet = λ e a. alike;
}

one_of_two : {P : Type 0} → P ⊎ P → P
one_of_two (inl h) = h
one_of_two (inr h) = h

or-twice : (y : Form) → MeanTheSame (or y y) y
or-twice y = record {
  complete = λ e w. (one_of_two, λ h. inl h);
  partial = λ e w. (one_of_two, λ h. inl h);
  alphabet = λ e a. (one_of_two, λ h. inl h);
}

and-twice : (y : Form) → MeanTheSame (and y y) y
and-twice y = record {
  complete = λ e w. (λ h. h.0, λ h. (h, h));
  partial = λ e w. (λ h. h.0, λ h. (h, h));
  alphabet = λ e a. (one_of_two, λ h. inl h);
}

-- a partial word stays in the alphabet, so it is its own projection
couple-twice : (y : Form) → MeanTheSame (couple y y) y
couple-twice y = record {
  complete = λ e w. (
    λ h. Projected-whole w (Each-weaker (λ a i. one_of_two i) h.0) h.1,
    λ c.
        let in_all = partial-alphabet y e w (complete-partial y e w c) in
        let own = Projected-itself w in_all c in
        (Each-weaker (λ a i. inl i) in_all, own, own),
  );
  partial = λ e w. (
    λ h. Projected-whole w (Each-weaker (λ a i. one_of_two i) h.0) h.1,
    λ p.
        let in_all = partial-alphabet y e w p in
        let own = Projected-itself w in_all p in
        (Each-weaker (λ a i. inl i) in_all, own, own),
  );
  alphabet = λ e a. (one_of_two, λ h. inl h);
}

any-one : (p : List ℕ) (y : Form) → some_names p y ≡ false → MeanTheSame (any p y) y
any-one p y n = record {
  complete = λ e w. (λ h. (given-complete p h.0 y n e w).0 h.1, λ c. ([], (given-complete p [] y n e w).1 c));
  partial = λ e w. (λ h. (given-partial p h.0 y n e w).0 h.1, λ c. ([], (given-partial p [] y n e w).1 c));
  alphabet = λ e a. (λ h. (given-alphabet p h.0 y n e a).0 h.1, λ c. ([], (given-alphabet p [] y n e a).1 c));
}

every-one : (p : List ℕ) (y : Form) → some_names p y ≡ false → MeanTheSame (every p y) y
every-one p y n = record {
  complete = λ e w. (λ h. (given-complete p [] y n e w).0 (h []), λ c v. (given-complete p v y n e w).1 c);
  partial = λ e w. (λ h. (given-partial p [] y n e w).0 (h []), λ c v. (given-partial p v y n e w).1 c);
  alphabet = λ e a. (λ h. (given-alphabet p h.0 y n e a).0 h.1, λ c. ([], (given-alphabet p [] y n e a).1 c));
}

-- each action is in the alphabet under one value of p, so under each
under_each : (p : List ℕ) (y : Form) → some_names p y ≡ false → (e : Environment) (v : List ℕ) (w : Word)
    → Each (λ a. (u : List ℕ) × InAlphabet y (bind p (Some u) e) a) w → Each (InAlphabet y (bind p (Some v) e)) w
under_each p y n e v w h =
    Each-weaker (λ a i. (given-alphabet p v y n e a).1 ((given-alphabet p i.0 y n e a).0 i.1)) h

under_some : (p : List ℕ) (y : Form) → some_names p y ≡ false → (e : Environment) (w : Word)
    → Each (InAlphabet y e) w → Each (λ a. (u : List ℕ) × InAlphabet y (bind p (Some u) e) a) w
under_some p y n e w h = Each-weaker (λ a i. ([], (given-alphabet p [] y n e a).1 i)) h

under_all : (p : List ℕ) (y : Form) → some_names p y ≡ false → (e : Environment) (v : List ℕ) (w : Word)
    → Each (InAlphabet y e) w → Each (InAlphabet y (bind p (Some v) e)) w
under_all p y n e v w h = Each-weaker (λ a i. (given-alphabet p v y n e a).1 i) h

sync-one : (p : List ℕ) (y : Form) → some_names p y ≡ false → MeanTheSame (sync p y) y
sync-one p y n = record {
  complete = λ e w. (
    λ h. (given-complete p [] y n e w).0 (Projected-whole w (under_each p y n e [] w h.0) (h.1 [])),
    λ c.
        let in_all = partial-alphabet y e w (complete-partial y e w c) in
        (under_some p y n e w in_all, λ v. Projected-itself w (under_all p y n e v w in_all) ((given-complete p v y n e w).1 c)),
  );
  partial = λ e w. (
    λ h. (given-partial p [] y n e w).0 (Projected-whole w (under_each p y n e [] w h.0) (h.1 [])),
    λ c.
        let in_all = partial-alphabet y e w c in
        (under_some p y n e w in_all, λ v. Projected-itself w (under_all p y n e v w in_all) ((given-partial p v y n e w).1 c)),
  );
  alphabet = λ e a. (λ h. (given-alphabet p h.0 y n e a).0 h.1, λ c. ([], (given-alphabet p [] y n e a).1 c));
}

sides : (x l z r : Form) → x ≡ l → z ≡ r → MeanTheSame l r → MeanTheSame x z
sides x l z r e f h = subst (λ s. MeanTheSame s z) (sym e) (subst (MeanTheSame l) (sym f) h)

-- both sides of a law mean the same
pub law-same : (x z : Form) → Law x z → MeanTheSame x z
law-same x z (opt_opt y e f) = sides x _ z _ e f (optional-twice y)
law-same x z (opt_star y e f) = sides x _ z _ e f (optional-star y)
law-same x z (opt_par_star y e f) = sides x _ z _ e f (optional-par_star y)
law-same x z (star_star y e f) = sides x _ z _ e f (star-twice y)
law-same x z (star_opt y e f) = sides x _ z _ e f (star-optional y)
law-same x z (star_par_star y e f) = sides x _ z _ e f (star-par_star y)
law-same x z (par_star_par_star y e f) = sides x _ z _ e f (par_star-twice y)
law-same x z (par_star_star y e f) = sides x _ z _ e f (par_star-star y)
law-same x z (par_star_opt y e f) = sides x _ z _ e f (par_star-optional y)
law-same x z (or_same y e f) = sides x _ z _ e f (or-twice y)
law-same x z (and_same y e f) = sides x _ z _ e f (and-twice y)
law-same x z (couple_same y e f) = sides x _ z _ e f (couple-twice y)
law-same x z (any_unnamed p y e n f) = sides x _ z _ e f (any-one p y n)
law-same x z (every_unnamed p y e n f) = sides x _ z _ e f (every-one p y n)
law-same x z (sync_unnamed p y e n f) = sides x _ z _ e f (sync-one p y n)
