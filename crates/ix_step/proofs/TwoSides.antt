-- What the sides of `@` tell of the whole.
use Rattle.std.proofs.Common.{◌≡◌, ℕ, ◌<◌, ◌≤◌, Bool, true, false, not, ◌&&◌, ◌||◌, Result, MatchResult, Ok, Err, refl, sym, ap, ◌∙◌, subst, true≢false, arith}
use Rattle.ix_values.specs.PlainAction.{PlainAction}
use Rattle.ix_expr.specs.Form.{Form, couple}
use Rattle.ix_expr.specs.Environment.{Environment}
use Rattle.ix_tree.specs.Plain.{Plain, dead, couple as couple_of}
use Rattle.ix_tree.specs.Size.{size_of}
use Rattle.ix_can.specs.Nodes.{is_dead, dead_if, settled}
use Rattle.ix_expr.specs.Tests.{in_alphabet}
use Rattle.ix_can.specs.May.{may, moves_within, both_move}
use Rattle.ix_can.specs.inside.Moved.{moved, moved_inside}
use Rattle.ix_can.proofs.MovesShared.{moved_live}
use Rattle.ix_can.proofs.OutsideAlphabet.{outside_next}
use Rattle.ix_step.specs.declared.coupling.Side.{Side}
use Rattle.ix_step.specs.declared.fault.Unbuilt.{Unbuilt}
use Rattle.ix_step.specs.declared.fault.Unbuilt.TheVariants.{Over, Memory}
use Rattle.ix_step.specs.inside.Limits.{most_size}
use Rattle.ix_step.specs.inside.Sides.{MakesSide}
use Rattle.ix_step.proofs.Limits.{moved_is_dead}
use Rattle.ix_step.proofs.Overs.{couple_left_over, couple_right_over}

-- What both sides say together

neither_moves : (b c m n : Bool) → (b || c) ≡ false → both_move b c m n ≡ false
neither_moves b c m n h = ap (λ x. x && (moves_within b m && moves_within c n)) h

right_stops : (b c m n : Bool) → moves_within c n ≡ false → both_move b c m n ≡ false
right_stops b c m n h = ap (λ x. (b || c) && (moves_within b m && x)) h ∙ stops (b || c) (moves_within b m)
  where
    stops : (x y : Bool) → (x && (y && false)) ≡ false
    stops true true = refl
    stops true false = refl
    stops false y = refl

left_stops : (b c m n : Bool) → moves_within b m ≡ false → both_move b c m n ≡ false
left_stops b c m n h = ap (λ x. (b || c) && (x && moves_within c n)) h ∙ stops (b || c)
  where
    stops : (x : Bool) → (x && false) ≡ false
    stops true = refl
    stops false = refl

both_take : (b c m n : Bool) → (b || c) ≡ true → moves_within b m ≡ true → moves_within c n ≡ true → both_move b c m n ≡ true
both_take b c m n some left right =
    ap (λ x. x && (moves_within b m && moves_within c n)) some ∙ ap (λ x. x && moves_within c n) left ∙ right

-- What one side says

module _ (x : Form) (e : Environment) (a : PlainAction) (t : Plain) where
  may_if_live : is_dead (moved x e t a) ≡ false → may x e t a ≡ true
  may_if_live h = sym (moved_live x e t a) ∙ ap not h

  -- a moved tree above the limit is live
  pub live_over : (limit : ℕ) → 1 ≤ limit → limit < size_of (moved x e t a) → may x e t a ≡ true
  live_over limit least lt = one (may x e t a) refl
    where
      one : (b : Bool) → may x e t a ≡ b → may x e t a ≡ true
      one true h = h
      one false h = let size : size_of (moved x e t a) ≡ 1 = ap size_of (moved_is_dead x e t a h) in absurd (omega (arith, size, lt, least))

  -- what may come is in the alphabet
  pub may_inside : may x e t a ≡ true → in_alphabet x e a ≡ true
  may_inside h = one (in_alphabet x e a) refl
    where
      one : (b : Bool) → in_alphabet x e a ≡ b → in_alphabet x e a ≡ true
      one true k = k
      one false k = absurd (true≢false (sym h ∙ outside_next a x e t k))

  -- a side that doesn't refuse the action may move where the action is in its alphabet, and one that does may not
  pub side_moves : (inside : Bool) (tree : Plain) → inside ≡ in_alphabet x e a → tree ≡ moved_inside (in_alphabet x e a) (moved x e t a) t
      → (inside && is_dead tree) ≡ false → moves_within (in_alphabet x e a) (may x e t a) ≡ true
  side_moves inside tree is made h = one (in_alphabet x e a) is made
    where
      one : (i : Bool) → inside ≡ i → tree ≡ moved_inside i (moved x e t a) t → moves_within i (may x e t a) ≡ true
      one true k m = may_if_live (ap is_dead (sym m) ∙ ap (λ b. b && is_dead tree) (sym k) ∙ h)
      one false k m = refl

  pub side_stops : (inside : Bool) (tree : Plain) → inside ≡ in_alphabet x e a → tree ≡ moved_inside (in_alphabet x e a) (moved x e t a) t
      → (inside && is_dead tree) ≡ true → moves_within (in_alphabet x e a) (may x e t a) ≡ false
  side_stops inside tree is made h = one (in_alphabet x e a) is made
    where
      one : (i : Bool) → inside ≡ i → tree ≡ moved_inside i (moved x e t a) t → moves_within i (may x e t a) ≡ false
      one true k m = sym (moved_live x e t a) ∙ ap not (ap is_dead (sym m) ∙ ap (λ b. b && is_dead tree) (sym k) ∙ h)
      one false k m = absurd (true≢false (sym h ∙ ap (λ b. b && is_dead tree) k))

  -- the same of a side that was asked
  pub met_moves : (inside goes_on : Bool) → inside ≡ in_alphabet x e a → goes_on ≡ may x e t a → (inside && not goes_on) ≡ false → moves_within (in_alphabet x e a) (may x e t a) ≡ true
  met_moves inside goes_on i g h = subst (λ b. moves_within b (may x e t a) ≡ true) i (subst (λ b. moves_within inside b ≡ true) g (one inside goes_on h))
    where
      one : (b c : Bool) → (b && not c) ≡ false → moves_within b c ≡ true
      one true true h = refl
      one true false h = absurd (true≢false h)
      one false c h = refl

  pub met_stops : (inside goes_on : Bool) → inside ≡ in_alphabet x e a → goes_on ≡ may x e t a → (inside && not goes_on) ≡ true → moves_within (in_alphabet x e a) (may x e t a) ≡ false
  met_stops inside goes_on i g h = subst (λ b. moves_within b (may x e t a) ≡ false) i (subst (λ b. moves_within inside b ≡ false) g (one inside goes_on h))
    where
      one : (b c : Bool) → (b && not c) ≡ true → moves_within b c ≡ false
      one true true h = absurd (true≢false (sym h))
      one true false h = refl
      one false c h = absurd (true≢false (sym h))

  -- where the moved tree is dead the alphabet was asked, and where it isn't the action is in it
  pub told_outside : (m : Plain) → (is_dead m && not (in_alphabet x e a)) ≡ true → in_alphabet x e a ≡ false
  told_outside m h = one (is_dead m) (in_alphabet x e a) h
    where
      one : (b c : Bool) → (b && not c) ≡ true → c ≡ false
      one true true h = absurd (true≢false (sym h))
      one true false h = refl
      one false c h = absurd (true≢false (sym h))

  pub told_inside : (m : Plain) → m ≡ moved x e t a → (is_dead m && not (in_alphabet x e a)) ≡ false → in_alphabet x e a ≡ true
  told_inside m is h = one (in_alphabet x e a) refl
    where
      one : (i : Bool) → in_alphabet x e a ≡ i → in_alphabet x e a ≡ true
      one true k = k
      one false k =
          let gone : is_dead m ≡ true = ap is_dead (is ∙ moved_is_dead x e t a (outside_next a x e t k)) in
          absurd (true≢false (ap not (sym k) ∙ sym (ap (λ b. b && not (in_alphabet x e a)) gone) ∙ h))

abbrev is_over : Unbuilt → Bool
is_over Over = true
is_over Memory = false

-- a side that is as it was
pub as_it_was : (limit : ℕ) (inside : Bool) (next t : Plain) (r : Result Side Unbuilt) → inside ≡ false → size_of t ≤ most_size
    → MatchResult r (λ side. (side.inside ≡ false) × (side.tree ≡ t)) (λ fault. fault ≡ Memory) → MakesSide limit inside next t r
as_it_was limit inside next t (Ok side) out le h =
    (h.0 ∙ sym out, h.1 ∙ ap (λ i. moved_inside i next t) (sym out), omega (arith, ap size_of h.1, le))
as_it_was limit inside next t (Err fault) out le h = λ over. absurd (true≢false (ap is_over (sym over ∙ h)))

-- The whole

-- whether some side has the action, as the two sides tell it
pub none_inside : (b c i j : Bool) → i ≡ b → j ≡ c → not (i || j) ≡ true → (b || c) ≡ false
none_inside b c i j left right h = ap (λ k. k || c) (sym left) ∙ ap (λ k. i || k) (sym right) ∙ one (i || j) h
  where
    one : (k : Bool) → not k ≡ true → k ≡ false
    one true h = absurd (true≢false (sym h))
    one false h = refl

pub some_inside : (b c i j : Bool) → i ≡ b → j ≡ c → not (i || j) ≡ false → (b || c) ≡ true
some_inside b c i j left right h = ap (λ k. k || c) (sym left) ∙ ap (λ k. i || k) (sym right) ∙ one (i || j) h
  where
    one : (k : Bool) → not k ≡ false → k ≡ true
    one true h = refl
    one false h = absurd (true≢false h)

module _ (y z : Form) (e : Environment) (a : PlainAction) (t u : Plain) where
  pub right_refuses : moves_within (in_alphabet z e a) (may z e u a) ≡ false → moved (couple y z) e (couple_of t u) a ≡ dead
  right_refuses h = moved_is_dead (couple y z) e (couple_of t u) a (right_stops (in_alphabet y e a) (in_alphabet z e a) (may y e t a) (may z e u a) h)

  pub left_refuses : moves_within (in_alphabet y e a) (may y e t a) ≡ false → moved (couple y z) e (couple_of t u) a ≡ dead
  left_refuses h = moved_is_dead (couple y z) e (couple_of t u) a (left_stops (in_alphabet y e a) (in_alphabet z e a) (may y e t a) (may z e u a) h)

  pub neither_has : (in_alphabet y e a || in_alphabet z e a) ≡ false → moved (couple y z) e (couple_of t u) a ≡ dead
  neither_has h = moved_is_dead (couple y z) e (couple_of t u) a (neither_moves (in_alphabet y e a) (in_alphabet z e a) (may y e t a) (may z e u a) h)

  pub both_moved : (in_alphabet y e a || in_alphabet z e a) ≡ true
      → moves_within (in_alphabet y e a) (may y e t a) ≡ true → moves_within (in_alphabet z e a) (may z e u a) ≡ true
      → moved (couple y z) e (couple_of t u) a
      ≡ settled (couple_of (moved_inside (in_alphabet y e a) (moved y e t a) t) (moved_inside (in_alphabet z e a) (moved z e u a) u))
  both_moved some left right =
      ap (λ b. dead_if (not b) (settled (couple_of (moved_inside (in_alphabet y e a) (moved y e t a) t) (moved_inside (in_alphabet z e a) (moved z e u a) u))))
      (both_take (in_alphabet y e a) (in_alphabet z e a) (may y e t a) (may z e u a) some left right)

  -- a side above the limit puts the whole above it: the left one where the right one doesn't refuse, the right one where both move
  pub left_above : (limit : ℕ) → 1 ≤ limit → moves_within (in_alphabet z e a) (may z e u a) ≡ true → limit < size_of (moved y e t a)
      → limit < size_of (moved (couple y z) e (couple_of t u) a)
  left_above limit least right lt =
      let come = live_over y e a t limit least lt in
      let inside = may_inside y e a t come in
      let above : limit < size_of (moved_inside (in_alphabet y e a) (moved y e t a) t) = subst (λ i. limit < size_of (moved_inside i (moved y e t a) t)) (sym inside) lt in
      let whole = both_moved (ap (λ b. b || in_alphabet z e a) inside) (ap (λ i. moves_within i (may y e t a)) inside ∙ come) right in
      subst (λ x. limit < size_of x) (sym whole) (couple_left_over limit least _ _ above)

  pub right_above : (limit : ℕ) → 1 ≤ limit → (in_alphabet y e a || in_alphabet z e a) ≡ true
      → moves_within (in_alphabet y e a) (may y e t a) ≡ true → moves_within (in_alphabet z e a) (may z e u a) ≡ true
      → limit < size_of (moved_inside (in_alphabet z e a) (moved z e u a) u) → limit < size_of (moved (couple y z) e (couple_of t u) a)
  right_above limit least some left right lt =
      subst (λ x. limit < size_of x) (sym (both_moved some left right)) (couple_right_over limit least _ _ lt)
