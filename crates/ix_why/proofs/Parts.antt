-- Of the subexpressions that an expression asks: where they stand, which actions they are asked about, and that a parameter which is outside may be given a value.
use Rattle.std.proofs.Common.{◌≡◌, ℕ, ◌+◌, List, [], ◌∷◌, ◌++◌, Option, Some, None, length, length-append, append_assoc, append-nil, slice_get, refl, sym, ap, ◌∙◌, subst, arith}
use Rattle.ix_words.specs.Each.{Each, Member}
use Rattle.ix_words.specs.Parts.{part, Projection}
use Rattle.ix_words.specs.Words.{Owned}
use Rattle.ix_words.proofs.Each.{Each-member, Each-weaker}
use Rattle.ix_words.proofs.Parts.{part-each, Projection-each}
use Rattle.ix_words.proofs.Words.{Projection-leads}
use Rattle.ix_values.specs.Order.{text_eq}
use Rattle.ix_values.specs.PlainAction.{PlainAction, Word}
use Rattle.ix_expr.specs.Environment.{Environment, bind}
use Rattle.ix_expr.specs.Form.{Form, opt, and, couple, every, sync, all}
use Rattle.ix_expr.specs.Laws.{AgreeAt, AgreeOn}
use Rattle.ix_expr.specs.Meaning.{InAlphabet, IsPartial}
use Rattle.ix_expr.proofs.Agreement.{alphabet-leads}
use Rattle.ix_expr.proofs.LawsOfMeaning.{agree-sym, bind-agree, outside-agree, partial-leads}
use Rattle.ix_words.proofs.Deciding.{iff_trans, itself as same}
use Rattle.ix_lint.specs.Nodes.{forms}
use Rattle.ix_why.specs.Laws.{Consults, itself, operand, left_of_and, right_of_and, left_of_couple, right_of_couple, body_of_every, body_of_sync, body_of_all, Fills, nothing, as_it_is, with_value}
use Rattle.ix_why.proofs.Counts.{first_form, found_right}

-- Places

-- the forms stand in the list from the place n on
record StandAt (whole : List Form) (n : ℕ) (own : List Form) : Type 0 where
  front : List Form
  back : List Form
  is : whole ≡ front ++ (own ++ back)
  before : length front ≡ n

module _ {whole : List Form} {n : ℕ} (s : Form) where
  only_below : (xs : List Form) → StandAt whole n (s ∷ xs) → StandAt whole (n + 1) xs
  only_below xs k = record {
    front = k.front ++ s ∷ [];
    back = k.back;
    is = k.is ∙ sym (append_assoc k.front (s ∷ []) (xs ++ k.back));
    before = omega (arith, length-append k.front (s ∷ []), k.before);
  }

  first_below : (xs ys : List Form) → StandAt whole n (s ∷ (xs ++ ys)) → StandAt whole (n + 1) xs
  first_below xs ys k = only_below xs (record {
    front = k.front;
    back = ys ++ k.back;
    is = k.is ∙ ap (λ zs. k.front ++ (s ∷ zs)) (append_assoc xs ys k.back);
    before = k.before;
  })

  second_below : (xs ys : List Form) → StandAt whole n (s ∷ (xs ++ ys)) → StandAt whole (n + 1 + length xs) ys
  second_below xs ys k = record {
    front = k.front ++ s ∷ xs;
    back = k.back;
    is = k.is ∙ ap (λ zs. k.front ++ (s ∷ zs)) (append_assoc xs ys k.back) ∙ sym (append_assoc k.front (s ∷ xs) (ys ++ k.back));
    before = omega (arith, length-append k.front (s ∷ xs), k.before);
  }

module _ {x : Form} {w : Word} where
  stands : {n : ℕ} {s : Form} {e : Environment} {u : Word} → Consults x w n s e u → StandAt (forms x) n (forms s)
  stands itself = record { front = []; back = []; is = sym (append-nil (forms x)); before = refl }
  stands (operand {y = y} h) = only_below (opt y) (forms y) (stands h)
  stands (left_of_and {y = y} {z = z} h) = first_below (and y z) (forms y) (forms z) (stands h)
  stands (right_of_and {y = y} {z = z} h) = second_below (and y z) (forms y) (forms z) (stands h)
  stands (left_of_couple {y = y} {z = z} h p) = first_below (couple y z) (forms y) (forms z) (stands h)
  stands (right_of_couple {y = y} {z = z} h p) = second_below (couple y z) (forms y) (forms z) (stands h)
  stands (body_of_every {p = p} {y = y} v h) = only_below (every p y) (forms y) (stands h)
  stands (body_of_sync {p = p} {y = y} v h o) = only_below (sync p y) (forms y) (stands h)
  stands (body_of_all {p = p} {y = y} v h o) = only_below (all p y) (forms y) (stands h)

  -- the form at the node
  pub form-at : {n : ℕ} {s : Form} {e : Environment} {u : Word} → Consults x w n s e u → slice_get (forms x) n ≡ Some s
  form-at {n} {s} h =
      let k = stands h in
      let place : n ≡ length k.front + 0 = omega (arith, k.before) in
      (λ i. slice_get (k.is i) (place i)) ∙ found_right k.front (forms s ++ k.back) 0 ∙ head_of (forms s) k.back (sym (first_form s))
    where
      head_of : (xs ys : List Form) → slice_get xs 0 ≡ Some s → slice_get (xs ++ ys) 0 ≡ Some s
      head_of [] ys e = absurd (cc)
      head_of (z ∷ xs) ys e = e

-- Words

-- what each action of the word has, each action has that a subexpression is asked about
pub asked-each : {G : PlainAction → Type 0} {x : Form} {w : Word} {n : ℕ} {s : Form} {e : Environment} {u : Word} → Each G w → Consults x w n s e u → Each G u
asked-each g itself = g
asked-each g (operand h) = asked-each g h
asked-each g (left_of_and h) = asked-each g h
asked-each g (right_of_and h) = asked-each g h
asked-each g (left_of_couple h p) = Projection-each p (asked-each g h)
asked-each g (right_of_couple h p) = Projection-each p (asked-each g h)
asked-each g (body_of_every v h) = asked-each g h
asked-each g (body_of_sync v h p) = Projection-each p (asked-each g h)
asked-each g (body_of_all v h o) = part-each (text_eq v) o.owners (asked-each g h)

-- Values for what is outside

agree-trans : {e f g : Environment} {a : PlainAction} → AgreeAt e f a → AgreeAt f g a → AgreeAt e g a
agree-trans h k = record { agree = λ p v m. iff_trans (h.agree p v m) (k.agree p v m) }

-- at each action of the word the environments agree
pub fills-agree : {w : Word} {e f : Environment} → Fills w e f → (a : PlainAction) → Member a w → AgreeAt e f a
fills-agree nothing a m = record { agree = λ p v k. same }
fills-agree (as_it_is {p = p} {v = v} h) a m = bind-agree p v a (fills-agree h a m)
fills-agree (with_value {p = p} {v = v} {f = f} fresh h) a m = agree-trans (bind-agree p None a (fills-agree h a m)) (agree-sym (outside-agree f p v a (Each-member fresh m)))

-- the environment is that in which the parameter has some value, and the others are filled
record Inside (w : Word) (p : List ℕ) (e g : Environment) : Type 0 where
  value : Option (List ℕ)
  rest : Environment
  is : g ≡ bind p value rest
  fills : Fills w e rest

record InsideOf (w : Word) (p v : List ℕ) (e g : Environment) : Type 0 where
  rest : Environment
  is : g ≡ bind p (Some v) rest
  fills : Fills w e rest

module _ {w : Word} where
  inside : {p : List ℕ} {v : Option (List ℕ)} {e g : Environment} → Fills w (bind p v e) g → Inside w p e g
  inside (as_it_is {v = v} {f = f} h) = record { value = v; rest = f; is = refl; fills = h }
  inside (with_value {v = v} {f = f} fresh h) = record { value = Some v; rest = f; is = refl; fills = h }

  inside_of : {p v : List ℕ} {e g : Environment} → Fills w (bind p (Some v) e) g → InsideOf w p v e g
  inside_of (as_it_is {f = f} h) = record { rest = f; is = refl; fills = h }

  of_nothing : {g : Environment} → Fills w [] g → g ≡ []
  of_nothing nothing = refl

alphabet_moved : (y : Form) {f g : Environment} (a : PlainAction) → AgreeAt f g a → InAlphabet y f a → InAlphabet y g a
alphabet_moved y a k i = alphabet-leads y a (record { at = λ q u m. (k.agree q u m).0 }) i

module _ {x : Form} {w whole : Word} (within : Each (λ b. Member b whole) w) where
  agree-on : {n : ℕ} {s : Form} {e f g : Environment} {u : Word} → Consults x w n s e u → Fills whole f g → Each (AgreeAt f g) u
  agree-on h k = Each-weaker (λ b m. fills-agree k b m) (asked-each within h)

  own_word : {n : ℕ} {s : Form} {e f g : Environment} {u own : Word} (y : Form) → Consults x w n s e u → Fills whole f g → Projection (InAlphabet y f) u own → Projection (InAlphabet y g) u own
  own_word y h k p = Projection-leads {G = AgreeAt _ _} (λ b j i. alphabet_moved y b j i) (λ b j i. alphabet_moved y b (agree-sym j) i) (agree-on h k) p

  -- with values for what is outside the same is asked
  pub asked-with : {n : ℕ} {s : Form} {e f : Environment} {u : Word} → Consults x w n s e u → Fills whole e f → Consults x w n s f u
  asked-with {f = f} itself k = subst (λ g. Consults x w 0 x g w) (sym (of_nothing k)) itself
  asked-with (operand h) k = operand (asked-with h k)
  asked-with (left_of_and h) k = left_of_and (asked-with h k)
  asked-with (right_of_and h) k = right_of_and (asked-with h k)
  asked-with (left_of_couple {y = y} h p) k = left_of_couple (asked-with h k) (own_word y h k p)
  asked-with (right_of_couple {z = z} h p) k = right_of_couple (asked-with h k) (own_word z h k p)
  asked-with {n} {s} {u = u} (body_of_every {n = m} v h) k =
      let i = inside k in
      subst (λ g. Consults x w (m + 1) s g u) (sym i.is) (body_of_every i.value (asked-with h i.fills))
  asked-with {s = s} {f = f} {u = u} (body_of_sync {n = m} {y = y} {u = r} v h p) k =
      let i = inside k in
      subst (λ g. Consults x w (m + 1) s g u) (sym i.is) (body_of_sync i.value (asked-with h i.fills) (subst (λ g. Projection (InAlphabet y g) r u) i.is (own_word y h k p)))
  asked-with {s = s} (body_of_all {n = m} {p = p} {y = y} {e = e} {u = u} v h o) k =
      let i = inside_of k in
      let agree : AgreeOn e i.rest u = agree-on h i.fills in
      let owned : Owned text_eq (λ r. IsPartial y (bind p (Some r) i.rest)) u = record {
        owners = o.owners;
        as_long = o.as_long;
        each_has = λ r. partial-leads y (bind p (Some r) e) (bind p (Some r) i.rest) (part (text_eq r) o.owners u) (Each-weaker (λ b j. bind-agree p (Some r) b j) (part-each (text_eq r) o.owners agree)) (o.each_has r);
      } in
      subst (λ g. Consults x w (m + 1) y g (part (text_eq v) o.owners u)) (sym i.is) (body_of_all v (asked-with h i.fills) owned)
