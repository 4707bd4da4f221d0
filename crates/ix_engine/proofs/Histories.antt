-- What comes of extending a history, by one action or by a whole list.
use Rattle.std.proofs.Common.{◌≡◌, ℕ, suc, ◌+◌, ◌<◌, ◌≤◌, [], ◌∷◌, ◌++◌, length, take, drop, get_or, Result, sym, ◌∙◌, ap, subst, arith, length-append, drop-cons}
use Rattle.std.proofs.lemmas.List.{take_more, take-append-drop, length-take-le}
use Rattle.ix_values.specs.PlainAction.{PlainAction, Word}
use Rattle.ix_expr.specs.Form.{Form}
use Rattle.ix_tree.specs.Plain.{Plain}
use Rattle.ix_tree.specs.Size.{size_of}
use Rattle.ix_can.specs.TreeOf.{tree_of, tree_size}
use Rattle.ix_engine.specs.Allowed.{IsAllowed}
use Rattle.ix_engine.specs.declared.faults.PrepareFault.{PrepareFault}
use Rattle.ix_engine.specs.Histories.{AreAllowed, none, more, IsRefused, StopsAt}
use Rattle.ix_engine.specs.inside.Extending.{Extends}

-- there is room for all
pub few : (x : Form) (limit : ℕ) (w : Word) → AreAllowed x limit w → length w ≤ 1000000
few x limit _ none = omega arith
few x limit _ (more {before} {a} allowed last) =
    let room = last.room in
    let count = length-append before (a ∷ []) in
    omega (arith, room, count)

small : (x : Form) (limit : ℕ) (w : Word) → tree_size x [] ≤ limit → AreAllowed x limit w → tree_size x w ≤ limit
small x limit _ initial none = initial
small x limit _ initial (more allowed last) = last.within

-- the Size of the tree of all is within the limit, as that of the first tree is
pub bounded : (x : Form) (limit : ℕ) (w : Word) (first t : Plain) → first ≡ tree_of x [] [] → size_of first ≤ limit
    → t ≡ tree_of x [] w → AreAllowed x limit w → size_of t ≤ limit
bounded x limit w first t first_is initial tree allowed =
    subst (λ (u : Plain). size_of u ≤ limit) (sym tree)
    (small x limit w (subst (λ (u : Plain). size_of u ≤ limit) first_is initial) allowed)

-- what was said of each history of an engine of this expression and limit is said of this one
pub of_history : (x y : Form) (limit most : ℕ) (h : Word) (n : ℕ) (a : PlainAction) (t : Plain) (r : Result Plain PrepareFault)
    → y ≡ x → most ≡ limit → n ≡ length h → t ≡ tree_of x [] h
    → ((w : Word) → t ≡ tree_of y [] w → n ≡ length w → Extends y most w a r) → Extends x limit h a r
of_history x y limit most h n a t r form same count tree extends =
    let here = extends h (tree ∙ ap (λ (z : Form). tree_of z [] h) (sym form)) count in
    subst (λ (z : Form). Extends z limit h a r) form (subst (λ m. Extends y m h a r) same here)

module _ (x : Form) (limit : ℕ) (actions : Word) (i : ℕ) (a : PlainAction) (within : i < length actions) (is : a ≡ get_or actions i a) where
  -- the actions up to the next one
  pub one_more : take (i + 1) actions ≡ take i actions ++ a ∷ []
  one_more = take_more actions i a within ∙ ap (λ (b : PlainAction). take i actions ++ b ∷ []) (sym is)

  -- one more action is allowed
  pub allowed_more : AreAllowed x limit (take i actions) → IsAllowed x limit (take i actions) a → AreAllowed x limit (take (i + 1) actions)
  allowed_more before here = subst (AreAllowed x limit) (sym one_more) (more before here)

  parts : actions ≡ take i actions ++ a ∷ drop (suc i) actions
  parts = sym (take-append-drop i actions)
      ∙ ap (λ (rest : Word). take i actions ++ rest) (drop-cons actions i a within ∙ ap (λ (b : PlainAction). b ∷ drop (suc i) actions) (sym is))

  -- an action isn't
  pub stops : (n : ℕ) (why : PrepareFault) → n ≡ i + 1 → AreAllowed x limit (take i actions) → IsRefused x limit (take i actions) a why
      → StopsAt x limit actions (record { number = n; why = why })
  stops n why number before refused = record {
    before = take i actions;
    action = a;
    behind = drop (suc i) actions;
    parts = parts;
    number = let count = length-take-le i actions (omega arith) in omega (arith, count, number);
    allowed = before;
    refused = refused;
  }
