-- What the test of a word finds.
use Rattle.std.proofs.Common.{◌≡◌, ℕ, ◌+◌, ◌<◌, ◌≤◌, [], ◌∷◌, ◌++◌, length, take, get_or, Option, Some, None, sym, ◌∙◌, ap, subst, arith}
use Rattle.std.proofs.Math.Seq.{take-length}
use Rattle.std.proofs.lemmas.List.{take_more, length-take-le}
use Rattle.ix_values.specs.PlainAction.{PlainAction, Word}
use Rattle.ix_tree.specs.Plain.{Plain}
use Rattle.ix_tree.specs.Size.{size_of}
use Rattle.ix_can.specs.TreeOf.{tree_of}
use Rattle.ix_engine.specs.Histories.{AreAllowed, none}
use Rattle.ix_renew.specs.declared.rules.Rules.{Rules}
use Rattle.ix_renew.specs.inside.Walking.{CanWalk, IsCarried, IsSteppable, IsExtended, IsTreeBehind, MayStand, rules_form}
use Rattle.ix_renew.proofs.Allowed.{allowed_at, more_allowed}

-- the tree is that of the first i actions of the word, each of which is allowed
pub record HasTested (r : Rules) (w : Word) (i : ℕ) (t : Plain) : Type 0 where
  pub tree : t ≡ tree_of (rules_form r) [] (take i w)
  pub small : size_of t ≤ r.limit
  pub allowed : AreAllowed (rules_form r) r.limit (take i w)

-- what a step gave, once it is known whether it gave a tree
module _ (r : Rules) (t : Plain) (a : PlainAction) (o : Option Plain) where
  pub gave_none : o ≡ None → IsTreeBehind r t a o
      → (word : Word) → t ≡ tree_of (rules_form r) [] word → MayStand r word a → ⊥
  gave_none is h = subst (λ (p : Option Plain). IsTreeBehind r t a p) is h

  pub gave_some : (next : Plain) → o ≡ Some next → IsTreeBehind r t a o
      → IsSteppable r next × ((word : Word) → t ≡ tree_of (rules_form r) [] word → IsExtended r word a next)
  gave_some next is h = subst (λ (p : Option Plain). IsTreeBehind r t a p) is h

pub begins : (r : Rules) (w : Word) (t : Plain) → CanWalk r → t ≡ r.first.now → HasTested r w 0 t
begins r w t ready is = record {
  tree = is ∙ ready.first;
  small = subst (λ (s : Plain). size_of s ≤ r.limit) (sym is) ready.small;
  allowed = none;
}

pub steppable : (r : Rules) (w : Word) (i : ℕ) (t : Plain) → HasTested r w i t → IsSteppable r t
steppable r w i t h = record { word = take i w; tree = h.tree; small = h.small }

module _ (r : Rules) (ready : CanWalk r) (w : Word) (few : length w ≤ length r.history.now) where
  -- an action may not stand
  pub fails : (i : ℕ) (t : Plain) (a : PlainAction) → i < length w → a ≡ get_or w i a → HasTested r w i t
      → ((word : Word) → t ≡ tree_of (rules_form r) [] word → MayStand r word a → ⊥) → IsCarried r w → ⊥
  fails i t a within is h none_stands k =
      let here = allowed_at (rules_form r) r.limit w i a k.allowed within is in
      none_stands (take i w) h.tree (record { permitted = here.permitted; within = here.within })

  -- it may
  pub goes_on : (i : ℕ) (t next : Plain) (a : PlainAction) → i < length w → a ≡ get_or w i a → HasTested r w i t
      → IsSteppable r next → ((word : Word) → t ≡ tree_of (rules_form r) [] word → IsExtended r word a next) → HasTested r w (i + 1) next
  goes_on i t next a within is h at extended =
      let here = extended (take i w) h.tree in
      let most = ready.few in
      let more : take (i + 1) w ≡ take i w ++ a ∷ [] = take_more w i a within ∙ ap (λ (b : PlainAction). take i w ++ b ∷ []) (sym is) in
      record {
        tree = here.tree ∙ ap (tree_of (rules_form r) []) (sym more);
        small = at.small;
        allowed = more_allowed (rules_form r) r.limit w i a within is h.allowed (record {
          permitted = here.permitted;
          room = let count = length-take-le i w (omega (arith, within)) in omega (arith, count, within, few, most);
          within = subst (λ (s : Plain). size_of s ≤ r.limit) here.tree at.small;
        });
      }

  -- all actions were tested
  pub ends : (i : ℕ) (t : Plain) → i ≡ length w → HasTested r w i t → t ≡ r.last.now → IsCarried r w
  ends i t all h same =
      let whole : take i w ≡ w = ap (λ n. take n w) all ∙ take-length w in
      record {
        allowed = subst (AreAllowed (rules_form r) r.limit) whole h.allowed;
        tree = ap (tree_of (rules_form r) []) (sym whole) ∙ sym h.tree ∙ same ∙ ready.last;
        few = few;
      }

  pub differs : (i : ℕ) (t : Plain) → i ≡ length w → HasTested r w i t → IsCarried r w → t ≡ r.last.now
  differs i t all h k =
      let whole : take i w ≡ w = ap (λ n. take n w) all ∙ take-length w in
      h.tree ∙ ap (tree_of (rules_form r) []) whole ∙ k.tree ∙ sym ready.last
