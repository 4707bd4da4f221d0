-- What the code asks on its way to an answer, and when it may ask: the operand fits, and the trees
-- in it are proper.
use Rattle.std.specs.Prelude.{◌≡◌, ℕ, Bool, true, false, not, ◌&&◌, ◌||◌, List, Some, None}
use Rattle.std.specs.Prelude.{if◌then◌else◌}
use Rattle.std.specs.List.{list_all}
use Rattle.ix_words.specs.Each.{Each}
use Rattle.ix_entries.specs.inside.Entries.{KeysAscend}
use Rattle.ix_values.specs.Order.{text_cmp}
use Rattle.ix_values.specs.PlainAction.{PlainAction}
use Rattle.ix_expr.specs.Form.{Form}
use Rattle.ix_expr.specs.Environment.{Environment, bind}
use Rattle.ix_expr.specs.FormFaults.{Fits}
use Rattle.ix_expr.specs.Sees.{Sees}
use Rattle.ix_tree.specs.Plain.{Plain, dead}
use Rattle.ix_tree.specs.Order.{key, first_part}
use Rattle.ix_tree.specs.PlainOf.{plain_entries}
use Rattle.ix_can.specs.declared.next.Outside.{Outside}
use Rattle.ix_can.specs.declared.next.Outside.TheVariants.{Refused, Stays}
use Rattle.ix_can.specs.Laws.{IsProper}
use Rattle.ix_can.specs.May.{moves_within, may_first, may, tree_at}
use Rattle.ix_can.specs.Nodes.{is_dead, items_of}
use Rattle.ix_expr.specs.Tests.{in_alphabet}

-- whether the word of this one action is partial or, where standing still counts, the action is
-- outside the alphabet
abbrev pub first_or_stays : Bool → Form → Environment → PlainAction → Bool
first_or_stays stays y e a = moves_within (not stays || in_alphabet y e a) (may_first y e a)

-- the same of the word extended by the action, from the tree of the word
abbrev pub may_or_stays : Bool → Form → Environment → Plain → PlainAction → Bool
may_or_stays stays y e t a = moves_within (not stays || in_alphabet y e a) (may y e t a)

-- whether the value goes on in a map with these entries, or begins where the map has none for it
abbrev pub may_own : Form → List ℕ → Environment → PlainAction → List Plain → List ℕ → Bool
may_own y p e a entries v =
    if is_dead (tree_at v dead entries) then may_first y (bind p (Some v) e) a
    else may y (bind p (Some v) e) (tree_at v dead entries) a

-- the expression fits the environment, and the tree is proper
pub record CanAsk (x : Form) (e : Environment) (t : Plain) : Type 0 where
  pub fits : Fits x e
  pub proper : IsProper x t

-- the entries ascend strictly by their values, and the tree of each is proper
pub record AreProper (y : Form) (es : List (List ℕ × Plain)) : Type 0 where
  pub ascending : KeysAscend text_cmp es
  pub each : Each (λ x. IsProper y (first_part x)) (items_of (plain_entries es))

-- whether the tree stays where the action is outside the alphabet
abbrev pub stays : Outside → Bool
stays Refused = false
stays Stays = true

-- whether the common tree, each entry's and that of each of the action's values go on, or stay
abbrev pub each_may_or_stays : Bool → Form → List ℕ → Environment → PlainAction → Plain → List Plain
    → Bool
each_may_or_stays stays y p e a common entries =
    may_or_stays stays y (bind p None e) common a
    && (list_all (λ x. may_or_stays stays y (bind p (Some (key x)) e) (first_part x) a) entries
    && list_all (λ v. may_or_stays stays y (bind p (Some v) e) (tree_at v common entries) a)
    a.values)

-- of each value that no atom sees the answer on the first action is b
abbrev pub UnseenFirst : Bool → Bool → Form → List ℕ → Environment → PlainAction → Type 0
UnseenFirst b stays y p e a =
    (v : List ℕ) → ¬ Sees y p v a → first_or_stays stays y (bind p (Some v) e) a ≡ b

-- of each value that no atom sees the answer is b
abbrev pub UnseenAnswer : Bool → Bool → Form → List ℕ → Environment → PlainAction → Plain
    → List Plain → Type 0
UnseenAnswer b stays y p e a common entries =
    (v : List ℕ) → ¬ Sees y p v a
    → may_or_stays stays y (bind p (Some v) e) (tree_at v common entries) a ≡ b
