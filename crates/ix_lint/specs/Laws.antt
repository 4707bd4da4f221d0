-- What the findings claim of words, as statements.
use Rattle.std.specs.Prelude.{◌≡◌, ◌≢◌, ℕ, IsTrue, IsSome, List, Some, length, filter}
use Rattle.ix_words.specs.Each.{Each, Member}
use Rattle.ix_words.specs.Parts.{part}
use Rattle.ix_values.specs.Order.{text_eq}
use Rattle.ix_values.specs.PlainAction.{PlainAction, Word}
use Rattle.ix_expr.specs.Form.{Form, sync, all}
use Rattle.ix_expr.specs.Environment.{Environment, bind}
use Rattle.ix_expr.specs.Meaning.{InAlphabet, IsComplete, IsPartial}
use Rattle.ix_expr.specs.Laws.{EachAtomNames}
use Rattle.ix_expr.specs.FormFaults.{Fits}
use Rattle.ix_tree.specs.Plain.{Plain, map, entry, items_of}
use Rattle.ix_tree.specs.Order.{first_part, second_part}
use Rattle.ix_expr.specs.Tests.{in_alphabet}
use Rattle.ix_can.specs.TreeOf.{tree_of}
use Rattle.ix_lint.specs.Keeps.{is_kept}
use Rattle.ix_lint.specs.declared.finding.FindingKind.TheVariants as kind
use Rattle.ix_lint.specs.Never.{is_never}
use Rattle.ix_lint.specs.Apart.{apart}
use Rattle.ix_lint.specs.Owners.{owners}

-- of a node of which no word is complete by its form, no word is complete under any environment
abbrev pub NeverIsNeverComplete : Type 0
NeverIsNeverComplete = (x : Form) (e : Environment) (w : Word) → IsTrue (is_never x)
    → ¬ IsComplete x e w

-- no word that is partial in a `&` whose sides are apart in this name and number has an action of
-- them, whatever the environment
abbrev pub WhatIsApartNeverComes : Type 0
WhatIsApartNeverComes = (x : Form) (e : Environment) (w : Word) (name : List ℕ) (number : ℕ)
    → apart x ≡ Some (kind.Apart name number) → IsPartial x e w
    → Each (λ a. ¬ ((a.name ≡ name) × (length a.values ≡ number))) w

-- an action, an environment and two different values of the parameter p, under each of which the
-- action is in the alphabet of y
pub record HasTwoOwners (p : List ℕ) (y : Form) : Type 0 where
  pub action : PlainAction
  pub around : Environment
  pub one : List ℕ
  pub other : List ℕ
  pub differ : one ≢ other
  pub owned_by_one : InAlphabet y (bind p (Some one) around) action
  pub owned_by_other : InAlphabet y (bind p (Some other) around) action

-- where two owners are told at an `all`, an action can have two
abbrev pub OwnersAreTwo : Type 0
OwnersAreTwo = (n : ℕ) (p : List ℕ) (y : Form) → IsSome (owners n (all p y)) → HasTwoOwners p y

-- and where an action can have two, they are told, if each atom of the body names the parameter, as
-- in every well-formed expression
abbrev pub TwoOwnersAreTold : Type 0
TwoOwnersAreTold = (n : ℕ) (p : List ℕ) (y : Form) → EachAtomNames p y → HasTwoOwners p y
    → IsSome (owners n (all p y))

-- in the tree of an `all` there is the map of these owners of the word's actions, and in it each
-- owner has an entry
pub record EachOwnerStays (p : List ℕ) (y : Form) (e : Environment) (w : Word)
    (owners : List (List ℕ)) : Type 0 where
  pub entries : Plain
  pub among : Member (map entries) (items_of (first_part (tree_of (all p y) e w)))
  pub each_has : (v : List ℕ) → Member v owners
      → Member (entry v (tree_of y (bind p (Some v) e) (part (text_eq v) owners w)))
      (items_of entries)

-- where `keeps` is told of an `all`, whatever owners give each value a partial part
abbrev pub OwnersStay : Type 0
OwnersStay = (p : List ℕ) (y : Form) (e : Environment) (w : Word) (owners : List (List ℕ))
    → Fits (all p y) e → IsTrue (is_kept (all p y)) → length owners ≡ length w
    → ((v : List ℕ) → IsPartial y (bind p (Some v) e) (part (text_eq v) owners w))
    → EachOwnerStays p y e w owners

-- in the tree of a `sync` the value has an entry
abbrev pub ValueStays : List ℕ → Form → Environment → Word → List ℕ → Type 0
ValueStays p y e w v = Member
    (entry v (tree_of y (bind p (Some v) e) (filter (in_alphabet y (bind p (Some v) e)) w)))
    (items_of (second_part (tree_of (sync p y) e w)))

-- where `keeps` is told of a `sync`, each value that has an action of a partial word in its
-- alphabet
abbrev pub ValuesStay : Type 0
ValuesStay = (p : List ℕ) (y : Form) (e : Environment) (w : Word) (v : List ℕ) (a : PlainAction)
    → Fits (sync p y) e → IsTrue (is_kept (sync p y)) → IsPartial (sync p y) e w → Member a w
    → InAlphabet y (bind p (Some v) e) a → ValueStays p y e w v
