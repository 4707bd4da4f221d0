-- The laws of the tests and of the trees of words, as statements.
use Rattle.std.specs.Prelude.{◌≡◌, ◌≢◌, ◌↔◌, true, false, List, [], ◌∷◌, ◌++◌}
use Rattle.std.specs.Ordering.{is_gt}
use Rattle.ix_words.specs.Each.{Each}
use Rattle.ix_words.specs.Canon.{Ascending}
use Rattle.ix_values.specs.Order.{text_cmp}
use Rattle.ix_values.specs.PlainAction.{PlainAction, Word}
use Rattle.ix_expr.specs.Form.{PlainAtom, Form, atom, opt, seq, star, par, par_star, or, and}
use Rattle.ix_expr.specs.Form.{couple, any, every, sync, all, times}
use Rattle.ix_expr.specs.Environment.{Environment, Matches}
use Rattle.ix_expr.specs.FormFaults.{Fits}
use Rattle.ix_expr.specs.Meaning.{InAlphabet, IsComplete, IsPartial}
use Rattle.ix_expr.specs.Laws.{AgreeOn, EachAtomNames}
use Rattle.ix_tree.specs.Plain.{Plain, done}
use Rattle.ix_tree.specs.Order.{key, first_part, second_part, tree_cmp}
use Rattle.ix_expr.specs.Tests.{is_match, in_alphabet, accepts_empty}
use Rattle.ix_can.specs.Nodes.{is_dead, items_of}
use Rattle.ix_can.specs.TreeOf.{is_final, tree_of}

-- the test of matching is true exactly where the atom matches the action
abbrev pub MatchTestsDecide : Type 0
MatchTestsDecide = (x : PlainAtom) (e : Environment) (a : PlainAction)
    → (is_match x e a ≡ true) ↔ Matches x e a

-- the test of the alphabet is true exactly where the action is in the alphabet
abbrev pub AlphabetTestsDecide : Type 0
AlphabetTestsDecide = (x : Form) (e : Environment) (a : PlainAction)
    → (in_alphabet x e a ≡ true) ↔ InAlphabet x e a

-- the test of the empty word is true exactly where the empty word is complete
abbrev pub EmptyTestsDecide : Type 0
EmptyTestsDecide = (x : Form) (e : Environment) → (accepts_empty x ≡ true) ↔ IsComplete x e []

-- in every `all` of the expression each atom names the parameter
abbrev pub EachAllNames : Form → Type 0
EachAllNames (atom x) = Unit {0}
EachAllNames (opt y) = EachAllNames y
EachAllNames (seq y z) = EachAllNames y × EachAllNames z
EachAllNames (star y) = EachAllNames y
EachAllNames (par y z) = EachAllNames y × EachAllNames z
EachAllNames (par_star y) = EachAllNames y
EachAllNames (or y z) = EachAllNames y × EachAllNames z
EachAllNames (and y z) = EachAllNames y × EachAllNames z
EachAllNames (couple y z) = EachAllNames y × EachAllNames z
EachAllNames (any p y) = EachAllNames y
EachAllNames (every p y) = EachAllNames y
EachAllNames (sync p y) = EachAllNames y
EachAllNames (all p y) = EachAtomNames p y × EachAllNames y
EachAllNames (times n y) = EachAllNames y

-- of an expression that fits its environment every `all` has its parameter in each atom
abbrev pub FittingExpressionsName : Type 0
FittingExpressionsName = (x : Form) (e : Environment) → Fits x e → EachAllNames x

-- what the tree of a word tells: it isn't dead exactly where the word is partial, and it is final
-- exactly where the word is complete
pub record TreeTells (x : Form) (e : Environment) (w : Word) : Type 0 where
  pub partial : (is_dead (tree_of x e w) ≡ false) ↔ IsPartial x e w
  pub complete : (is_final x (tree_of x e w) ≡ true) ↔ IsComplete x e w

-- of an expression that fits its environment the tree of every word tells
abbrev pub TreesTell : Type 0
TreesTell = (x : Form) (e : Environment) (w : Word) → Fits x e → TreeTells x e w

-- environments that agree on a word give the same tree
abbrev pub AgreeingEnvironmentsGiveOneTree : Type 0
AgreeingEnvironmentsGiveOneTree = (x : Form) (e f : Environment) (w : Word) → AgreeOn e f w
    → tree_of x e w ≡ tree_of x f w

-- the tree of the empty word doesn't depend on the environment
abbrev pub EmptyWordsHaveOneTree : Type 0
EmptyWordsHaveOneTree = (x : Form) (e f : Environment) → tree_of x e [] ≡ tree_of x f []

-- the trees ascend strictly, so each stands once, and each has G
pub record EachOnce (G : Plain → Type 0) (xs : List Plain) : Type 0 where
  pub ascending : Ascending tree_cmp xs
  pub each : Each G xs

-- the entries ascend strictly by their values, so each value has one, and the tree of each has G
-- and isn't the common one
pub record ProperEntries (G : Plain → Type 0) (common : Plain) (entries : List Plain) : Type 0 where
  pub ascending : Ascending (λ x y. text_cmp (key x) (key y)) entries
  pub differ : Each (λ x. first_part x ≢ common) entries
  pub each : Each (λ x. G (first_part x)) entries

-- no tree is above a later one; a tree may stand more than once
abbrev pub IsRising : List Plain → Type 0
IsRising [] = Unit {0}
IsRising (x ∷ xs) = Each (λ y. is_gt (tree_cmp x y) ≡ false) xs × IsRising xs

-- in a tree of the expression all lists of alternatives ascend strictly, bags rise, and no entry
-- has the common tree or, in a map, the tree of the empty word
abbrev pub IsProper : Form → Plain → Type 0
IsProper (atom x) t = Unit {0}
IsProper (opt y) t = IsProper y (first_part t)
IsProper (seq y z) t = IsProper y (first_part t) × EachOnce (IsProper z) (items_of (second_part t))
IsProper (star y) t = EachOnce (IsProper y) (items_of (first_part t))
IsProper (par y z) t = EachOnce (λ p. IsProper y (first_part p) × IsProper z (second_part p))
    (items_of (first_part t))
IsProper (par_star y) t = EachOnce
    (λ b. IsRising (items_of (first_part b)) × Each (IsProper y) (items_of (first_part b)))
    (items_of (first_part t))
IsProper (or y z) t = IsProper y (first_part t) × IsProper z (second_part t)
IsProper (and y z) t = IsProper y (first_part t) × IsProper z (second_part t)
IsProper (couple y z) t = IsProper y (first_part t) × IsProper z (second_part t)
IsProper (any p y) t = IsProper y (first_part t)
    × ProperEntries (IsProper y) (first_part t) (items_of (second_part t))
IsProper (every p y) t = IsProper y (first_part t)
    × ProperEntries (IsProper y) (first_part t) (items_of (second_part t))
IsProper (sync p y) t = IsProper y (first_part t)
    × ProperEntries (IsProper y) (first_part t) (items_of (second_part t))
IsProper (all p y) t = EachOnce
    (λ m. ProperEntries (IsProper y) (tree_of y [] []) (items_of (first_part m)))
    (items_of (first_part t))
IsProper (times n y) t = EachOnce
    (λ b. IsRising (items_of (first_part b)) × Each (IsProper y) (items_of (first_part b)))
    (items_of (first_part t))

-- the tree of every word is proper
abbrev pub TreesAreProper : Type 0
TreesAreProper = (x : Form) (e : Environment) (w : Word) → IsProper x (tree_of x e w)

-- the word is complete, and with no action more is it partial
pub record IsCompleteAndStuck (x : Form) (e : Environment) (w : Word) : Type 0 where
  pub complete : IsComplete x e w
  pub stuck : (a : PlainAction) → ¬ IsPartial x e (w ++ a ∷ [])

-- a word of an expression that fits its environment is complete and stuck where its tree is done
abbrev pub SpentStatesAreCompleteAndStuck : Type 0
SpentStatesAreCompleteAndStuck = (x : Form) (e : Environment) (w : Word) → Fits x e
    → tree_of x e w ≡ done → IsCompleteAndStuck x e w

-- the tree of the empty word is never done
abbrev pub EmptyWordsAreNeverSpent : Type 0
EmptyWordsAreNeverSpent = (x : Form) (e : Environment) → tree_of x e [] ≢ done
