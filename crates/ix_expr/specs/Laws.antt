-- Laws of meaning, as statements over the definitions alone.
use Rattle.std.specs.Prelude.{◌≡◌, ◌≢◌, ◌↔◌, ℕ, List, [], ◌∷◌, ◌++◌, Option, Some, None}
use Rattle.ix_words.specs.Each.{Each, Member, EachPair}
use Rattle.ix_words.specs.Parts.{part, Projection}
use Rattle.ix_values.specs.Order.{text_eq}
use Rattle.ix_values.specs.PlainAction.{PlainAction, Word}
use Rattle.ix_expr.specs.declared.arg.Arg.TheVariants.{Param}
use Rattle.ix_expr.specs.Form.{Form, atom, opt, seq, star, par, par_star, or, and, couple, any}
use Rattle.ix_expr.specs.Form.{every, sync, all, times}
use Rattle.ix_expr.specs.Environment.{Environment, value_in, bind, Matches}
use Rattle.ix_expr.specs.FormFaults.{Fits}
use Rattle.ix_expr.specs.Meaning.{InAlphabet, IsComplete, IsPartial}
use Rattle.ix_expr.specs.Mentions.{Mentions}
use Rattle.ix_expr.specs.Sees.{Sees}

-- at the action the environments agree on which parameter has which of its values
pub record AgreeAt (e f : Environment) (a : PlainAction) : Type 0 where
  pub agree : (p v : List ℕ) → Member v a.values → (value_in e p ≡ Some v) ↔ (value_in f p ≡ Some v)

-- the environments agree at each action of the word
abbrev pub AgreeOn : Environment → Environment → Word → Type 0
AgreeOn e f w = Each (AgreeAt e f) w

-- at the action each atom of the expression matches under both environments or under neither,
-- whatever value, or outside, the quantifiers around it in the expression give their parameters
abbrev pub AtomsAgreeAt : Form → Environment → Environment → PlainAction → Type 0
AtomsAgreeAt (atom x) e f a = Matches x e a ↔ Matches x f a
AtomsAgreeAt (opt y) e f a = AtomsAgreeAt y e f a
AtomsAgreeAt (seq y z) e f a = AtomsAgreeAt y e f a × AtomsAgreeAt z e f a
AtomsAgreeAt (star y) e f a = AtomsAgreeAt y e f a
AtomsAgreeAt (par y z) e f a = AtomsAgreeAt y e f a × AtomsAgreeAt z e f a
AtomsAgreeAt (par_star y) e f a = AtomsAgreeAt y e f a
AtomsAgreeAt (or y z) e f a = AtomsAgreeAt y e f a × AtomsAgreeAt z e f a
AtomsAgreeAt (and y z) e f a = AtomsAgreeAt y e f a × AtomsAgreeAt z e f a
AtomsAgreeAt (couple y z) e f a = AtomsAgreeAt y e f a × AtomsAgreeAt z e f a
AtomsAgreeAt (any p y) e f a = (v : Option (List ℕ)) → AtomsAgreeAt y (bind p v e) (bind p v f) a
AtomsAgreeAt (every p y) e f a = (v : Option (List ℕ)) → AtomsAgreeAt y (bind p v e) (bind p v f) a
AtomsAgreeAt (sync p y) e f a = (v : Option (List ℕ)) → AtomsAgreeAt y (bind p v e) (bind p v f) a
AtomsAgreeAt (all p y) e f a = (v : Option (List ℕ)) → AtomsAgreeAt y (bind p v e) (bind p v f) a
AtomsAgreeAt (times n y) e f a = AtomsAgreeAt y e f a

-- the atoms of the expression agree at each action of the word
abbrev pub AtomsAgreeOn : Form → Environment → Environment → Word → Type 0
AtomsAgreeOn x e f w = Each (AtomsAgreeAt x e f) w

-- the expression means the same of the word under both environments
pub record MeansTheSame (x : Form) (e f : Environment) (w : Word) : Type 0 where
  pub complete : IsComplete x e w ↔ IsComplete x f w
  pub partial : IsPartial x e w ↔ IsPartial x f w
  pub alphabet : Each (λ a. InAlphabet x e a ↔ InAlphabet x f a) w

-- at an action whose value v no atom of the expression sees by p, each atom matches with p given v
-- as with p outside
abbrev pub UnseenValuesAreOutside : Type 0
UnseenValuesAreOutside = (x : Form) (e : Environment) (p v : List ℕ) (a : PlainAction) →
    ¬ Sees x p v a → AtomsAgreeAt x (bind p (Some v) e) (bind p None e) a

-- every atom of the expression names the parameter p: no quantifier in it binds p anew
abbrev pub EachAtomNames : List ℕ → Form → Type 0
EachAtomNames p (atom x) = Member (Param p) x.arguments
EachAtomNames p (opt y) = EachAtomNames p y
EachAtomNames p (seq y z) = EachAtomNames p y × EachAtomNames p z
EachAtomNames p (star y) = EachAtomNames p y
EachAtomNames p (par y z) = EachAtomNames p y × EachAtomNames p z
EachAtomNames p (par_star y) = EachAtomNames p y
EachAtomNames p (or y z) = EachAtomNames p y × EachAtomNames p z
EachAtomNames p (and y z) = EachAtomNames p y × EachAtomNames p z
EachAtomNames p (couple y z) = EachAtomNames p y × EachAtomNames p z
EachAtomNames p (any q y) = (q ≢ p) × EachAtomNames p y
EachAtomNames p (every q y) = (q ≢ p) × EachAtomNames p y
EachAtomNames p (sync q y) = (q ≢ p) × EachAtomNames p y
EachAtomNames p (all q y) = (q ≢ p) × EachAtomNames p y
EachAtomNames p (times n y) = EachAtomNames p y

-- a complete word is partial
abbrev pub CompleteWordsArePartial : Type 0
CompleteWordsArePartial = (x : Form) (e : Environment) (w : Word) → IsComplete x e w
    → IsPartial x e w

-- each prefix of a partial word is partial
abbrev pub PrefixesArePartial : Type 0
PrefixesArePartial = (x : Form) (e : Environment) (u v : Word) → IsPartial x e (u ++ v)
    → IsPartial x e u

-- the empty word is partial
abbrev pub TheEmptyWordIsPartial : Type 0
TheEmptyWordIsPartial = (x : Form) (e : Environment) → IsPartial x e []

-- each action of a partial word is in the alphabet
abbrev pub PartialWordsStayInTheAlphabet : Type 0
PartialWordsStayInTheAlphabet = (x : Form) (e : Environment) (w : Word) → IsPartial x e w
    → Each (InAlphabet x e) w

-- environments that agree on a word mean the same of it
abbrev pub AgreeingEnvironmentsMeanTheSame : Type 0
AgreeingEnvironmentsMeanTheSame = (x : Form) (e f : Environment) (w : Word) → AgreeOn e f w
    → MeansTheSame x e f w

-- environments under which the atoms of the expression match the same of a word's actions mean the
-- same of it
abbrev pub AgreeingAtomsMeanTheSame : Type 0
AgreeingAtomsMeanTheSame = (x : Form) (e f : Environment) (w : Word) →
    AtomsAgreeOn x e f w → MeansTheSame x e f w

-- in `all $p y`, where every atom of y names `$p`, an owner whose part is partial is a value of
-- each action that it owns
abbrev pub OwnersAreValues : Type 0
OwnersAreValues = (p : List ℕ) (y : Form) (e : Environment) (w : Word) (owners : List (List ℕ))
    (v : List ℕ) → EachAtomNames p y →
    IsPartial y (bind p (Some v) e) (part (text_eq v) owners w)
    → Each (λ a. Member v a.values) (part (text_eq v) owners w)

-- no action of the word has the value v
abbrev pub IsFresh : List ℕ → Word → Type 0
IsFresh v w = Each (λ a. ¬ Member v a.values) w

-- a value that no action of the word has counts as any other such value
abbrev pub FreshValuesAreAlike : Type 0
FreshValuesAreAlike = (x : Form) (e : Environment) (p u v : List ℕ) (w : Word) → IsFresh u w
    → IsFresh v w → MeansTheSame x (bind p (Some u) e) (bind p (Some v) e) w

-- a value that no action of the word has counts as outside
abbrev pub FreshValuesAreOutside : Type 0
FreshValuesAreOutside = (x : Form) (e : Environment) (p v : List ℕ) (w : Word) → IsFresh v w
    → MeansTheSame x (bind p (Some v) e) (bind p None e) w

-- in an `all $p y` that fits its environment, every atom of y names `$p`
abbrev pub FittingAtomsNameTheirParameter : Type 0
FittingAtomsNameTheirParameter = (p : List ℕ) (y : Form) (e : Environment) → Fits (all p y) e
    → EachAtomNames p y

-- owners of the actions of w, each a value of its action, whose parts all have Q
pub record OwnedByValues (Q : List ℕ → Word → Type 0) (w : Word) : Type 0 where
  pub owners : List (List ℕ)
  pub are_values : EachPair (λ v a. Member v a.values) owners w
  pub each_has : (v : List ℕ) → Q v (part (text_eq v) owners w)

-- the words of `all $p y` are those with owners among their values
pub record WithinTheValues (p : List ℕ) (y : Form) (e : Environment) (w : Word) : Type 0 where
  pub complete : IsComplete (all p y) e w ↔ OwnedByValues (λ v. IsComplete y (bind p (Some v) e)) w
  pub partial : IsPartial (all p y) e w ↔ OwnedByValues (λ v. IsPartial y (bind p (Some v) e)) w

-- in `all $p y`, where every atom of y names `$p`, owners among each action's own values suffice
abbrev pub OwnersAmongTheValues : Type 0
OwnersAmongTheValues = (p : List ℕ) (y : Form) (e : Environment) (w : Word) → EachAtomNames p y
    → WithinTheValues p y e w

-- the action doesn't matter to the expression: it isn't in the alphabet, no word that ends with it
-- is partial, and behind a word it adds nothing to the projection to the alphabet
pub record DoesNotMatter (x : Form) (e : Environment) (a : PlainAction) : Type 0 where
  pub alphabet : ¬ InAlphabet x e a
  pub partial : (w : Word) → ¬ IsPartial x e (w ++ a ∷ [])
  pub projection : (w u : Word) →
      Projection (InAlphabet x e) (w ++ a ∷ []) u ↔ Projection (InAlphabet x e) w u

-- an action whose name no atom has doesn't matter, whatever the environment
abbrev pub UnmentionedNamesDoNotMatter : Type 0
UnmentionedNamesDoNotMatter = (x : Form) (e : Environment) (a : PlainAction) →
    ¬ Mentions x a.name → DoesNotMatter x e a
