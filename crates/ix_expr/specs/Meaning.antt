-- What expressions mean: the alphabet, the complete words and the partial words of an expression
-- under an environment. These are relations over whole words, by cases on the expression. No state,
-- tree or function of the code is in them.
use Rattle.std.specs.Prelude.{◌≡◌, ℕ, List, [], ◌∷◌, ◌⊎◌, Some}
use Rattle.ix_words.specs.Each.{Each}
use Rattle.ix_words.specs.Words.{Joined, Repeated, Split, Numbered, Shared, Owned, Projected}
use Rattle.ix_values.specs.PlainAction.{PlainAction, Word}
use Rattle.ix_expr.specs.Form.{PlainAtom, Form, atom, opt, seq, star, par, par_star, or, and}
use Rattle.ix_expr.specs.Form.{couple, any, every, sync, all, times}
use Rattle.ix_values.specs.Order.{text_eq}
use Rattle.ix_expr.specs.Environment.{Environment, Matches, bind}

-- the action is in the alphabet: an atom's is what it matches, an operator's is the union of its
-- operands', a quantifier's is the union over all values of its parameter
abbrev pub InAlphabet : Form → Environment → PlainAction → Type 0
InAlphabet (atom x) e a = Matches x e a
InAlphabet (opt y) e a = InAlphabet y e a
InAlphabet (seq y z) e a = InAlphabet y e a ⊎ InAlphabet z e a
InAlphabet (star y) e a = InAlphabet y e a
InAlphabet (par y z) e a = InAlphabet y e a ⊎ InAlphabet z e a
InAlphabet (par_star y) e a = InAlphabet y e a
InAlphabet (or y z) e a = InAlphabet y e a ⊎ InAlphabet z e a
InAlphabet (and y z) e a = InAlphabet y e a ⊎ InAlphabet z e a
InAlphabet (couple y z) e a = InAlphabet y e a ⊎ InAlphabet z e a
InAlphabet (any p y) e a = (v : List ℕ) × InAlphabet y (bind p (Some v) e) a
InAlphabet (every p y) e a = (v : List ℕ) × InAlphabet y (bind p (Some v) e) a
InAlphabet (sync p y) e a = (v : List ℕ) × InAlphabet y (bind p (Some v) e) a
InAlphabet (all p y) e a = (v : List ℕ) × InAlphabet y (bind p (Some v) e) a
InAlphabet (times n y) e a = InAlphabet y e a

-- the word is one action that the atom matches
abbrev pub IsOneMatch : PlainAtom → Environment → Word → Type 0
IsOneMatch x e w = (a : PlainAction) × (w ≡ a ∷ []) × Matches x e a

-- the word is complete in the expression under the environment
abbrev pub IsComplete : Form → Environment → Word → Type 0
IsComplete (atom x) e w = IsOneMatch x e w
IsComplete (opt y) e w = (w ≡ []) ⊎ IsComplete y e w
IsComplete (seq y z) e w = Joined (IsComplete y e) (IsComplete z e) w
IsComplete (star y) e w = Repeated (IsComplete y e) w
IsComplete (par y z) e w = Split (IsComplete y e) (IsComplete z e) w
IsComplete (par_star y) e w = Numbered (IsComplete y e) w
IsComplete (or y z) e w = IsComplete y e w ⊎ IsComplete z e w
IsComplete (and y z) e w = IsComplete y e w × IsComplete z e w
IsComplete (couple y z) e w =
    Each (λ a. InAlphabet y e a ⊎ InAlphabet z e a) w
    × Projected (InAlphabet y e) (IsComplete y e) w
    × Projected (InAlphabet z e) (IsComplete z e) w
IsComplete (any p y) e w = (v : List ℕ) × IsComplete y (bind p (Some v) e) w
IsComplete (every p y) e w = (v : List ℕ) → IsComplete y (bind p (Some v) e) w
IsComplete (sync p y) e w =
    Each (λ a. (v : List ℕ) × InAlphabet y (bind p (Some v) e) a) w
    × ((v : List ℕ)
    → Projected (InAlphabet y (bind p (Some v) e)) (IsComplete y (bind p (Some v) e)) w)
IsComplete (all p y) e w = Owned text_eq (λ v. IsComplete y (bind p (Some v) e)) w
IsComplete (times n y) e w = Shared n (IsComplete y e) w

-- the word is partial in the expression under the environment
abbrev pub IsPartial : Form → Environment → Word → Type 0
IsPartial (atom x) e w = (w ≡ []) ⊎ IsOneMatch x e w
IsPartial (opt y) e w = IsPartial y e w
IsPartial (seq y z) e w = IsPartial y e w ⊎ Joined (IsComplete y e) (IsPartial z e) w
IsPartial (star y) e w = Joined (Repeated (IsComplete y e)) (IsPartial y e) w
IsPartial (par y z) e w = Split (IsPartial y e) (IsPartial z e) w
IsPartial (par_star y) e w = Numbered (IsPartial y e) w
IsPartial (or y z) e w = IsPartial y e w ⊎ IsPartial z e w
IsPartial (and y z) e w = IsPartial y e w × IsPartial z e w
IsPartial (couple y z) e w =
    Each (λ a. InAlphabet y e a ⊎ InAlphabet z e a) w
    × Projected (InAlphabet y e) (IsPartial y e) w
    × Projected (InAlphabet z e) (IsPartial z e) w
IsPartial (any p y) e w = (v : List ℕ) × IsPartial y (bind p (Some v) e) w
IsPartial (every p y) e w = (v : List ℕ) → IsPartial y (bind p (Some v) e) w
IsPartial (sync p y) e w =
    Each (λ a. (v : List ℕ) × InAlphabet y (bind p (Some v) e) a) w
    × ((v : List ℕ)
    → Projected (InAlphabet y (bind p (Some v) e)) (IsPartial y (bind p (Some v) e)) w)
IsPartial (all p y) e w = Owned text_eq (λ v. IsPartial y (bind p (Some v) e)) w
IsPartial (times n y) e w = Shared n (IsPartial y e) w
