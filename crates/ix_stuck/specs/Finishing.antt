-- What some moves lead to, where a move is an action that may be taken again and again.
use Rattle.std.specs.Prelude.{◌≤◌, [], ◌++◌, length}
use Rattle.ix_words.specs.Each.{Each, Member}
use Rattle.ix_values.specs.PlainAction.{Word}
use Rattle.ix_expr.specs.Form.{Form}
use Rattle.ix_expr.specs.Meaning.{IsComplete, IsPartial}

-- each action of the word is one of the moves
abbrev pub IsOfMoves : Word → Word → Type 0
IsOfMoves moves w = Each (λ a. Member a moves) w

-- the word is partial, and each of its actions is one of the moves
pub record IsLedTo (x : Form) (moves w : Word) : Type 0 where
  pub over : IsOfMoves moves w
  pub partial : IsPartial x [] w

-- with some moves behind it the word is complete
pub record CanFinish (x : Form) (moves w : Word) : Type 0 where
  pub behind : Word
  pub over : IsOfMoves moves behind
  pub complete : IsComplete x [] (w ++ behind)

-- the moves lead to the word, and with no moves behind it is it complete
pub record IsStuck (x : Form) (moves w : Word) : Type 0 where
  pub reached : IsLedTo x moves w
  pub unfinished : ¬ CanFinish x moves w

-- the word is stuck, and no shorter one is
pub record IsFirstStuck (x : Form) (moves w : Word) : Type 0 where
  pub stuck : IsStuck x moves w
  pub shortest : (u : Word) → IsStuck x moves u → length w ≤ length u

-- each word to which the moves lead can be finished by them
abbrev pub IsNeverStuck : Form → Word → Type 0
IsNeverStuck x moves = (w : Word) → IsLedTo x moves w → CanFinish x moves w
