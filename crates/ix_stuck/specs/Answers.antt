-- What each answer claims.
use Rattle.std.specs.Prelude.{ℕ, ◌<◌}
use Rattle.ix_values.specs.PlainAction.{Word}
use Rattle.ix_expr.specs.Form.{Form}
use Rattle.ix_can.specs.TreeOf.{tree_size}
use Rattle.ix_stuck.specs.Finishing.{IsLedTo, IsFirstStuck, IsNeverStuck}
use Rattle.ix_stuck.specs.Gone.{AreGone}
use Rattle.ix_stuck.specs.declared.answer.Answer.{Answer}
use Rattle.ix_stuck.specs.declared.answer.Answer.TheVariants.{Never, Stuck, Large, Many}
use Rattle.ix_stuck.specs.declared.answer.Answer.TheVariants.{Unconfirmed}

-- the moves lead to a word whose tree is above the limit
pub record HasLargeTree (x : Form) (moves : Word) (limit : ℕ) : Type 0 where
  pub word : Word
  pub reached : IsLedTo x moves word
  pub large : limit < tree_size x word

-- what the answer claims, where the trees may have so many nodes
abbrev pub IsAnswer : Form → Word → ℕ → Answer → Type 0
IsAnswer x moves limit (Never states) = IsNeverStuck x moves
IsAnswer x moves limit (Stuck word gone) =
    IsFirstStuck x moves word.items × AreGone x moves word.items gone.items
IsAnswer x moves limit Large = HasLargeTree x moves limit
IsAnswer x moves limit Many = Unit {0}
IsAnswer x moves limit Unconfirmed = Unit {0}
