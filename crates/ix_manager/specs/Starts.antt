-- Which files a run can't start from, and why.
use Rattle.std.specs.Prelude.{◌⊎◌, ℕ, ◌+◌, ◌-◌, ◌<◌, ◌≤◌, List, [], length, take}
use Rattle.ix_values.specs.PlainAction.{Word}
use Rattle.ix_journal.specs.History.{PlainHistory}
use Rattle.ix_expr.specs.Form.{Form}
use Rattle.ix_expr.specs.Meaning.{IsPartial}
use Rattle.ix_can.specs.TreeOf.{tree_size}
use Rattle.ix_journal.specs.Kinds.{IsUnopened}
use Rattle.ix_journal.specs.Recovery.{HoldsBoots, Recovers}
use Rattle.ix_journal.specs.declared.TheConstants.{MOST_BOOTS}
use Rattle.ix_journal.specs.declared.entries.Renewed.{Renewed}
use Rattle.ix_store.specs.Opening.{IsReadyWith}
use Rattle.ix_manager.specs.Images.{IsOwn, EachPrefixIsWithin}

-- the header of the file is whole, and has this text
abbrev pub HasText : List ℕ → List ℕ → Type 0
HasText file text = IsUnopened file text ⊎ IsReadyWith file text

-- the action of this number, counted from 1, is there, and each prefix in front of it is within the
-- limit
pub record IsReached (x : Form) (limit : ℕ) (word : Word) (number : ℕ) : Type 0 where
  pub first : 0 < number
  pub last : number ≤ length word
  pub before : EachPrefixIsWithin x limit (take (number - 1) word)

-- the action of this number is the first with which the word isn't partial
pub record IsNoWord (x : Form) (limit : ℕ) (word : Word) (number : ℕ) : Type 0 where
  pub reached : IsReached x limit word number
  pub not_partial : ¬ IsPartial x [] (take number word)

-- the action of this number is the first with which the Size is above the limit
pub record IsHeavy (x : Form) (limit : ℕ) (word : Word) (number : ℕ) : Type 0 where
  pub reached : IsReached x limit word number
  pub partial : IsPartial x [] (take number word)
  pub above : limit < tree_size x (take number word)

-- the file is the expression's, recovers this history, and holds fewer boots than it may
pub record OpensAs (x : Form) (file : List ℕ) (history : PlainHistory) : Type 0 where
  pub own : IsOwn x file
  pub recovers : Recovers file history
  pub renewed : Renewed
  pub boots : ℕ
  pub holds : HoldsBoots file renewed boots
  pub few : boots < renewed.boots + MOST_BOOTS
