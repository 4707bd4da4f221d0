-- Stretches of calls of the disk.
use Rattle.std.specs.Prelude.{◌≡◌, ℕ, List, Option, Some, ⊤}
use Rattle.ix_outside.specs.Contents.{Sends}
use Rattle.ix_outside.specs.Crashes.{Crashes, Left, Passes, Stretch}
use Rattle.ix_outside.specs.Disk.{Disk, MakesFile}
use Rattle.ix_outside.specs.SiteState.{SiteState, OnlyDisk}

-- the stretch from one site to another
abbrev pub span : SiteState → SiteState → Crashes → Crashes → Stretch
span before after was is = record { before = before; after = after; was = was; is = is }

-- all along nothing was sent but what had been sent before, where the sends are told
abbrev pub SendsNothing : Stretch → Type 0
SendsNothing stretch = (sends : Sends) → stretch.before.contents.sends ≡ Some sends
    → (left : Left) → stretch.is.left_since stretch.before.tick left → left.sent ≡ sends.sent

-- the disk is told as before, and what was attached stays
abbrev pub KeepsOpened : Option Disk → Option Disk → Type 0
KeepsOpened old new = MakesFile (λ before after. ⊤) old new

-- any calls of the disk but `attach` were made, and no others
pub record DiskCalls (stretch : Stretch) : Type 0 where
  pub rest : OnlyDisk stretch.before stretch.after
  pub attached : stretch.after.attached ≡ stretch.before.attached
  pub opened : KeepsOpened stretch.before.disk stretch.after.disk
  pub passes : Passes stretch
  pub sent : SendsNothing stretch

-- each image that a crash since the beginning may have left has this
abbrev pub LeavesOnly : (List ℕ → Type 0) → Stretch → Type 0
LeavesOnly P stretch = (image : List ℕ) → stretch.is.left stretch.before.tick image → P image
