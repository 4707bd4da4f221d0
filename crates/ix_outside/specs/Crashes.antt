-- What a crash may leave, and what the calls of a site make of that.
use Rattle.std.specs.Prelude.{◌≡◌, ◌⊎◌, ◌↔◌, ℕ, ◌≤◌, List, [], ◌∷◌, ◌++◌, false}
use Rattle.std.specs.Prelude.{Option, Some, Result, Ok, Err}
use Rattle.ix_outside.specs.Contents.{SentBytes, Sends}
use Rattle.ix_outside.specs.Disk.{Disk, HasNothingOpened, OfFile}
use Rattle.ix_outside.specs.Sink.{IsFront}
use Rattle.ix_outside.specs.SiteState.{SiteState}

-- an image of the file that a crash left, and what had been sent by then
pub record Left : Type 0 where
  pub image : List ℕ
  pub sent : List SentBytes

-- The images that a crash now may leave; those that a crash at some moment since a tick may have
-- left; and these beside what had been sent by then.
pub record Crashes : Type 1 where
  pub now : List ℕ → Type 0
  pub left : ℕ → List ℕ → Type 0
  pub left_since : ℕ → Left → Type 0

-- what a site says that says nothing of crashes
abbrev pub nothing_left : Crashes
nothing_left = record { now = λ image. ⊥; left = λ t image. ⊥; left_since = λ t left. ⊥ }

-- A stretch of calls of a site: what the site is before and after them, and what a crash might have
-- left before them and may leave behind them.
pub record Stretch : Type 1 where
  pub before : SiteState
  pub after : SiteState
  pub was : Crashes
  pub is : Crashes

-- the stretch that leads from one site to another, by what is told of a site and of its crashes
abbrev pub stretch_of : {S : Type 0} → (S → SiteState) → (S → Crashes) → S → S → Stretch
stretch_of site_state site_crashes old new = record {
  before = site_state old;
  after = site_state new;
  was = site_crashes old;
  is = site_crashes new;
}

-- What holds at any moment of a site: where nothing is attached, nothing is told of an attach; the
-- file as it reads may be left; since this very tick nothing is left but what may be left now,
-- beside all that was sent; what is left since a later tick is left since an earlier one; and
-- beside what had been sent just the same images are left.
pub record AreLawful (site : SiteState) (crashes : Crashes) : Type 0 where
  pub unattached : site.attached ≡ false → HasNothingOpened site.disk
  pub file : OfFile crashes.now site.disk
  pub left_now : (image : List ℕ) → crashes.left site.tick image ↔ crashes.now image
  pub left_earlier : (t u : ℕ) (image : List ℕ) → t ≤ u → crashes.left u image
      → crashes.left t image
  pub since_now : (sends : Sends) → site.contents.sends ≡ Some sends
      → (image : List ℕ) (sent : List SentBytes)
      → crashes.left_since site.tick (record { image = image; sent = sent })
      ↔ (crashes.now image × (sent ≡ sends.sent))
  pub since_earlier : (t u : ℕ) (left : Left) → t ≤ u → crashes.left_since u left
      → crashes.left_since t left
  pub since_left : (t : ℕ) (left : Left) → crashes.left_since t left → crashes.left t left.image
  pub left_since : (sends : Sends) → site.contents.sends ≡ Some sends → (t : ℕ) (image : List ℕ)
      → crashes.left t image
      → (sent : List SentBytes) × crashes.left_since t (record { image = image; sent = sent })

-- Over a stretch of calls: ticks don't fall; what might have been left since a tick before still
-- might; and what else may have been left since then was left since the stretch began.
pub record Elapses {A : Type 0} (before now : ℕ) (past since : ℕ → A → Type 0) : Type 0 where
  pub later : before ≤ now
  pub still : (t : ℕ) (x : A) → t ≤ before → past t x → since t x
  pub nothing_else : (t : ℕ) (x : A) → t ≤ before → since t x → past t x ⊎ since before x

-- over a stretch of calls, of what a crash may leave with and without what had been sent by then
pub record Passes (stretch : Stretch) : Type 0 where
  pub left : Elapses stretch.before.tick stretch.after.tick stretch.was.left stretch.is.left
  pub left_since : Elapses stretch.before.tick stretch.after.tick
      stretch.was.left_since stretch.is.left_since

-- behind what was sent before, one pair stands that was cut short
pub record HasFrontOfLast (before after sent : List SentBytes) : Type 0 where
  pub conn : ℕ
  pub bytes : List ℕ
  pub front : List ℕ
  pub whole : after ≡ before ++ record { conn = conn; bytes = bytes } ∷ []
  pub is_front : IsFront front bytes
  pub part : sent ≡ before ++ record { conn = conn; bytes = front } ∷ []

-- at a moment of a call nothing was sent yet of what it sent, or a front of it
abbrev pub IsSentByThen : List SentBytes → List SentBytes → List SentBytes → Type 0
IsSentByThen before after sent = (sent ≡ before) ⊎ HasFrontOfLast before after sent

-- One call: what a crash since its beginning may have left is what it might have left before the
-- call, or may leave behind it; where the sends are told, beside what had been sent at a moment of
-- the call, and at each such moment.
pub record OneCall (stretch : Stretch) : Type 0 where
  pub passes : Passes stretch
  pub images : (image : List ℕ) → stretch.is.left stretch.before.tick image
      → stretch.was.now image ⊎ stretch.is.now image
  pub sent : (before after : Sends) → stretch.before.contents.sends ≡ Some before
      → stretch.after.contents.sends ≡ Some after
      → (left : Left) → stretch.is.left_since stretch.before.tick left
      → IsSentByThen before.sent after.sent left.sent
  pub moments : (before after : Sends) → stretch.before.contents.sends ≡ Some before
      → stretch.after.contents.sends ≡ Some after
      → (left : Left) → stretch.is.now left.image → IsSentByThen before.sent after.sent left.sent
      → stretch.is.left_since stretch.before.tick left

-- just these images may be left: the ones that might have been before
abbrev pub LeavesTheSame : (List ℕ → Type 0) → (List ℕ → Type 0) → Type 0
LeavesTheSame was is = (image : List ℕ) → is image ↔ was image

-- each image that might have been left before may still be left
abbrev pub LeavesNoLess : (List ℕ → Type 0) → (List ℕ → Type 0) → Type 0
LeavesNoLess was is = (image : List ℕ) → was image → is image

-- each image that may be left is one that might have been before, after this step
abbrev pub LeavesAtMost : (List ℕ → List ℕ → Type 0) → (List ℕ → Type 0) → (List ℕ → Type 0)
    → Type 0
LeavesAtMost Step was is = (image : List ℕ) → is image
    → (before : List ℕ) × was before × Step before image

-- just these images may be left: the ones that might have been before, after this step
abbrev pub LeavesJust : (List ℕ → List ℕ → Type 0) → (List ℕ → Type 0) → (List ℕ → Type 0) → Type 0
LeavesJust Step was is = (image : List ℕ)
    → is image ↔ ((before : List ℕ) × was before × Step before image)

-- where the disk is told, just its file may be left
abbrev pub LeavesTheFile : Option Disk → (List ℕ → Type 0) → Type 0
LeavesTheFile disk now = OfFile (λ file. (image : List ℕ) → now image ↔ (image ≡ file)) disk

-- after a call that steps so; one that failed may have stepped, or not
abbrev pub LeavesBy : {T E : Type 0} → (List ℕ → List ℕ → Type 0) → Result T E
    → (List ℕ → Type 0) → (List ℕ → Type 0) → Type 0
LeavesBy Step (Ok done) was is = LeavesJust Step was is
LeavesBy Step (Err fault) was is = LeavesAtMost Step was is × LeavesNoLess was is

-- after a sync, or an attach, just the file may be left; one that failed changes nothing of what
-- may be left
abbrev pub Settles : {T E : Type 0} → Result T E → Option Disk → (List ℕ → Type 0)
    → (List ℕ → Type 0) → Type 0
Settles (Ok done) disk was is = LeavesTheFile disk is
Settles (Err fault) disk was is = LeavesTheSame was is
