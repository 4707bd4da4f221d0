-- What a crash may leave of a site in memory.
use Rattle.std.specs.Prelude.{◌≡◌, ◌⊎◌, ℕ, ◌≤◌, List, [], ◌∷◌, length}
use Rattle.ix_outside.specs.Contents.{SentBytes}
use Rattle.ix_outside.specs.Crashes.{Left, IsSentByThen}
use Rattle.ix_outside.specs.Disk.{Torn, MaybeCut}
use Rattle.ix_memory.specs.inside.PastCalls.{PastCall}
use Rattle.ix_memory.specs.declared.past.Effect.{Effect}
use Rattle.ix_memory.specs.declared.past.Effect.TheVariants.{Kept, Wrote, Cut, Synced, Attached}

-- what is pending behind a call, from what a crash might have left before it and what was pending
abbrev pub PendingBy : Effect → (List ℕ → Type 0) → (List ℕ → Type 0) → List ℕ → Type 0
PendingBy Kept was pending image = pending image
PendingBy (Wrote at count) was pending image =
    (before : List ℕ) × was before × Torn at count before image
PendingBy (Cut count) was pending image =
    (before : List ℕ) × was before × MaybeCut count before image
PendingBy Synced was pending image = ⊥
PendingBy Attached was pending image = ⊥

-- the images other than the file that a crash may leave behind these calls, the last one first
abbrev pub Pending : List PastCall → List ℕ → Type 0
Pending [] image = ⊥
Pending (call ∷ calls) image =
    PendingBy call.effect (λ before. (before ≡ call.file) ⊎ Pending calls before)
    (Pending calls) image

-- what a crash may leave behind these calls, where the file reads so
abbrev pub LeavesImage : List PastCall → List ℕ → List ℕ → Type 0
LeavesImage calls file image = (image ≡ file) ⊎ Pending calls image

-- what a crash may leave at a moment, where it isn't before this tick, and what had been sent then
abbrev pub LeavesAt : ℕ → ℕ → (List ℕ → Type 0) → (List SentBytes → Type 0) → Left → Type 0
LeavesAt t moment Image Sent left = (t ≤ moment) × Image left.image × Sent left.sent

-- what a crash since a tick may have left: before the last of these calls, within it or behind it
abbrev pub LeftSince : List PastCall → List ℕ → List SentBytes → ℕ → Left → Type 0
LeftSince [] file sent t left = LeavesAt t 0 (LeavesImage [] file) (λ then. then ≡ sent) left
LeftSince (call ∷ calls) file sent t left =
    LeftSince calls call.file call.sent t left
    ⊎ LeavesAt t (length calls) (LeavesImage (call ∷ calls) file) (IsSentByThen call.sent sent) left
    ⊎ LeavesAt t (length (call ∷ calls)) (LeavesImage (call ∷ calls) file) (λ then. then ≡ sent)
    left
