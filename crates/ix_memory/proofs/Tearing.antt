-- What a call of the disk makes of what a crash may leave now.
use Rattle.std.proofs.Common.{◌≡◌, ℕ, ◌+◌, ◌/◌, ◌≤◌, Bool, true, false, Option}
use Rattle.std.proofs.Common.{List, ◌∷◌, ◌++◌, length, take, drop, length-append, length-drop, append_assoc}
use Rattle.std.proofs.Common.{inl, inr, refl, sym, ◌∙◌, ap, subst, arith}
use Rattle.std.proofs.lemmas.List.{take_at, length-take}
use Rattle.std.proofs.lemmas.Slice.{drop-append-drop}
use Rattle.ix_outside.specs.Contents.{SentBytes}
use Rattle.ix_outside.specs.Crashes.{LeavesJust, LeavesAtMost, LeavesNoLess}
use Rattle.ix_outside.specs.Disk.{Opened, MakesFile, Torn}
use Rattle.ix_memory.specs.declared.past.Effect.{Effect}
use Rattle.ix_memory.specs.declared.past.Effect.TheVariants.{Kept, Wrote}
use Rattle.ix_memory.specs.inside.MemorySiteState.{told_disk, half_of, opened_behind, opened_where, written}
use Rattle.ix_memory.specs.inside.Moments.{LeavesImage}
use Rattle.ix_memory.specs.inside.PastCalls.{PastCall}

-- a front of at most so many bytes was written
pub torn_by : (at count : ℕ) (front file : List ℕ) → at ≤ length file → length front ≤ count
    → Torn at count file (written at front file)
torn_by at count front file within short =
    let head = take at file in
    let tail = drop (at + length front) file in
    let head_is : length head ≡ at = omega (arith, length-take at file) in
    let all_is : length (head ++ front) ≡ at + length front =
    omega (arith, head_is, length-append head front) in
    let long : length (written at front file) ≡ at + (length front + length tail) =
    omega (arith, head_is, length-append head (front ++ tail), length-append front tail) in
    let rest = length-drop (at + length front) file in
    record {
      before = take_at head (front ++ tail) at head_is;
      behind = ap (drop (at + count)) (sym (append_assoc head front tail))
          ∙ drop-append-drop (at + length front) file (head ++ front) (at + count) (omega arith) all_is;
      no_shorter = omega arith;
      no_longer = omega arith;
    }

-- the first half was written
pub torn_half : (at : ℕ) (bytes file : List ℕ) → at ≤ length file
    → Torn at (length bytes) file (written at (half_of bytes) file)
torn_half at bytes file within = torn_by at (length bytes) (half_of bytes) file within
    (let half = length-take (length bytes / 2) bytes in omega arith)

-- nothing was written
pub torn_none : (at count : ℕ) (file : List ℕ) → Torn at count file file
torn_none at count file =
    record { before = refl; behind = refl; no_shorter = omega arith; no_longer = omega arith }

-- a call of this effect was put in front of those before
abbrev pub IsNext : Effect → List ℕ → List SentBytes → List PastCall → List PastCall → Type 0
IsNext effect file sent past calls =
    calls ≡ record { effect = effect; file = file; sent = sent } ∷ past

-- a write that so left the file
pub write_leaves : (at count : ℕ) (file new : List ℕ) (sent : List SentBytes)
    (past calls : List PastCall) → IsNext (Wrote at count) file sent past calls
    → Torn at count file new → LeavesJust (Torn at count) (LeavesImage past file) (LeavesImage calls new)
write_leaves at count file new sent past calls next torn =
    let P : List PastCall → Type 0 = λ calls.
    LeavesJust (Torn at count) (LeavesImage past file) (LeavesImage calls new) in
    subst P (sym next) (λ image. (
      (λ now. elim now [
        | inl same ↦ (file, inl refl, subst (Torn at count file) (sym same) torn)
        | inr pending ↦ pending
      ]),
      (λ pending. inr pending),
    ))

-- a call that changed nothing
pub keeps_leaving : (Step : List ℕ → List ℕ → Type 0) (file : List ℕ) (sent : List SentBytes)
    (past calls : List PastCall) → IsNext Kept file sent past calls
    → ((image : List ℕ) → Step image image)
    → LeavesAtMost Step (LeavesImage past file) (LeavesImage calls file)
    × LeavesNoLess (LeavesImage past file) (LeavesImage calls file)
keeps_leaving Step file sent past calls next none =
    let P : List PastCall → Type 0 = λ calls.
    LeavesAtMost Step (LeavesImage past file) (LeavesImage calls file)
    × LeavesNoLess (LeavesImage past file) (LeavesImage calls file) in
    subst P (sym next) ((λ image now. (image, now, none image)), (λ image was. was))

-- a write of which a part was done
pub part_leaves : (at count : ℕ) (file new : List ℕ) (sent : List SentBytes)
    (past calls : List PastCall) → IsNext (Wrote at count) file sent past calls
    → Torn at count file new
    → LeavesAtMost (Torn at count) (LeavesImage past file) (LeavesImage calls new)
    × LeavesNoLess (LeavesImage past file) (LeavesImage calls new)
part_leaves at count file new sent past calls next torn =
    let just = write_leaves at count file new sent past calls next torn in (
      (λ image. (just image).0),
      (λ image was. (just image).1 (image, was, torn_none at count image)),
    )

-- the file as it is told
pub makes_told : (R : List ℕ → List ℕ → Type 0) (told : Bool) (file new : List ℕ)
    (before after : Option Opened) → R file new → after ≡ before
    → MakesFile R (told_disk told file before) (told_disk told new after)
makes_told R true file new before after makes same = (makes, same)
makes_told R false file new before after makes same = refl

-- a call whose effect attaches nothing keeps what was attached
pub opened_stays : (effect : Effect)
    → ((opened : Opened) (before : Option Opened) → opened_behind effect opened before ≡ before)
    → (attached : Bool) (name file : List ℕ) (sent : List SentBytes) (past : List PastCall)
    → opened_where attached name (record { effect = effect; file = file; sent = sent } ∷ past)
    ≡ opened_where attached name past
opened_stays effect keeps true name file sent past = keeps _ _
opened_stays effect keeps false name file sent past = refl
