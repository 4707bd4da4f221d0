-- What the making of a journal may leave once the file is cleared, from call to call.
use Rattle.std.proofs.Common.{◌≡◌, ℕ, ◌<◌, List, [], ◌∷◌, ◌++◌, length, Some, subst}
use Rattle.ix_outside.specs.Crashes.{Crashes, AreLawful, LeavesTheFile}
use Rattle.ix_outside.specs.Disk.{Disk, MakesFile, Overwrites, Torn}
use Rattle.ix_outside.specs.SiteState.{SiteState}
use Rattle.ix_outside.specs.inside.DiskCalls.{DiskCalls, LeavesOnly, span}
use Rattle.ix_outside.proofs.Passing.{DiskCalls-join}
use Rattle.ix_journal.specs.Format.{IsVersion, header}
use Rattle.ix_store.specs.inside.Steps.{IsBegun, MaybeTorn}
use Rattle.ix_store.proofs.Beginning.{heading, headed, opening}
use Rattle.ix_store.proofs.Calls.{now_has, calls_more, torn_has}
use Rattle.ix_store.proofs.Told.{made}

module _ (version : ℕ) (known : IsVersion version) (text : List ℕ) (short : length text < 65536) (old mid : SiteState) (was then : Crashes)
    (lawful : AreLawful mid then) (calls : DiskCalls (span old mid was then))
    (so_far : LeavesOnly (IsBegun text) (span old mid was then))
    (disk : Disk) (told : mid.disk ≡ Some disk) (cleared : disk.file ≡ 0 ∷ [])
    (settled : LeavesTheFile mid.disk then.now) (bytes : List ℕ)
    (mid' : SiteState) (then' : Crashes) (calls' : DiskCalls (span mid mid' then then'))
    (images' : (disk : Disk) → mid.disk ≡ Some disk
    → LeavesOnly (MaybeTorn 1 (length bytes) then.now) (span mid mid' then then')) where
  -- while the header is written
  pub headed_images : LeavesOnly (IsBegun text) (span old mid' was then')
  headed_images =
      calls_more (IsBegun text) old mid was then calls so_far mid' then' calls' (λ image left.
      torn_has (IsBegun text) 1 (length bytes) mid.disk disk then.now told settled
      (now_has (IsBegun text) old mid was then calls so_far lawful)
      (λ after torn. heading version known text short (length bytes) after
      (subst (λ (f : List ℕ). Torn 1 (length bytes) f after) cleared torn))
      image (images' disk told image left))

  -- while the head gate is opened
  pub opened_images : AreLawful mid' then' → bytes ≡ header version text ++ 0 ∷ []
      → MakesFile (Overwrites 1 bytes) mid.disk mid'.disk → LeavesTheFile mid'.disk then'.now
      → (new : SiteState) (is : Crashes) → DiskCalls (span mid' new then' is)
      → ((disk : Disk) → mid'.disk ≡ Some disk → LeavesOnly (MaybeTorn 0 1 then'.now) (span mid' new then' is))
      → LeavesOnly (IsBegun text) (span old new was is)
  opened_images lawful' spelled written settled' new is calls'' images'' =
      let there = made _ mid.disk mid'.disk disk told written in
      let is_headed =
      headed version known text short bytes disk.file there.disk.file cleared spelled there.makes in
      let both = DiskCalls-join old mid mid' was then then' lawful' calls calls' in
      calls_more (IsBegun text) old mid' was then' both headed_images new is calls'' (λ image left.
      torn_has (IsBegun text) 0 1 mid'.disk there.disk then'.now there.told settled'
      (now_has (IsBegun text) old mid' was then' both headed_images lawful')
      (λ after torn. opening version known text short after
      (subst (λ (f : List ℕ). Torn 0 1 f after) is_headed torn))
      image (images'' there.disk there.told image left))
