-- What an append leaves, from call to call.
use Rattle.std.proofs.Common.{◌≡◌, ℕ, ◌+◌, ◌≤◌, List, [], ◌∷◌, ◌++◌, length, Some}
use Rattle.std.proofs.Common.{sym, ◌∙◌, ap, subst, arith, inl, inr}
use Rattle.std.proofs.lemmas.List.{length-append}
use Rattle.ix_journal.specs.History.{PlainHistory}
use Rattle.ix_journal.specs.Entries.{behind, pair_of}
use Rattle.ix_journal.specs.declared.entries.Entry.{Entry}
use Rattle.ix_journal.specs.declared.entries.Marks.{Marks}
use Rattle.ix_outside.specs.Crashes.{Crashes, AreLawful, LeavesTheFile}
use Rattle.ix_outside.specs.Disk.{Disk, OfFile, MakesFile, Overwrites, Torn}
use Rattle.ix_outside.specs.SiteState.{SiteState}
use Rattle.ix_outside.specs.inside.DiskCalls.{DiskCalls, LeavesOnly, span}
use Rattle.ix_journal.specs.Format.{record_of}
use Rattle.ix_journal.specs.Recovery.{IsJournalWith}
use Rattle.ix_store.specs.inside.Keeping.{FitsFile, IsWithOrWithout}
use Rattle.ix_store.specs.Keeping.{Keeping}
use Rattle.ix_store.specs.inside.Steps.{MaybeTorn}
use Rattle.ix_store.proofs.Told.{of_told, to_told, made, came, just}
use Rattle.ix_store.proofs.Calls.{now_has, calls_more, torn_has}
use Rattle.ix_journal.proofs.OrderLemmas.{one-of}
use Rattle.ix_store.proofs.Histories.{MayAppend}
use Rattle.ix_store.proofs.Appending.{torn_behind, staged, torn_gate, opened_gate}

-- the file as it reads is the journal too
fitting_file : (old : SiteState) (was : Crashes) (store : Keeping) (text : List ℕ) (history : PlainHistory)
    → AreLawful old was → FitsFile old was store text history → (told : Disk) → old.disk ≡ Some told
    → IsJournalWith told.file text history store.marks store.gate
fitting_file old was store text history lawful fits told is =
    fits.images told is told.file (of_told was.now old.disk told is lawful.file)

-- the place behind the gate is in the file
pub place_behind : (old : SiteState) (was : Crashes) (store : Keeping) (text : List ℕ)
    (history : PlainHistory)
    → AreLawful old was → FitsFile old was store text history
    → OfFile (λ file. store.gate + 1 ≤ length file) old.disk
place_behind old was store text history lawful fits =
    to_told (λ file. store.gate + 1 ≤ length file) old.disk (λ told is.
    let journal = fitting_file old was store text history lawful fits told is in
    let within = journal.journal.closes.records.within in omega arith)

-- `mid` is behind the call that writes the record
module _ (old mid : SiteState) (was then : Crashes) (calls : DiskCalls (span old mid was then))
    (lawful : AreLawful old was) (lawful' : AreLawful mid then)
    (store : Keeping) (text : List ℕ) (history : PlainHistory) (fits : FitsFile old was store text history)
    (bytes : List ℕ) (images : (disk : Disk) → old.disk ≡ Some disk
    → LeavesOnly (MaybeTorn (store.gate + 1) (length bytes) was.now) (span old mid was then))
  where
    abbrev Same : List ℕ → Type 0
    Same image = IsJournalWith image text history store.marks store.gate

    -- what is left while the record is written
    recorded : (disk : Disk) → old.disk ≡ Some disk → LeavesOnly Same (span old mid was then)
    recorded disk told image left = elim (images disk told image left) [
      | inl now ↦ fits.images disk told image now
      | inr torn ↦ torn_behind text history store.marks store.gate (length bytes) torn.0 image
          (fits.images disk told torn.0 torn.1) torn.2
    ]

    pub recorded_images : (entry : Entry) (disk : Disk) → old.disk ≡ Some disk
        → LeavesOnly (IsWithOrWithout text history store.marks entry) (span old mid was then)
    recorded_images entry disk told image left = (store.gate, inl (recorded disk told image left))

    -- the gate's own place is in the file
    pub place_gate : OfFile (λ file. store.gate ≤ length file) mid.disk
    place_gate = to_told (λ file. store.gate ≤ length file) mid.disk (λ told is.
        let before = came _ old.disk mid.disk told is calls.opened in
        let now = of_told then.now mid.disk told is lawful'.file in
        let journal =
        now_has Same old mid was then calls
        (recorded before.disk before.told) lawful' told.file now in
        let within = journal.journal.closes.records.within in omega arith)

    -- `new` is behind the call that opens the gate
    module _ (entry : Entry) (may : MayAppend store.marks entry)
        (spelled : bytes ≡ record_of entry ++ 0 ∷ [])
        (written : MakesFile (Overwrites (store.gate + 1) bytes) old.disk mid.disk)
        (settled : LeavesTheFile mid.disk then.now) (new : SiteState) (is : Crashes)
      where
        abbrev both : List ℕ → Type 0
        both image = IsWithOrWithout text history store.marks entry image

        module _ (disk : Disk) (told : old.disk ≡ Some disk) where
          journal : IsJournalWith disk.file text history store.marks store.gate
          journal = fitting_file old was store text history lawful fits disk told

          abbrev staged_file : List ℕ
          staged_file = staged text history store.marks store.gate disk.file (record_of entry ++ 0 ∷ [])

          -- the file with the record behind the gate
          middle : (there : Disk) → Overwrites (store.gate + 1) bytes disk.file there.file
              → there.file ≡ staged_file
          middle there makes =
              subst (λ (b : List ℕ). there.file ≡ staged text history store.marks store.gate disk.file b)
              spelled makes

          pub gated_images : DiskCalls (span mid new then is)
              → ((disk : Disk) → mid.disk ≡ Some disk
              → LeavesOnly (MaybeTorn store.gate 1 then.now) (span mid new then is))
              → LeavesOnly both (span old new was is)
          gated_images calls' images' =
              let there = made _ old.disk mid.disk disk told written in
              let before = recorded_images entry disk told in
              calls_more both old mid was then calls before new is calls' (λ image left.
              torn_has both store.gate 1 mid.disk there.disk then.now there.told settled
              (now_has both old mid was then calls before lawful')
              (λ after torn. torn_gate text history store.marks store.gate disk.file journal entry may
              after
              (subst (λ (f : List ℕ). Torn store.gate 1 f after)
              (middle there.disk there.makes) torn))
              image (images' there.disk there.told image left))

        -- after the gate is opened the store fits with one record more
        pub fits_more : MakesFile (Overwrites store.gate (165 ∷ [])) mid.disk new.disk
            → LeavesTheFile new.disk is.now → (after : Keeping)
            → after.gate ≡ store.gate + length bytes
            → after.marks ≡ behind store.marks entry
            → FitsFile new is after text (history ++ pair_of entry)
        fits_more opened settled' after gate marked =
            let more : PlainHistory = history ++ pair_of entry in
            record {
              count = omega (
                arith,
                fits.count,
                ap (λ (m : Marks). m.actions) marked,
                one-of store.marks entry,
                length-append history (pair_of entry),
              );
              images = λ last told image now.
                  let there = came _ mid.disk new.disk last told opened in
                  let first = came _ old.disk mid.disk there.disk there.told written in
                  let same = just new.disk last is.now told settled' image now in
                  let over = subst (λ (f : List ℕ). Overwrites store.gate (165 ∷ []) f image)
                  (middle first.disk first.told there.disk first.makes) (same ∙ there.makes) in
                  let place = gate ∙ ap (λ (b : List ℕ). store.gate + length b) spelled in
                  subst (λ (m : Marks). IsJournalWith image text more m after.gate) (sym marked)
                  (subst (IsJournalWith image text more (behind store.marks entry)) (sym place)
                  (opened_gate text history store.marks store.gate first.disk.file
                  (journal first.disk first.told)
                  entry may image over));
            }
