-- What a file is, from its first bytes, and what a start leaves of it.
use Rattle.std.proofs.Common.{◌≡◌, ◌⊎◌, ℕ, ◌+◌, ◌<◌, List, [], ◌∷◌, ◌++◌, length, Some}
use Rattle.std.proofs.Common.{Option, Vec, Result, Ok, Err, IfErr, MatchResult}
use Rattle.std.specs.Prelude.{IsErrAnd}
use Rattle.std.proofs.Common.{refl, sym, ap, subst, arith, inl, inr}
use Rattle.std.specs.declared.alloc.Global.{Global}
use Rattle.ix_journal.specs.Entries.{fresh, renewed_of}
use Rattle.ix_journal.specs.inside.Counting.{HasBootRoom}
use Rattle.ix_journal.specs.History.{PlainHistory}
use Rattle.ix_journal.specs.declared.entries.Entry.{Entry}
use Rattle.ix_journal.specs.declared.entries.Marks.{Marks}
use Rattle.ix_outside.specs.Crashes.{Crashes, LeavesTheFile}
use Rattle.ix_outside.specs.Disk.{Disk, OfFile, MakesFile, Stays}
use Rattle.ix_outside.specs.SiteState.{SiteState}
use Rattle.ix_outside.specs.inside.DiskCalls.{DiskCalls, LeavesOnly, span}
use Rattle.ix_journal.specs.Format.{header}
use Rattle.ix_journal.specs.Kinds.{IsReady, unfinished, unopened, foreign, ready}
use Rattle.ix_journal.specs.Recovery.{IsJournalWith, KeepsRecords}
use Rattle.ix_journal.proofs.KindLaws.{one_kind}
use Rattle.ix_journal.proofs.OrderLemmas.{records-behind, records_of, sound-fresh}
use Rattle.ix_journal.proofs.OutcomeLaws.{one_list}
use Rattle.ix_journal.proofs.WritingLaws.{opened}
use Rattle.ix_store.specs.declared.fault.OpenFault.{OpenFault}
use Rattle.ix_store.specs.declared.fault.OpenFault.TheVariants as fault
use Rattle.ix_store.specs.declared.find.Found.{Found}
use Rattle.ix_store.specs.declared.find.Found.TheVariants as fd
use Rattle.ix_store.specs.declared.records.Kept.{Kept}
use Rattle.ix_store.specs.Opening.{IsNew, IsReadyWith}
use Rattle.ix_store.specs.inside.Opens.{IsOwnFile, Opens}
use Rattle.ix_store.specs.inside.Keeping.{FitsFile}
use Rattle.ix_store.specs.Keeping.{Keeping}
use Rattle.ix_store.specs.inside.Reading.{IsHeadOf}
use Rattle.ix_store.specs.inside.Refusals.{RefusesFileAs, TellsNothing}
use Rattle.ix_store.specs.inside.Starting.{CountsOpening, LeavesOnStart, SettlesOpening}
use Rattle.ix_store.specs.inside.Steps.{ClosesWith, IsBegun, IsFound, IsFoundSound, IsSoundly, RefusesHead}
use Rattle.ix_store.specs.inside.Steps.{StopsReading}
use Rattle.ix_store.proofs.Calls.{calls_more}
use Rattle.ix_store.proofs.ReadCalls.{stayed_of}
use Rattle.ix_store.proofs.Told.{just}

-- a new file keeps no record
new_keeps : (file text : List ℕ) → IsNew file text → KeepsRecords file []
new_keeps file text (inl new) = KeepsRecords.unfinished file new
new_keeps file text (inr new) = KeepsRecords.unopened file text new

-- a journal keeps its records
pub journal_keeps : (file text : List ℕ) (history : PlainHistory) (marks : Marks) (gate : ℕ)
    → (w : IsJournalWith file text history marks gate) → KeepsRecords file w.entries
journal_keeps file text history marks gate w = KeepsRecords.ready file text w.entries gate w.journal

begun_keeps : (text image : List ℕ) → IsBegun text image → KeepsRecords image []
begun_keeps text image (inl new) = new_keeps image text new
begun_keeps text image (inr w) =
    let records = w.journal.closes.records in
    subst (KeepsRecords image) (none w.entries (omega (
      arith,
      records-behind fresh w.entries sound-fresh records.valid records.order,
      ap records_of w.marked,
    )))
    (journal_keeps image text [] fresh (7 + length text) w)
  where
    none : (entries : List Entry) → length entries ≡ 0 → entries ≡ []
    none [] long = refl
    none (e ∷ entries) long = absurd (omega arith)

begun_own : (text image : List ℕ) → IsBegun text image → IsOwnFile image text
begun_own text image (inl new) = inl new
begun_own text image (inr w) = inr (w.journal.first, w.journal.ready)

-- what was found, of the file and whatever the site tells
pub found_journal : (text : List ℕ) (found : Found) (kept : Kept) (file : List ℕ)
    → found ≡ fd.Journal kept → IsFound text found file
    → IsJournalWith file text kept.history kept.marks kept.gate
found_journal text found kept file is found_so =
    let P : Found → Type 0 = λ f. IsFound text f file in subst P is found_so

pub found_new : (text : List ℕ) (found : Found) (head : Vec ℕ Global) (file : List ℕ)
    → found ≡ fd.New head → IsFound text found file → IsNew file text × IsHeadOf head.items file
found_new text found head file is found_so =
    let P : Found → Type 0 = λ f. IsFound text f file in subst P is found_so

pub found_sound : (found : Found) (kept : Kept) → found ≡ fd.Journal kept → IsFoundSound found
    → IsSoundly kept.history kept.marks kept.gate × HasBootRoom kept.marks
found_sound found kept is sound = subst IsFoundSound is sound

-- what was found of a file that stays was found of it before
pub found_before : (text : List ℕ) (result : Result Found OpenFault) (old new : Option Disk)
    → MakesFile Stays old new
    → MatchResult result (λ found. OfFile (IsFound text found) new)
    (λ fault. OfFile (λ file. RefusesFileAs file text fault) new)
    → MatchResult result (λ found. OfFile (IsFound text found) old)
    (λ fault. OfFile (λ file. RefusesFileAs file text fault) old)
found_before text (Ok found) old new stays holds =
    stayed_of (IsFound text found) old new stays holds
found_before text (Err fault) old new stays holds =
    stayed_of (λ file. RefusesFileAs file text fault) old new stays holds

-- where just the file may be left whatever is answered
pub settles : {T : Type 0} (result : Result T OpenFault) (disk : Option Disk)
    (now : List ℕ → Type 0) → LeavesTheFile disk now → SettlesOpening result disk now
settles (Ok value) disk now only = only
settles (Err why) disk now only = λ told. only

-- what is counted from the same count on
pub counts_on : {T : Type 0} (result : Result T OpenFault) (before then now : ℕ) → then ≡ before
    → CountsOpening result then now → CountsOpening result before now
counts_on result before then now same counts =
    subst (λ n. CountsOpening result n now) same counts

-- a fault that tells nothing of the file refuses any
pub refuses_any : (why : OpenFault) (file text : List ℕ) → TellsNothing why → RefusesFileAs file text why
refuses_any fault.NotJournal file text none = absurd none
refuses_any (fault.OtherExpression kept) file text none = absurd none
refuses_any (fault.Damaged at) file text none = absurd none
refuses_any fault.Many file text none = absurd none
refuses_any fault.Disk file text none = tt
refuses_any fault.Memory file text none = tt

-- what holds of a fault holds of what `?` hands up for it
pub handed_up : {T E : Type 0} (result : Result T E) (why : E) (P : T → Type 0) (Q : E → Type 0)
    → IsErrAnd result (λ fault. fault ≡ why) → Q why → MatchResult result P Q
handed_up (Ok value) why P Q none holds = absurd none
handed_up (Err fault) why P Q same holds = subst Q (sym same) holds

pub refused_up : {T E : Type 0} (result : Result T E) (why : E) (Q : E → Type 0)
    → IsErrAnd result (λ fault. fault ≡ why) → Q why → IfErr result Q
refused_up (Ok value) why Q same holds = tt
refused_up (Err fault) why Q same holds = subst Q (sym same) holds

-- a ready file isn't to be made anew
pub ready_not_new : (file text : List ℕ) → IsReadyWith file text → ¬ IsNew file text
ready_not_new file text is (inl new) =
    let same = one_kind file unfinished (ready text is.0) new is.1 in cc
ready_not_new file text is (inr new) =
    let same = one_kind file (unopened text) (ready text is.0) new is.1 in cc

-- the front of a file tells what it is
module _ (head file text : List ℕ) (is_head : IsHeadOf head file) where
  ready_read : (kept : List ℕ) → IsReadyWith head kept → IsReadyWith file kept
  ready_read kept (gate, is_ready) = (gate, is_head.kind (ready kept gate) is_ready)

  pub new_read : IsNew head text → IsNew file text
  new_read (inl new) = inl (is_head.kind unfinished new)
  new_read (inr new) = inr (is_head.kind (unopened text) new)

  pub refusal_read : (fault : OpenFault) → RefusesHead head text fault → RefusesFileAs file text fault
  refusal_read fault.NotJournal refused = is_head.kind foreign refused
  refusal_read (fault.OtherExpression kept) (inl is_unopened, other) =
      (inl (is_head.kind (unopened kept.items) is_unopened), other)
  refusal_read (fault.OtherExpression kept) (inr is_ready, other) =
      (inr (ready_read kept.items is_ready), other)
  refusal_read (fault.Damaged at) refused = absurd refused
  refusal_read fault.Many refused = absurd refused
  refusal_read fault.Disk refused = tt
  refusal_read fault.Memory refused = tt

  -- so do its records from the first gate on
  module _ (first : ℕ) (is_ready : IsReady head text first) where
    ready_there : IsReady file text first
    ready_there = is_head.kind (ready text first) is_ready

    pub journal_read : (history : PlainHistory) (marks : Marks) (gate : ℕ)
        → ClosesWith file first history marks gate → IsJournalWith file text history marks gate
    journal_read history marks gate w = record {
      entries = w.entries;
      journal = record { first = first; ready = ready_there; closes = w.closes };
      pairs = w.pairs;
      marked = w.marked;
    }

    -- a journal of a million boots has no room for another
    pub full_read : (history : PlainHistory) (marks : Marks) (gate : ℕ)
        → ClosesWith file first history marks gate → marks.boots ≡ (renewed_of marks).boots + 1000000
        → RefusesFileAs file text fault.Many
    full_read history marks gate w full =
        let journal = journal_read history marks gate w in (
          (first, ready_there),
          inr (record {
            entries = journal.entries;
            keeps = journal_keeps file text history marks gate journal;
            full = omega (
              arith,
              full,
              ap (λ (m : Marks). m.boots) journal.marked,
              ap (λ (m : Marks). (renewed_of m).boots) journal.marked,
            );
          }),
        )

    pub stop_read : (fault : OpenFault) → StopsReading first fault file → RefusesFileAs file text fault
    stop_read fault.NotJournal stops = absurd stops
    stop_read (fault.OtherExpression kept) stops = absurd stops
    stop_read (fault.Damaged at) stops = (
      (first, ready_there),
      record { text = text; first = first; ready = ready_there; damaged = stops },
    )
    stop_read fault.Many stops = (
      (first, ready_there),
      inl (record { text = text; first = first; ready = ready_there; many = stops }),
    )
    stop_read fault.Disk stops = tt
    stop_read fault.Memory stops = tt

-- a new file and a journal are opened
pub opens_new : (file text : List ℕ) → IsNew file text → Opens file text [] fresh
opens_new file text new = record {
  own = inl new;
  recovers = record { entries = []; keeps = new_keeps file text new; pairs = refl };
  holds = record { entries = []; keeps = new_keeps file text new; said = refl; number = refl };
}

pub opens_journal : (file text : List ℕ) (history : PlainHistory) (marks : Marks) (gate : ℕ)
    → IsJournalWith file text history marks gate
    → Opens file text history marks
opens_journal file text history marks gate w =
    let keeps = journal_keeps file text history marks gate w in
    record {
      own = inr (w.journal.first, w.journal.ready);
      recovers = record { entries = w.entries; keeps = keeps; pairs = w.pairs };
      holds = record {
        entries = w.entries;
        keeps = keeps;
        said = ap renewed_of w.marked;
        number = ap (λ (m : Marks). m.boots) w.marked;
      };
    }

-- the store of a journal that alone may be left fits
pub fits_only : (site : SiteState) (crashes : Crashes) (store : Keeping) (text : List ℕ)
    (history : PlainHistory)
    → store.marks.actions ≡ length history → LeavesTheFile site.disk crashes.now
    → ((disk : Disk) → site.disk ≡ Some disk → IsJournalWith disk.file text history store.marks
    store.gate)
    → FitsFile site crashes store text history
fits_only site crashes store text history counts settled journal = record {
  count = counts;
  images = λ disk told image now.
      subst (λ (f : List ℕ). IsJournalWith f text history store.marks store.gate)
      (sym (just site.disk disk crashes.now told settled image now)) (journal disk told);
}

-- a start that only read
pub leaves_same : (text file : List ℕ) (old new : SiteState) (was is : Crashes)
    → MakesFile Stays old.disk new.disk
    → LeavesOnly was.now (span old new was is) → LeavesOnStart text file (span old new was is)
leaves_same text file old new was is stays only = record {
  keeps = λ entries kept image left. inl (only image left);
  own = λ own image left. inl (only image left);
  stays = λ other. (stays, only);
}

-- a start that made a journal anew, or tried to
pub leaves_begun : (text file : List ℕ) (old mid new : SiteState) (was then is : Crashes)
    → IsNew file text
    → DiskCalls (span old mid was then) → LeavesOnly was.now (span old mid was then) → DiskCalls (span mid new then is)
    → LeavesOnly (IsBegun text) (span mid new then is) → LeavesOnStart text file (span old new was is)
leaves_begun text file old mid new was then is new_file calls only calls' begun =
    let P : List ℕ → Type 0 = λ image. was.now image ⊎ IsBegun text image in
    let both : LeavesOnly P (span old new was is) =
    calls_more P old mid was then calls (λ image left. inl (only image left)) new is calls'
    (λ image left. inr (begun image left)) in
    record {
      keeps = λ entries kept image left. elim (both image left) [
        | inl before ↦ inl before
        | inr now ↦ inr (subst (KeepsRecords image)
            (one_list file [] entries (new_keeps file text new_file) kept)
            (begun_keeps text image now))
      ];
      own = λ own image left. elim (both image left) [
        | inl before ↦ inl before
        | inr now ↦ inr (begun_own text image now)
      ];
      stays = λ other. absurd (other new_file);
    }

-- the journal that was made
pub made_anew : (text : List ℕ) → length text < 65536 → (file : List ℕ)
    → file ≡ 165 ∷ (header 50 text ++ 0 ∷ [])
    → IsJournalWith file text [] fresh (7 + length text)
made_anew text short file is =
    subst (λ (f : List ℕ). IsJournalWith f text [] fresh (7 + length text)) (sym is)
    (record {
      entries = [];
      journal = opened 50 text 0 [] (inr (inl refl)) short (omega arith);
      pairs = refl;
      marked = refl;
    })
