-- What starting a manager answers and leaves.
use Rattle.std.proofs.Common.{◌≡◌, ◌⊎◌, ℕ, ◌+◌, ◌≤◌, List, [], length, Option, None, Some, Result, Ok, Err, IsErrAnd, false, inl, inr, refl, sym, ◌∙◌, ap, subst, arith}
use Rattle.std.proofs.lemmas.List.{length-map}
use Rattle.std.specs.Option.{ForSome}
use Rattle.ix_journal.specs.Entries.{marks_of, pairs_of, renewed_of}
use Rattle.ix_journal.specs.inside.Counting.{HasBootRoom}
use Rattle.ix_journal.specs.History.{PlainHistory, Spent, actions_of}
use Rattle.ix_journal.specs.declared.entries.Entry.{Entry}
use Rattle.ix_journal.specs.declared.entries.Marks.{Marks}
use Rattle.ix_journal.specs.declared.entries.Renewed.{Renewed}
use Rattle.ix_expr.specs.CanonicalText.{canonical_text}
use Rattle.ix_expr.specs.Form.{Form}
use Rattle.ix_expr.proofs.LawsOfMeaning.{empty-partial}
use Rattle.ix_can.specs.TreeOf.{tree_size}
use Rattle.ix_engine.specs.Histories.{AreAllowed, IsRefused, StopsAt}
use Rattle.ix_engine.specs.declared.faults.PrepareFault.{PrepareFault}
use Rattle.ix_engine.specs.declared.faults.PrepareFault.TheVariants as prepare
use Rattle.ix_engine.specs.declared.faults.ResumeFault.{ResumeFault}
use Rattle.ix_journal.specs.Kinds as kind
use Rattle.ix_journal.specs.Kinds.{IsUnfinished, IsReady, Kind}
use Rattle.ix_journal.specs.Recovery as recovery
use Rattle.ix_journal.specs.Recovery.{IsJournal, HoldsBoots, Recovers, KeepsRecords as KeepsEntries}
use Rattle.ix_journal.proofs.KindLaws.{one_kind}
use Rattle.ix_journal.proofs.OutcomeLaws.{one_history, one_number}
use Rattle.ix_outside.specs.Crashes.{Crashes, AreLawful}
use Rattle.ix_outside.specs.Disk.{Disk, MakesFile, Stays}
use Rattle.ix_outside.specs.SiteState.{SiteState}
use Rattle.ix_outside.specs.inside.DiskCalls.{DiskCalls, KeepsOpened, LeavesOnly, span}
use Rattle.ix_store.specs.Opening.{IsNew}
use Rattle.ix_store.specs.Keeping.{Keeping}
use Rattle.ix_store.specs.inside.Keeping.{FitsFile, IsBootedOrNot, booted}
use Rattle.ix_store.specs.inside.Opens.{Opens}
use Rattle.ix_store.specs.inside.Opens as opening
use Rattle.ix_store.specs.inside.Refusals.{RefusesFileAs}
use Rattle.ix_store.specs.inside.Starting.{LeavesOnStart}
use Rattle.ix_store.specs.declared.fault.OpenFault.{OpenFault}
use Rattle.ix_store.specs.declared.fault.OpenFault.TheVariants as refused
use Rattle.ix_store.proofs.Opened.{ready_not_new}
use Rattle.ix_manager.specs.Images as image
use Rattle.ix_manager.specs.Images.{IsOwn, IsWithin, EachPrefixIsWithin, IsStartable}
use Rattle.ix_manager.specs.Handled.{ManagerState}
use Rattle.ix_manager.specs.Starts.{HasText, OpensAs}
use Rattle.ix_manager.specs.inside.StartAnswers.{IsStartFault, MayRecord, StartLeaves}
use Rattle.ix_manager.specs.Runs.{opening_of}
use Rattle.ix_manager.specs.declared.faults.StartFault.{StartFault}
use Rattle.ix_manager.specs.declared.faults.StartFault.TheVariants as start
use Rattle.ix_manager.specs.inside.StartFaults.{open_fault_of, record_fault_of}
use Rattle.ix_manager.specs.Machine.{start_of}
use Rattle.ix_manager.specs.inside.OverSite.{FitsWith}
use Rattle.ix_manager.proofs.SlotLemmas.{free_holds}
use Rattle.ix_manager.proofs.SavingLemmas.{holds_same, journal_holds, journal_recovers}
use Rattle.ix_manager.proofs.RecoverLemmas.{few_kept, none_within, each_within, no_word, heavy, longer}

-- no call
pub leaves_none : {result : Result ManagerState StartFault} (x : Form) (limit : ℕ) (file : List ℕ) (site : SiteState) (crashes : Crashes)
    → AreLawful site crashes → StartLeaves x limit file result (span site site crashes crashes)
leaves_none x limit file site crashes lawful = record {
  recovers = λ history is at left. inl ((lawful.left_now at).0 left);
  boots = λ renewed boots holds at left. inl ((lawful.left_now at).0 left);
  own = λ is at left. inl ((lawful.left_now at).0 left);
  refused = λ no. (stays site.disk, λ at left. (lawful.left_now at).0 left);
}
  where
    stays : (disk : Option Disk) → MakesFile Stays disk disk
    stays None = refl
    stays (Some disk) = (refl, refl)

-- the text of a ready file
kind_text : Kind → List ℕ
kind_text (kind.ready text gate) = text
kind_text _ = []

same_text : (at text other : List ℕ) (gate first : ℕ) → IsReady at text gate → IsReady at other first → other ≡ text
unfolding kind_text
same_text at text other gate first is isnt = ap kind_text (one_kind at (kind.ready other first) (kind.ready text gate) isnt is)

not_unfinished : (at text : List ℕ) (gate : ℕ) → IsReady at text gate → IsUnfinished at → ⊥
not_unfinished at text gate is isnt =
    let same = one_kind at kind.unfinished (kind.ready text gate) isnt is in cc

-- a file that is of the expression's text or unfinished, and keeps records, is one that it may open
pub own_of : (x : Form) (at : List ℕ) (entries : List Entry) → opening.IsOwnFile at (canonical_text x) → KeepsEntries at entries → IsOwn x at
own_of x at entries (inl new) keeps = image.new new
own_of x at _ (inr is) (recovery.unfinished _ unfinished) = absurd (not_unfinished at (canonical_text x) is.0 is.1 unfinished)
own_of x at _ (inr is) (recovery.unopened _ text unopened) =
    absurd (let same = one_kind at (kind.unopened text) (kind.ready (canonical_text x) is.0) unopened is.1 in cc)
own_of x at _ (inr is) (recovery.ready _ text entries gate journal) =
    image.ready (pairs_of entries) (marks_of entries) gate (record {
      entries = entries;
      journal = subst (λ (t : List ℕ). IsJournal at t entries gate)
          (same_text at (canonical_text x) text is.0 journal.first is.1 journal.ready) journal;
      pairs = refl;
      marked = refl;
    })

-- a file that is to be made anew keeps no record
new_keeps : (at text : List ℕ) → IsNew at text → KeepsEntries at []
new_keeps at text (inl unfinished) = recovery.unfinished at unfinished
new_keeps at text (inr unopened) = recovery.unopened at text unopened

-- the empty word
initial_within : (x : Form) (limit : ℕ) → tree_size x [] ≤ limit → IsWithin x limit []
initial_within x limit within = record { partial = empty-partial x []; size = within }

-- of a start of the store
module _ (x : Form) (limit : ℕ) (file : List ℕ) (old new : SiteState) (was is : Crashes)
    (leaves : LeavesOnStart (canonical_text x) file (span old new was is)) where
  recovers_store : (h : PlainHistory) → Recovers file h → (at : List ℕ) → is.left old.tick at → was.now at ⊎ Recovers at h
  recovers_store h of_file at left = elim (leaves.keeps of_file.entries of_file.keeps at left) [
    | inl now ↦ inl now
    | inr keeps ↦ inr (record { entries = of_file.entries; keeps = keeps; pairs = of_file.pairs })
  ]

  holds_store : (renewed : Renewed) (boots : ℕ) → HoldsBoots file renewed boots → (at : List ℕ) → is.left old.tick at
      → was.now at ⊎ HoldsBoots at renewed boots
  holds_store renewed boots of_file at left = elim (leaves.keeps of_file.entries of_file.keeps at left) [
    | inl now ↦ inl now
    | inr keeps ↦ inr (record { entries = of_file.entries; keeps = keeps; said = of_file.said; number = of_file.number })
  ]

  anew : IsNew file (canonical_text x) → (at : List ℕ) → is.left old.tick at → was.now at ⊎ IsOwn x at
  anew fresh at left =
      elim (leaves.keeps [] (new_keeps file (canonical_text x) fresh) at left) [
        | inl now ↦ inl now
        | inr keeps ↦ elim (leaves.own (inl fresh) at left) [
          | inl now ↦ inl now
          | inr own ↦ inr (own_of x at [] own keeps)
        ]
      ]

  own_store : IsUnfinished file ⊎ HasText file (canonical_text x) → (at : List ℕ) → is.left old.tick at → was.now at ⊎ IsOwn x at
  own_store (inl unfinished) at left = anew (inl unfinished) at left
  own_store (inr (inl unopened)) at left = anew (inr unopened) at left
  own_store (inr (inr ready)) at left = inl ((leaves.stays (ready_not_new file (canonical_text x) ready)).1 at left)

  -- no boot was written behind it
  pub leaves_store : {result : Result ManagerState StartFault} → tree_size x [] ≤ limit
      → StartLeaves x limit file result (span old new was is)
  leaves_store within = record {
    recovers = recovers_store;
    boots = λ renewed boots holds at left. elim (holds_store renewed boots holds at left) [ inl now ↦ inl now | inr same ↦ inr (inl same) ];
    own = own_store;
    refused = λ no. leaves.stays (λ fresh. no [] none_renewed 1 (new_startable fresh));
  }
    where
      none_renewed : Renewed
      none_renewed = record { carried = 0; actions = 0; boots = 0 }

      new_startable : IsNew file (canonical_text x) → IsStartable (opening_of x limit [] none_renewed 1) file
      new_startable fresh =
          let keeps = new_keeps file (canonical_text x) fresh in record {
            own = image.new fresh;
            recovers = record { entries = []; keeps = keeps; pairs = refl };
            within = none_within x limit (initial_within x limit within);
            boots = 0;
            holds = record { entries = []; keeps = keeps; said = refl; number = refl };
            few = omega arith;
            next = refl;
          }

-- a disk that is told is told behind calls
pub stays_told : (old new : Option Disk) (disk : Disk) → KeepsOpened old new → old ≡ Some disk → (now : Disk) × (new ≡ Some now)
stays_told None new disk keeps is = absurd (let no : None ≡ Some disk = is in cc)
stays_told (Some was) None disk keeps is = absurd keeps
stays_told (Some was) (Some now) disk keeps is = (now, refl)

-- it took the history, and the file can be started from
pub resumed : (x : Form) (limit : ℕ) (file : List ℕ) (h : PlainHistory) (marks : Marks) → tree_size x [] ≤ limit
    → AreAllowed x limit (actions_of h) → HasBootRoom marks
    → Opens file (canonical_text x) h marks → IsStartable (opening_of x limit h (renewed_of marks) (marks.boots + 1)) file
resumed x limit file h marks within allowed few opens = record {
  own = own_of x file opens.recovers.entries opens.own opens.recovers.keeps;
  recovers = opens.recovers;
  within = each_within x limit (actions_of h) (initial_within x limit within) allowed;
  boots = marks.boots;
  holds = opens.holds;
  few = few;
  next = refl;
}

-- the store fits the machine of the boot that it wrote
pub begun_fits : (x : Form) (h : PlainHistory) (old new : Keeping) (boot : ℕ) (site : SiteState) (crashes : Crashes)
    → new.failed ≡ false → FitsFile site crashes new (canonical_text x) h
    → (renewed_of old.marks).boots ≤ old.marks.boots → boot ≡ old.marks.boots + 1 → new.marks ≡ booted old.marks
    → FitsWith x (start_of h (renewed_of old.marks) boot) new site crashes
begun_fits x h old new boot site crashes works fits within number is = record {
  works = works;
  fits = fits;
  tickets = record {
    renewed = sym (ap renewed_of is);
    boot = number ∙ sym (ap (λ (m : Marks). m.boots) is);
    begun = omega (arith, number, within);
    number = let none = ap (λ (m : Marks). m.seq) is in omega (arith, none);
    reserved = λ ticket a deadline free. free_holds ticket a deadline free;
  };
}

-- of a start of the store, and of the boot that was written behind it
module _ (x : Form) (limit : ℕ) (file : List ℕ) (old mid new : SiteState) (was then is : Crashes)
    (leaves : LeavesOnStart (canonical_text x) file (span old mid was then))
    (before : DiskCalls (span old mid was then)) (calls : DiskCalls (span mid new then is))
    (h : PlainHistory) (marks : Marks) (opens : Opens file (canonical_text x) h marks)
    (images : LeavesOnly (IsBootedOrNot (canonical_text x) h marks) (span mid new then is)) where
  -- an image that a crash may have left is from before the boot was written, or from then on
  since : (at : List ℕ) → is.left old.tick at → then.left old.tick at ⊎ is.left mid.tick at
  since at left = calls.passes.left.nothing_else old.tick at before.passes.left.later left

  recovers_booted : (k : PlainHistory) → Recovers file k → (at : List ℕ) → is.left old.tick at → was.now at ⊎ Recovers at k
  recovers_booted k of_file at left = elim (since at left) [
    | inl earlier ↦ recovers_store x limit file old mid was then leaves k of_file at earlier
    | inr later ↦
        let found = images at later in
        let recovered : Recovers at h = elim found.1 [
          | inl without ↦ journal_recovers at (canonical_text x) h marks found.0 without
          | inr with_it ↦ journal_recovers at (canonical_text x) h (booted marks) found.0 with_it
        ] in
        inr (subst (λ (w : PlainHistory). Recovers at w) (one_history file h k opens.recovers of_file) recovered)
  ]

  boots_booted : (result : Result ManagerState StartFault) → MayRecord result → (renewed : Renewed) (boots : ℕ)
      → HoldsBoots file renewed boots → (at : List ℕ) → is.left old.tick at
      → was.now at ⊎ HoldsBoots at renewed boots ⊎ (MayRecord result × HoldsBoots at renewed (boots + 1))
  boots_booted result may renewed boots of_file at left =
      let same = one_number file (renewed_of marks) renewed marks.boots boots opens.holds of_file in
      elim (since at left) [
        | inl earlier ↦ elim (holds_store x limit file old mid was then leaves renewed boots of_file at earlier)
            [ inl now ↦ inl now | inr holds ↦ inr (inl holds) ]
        | inr later ↦ let found = images at later in elim found.1 [
          | inl without ↦ inr (inl (holds_same at (renewed_of marks) renewed marks.boots boots (sym same.0) (sym same.1)
              (journal_holds at (canonical_text x) h marks found.0 without)))
          | inr with_it ↦ inr (inr (
            may,
            holds_same at (renewed_of marks) renewed (marks.boots + 1) (boots + 1) (sym same.0)
                (ap (λ n. n + 1) (sym same.1)) (journal_holds at (canonical_text x) h (booted marks) found.0 with_it),
          ))
        ]
      ]

  own_booted : IsUnfinished file ⊎ HasText file (canonical_text x) → (at : List ℕ) → is.left old.tick at → was.now at ⊎ IsOwn x at
  own_booted own at left = elim (since at left) [
    | inl earlier ↦ own_store x limit file old mid was then leaves own at earlier
    | inr later ↦ let found = images at later in elim found.1 [
      | inl without ↦ inr (image.ready h marks found.0 without)
      | inr with_it ↦ inr (image.ready h (booted marks) found.0 with_it)
    ]
  ]

  pub leaves_booted : (result : Result ManagerState StartFault) → MayRecord result → tree_size x [] ≤ limit
      → AreAllowed x limit (actions_of h) → HasBootRoom marks → StartLeaves x limit file result (span old new was is)
  leaves_booted result may within allowed few = record {
    recovers = recovers_booted;
    boots = boots_booted result may;
    own = own_booted;
    refused = λ no. absurd (no h (renewed_of marks) (marks.boots + 1) (resumed x limit file h marks within allowed few opens));
  }

-- the same, of a text, a form and a history that have another spelling
pub started_leaves : {result : Result ManagerState StartFault} (x : Form) (limit : ℕ) (disk : Disk) (old mid new : SiteState)
    (was then is : Crashes) (text : List ℕ) (h pairs : PlainHistory) (form : Form) (store : Keeping)
    → MayRecord result → text ≡ canonical_text x → form ≡ x → pairs ≡ h → old.disk ≡ Some disk
    → LeavesOnStart text disk.file (span old mid was then) → DiskCalls (span old mid was then) → DiskCalls (span mid new then is)
    → Opens disk.file text h store.marks
    → ForSome mid.disk (λ _. LeavesOnly (IsBootedOrNot (canonical_text form) pairs store.marks) (span mid new then is))
    → tree_size x [] ≤ limit → AreAllowed x limit (actions_of h) → HasBootRoom store.marks
    → StartLeaves x limit disk.file result (span old new was is)
started_leaves {result = result} x limit disk old mid new was then is text h pairs form store may text_is form_is pairs_are told leaves before calls
    opens images =
    let told_then = stays_told old.disk mid.disk disk before.opened told in
    leaves_booted x limit disk.file old mid new was then is
    (subst (λ (t : List ℕ). LeavesOnStart t disk.file (span old mid was then)) text_is leaves) before calls h store.marks
    (subst (λ (t : List ℕ). Opens disk.file t h store.marks) text_is opens)
    (subst (λ (f : Form). LeavesOnly (IsBootedOrNot (canonical_text f) h store.marks) (span mid new then is)) form_is
    (subst (λ (k : PlainHistory). LeavesOnly (IsBootedOrNot (canonical_text form) k store.marks) (span mid new then is)) pairs_are
    (images told_then.0 told_then.1))) result may

-- what a `?` hands on
pub handed_on : {T E : Type 0} (r : Result T E) (fault : E) → IsErrAnd r (λ e. e ≡ fault) → r ≡ Err fault
handed_on (Ok t) fault is = absurd is
handed_on (Err e) fault is = ap Err is

-- a store that wasn't opened isn't refused as large
pub never_large : {T : Type 0} (why : OpenFault) (limit : ℕ)
    → ◌≡◌ {A = Result T StartFault} (Err (open_fault_of why)) (Err (start.Large limit)) → ⊥
never_large refused.Disk limit same = cc
never_large refused.NotJournal limit same = cc
never_large (refused.OtherExpression kept) limit same = cc
never_large (refused.Damaged at) limit same = cc
never_large refused.Many limit same = cc
never_large refused.Memory limit same = cc

-- a store that wasn't opened is refused for the disk only where this failed
pub disk_fault : {T : Type 0} (why : OpenFault)
    → ◌≡◌ {A = Result T StartFault} (Err (open_fault_of why)) (Err start.Disk) → why ≡ refused.Disk
disk_fault refused.Disk same = refl
disk_fault refused.NotJournal same = cc
disk_fault (refused.OtherExpression kept) same = cc
disk_fault (refused.Damaged at) same = cc
disk_fault refused.Many same = cc
disk_fault refused.Memory same = cc

-- why the store wasn't opened
pub open_fault : (x : Form) (limit : ℕ) (file : List ℕ) (why : OpenFault) → RefusesFileAs file (canonical_text x) why
    → IsStartFault x limit file (open_fault_of why)
open_fault x limit file refused.Disk facts = tt
open_fault x limit file refused.NotJournal facts = facts
open_fault x limit file (refused.OtherExpression kept) facts = facts
open_fault x limit file (refused.Damaged at) facts = facts
open_fault x limit file refused.Many facts = facts
open_fault x limit file refused.Memory facts = tt

few_recovered : (file : List ℕ) (h : PlainHistory) → Recovers file h → length (actions_of h) ≤ 1000000
few_recovered file h of_file =
    let few = (few_kept file of_file.entries of_file.keeps).actions in
    let pairs = ap length of_file.pairs in
    let actions = length-map h (λ (spent : Spent). spent.1) in
    omega (arith, few, pairs, actions)

-- why an engine of this expression and limit didn't take the history
pub resume_fault : (x : Form) (limit : ℕ) (file : List ℕ) (h : PlainHistory) (marks : Marks) (stopped : ResumeFault) → tree_size x [] ≤ limit
    → HasBootRoom marks → Opens file (canonical_text x) h marks → StopsAt x limit (actions_of h) stopped
    → IsStartFault x limit file (record_fault_of stopped.number stopped.why)
resume_fault x limit file h marks stopped within few opens at = told stopped.why at.refused
  where
    opened : OpensAs x file h
    opened = record {
      own = own_of x file opens.recovers.entries opens.own opens.recovers.keeps;
      recovers = opens.recovers;
      renewed = renewed_of marks;
      boots = marks.boots;
      holds = opens.holds;
      few = few;
    }

    each : EachPrefixIsWithin x limit at.before
    each = each_within x limit at.before (initial_within x limit within) at.allowed

    told : (why : PrepareFault) → IsRefused x limit at.before at.action why → IsStartFault x limit file (record_fault_of stopped.number why)
    told prepare.NotPartial refused =
        (h, opened, no_word x limit (actions_of h) at.before at.action at.behind stopped.number at.parts at.number each refused)
    told (prepare.Over l) refused =
        (h, opened, heavy x limit (actions_of h) at.before at.action at.behind stopped.number at.parts at.number each l refused, refused.0)
    told prepare.Full refused =
        let few = few_recovered file h opens.recovers in
        let room = longer x limit (actions_of h) at.before at.action at.behind stopped.number at.parts at.number each in
        let full = refused.1 in
        absurd (omega (arith, few, room, full))
    told prepare.Memory refused = tt
