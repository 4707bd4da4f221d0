-- How a run ends behind the loading of its files.
use Rattle.std.proofs.Common.{◌≡◌, ◌⊎◌, inl, inr, ℕ, ◌<◌, ◌≤◌, List, [], ◌++◌, Option, Some, None, IsSome}
use Rattle.std.proofs.Common.{Result, Ok, Err, refl, sym, ◌∙◌, ap, subst}
use Rattle.std.specs.Prelude.{codes, decimal}
use Rattle.std.proofs.lemmas.Bool.{cases_lt}
use Rattle.std.proofs.lemmas.Option.{none-some}
use Rattle.ix_journal.specs.declared.entries.Renewed.{Renewed}
use Rattle.ix_journal.specs.History.{PlainHistory}
use Rattle.ix_expr.specs.Form.{Form}
use Rattle.ix_can.specs.TreeOf.{tree_size}
use Rattle.ix_cli.specs.Words.{Job}
use Rattle.ix_outside.specs.Contents.{GivenEvent}
use Rattle.ix_outside.specs.Counts.{Rose}
use Rattle.ix_outside.specs.Crashes.{AreLawful, Crashes}
use Rattle.ix_outside.specs.Disk.{Disk as SiteDisk, Opened}
use Rattle.ix_outside.specs.Files.{Listing}
use Rattle.ix_outside.specs.FilesState.{FilesState}
use Rattle.ix_outside.specs.SinkState.{SinkState}
use Rattle.ix_outside.specs.SiteState.{SiteState, OnlyDisk}
use Rattle.ix_outside.specs.inside.DiskCalls.{KeepsOpened, span}
use Rattle.ix_outside.proofs.Passing.{KeepsOpened-join}
use Rattle.ix_store.specs.Keeping.{Keeping}
use Rattle.ix_manager.specs.Handled.{ManagerState, started}
use Rattle.ix_manager.specs.Machine.{MachineState, start_of}
use Rattle.ix_manager.specs.Runs.{Opening, Run, opening_of}
use Rattle.ix_manager.specs.inside.Saving.{Saves}
use Rattle.ix_manager.specs.inside.StartAnswers.{IsStartFault}
use Rattle.ix_manager.specs.declared.faults.StartFault.{StartFault}
use Rattle.ix_manager.specs.declared.faults.StartFault.TheVariants as fault
use Rattle.ix_script.specs.Events.{HasEvents}
use Rattle.ix_script.specs.inside.WithoutSends.{without_sends}
use Rattle.ix_manage.specs.Around.{around_of}
use Rattle.ix_manage.specs.Command.{limit_of}
use Rattle.ix_manage.specs.Ends.{IsFrom, JobEnds, JobOver, KeepsJournal, large as job_large, lost_disk, no_memory, refused_journal, replayed}
use Rattle.ix_manage.specs.Journal as journal
use Rattle.ix_manage.specs.Journal.{OfJournal, OfOpened, OnJournal, RefusesFile, UsesJournal, journal_line, session_of}
use Rattle.ix_manage.specs.Puts.{LastLine}
use Rattle.ix_manage.specs.Replay.{ReadsEvents}
use Rattle.ix_manage.specs.Session.{Session}
use Rattle.ix_manage.specs.Trace.{ReadsForm, Starts, large_line}
use Rattle.ix_manage.specs.declared.job.ReplayWords.{ReplayWords}
use Rattle.ix_manage.specs.declared.refusal.JournalRefusal.{JournalRefusal}
use Rattle.ix_manage.specs.declared.refusal.JournalRefusal.TheVariants.{Foreign, Damaged, Many, Word, Heavy}
use Rattle.ix_manage.specs.declared.refusal.Refusal.TheVariants.{Disk, Journal, Large, Memory}
use Rattle.ix_manage.specs.declared.early_end.EarlyEnd.TheVariants.{Refused}
use Rattle.ix_manage.specs.inside.Jobs.{replay_of}
use Rattle.ix_manage.specs.inside.Leaves.{AwaitsLine, StopsAfter}
use Rattle.ix_manage.specs.inside.Opening.{EndsUnstarted, IsJobOf, StartsOver}
use Rattle.ix_manage.specs.inside.EarlyEnds.{unstarted_end}
use Rattle.ix_manage.specs.inside.Playing.{PlaysOver}
use Rattle.ix_manage.specs.inside.Refusal.{journal_words, other_line}
use Rattle.ix_manage.specs.inside.ReplayProgress.{OnlyUsesDisk, ReplaysOn, disk_alone}
use Rattle.ix_manage.specs.inside.Progress as progress
use Rattle.ix_manage.proofs.Causes.{replay_ends_earlier}
use Rattle.ix_renew.proofs.Making.{disk_calls_then}
use Rattle.ix_manage.proofs.Opening.{KeepsAlong, left_by_now, on_journal, session_uses}
use Rattle.ix_manage.proofs.Stops.{nothing_put, nothing_put_of}

-- what holds of the file that was attached, by another name
along_opened : (P Q : List ℕ → Type 0) → ((file : List ℕ) → P file → Q file) → (o : Option Opened) → OfOpened P o → OfOpened Q o
along_opened P Q to None p = p
along_opened P Q to (Some opened) p = to opened.file p

along_journal : (P Q : List ℕ → Type 0) → ((file : List ℕ) → P file → Q file) → (disk : Option SiteDisk) → OfJournal P disk → OfJournal Q disk
along_journal P Q to None p = p
along_journal P Q to (Some disk) p = along_opened P Q to disk.opened p

module _ (x : Form) (limit : ℕ) (name : List ℕ) (before after : SiteState) (is : Crashes)
    (uses : (files : Option Listing) (job : Job) → IsJobOf x limit name files job
    → OnJournal files job before after is None)
    (only : OnlyDisk before after) (sink : SinkState)
  where
    abbrev May : ℕ → List ℕ → List ℕ → Option Session → Type 0
    May = EndsUnstarted x limit name before after is

    unstarted : (status : ℕ) (whole part : List ℕ)
        → ((files later : FilesState) (job : Job) → IsJobOf x limit name files.contents job
        → JobEnds (around_of files later before after) job status whole part None)
        → May status whole part None
    unstarted status whole part ends = record { none = refl; ends = ends; on_journal = uses; only = only }

    kept_by : (files : Option Listing) (job : Job) (it : IsJobOf x limit name files job)
        → KeepsJournal files job it.expression
    kept_by files job it = record {
      of_expression = it.of_expression;
      journal = name;
      has_journal = it.has_journal;
      rest = it.rest;
    }

    starts : (files : Option Listing) (job : Job) (it : IsJobOf x limit name files job)
        → tree_size x [] ≤ limit → Starts files it.expression (limit_of job) x
    starts files job it small = record {
      reads = it.reads;
      small = subst (λ n. tree_size x [] ≤ n) (sym it.limit_is) small;
    }

    -- the disk failed
    pub disk_stops : Rose before.counts.disk after.counts.disk → StopsAfter May sink sink (Refused Disk)
    disk_stops rose = nothing_put Disk sink (λ status whole part last. unstarted status whole part
        (λ files later job it. lost_disk (kept_by files.contents job it) it.reads rose last))

    journal_stops_of : (why line : List ℕ) → tree_size x [] ≤ limit → line ≡ journal_line why
        → OfJournal (λ file. RefusesFile x limit file why) after.disk
        → AwaitsLine May 8 line sink sink
    journal_stops_of why line small same refuses = nothing_put_of 8 line sink
        (λ status whole part last. unstarted status whole part
        (λ files later job it. refused_journal why (kept_by files.contents job it) (starts files.contents job it small)
        (subst (λ n. OfJournal (λ file. RefusesFile x n file why) after.disk) (sym it.limit_is) refuses)
        (subst (λ l. LastLine 8 [] l status whole part) same last)))

    journal_stops : (why : JournalRefusal) → tree_size x [] ≤ limit
        → OfJournal (λ file. RefusesFile x limit file (journal_words why)) after.disk
        → StopsAfter May sink sink (Refused (Journal why))
    journal_stops why small = journal_stops_of (journal_words why) (journal_line (journal_words why)) small refl

    large_stops : (l : ℕ) → (l ≡ limit) × (limit < tree_size x [])
        → StopsAfter May sink sink (Refused (Large l))
    large_stops l above = nothing_put (Large l) sink (λ status whole part last. unstarted status whole part
        (λ files later job it. job_large it.of_expression it.rest
        (record {
          form = x;
          reads = it.reads;
          above = subst (λ n. n < tree_size x []) (sym it.limit_is) above.1;
        })
        (subst (λ n. LastLine 3 [] (large_line n) status whole part) (above.0 ∙ sym it.limit_is) last)))

    abbrev Files : StartFault → Type 0
    Files why = OfJournal (λ file. IsStartFault x limit file why) after.disk

    -- no manager was started
    pub start_stops : (why : StartFault)
        → ((l : ℕ) → why ≡ fault.Large l → (l ≡ limit) × (limit < tree_size x []))
        → (tree_size x [] ≤ limit) ⊎ ((why ≡ fault.Large limit) ⊎ (why ≡ fault.Memory))
        → (tree_size x [] ≤ limit → Files why)
        → (why ≡ fault.Disk → Rose before.counts.disk after.counts.disk)
        → StopsAfter May sink sink (unstarted_end why)
    start_stops (fault.Large l) large kind refuses rose = large_stops l (large l refl)
    start_stops fault.Disk large kind refuses rose = disk_stops (rose refl)
    start_stops fault.Memory large kind refuses rose = nothing_put Memory sink
        (λ status whole part last. unstarted status whole part (λ files later job it. no_memory last))
    start_stops fault.Foreign large (inl small) refuses rose = journal_stops Foreign small
        (along_journal _ _ (λ file why. journal.foreign why) after.disk (refuses small))
    start_stops fault.Foreign large (inr other) refuses rose = absurd (not_foreign other)
      where
        not_foreign : (fault.Foreign ≡ fault.Large limit) ⊎ (fault.Foreign ≡ fault.Memory) → ⊥
        not_foreign (inl same) = cc
        not_foreign (inr same) = cc
    start_stops (fault.Other kept) large (inl small) refuses rose =
        journal_stops_of (codes "other " ++ kept.items) (other_line kept.items) small refl
        (along_journal _ _ (λ file why. journal.other why.0 why.1) after.disk (refuses small))
    start_stops (fault.Other kept) large (inr other) refuses rose = absurd (not_other other)
      where
        not_other : (fault.Other kept ≡ fault.Large limit) ⊎ (fault.Other kept ≡ fault.Memory) → ⊥
        not_other (inl same) = cc
        not_other (inr same) = cc
    start_stops (fault.Damaged at) large (inl small) refuses rose = journal_stops (Damaged at) small
        (along_journal _ _ (λ file why. journal.damaged why.0 why.1) after.disk (refuses small))
    start_stops (fault.Damaged at) large (inr other) refuses rose = absurd (not_damaged other)
      where
        not_damaged : (fault.Damaged at ≡ fault.Large limit) ⊎ (fault.Damaged at ≡ fault.Memory) → ⊥
        not_damaged (inl same) = cc
        not_damaged (inr same) = cc
    start_stops fault.Many large (inl small) refuses rose = journal_stops Many small
        (along_journal _ _ (λ file why. journal.many why.0 why.1) after.disk (refuses small))
    start_stops fault.Many large (inr other) refuses rose = absurd (not_many other)
      where
        not_many : (fault.Many ≡ fault.Large limit) ⊎ (fault.Many ≡ fault.Memory) → ⊥
        not_many (inl same) = cc
        not_many (inr same) = cc
    start_stops (fault.Word number) large (inl small) refuses rose = journal_stops (Word number) small
        (along_journal _ _ (λ file why. journal.word why.1 why.2) after.disk (refuses small))
    start_stops (fault.Word number) large (inr other) refuses rose = absurd (not_word other)
      where
        not_word : (fault.Word number ≡ fault.Large limit) ⊎ (fault.Word number ≡ fault.Memory) → ⊥
        not_word (inl same) = cc
        not_word (inr same) = cc
    start_stops (fault.Heavy number l) large (inl small) refuses rose = journal_stops (Heavy number l) small
        (along_journal _ _ (λ file why.
        subst (λ n. RefusesFile x limit file (codes "large " ++ decimal number ++ codes " " ++ decimal n)) (sym why.3)
        (journal.large why.1 why.2)) after.disk (refuses small))
    start_stops (fault.Heavy number l) large (inr other) refuses rose = absurd (not_heavy other)
      where
        not_heavy : (fault.Heavy number l ≡ fault.Large limit) ⊎ (fault.Heavy number l ≡ fault.Memory) → ⊥
        not_heavy (inl same) = cc
        not_heavy (inr same) = cc

-- the initial tree is within the limit, or a start's fault says that it isn't
pub fault_kind : {T P : Type 0} (limit size : ℕ) (r : Result T StartFault) (why : StartFault) → r ≡ Err why
    → (limit < size → ((r ≡ Err (fault.Large limit)) ⊎ (r ≡ Err fault.Memory)) × P)
    → (size ≤ limit) ⊎ ((why ≡ fault.Large limit) ⊎ (why ≡ fault.Memory))
fault_kind limit size r why is large = elim (cases_lt limit size) [
  | inl above ↦ inr (elim (large above).0 [
    | inl told ↦ inl cc
    | inr memory ↦ inr cc
  ])
  | inr small ↦ inl small
]

-- where a manager was started it is
pub started_small : {T P : Type 0} (limit size : ℕ) (r : Result T StartFault) (m : T) → r ≡ Ok m
    → (limit < size → ((r ≡ Err (fault.Large limit)) ⊎ (r ≡ Err fault.Memory)) × P) → size ≤ limit
started_small limit size r m is large = elim (cases_lt limit size) [
  | inl above ↦ absurd (neither (large above).0)
  | inr small ↦ small
]
  where
    neither : (r ≡ Err (fault.Large limit)) ⊎ (r ≡ Err fault.Memory) → ⊥
    neither (inl told) = cc
    neither (inr memory) = cc

-- a manager was started, and took events, or none
module _ (x : Form) (limit : ℕ) (name : List ℕ) (before mid end : SiteState) (q r : Crashes)
    (m : ManagerState) (start : StartsOver x limit name before mid q m)
    (files : Option Listing) (job : Job) (it : IsJobOf x limit name files job)
    (later : KeepsOpened mid.disk end.disk ⊎ (end.disk ≡ None))
    (session : Option Session)
  where
    opened_along : KeepsOpened mid.disk end.disk ⊎ (end.disk ≡ None) → KeepsOpened start.at.disk end.disk ⊎ (end.disk ≡ None)
    opened_along (inl more) = inl (KeepsOpened-join start.at.disk mid.disk end.disk start.stays more)
    opened_along (inr untold) = inr untold

    abbrev opening : Opening
    opening = opening_of x limit m.machine.history m.machine.renewed m.machine.boot

    pub session_on_journal : (session_of opening session).opening ≡ opening
        → Run (session_of opening session).opening (session_of opening session).taken (session_of opening session).answers
        (session_of opening session).last (session_of opening session).ending
        → (IsSome end.disk → KeepsAlong x m.machine.history m.machine.renewed m.machine.boot (session_of opening session) mid.tick end.tick q r)
        → OnJournal files job before end r session
    session_on_journal opening_is run along =
        on_journal files job it.expression name x it.of_expression it.has_journal it.reads session before start.at end r
        start.opened (opened_along later)
        (λ d is e after. subst (λ n. UsesJournal x n session e.file (record { name = name; tick = start.at.tick; file = d.file }) r)
        (sym it.limit_is)
        (session_uses x limit start.at.tick d name mid.tick q m.machine.history m.machine.renewed m.machine.boot (start.starts d is)
        (start.keeps (subst (λ (o : Option SiteDisk). IsSome o) (sym is) refl))
        (start.reopens (subst (λ (o : Option SiteDisk). IsSome o) (sym is) refl))
        session end.tick r start.later opening_is
        (along (subst (λ (o : Option SiteDisk). IsSome o) (sym after) refl)) run e.file))

-- the opening that a session played from is the expression's, under the limit
module _ (x : Form) (limit : ℕ) (m : ManagerState) (fresh : m ≡ started (opening_of x limit m.machine.history m.machine.renewed m.machine.boot) m.store)
  where
    pub opening_fresh : progress.opening_at m ≡ opening_of x limit m.machine.history m.machine.renewed m.machine.boot
    opening_fresh = ap (λ (s : ManagerState). progress.opening_at s) fresh

    pub opening_from : (session : Session) → session.opening ≡ progress.opening_at m → IsFrom x limit session.opening
    opening_from session is =
        let same = is ∙ opening_fresh in (ap (λ (o : Opening). o.form) same, ap (λ (o : Opening). o.limit) same)

-- a journal is kept along a stretch over which its history is saved
pub along_saves : (x : Form) (h : PlainHistory) (renewed : Renewed) (boot : ℕ) (played : Session) (store : Keeping) (a b : SiteState) (p q : Crashes)
    → AreLawful b q → IsSome b.disk → Saves played.ending x (start_of h renewed boot) played.last store (span a b p q)
    → KeepsAlong x h renewed boot played a.tick b.tick p q
along_saves x h renewed boot played store a b p q lawful some saves = record {
  passes = saves.passes.left;
  rest = saves.rest;
  grows = saves.grows;
  keeps = saves.keeps some;
  boots = saves.boots some;
  boots_now = λ image left. saves.boots some image (left_by_now a b q lawful saves.passes.left.later image left);
  ends = saves.ends some;
}

-- also where its disk is told alone
pub along_alone : (x : Form) (h : PlainHistory) (renewed : Renewed) (boot : ℕ) (played : Session) (store : Keeping) (a b : SiteState) (p q : Crashes)
    → AreLawful b q → IsSome b.disk
    → Saves played.ending x (start_of h renewed boot) played.last store (span (disk_alone a) (disk_alone b) (without_sends p) (without_sends q))
    → KeepsAlong x h renewed boot played a.tick b.tick p q
along_alone x h renewed boot played store a b p q lawful some saves = record {
  passes = saves.passes.left;
  rest = saves.rest;
  grows = saves.grows;
  keeps = saves.keeps some;
  boots = saves.boots some;
  boots_now = λ image left. saves.boots some image (left_by_now a b q lawful saves.passes.left.later image left);
  ends = saves.ends some;
}

module _ (x : Form) (names : ReplayWords) (script : List ℕ) (before : SiteState)
    (events : (events : List GivenEvent) × HasEvents script events)
  where
    -- a replay whose script is read
    job_played : (files : Option Listing) → ReadsForm files names.expression.now x
        → ((events : List GivenEvent) → HasEvents script events → ReadsEvents files names.script.now events)
        → IsJobOf x names.limit names.journal.now files (replay_of names)
    job_played files reads has = record {
      expression = names.expression.now;
      of_expression = refl;
      reads = reads;
      limit_is = refl;
      has_journal = refl;
      rest = (events.0, has events.0 events.1);
    }

    -- no run was started
    pub unstarted_plays : (after : SiteState) (is : Crashes) (status : ℕ) (whole part : List ℕ) (session : Option Session)
        → EndsUnstarted x names.limit names.journal.now before after is status whole part session
        → PlaysOver x names script before after is status whole part session
    unstarted_plays after is status whole part session it = λ files later reads has.
        let job = job_played files.contents reads has in
        subst (JobOver (around_of files later before after) (replay_of names) is status whole part) (sym it.none) (record {
          ends = it.ends files later (replay_of names) job;
          touches = it.only;
          journal = it.on_journal files.contents (replay_of names) job;
          made = tt;
          wire = λ socket none. absurd (none-some socket none);
        })

    -- a run was started, and took events
    pub session_plays : (mid end : SiteState) (q r : Crashes) → AreLawful end r → (m : ManagerState)
        → StartsOver x names.limit names.journal.now before mid q m
        → OnlyUsesDisk mid end → (final : MachineState)
        → (status : ℕ) (whole part : List ℕ) (session : Option Session)
        → ReplaysOn (progress.opening_at m) names.turns script final
        (record { before = disk_alone mid; after = disk_alone end; was = without_sends q; is = without_sends r })
        status whole part session
        → PlaysOver x names script before end r status whole part session
    session_plays mid end q r lawful m start uses final status whole part session on = λ files later reads has.
        let it = on.1 in
        let job = job_played files.contents reads has in
        let opening_is = it.opening_is ∙ opening_fresh x names.limit m start.fresh in
        let form : m.form ≡ x = ap (λ (s : ManagerState). s.form) start.fresh in
        let begun : MachineState = start_of m.machine.history m.machine.renewed m.machine.boot in
        let saves : Saves it.played.ending x begun it.played.last it.store
        (span (disk_alone mid) (disk_alone end) (without_sends q) (without_sends r)) =
        subst (λ (s : MachineState). Saves it.played.ending x begun s it.store
        (span (disk_alone mid) (disk_alone end) (without_sends q) (without_sends r))) (sym it.last_is)
        (subst (λ (y : Form). Saves it.played.ending y begun final it.store
        (span (disk_alone mid) (disk_alone end) (without_sends q) (without_sends r))) form it.saves) in
        subst (JobOver (around_of files later before end) (replay_of names) r status whole part) (sym it.is)
        (record {
          ends = replayed (record { reads = reads; small = start.small }) (has events.0 events.1)
              (opening_from x names.limit m start.fresh it.played it.opening_is)
              (it.plays events.0 events.1)
              (replay_ends_earlier names.turns before.counts mid.counts end.counts it.played start.only.disk it.ends);
          touches = disk_calls_then before mid end start.only uses.rest;
          journal = session_on_journal x names.limit names.journal.now before mid end q r m start files.contents (replay_of names) job uses.opened
              (Some it.played) opening_is (it.plays events.0 events.1).takes.run
              (λ some. along_alone x m.machine.history m.machine.renewed m.machine.boot it.played it.store mid end q r lawful some saves);
          made = tt;
          wire = λ socket none. absurd (none-some socket none);
        })
