-- A run that nothing hinders ends whole.
use Rattle.std.proofs.Common.{◌≡◌, ◌≢◌, inl, inr, ℕ, zero, suc, ◌≤◌, true≢false, List, [], ◌∷◌, ◌++◌, length, take}
use Rattle.std.proofs.Common.{arith, refl, sym, ◌∙◌, ap, subst, Option, None, Some, IsSome}
use Rattle.std.specs.Prelude.{map}
use Rattle.std.specs.Io.KnownBytes.{append_known}
use Rattle.std.proofs.lemmas.Option.{none-some}
use Rattle.ix_journal.specs.declared.entries.Renewed.{Renewed}
use Rattle.ix_journal.specs.Entries.{marks_of, or_none, renewed_of}
use Rattle.ix_words.specs.Each.{Each, item}
use Rattle.ix_words.proofs.Each.{Each-head, Each-right}
use Rattle.ix_values.specs.Faults.{IsActionText}
use Rattle.ix_values.specs.PlainAction.{PlainAction, Word, text_of}
use Rattle.ix_values.specs.Texts.{IsAction}
use Rattle.ix_expr.specs.CanonicalText.{canonical_text}
use Rattle.ix_expr.specs.Form.{Form}
use Rattle.ix_expr.specs.Meaning.{IsPartial}
use Rattle.ix_expr.proofs.LawsOfMeaning.{empty-partial}
use Rattle.ix_parse.specs.Faults.{IsFirstFault, StandsFor}
use Rattle.ix_parse.proofs.OneMeaning.{faulty-none, one-expression}
use Rattle.ix_can.specs.TreeOf.{tree_size}
use Rattle.ix_lines.specs.TextLines.{lines_of}
use Rattle.ix_journal.specs.History.{PlainHistory, actions_of}
use Rattle.ix_journal.specs.Kinds as kind
use Rattle.ix_journal.specs.Kinds.{IsForeign}
use Rattle.ix_journal.specs.Recovery as recovery
use Rattle.ix_journal.specs.Recovery.{HoldsBoots, IsJournalWith, Recovers}
use Rattle.ix_journal.specs.declared.entries.Marks.{Marks}
use Rattle.ix_journal.proofs.KindLaws.{one_kind}
use Rattle.ix_journal.proofs.OutcomeLaws.{one_history, one_number, one_outcome}
use Rattle.ix_outside.specs.Contents.{GivenEvent}
use Rattle.ix_outside.specs.Crashes.{Crashes}
use Rattle.ix_outside.specs.Disk.{Disk, Opened}
use Rattle.ix_outside.specs.Files.{HasFile, HasLonger, Listing, Lists}
use Rattle.ix_outside.specs.Sink.{AppendsPart}
use Rattle.ix_outside.specs.SinkState.{SinkState}
use Rattle.ix_outside.specs.SiteState.{SiteState}
use Rattle.ix_script.specs.Events.{AreEvents}
use Rattle.ix_script.specs.Grammar.{InGrammar}
use Rattle.ix_script.specs.Pieces.{pieces_of}
use Rattle.ix_script.proofs.LineParts.{events_computed, no_fault}
use Rattle.ix_generate.specs.Workload.{examinations}
use Rattle.ix_manager.specs.Images as image
use Rattle.ix_manager.specs.Images.{IsOwn, IsStartable}
use Rattle.ix_manager.specs.Machine.{count_of}
use Rattle.ix_renew.specs.Renewal.{IsAboveMost, IsJournalOf, OfOpenedAs}
use Rattle.ix_manager.specs.Runs.{going, opening_of, stopped}
use Rattle.ix_manager.specs.Starts.{HasText}
use Rattle.ix_cli.specs.Words.{Job, Names, trace, replay, serve, work, simplify, bound, follow, lint}
use Rattle.ix_cli.specs.Words as job
use Rattle.ix_cli.proofs.Named.{no_job, one_job}
use Rattle.ix_manage.specs.Around.{Around}
use Rattle.ix_manage.specs.Command.{expression_of, history_file_of, limit_of, values_file_of}
use Rattle.ix_manage.specs.Desk as desk
use Rattle.ix_next.specs.Lists.{HasBadLine}
use Rattle.ix_manage.specs.Desk.{HasBadValues, HasFitWords, ReadsValues, Unread}
use Rattle.ix_next.specs.Given.{PlainGiven}
use Rattle.ix_manage.proofs.GivenValues.{each_given, no_bad_lines}
use Rattle.ix_manage.specs.Ends as how
use Rattle.ix_manage.specs.Ends.{EndsOver, JobEnds, KeepsJournal, ReadsRest}
use Rattle.ix_manage.specs.FollowLines as fed
use Rattle.ix_manage.specs.FollowLines.{FollowEnds, ReadsLines}
use Rattle.ix_manage.specs.Journal as journal
use Rattle.ix_manage.specs.Journal.{OfJournal, OfOpened, RefusesFile}
use Rattle.ix_manage.specs.Laws as well
use Rattle.ix_manage.specs.Laws.{CanStart, ComesToEnd, EndsWhole, HasAll, NothingFails, OpensEmpty, OpensStartable, UnhinderedRunsEndWhole}
use Rattle.ix_manage.specs.Laws.{of_script, of_session}
use Rattle.ix_manage.specs.Puts.{LastLine, lost, put}
use Rattle.ix_manage.specs.Renewals as renewal
use Rattle.ix_manage.specs.Renewals.{CanBeRenewed, HasByte, RefusesRenewal}
use Rattle.ix_manage.specs.Replay as played
use Rattle.ix_manage.specs.Replay.{AreFirst, HasBadScript, ReadsEvents, ReplayEnds}
use Rattle.ix_manage.specs.Serve as wired
use Rattle.ix_manage.specs.Serve.{OnWire, ServeEnds}
use Rattle.ix_manage.specs.Session.{IsNoEnd, IsOver, MayGoOn, Session, disk_failed, history_line, lost_history, out_of_turns, over}
use Rattle.ix_manage.specs.Trace as traced
use Rattle.ix_manage.specs.Trace.{HasBadActions, HasBadText, ReadsActions, ReadsForm, Starts, StartsAbove}
use Rattle.ix_manage.specs.Work as worked
use Rattle.ix_manage.proofs.Opening.{some_is}
use Rattle.ix_manage.proofs.Tracing.{append_nothing}

none_taken : (count : ℕ) → take {A = PlainAction} count [] ≡ []
none_taken zero = refl
none_taken (suc count) = refl

-- of lines that are the texts of actions each is one
good_action : (before : List (List ℕ)) (bad : List ℕ) (behind : List (List ℕ)) (word : Word) → Each IsAction word
    → before ++ bad ∷ behind ≡ map text_of word → IsActionText bad
good_action [] bad behind [] valid same = cc
good_action [] bad behind (action ∷ word) (item good more) same = record { action = action; valid = good; same = first_is same }
  where
    first_is : bad ∷ behind ≡ text_of action ∷ map text_of word → bad ≡ text_of action
    first_is same = cc
good_action (line ∷ before) bad behind [] valid same = cc
good_action (line ∷ before) bad behind (action ∷ word) (item good more) same =
    good_action before bad behind word more (rest_is same)
  where
    rest_is : line ∷ (before ++ bad ∷ behind) ≡ text_of action ∷ map text_of word → before ++ bad ∷ behind ≡ map text_of word
    rest_is same = cc

-- of lines that have events each is in the grammar
good_line : (moment : ℕ) (before : List (List ℕ)) (bad : List ℕ) (behind : List (List ℕ)) (events : List GivenEvent)
    → AreEvents moment (before ++ bad ∷ behind) events → InGrammar bad
good_line moment [] bad behind events are = (are.0, are.1, are.2, are.4)
good_line moment (line ∷ before) bad behind events are = good_line are.0 before bad behind are.3 are.6

-- a file that is told has one content
one_listed : (files : Listing) (name one other : List ℕ) → Lists files name one → Lists files name other → one ≡ other
one_listed [] name one other first second = absurd first
one_listed (file ∷ files) name one other (inl first) (inl second) = sym first.1 ∙ second.1
one_listed (file ∷ files) name one other (inl first) (inr second) = absurd (second.0 first.0)
one_listed (file ∷ files) name one other (inr first) (inl second) = absurd (first.0 second.0)
one_listed (file ∷ files) name one other (inr first) (inr second) = one_listed files name one other first.1 second.1

module _ (files : Option Listing) (told : IsSome files) where
  one_file : (name one other : List ℕ) → HasFile files name one → HasFile files name other → one ≡ other
  one_file name one other = by files told
    where
      by : (known : Option Listing) → IsSome known → HasFile known name one → HasFile known name other → one ≡ other
      by None some first second = absurd (true≢false (sym some))
      by (Some listing) some first second = one_listed listing name one other first second

  one_form : (name : List ℕ) (x y : Form) → ReadsForm files name x → ReadsForm files name y → x ≡ y
  one_form name x y one other =
      one-expression one.text x y one.stands
      (subst (λ text. StandsFor text y) (one_file name other.text one.text other.file one.file) other.stands)

  -- one that is longer is no shorter
  longer_than : (name bytes : List ℕ) (limit : ℕ) → HasFile files name bytes → length bytes ≤ limit
      → HasLonger files name limit → ⊥
  longer_than name bytes limit file short longer = by files told longer file
    where
      by : (known : Option Listing) → IsSome known → HasLonger known name limit → HasFile known name bytes → ⊥
      by None some is file = absurd (true≢false (sym some))
      by (Some listing) some is file =
          let lengths = ap length (one_listed listing name is.0 bytes is.1 file) in
          let long = is.2 in absurd (omega (arith, short, long, lengths))

  -- a file with a fault isn't one that is read
  no_bad_text : (name : List ℕ) (x : Form) (code at : ℕ) → ReadsForm files name x → HasBadText files name code at → ⊥
  no_bad_text name x code at reads (traced.longer is) =
      longer_than name reads.text 16384 reads.file reads.stands.means.short is
  no_bad_text name x code at reads (traced.within file fault) =
      faulty-none reads.text code at x
      (subst (λ text. IsFirstFault text code at) (one_file name _ reads.text file reads.file) fault) reads.stands

  -- nor are actions, each line of which is an action's text
  no_bad_actions : (name : List ℕ) (word : Word) (code at : ℕ) → ReadsActions files name word → HasBadActions files name code at → ⊥
  no_bad_actions name word code at reads (traced.too_long is) = longer_than name reads.bytes 67108864 reads.file reads.short is
  no_bad_actions name word code at reads (traced.bad_line {bytes = bytes} file short fault) =
      let same = one_file name bytes reads.bytes file reads.file in
      fault.fault.no_action
      (good_action fault.before fault.bad fault.behind word reads.has.valid
      (sym fault.split ∙ ap lines_of same ∙ reads.has.lines))

  -- nor are given values
  no_bad_values : (name : List ℕ) (given : List PlainGiven) {code at : ℕ} → ReadsValues files name given
      → HasBadValues files name code at → ⊥
  no_bad_values name given reads (desk.too_long is) = longer_than name reads.bytes 67108864 reads.file reads.short is
  no_bad_values name given {code = code} {at = at} reads (desk.bad_line bytes file short bad) =
      let same = one_file name bytes reads.bytes file reads.file in
      no_bad_lines reads.bytes given reads.good reads.some (subst (λ b. HasBadLine b code at) same bad)

  -- nor is a script, each line of which is in the grammar
  no_bad_script : (name : List ℕ) (events : List GivenEvent) (code at : ℕ) → ReadsEvents files name events
      → HasBadScript files name code at → ⊥
  no_bad_script name events code at reads (played.too_long is) = longer_than name reads.bytes 67108864 reads.file reads.short is
  no_bad_script name events code at reads (played.bad_line {bytes = bytes} file short fault) =
      let same = one_file name bytes reads.bytes file reads.file in
      no_fault fault.bad code fault.fault.0
      (good_line 0 fault.before fault.bad fault.behind events
      (subst (λ lines. AreEvents 0 lines events) (sym (ap lines_of same) ∙ fault.split) reads.has))

  -- a script has one list of events
  one_script : (name : List ℕ) (one other : List GivenEvent) → ReadsEvents files name one → ReadsEvents files name other → one ≡ other
  one_script name one other first second =
      let same = one_file name second.bytes first.bytes second.file first.file in
      events_computed 0 (lines_of first.bytes) one first.has
      ∙ sym (events_computed 0 (lines_of first.bytes) other
      (subst (λ bytes. AreEvents 0 (lines_of bytes) other) same second.has))

-- a file that has no bytes is startable
empty_startable : (x : Form) (limit : ℕ) → tree_size x [] ≤ limit → IsStartable (opening_of x limit [] (or_none None) 1) []
empty_startable x limit small = record {
  own = image.new (inl (inl (omega arith)));
  recovers = record { entries = []; keeps = recovery.unfinished [] (inl (omega arith)); pairs = refl };
  within = λ count. within count;
  boots = 0;
  holds = record { entries = []; keeps = recovery.unfinished [] (inl (omega arith)); said = refl; number = refl };
  few = omega arith;
  next = refl;
}
  where
    within : (count : ℕ) → image.IsWithin x limit (take count [])
    within count = subst (image.IsWithin x limit) (sym (none_taken count)) (record { partial = empty-partial x []; size = small })

-- a file that an expression may open is a journal of its text
module _ (x : Form) (file : List ℕ) where
  no_foreign : IsOwn x file → IsForeign file → ⊥
  no_foreign (image.new (inl is)) foreign = let same = one_kind file kind.unfinished kind.foreign is foreign in cc
  no_foreign (image.new (inr is)) foreign =
      let same = one_kind file (kind.unopened (canonical_text x)) kind.foreign is foreign in cc
  no_foreign (image.ready h marks gate is) foreign =
      let same = one_kind file (kind.ready (canonical_text x) is.journal.first) kind.foreign is.journal.ready foreign in cc

  same_text : (text : List ℕ) → IsOwn x file → HasText file text → text ≡ canonical_text x
  same_text text (image.new (inl is)) (inl other) = let same = one_kind file kind.unfinished (kind.unopened text) is other in cc
  same_text text (image.new (inl is)) (inr other) =
      let same = one_kind file kind.unfinished (kind.ready text other.0) is other.1 in cc
  same_text text (image.new (inr is)) (inl other) =
      let same = one_kind file (kind.unopened (canonical_text x)) (kind.unopened text) is other in cc
  same_text text (image.new (inr is)) (inr other) =
      let same = one_kind file (kind.unopened (canonical_text x)) (kind.ready text other.0) is other.1 in cc
  same_text text (image.ready h marks gate is) (inl other) =
      let same = one_kind file (kind.ready (canonical_text x) is.journal.first) (kind.unopened text) is.journal.ready other in cc
  same_text text (image.ready h marks gate is) (inr other) =
      let same = one_kind file (kind.ready (canonical_text x) is.journal.first) (kind.ready text other.0) is.journal.ready other.1 in cc

-- no startable file is refused
module _ (x : Form) (limit : ℕ) (file : List ℕ) (history : PlainHistory) (renewed : Renewed) (boot : ℕ)
    (starts : IsStartable (opening_of x limit history renewed boot) file) where
  not_refused : {why : List ℕ} → RefusesFile x limit file why → ⊥
  not_refused (journal.foreign is) = no_foreign x file starts.own is
  not_refused (journal.other has apart) = apart (same_text x file _ starts.own has)
  not_refused (journal.damaged ready is) = (one_outcome file).0 history _ starts.recovers is
  not_refused (journal.many ready (inl is)) = (one_outcome file).1 history starts.recovers is
  not_refused (journal.many ready (inr holds)) =
      let marks = marks_of holds.entries in
      let all : HoldsBoots file (renewed_of marks) marks.boots =
      record { entries = holds.entries; keeps = holds.keeps; said = refl; number = refl } in
      let same = one_number file renewed (renewed_of marks) starts.boots marks.boots starts.holds all in
      let few = starts.few in
      let full = holds.full in
      omega (arith, same.1, ap (λ (r : Renewed). r.boots) same.0, few, full)
  not_refused (journal.word {history = word} {number = number} opens is) =
      let same = one_history file word history opens.recovers starts.recovers in
      is.not_partial (subst (λ w. IsPartial x [] (take number (actions_of w))) (sym same) (starts.within number).partial)
  not_refused (journal.large {history = word} {number = number} opens is) =
      let same = one_history file word history opens.recovers starts.recovers in
      let above = is.above in
      let within = subst (λ w. tree_size x (take number (actions_of w)) ≤ limit) (sym same) (starts.within number).size in
      absurd (omega (arith, above, within))

-- no journal that can be renewed is refused
module _ (x : Form) (limit : ℕ) (file : List ℕ) (can : CanBeRenewed x limit file) where
  abbrev kept_journal : IsJournalWith file (canonical_text x) can.history can.marks can.journal.gate
  kept_journal = can.journal.journal

  own_journal : IsOwn x file
  own_journal = image.ready can.history can.marks can.journal.gate kept_journal

  keeps_of : {history : PlainHistory} {marks : Marks} (of : IsJournalOf x file history marks)
      → recovery.KeepsRecords file of.journal.entries
  keeps_of of = recovery.ready file (canonical_text x) of.journal.entries of.gate of.journal.journal

  recovers_of : {history : PlainHistory} {marks : Marks} → IsJournalOf x file history marks → Recovers file history
  recovers_of of = record { entries = of.journal.entries; keeps = keeps_of of; pairs = of.journal.pairs }

  holds_of : {history : PlainHistory} {marks : Marks} → IsJournalOf x file history marks
      → HoldsBoots file (renewed_of marks) marks.boots
  holds_of of = record {
    entries = of.journal.entries;
    keeps = keeps_of of;
    said = ap renewed_of of.journal.marked;
    number = ap (λ (m : Marks). m.boots) of.journal.marked;
  }

  not_above : IsAboveMost x file → ⊥
  not_above is =
      let histories = one_history file is.history can.history (recovers_of is.journal) (recovers_of can.journal) in
      let same = one_number file (renewed_of is.marks) (renewed_of can.marks) is.marks.boots can.marks.boots
      (holds_of is.journal) (holds_of can.journal) in
      let counts : count_of (renewed_of is.marks) is.history ≡ count_of (renewed_of can.marks) can.history =
      λ i. count_of (same.0 i) (histories i) in
      let actions = can.few_actions in
      let boots = can.few_boots in
      elim is.above [
        | inl many ↦ absurd (omega (arith, counts, actions, many))
        | inr many ↦ let one = same.1 in absurd (omega (arith, one, boots, many))
      ]

  not_unrenewed : {why : List ℕ} → RefusesRenewal x limit file why → ⊥
  not_unrenewed (renewal.foreign is) = no_foreign x file own_journal is
  not_unrenewed (renewal.other has apart) = apart (same_text x file _ own_journal has)
  not_unrenewed (renewal.unopened (inl is)) =
      let same = one_kind file (kind.ready (canonical_text x) kept_journal.journal.first) kind.unfinished kept_journal.journal.ready is in cc
  not_unrenewed (renewal.unopened (inr is)) =
      let same = one_kind file (kind.ready (canonical_text x) kept_journal.journal.first) (kind.unopened (canonical_text x))
      kept_journal.journal.ready is in cc
  not_unrenewed (renewal.damaged ready is) = (one_outcome file).0 can.history _ (recovers_of can.journal) is
  not_unrenewed (renewal.many ready is) = (one_outcome file).1 can.history (recovers_of can.journal) is
  not_unrenewed (renewal.above is) = not_above is
  not_unrenewed (renewal.word {history = word} {number = number} of is) =
      let same = one_history file word can.history (recovers_of of) (recovers_of can.journal) in
      is.not_partial (subst (λ w. IsPartial x [] (take number (actions_of w))) (sym same) (can.within number).partial)
  not_unrenewed (renewal.large {history = word} {number = number} of is) =
      let same = one_history file word can.history (recovers_of of) (recovers_of can.journal) in
      let above = is.above in
      let within = subst (λ w. tree_size x (take number (actions_of w)) ≤ limit) (sym same) (can.within number).size in
      absurd (omega (arith, above, within))

no_renewal_refused : (x y : Form) (limit : ℕ) (one other why : List ℕ) → x ≡ y → one ≡ other → CanBeRenewed y limit other
    → RefusesRenewal x limit one why → ⊥
no_renewal_refused x y limit one other why form file can refuses =
    not_unrenewed y limit other can
    (subst (λ z. RefusesRenewal z limit other why) form (subst (λ f. RefusesRenewal x limit f why) file refuses))

-- a file that is opened and has no byte has none
none_there : (new : List ℕ) (disk : Disk) (opened : Option Opened) → disk.opened ≡ opened
    → ((o : Opened) → disk.opened ≡ Some o → o.file ≡ [])
    → OfOpenedAs new (λ opened now. opened.file ≢ []) opened disk.file → ⊥
none_there new disk None is empty has = has
none_there new disk (Some o) is empty has = has.1 (empty o is)

no_byte_there : (new : List ℕ) (site : SiteState) → OpensEmpty site → HasByte new site.disk → ⊥
no_byte_there new site opens has =
    none_there new opens.disk opens.disk.opened refl opens.empty (subst (HasByte new) opens.told has)

-- nor is a file that a run can start from
can_start : (x : Form) (limit : ℕ) (file why : List ℕ) → tree_size x [] ≤ limit → CanStart x limit file → RefusesFile x limit file why → ⊥
can_start x limit file why small (inl none) refuses =
    not_refused x limit [] [] (or_none None) 1 (empty_startable x limit small) (subst (λ f. RefusesFile x limit f why) none refuses)
can_start x limit file why small (inr starts) refuses = not_refused x limit file starts.0 starts.1 starts.2 starts.3 refuses

none_refused : (x : Form) (limit : ℕ) (why : List ℕ) (disk : Disk) (opened : Option Opened) → disk.opened ≡ opened
    → tree_size x [] ≤ limit → ((o : Opened) → disk.opened ≡ Some o → CanStart x limit o.file)
    → OfOpened (λ file. RefusesFile x limit file why) opened → ⊥
none_refused x limit why disk None is small starts refuses = refuses
none_refused x limit why disk (Some o) is small starts refuses = can_start x limit o.file why small (starts o is) refuses

journal_starts : (x : Form) (limit : ℕ) (why : List ℕ) (told : Option Disk) (disk : Disk) → told ≡ Some disk
    → tree_size x [] ≤ limit → ((o : Opened) → disk.opened ≡ Some o → CanStart x limit o.file)
    → OfJournal (λ file. RefusesFile x limit file why) told → ⊥
journal_starts x limit why told disk is small starts refuses =
    none_refused x limit why disk disk.opened refl small starts
    (subst (λ known. OfJournal (λ file. RefusesFile x limit file why) known) is refuses)

-- a session that is over doesn't go on
not_more : (session : Session) → IsOver session → MayGoOn session → ⊥
not_more session (inl end) more =
    let behind = Each-right end.0 (end.1 ∷ []) (subst (Each IsNoEnd) end.2 more.0) in Each-head behind end.3
not_more session (inr stops) more = let same = sym stops ∙ more.1 in no_stop same
  where
    no_stop : stopped ≡ going → ⊥
    no_stop same = cc

module _ (around : Around) (old new : SinkState) (told : IsSome around.files) (none : NothingFails around old new) where
  -- a last line was put
  of_line : {job : Job} {session : Option Session} {end status : ℕ} {before line whole part : List ℕ}
      → LastLine end before line status whole part → status ≢ 10
      → EndsWhole around job end (before ++ line) session → EndsWhole around job status whole session × (part ≡ [])
  of_line put below ends = (ends, refl)
  of_line lost below ends = absurd (below refl)

  abbrev Whole : Job → ℕ → List ℕ → List ℕ → Option Session → Type 0
  Whole job status whole part session = EndsWhole around job status whole session × (part ≡ [])

  -- a job with all that it reads reads an expression, where it names one
  reads_of : (job : Job) (expression : List ℕ) → expression_of job ≡ Some expression → HasAll around job
      → (x : Form) × ReadsForm around.files expression x
  reads_of (trace named actions limit) expression is all =
      (all.0, subst (λ name. ReadsForm around.files name all.0) (some_is is) all.2.reads)
  reads_of (replay named kept script limit turns) expression is all =
      (all.0, subst (λ name. ReadsForm around.files name all.0) (some_is is) all.2.reads)
  reads_of (serve named kept socket limit turns) expression is all =
      (all.0, subst (λ name. ReadsForm around.files name all.0) (some_is is) all.1.reads)
  reads_of (work count seed limit) expression is all = absurd (none-some expression is)
  reads_of (simplify named) expression is all = (all.0, subst (λ name. ReadsForm around.files name all.0) (some_is is) all.1)
  reads_of (bound named count) expression is all = (all.0, subst (λ name. ReadsForm around.files name all.0) (some_is is) all.1)
  reads_of (follow named lines limit) expression is all =
      (all.0, subst (λ name. ReadsForm around.files name all.0) (some_is is) all.2.reads)
  reads_of (lint named) expression is all = (all.0, subst (λ name. ReadsForm around.files name all.0) (some_is is) all.1)
  reads_of (job.why named actions action limit) expression is all =
      (all.0, subst (λ name. ReadsForm around.files name all.0) (some_is is) all.2.reads)
  reads_of (job.next named actions values limit) expression is all =
      (all.0, subst (λ name. ReadsForm around.files name all.0) (some_is is) all.3.reads)
  reads_of (job.stuck named values limit states) expression is all =
      (all.0, subst (λ name. ReadsForm around.files name all.0) (some_is is) all.2)
  reads_of (job.renew named resting new limit) expression is all =
      (all.0, subst (λ name. ReadsForm around.files name all.0) (some_is is) all.2.reads)

  -- a job that makes a tree starts
  starts_of : (job : Job) (expression : List ℕ) → expression_of job ≡ Some expression → ReadsRest around.files job
      → HasAll around job → (x : Form) × Starts around.files expression (limit_of job) x
  starts_of (trace named actions limit) expression is rest all =
      (all.0, subst (λ name. Starts around.files name limit all.0) (some_is is) all.2)
  starts_of (replay named kept script limit turns) expression is rest all =
      (all.0, subst (λ name. Starts around.files name limit all.0) (some_is is) all.2)
  starts_of (serve named kept socket limit turns) expression is rest all =
      (all.0, subst (λ name. Starts around.files name limit all.0) (some_is is) all.1)
  starts_of (work count seed limit) expression is rest all = absurd (none-some expression is)
  starts_of (simplify named) expression is rest all = absurd rest
  starts_of (bound named count) expression is rest all = absurd rest
  starts_of (follow named lines limit) expression is rest all =
      (all.0, subst (λ name. Starts around.files name limit all.0) (some_is is) all.2)
  starts_of (lint named) expression is rest all = absurd rest
  starts_of (job.why named actions action limit) expression is rest all =
      (all.0, subst (λ name. Starts around.files name limit all.0) (some_is is) all.2)
  starts_of (job.next named actions values limit) expression is rest all =
      (all.0, subst (λ name. Starts around.files name limit all.0) (some_is is) all.3)
  starts_of (job.stuck named values limit states) expression is rest all = absurd rest
  starts_of (job.renew named resting new limit) expression is rest all =
      (all.0, subst (λ name. Starts around.files name limit all.0) (some_is is) all.2)

  -- the actions that a job takes as a history are read
  past_of : (job : Job) (actions : List ℕ) → history_file_of job ≡ Some actions → HasAll around job
      → (word : Word) × ReadsActions around.files actions word
  past_of (trace named acts limit) actions is all = absurd (none-some actions is)
  past_of (replay named kept script limit turns) actions is all = absurd (none-some actions is)
  past_of (serve named kept socket limit turns) actions is all = absurd (none-some actions is)
  past_of (work count seed limit) actions is all = absurd (none-some actions is)
  past_of (simplify named) actions is all = absurd (none-some actions is)
  past_of (bound named count) actions is all = absurd (none-some actions is)
  past_of (follow named lines limit) actions is all = absurd (none-some actions is)
  past_of (lint named) actions is all = absurd (none-some actions is)
  past_of (job.why named acts action limit) actions is all =
      (all.1, subst (λ name. ReadsActions around.files name all.1) (some_is is) all.3)
  past_of (job.next named acts values limit) actions is all =
      (all.1, subst (λ name. ReadsActions around.files name all.1) (some_is is) all.4)
  past_of (job.stuck named values limit states) actions is all = absurd (none-some actions is)
  past_of (job.renew named resting new limit) actions is all = absurd (none-some actions is)

  -- and so are its given values
  given_of : (job : Job) (values : List ℕ) → values_file_of job ≡ Some values → HasAll around job
      → (given : List PlainGiven) × ReadsValues around.files values given
  given_of (trace named acts limit) values is all = absurd (none-some values is)
  given_of (replay named kept script limit turns) values is all = absurd (none-some values is)
  given_of (serve named kept socket limit turns) values is all = absurd (none-some values is)
  given_of (work count seed limit) values is all = absurd (none-some values is)
  given_of (simplify named) values is all = absurd (none-some values is)
  given_of (bound named count) values is all = absurd (none-some values is)
  given_of (follow named lines limit) values is all = absurd (none-some values is)
  given_of (lint named) values is all = absurd (none-some values is)
  given_of (job.why named acts action limit) values is all = absurd (none-some values is)
  given_of (job.next named acts texts limit) values is all = absurd (none-some values is)
  given_of (job.stuck named told_values limit states) values is all =
      (all.1, subst (λ name. ReadsValues around.files name all.1) (some_is is) all.3)
  given_of (job.renew named resting new limit) values is all = absurd (none-some values is)

  -- its words are what they must be
  fit_of : (job : Job) → HasAll around job → HasFitWords job
  fit_of (trace named actions limit) all = tt
  fit_of (replay named kept script limit turns) all = tt
  fit_of (serve named kept socket limit turns) all = tt
  fit_of (work count seed limit) all = tt
  fit_of (simplify named) all = tt
  fit_of (bound named count) all = tt
  fit_of (follow named lines limit) all = tt
  fit_of (lint named) all = tt
  fit_of (job.why named actions action limit) all = all.4
  fit_of (job.next named actions values limit) all = each_given values all.2 all.5
  fit_of (job.stuck named values limit states) all = tt
  fit_of (job.renew named resting new limit) all = tt

  no_large : (job : Job) (expression : List ℕ) → expression_of job ≡ Some expression → ReadsRest around.files job
      → HasAll around job → StartsAbove around.files expression (limit_of job) → ⊥
  no_large job expression is rest all larger =
      let starts = starts_of job expression is rest all in
      let same = one_form around.files told expression larger.form starts.0 larger.reads starts.1.reads in
      let above = larger.above in
      let small = subst (λ y. tree_size y [] ≤ limit_of job) (sym same) starts.1.small in
      absurd (omega (arith, above, small))

  -- a journal that a run can start from isn't refused
  refuses_none : (expression : List ℕ) (limit : ℕ) (why : List ℕ) (x y : Form) → Starts around.files expression limit x
      → Starts around.files expression limit y → OpensStartable y limit around.after
      → OfJournal (λ file. RefusesFile x limit file why) around.after.disk → ⊥
  refuses_none expression limit why x y starts mine opens refuses =
      let same = one_form around.files told expression x y starts.reads mine.reads in
      journal_starts y limit why around.after.disk opens.disk opens.told mine.small opens.can_start
      (subst (λ z. OfJournal (λ file. RefusesFile z limit file why) around.after.disk) same refuses)

  no_refusal : (job : Job) (expression why : List ℕ) (x : Form) → KeepsJournal around.files job expression
      → Starts around.files expression (limit_of job) x
      → OfJournal (λ file. RefusesFile x (limit_of job) file why) around.after.disk → HasAll around job → ⊥
  no_refusal (trace named actions limit) expression why x keeps starts refuses all = absurd (none-some keeps.journal keeps.has_journal)
  no_refusal (work count seed limit) expression why x keeps starts refuses all = absurd (none-some keeps.journal keeps.has_journal)
  no_refusal (simplify named) expression why x keeps starts refuses all = absurd (none-some keeps.journal keeps.has_journal)
  no_refusal (bound named count) expression why x keeps starts refuses all = absurd (none-some keeps.journal keeps.has_journal)
  no_refusal (follow named lines limit) expression why x keeps starts refuses all = absurd (none-some keeps.journal keeps.has_journal)
  no_refusal (lint named) expression why x keeps starts refuses all = absurd (none-some keeps.journal keeps.has_journal)
  no_refusal (job.why named actions action limit) expression cause x keeps starts refuses all =
      absurd (none-some keeps.journal keeps.has_journal)
  no_refusal (job.next named actions values limit) expression why x keeps starts refuses all =
      absurd (none-some keeps.journal keeps.has_journal)
  no_refusal (job.stuck named values limit states) expression why x keeps starts refuses all =
      absurd (none-some keeps.journal keeps.has_journal)
  no_refusal (job.renew named resting new limit) expression why x keeps starts refuses all =
      absurd (none-some keeps.journal keeps.has_journal)
  no_refusal (replay named kept script limit turns) expression why x keeps starts refuses all =
      refuses_none expression limit why x all.0 starts
      (subst (λ name. Starts around.files name limit all.0) (some_is keeps.of_expression) all.2) all.4 refuses
  no_refusal (serve named kept socket limit turns) expression why x keeps starts refuses all =
      refuses_none expression limit why x all.0 starts
      (subst (λ name. Starts around.files name limit all.0) (some_is keeps.of_expression) all.1) all.2 refuses

  -- so neither file has a fault
  no_unread : (job : Job) {end : ℕ} {text : List ℕ} → HasAll around job → Unread around job end text → ⊥
  no_unread job all (desk.bad_actions {actions = actions} {code = code} {at = at} named bad) =
      let past = past_of job actions named all in
      no_bad_actions around.files told actions past.0 code at past.1 bad
  no_unread job all (desk.lost_actions named rose) = none.files rose
  no_unread job all (desk.bad_values {values = values} named bad) =
      let given = given_of job values named all in
      no_bad_values around.files told values given.0 given.1 bad
  no_unread job all (desk.lost_values named rose) = none.files rose

  of_traced : {expression actions : List ℕ} {limit status : ℕ} {x : Form} {word : Word} {whole part : List ℕ}
      → Starts around.files expression limit x → ReadsActions around.files actions word → status ≢ 10
      → traced.Traces x limit word status whole part → Whole (trace expression actions limit) status whole part None
  of_traced starts reads below (traced.answered answers verdict end) = of_line end below (well.traced starts reads answers verdict)
  of_traced {actions = actions} starts reads below (traced.short rest front answers end) =
      of_line end below (well.short rest starts (subst (ReadsActions around.files actions) (sym front) reads) answers)
  of_traced starts reads below (traced.lost_answer rest front answers one) = absurd (below refl)

  of_followed : {expression lines bytes : List ℕ} {limit status : ℕ} {x : Form} {whole part : List ℕ}
      → Starts around.files expression limit x → ReadsLines around.files lines bytes → status ≢ 10
      → FollowEnds x limit (lines_of bytes) status whole part → Whole (follow expression lines limit) status whole part None
  of_followed starts reads below (fed.ends to end) = of_line end below (well.followed starts reads to)
  of_followed starts reads below (fed.lost_answer rest answer split follows feeds) = absurd (below refl)

  -- a replay takes all its turns only where its events don't end within them
  takes_the_end : {expression kept script : List ℕ} {limit turns : ℕ} {given : List GivenEvent} {session : Session}
      → ComesToEnd around.files (replay expression kept script limit turns) (Some session)
      → ReadsEvents around.files script given → AreFirst given session.taken
      → length session.taken ≡ turns → MayGoOn session → ⊥
  takes_the_end {script = script} {turns = turns} {given = given} {session = session} (of_script events reads end) has first all more =
      let taken : session.taken ≡ pieces_of 4096 turns events =
      first ∙ ap (λ n. pieces_of 4096 n given) all
      ∙ ap (λ them. pieces_of 4096 turns them) (one_script around.files told script given events has reads) in
      end (subst (Each IsNoEnd) taken more.0)
  takes_the_end {session = session} (of_session ended) has first all more = not_more session (ended session refl) more

  is_over : {expression kept socket : List ℕ} {limit turns : ℕ} {session : Session}
      → ComesToEnd around.files (serve expression kept socket limit turns) (Some session) → IsOver session
  is_over {session = session} (of_session ended) = ended session refl

  of_replayed : {expression kept script : List ℕ} {limit turns status : ℕ} {session : Session} {whole part : List ℕ}
      → EndsWhole around (replay expression kept script limit turns) 0 (played.session_text session) (Some session)
      → (length session.taken ≡ turns → MayGoOn session → ⊥) → status ≢ 10
      → ReplayEnds turns around.before.counts around.after.counts session status whole part
      → Whole (replay expression kept script limit turns) status whole part (Some session)
  of_replayed ends never below (played.ends (over was)) = (ends, refl)
  of_replayed ends never below (played.ends (out_of_turns all more _)) = absurd (never all more)
  of_replayed ends never below (played.ends (disk_failed fails rose _)) = absurd (none.disk rose)
  of_replayed ends never below (played.ends (lost_history taken)) = absurd (below refl)
  of_replayed ends never below (played.lost_reply losing) = absurd (below refl)

  of_served : {expression kept socket : List ℕ} {limit turns status : ℕ} {session : Session} {whole part : List ℕ}
      → EndsWhole around (serve expression kept socket limit turns) 0 (history_line session.opening) (Some session)
      → IsOver session → status ≢ 10
      → ServeEnds turns around.before.counts around.after.counts session status whole part
      → Whole (serve expression kept socket limit turns) status whole part (Some session)
  of_served ends is below (wired.ends (over was)) = (ends, refl)
  of_served {session = session} ends is below (wired.ends (out_of_turns all more _)) = absurd (not_more session is more)
  of_served ends is below (wired.ends (disk_failed fails rose _)) = absurd (none.disk rose)
  of_served ends is below (wired.ends (lost_history taken)) = absurd (below refl)
  of_served ends is below (wired.wire_failed few more rose _) = absurd (none.wire rose)

  of_worked : {count seed limit status : ℕ} {whole part : List ℕ} (x : Form) → StandsFor examinations x → tree_size x [] ≤ limit
      → status ≢ 10 → worked.Works count seed limit status whole part → Whole (work count seed limit) status whole part None
  of_worked x stands small below (worked.above {x = y} other large _) =
      let same = one-expression examinations x y stands other in
      let size = ap (λ z. tree_size z []) same in absurd (omega (arith, large, small, size))
  of_worked x stands small below (worked.asked other within asks end) = of_line end below (well.worked other asks)

  of_job : {job : Job} {status : ℕ} {whole part : List ℕ} {session : Option Session} (is : Crashes) → HasAll around job
      → ComesToEnd around.files job session → status ≢ 10
      → OnWire job around.before around.after is session → JobEnds around job status whole part session
      → Whole job status whole part session
  of_job is all ended below wire (how.no_memory end) = of_line end below well.no_memory
  of_job {job = job} is all ended below wire (how.bad_text {expression = expression} {code = code} {at = at} named bad rests _) =
      let reads = reads_of job expression named all in
      absurd (no_bad_text around.files told expression reads.0 code at reads.1 bad)
  of_job is all ended below wire (how.lost_expression named rose rests _) = absurd (none.files rose)
  of_job {job = job} is all ended below wire (how.large {expression = expression} named rest larger _) =
      absurd (no_large job expression named rest all larger)
  of_job is all ended below wire (how.lost_disk keeps reads rose _) = absurd (none.disk rose)
  of_job {job = job} is all ended below wire (how.refused_journal {expression = expression} {x = x} why keeps starts refuses _) =
      absurd (no_refusal job expression why x keeps starts refuses all)
  of_job is all ended below wire (how.bad_actions {actions = actions} {code = code} {at = at} starts bad rests _) =
      absurd (no_bad_actions around.files told actions all.1 code at all.3 bad)
  of_job is all ended below wire (how.lost_actions starts rose rests _) = absurd (none.files rose)
  of_job is all ended below wire (how.traced starts reads traces) = of_traced starts reads below traces
  of_job is all ended below wire (how.bad_script {script = script} {code = code} {at = at} reads bad rests _) =
      absurd (no_bad_script around.files told script all.1 code at all.3 bad)
  of_job is all ended below wire (how.lost_script reads rose rests _) = absurd (none.files rose)
  of_job is all ended below wire (how.replayed starts reads from plays so) =
      of_replayed (well.replayed starts reads from plays)
      (takes_the_end ended reads plays.first) below so
  of_job is all ended below wire (how.no_wire starts rose _) = absurd (none.wire rose)
  of_job is all ended below wire (how.served {socket = socket} {session = session} starts from takes so) =
      of_served (well.served starts from takes ((wire socket refl).whole none.sends)) (is_over ended) below so
  of_job is all ended below wire (how.worked works) = of_worked all.0 all.1 all.2 below works
  of_job is all ended below wire (how.simplified s reads becomes end) = of_line end below (well.simplified s reads becomes)
  of_job is all ended below wire (how.bounded answer reads within end) = of_line end below (well.bounded answer reads within)
  of_job is all ended below wire (how.long_lines {lines = lines} starts longer rests _) =
      absurd (longer_than around.files told lines all.1 67108864 all.3.file all.3.short longer)
  of_job is all ended below wire (how.lost_lines starts rose rests _) = absurd (none.files rose)
  of_job is all ended below wire (how.followed starts reads follows) = of_followed starts reads below follows
  of_job is all ended below wire (how.linted reads end) = of_line end below (well.linted reads)
  of_job is all ended below wire (how.lost_journal reads (inl rose) rests _) = absurd (none.files rose)
  of_job is all ended below wire (how.lost_journal {journal = journal} reads (inr longer) rests _) =
      absurd (longer_than around.files told journal all.1 renewal.most_journal_bytes all.3.file all.3.short longer)
  of_job is all ended below wire (how.unrenewed {journal = journal} {bytes = bytes} {limit = limit} {x = x} why starts reads refuses rests _) =
      absurd (no_renewal_refused x all.0 limit bytes all.1 why (one_form around.files told _ x all.0 starts.reads all.2.reads)
      (one_file around.files told journal bytes all.1 reads.file all.3.file) all.4 refuses)
  of_job is all ended below wire (how.there {new = new} starts reads has _) =
      absurd (no_byte_there new around.after all.5 has)
  of_job is all ended below wire (how.lost_new starts reads rose _) = absurd (none.disk rose)
  of_job is all ended below wire (how.renewed carried starts reads is_renewal made end) =
      of_line end below (well.renewed carried starts reads is_renewal made)
  of_job {job = job} is all ended below wire (how.unread named reads within unread _) = absurd (no_unread job all unread)
  of_job is all ended below wire (how.told named reads within answer end) = of_line end below (well.told named reads within answer)

  of_words : (is : Crashes) (words : List (List ℕ)) (job : Job) {status : ℕ} {whole part : List ℕ} {session : Option Session}
      → Names words job → HasAll around job
      → ComesToEnd around.files job session → status ≢ 10
      → EndsOver words around is status whole part session → Whole job status whole part session
  of_words is words job named all ended below (how.other_words others rests _) = absurd (no_job words job others named)
  of_words is words job named all ended below (how.no_memory rests end) = of_line end below well.no_memory
  of_words is words job named all ended below (how.unfit other names unfit rests end) =
      let same = one_job words other job names named in
      absurd (unfit (subst HasFitWords (sym same) (fit_of job all)))
  of_words is words job {status = status} {whole = whole} {part = part} {session = session} named all ended below
      (how.named {job = other} names fit it) =
      let same = one_job words other job names named in
      subst (λ (j : Job). Whole j status whole part session) same
      (of_job is (subst (HasAll around) (sym same) all)
      (subst (λ (j : Job). ComesToEnd around.files j session) (sym same) ended) below it.wire it.ends)

-- nothing of no text went out
part_of_nothing : (known : Option (List ℕ)) (part : List ℕ) (now : Option (List ℕ)) → part ≡ [] → AppendsPart known part now → now ≡ known
part_of_nothing known part now none puts =
    let empty = nothing_in puts.0 puts.1.0 (puts.1.1 ∙ none) in
    puts.2 ∙ ap (append_known known) empty ∙ sym (append_nothing known)
  where
    nothing_in : (front rest : List ℕ) → front ++ rest ≡ [] → front ≡ []
    nothing_in [] rest same = refl
    nothing_in (byte ∷ front) rest same = cc

pub ends_whole : {S : Type 0} (crashes : S → Crashes) → UnhinderedRunsEndWhole crashes
ends_whole crashes site words job around status old new named told all none it ended =
    let whole = of_words around old new told none (crashes site) words job named all ended (λ ten. none.puts (it.put_failed ten)) it.may in
    (whole.0, part_of_nothing _ it.part new.written whole.1 it.puts)
