-- What a run makes of the journal that it attached.
use Rattle.std.proofs.Common.{◌≡◌, ◌⊎◌, inl, inr, ℕ, ◌+◌, ◌≤◌, List, [], ◌++◌, length, append-nil}
use Rattle.std.proofs.Common.{false, Option, None, Some, Result, true≢false, refl, sym, ◌∙◌, ap, subst, arith}
use Rattle.std.proofs.lemmas.Option.{none-some}
use Rattle.ix_journal.specs.Entries.{marks_of, renewed_of}
use Rattle.ix_journal.specs.declared.entries.Renewed.{Renewed}
use Rattle.ix_journal.specs.History.{PlainHistory, actions_of}
use Rattle.ix_expr.specs.CanonicalText.{canonical_text}
use Rattle.ix_expr.specs.Form.{Form}
use Rattle.ix_journal.specs.Kinds.{IsUnfinished}
use Rattle.ix_journal.specs.Recovery.{HoldsBoots, Recovers}
use Rattle.ix_journal.proofs.OutcomeLaws.{one_history, one_number}
use Rattle.ix_outside.specs.Crashes.{Crashes, AreLawful, Elapses, LeavesTheFile}
use Rattle.ix_outside.specs.Disk.{Disk, HasNothingOpened, Opened, IsOpened, MakesFile, Stays}
use Rattle.ix_outside.specs.SiteState.{SiteState}
use Rattle.ix_outside.specs.inside.DiskCalls.{KeepsOpened, span}
use Rattle.ix_manager.specs.Handled.{ManagerState}
use Rattle.ix_manager.specs.Images as image
use Rattle.ix_manager.specs.Images.{EachPrefixIsWithin, EndsAs, IsOwn, IsStartable, Keeps, with_failed}
use Rattle.ix_manager.specs.Runs.{Opening, Run}
use Rattle.ix_manager.specs.Starts.{HasText}
use Rattle.ix_manager.specs.declared.faults.StartFault.{StartFault}
use Rattle.ix_manager.specs.inside.StartAnswers.{StartLeaves}
use Rattle.ix_manager.specs.Runs.{opening_of}
use Rattle.ix_manager.proofs.SavingLemmas.{keeps_longer}
use Rattle.ix_manager.proofs.WithinLemmas.{kept_images_are_startable, runs_stay_within}
use Rattle.ix_cli.specs.Words.{Job}
use Rattle.ix_manage.specs.Command.{expression_of, journal_of, limit_of}
use Rattle.ix_manage.specs.Journal as reopens
use Rattle.ix_manage.specs.Journal.{GoesOnFrom, OfJournal, OfOpened, OnJournal, OpensJournal, Reopens, UsesJournal, session_of}
use Rattle.ix_outside.specs.Files.{Listing}
use Rattle.ix_manage.specs.Session.{Session}
use Rattle.ix_manage.specs.Trace.{ReadsForm}
use Rattle.ix_renew.proofs.Making.{kept_opened, opened_at}

pub some_is : {A : Type 0} {a b : A} → Some a ≡ Some b → a ≡ b
some_is e = cc

-- the image that an expression may open is unfinished, or has its text
own_text : (x : Form) (file : List ℕ) → IsOwn x file → IsUnfinished file ⊎ HasText file (canonical_text x)
own_text x file (image.new (inl unfinished)) = inl unfinished
own_text x file (image.new (inr unopened)) = inr (inl unopened)
own_text x file (image.ready history marks gate is) = inr (inr (is.journal.first, is.journal.ready))

-- what may be left now may have been left since
pub left_by_now : (before after : SiteState) (is : Crashes) → AreLawful after is → before.tick ≤ after.tick
    → (image : List ℕ) → is.now image → is.left before.tick image
left_by_now before after is lawful le image left =
    lawful.left_earlier before.tick after.tick image le ((lawful.left_now image).1 left)

-- how many boots an image holds: as many as the opening's boot, or one less
abbrev IsNear : ℕ → ℕ → Type 0
IsNear boot boots = (boot ≡ boots + 1) ⊎ (boot ≡ boots)

-- an image that holds so many boots, and keeps the first actions of a history within the limit
can_reopen : (opening : Opening) (least : ℕ) (history : PlainHistory) (image : List ℕ) (boots : ℕ)
    → EachPrefixIsWithin opening.form opening.limit (actions_of history) → opening.boot ≤ opening.renewed.boots + 1000000
    → Keeps opening.form least history image → HoldsBoots image opening.renewed boots → IsNear opening.boot boots
    → Reopens opening image
can_reopen opening least history image boots within most keeps holds near =
    elim (kept_images_are_startable opening.form opening.limit least history image within keeps) [
      | inl starts ↦
          let same = one_number image starts.0 opening.renewed starts.2.boots boots starts.2.holds holds in
          let following : starts.1 ≡ starts.2.boots + 1 = starts.2.next in
          elim near [
            | inl less ↦
                let boot : starts.1 ≡ opening.boot = omega (arith, same.1, following, less) in
                reopens.again keeps.kept (subst (StartsFor keeps.kept) (λ i. (same.0 i, boot i)) starts.2)
            | inr all ↦
                let boot : starts.1 ≡ opening.boot + 1 = omega (arith, same.1, following, all) in
                reopens.next keeps.kept (subst (StartsFor keeps.kept) (λ i. (same.0 i, boot i)) starts.2)
          ]
      | inr many ↦
          let marks = marks_of many.entries in
          let all_held : HoldsBoots image (renewed_of marks) marks.boots =
          record { entries = many.entries; keeps = many.keeps; said = refl; number = refl } in
          let same = one_number image (renewed_of marks) opening.renewed marks.boots boots all_held holds in
          let full : boots ≡ opening.renewed.boots + 1000000 =
          omega (arith, same.1, many.full, ap (λ (r : Renewed). r.boots) same.0) in
          elim near [
            | inl less ↦ absurd (omega (arith, full, less, most))
            | inr all ↦ reopens.never (all ∙ full) (subst (λ n. HoldsBoots image opening.renewed n) (sym all) holds)
          ]
    ]
  where
    -- a run of the opening's expression can start from the image, as this and in this boot
    StartsFor : PlainHistory → Renewed × ℕ → Type 0
    StartsFor kept both =
        IsStartable (opening_of opening.form opening.limit kept both.0 both.1) image

-- over a stretch of calls each image keeps the history and the boots that a run started from, and no
-- other actions than those of its last one; and ends as the run does
pub record KeepsAlong (x : Form) (h : PlainHistory) (renewed : Renewed) (boot : ℕ) (played : Session) (before after : ℕ) (q r : Crashes)
    : Type 0 where
  pub passes : Elapses before after q.left r.left
  pub rest : PlainHistory
  pub grows : h ++ rest ≡ with_failed played.ending played.last.history
  pub keeps : (image : List ℕ) → r.left before image
      → Keeps x (length h) (with_failed played.ending played.last.history) image
  pub boots : (image : List ℕ) → r.left before image → HoldsBoots image renewed boot
  pub boots_now : (image : List ℕ) → r.now image → HoldsBoots image renewed boot
  pub ends : (image : List ℕ) → r.now image → EndsAs played.ending played.last.history image

-- a start, from the attached file on
module _ (x : Form) (limit : ℕ) (at mid : SiteState) (p q : Crashes) (d : Disk)
    (name : List ℕ) (told : at.disk ≡ Some d)
    (now : (image : List ℕ) → p.now image → image ≡ d.file)
    (result : Result ManagerState StartFault) (leaves : StartLeaves x limit d.file result (span at mid p q))
  where
    abbrev opened : Opened
    opened = record { name = name; tick = at.tick; file = d.file }

    -- where the file is startable, all that may be left recovers its history
    start_recovers : (h : PlainHistory) (renewed : Renewed) (boot : ℕ) → IsStartable (opening_of x limit h renewed boot) d.file
        → (image : List ℕ) → q.left at.tick image → Recovers image h
    start_recovers h renewed boot s image left = elim (leaves.recovers h s.recovers image left) [
      | inl first ↦ subst (λ (file : List ℕ). Recovers file h) (sym (now image first)) s.recovers
      | inr recovers ↦ recovers
    ]

    -- and is the expression's
    pub start_keeps : (h : PlainHistory) (renewed : Renewed) (boot : ℕ) → IsStartable (opening_of x limit h renewed boot) d.file
        → (image : List ℕ) → q.left at.tick image → Keeps x (length h) h image
    start_keeps h renewed boot s image left = record {
      own = elim (leaves.own (own_text x d.file s.own) image left) [
        | inl first ↦ subst (λ (file : List ℕ). IsOwn x file) (sym (now image first)) s.own
        | inr own ↦ own
      ];
      kept = h;
      recovers = start_recovers h renewed boot s image left;
      rest = [];
      prefix = append-nil h;
      long = omega arith;
    }

    -- and a run can start from it again
    pub start_reopens : (h : PlainHistory) (renewed : Renewed) (boot : ℕ) → IsStartable (opening_of x limit h renewed boot) d.file
        → (image : List ℕ) → q.left at.tick image → Reopens (opening_of x limit h renewed boot) image
    start_reopens h renewed boot s image left = elim (leaves.boots renewed s.boots s.holds image left) [
      | inl first ↦ reopens.again h (subst (λ (file : List ℕ). IsStartable (opening_of x limit h renewed boot) file) (sym (now image first)) s)
      | inr holds ↦ elim holds [
        | inl same ↦ holding s.boots (inl s.next) same
        | inr more ↦ holding (s.boots + 1) (inr s.next) more.1
      ]
    ]
      where
        holding : (boots : ℕ) → IsNear boot boots → HoldsBoots image renewed boots → Reopens (opening_of x limit h renewed boot) image
        holding boots near holds =
            can_reopen (opening_of x limit h renewed boot) (length h) h image boots s.within
            (let few = s.few in let following = s.next in omega (arith, few, following)) (start_keeps h renewed boot s image left) holds near

    file_stays : (one two : Option Disk) → MakesFile Stays one two → (e : Disk) → one ≡ Some d → two ≡ Some e → e.file ≡ d.file
    file_stays None two makes e first second = absurd (none-some d first)
    file_stays (Some f) None makes e first second = absurd makes
    file_stays (Some f) (Some g) makes e first second =
        let one : f ≡ d = cc in
        let two : g ≡ e = cc in
        sym (ap (λ (disk : Disk). disk.file) two) ∙ makes.0 ∙ ap (λ (disk : Disk). disk.file) one

    -- no run started
    pub start_uses : AreLawful mid q → at.tick ≤ mid.tick → (e : Disk) → mid.disk ≡ Some e
        → UsesJournal x limit None e.file opened q
    start_uses lawful le e after = record {
      startable = λ h renewed boot s. record {
        from = refl;
        boots = λ none. absurd (true≢false (sym none));
        holds = record {
          ends = λ image left. start_recovers h renewed boot s image (left_by_now at mid q lawful le image left);
          keeps = λ image left. start_keeps h renewed boot s image left;
          reopens = λ image left. start_reopens h renewed boot s image left;
        };
      };
      other = λ no. record {
        none_taken = refl;
        file_is = file_stays at.disk mid.disk (leaves.refused no).0 e told after;
        only = λ image left. now image ((leaves.refused no).1 image (left_by_now at mid q lawful le image left));
        only_since = λ image left. now image ((leaves.refused no).1 image left);
      };
    }

-- a file is startable from one opening
one_opening : {x : Form} {limit : ℕ} (file : List ℕ) (g h : PlainHistory) (q r : Renewed) (boot next : ℕ)
    → IsStartable (opening_of x limit g q boot) file → IsStartable (opening_of x limit h r next) file
    → opening_of x limit g q boot ≡ opening_of x limit h r next
one_opening {x = x} {limit = limit} file g h q r boot next s t =
    let histories = one_history file g h s.recovers t.recovers in
    let both = one_number file q r s.boots t.boots s.holds t.holds in
    let same : boot ≡ next = s.next ∙ ap (λ n. n + 1) both.1 ∙ sym t.next in
    λ i. opening_of x limit (histories i) (both.0 i) (same i)

-- a run started from a file from which it may, and took events, or none
module _ (x : Form) (limit : ℕ) (tick : ℕ) (d : Disk) (name : List ℕ) (mid : ℕ) (q : Crashes)
    (h : PlainHistory) (renewed : Renewed) (boot : ℕ) (starts : IsStartable (opening_of x limit h renewed boot) d.file)
    (kept : (image : List ℕ) → q.left tick image → Keeps x (length h) h image)
    (opens_again : (image : List ℕ) → q.left tick image → Reopens (opening_of x limit h renewed boot) image)
  where
    abbrev attached : Opened
    attached = record { name = name; tick = tick; file = d.file }

    module _ (session : Option Session) (end : ℕ) (r : Crashes) (le : tick ≤ mid) where
      abbrev played : Session
      played = session_of (opening_of x limit h renewed boot) session

      module _ (opening_is : played.opening ≡ opening_of x limit h renewed boot) (along : KeepsAlong x h renewed boot played mid end q r)
          (run : Run played.opening played.taken played.answers played.last played.ending)
        where
          within : EachPrefixIsWithin x limit (actions_of (with_failed played.ending played.last.history))
          within = runs_stay_within (opening_of x limit h renewed boot) played.taken played.answers played.last played.ending starts.within
              (subst (λ (o : Opening). Run o played.taken played.answers played.last played.ending) opening_is run)

          keeps : (image : List ℕ) → r.left tick image
              → Keeps x (length h) (with_failed played.ending played.last.history) image
          keeps image left = elim (along.passes.nothing_else tick image le left) [
            | inl earlier ↦ keeps_longer x (length h) h along.rest (with_failed played.ending played.last.history) image along.grows
                (kept image earlier)
            | inr since ↦ along.keeps image since
          ]

          reopens_along : (image : List ℕ) → r.left tick image → Reopens (opening_of x limit h renewed boot) image
          reopens_along image left = elim (along.passes.nothing_else tick image le left) [
            | inl earlier ↦ opens_again image earlier
            | inr since ↦
                can_reopen (opening_of x limit h renewed boot) (length h) (with_failed played.ending played.last.history) image boot within
                (let few = starts.few in let following = starts.next in omega (arith, few, following))
                (along.keeps image since) (along.boots image since) (inr refl)
          ]

          goes_on : GoesOnFrom (opening_of x limit h renewed boot) session attached r
          goes_on = record {
            from = opening_is;
            boots = λ some. along.boots_now;
            holds = record {
              ends = along.ends;
              keeps = λ image left.
                  subst (λ (o : Opening). Keeps o.form (length h) (with_failed played.ending played.last.history) image)
                  (sym opening_is) (keeps image left);
              reopens = λ image left.
                  subst (λ (o : Opening). Reopens o image) (sym opening_is) (reopens_along image left);
            };
          }

          pub session_uses : (file : List ℕ) → UsesJournal x limit session file attached r
          session_uses file = record {
            startable = λ other says next others.
                subst (λ (o : Opening). GoesOnFrom o session attached r)
                (one_opening d.file h other renewed says boot next starts others) goes_on;
            other = λ no. absurd (no h renewed boot starts);
          }

-- what a job makes of the file that it attached
pub on_journal : (files : Option Listing) (job : Job) (expression journal : List ℕ) (x : Form)
    → expression_of job ≡ Some expression → journal_of job ≡ Some journal
    → ReadsForm files expression x → (session : Option Session) (before at end : SiteState) (r : Crashes)
    → IsOpened journal at.tick before.disk at.disk → KeepsOpened at.disk end.disk ⊎ (end.disk ≡ None)
    → ((d : Disk) → at.disk ≡ Some d → (e : Disk) → end.disk ≡ Some e
    → UsesJournal x (limit_of job) session e.file (record { name = journal; tick = at.tick; file = d.file }) r)
    → OnJournal files job before end r session
on_journal files job expression journal x of_expression has_journal reads session before at end r is (inl keeps) uses =
    λ named kept_in same_expression same_journal old new told_old told_new.
    let kept = kept_opened at.disk end.disk keeps new told_new in
    let opened_is = kept.2 ∙ opened_at journal at.tick before.disk at.disk is kept.0 kept.1 in
    subst (λ (o : Option Opened). OpensJournal files (limit_of job) named kept_in session new r o) (sym opened_is) (
      some_is (sym has_journal ∙ same_journal),
      (
        x,
        subst (λ n. ReadsForm files n x) (some_is (sym of_expression ∙ same_expression)) reads,
        uses kept.0 kept.1 new told_new,
      ),
    )
on_journal files job expression journal x of_expression has_journal reads session before at end r is (inr untold) uses =
    λ named kept_in same_expression same_journal old new told_old told_new.
    absurd (none-some new (sym untold ∙ told_new))

-- nothing was attached
pub none_opened : (files : Option Listing) (job : Job) (before end : SiteState) (r p : Crashes)
    → AreLawful before p → before.attached ≡ false
    → end.disk ≡ before.disk → OnJournal files job before end r None
none_opened files job before end r p lawful away same =
    λ expression journal of_expression has_journal old new told_old told_new.
    let disks : new ≡ old = some_is (sym told_new ∙ same ∙ told_old) in
    let none : old.opened ≡ None = subst HasNothingOpened told_old (lawful.unattached away) in
    subst (λ (o : Option Opened). OpensJournal files (limit_of job) expression journal None new r o)
    (sym (ap (λ (disk : Disk). disk.opened) disks ∙ none)) refl

-- how the file read that was attached
pub of_journal : (P : List ℕ → Type 0) (journal : List ℕ) (tick : ℕ) (before at end : Option Disk)
    → IsOpened journal tick before at → KeepsOpened at end
    → ((d : Disk) → at ≡ Some d → P d.file) → OfJournal P end
of_journal P journal tick before None end is keeps holds =
    subst (λ (disk : Option Disk). OfJournal P disk) (sym keeps) tt
of_journal P journal tick before (Some d) None is keeps holds = absurd keeps
of_journal P journal tick before (Some d) (Some e) is keeps holds =
    subst (λ (o : Option Opened). OfOpened P o) (sym (keeps.1 ∙ opened_at journal tick before (Some d) is d refl)) (holds d refl)
