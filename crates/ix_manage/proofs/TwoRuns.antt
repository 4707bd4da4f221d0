-- Two runs on one journal: the second is in a later boot, and what was told in the first stays.
use Rattle.std.proofs.Common.{◌≡◌, ℕ, ◌+◌, List, [], ◌∷◌, ◌++◌, append-nil, Option, Some, inl, inr, refl, sym, ◌∙◌, ap, subst, arith}
use Rattle.std.proofs.lemmas.Option.{none-some}
use Rattle.ix_journal.specs.declared.entries.Renewed.{Renewed}
use Rattle.ix_words.specs.Each.{Each, no_item, item}
use Rattle.ix_words.proofs.Each.{Each-head, Each-left, Each-tail}
use Rattle.ix_values.specs.Laws.{TextsTellTicketsApart}
use Rattle.ix_journal.specs.History.{PlainHistory, Spent}
use Rattle.ix_journal.specs.Recovery.{HoldsBoots, Recovers}
use Rattle.ix_journal.proofs.OutcomeLaws.{one_history, one_number}
use Rattle.ix_expr.specs.Form.{Form}
use Rattle.ix_outside.specs.Crashes.{Crashes}
use Rattle.ix_outside.specs.Disk.{Opened}
use Rattle.ix_cli.specs.Words.{Job, replay, serve}
use Rattle.ix_manager.specs.Images.{EndsAs, IsStartable, with_failed}
use Rattle.ix_manager.specs.Machine.{IsAbsent, start_of}
use Rattle.ix_manager.specs.Runs.{Ending, Opening, Run, failed, going, stopped}
use Rattle.ix_manager.proofs.SlotLemmas.{free_holds}
use Rattle.ix_manager.proofs.TicketLemmas.{IsOver}
use Rattle.ix_manager.proofs.ToldLemmas.{over_in_run, tickets_are_of_their_boot, told_over}
use Rattle.ix_manage.specs.Around.{Around}
use Rattle.ix_manage.specs.Command.{expression_of, journal_of, limit_of}
use Rattle.ix_manage.specs.Ends as how
use Rattle.ix_manage.specs.Ends.{EndsOver, JobEnds, JobOver}
use Rattle.ix_manage.specs.Journal.{GoesOnFrom, OpensJournal, UsesJournal}
use Rattle.ix_manage.specs.Session.{Session}
use Rattle.ix_manage.specs.TwoRuns as two
use Rattle.ix_manage.specs.TwoRuns.{RunsAgain, HadSession, IsLeftOf, OverTicketsStayOut, TicketsAreGrantedOnce}
use Rattle.ix_manage.proofs.Opening.{some_is}

-- a job that had a session names an expression and a journal, and ran the machine
record RanMachine (job : Job) (session : Session) : Type 0 where
  pub expression : List ℕ
  pub of_expression : expression_of job ≡ Some expression
  pub journal : List ℕ
  pub has_journal : journal_of job ≡ Some journal
  pub run : Run session.opening session.taken session.answers session.last session.ending

ran_machine : {around : Around} {job : Job} {status : ℕ} {whole part : List ℕ} {some : Option Session} (session : Session)
    → JobEnds around job status whole part some → some ≡ Some session → RanMachine job session
ran_machine session (how.replayed {expression = expression} {journal = journal} {script = script} {limit = limit} {turns = turns}
    starts reads from plays so) is =
    subst (RanMachine (replay expression journal script limit turns)) (some_is is) (record {
      expression = expression;
      of_expression = refl;
      journal = journal;
      has_journal = refl;
      run = plays.takes.run;
    })
ran_machine session (how.served {expression = expression} {journal = journal} {socket = socket} {limit = limit} {turns = turns}
    starts from takes so) is =
    subst (RanMachine (serve expression journal socket limit turns)) (some_is is) (record {
      expression = expression;
      of_expression = refl;
      journal = journal;
      has_journal = refl;
      run = takes.run;
    })
ran_machine session _ is = absurd (none-some session is)

-- a run that had a session, and its file
record Began (session : Session) (opened : Opened) (is : Crashes) : Type 0 where
  pub run : Run session.opening session.taken session.answers session.last session.ending
  pub form : Form
  pub limit : ℕ
  pub file : List ℕ
  pub uses : UsesJournal form limit (Some session) file opened is

began : {session : Session} {opened : Opened} {is : Crashes} → HadSession session opened is → Began session opened is
began {session = session} {opened = opened} {is = is} had = by had.ended.may had.session_is
  where
    by : {status : ℕ} {whole part : List ℕ} {some : Option Session} → EndsOver had.words had.around is status whole part some
        → some ≡ Some session → Began session opened is
    by (how.other_words others rests _) same = absurd (none-some session same)
    by (how.no_memory rests _) same = absurd (none-some session same)
    by (how.unfit job names unfit rests _) same = absurd (none-some session same)
    by (how.named {job = job} {session = some} names fit it) same =
        let ran = ran_machine session it.ends same in
        let opens = it.journal ran.expression ran.journal ran.of_expression ran.has_journal had.before had.after had.told had.still_told in
        let uses = (subst (λ (o : Option Opened). OpensJournal had.around.files (limit_of job) ran.expression ran.journal some had.after is o)
        had.opened_is opens).1 in record {
          run = ran.run;
          form = uses.0;
          limit = limit_of job;
          file = had.after.file;
          uses = subst (λ (o : Option Session). UsesJournal uses.0 (limit_of job) o had.after.file opened is) same uses.2;
        }

-- the session went on from what the file recovers
record Went (session : Session) (opened : Opened) (is : Crashes) : Type 0 where
  pub run : Run session.opening session.taken session.answers session.last session.ending
  pub starts : IsStartable session.opening opened.file
  pub goes_on : GoesOnFrom session.opening (Some session) opened is

-- what can't be where it did can't be
went : {session : Session} {opened : Opened} {is : Crashes} → HadSession session opened is → (Went session opened is → ⊥) → ⊥
went {session = session} {opened = opened} {is = is} had isnt_so =
    let it = began had in
    none-some session (sym (it.uses.other (λ history renewed boot starts.
    let goes_on = it.uses.startable history renewed boot starts in
    let from = goes_on.from in
    isnt_so (record {
      run = it.run;
      starts = subst (λ (o : Opening). IsStartable o opened.file) (sym from) starts;
      goes_on = subst (λ (o : Opening). GoesOnFrom o (Some session) opened is) (sym from) goes_on;
    }))).none_taken)

-- a crash behind the session leaves its boots
left_boots : {session : Session} {opened : Opened} {is : Crashes} {image : List ℕ} → Went session opened is
    → IsLeftOf session opened is image → HoldsBoots image session.opening.renewed session.opening.boot
left_boots {image = image} it (two.behind now) = it.goes_on.boots refl image now
left_boots it (two.meanwhile left holds) = holds

-- and a front of its history, where a confirm that failed may be behind it
record Front (image : List ℕ) (all : PlainHistory) : Type 0 where
  pub kept : PlainHistory
  pub recovers : Recovers image kept
  pub rest : PlainHistory
  pub prefix : kept ++ rest ≡ all

front_of : (ending : Ending) (history : PlainHistory) (image : List ℕ) → EndsAs ending history image → Front image (with_failed ending history)
front_of going history image is = record { kept = history; recovers = is; rest = []; prefix = append-nil history }
front_of stopped history image is = record { kept = history; recovers = is; rest = []; prefix = append-nil history }
front_of (failed spent) history image (inl is) = record { kept = history; recovers = is; rest = spent ∷ []; prefix = refl }
front_of (failed spent) history image (inr is) =
    record { kept = history ++ spent ∷ []; recovers = is; rest = []; prefix = append-nil (history ++ spent ∷ []) }

left_front : {session : Session} {opened : Opened} {is : Crashes} {image : List ℕ} → Went session opened is
    → IsLeftOf session opened is image → Front image (with_failed session.ending session.last.history)
left_front {session = session} {image = image} it (two.behind now) =
    front_of session.ending session.last.history image (it.goes_on.holds.ends image now)
left_front {image = image} it (two.meanwhile left holds) =
    let keeps = it.goes_on.holds.keeps image left in
    record { kept = keeps.kept; recovers = keeps.recovers; rest = keeps.rest; prefix = keeps.prefix }

-- so the next session is in the next boot, and its carried actions stand for the same
next_boot : {first second : Session} {opened again : Opened} {is then : Crashes} → Went first opened is → Went second again then
    → IsLeftOf first opened is again.file
    → (second.opening.renewed ≡ first.opening.renewed) × (second.opening.boot ≡ first.opening.boot + 1)
next_boot {first = first} {second = second} {again = again} one other left =
    let both = one_number again.file second.opening.renewed first.opening.renewed other.starts.boots first.opening.boot
    other.starts.holds (left_boots one left) in
    (both.0, other.starts.next ∙ ap (λ n. n + 1) both.1)

pub tickets_are_granted_once : {S : Type 0} (crashes : S → Crashes) → TicketsAreGrantedOnce crashes
tickets_are_granted_once crashes first second ticket on granted again =
    went on.had (λ one. went on.has (λ other.
    let in_first = tickets_are_of_their_boot first.opening first.taken first.answers first.last first.ending ticket one.run granted in
    let in_second = tickets_are_of_their_boot second.opening second.taken second.answers second.last second.ending ticket other.run again in
    let next = next_boot one other on.left in
    omega (arith, in_first, in_second, next.1)))

-- what each item of a list can't be, is shown where it can't fail
each_isnt : {A : Type 0} {G : A → Type 0} (all : List A) → ((Each (λ a. G a → ⊥) all → ⊥) → ⊥) → Each (λ a. G a → ⊥) all
each_isnt [] isnt_so = no_item
each_isnt (a ∷ all) isnt_so =
    item (λ is. isnt_so (λ each. Each-head each is)) (each_isnt all (λ isnt. isnt_so (λ each. isnt (Each-tail each))))

pub over_tickets_stay_out : TextsTellTicketsApart → {S : Type 0} (crashes : S → Crashes) → OverTicketsStayOut crashes
over_tickets_stay_out apart crashes first second ticket on told =
    each_isnt {G = λ (spent : Spent). spent.0 ≡ Some ticket} (with_failed second.ending second.last.history) (λ isnt_so.
    went on.had (λ one. went on.has (λ other. isnt_so (absent one other))))
  where
    absent : Went first on.opened (crashes on.site) → Went second on.again (crashes on.later)
        → IsAbsent ticket (with_failed second.ending second.last.history)
    absent one other =
        let over = told_over apart first.opening on.opened.file ticket one.starts one.run told in
        let front = left_front one on.left in
        let next = next_boot one other on.left in
        let same : front.kept ≡ second.opening.history =
        one_history on.again.file front.kept second.opening.history front.recovers other.starts.recovers in
        let begun : IsOver (start_of front.kept first.opening.renewed (first.opening.boot + 1)) ticket = record {
          granted = over.granted;
          absent = Each-left front.kept front.rest
              (subst (λ (h : PlainHistory). IsAbsent ticket h) (sym front.prefix) over.absent);
          shut = λ a deadline is. free_holds _ a deadline is;
        } in
        over_in_run ticket other.run
        (subst (λ (h : PlainHistory). IsOver (start_of h second.opening.renewed second.opening.boot) ticket) same
        (subst (λ (both : Renewed × ℕ). IsOver (start_of front.kept both.0 both.1) ticket)
        (λ i. (sym next.0 i, sym next.1 i)) begun))
