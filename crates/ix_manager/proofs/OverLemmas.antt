-- What is answered over a site.
use Rattle.ix_journal.specs.Entries.{behind}
use Rattle.std.proofs.Common.{◌≡◌, ℕ, Bool, false, List, [], ◌∷◌, ◌++◌, Some, Result, Ok, Err, refl, sym, ap, subst}
use Rattle.std.specs.Option.{ForSome}
use Rattle.ix_values.specs.PlainAction.{PlainAction}
use Rattle.ix_values.specs.declared.tickets.Ticket.{Ticket}
use Rattle.ix_journal.specs.declared.entries.Entry.TheVariants as entry
use Rattle.ix_journal.specs.History.{PlainHistory}
use Rattle.ix_words.specs.Each.{Each, no_item, item}
use Rattle.ix_expr.specs.CanonicalText.{canonical_text}
use Rattle.ix_lease.specs.declared.Slot.TheVariants.{Free}
use Rattle.ix_lease.specs.declared.Take.TheVariants.{Taken, Expired, NoSuch}
use Rattle.ix_lines.specs.Items.{line, too_long}
use Rattle.ix_lines.specs.Words.{words_of}
use Rattle.ix_outside.specs.Counts.{Rose}
use Rattle.ix_outside.specs.Crashes.{Crashes, AreLawful}
use Rattle.ix_outside.specs.SiteState.{SiteState}
use Rattle.ix_outside.specs.inside.DiskCalls.{DiskCalls, LeavesOnly, span}
use Rattle.ix_outside.proofs.Passing.{DiskCalls-none}
use Rattle.ix_proto.specs.Requests.{confirm}
use Rattle.ix_proto.specs.RequestFaults.{IsRequestFault}
use Rattle.ix_proto.specs.inside.Lends.{LendsRequest, Reads}
use Rattle.ix_proto.specs.declared.reply.Reply.{Reply}
use Rattle.ix_proto.specs.declared.reply.Reply.TheVariants as reply
use Rattle.ix_proto.specs.declared.request.Request.{Request}
use Rattle.ix_proto.specs.declared.request.Request.TheVariants.{Confirm}
use Rattle.ix_store.specs.inside.Keeping.{FitsFile, IsWithOrWithout}
use Rattle.ix_store.specs.inside.KeptBy.{kept}
use Rattle.ix_manager.specs.Machine as machine
use Rattle.ix_manager.specs.Machine.{MachineState, count}
use Rattle.ix_manager.specs.Refusals.{disk}
use Rattle.ix_manager.specs.Runs.{going, failed}
use Rattle.ix_manager.specs.declared.faults.Go.{Go}
use Rattle.ix_manager.specs.declared.faults.Go.TheVariants.{More}
use Rattle.ix_manager.specs.declared.faults.Stop.{Stop}
use Rattle.ix_manager.specs.declared.faults.Stop.TheVariants.{Disk}
use Rattle.ix_manager.specs.declared.journaled.Journaled.{Journaled}
use Rattle.ix_manager.specs.inside.Core.{Core}
use Rattle.ix_manager.specs.inside.Does.{Does, MayReserve}
use Rattle.ix_manager.specs.inside.Over.{OverJournal}
use Rattle.ix_manager.specs.inside.OverSite.{ending_after}
use Rattle.ix_manager.specs.inside.Saving.{FitsJournal, OnlySends, Saves, SavesJournal, Finds, Commits, ConfirmsOver}
use Rattle.ix_manager.specs.inside.WireState.{WireState, wired, SendsAll, AnswersRequest, AnswersItem, wire_span, wire_stretch}
use Rattle.ix_manager.proofs.AcknowledgedLemmas.{TellsWithin}
use Rattle.ix_manager.proofs.AcknowledgeSteps.{saves_acknowledges, confirm_acknowledges}
use Rattle.ix_manager.proofs.AnswerLemmas.{confirm_answered, confirm_failed, line_answered, line_refused, long_line_refused}
use Rattle.ix_manager.proofs.SavingLemmas.{saves_none, saves_same, saves_sends, answered_saves, appended_saves, failed_saves, reserves_none, spent_on}
use Rattle.ix_manager.proofs.SendSteps.{disk_sent, sends-append}
use Rattle.ix_manager.proofs.Stepping.{unchanged}
use Rattle.ix_manager.proofs.TableLemmas.{open_tickets_are_confirmed}

-- the reservation of a ticket isn't open, or there is none
pub expired_does : (core : Core) (ticket : Ticket) (one : Reply) → Finds core ticket Expired → one ≡ reply.Refused 31 0
    → Does core (confirm ticket) one core
expired_does core ticket one finds is =
    subst (λ (r : Reply). Does core (confirm ticket) r core) (sym is)
    (unchanged core (confirm ticket) (reply.Refused 31 0) (machine.confirm_expired finds.1.0 finds.1.1)
    (record { listed = refl; zero_else = λ e. refl }))

pub no_such_does : (core : Core) (ticket : Ticket) (one : Reply) → Finds core ticket NoSuch → one ≡ reply.Refused 30 0
    → Does core (confirm ticket) one core
no_such_does core ticket one finds is =
    subst (λ (r : Reply). Does core (confirm ticket) r core) (sym is)
    (unchanged core (confirm ticket) (reply.Refused 30 0) (machine.confirm_no_such finds.1.0)
    (record { listed = refl; zero_else = λ e. refl }))

-- a confirm that is refused
pub refused_over : (ticket : Ticket) (one : Reply) (j : Journaled) (site : SiteState) (crashes : Crashes) → AreLawful site crashes
    → FitsJournal j site crashes → Does j.machine (confirm ticket) one j.machine
    → ConfirmsOver ticket (Ok one) j j (span site site crashes crashes)
refused_over ticket one j site crashes lawful fits does = record {
  ending = going;
  confirms = (does, refl);
  saves = saves_none j.machine.form j.machine.state (kept j.store) site crashes lawful fits.fits;
  calls = DiskCalls-none site crashes lawful;
}

module _ (ticket : Ticket) (action : PlainAction) (old new : Journaled) (before after : SiteState) (was is : Crashes)
    (lawful : AreLawful after is) (fits : FitsJournal old before was) (finds : Finds old.machine ticket (Taken action))
    (calls : DiskCalls (span before after was is))
    (images : (text : List ℕ) (history : PlainHistory) → FitsFile before was (kept old.store) text history
    → ForSome before.disk
    (λ _. LeavesOnly (IsWithOrWithout text history (kept old.store).marks (entry.Spent ticket action)) (span before after was is))) where
  -- the action was appended
  pub confirmed_over : (one : Reply) → Commits old.machine ticket one new.machine
      → ((text : List ℕ) (history : PlainHistory) → FitsFile before was (kept old.store) text history
      → FitsFile after is (kept new.store) text (history ++ (Some ticket, action) ∷ []))
      → (kept new.store).marks ≡ behind (kept old.store).marks (entry.Spent ticket action)
      → (kept new.store).failed ≡ false
      → ConfirmsOver ticket (Ok one) old new (span before after was is)
  confirmed_over one commits appended spent works =
      let facts = finds.1 in
      let does = commits action facts.0 facts.1 facts.2 in
      let state = (open_tickets_are_confirmed old.machine.form old.machine.limit old.machine.state ticket facts.0 action (one ∷ []) new.machine.state
      facts.1 facts.2 does.step).1 in
      let x = old.machine.form in
      let s = old.machine.state in
      let marks = (kept old.store).marks in
      record {
        ending = going;
        confirms = (does, refl);
        saves = saves_same going x s (record s { history = s.history ++ (Some ticket, action) ∷ []; slot = Free })
            new.machine.state (kept new.store) before after was is state
            (appended_saves x s marks fits.fits.tickets.renewed fits.fits.tickets.boot ticket action (kept new.store) before after was is lawful calls
            (images (canonical_text x) s.history fits.fits.fits) (record {
              works = works;
              fits = appended (canonical_text x) s.history fits.fits.fits;
              tickets = spent_on marks (kept new.store).marks s (s.history ++ (Some ticket, action) ∷ []) ticket action
                  facts.0 facts.1 spent fits.fits.tickets;
            }));
        calls = calls;
      }

  -- the append failed
  pub append_failed : new.machine ≡ old.machine → Rose before.counts.disk after.counts.disk
      → ConfirmsOver ticket (Err Disk) old new (span before after was is)
  append_failed same rose =
      let facts = finds.1 in
      let x = old.machine.form in
      let s = old.machine.state in
      record {
        ending = failed (Some ticket, action);
        confirms = (action, facts.0, facts.1, facts.2, same, refl);
        saves = saves_same (failed (Some ticket, action)) x s s new.machine.state (kept new.store) before after was is
            (ap (λ (core : Core). core.state) same)
            (failed_saves x s (kept old.store).marks fits.fits.tickets.renewed fits.fits.tickets.boot ticket action (kept new.store) before after was is
            lawful calls (images (canonical_text x) s.history fits.fits.fits) rose);
        calls = calls;
      }

module _ (conn : ℕ) (ticket : Ticket) (old new : Journaled) (was_gone gone : Bool) (a b c : SiteState) (p q r : Crashes)
    (between : AreLawful b q) (lawful : AreLawful c r) (only : OnlySends (span b c q r)) where
  -- a confirm's reply is sent
  pub confirm_over : (one : Reply) → ConfirmsOver ticket (Ok one) old new (span a b p q)
      → SendsAll conn (one ∷ []) (wired was_gone b) (wired gone c)
      → OverJournal (AnswersRequest conn (Confirm ticket)) (Ok More) old new (wire_stretch was_gone gone (span a c p r))
  confirm_over one over sends = record {
    ending = going;
    replies = one ∷ [];
    answered = refl;
    made = confirm_answered conn ticket one old.machine new.machine (wired was_gone a) (wired gone c) over.confirms.0
        (sends-append conn [] (one ∷ []) (wired was_gone a) (wired was_gone b) (wired gone c) (disk_sent conn was_gone a b p q over.calls) sends);
    saves = saves_sends going old.machine.form old.machine.state new.machine.state (kept new.store) a b c p q r between lawful
        (subst (λ e. SavesJournal e old new (span a b p q)) over.confirms.1 over.saves) only;
    acknowledges = confirm_acknowledges conn ticket one old new was_gone gone a b c p q r between
        lawful only over sends;
  }

  -- that the disk failed is sent
  pub failure_over : (stop : Stop) (one : Reply) → ConfirmsOver ticket (Err stop) old new (span a b p q) → one ≡ disk
      → SendsAll conn (one ∷ []) (wired was_gone b) (wired gone c)
      → OverJournal (AnswersRequest conn (Confirm ticket)) (Err stop) old new (wire_stretch was_gone gone (span a c p r))
  failure_over Disk one over is sends =
      let facts = over.confirms in
      let before = wired was_gone a in
      let after = wired gone c in
      let x = old.machine.form in
      let h = old.machine.state in
      let w = new.machine.state in
      let answers = confirm_failed conn ticket facts.0 facts.1 one old.machine new.machine before
      after facts.2 facts.3 facts.4 is
      (sends-append conn [] (one ∷ []) before (wired was_gone b) after
      (disk_sent conn was_gone a b p q over.calls) sends) in
      let saves : SavesJournal (failed (Some ticket, facts.0)) old new (span a c p r) =
      saves_sends (failed (Some ticket, facts.0)) x h w (kept new.store) a b c p q r between lawful
      (subst (λ e. SavesJournal e old new (span a b p q)) facts.5 over.saves) only in
      record {
        ending = failed (Some ticket, facts.0);
        replies = disk ∷ [];
        answered = ((Some ticket, facts.0), refl);
        made = answers;
        saves = saves;
        acknowledges = saves_acknowledges (failed (Some ticket, facts.0)) x h w (kept new.store) conn (disk ∷ [])
            before after p r lawful saves answers.sends (item tt no_item);
      }

-- a request is answered that leaves the journal alone
pub request_over : (conn : ℕ) (request : Request) (go : Go) (old new : Journaled) (before after : WireState) (p q : Crashes)
    → AreLawful before.site p → AreLawful after.site q → FitsJournal old before.site p
    → new.machine.state.history ≡ old.machine.state.history → MayReserve old.machine.state new.machine.state
    → kept new.store ≡ kept old.store
    → (replies : List Reply)
    → AnswersRequest conn request (ending_after go) replies old.machine new.machine before after
    → OnlySends (span before.site after.site p q)
    → Each (TellsWithin (count old.machine.state)) replies
    → OverJournal (AnswersRequest conn request) (Ok go) old new (wire_span before after p q)
request_over conn request go old new before after p q lawful lawful' fits same reserves store replies answers
    only within =
    let x = old.machine.form in
    let h = old.machine.state in
    let w = new.machine.state in
    let saves : SavesJournal (ending_after go) old new (span before.site after.site p q) =
    subst (λ s. Saves (ending_after go) x h w s (span before.site after.site p q)) (sym store)
    (answered_saves go x h w (kept old.store) before.site after.site p q lawful lawful' fits.fits same
    reserves only) in
    record {
      ending = ending_after go;
      replies = replies;
      answered = refl;
      made = answers;
      saves = saves;
      acknowledges = saves_acknowledges (ending_after go) x h w (kept new.store) conn
          replies before after p q lawful' saves answers.sends within;
    }

-- a line that is a request
pub line_over : (conn : ℕ) (bytes : List ℕ) (request : Request) (result : Result Go Stop) (old new : Journaled) (before after : WireState) (p q : Crashes)
    → Reads (words_of bytes) request → OverJournal (AnswersRequest conn request) result old new (wire_span before after p q)
    → OverJournal (AnswersItem conn (line bytes)) result old new (wire_span before after p q)
line_over conn bytes request result old new before after p q reads over = record {
  ending = over.ending;
  replies = over.replies;
  answered = over.answered;
  made = line_answered conn bytes request over.ending over.replies old.machine new.machine before after reads over.made;
  saves = over.saves;
  acknowledges = over.acknowledges;
}

-- a line that is no request
pub fault_over : (conn : ℕ) (bytes : List ℕ) (code : ℕ) (told : Reply) (j : Journaled) (before after : WireState) (p q : Crashes)
    → AreLawful before.site p → AreLawful after.site q → FitsJournal j before.site p → OnlySends (span before.site after.site p q)
    → IsRequestFault (words_of bytes) code → told ≡ reply.Refused code 0 → SendsAll conn (told ∷ []) before after
    → OverJournal (AnswersItem conn (line bytes)) (Ok More) j j (wire_span before after p q)
fault_over conn bytes code told j before after p q lawful lawful' fits only fault is sends =
    let x = j.machine.form in
    let h = j.machine.state in
    let answers = line_refused conn bytes code told j.machine before after fault is sends in
    let saves : SavesJournal going j j (span before.site after.site p q) =
    answered_saves More x h h (kept j.store) before.site after.site p q lawful lawful' fits.fits refl
    (reserves_none h) only in
    record {
      ending = going;
      replies = reply.Refused code 0 ∷ [];
      answered = refl;
      made = answers;
      saves = saves;
      acknowledges = saves_acknowledges going x h h (kept j.store) conn (reply.Refused code 0 ∷ []) before after
          p q lawful' saves answers.sends (item tt no_item);
    }

-- a line that is too long
pub long_over : (conn : ℕ) (told : Reply) (j : Journaled) (before after : WireState) (p q : Crashes)
    → AreLawful before.site p → AreLawful after.site q → FitsJournal j before.site p → OnlySends (span before.site after.site p q)
    → told ≡ reply.Refused 10 0 → SendsAll conn (told ∷ []) before after
    → OverJournal (AnswersItem conn too_long) (Ok More) j j (wire_span before after p q)
long_over conn told j before after p q lawful lawful' fits only is sends =
    let x = j.machine.form in
    let h = j.machine.state in
    let answers = long_line_refused conn told j.machine before after is sends in
    let saves : SavesJournal going j j (span before.site after.site p q) =
    answered_saves More x h h (kept j.store) before.site after.site p q lawful lawful' fits.fits refl
    (reserves_none h) only in
    record {
      ending = going;
      replies = reply.Refused 10 0 ∷ [];
      answered = refl;
      made = answers;
      saves = saves;
      acknowledges = saves_acknowledges going x h h (kept j.store) conn (reply.Refused 10 0 ∷ []) before after
          p q lawful' saves answers.sends (item tt no_item);
    }

-- a request that lends a confirm's ticket is that confirm
is_confirm : (request : Request) (ticket : Ticket) (P : Request → Type 0) → LendsRequest request (confirm ticket) → P (Confirm ticket) → P request
is_confirm (Confirm number) ticket P lends p = subst (λ (t : Ticket). P (Confirm t)) (sym lends) p
is_confirm _ ticket P lends p = absurd lends

-- a request that is a confirm
pub confirm_request : (conn : ℕ) (request : Request) (ticket : Ticket) (result : Result Go Stop) (old mid new : Journaled) (before after : WireState) (p q : Crashes)
    → LendsRequest request (confirm ticket) → mid ≡ old → OverJournal (AnswersRequest conn (Confirm ticket)) result mid new (wire_span before after p q)
    → OverJournal (AnswersRequest conn request) result old new (wire_span before after p q)
confirm_request conn request ticket result old mid new before after p q lends same over =
    is_confirm request ticket (λ r. OverJournal (AnswersRequest conn r) result old new (wire_span before after p q)) lends
    (subst (λ (j : Journaled). OverJournal (AnswersRequest conn (Confirm ticket)) result j new (wire_span before after p q)) same over)
