-- What the machine's answers make of lines.
use Rattle.std.proofs.Common.{◌≡◌, ℕ, ◌+◌, ◌<◌, ◌≤◌, List, [], ◌∷◌, Some, refl, sym, ◌∙◌, ap, subst, arith}
use Rattle.ix_values.specs.PlainAction.{PlainAction}
use Rattle.ix_values.specs.declared.tickets.Ticket.{Ticket}
use Rattle.ix_lease.specs.declared.Slot.TheVariants.{Held}
use Rattle.ix_lines.specs.Items.{line, too_long}
use Rattle.ix_watch.specs.inside.Watches.{changes_of}
use Rattle.ix_proto.specs.Requests.{PlainRequest, IsRequest, request_words, confirm, poll, stop}
use Rattle.ix_proto.specs.inside.Lends.{LendsRequest, Reads}
use Rattle.ix_proto.specs.RequestFaults.{IsRequestFault}
use Rattle.ix_lines.specs.Words.{words_of}
use Rattle.ix_proto.specs.declared.reply.Reply.{Reply}
use Rattle.ix_proto.specs.declared.reply.Reply.TheVariants as reply
use Rattle.ix_proto.specs.declared.request.Request.{Request}
use Rattle.ix_proto.specs.declared.request.Request.TheVariants.{Confirm, Poll, Stop}
use Rattle.ix_manager.specs.declared.faults.Go.{Go}
use Rattle.ix_manager.specs.declared.faults.Go.TheVariants.{More, Stopped}
use Rattle.ix_manager.specs.Machine.{MachineState, Step, polled, stopping}
use Rattle.ix_manager.specs.Refusals.{disk}
use Rattle.ix_manager.specs.Runs.{Ending, going, stopped, failed, ending_of, ItemStep, requested, refused, over_long, disk_failed}
use Rattle.ix_manager.specs.declared.machine.Answer.TheVariants as answer
use Rattle.ix_manager.specs.inside.OverSite.{ending_after}
use Rattle.ix_manager.specs.inside.Core.{Core, MachineAnswers, TellsPoll}
use Rattle.ix_manager.specs.inside.Does.{Does}
use Rattle.ix_manager.proofs.HistoryLemmas.{number_rises, step_reserves}
use Rattle.ix_manager.specs.inside.WireState.{WireState, SendsAll, AnswersItem, AnswersRequest, poll_replies}

-- a request that lends a poll's name lends no other request's texts
pub lends_poll : (request : Request) (name : List ℕ) (plain : PlainRequest) → LendsRequest request (poll name) → LendsRequest request plain → plain ≡ poll name
lends_poll (Poll bytes) name (poll other) h k = ap poll (sym k ∙ h)
lends_poll (Poll bytes) name _ h k = absurd k
lends_poll _ name _ h k = absurd h

-- a request that lends `stop` lends no other request's texts
pub lends_stop : (request : Request) (plain : PlainRequest) → LendsRequest request stop → LendsRequest request plain → plain ≡ stop
lends_stop Stop stop h k = refl
lends_stop Stop _ h k = absurd k
lends_stop _ _ h k = absurd h

-- behind each other request the run goes on
pub lends_going : (request : Request) (plain : PlainRequest) → ¬ LendsRequest request stop → LendsRequest request plain → ending_of plain ≡ going
lends_going request stop none lends = absurd (none lends)
lends_going request _ none lends = refl

-- a poll that was told is the machine's step
pub poll_step : (old between new : Core) (name : List ℕ) (plain : PlainRequest)
    → between.state ≡ old.state → between.form ≡ old.form → between.limit ≡ old.limit → TellsPoll between name new → plain ≡ poll name
    → Step old.form old.limit old.state plain (poll_replies (changes_of name between.noted)) new.state
poll_step old between new name plain state form limit tells is =
    let replies = poll_replies (changes_of name between.noted) in
    let first : Step between.form between.limit between.state (poll name) replies (record between.state { watches = new.state.watches }) = polled tells.polls in
    let second = subst (λ s. Step between.form between.limit between.state (poll name) replies s) (sym tells.rest) first in
    let third = subst (λ s. Step between.form between.limit s (poll name) replies new.state) state second in
    let fourth = subst (λ l. Step between.form l old.state (poll name) replies new.state) limit third in
    let fifth = subst (λ x. Step x old.limit old.state (poll name) replies new.state) form fourth in
    subst (λ p. Step old.form old.limit old.state p replies new.state) (sym is) fifth

-- each line of a request that lends so makes the step that ends so
pub line_steps : (old new : Core) (request : Request) (go : Go) (replies : List Reply)
    → ((plain : PlainRequest) → IsRequest plain → LendsRequest request plain → Step old.form old.limit old.state plain replies new.state)
    → ((plain : PlainRequest) → LendsRequest request plain → ending_of plain ≡ ending_after go)
    → (plain : PlainRequest) → IsRequest plain → LendsRequest request plain → (bytes : List ℕ) → words_of bytes ≡ request_words plain
    → ItemStep old.form old.limit old.state (line bytes) replies new.state (ending_after go)
line_steps old new request go replies steps ends plain valid lends bytes same =
    subst (λ e. ItemStep old.form old.limit old.state (line bytes) replies new.state e) (ends plain lends)
    (requested plain valid same (steps plain valid lends))

-- a request is answered by one reply, and the run goes on
abbrev pub one_answered : (conn : ℕ) (request : Request) (reply : Reply) (old new : Core)
    (before after : WireState)
    → MachineAnswers old request (answer.One reply) new
    → SendsAll conn (reply ∷ []) before after → new.form ≡ old.form → new.limit ≡ old.limit → new.state.number ≤ old.state.number + 1
    → AnswersRequest conn request going (reply ∷ []) old new before after
one_answered conn request reply old new before after answers sends form limit number = record {
  step = line_steps old new request More (reply ∷ []) answers.0 (λ plain lent. lends_going request plain answers.1 lent);
  sends = sends;
  form = form;
  limit = limit;
  number = number;
}

-- `stop` is answered, and ends the run
abbrev pub stop_answered : (conn : ℕ) (request : Request) (old new : Core)
    (before after : WireState)
    → MachineAnswers old request answer.Stop new → SendsAll conn (reply.Stopping ∷ []) before after
    → AnswersRequest conn request stopped (reply.Stopping ∷ []) old new before after
stop_answered conn request old new before after answers sends = record {
  step = line_steps old new request Stopped (reply.Stopping ∷ [])
      (λ plain valid lent. subst (λ (p : PlainRequest). Step old.form old.limit old.state p (reply.Stopping ∷ []) new.state)
      (sym (lends_stop request plain answers.0 lent))
      (subst (λ (core : Core). Step old.form old.limit old.state stop (reply.Stopping ∷ []) core.state) (sym answers.1) stopping))
      (λ plain lent. ap ending_of (lends_stop request plain answers.0 lent));
  sends = sends;
  form = ap (λ (core : Core). core.form) answers.1;
  limit = ap (λ (core : Core). core.limit) answers.1;
  number = let n : new.state.number ≡ old.state.number = ap (λ (core : Core). core.state.number) answers.1 in omega (arith, n);
}

-- a poll is answered
abbrev pub poll_answered : (conn : ℕ) (request : Request) (name : List ℕ)
    (old between new : Core) (before after : WireState)
    → LendsRequest request (poll name)
    → between.state ≡ old.state → between.form ≡ old.form → between.limit ≡ old.limit
    → TellsPoll between name new → SendsAll conn (poll_replies (changes_of name between.noted)) before after
    → AnswersRequest conn request going (poll_replies (changes_of name between.noted)) old new before after
poll_answered conn request name old between new before after lends state form limit tells sends = record {
  step = line_steps old new request More (poll_replies (changes_of name between.noted))
      (λ plain valid lent. poll_step old between new name plain state form limit tells (lends_poll request name plain lends lent))
      (λ plain lent. ap ending_of (lends_poll request name plain lends lent));
  sends = sends;
  form = tells.form ∙ form;
  limit = tells.limit ∙ limit;
  number =
      let same : new.state.number ≡ old.state.number = ap (λ (s : MachineState). s.number) tells.rest ∙ ap (λ (s : MachineState). s.number) state in
      omega (arith, same);
}

-- a confirm lends a confirm of its ticket
pub lends_confirm : (ticket : Ticket) (P : PlainRequest → Type 0) → P (confirm ticket)
    → (plain : PlainRequest) → LendsRequest (Confirm ticket) plain → P plain
lends_confirm ticket P p (confirm other) lends = subst (λ (t : Ticket). P (confirm t)) lends p
lends_confirm ticket P p _ lends = absurd lends

-- a confirm is answered
abbrev pub confirm_answered : (conn : ℕ) (ticket : Ticket) (reply : Reply) (old new : Core)
    (before after : WireState)
    → Does old (confirm ticket) reply new → SendsAll conn (reply ∷ []) before after
    → AnswersRequest conn (Confirm ticket) going (reply ∷ []) old new before after
confirm_answered conn ticket reply old new before after does sends = record {
  step = λ plain valid lends.
      lends_confirm ticket (λ plain. IsRequest plain → (bytes : List ℕ) → words_of bytes ≡ request_words plain
      → ItemStep old.form old.limit old.state (line bytes) (reply ∷ []) new.state going)
      (λ right bytes same. requested (confirm ticket) right same does.step) plain lends valid;
  sends = sends;
  form = does.form;
  limit = does.limit;
  number = number_rises (step_reserves does.step);
}

-- a confirm failed
abbrev pub confirm_failed : (conn : ℕ) (ticket : Ticket) (a : PlainAction) (deadline : ℕ) (reply : Reply)
    (old new : Core) (before after : WireState)
    → old.state.slot ≡ Held ticket a deadline → old.state.moment < deadline → new ≡ old → reply ≡ disk
    → SendsAll conn (reply ∷ []) before after
    → AnswersRequest conn (Confirm ticket) (failed (Some ticket, a)) (disk ∷ []) old new before after
confirm_failed conn ticket a deadline reply old new before after held open_still same is sends = record {
  step = λ plain valid lends.
      lends_confirm ticket (λ plain. IsRequest plain → (bytes : List ℕ) → words_of bytes ≡ request_words plain
      → ItemStep old.form old.limit old.state (line bytes) (disk ∷ []) new.state (failed (Some ticket, a)))
      (λ right bytes reads. subst (λ (core : Core). ItemStep old.form old.limit old.state (line bytes) (disk ∷ []) core.state (failed (Some ticket, a))) (sym same)
      (disk_failed right reads held open_still)) plain lends valid;
  sends = subst (λ r. SendsAll conn (r ∷ []) before after) is sends;
  form = ap (λ (core : Core). core.form) same;
  limit = ap (λ (core : Core). core.limit) same;
  number = let n : new.state.number ≡ old.state.number = ap (λ (core : Core). core.state.number) same in omega (arith, n);
}

-- a line that is a request is answered
abbrev pub line_answered : (conn : ℕ) (bytes : List ℕ) (request : Request) (ending : Ending) (replies : List Reply)
    (old new : Core) (before after : WireState)
    → Reads (words_of bytes) request → AnswersRequest conn request ending replies old new before after
    → AnswersItem conn (line bytes) ending replies old new before after
line_answered conn bytes request ending replies old new before after reads answers = record {
  step = answers.step reads.plain reads.valid reads.lends bytes reads.same;
  sends = answers.sends;
  form = answers.form;
  limit = answers.limit;
  number = answers.number;
}

-- a line that is no request is refused
abbrev pub line_refused : (conn : ℕ) (bytes : List ℕ) (code : ℕ) (told : Reply) (core : Core)
    (before after : WireState)
    → IsRequestFault (words_of bytes) code → told ≡ reply.Refused code 0 → SendsAll conn (told ∷ []) before after
    → AnswersItem conn (line bytes) going (reply.Refused code 0 ∷ []) core core before after
line_refused conn bytes code told core before after fault is sends = record {
  step = refused fault;
  sends = subst (λ r. SendsAll conn (r ∷ []) before after) is sends;
  form = refl;
  limit = refl;
  number = omega arith;
}

-- a line that is too long is refused
abbrev pub long_line_refused : (conn : ℕ) (told : Reply) (core : Core) (before after : WireState)
    → told ≡ reply.Refused 10 0 → SendsAll conn (told ∷ []) before after → AnswersItem conn too_long going (reply.Refused 10 0 ∷ []) core core before after
long_line_refused conn told core before after is sends = record {
  step = over_long;
  sends = subst (λ r. SendsAll conn (r ∷ []) before after) is sends;
  form = refl;
  limit = refl;
  number = omega arith;
}
