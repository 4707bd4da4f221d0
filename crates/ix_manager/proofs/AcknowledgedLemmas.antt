-- What is acknowledged, and what is sent, over calls one after the other.
use Rattle.std.proofs.Common.{◌≡◌, ◌⊎◌, ℕ, ◌≤◌, Bool, List, [], ◌∷◌, ◌++◌, length}
use Rattle.std.proofs.Common.{append_assoc, append-nil, Option, None, Some, IsSome, Result, Ok, Err}
use Rattle.std.proofs.Common.{true≢false, inl, inr, refl, sym, ◌∙◌, ap, subst, arith}
use Rattle.std.proofs.lemmas.List.{length-append, length-map}
use Rattle.std.specs.Option.{option_map}
use Rattle.std.specs.Prelude.{⊤}
use Rattle.ix_words.specs.Each.{Each, no_item, item}
use Rattle.ix_values.specs.PlainAction.{PlainAction}
use Rattle.ix_values.specs.declared.tickets.Ticket.{Ticket}
use Rattle.ix_journal.specs.History.{Spent}
use Rattle.ix_expr.specs.Form.{Form}
use Rattle.ix_outside.specs.Contents.{Contents, SentBytes, Sends, SendsBytes, with_pair, with_gone}
use Rattle.ix_outside.specs.Crashes.{Crashes, AreLawful, Elapses, OneCall}
use Rattle.ix_outside.specs.SiteState.{SiteState}
use Rattle.ix_outside.specs.inside.DiskCalls.{DiskCalls, span}
use Rattle.ix_proto.specs.Requests as request
use Rattle.ix_proto.specs.Requests.{PlainRequest}
use Rattle.ix_proto.specs.declared.reply.Outcome.TheVariants as became
use Rattle.ix_proto.specs.declared.reply.Reply.{Reply}
use Rattle.ix_proto.specs.declared.reply.Reply.TheVariants.{Confirmed, Entry, Outcome}
use Rattle.ix_manager.specs.Machine as machine
use Rattle.ix_manager.specs.Machine.{MachineState, MachineWatch, Step, Polls, count}
use Rattle.ix_manager.specs.Acknowledged as acked
use Rattle.ix_manager.specs.Acknowledged.{IsAcknowledged, TellsNumber}
use Rattle.ix_manager.specs.inside.Acknowledging.{IsSentBetween, SendsMore}
use Rattle.ix_manager.specs.inside.Core.{change_replies}
use Rattle.ix_manager.proofs.SendLemmas.{not_told, some_is}

-- an optional value that is there
pub the_value : {A : Type 0} (told : Option A) → IsSome told → (value : A) × (told ≡ Some value)
the_value None is = absurd (true≢false (sym is))
the_value (Some value) is = (value, refl)

pub is_there : {A : Type 0} (told : Option A) (value : A) → told ≡ Some value → IsSome told
is_there told value is = subst (λ t. IsSome t) (sym is) refl

-- the first reply tells of this action, and the pair has a byte of it
abbrev IsFirst : ℕ → Reply → SentBytes → Type 0
IsFirst n reply pair = TellsNumber n reply
    × ((replies : List Reply) (pairs : List SentBytes)
    → IsAcknowledged n (reply ∷ replies) (pair ∷ pairs))

first_or_later : {n : ℕ} {reply : Reply} {pair : SentBytes} {replies : List Reply}
    {pairs : List SentBytes}
    → IsAcknowledged n (reply ∷ replies) (pair ∷ pairs) → IsFirst n reply pair
    ⊎ IsAcknowledged n replies pairs
first_or_later (acked.first conn byte bytes tells) =
    inl (tells, λ replies pairs. acked.first conn byte bytes tells)
first_or_later (acked.later rest) = inr rest

-- where nothing was sent nothing was acknowledged
pub none_sent : {n : ℕ} {replies : List Reply} → IsAcknowledged n replies [] → ⊥
none_sent is = elim is [ ]

-- the one reply that acknowledged an action
pub one_acknowledged : {n : ℕ} {reply : Reply} {pairs : List SentBytes}
    → IsAcknowledged n (reply ∷ []) pairs → TellsNumber n reply
one_acknowledged (acked.first conn byte bytes tells) = tells
one_acknowledged (acked.later rest) = absurd (no_reply rest)
  where
    no_reply : {n : ℕ} {pairs : List SentBytes} → IsAcknowledged n [] pairs → ⊥
    no_reply is = elim is [ ]

-- where no more was sent than these replies, the others behind them acknowledge nothing
pub acknowledged_front : {n : ℕ} (replies others : List Reply) (pairs : List SentBytes)
    → length pairs ≤ length replies
    → IsAcknowledged n (replies ++ others) pairs → IsAcknowledged n replies pairs
acknowledged_front replies others [] few is = absurd (none_sent is)
acknowledged_front [] others (pair ∷ pairs) few is = absurd (omega arith)
acknowledged_front (reply ∷ replies) others (pair ∷ pairs) few is = elim (first_or_later is) [
  | inl first ↦ first.1 replies pairs
  | inr rest ↦ acked.later (acknowledged_front replies others pairs (omega arith) rest)
]

-- replies behind others acknowledge no less
pub acknowledged_more : {n : ℕ} {replies : List Reply} {pairs : List SentBytes}
    (others : List Reply)
    → IsAcknowledged n replies pairs → IsAcknowledged n (replies ++ others) pairs
acknowledged_more others (acked.first conn byte bytes tells) = acked.first conn byte bytes tells
acknowledged_more others (acked.later rest) = acked.later (acknowledged_more others rest)

-- of two lists of replies, the first of which was sent to its end, one acknowledges it
pub acknowledged_split : {n : ℕ} (replies others : List Reply) (pairs more : List SentBytes)
    → length pairs ≡ length replies
    → IsAcknowledged n (replies ++ others) (pairs ++ more) → IsAcknowledged n replies pairs
    ⊎ IsAcknowledged n others more
acknowledged_split [] others [] more same is = inr is
acknowledged_split [] others (pair ∷ pairs) more same is = absurd (omega arith)
acknowledged_split (reply ∷ replies) others [] more same is = absurd (omega arith)
acknowledged_split (reply ∷ replies) others (pair ∷ pairs) more same is = elim (first_or_later is) [
  | inl first ↦ inl (first.1 replies pairs)
  | inr rest ↦ elim (acknowledged_split replies others pairs more (omega arith) rest) [
    | inl before ↦ inl (acked.later before)
    | inr behind ↦ inr behind
  ]
]

-- the reply tells of no action but one of the first so many
abbrev pub TellsWithin : ℕ → Reply → Type 0
TellsWithin most (Confirmed number) = number ≤ most
TellsWithin most (Outcome (became.Confirmed place)) = place ≤ most
TellsWithin most (Entry number a) = number ≤ most
TellsWithin most _ = ⊤

told_within : (n most : ℕ) (reply : Reply) → TellsNumber n reply → TellsWithin most reply → n ≤ most
told_within n most (Confirmed number) tells within = omega (arith, tells, within)
told_within n most (Outcome (became.Confirmed place)) tells within = omega (arith, tells, within)
told_within n most (Entry number a) tells within = omega (arith, tells, within)
told_within n most _ tells within = absurd tells

-- such replies acknowledge no other action
pub acknowledged_within : {n most : ℕ} {replies : List Reply} {pairs : List SentBytes}
    → Each (TellsWithin most) replies → IsAcknowledged n replies pairs → n ≤ most
acknowledged_within no_item is = elim is [ ]
acknowledged_within {n = n} {most = most} (item {a = reply} within others)
    (acked.first conn byte bytes tells) = told_within n most reply tells within
acknowledged_within (item within others) (acked.later rest) = acknowledged_within others rest

polls_within : {most : ℕ} {allowed : PlainAction → Type 0} {name : List ℕ}
    {watches after : List MachineWatch} {changes : List Reply}
    → Polls allowed name watches changes after → Each (TellsWithin most) changes
polls_within machine.done = no_item
polls_within (machine.other isnt polls) = polls_within polls
polls_within (machine.same is tells polls) = polls_within polls
polls_within (machine.changed is tells polls) = item tt (polls_within polls)

-- a step that leaves the history as long as it was tells of no action that isn't in it
pub answered_within : {x : Form} {limit : ℕ} {s after : MachineState} {asked : PlainRequest}
    {replies : List Reply}
    → Step x limit s asked replies after → length after.history ≡ length s.history
    → Each (TellsWithin (count s)) replies
answered_within {s = s} (machine.confirmed {ticket = ticket} a deadline held open_still) same =
    let longer = length-append s.history ((Some ticket, a) ∷ []) in absurd (omega arith)
answered_within (machine.outcome_confirmed {ticket = ticket} before behind a split place) same =
    let all = ap length split in
    let parts = length-append before ((Some ticket, a) ∷ behind) in
    item (omega (arith, all, parts, place)) no_item
answered_within {s = s} (machine.entry {a = a} before behind split place above) same =
    let all = ap length split in
    let parts = length-append before (a ∷ behind) in
    let actions = length-map s.history (λ (spent : Spent). spent.1) in
    item (omega (arith, all, parts, actions, place)) no_item
answered_within (machine.polled polls) same = item tt (polls_within polls)
answered_within _ same = item tt no_item

-- the replies that tell changes
pub changes_within : (most : ℕ) (changes : List (PlainAction × Bool))
    → Each (TellsWithin most) (change_replies changes)
changes_within most [] = no_item
changes_within most (change ∷ changes) = item tt (changes_within most changes)

-- a confirm that was confirmed tells the count then
pub confirmed_number : {x : Form} {limit n : ℕ} {ticket : Ticket} {s after : MachineState} {one : Reply}
    → Step x limit s (request.confirm ticket) (one ∷ []) after → TellsNumber n one
    → n ≤ count after
confirmed_number {ticket = ticket} {s = s} (machine.confirmed a deadline held open_still) number =
    let longer = length-append s.history ((Some ticket, a) ∷ []) in omega (arith, number, longer)
confirmed_number (machine.confirm_expired has isnt) tells = absurd tells
confirmed_number (machine.confirm_no_such isnt) tells = absurd tells

-- all that was sent before, and nothing more
pub between_none : (before after : List SentBytes) → length before ≤ length after
    → IsSentBetween before after before
between_none before after le =
    record { more = []; behind = sym (append-nil before); no_longer = le }

-- what stands between also does behind further sends
pub between_earlier : (before mid after sent : List SentBytes) → length mid ≤ length after
    → IsSentBetween before mid sent → IsSentBetween before after sent
between_earlier before mid after sent le is = let short = is.no_longer in
    record { more = is.more; behind = is.behind; no_longer = omega arith }

-- and from further before
pub between_later : (before mid after sent : List SentBytes) (first : List SentBytes)
    → mid ≡ before ++ first
    → IsSentBetween mid after sent → IsSentBetween before after sent
between_later before mid after sent first longer is = record {
  more = first ++ is.more;
  behind = is.behind ∙ ap (λ pairs. pairs ++ is.more) longer ∙ append_assoc before first is.more;
  no_longer = is.no_longer;
}

pub between_length : (before after sent : List SentBytes) → IsSentBetween before after sent
    → length before ≤ length sent
between_length before after sent is =
    let count = ap length is.behind ∙ length-append before is.more in omega (arith, count)

-- no call
pub more_none : (site : SiteState) (crashes : Crashes) → AreLawful site crashes
    → SendsMore (span site site crashes crashes)
more_none site crashes lawful = record {
  told = λ told. told;
  all = λ s s' told told'.
      let same : s'.sent ≡ s.sent = ap (λ (t : Sends). t.sent) (some_is (sym told' ∙ told)) in
      subst (λ sent. IsSentBetween s.sent sent sent) (sym same)
      (between_none s.sent s.sent (omega arith));
  by_then = λ s s' told told' left since.
      let same : s'.sent ≡ s.sent = ap (λ (t : Sends). t.sent) (some_is (sym told' ∙ told)) in
      let all : left.sent ≡ s.sent = ((lawful.since_now s told left.image left.sent).0 since).1 in
      subst (λ sent. IsSentBetween s.sent s'.sent sent) (sym all)
      (subst (λ sent. IsSentBetween s.sent sent s.sent) (sym same)
      (between_none s.sent s.sent (omega arith)));
}

-- over a site that tells no sends
pub more_untold : (old new : SiteState) (was is : Crashes) → new.contents.sends ≡ None
    → SendsMore (span old new was is)
more_untold old new was is untold = record {
  told = λ told.
      let P : Option Sends → Type 0 = λ t. IsSome t in
      let nothing : P None = subst P untold told in absurd (true≢false (sym nothing));
  all = λ s s' told told'. absurd (not_told untold told');
  by_then = λ s s' told told' left since. absurd (not_told untold told');
}

-- one call of which is known what it sent
pub more_call : (old new : SiteState) (was is : Crashes) → OneCall (span old new was is)
    → (IsSome new.contents.sends → IsSome old.contents.sends)
    → ((s s' : Sends) → old.contents.sends ≡ Some s → new.contents.sends ≡ Some s'
    → IsSentBetween s.sent s'.sent s'.sent)
    → SendsMore (span old new was is)
more_call old new was is call told all = record {
  told = told;
  all = all;
  by_then = λ s s' told told' left since.
      let longer = between_length s.sent s'.sent s'.sent (all s s' told told') in
      elim (call.sent s s' told told' left since) [
        | inl same ↦ subst (λ sent. IsSentBetween s.sent s'.sent sent) (sym same)
            (between_none s.sent s'.sent longer)
        | inr front ↦
            let whole = ap length front.whole
            ∙ length-append s.sent (record { conn = front.conn; bytes = front.bytes } ∷ []) in
            let part = ap length front.part
            ∙ length-append s.sent (record { conn = front.conn; bytes = front.front } ∷ []) in
            record {
              more = record { conn = front.conn; bytes = front.front } ∷ [];
              behind =
                  front.part;
              no_longer = omega (arith, whole, part);
            }
      ];
}

told_map : (f : Sends → Sends) (sends : Option Sends) → IsSome (option_map f sends) → IsSome sends
told_map f None told = told
told_map f (Some sends) told = refl

mapped : (f : Sends → Sends) (old new : Option Sends) → new ≡ option_map f old → IsSome new
    → IsSome old
mapped f old new is told = told_map f old (subst (λ t. IsSome t) is told)

-- a send is told only where the sends before it were
pub sent_told : {T E : Type 0} (conn : ℕ) (bytes : List ℕ) (result : Result T E)
    (old new : Contents)
    → SendsBytes conn bytes result old new → IsSome new.sends → IsSome old.sends
sent_told conn bytes (Ok value) old new goes told =
    mapped (with_pair conn bytes) old.sends new.sends goes.sends told
sent_told conn bytes (Err fault) old new part told = elim part.sends [
  | inl front ↦ mapped (with_gone conn front.front) old.sends new.sends front.sends told
  | inr isnt ↦
      let P : Option Sends → Type 0 = λ t. IsSome t in
      let untold : P None = subst P isnt told in absurd (true≢false (sym untold))
]

-- a send adds one to the sends
one_more : (s s' : Sends) (pair : SentBytes) → s'.sent ≡ s.sent ++ pair ∷ []
    → IsSentBetween s.sent s'.sent s'.sent
one_more s s' pair is = record { more = pair ∷ []; behind = is; no_longer = omega arith }

pub sent_more : {T E : Type 0} (conn : ℕ) (bytes : List ℕ) (result : Result T E)
    (old new : Contents) (s s' : Sends)
    → SendsBytes conn bytes result old new → old.sends ≡ Some s → new.sends ≡ Some s'
    → IsSentBetween s.sent s'.sent s'.sent
sent_more conn bytes (Ok value) old new s s' goes told told' =
    let now = goes.sends ∙ ap (option_map (with_pair conn bytes)) told in
    one_more s s' (record { conn = conn; bytes = bytes })
    (ap (λ (t : Sends). t.sent) (some_is (sym told' ∙ now)))
sent_more conn bytes (Err fault) old new s s' part told told' = elim part.sends [
  | inl front ↦
      let now = front.sends ∙ ap (option_map (with_gone conn front.front)) told in
      one_more s s' (record { conn = conn; bytes = front.front })
      (ap (λ (t : Sends). t.sent) (some_is (sym told' ∙ now)))
  | inr isnt ↦ absurd (not_told isnt told')
]

-- calls of the disk send nothing
pub more_disk : (old new : SiteState) (was is : Crashes) → DiskCalls (span old new was is)
    → SendsMore (span old new was is)
more_disk old new was is calls = record {
  told = λ told. subst (λ (c : Contents). IsSome c.sends) calls.rest.contents told;
  all = λ s s' told told'.
      let same : s'.sent ≡ s.sent = ap (λ (t : Sends). t.sent)
      (some_is (sym told' ∙ ap (λ (c : Contents). c.sends) calls.rest.contents ∙ told)) in
      subst (λ sent. IsSentBetween s.sent sent sent) (sym same)
      (between_none s.sent s.sent (omega arith));
  by_then = λ s s' told told' left since.
      let same : s'.sent ≡ s.sent = ap (λ (t : Sends). t.sent)
      (some_is (sym told' ∙ ap (λ (c : Contents). c.sends) calls.rest.contents ∙ told)) in
      let longer : length s.sent ≤ length s'.sent = let count = ap length same in
      omega (arith, count) in
      subst (λ sent. IsSentBetween s.sent s'.sent sent) (sym (calls.sent s told left since))
      (between_none s.sent s'.sent longer);
}

-- two stretches
pub more_join : (a b c : SiteState) (p q r : Crashes) → a.tick ≤ b.tick
    → Elapses b.tick c.tick q.left_since r.left_since
    → SendsMore (span a b p q) → SendsMore (span b c q r) → SendsMore (span a c p r)
more_join a b c p q r le passes first second = record {
  told = λ told. first.told (second.told told);
  all = λ s s' told told'.
      let mid = the_value b.contents.sends (second.told (is_there c.contents.sends s' told')) in
      let one = first.all s mid.0 told mid.1 in
      between_later s.sent mid.0.sent s'.sent s'.sent one.more one.behind
      (second.all mid.0 s' mid.1 told');
  by_then = λ s s' told told' left since.
      let mid = the_value b.contents.sends (second.told (is_there c.contents.sends s' told')) in
      let one = first.all s mid.0 told mid.1 in
      elim (passes.nothing_else a.tick left le since) [
        | inl earlier ↦
            between_earlier s.sent mid.0.sent s'.sent left.sent
            (between_length mid.0.sent s'.sent s'.sent (second.all mid.0 s' mid.1 told'))
            (first.by_then s mid.0 told mid.1 left earlier)
        | inr since_mid ↦
            between_later s.sent mid.0.sent s'.sent left.sent one.more one.behind
            (second.by_then mid.0 s' mid.1 told' left since_mid)
      ];
}
