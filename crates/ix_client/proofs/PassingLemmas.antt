-- What an event of a request's line makes of a manager over a site in memory.
use Rattle.std.proofs.Common.{◌≡◌, ◌⊎◌, inl, inr, ℕ, ◌+◌, ◌-◌, ◌^◌, ◌<◌, min, Bool, List, [], ◌∷◌, ◌++◌, length, set, get_or, codes, decimal, Some, None, refl, sym, ◌∙◌, ap, subst, append_assoc, arith}
use Rattle.std.specs.Prelude.{slice_get}
use Rattle.std.specs.Option.{option_map}
use Rattle.std.proofs.lemmas.List.{length-append}
use Rattle.std.proofs.lemmas.Option.{slice_get_read}
use Rattle.ix_values.specs.PlainAction.{PlainAction}
use Rattle.ix_values.specs.Tickets.{IsTicket, ticket_text}
use Rattle.ix_values.specs.declared.tickets.Ticket.{Ticket}
use Rattle.ix_expr.specs.Form.{Form}
use Rattle.ix_journal.specs.History.{PlainHistory, Spent}
use Rattle.ix_lease.specs.declared.Slot.TheVariants.{Free, Held}
use Rattle.ix_lines.specs.Cutting.{HasNoEnd}
use Rattle.ix_lines.proofs.WindowLemmas.{no_end-append}
use Rattle.ix_outside.specs.Contents.{Contents, SendsPart, SendsWhole, SentBytes, Sends, with_gone, with_pair}
use Rattle.ix_proto.specs.Replies.{IsRefusal, IsReply, reply_text}
use Rattle.ix_proto.specs.Requests.{PlainRequest, IsRequest}
use Rattle.ix_proto.specs.declared.reply.Reply.{Reply}
use Rattle.ix_proto.specs.declared.reply.Reply.TheVariants as reply
use Rattle.ix_manager.specs.Machine as machine
use Rattle.ix_manager.specs.Machine.{MachineState, Step, next_ticket, count}
use Rattle.ix_manager.specs.Refusals.{disk}
use Rattle.ix_manager.specs.Wire.{SendsInOrder, reply_line, silent, sent, lost, done}
use Rattle.ix_manager.proofs.SlotLemmas.{free_holds}
use Rattle.ix_client.specs.Links.{IsOfTickets}
use Rattle.ix_client.specs.inside.ManagerLinks.{HasTime}
use Rattle.ix_client.specs.inside.Passing.{EndsInLine}
use Rattle.ix_client.proofs.CallLines.{ends_there, number_plain, ticket_plain}

-- what is set at the front of a list to what stands there in an empty one
pub set_default : {A : Type 0} (xs : List A) (d : A) → get_or (set xs 0 d) 0 d ≡ d
set_default [] d = refl
set_default (x ∷ xs) d = refl

-- a reservation's deadline fits into 64 bits behind each step
freed : (s : MachineState) → HasTime (record s { slot = Free })
freed s = λ ticket a deadline is. free_holds ticket a deadline is

pub step_time : {x : Form} {limit : ℕ} {s u : MachineState} {asked : PlainRequest} {replies : List Reply}
    → Step x limit s asked replies u → HasTime s → HasTime u
step_time {s = s} (machine.not_permitted _ _) time = freed s
step_time {s = s} (machine.full _ _ _) time = freed s
step_time {s = s} (machine.large _ _ _ _) time = freed s
step_time {s = s} (machine.ask_memory _ _ _) time = freed s
step_time {s = s} (machine.cancelled _ _ _ _) time = freed s
step_time {s = s} (machine.confirmed _ _ _ _) time = λ ticket a deadline is. free_holds ticket a deadline is
step_time {s = s} (machine.granted {a = a} {lease = lease} _ _) time = λ ticket b deadline is.
    let same : min (s.moment + lease) (2 ^ 64 - 1) ≡ deadline = times is in omega (arith, same)
  where
    times : {t u : Ticket} {a b : PlainAction} {d e : ℕ} → Held t a d ≡ Held u b e → d ≡ e
    times is = cc
step_time _ time = time

-- a reply that can be told, whose text has no byte 10
pub record IsPlain (first : Reply) : Type 0 where
  pub valid : IsReply first
  pub plain : HasNoEnd (reply_text first)

code_plain : (code : ℕ) (text : List ℕ) → code < 2 ^ 64 → HasNoEnd text → HasNoEnd (codes "refused " ++ (decimal code ++ 32 ∷ text))
code_plain code text below none =
    no_end-append (codes "refused ") (decimal code ++ 32 ∷ text) refl
    (no_end-append (decimal code) (32 ∷ text) (number_plain code below) none)

refusal_plain : (code : ℕ) (text : List ℕ) → reply_text (reply.Refused code 0) ≡ codes "refused " ++ (decimal code ++ 32 ∷ text)
    → code < 2 ^ 8 → IsRefusal code 0 → HasNoEnd text → IsPlain (reply.Refused code 0)
refusal_plain code text is below refusal none = record {
  valid = (below, omega arith, refusal);
  plain = subst HasNoEnd (sym is) (code_plain code text (omega (arith, below)) none);
}

number_refusal : (code number : ℕ) (text : List ℕ) → reply_text (reply.Refused code number) ≡ codes "refused " ++ (decimal code ++ 32 ∷ (text ++ 32 ∷ decimal number))
    → code < 2 ^ 8 → number < 2 ^ 64 → IsRefusal code number → HasNoEnd text → IsPlain (reply.Refused code number)
number_refusal code number text is below fits refusal none = record {
  valid = (below, fits, refusal);
  plain = subst HasNoEnd (sym is) (code_plain code (text ++ 32 ∷ decimal number) (omega (arith, below))
      (no_end-append text (32 ∷ decimal number) none (number_plain number fits)));
}

-- what bounds the numbers that a request's step may tell
pub record HasBounds (limit : ℕ) (s : MachineState) : Type 0 where
  pub limits : limit < 2 ^ 64
  pub boot : s.boot < 2 ^ 64
  pub number : s.number < 2 ^ 64
  pub history : count s + 1 < 2 ^ 64
  pub time : HasTime s

not_permitted_plain : IsPlain (reply.Refused 21 0)
not_permitted_plain = refusal_plain 21 (codes "not permitted") refl (omega arith) (record { listed = refl; zero_else = λ e. refl }) refl

full_plain : IsPlain (reply.Refused 23 0)
full_plain = refusal_plain 23 (codes "full") refl (omega arith) (record { listed = refl; zero_else = λ e. refl }) refl

no_such_plain : IsPlain (reply.Refused 30 0)
no_such_plain = refusal_plain 30 (codes "no such ticket") refl (omega arith) (record { listed = refl; zero_else = λ e. refl }) refl

expired_plain : IsPlain (reply.Refused 31 0)
expired_plain = refusal_plain 31 (codes "expired") refl (omega arith) (record { listed = refl; zero_else = λ e. refl }) refl

left_out_plain : IsPlain (reply.Refused 32 0)
left_out_plain = refusal_plain 32 (codes "left out") refl (omega arith) (record { listed = refl; zero_else = λ e. refl }) refl

memory_plain : IsPlain (reply.Refused 90 0)
memory_plain = refusal_plain 90 (codes "memory") refl (omega arith) (record { listed = refl; zero_else = λ e. refl }) refl

pub disk_plain : IsPlain disk
disk_plain = refusal_plain 91 (codes "disk") refl (omega arith) (record { listed = refl; zero_else = λ e. refl }) refl

place_before : (history before behind : PlainHistory) (spent : Spent) → history ≡ before ++ spent ∷ behind → length before < length history
place_before history before behind spent is =
    let long = ap length is in let counts = length-append before (spent ∷ behind) in omega (arith, long, counts)

pub step_plain : {x : Form} {limit : ℕ} {s u : MachineState} {asked : PlainRequest} {replies : List Reply}
    → Step x limit s asked replies u → IsOfTickets asked → IsRequest asked → HasBounds limit s
    → (first : Reply) → replies ≡ first ∷ [] → IsPlain first
step_plain step kind valid bounds first is = by_step step kind valid bounds first is
  where
    head : {first other : Reply} → IsPlain first → first ∷ [] ≡ other ∷ [] → IsPlain other
    head {first = first} {other = other} plain is = let same : first ≡ other = cc in subst IsPlain same plain

    by_step : {x : Form} {limit : ℕ} {s u : MachineState} {asked : PlainRequest} {replies : List Reply}
        → Step x limit s asked replies u → IsOfTickets asked → IsRequest asked → HasBounds limit s
        → (first : Reply) → replies ≡ first ∷ [] → IsPlain first
    by_step {s = s} (machine.busy {deadline = deadline} held ticket slot before) kind valid bounds first is =
        head (number_refusal 20 deadline (codes "busy until") refl (omega arith) (bounds.time ticket held deadline slot)
        (record { listed = refl; zero_else = λ e. cc }) refl) is
    by_step (machine.not_permitted _ _) kind valid bounds first is = head not_permitted_plain is
    by_step (machine.full _ _ _) kind valid bounds first is = head full_plain is
    by_step {limit = limit} (machine.large _ _ _ _) kind valid bounds first is =
        head (number_refusal 22 limit (codes "large") refl (omega arith) bounds.limits (record { listed = refl; zero_else = λ e. cc }) refl) is
    by_step {s = s} (machine.granted _ _) kind valid bounds first is =
        let fits : IsTicket (next_ticket s) = record { boot = bounds.boot; seq = bounds.number } in
        head (record { valid = fits; plain = no_end-append (codes "granted ") (ticket_text (next_ticket s)) refl (ticket_plain (next_ticket s) fits) }) is
    by_step (machine.ask_memory _ _ _) kind valid bounds first is = head memory_plain is
    by_step {s = s} (machine.confirmed _ _ _ _) kind valid bounds first is =
        head (record { valid = bounds.history; plain = no_end-append (codes "confirmed ") (decimal (count s + 1)) refl (number_plain (count s + 1) bounds.history) }) is
    by_step (machine.confirm_expired _ _) kind valid bounds first is = head expired_plain is
    by_step (machine.confirm_no_such _) kind valid bounds first is = head no_such_plain is
    by_step (machine.cancelled {ticket = ticket} _ _ _ _) kind valid bounds first is =
        head (record { valid = valid; plain = no_end-append (codes "cancelled ") (ticket_text ticket) refl (ticket_plain ticket valid) }) is
    by_step (machine.cancel_expired _ _) kind valid bounds first is = head expired_plain is
    by_step (machine.cancel_no_such _) kind valid bounds first is = head no_such_plain is
    by_step {s = s} (machine.outcome_confirmed {ticket = ticket} {place = place} before behind a parts at) kind valid bounds first is =
        let most = place_before s.history before behind (Some ticket, a) parts in
        let room = bounds.history in
        let fits : place < 2 ^ 64 = omega (arith, most, room, at) in
        head (record {
          valid = fits;
          plain = no_end-append (codes "outcome ") (codes "confirmed " ++ decimal place) refl
              (no_end-append (codes "confirmed ") (decimal place) refl (number_plain place fits));
        }) is
    by_step (machine.outcome_open _ _) kind valid bounds first is = head (record { valid = tt; plain = refl }) is
    by_step (machine.outcome_no_such _ _ _) kind valid bounds first is = head no_such_plain is
    by_step (machine.outcome_left_out _ _ _ _) kind valid bounds first is = head left_out_plain is
    by_step (machine.outcome_never _ _ _ _) kind valid bounds first is = head (record { valid = tt; plain = refl }) is
    by_step _ kind valid bounds first is = absurd kind

-- one reply that is sent: nothing, itself or a front
one_sent : {S : Type 0} {whole front : Reply → S → S → Type 0} {first : Reply} {replies : List Reply} {marked marked' : Bool} {s u : S}
    → SendsInOrder whole front replies marked s marked' u → replies ≡ first ∷ []
    → (u ≡ s) ⊎ whole first s u ⊎ front first s u
one_sent done is = absurd (let never = is in cc)
one_sent {first = first} (silent {reply = r} {replies = rs} rest) is =
    let end : rs ≡ [] = cc in inl (none_sent rest end)
  where
    none_sent : {S : Type 0} {whole front : Reply → S → S → Type 0} {replies : List Reply} {marked marked' : Bool} {s u : S}
        → SendsInOrder whole front replies marked s marked' u → replies ≡ [] → u ≡ s
    none_sent done end = refl
    none_sent (silent _) end = absurd (let never = end in cc)
    none_sent (sent _ _) end = absurd (let never = end in cc)
    none_sent (lost _ _) end = absurd (let never = end in cc)
one_sent {whole = whole} {first = first} {s = s} (sent {reply = r} {replies = rs} {between = between} is_whole rest) is =
    let same : r ≡ first = cc in
    let end : rs ≡ [] = cc in
    inr (inl (subst (λ t. whole first s t) (sym (none_sent rest end)) (subst (λ t. whole t s between) same is_whole)))
  where
    none_sent : {S : Type 0} {whole front : Reply → S → S → Type 0} {replies : List Reply} {marked marked' : Bool} {s u : S}
        → SendsInOrder whole front replies marked s marked' u → replies ≡ [] → u ≡ s
    none_sent done end = refl
    none_sent (silent _) end = absurd (let never = end in cc)
    none_sent (sent _ _) end = absurd (let never = end in cc)
    none_sent (lost _ _) end = absurd (let never = end in cc)
one_sent {front = front} {first = first} {s = s} (lost {reply = r} {replies = rs} {between = between} is_front rest) is =
    let same : r ≡ first = cc in
    let end : rs ≡ [] = cc in
    inr (inr (subst (λ t. front first s t) (sym (none_sent rest end)) (subst (λ t. front t s between) same is_front)))
  where
    none_sent : {S : Type 0} {whole front : Reply → S → S → Type 0} {replies : List Reply} {marked marked' : Bool} {s u : S}
        → SendsInOrder whole front replies marked s marked' u → replies ≡ [] → u ≡ s
    none_sent done end = refl
    none_sent (silent _) end = absurd (let never = end in cc)
    none_sent (sent _ _) end = absurd (let never = end in cc)
    none_sent (lost _ _) end = absurd (let never = end in cc)

some_is : {A : Type 0} {x y : A} → Some x ≡ Some y → x ≡ y
some_is e = cc

some_none : {A : Type 0} {x : A} → Some x ≡ None → ⊥
some_none e = cc

at_end : (xs : List SentBytes) (x d : SentBytes) → get_or (xs ++ x ∷ []) (length xs) d ≡ x
at_end [] x d = refl
at_end (y ∷ xs) x d = at_end xs x d

-- the last of a list
last_of : (xs : List SentBytes) (x : SentBytes) → slice_get (xs ++ x ∷ []) (length (xs ++ x ∷ []) - 1) ≡ Some x
last_of xs x =
    let counts = length-append xs (x ∷ []) in
    let place : length (xs ++ x ∷ []) - 1 ≡ length xs = omega (arith, counts) in
    slice_get_read (xs ++ x ∷ []) (length (xs ++ x ∷ [])) (length (xs ++ x ∷ []) - 1) x refl (omega (arith, counts))
    (sym (ap (λ n. get_or (xs ++ x ∷ []) n x) place ∙ at_end xs x x))

-- the bytes of the pair that ends the sends
end_of : (before : Sends) (conn : ℕ) (bytes line : List ℕ) (count : ℕ) (after : Sends) → after.sent ≡ (with_pair conn bytes before).sent
    → EndsInLine count after line → bytes ≡ line ++ 10 ∷ []
end_of before conn bytes line count after is ends =
    let pair : SentBytes = record { conn = conn; bytes = bytes } in
    let found : slice_get after.sent (length after.sent - 1) ≡ Some pair =
    ap (λ (xs : List SentBytes). slice_get xs (length xs - 1)) is ∙ last_of before.sent pair in
    let same : ends.pair ≡ pair = some_is (sym ends.last ∙ found) in
    ap (λ (p : SentBytes). p.bytes) (sym same) ∙ ends.bytes

cancel_end : (xs ys : List ℕ) → xs ++ 10 ∷ [] ≡ ys ++ 10 ∷ [] → xs ≡ ys
cancel_end [] [] e = refl
cancel_end [] (y ∷ ys) e = absurd (let rest : [] ≡ ys ++ 10 ∷ [] = cc in never ys rest)
  where
    never : (ys : List ℕ) → [] ≡ ys ++ 10 ∷ [] → ⊥
    never [] e = cc
    never (y ∷ ys) e = cc
cancel_end (x ∷ xs) [] e = absurd (let rest : xs ++ 10 ∷ [] ≡ [] = cc in never xs rest)
  where
    never : (xs : List ℕ) → xs ++ 10 ∷ [] ≡ [] → ⊥
    never [] e = cc
    never (x ∷ xs) e = cc
cancel_end (x ∷ xs) (y ∷ ys) e =
    let first : x ≡ y = cc in
    let tails : xs ++ 10 ∷ [] ≡ ys ++ 10 ∷ [] = cc in
    let rest = cancel_end xs ys tails in
    λ i. first i ∷ rest i

-- the line that stands at the end of what was sent is the reply's
pub line_is : (first : Reply) (conn : ℕ) (replies : List Reply) (marked marked' : Bool) (before after : Contents) (old new : Sends) (line : List ℕ)
    → IsPlain first
    → SendsInOrder (λ r. SendsWhole conn (reply_line r)) (λ r. SendsPart conn (reply_line r)) replies marked before marked' after
    → replies ≡ first ∷ [] → before.sends ≡ Some old → after.sends ≡ Some new → EndsInLine (length old.sent) new line
    → reply_text first ≡ line
line_is first conn replies marked marked' before after old new line plain sends one was is ends = elim (one_sent sends one) [
  | inl same ↦
      let equal : new ≡ old = some_is (sym is ∙ ap (λ (c : Contents). c.sends) same ∙ was) in
      let long = ap (λ (s : Sends). length s.sent) equal in
      let more = ends.more in
      absurd (omega (arith, long, more))
  | inr (inl whole) ↦
      let equal : new ≡ with_pair conn (reply_line first) old =
      some_is (sym is ∙ whole.sends ∙ ap (option_map (with_pair conn (reply_line first))) was) in
      cancel_end (reply_text first) line (end_of old conn (reply_line first) line (length old.sent) new (ap (λ (s : Sends). s.sent) equal) ends)
  | inr (inr part) ↦ elim part.sends [
    | inl of ↦
        let equal : new ≡ with_gone conn of.front old = some_is (sym is ∙ of.sends ∙ ap (option_map (with_gone conn of.front)) was) in
        let front = end_of old conn of.front line (length old.sent) new (ap (λ (s : Sends). s.sent) equal) ends in
        let whole : line ++ 10 ∷ of.is_front.0 ≡ reply_text first ++ 10 ∷ [] =
        sym (append_assoc line (10 ∷ []) of.is_front.0) ∙ ap (λ (f : List ℕ). f ++ of.is_front.0) (sym front) ∙ of.is_front.1 in
        sym (ends_there line of.is_front.0 (reply_text first) plain.plain whole)
    | inr none ↦ absurd (some_none (sym is ∙ none))
  ]
]
