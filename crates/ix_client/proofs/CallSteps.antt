-- The step of a request, and what it makes of a manager.
use Rattle.std.proofs.Common.{◌≡◌, ℕ, ◌<◌, List, [], ◌∷◌, Some, refl, sym, ◌∙◌, ap, subst}
use Rattle.ix_values.specs.PlainAction.{PlainAction}
use Rattle.ix_values.specs.Laws.{TextsTellTicketsApart}
use Rattle.ix_values.specs.declared.tickets.Ticket.{Ticket}
use Rattle.ix_expr.specs.Form.{Form}
use Rattle.ix_lease.specs.declared.Slot.TheVariants.{Held}
use Rattle.ix_lines.specs.Items.{Item, line}
use Rattle.ix_lines.specs.Words.{words_of}
use Rattle.ix_proto.specs.Requests.{PlainRequest, ask, confirm, cancel, outcome, IsRequest, request_words}
use Rattle.ix_proto.specs.RequestFaults.{IsRequestFault}
use Rattle.ix_proto.specs.declared.reply.Reply.{Reply}
use Rattle.ix_proto.proofs.FaultLemmas.{faults_tell_no_request}
use Rattle.ix_manager.specs.Machine as machine
use Rattle.ix_manager.specs.Machine.{MachineState, Step, next_ticket}
use Rattle.ix_manager.specs.Refusals.{disk}
use Rattle.ix_manager.specs.Runs.{Ending, going, failed, ending_of, ItemStep, Steps, requested, refused, over_long, disk_failed, none, last, more}
use Rattle.ix_client.specs.Links.{IsOfTickets}
use Rattle.ix_client.proofs.RequestsApart.{requests_apart}

-- what the item of a request's line makes: its step, or where the disk failed nothing
pub data Went (x : Form) (limit : ℕ) (s : MachineState) (asked : PlainRequest) (replies : List Reply) (u : MachineState) (ending : Ending)
    : Type 0 where
  stepped : (first : Reply) → replies ≡ first ∷ [] → Step x limit s asked (first ∷ []) u → ending ≡ going
      → Went x limit s asked replies u ending
  stopped_by_disk : (ticket : Ticket) (a : PlainAction) (deadline : ℕ) → asked ≡ confirm ticket → replies ≡ disk ∷ []
      → s.slot ≡ Held ticket a deadline → s.moment < deadline → u ≡ s → ending ≡ failed (Some ticket, a)
      → Went x limit s asked replies u ending

-- a request of a ticket has one reply
one_reply : {x : Form} {limit : ℕ} {s u : MachineState} {asked : PlainRequest} {replies : List Reply}
    → Step x limit s asked replies u → IsOfTickets asked → (first : Reply) × (replies ≡ first ∷ [])
one_reply (machine.busy held ticket is before) kind = (_, refl)
one_reply (machine.not_permitted shut not_so) kind = (_, refl)
one_reply (machine.full shut may is) kind = (_, refl)
one_reply (machine.large shut may room above) kind = (_, refl)
one_reply (machine.granted shut may) kind = (_, refl)
one_reply (machine.ask_memory shut may room) kind = (_, refl)
one_reply (machine.confirmed a deadline held before) kind = (_, refl)
one_reply (machine.confirm_expired has shut) kind = (_, refl)
one_reply (machine.confirm_no_such not_so) kind = (_, refl)
one_reply (machine.cancelled a deadline held before) kind = (_, refl)
one_reply (machine.cancel_expired has shut) kind = (_, refl)
one_reply (machine.cancel_no_such not_so) kind = (_, refl)
one_reply (machine.outcome_confirmed before behind a parts place) kind = (_, refl)
one_reply (machine.outcome_open absent is) kind = (_, refl)
one_reply (machine.outcome_no_such absent not_so un) kind = (_, refl)
one_reply (machine.outcome_left_out absent not_so un before) kind = (_, refl)
one_reply (machine.outcome_never absent not_so un later) kind = (_, refl)
one_reply _ kind = absurd kind

no_end_of : (asked : PlainRequest) → IsOfTickets asked → ending_of asked ≡ going
no_end_of (ask a lease) kind = refl
no_end_of (confirm ticket) kind = refl
no_end_of (cancel ticket) kind = refl
no_end_of (outcome ticket) kind = refl
no_end_of _ kind = absurd kind

same_bytes : (b c : List ℕ) → line b ≡ line c → b ≡ c
same_bytes b c e = cc

module _ (apart : TextsTellTicketsApart) (x : Form) (limit : ℕ) (asked : PlainRequest) (kind : IsOfTickets asked) (valid : IsRequest asked)
    (bytes : List ℕ) (words : words_of bytes ≡ request_words asked) where
  item_went : {s u : MachineState} {it : Item} {replies : List Reply} {ending : Ending}
      → ItemStep x limit s it replies u ending → it ≡ line bytes → Went x limit s asked replies u ending
  item_went {s = s} {u = u} (requested {bytes = b} other {replies = replies} is said step) same =
      let read : asked ≡ other =
      requests_apart apart asked other kind valid is (sym words ∙ ap words_of (sym (same_bytes b bytes same)) ∙ said) in
      let mine : Step x limit s asked replies u = subst (λ r. Step x limit s r replies u) (sym read) step in
      let one = one_reply mine kind in
      stepped one.0 one.1 (subst (λ rs. Step x limit s asked rs u) one.1 mine) (ap ending_of (sym read) ∙ no_end_of asked kind)
  item_went (refused {bytes = b} {code = code} fault) same =
      absurd (faults_tell_no_request asked code valid
      (subst (λ ws. IsRequestFault ws code) (ap words_of (same_bytes b bytes same) ∙ words) fault))
  item_went over_long same = absurd (let never = same in cc)
  item_went (disk_failed {bytes = b} {ticket = ticket} {deadline = deadline} {a = a} is said held before) same =
      stopped_by_disk ticket a deadline
      (requests_apart apart asked (confirm ticket) kind valid is (sym words ∙ ap words_of (sym (same_bytes b bytes same)) ∙ said))
      refl held before refl refl

  -- one line is one item
  pub line_went : {s u : MachineState} {its : List Item} {answers : List (List Reply)} {ending : Ending}
      → Steps x limit s its answers u ending → its ≡ line bytes ∷ []
      → (replies : List Reply) × (answers ≡ replies ∷ []) × Went x limit s asked replies u ending
  line_went none same = absurd (let never = same in cc)
  line_went (last {item = it} {others = others} {replies = replies} step ends) same =
      (replies, refl, item_went step (let is : it ≡ line bytes = cc in is))
  line_went {s = s} (more {item = it} {others = others} {replies = replies} {answers = answers} step rest) same =
      let is : it ≡ line bytes = cc in
      let end : others ≡ [] = cc in
      by_rest end rest step is
    where
      by_rest : {between u : MachineState} {others : List Item} {replies : List Reply} {answers : List (List Reply)} {ending : Ending} {it : Item}
          → others ≡ [] → Steps x limit between others answers u ending → ItemStep x limit s it replies between going → it ≡ line bytes
          → (rs : List Reply) × ((replies ∷ answers) ≡ rs ∷ []) × Went x limit s asked rs u ending
      by_rest {replies = replies} end none step is = (replies, refl, item_went step is)
      by_rest end (last _ _) step is = absurd (let never = end in cc)
      by_rest end (more _ _) step is = absurd (let never = end in cc)
