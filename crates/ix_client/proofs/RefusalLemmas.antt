-- An ask that was refused is refused so again.
use Rattle.std.proofs.Common.{◌≡◌, ◌⊎◌, inl, inr, ℕ, ◌<◌, ◌==◌, true, false, List, [], ◌∷◌, ◌++◌, length, Some, Result, Ok, Err, refl, sym, ◌∙◌, ap, subst, arith, if◌then◌else◌}
use Rattle.std.specs.Bool.{⊤}
use Rattle.std.proofs.lemmas.List.{length-map}
use Rattle.ix_values.specs.PlainAction.{PlainAction}
use Rattle.ix_values.specs.declared.tickets.Ticket.{Ticket}
use Rattle.ix_expr.specs.Form.{Form}
use Rattle.ix_can.specs.TreeOf.{tree_size}
use Rattle.ix_engine.specs.Allowed.{IsPermitted}
use Rattle.ix_lease.specs.Slots.{IsOpenAt}
use Rattle.ix_lease.specs.declared.Slot.TheVariants.{Held}
use Rattle.ix_proto.specs.Requests as request
use Rattle.ix_proto.specs.Requests.{PlainRequest}
use Rattle.ix_proto.specs.declared.reply.Reply.{Reply}
use Rattle.ix_proto.specs.declared.reply.Reply.TheVariants as reply
use Rattle.ix_manager.specs.Machine.{MachineState, Step, word_of, busy, not_permitted, full, large, granted, ask_memory}
use Rattle.ix_manager.specs.Refusals.{no_memory}
use Rattle.ix_manager.proofs.TicketLemmas.{open_until}
use Rattle.ix_client.specs.Client.{ends_with}
use Rattle.ix_client.specs.ClientLaws.{RefusalsLast}
use Rattle.ix_client.specs.Grant.{Grant}
use Rattle.ix_client.specs.Grants.{Heard, asked_by, is_refusal_of_ask, refused_by}
use Rattle.ix_client.specs.Hearing.{Asks, ComesOf}
use Rattle.ix_client.specs.Laws.{IsToldOver}
use Rattle.ix_client.specs.Links.{GoesOn, LinkState, failed, stepped}
use Rattle.ix_client.specs.declared.ended.Ended.TheVariants as ended
use Rattle.ix_client.specs.declared.grants.AskFault.{AskFault}
use Rattle.ix_client.specs.declared.grants.AskFault.TheVariants as fault
use Rattle.ix_client.proofs.CauseLemmas.{if_cases}
use Rattle.ix_client.proofs.ClientCauses.{grant_from}
use Rattle.ix_client.proofs.ToldLemmas.{goes_on}

-- why a state refuses an action, by the code
pub data Refuses (x : Form) (limit : ℕ) (s : MachineState) (a : PlainAction) (code : ℕ) : Type 0 where
  is_busy : (ticket : Ticket) (held : PlainAction) (deadline : ℕ) → code ≡ 20 → s.slot ≡ Held ticket held deadline → s.moment < deadline
      → Refuses x limit s a code
  is_impossible : code ≡ 21 → (IsOpenAt s.slot s.moment → ⊥) → (IsPermitted x (word_of s) a → ⊥) → Refuses x limit s a code
  is_full : code ≡ 23 → (IsOpenAt s.slot s.moment → ⊥) → IsPermitted x (word_of s) a → length s.history ≡ 1000000 → Refuses x limit s a code
  is_large : code ≡ 22 → (IsOpenAt s.slot s.moment → ⊥) → IsPermitted x (word_of s) a → length s.history < 1000000
      → limit < tree_size x (word_of s ++ a ∷ []) → Refuses x limit s a code

abbrev RefusedBy : Form → ℕ → MachineState → PlainRequest → List Reply → Type 0
RefusedBy x limit u (request.ask a lease) (reply.Refused code number ∷ others) = Refuses x limit u a code ⊎ (code ≡ 90)
RefusedBy x limit u _ _ = ⊤

-- the state behind a refusal refuses the action
step_refuses : {x : Form} {limit : ℕ} {s u : MachineState} {asked : PlainRequest} {replies : List Reply} → Step x limit s asked replies u
    → RefusedBy x limit u asked replies
step_refuses (busy {deadline = deadline} held ticket is before) = inl (is_busy ticket held deadline refl is before)
step_refuses (not_permitted shut none) = inl (is_impossible refl (λ e. e) none)
step_refuses (full shut may long) = inl (is_full refl (λ e. e) may long)
step_refuses (large shut may room above) = inl (is_large refl (λ e. e) may room above)
step_refuses (ask_memory shut may room) = inr refl
step_refuses _ = tt

-- the replies tell this code, or that memory ran out
abbrev IsRefusedWith : ℕ → List Reply → Type 0
IsRefusedWith code replies = ((number : ℕ) × (replies ≡ reply.Refused code number ∷ [])) ⊎ (replies ≡ no_memory ∷ [])

abbrev RefusesAgain : Form → ℕ → MachineState → PlainRequest → List Reply → Type 0
RefusesAgain x limit s (request.ask a lease) replies = (code : ℕ) → Refuses x limit s a code → IsRefusedWith code replies
RefusesAgain x limit s _ replies = ⊤

with_code : (told code number : ℕ) → code ≡ told → IsRefusedWith code (reply.Refused told number ∷ [])
with_code told code number is = inl (number, ap (λ c. reply.Refused c number ∷ []) (sym is))

module _ {P : Type 0} (s : MachineState) (ticket : Ticket) (held : PlainAction) (deadline : ℕ) where
  -- an open reservation
  open_still : s.slot ≡ Held ticket held deadline → s.moment < deadline → (IsOpenAt s.slot s.moment → ⊥) → P
  open_still is before shut = absurd (shut (open_until s.slot ticket held deadline s.moment is before))

refuses_again : {x : Form} {limit : ℕ} {s u : MachineState} {asked : PlainRequest} {replies : List Reply} → Step x limit s asked replies u
    → RefusesAgain x limit s asked replies
refuses_again {s = s} (busy {deadline = deadline} held ticket is before) = λ code refuses. elim refuses [
  | is_busy t h d same has open_now ↦ with_code 20 code deadline same
  | is_impossible same shut none ↦ open_still s ticket held deadline is before shut
  | is_full same shut may long ↦ open_still s ticket held deadline is before shut
  | is_large same shut may room above ↦ open_still s ticket held deadline is before shut
]
refuses_again {s = s} (not_permitted shut none) = λ code refuses. elim refuses [
  | is_busy t h d same has open_now ↦ open_still s t h d has open_now shut
  | is_impossible same closed never ↦ with_code 21 code 0 same
  | is_full same closed may long ↦ absurd (none may)
  | is_large same closed may room above ↦ absurd (none may)
]
refuses_again {s = s} (full shut may long) = λ code refuses. elim refuses [
  | is_busy t h d same has open_now ↦ open_still s t h d has open_now shut
  | is_impossible same closed none ↦ absurd (none may)
  | is_full same closed also all ↦ with_code 23 code 0 same
  | is_large same closed also room above ↦ absurd (omega (arith, long, room))
]
refuses_again {limit = limit} {s = s} (large shut may room above) = λ code refuses. elim refuses [
  | is_busy t h d same has open_now ↦ open_still s t h d has open_now shut
  | is_impossible same closed none ↦ absurd (none may)
  | is_full same closed also long ↦ absurd (omega (arith, long, room))
  | is_large same closed also more over ↦ with_code 22 code limit same
]
refuses_again {s = s} (granted shut allowed) = λ code refuses. elim refuses [
  | is_busy t h d same has open_now ↦ open_still s t h d has open_now shut
  | is_impossible same closed none ↦ absurd (none allowed.permitted)
  | is_full same closed also long ↦ let room = simp length-map at allowed.room in absurd (omega (arith, long, room))
  | is_large same closed also more over ↦ let within = allowed.within in absurd (omega (arith, over, within))
]
refuses_again (ask_memory shut may room) = λ code refuses. inr refl
refuses_again _ = tt

-- the ask's own refusal

refused_code : (code told : ℕ) → fault.Refused code ≡ refused_by told → (told ≡ code) × (is_refusal_of_ask told ≡ true)
refused_code code told is = elim (if_cases (is_refusal_of_ask told) (fault.Refused told) (if told == 90 then fault.Memory else fault.Odd) (fault.Refused code) is) [
  | inl holds ↦ let e = holds.1 in (cc, holds.0)
  | inr fails ↦ elim (if_cases (told == 90) fault.Memory fault.Odd (fault.Refused code) fails.1) [
    | inl holds ↦ let e = holds.1 in absurd cc
    | inr odd ↦ let e = odd.1 in absurd cc
  ]
]

no_memory_code : (code : ℕ) → code ≡ 90 → is_refusal_of_ask code ≡ true → ⊥
no_memory_code code is refusal = let e : is_refusal_of_ask code ≡ false = rw is refl in absurd (let no : true ≡ false = sym refusal ∙ e in cc)

asked_refuses : (a : PlainAction) (lease code : ℕ) (heard : Heard) (x : Form) (limit : ℕ) (s u : MachineState)
    → Err (fault.Refused code) ≡ asked_by a heard → ComesOf (request.ask a lease) heard x limit s u → Refuses x limit u a code
asked_refuses a lease code (Ok (Some (reply.Refused told number))) x limit s u is (stepped later step) =
    let same = refused_code code told (same_fault is) in
    elim (step_refuses step) [
      | inl refuses ↦ subst (Refuses x limit u a) same.0 refuses
      | inr memory ↦ absurd (no_memory_code told memory same.1)
    ]
  where
    same_fault : {v w : AskFault} → let left : Result Grant AskFault = Err v in left ≡ Err w → v ≡ w
    same_fault e = cc
asked_refuses a lease code (Ok (Some (reply.Refused told number))) x limit s u is (failed {ticket = other} is_confirm is_disk later) =
    absurd (let no_ask : request.ask a lease ≡ request.confirm other = is_confirm in cc)
asked_refuses a lease code _ x limit s u is comes = absurd cc

again_at : (a : PlainAction) (another code : ℕ) (x y : Form) (limit most : ℕ) (s u : MachineState) (replies : List Reply) → y ≡ x → most ≡ limit
    → Refuses x limit s a code → Step y most s (request.ask a another) replies u → IsRefusedWith code replies
again_at a another code x y limit most s u replies form limits refuses step =
    let same : Step x limit s (request.ask a another) replies u =
    subst (λ z. Step z limit s (request.ask a another) replies u) form (subst (λ z. Step y z s (request.ask a another) replies u) limits step) in
    refuses_again same code refuses

pub refusals_last : RefusalsLast
refusals_last old new before after a lease code over (Ok g, t, asks, (confirmed, v, confirms, goes)) another replies u step =
    absurd (grant_from confirmed (ended.Refused code) v new goes)
refusals_last old new before after a lease code over (Err why, t, asks, (is, same)) another replies u step =
    let told : Asks a lease (Err (fault.Refused code)) old t = subst (λ w. Asks a lease (Err w) old t) (refused_why why is) asks in
    let first : IsToldOver old t before after = record {
      before_is = over.before_is;
      after_is = subst (λ (w : LinkState). w.told ≡ Some after) same over.after_is;
      sound = over.sound;
    } in
    let goes : GoesOn (ComesOf (request.ask a lease) told.heard) before after = goes_on old t before after first told.hears in
    again_at a another code before.form after.form before.limit after.limit after.machine u replies goes.form goes.limit
    (asked_refuses a lease code told.heard before.form before.limit before.machine after.machine told.is goes.machine) step
  where
    refused_why : (why : AskFault) → ended.Refused code ≡ ends_with why → why ≡ fault.Refused code
    refused_why (fault.Refused other) e = cc
    refused_why fault.Memory e = absurd cc
    refused_why fault.Odd e = absurd cc
    refused_why fault.Link e = absurd cc
