-- Over every link: where an answer isn't the expected one, a count rose.
use Rattle.std.proofs.Common.{◌≡◌, ◌≢◌, ◌⊎◌, inl, inr, ℕ, ◌≤◌, ◌==◌, Bool, true, false, if◌then◌else◌, None, Some, Ok, Err, refl, sym, ◌∙◌, ap, arith, true≢false}
use Rattle.std.proofs.lemmas.Bool.Decides.{nat_tests}
use Rattle.ix_values.specs.PlainAction.{PlainAction}
use Rattle.ix_values.specs.declared.tickets.Ticket.{Ticket}
use Rattle.ix_outside.specs.Counts.{Rose}
use Rattle.ix_proto.specs.Requests as request
use Rattle.ix_proto.specs.declared.reply.Outcome.TheVariants as became
use Rattle.ix_proto.specs.declared.reply.Reply.TheVariants as reply
use Rattle.ix_client.specs.Grant.{Grant}
use Rattle.ix_client.specs.Grants.{Heard, asked_by, cancelled_by, confirmed_by, is_refusal_of_ask, refused_by, same_ticket, settled_by}
use Rattle.ix_client.specs.Hearing.{HasCause}
use Rattle.ix_client.specs.Rising.{EitherRose}
use Rattle.ix_client.specs.Laws.{OddAnswersHaveACause}
use Rattle.ix_client.specs.Links.{LinkState}
use Rattle.ix_client.specs.declared.grants.AskFault.{AskFault}
use Rattle.ix_client.specs.declared.grants.AskFault.TheVariants as fault
use Rattle.ix_client.specs.declared.grants.Cancel.TheVariants as cancel
use Rattle.ix_client.specs.declared.grants.Confirm.TheVariants as confirm
use Rattle.ix_client.specs.declared.grants.Settle.TheVariants as settle

-- one of two values by a test
pub if_cases : {A : Type 0} (test : Bool) (x y z : A) → z ≡ (if test then x else y) → ((test ≡ true) × (z ≡ x)) ⊎ ((test ≡ false) × (z ≡ y))
if_cases true x y z is = inl (refl, is)
if_cases false x y z is = inr (refl, is)

pub ticket_is_itself : (t u : Ticket) → t ≡ u → same_ticket t u ≡ true
ticket_is_itself t u is =
    let boots : t.boot ≡ u.boot = ap (λ (v : Ticket). v.boot) is in
    let seqs : t.seq ≡ u.seq = ap (λ (v : Ticket). v.seq) is in
    grind (arith, nat_tests)

pub is_refusal : (code : ℕ) → 20 ≤ code → code ≤ 23 → is_refusal_of_ask code ≡ true
is_refusal code low high = grind (arith, nat_tests)

-- no answer of an ask's refusal is one of these
pub refused_not_link : (code : ℕ) → fault.Link ≢ refused_by code
refused_not_link code is = elim (if_cases (is_refusal_of_ask code) (fault.Refused code) (if code == 90 then fault.Memory else fault.Odd) fault.Link is) [
  | inl holds ↦ let e = holds.1 in cc
  | inr fails ↦ elim (if_cases (code == 90) fault.Memory fault.Odd fault.Link fails.1) [
    | inl holds ↦ let e = holds.1 in cc
    | inr fails ↦ let e = fails.1 in cc
  ]
]

-- a refusal of an ask from 20 to 23 is told as one
pub refused_is : (code : ℕ) → is_refusal_of_ask code ≡ true → refused_by code ≡ fault.Refused code
refused_is code is = rw is refl

unsure_confirm : (g back : Grant) (heard : Heard) (old new : LinkState) → confirm.Unsure back ≡ confirmed_by g heard
    → HasCause (request.confirm g.ticket) heard old new → EitherRose old new
unsure_confirm g back (Err failed) old new is cause = inl cause
unsure_confirm g back (Ok None) old new is cause = inr cause
unsure_confirm g back (Ok (Some (reply.Confirmed number))) old new is cause = absurd cc
unsure_confirm g back (Ok (Some _)) old new is cause = elim cause [ inl no_reply ↦ absurd no_reply | inr rose ↦ inr rose ]

unsure_cancel : (g back : Grant) (heard : Heard) (old new : LinkState) → cancel.Unsure back ≡ cancelled_by g heard
    → HasCause (request.cancel g.ticket) heard old new → EitherRose old new
unsure_cancel g back (Err failed) old new is cause = inl cause
unsure_cancel g back (Ok None) old new is cause = inr cause
unsure_cancel g back (Ok (Some (reply.Cancelled told))) old new is cause = elim cause [
  | inl same ↦
      let own = ticket_is_itself told g.ticket same in
      elim (if_cases (same_ticket told g.ticket) cancel.Done (cancel.Unsure g) (cancel.Unsure back) is) [
        | inl holds ↦ let e = holds.1 in absurd cc
        | inr fails ↦ absurd (true≢false (sym own ∙ fails.0))
      ]
  | inr rose ↦ inr rose
]
unsure_cancel g back (Ok (Some _)) old new is cause = elim cause [ inl no_reply ↦ absurd no_reply | inr rose ↦ inr rose ]

unsure_settle : (g back : Grant) (heard : Heard) (old new : LinkState) → settle.Unsure back ≡ settled_by g heard
    → HasCause (request.outcome g.ticket) heard old new → EitherRose old new
unsure_settle g back (Err failed) old new is cause = inl cause
unsure_settle g back (Ok None) old new is cause = inr cause
unsure_settle g back (Ok (Some (reply.Outcome (became.Confirmed place)))) old new is cause = absurd cc
unsure_settle g back (Ok (Some (reply.Outcome became.Waiting))) old new is cause = absurd cc
unsure_settle g back (Ok (Some (reply.Outcome became.Never))) old new is cause = absurd cc
unsure_settle g back (Ok (Some (reply.Refused code number))) old new is cause = elim cause [
  | inl same ↦ elim (if_cases (code == 32) settle.LeftOut (settle.Unsure g) (settle.Unsure back) is) [
    | inl holds ↦ let e = holds.1 in absurd cc
    | inr fails ↦ absurd (let e : (code == 32) ≡ true = grind (arith, nat_tests) in true≢false (sym e ∙ fails.0))
  ]
  | inr rose ↦ inr rose
]
unsure_settle g back (Ok (Some _)) old new is cause = elim cause [ inl no_reply ↦ absurd no_reply | inr rose ↦ inr rose ]

expired_confirm : (g : Grant) (heard : Heard) (old new : LinkState) → confirm.Expired ≡ confirmed_by g heard
    → HasCause (request.confirm g.ticket) heard old new → Rose old.balks new.balks
expired_confirm g (Ok (Some (reply.Refused code number))) old new is cause = elim cause [ inl no_reply ↦ absurd no_reply | inr rose ↦ rose ]
expired_confirm g _ old new is cause = absurd cc

expired_cancel : (g : Grant) (heard : Heard) (old new : LinkState) → cancel.Expired ≡ cancelled_by g heard
    → HasCause (request.cancel g.ticket) heard old new → Rose old.balks new.balks
expired_cancel g (Ok (Some (reply.Refused code number))) old new is cause = elim cause [ inl no_reply ↦ absurd no_reply | inr rose ↦ rose ]
expired_cancel g (Ok (Some (reply.Cancelled told))) old new is cause =
    elim (if_cases (same_ticket told g.ticket) cancel.Done (cancel.Unsure g) cancel.Expired is) [
      | inl holds ↦ let e = holds.1 in absurd cc
      | inr fails ↦ let e = fails.1 in absurd cc
    ]
expired_cancel g _ old new is cause = absurd cc

-- an ask that wasn't granted, and wasn't refused from 20 to 23, though a line came
pub odd_ask : (a : PlainAction) (lease : ℕ) (why : AskFault) (heard : Heard) (old new : LinkState)
    → ((code : ℕ) → why ≢ fault.Refused code) → why ≢ fault.Link → Err why ≡ asked_by a heard
    → HasCause (request.ask a lease) heard old new → Rose old.balks new.balks
odd_ask a lease why (Err failed) old new other no_link is cause = absurd (no_link cc)
odd_ask a lease why (Ok None) old new other no_link is cause = cause
odd_ask a lease why (Ok (Some (reply.Granted ticket))) old new other no_link is cause = absurd cc
odd_ask a lease why (Ok (Some (reply.Refused code number))) old new other no_link is cause = elim cause [
  | inl refusal ↦
      let told : why ≡ refused_by code = cc in
      absurd (other code (told ∙ refused_is code (is_refusal code refusal.0 refusal.1)))
  | inr rose ↦ rose
]
odd_ask a lease why (Ok (Some _)) old new other no_link is cause = elim cause [ inl no_reply ↦ absurd no_reply | inr rose ↦ rose ]

link_ask : (a : PlainAction) (lease : ℕ) (heard : Heard) (old new : LinkState) → Err fault.Link ≡ asked_by a heard
    → HasCause (request.ask a lease) heard old new → Rose old.faults new.faults
link_ask a lease (Err failed) old new is cause = cause
link_ask a lease (Ok None) old new is cause = absurd cc
link_ask a lease (Ok (Some (reply.Granted ticket))) old new is cause = absurd cc
link_ask a lease (Ok (Some (reply.Refused code number))) old new is cause =
    let told : fault.Link ≡ refused_by code = cc in absurd (refused_not_link code told)
link_ask a lease (Ok (Some _)) old new is cause = absurd cc

memory_other : (code : ℕ) → fault.Memory ≢ fault.Refused code
memory_other code is = cc

odd_other : (code : ℕ) → fault.Odd ≢ fault.Refused code
odd_other code is = cc

memory_no_link : fault.Memory ≢ fault.Link
memory_no_link is = cc

odd_no_link : fault.Odd ≢ fault.Link
odd_no_link is = cc

pub odd_answers_have_a_cause : OddAnswersHaveACause
odd_answers_have_a_cause = record {
  unsure = λ old new g back by. elim by [
    | inl confirms ↦ unsure_confirm g back confirms.heard old new confirms.is confirms.hears.cause
    | inr (inl cancels) ↦ unsure_cancel g back cancels.heard old new cancels.is cancels.hears.cause
    | inr (inr settles) ↦ unsure_settle g back settles.heard old new settles.is settles.hears.cause
  ];
  expired = λ old new g by. elim by [
    | inl confirms ↦ expired_confirm g confirms.heard old new confirms.is confirms.hears.cause
    | inr cancels ↦ expired_cancel g cancels.heard old new cancels.is cancels.hears.cause
  ];
  asked = λ old new a lease by. elim by [
    | inl asks ↦ odd_ask a lease fault.Memory asks.heard old new memory_other memory_no_link asks.is asks.hears.cause
    | inr asks ↦ odd_ask a lease fault.Odd asks.heard old new odd_other odd_no_link asks.is asks.hears.cause
  ];
  no_link = λ old new a lease asks. link_ask a lease asks.heard old new asks.is asks.hears.cause;
}
