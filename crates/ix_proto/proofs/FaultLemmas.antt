-- No request's line has a fault, and a line has at most one.
use Rattle.std.proofs.Common.{◌≡◌, ℕ, ◌+◌, ◌<◌, ◌^◌, ◌==◌, inl, inr, if◌then◌else◌, List, [], ◌∷◌, length, get_or, suc, arith, refl, sym, ◌∙◌, ap, subst}
use Rattle.std.specs.Fmt.{decimal}
use Rattle.ix_values.specs.Faults.{IsActionText}
use Rattle.ix_values.specs.PlainAction.{PlainAction, text_of}
use Rattle.ix_values.specs.Texts.{IsAction}
use Rattle.ix_values.specs.Tickets.{IsTicket, IsTicketText, ticket_text}
use Rattle.ix_values.specs.declared.tickets.Ticket.{Ticket}
use Rattle.ix_proto.specs.Requests.{ask, confirm, cancel, outcome, may, watch, drop_watch, poll, status, log, stop, IsLease}
use Rattle.ix_proto.specs.RequestFaults.{Part, an_action, a_name, a_ticket, a_number, a_lease, IsPart, IsPartFault, IsFirstRequestFault, IsFaultBehind, verb_word, parts_of, IsNumberText, IsLeaseText, IsRequestFault}
use Rattle.ix_proto.specs.RequestLaws.{FaultsTellNoRequest, RequestLinesHaveOneFault}
use Rattle.ix_proto.specs.declared.request.Verb.{Verb}
use Rattle.ix_proto.specs.declared.request.Verb.TheVariants as verb

-- each word is what it has to be
abbrev pub AreParts : List Part → List (List ℕ) → Type 0
AreParts [] [] = Unit {0}
AreParts [] (word ∷ words) = ⊥
AreParts (part ∷ parts) [] = ⊥
AreParts (part ∷ parts) (word ∷ words) = IsPart part word × AreParts parts words

same_length : (parts : List Part) (words : List (List ℕ)) → AreParts parts words → length words ≡ length parts
same_length [] [] h = refl
same_length (part ∷ parts) (word ∷ words) h = ap suc (same_length parts words h.1)
same_length [] (word ∷ words) h = absurd h
same_length (part ∷ parts) [] h = absurd h

no_part_fault : (part : Part) (word : List ℕ) (code : ℕ) → IsPart part word → ¬ IsPartFault part word code
no_part_fault an_action word code h f = f.0 h
no_part_fault a_name word code h f = f.0 h
no_part_fault a_ticket word code h f = f.0 h
no_part_fault a_number word code h f = f.0 h
no_part_fault a_lease word code h (inl f) = f.0 (h.0, h.1)
no_part_fault a_lease word code h (inr f) = f.1 h

no_first_fault : (parts : List Part) (words : List (List ℕ)) (code : ℕ) → AreParts parts words → ¬ IsFirstRequestFault parts words code
no_first_fault [] words code h f = absurd f
no_first_fault (part ∷ parts) [] code h f = absurd f
no_first_fault (part ∷ parts) (word ∷ words) code h (inl f) = no_part_fault part word code h.0 f
no_first_fault (part ∷ parts) (word ∷ words) code h (inr f) = no_first_fault parts words code h.1 f.1

no_fault_behind : (parts : List Part) (words : List (List ℕ)) (code : ℕ) → AreParts parts words → ¬ IsFaultBehind parts words code
no_fault_behind parts words code h (inl f) = f.0 (same_length parts words h)
no_fault_behind parts words code h (inr f) = no_first_fault parts words code h f.1

-- the first words differ in the sum of their first three bytes
abbrev pub verb_from : ℕ → Verb
verb_from sum =
    if sum == 319 then verb.Ask else
    if sum == 320 then verb.Confirm else
    if sum == 306 then verb.Cancel else
    if sum == 344 then verb.Outcome else
    if sum == 327 then verb.May else
    if sum == 332 then verb.Watch else
    if sum == 325 then verb.Drop else
    if sum == 331 then verb.Poll else
    if sum == 328 then verb.Status else
    if sum == 322 then verb.Log else verb.Stop

from_word : List ℕ → Verb
from_word word = verb_from (get_or word 0 0 + get_or word 1 0 + get_or word 2 0)

verb_again : (v : Verb) → from_word (verb_word v) ≡ v
unfolding from_word
verb_again verb.Ask = refl
verb_again verb.Confirm = refl
verb_again verb.Cancel = refl
verb_again verb.Outcome = refl
verb_again verb.May = refl
verb_again verb.Watch = refl
verb_again verb.Drop = refl
verb_again verb.Poll = refl
verb_again verb.Status = refl
verb_again verb.Log = refl
verb_again verb.Stop = refl

pub same_verb : (j k : Verb) → verb_word j ≡ verb_word k → j ≡ k
same_verb j k e = sym (verb_again j) ∙ ap from_word e ∙ verb_again k

no_fault : (v : Verb) (words : List (List ℕ)) (code : ℕ) → AreParts (parts_of v) words → ¬ IsRequestFault (verb_word v ∷ words) code
no_fault v words code h (inl f) = f.0 v refl
no_fault v words code h (inr (w, e, f)) =
    no_fault_behind (parts_of w) words code (subst (λ z. AreParts (parts_of z) words) (same_verb v w e) h) f

action_text : (action : PlainAction) → IsAction action → IsActionText (text_of action)
action_text action h = record { action = action; valid = h; same = refl }

a_ticket_text : (ticket : Ticket) → IsTicket ticket → IsTicketText (ticket_text ticket)
a_ticket_text ticket h = (ticket, h, refl)

number_text : (n : ℕ) → n < 2 ^ 64 → IsNumberText (decimal n)
number_text n h = (n, record { same = refl; fits = h })

lease_text : (n : ℕ) → IsLease n → IsLeaseText (decimal n)
lease_text n h = (n, record { same = refl; fits = omega (arith, h.high) }, h)

pub faults_tell_no_request : FaultsTellNoRequest
faults_tell_no_request (ask action lease) code h f = no_fault verb.Ask _ code (action_text action h.0, (lease_text lease h.1, tt)) f
faults_tell_no_request (confirm ticket) code h f = no_fault verb.Confirm _ code (a_ticket_text ticket h, tt) f
faults_tell_no_request (cancel ticket) code h f = no_fault verb.Cancel _ code (a_ticket_text ticket h, tt) f
faults_tell_no_request (outcome ticket) code h f = no_fault verb.Outcome _ code (a_ticket_text ticket h, tt) f
faults_tell_no_request (may action) code h f = no_fault verb.May _ code (action_text action h, tt) f
faults_tell_no_request (watch name action) code h f = no_fault verb.Watch _ code (h.0, (action_text action h.1, tt)) f
faults_tell_no_request (drop_watch name action) code h f = no_fault verb.Drop _ code (h.0, (action_text action h.1, tt)) f
faults_tell_no_request (poll name) code h f = no_fault verb.Poll _ code (h, tt) f
faults_tell_no_request status code h f = no_fault verb.Status _ code tt f
faults_tell_no_request (log place) code h f = no_fault verb.Log _ code (number_text place h, tt) f
faults_tell_no_request stop code h f = no_fault verb.Stop _ code tt f

one_part_fault : (part : Part) (word : List ℕ) (c d : ℕ) → IsPartFault part word c → IsPartFault part word d → c ≡ d
one_part_fault an_action word c d f g = f.1 ∙ sym g.1
one_part_fault a_name word c d f g = f.1 ∙ sym g.1
one_part_fault a_ticket word c d f g = f.1 ∙ sym g.1
one_part_fault a_number word c d f g = f.1 ∙ sym g.1
one_part_fault a_lease word c d (inl f) (inl g) = f.1 ∙ sym g.1
one_part_fault a_lease word c d (inl f) (inr g) = absurd (f.0 g.0)
one_part_fault a_lease word c d (inr f) (inl g) = absurd (g.0 f.0)
one_part_fault a_lease word c d (inr f) (inr g) = f.2 ∙ sym g.2

one_first_fault : (parts : List Part) (words : List (List ℕ)) (c d : ℕ)
    → IsFirstRequestFault parts words c → IsFirstRequestFault parts words d → c ≡ d
one_first_fault [] words c d f g = absurd f
one_first_fault (part ∷ parts) [] c d f g = absurd f
one_first_fault (part ∷ parts) (word ∷ words) c d (inl f) (inl g) = one_part_fault part word c d f g
one_first_fault (part ∷ parts) (word ∷ words) c d (inl f) (inr g) = absurd (no_part_fault part word c g.0 f)
one_first_fault (part ∷ parts) (word ∷ words) c d (inr f) (inl g) = absurd (no_part_fault part word d f.0 g)
one_first_fault (part ∷ parts) (word ∷ words) c d (inr f) (inr g) = one_first_fault parts words c d f.1 g.1

one_fault_behind : (parts : List Part) (words : List (List ℕ)) (c d : ℕ)
    → IsFaultBehind parts words c → IsFaultBehind parts words d → c ≡ d
one_fault_behind parts words c d (inl f) (inl g) = f.1 ∙ sym g.1
one_fault_behind parts words c d (inl f) (inr g) = absurd (f.0 g.0)
one_fault_behind parts words c d (inr f) (inl g) = absurd (g.0 f.0)
one_fault_behind parts words c d (inr f) (inr g) = one_first_fault parts words c d f.1 g.1

pub request_lines_have_one_fault : RequestLinesHaveOneFault
request_lines_have_one_fault [] c d f g = absurd f
request_lines_have_one_fault (first ∷ words) c d (inl f) (inl g) = f.1 ∙ sym g.1
request_lines_have_one_fault (first ∷ words) c d (inl f) (inr g) = absurd (f.0 g.0 g.1)
request_lines_have_one_fault (first ∷ words) c d (inr f) (inl g) = absurd (g.0 f.0 f.1)
request_lines_have_one_fault (first ∷ words) c d (inr f) (inr g) =
    let same : f.0 ≡ g.0 = same_verb f.0 g.0 (sym f.1 ∙ g.1) in
    one_fault_behind (parts_of g.0) words c d (subst (λ z. IsFaultBehind (parts_of z) words c) same f.2) g.2
