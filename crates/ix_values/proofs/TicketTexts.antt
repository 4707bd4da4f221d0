-- The text of a ticket is cut at its dash in one way.
use Rattle.std.proofs.Common.{◌≡◌, ℕ, ◌+◌, ◌^◌, Bool, false, List, [], ◌∷◌, ◌++◌, Some, None, length, take, drop, refl, sym, ◌∙◌, ap, arith, decimal}
use Rattle.std.specs.List.{list_any, position, position_or_len}
use Rattle.std.proofs.lemmas.Bool.Decides.{nat_tests}
use Rattle.std.proofs.lemmas.Fmt.{decimal_injective}
use Rattle.std.proofs.Math.Seq.{drop-append-add}
use Rattle.std.proofs.lemmas.Grind.{common_steps}
use Rattle.ix_values.specs.Tickets.{IsTicket, IsTicketText, ticket_text}
use Rattle.ix_values.specs.declared.tickets.Ticket.{Ticket}
use Rattle.ix_lines.proofs.WordLemmas.{is_byte, cut-at_byte}
use Rattle.ix_lines.specs.Numbers.{IsNumber}
use Rattle.ix_lines.proofs.NumberCuts.{or_false, decimal-avoids}

abbrev pub is_dash : ℕ → Bool
is_dash byte = is_byte 45 byte

first_dash : (front rest : List ℕ) → list_any is_dash front ≡ false → position_or_len is_dash (front ++ 45 ∷ rest) ≡ length front
first_dash [] rest h = refl
first_dash (c ∷ front) rest h =
    let both = or_false (is_dash c) (list_any is_dash front) h in
    rw (both.0, first_dash front rest both.1) (grind (arith, common_steps))

-- the first dash of a ticket's text stands behind its boot
pub dash-of : (ticket : Ticket) → IsTicket ticket → position is_dash (ticket_text ticket) ≡ Some (length (decimal ticket.boot))
dash-of ticket h =
    let e = first_dash (decimal ticket.boot) (decimal ticket.seq) (decimal-avoids 45 (omega arith) ticket.boot h.boot) in
    rw e (grind (arith, nat_tests, common_steps))

some_same : {m n : ℕ} → Some m ≡ Some n → m ≡ n
some_same e = cc

-- where the first dash of a ticket's text stands, its two numbers end and begin
cut-of : (text : List ℕ) (at : ℕ) (ticket : Ticket) → position is_dash text ≡ Some at → IsTicket ticket
    → text ≡ ticket_text ticket → (take at text ≡ decimal ticket.boot) × (drop (at + 1) text ≡ decimal ticket.seq)
cut-of text at ticket found valid same =
    let place : at ≡ length (decimal ticket.boot) = some_same (sym found ∙ ap (position is_dash) same ∙ dash-of ticket valid) in
    rw (same, place) (grind (arith, common_steps), drop-append-add (decimal ticket.boot) (45 ∷ decimal ticket.seq) 1)

-- no dash
pub no_ticket-none : (text : List ℕ) → position is_dash text ≡ None → ¬ IsTicketText text
no_ticket-none text none (ticket, valid, same) =
    let found = sym none ∙ ap (position is_dash) same ∙ dash-of ticket valid in
    cc

-- in front of the first dash stands no number
pub no_ticket-boot : (text : List ℕ) (at : ℕ) → position is_dash text ≡ Some at
    → ((number : ℕ) → ¬ IsNumber (2 ^ 64) (take at text) number) → ¬ IsTicketText text
no_ticket-boot text at found none (ticket, valid, same) =
    none ticket.boot (record { same = (cut-of text at ticket found valid same).0; fits = valid.boot })

-- behind the first dash stands no number
pub no_ticket-seq : (text : List ℕ) (at : ℕ) → position is_dash text ≡ Some at
    → ((number : ℕ) → ¬ IsNumber (2 ^ 64) (drop (at + 1) text) number) → ¬ IsTicketText text
no_ticket-seq text at found none (ticket, valid, same) =
    none ticket.seq (record { same = (cut-of text at ticket found valid same).1; fits = valid.seq })

-- a number on each side of a dash
pub ticket-of : (text : List ℕ) (at boot seq : ℕ) → position is_dash text ≡ Some at → IsNumber (2 ^ 64) (take at text) boot
    → IsNumber (2 ^ 64) (drop (at + 1) text) seq → text ≡ decimal boot ++ 45 ∷ decimal seq
ticket-of text at boot seq found front behind =
    cut-at_byte 45 text at found ∙ ap (λ z. z ++ 45 ∷ drop (at + 1) text) front.same ∙ ap (λ z. decimal boot ++ 45 ∷ z) behind.same

-- a ticket has one text
pub tickets-apart : (s t : Ticket) → IsTicket s → IsTicket t → ticket_text s ≡ ticket_text t → s ≡ t
tickets-apart s t valid also same =
    let cut = cut-of (ticket_text s) (length (decimal s.boot)) t (dash-of s valid) also same in
    let own = cut-of (ticket_text s) (length (decimal s.boot)) s (dash-of s valid) valid refl in
    let boots : s.boot ≡ t.boot = decimal_injective s.boot t.boot valid.boot also.boot (sym own.0 ∙ cut.0) in
    let seqs : s.seq ≡ t.seq = decimal_injective s.seq t.seq valid.seq also.seq (sym own.1 ∙ cut.1) in
    λ i. record { boot = boots i; seq = seqs i }
