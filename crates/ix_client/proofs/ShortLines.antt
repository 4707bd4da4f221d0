-- The line of a call is short.
use Rattle.std.proofs.Common.{◌≡◌, ℕ, ◌^◌, ◌<◌, ◌≤◌, List, [], ◌∷◌, ◌++◌, length, codes, decimal, sym, ◌∙◌, ap, arith}
use Rattle.std.specs.List.{join_with_byte}
use Rattle.std.proofs.lemmas.Fmt.{length-decimal-le}
use Rattle.std.proofs.lemmas.List.{length-append}
use Rattle.std.proofs.lemmas.List.Splits.{join_with_byte-slice_split}
use Rattle.ix_values.specs.PlainAction.{text_of}
use Rattle.ix_values.specs.Tickets.{IsTicket, ticket_text}
use Rattle.ix_values.specs.declared.tickets.Ticket.{Ticket}
use Rattle.ix_journal.proofs.RecordFronts.{text_short}
use Rattle.ix_proto.specs.Requests.{PlainRequest, ask, confirm, cancel, outcome, IsRequest, request_words}
use Rattle.ix_client.specs.Links.{IsCall, IsOfTickets}

-- the words joined
abbrev joined : List (List ℕ) → List ℕ
joined words = join_with_byte 32 words

number_short : (n : ℕ) → n < 2 ^ 64 → length (decimal n) ≤ 20
number_short n fits = length-decimal-le 20 n (omega arith) (omega (arith, fits)) fits

ticket_short : (ticket : Ticket) → IsTicket ticket → length (ticket_text ticket) ≤ 41
ticket_short ticket is =
    let boot = number_short ticket.boot is.boot in
    let seq = number_short ticket.seq is.seq in
    let both = length-append (decimal ticket.boot) (45 ∷ decimal ticket.seq) in
    omega (arith, boot, seq, both)

two_short : (verb word : List ℕ) → length verb ≤ 16 → length word ≤ 165 → length (joined (verb ∷ word ∷ [])) ≤ 182
two_short verb word first second =
    let both = length-append verb (32 ∷ word) in
    omega (arith, both, first, second)

joined_short : (asked : PlainRequest) → IsOfTickets asked → IsRequest asked → length (joined (request_words asked)) ≤ 200
joined_short (ask a lease) kind valid =
    let text = text_short a valid.0 in
    let most = valid.1.high in
    let number = number_short lease (omega (arith, most)) in
    let inner = length-append (text_of a) (32 ∷ decimal lease) in
    let outer = length-append (codes "ask") (32 ∷ (text_of a ++ (32 ∷ decimal lease))) in
    omega (arith, text, number, inner, outer)
joined_short (confirm ticket) kind valid =
    let short = ticket_short ticket valid in
    let all = two_short (codes "confirm") (ticket_text ticket) (omega arith) (omega (arith, short)) in omega (arith, all)
joined_short (cancel ticket) kind valid =
    let short = ticket_short ticket valid in
    let all = two_short (codes "cancel") (ticket_text ticket) (omega arith) (omega (arith, short)) in omega (arith, all)
joined_short (outcome ticket) kind valid =
    let short = ticket_short ticket valid in
    let all = two_short (codes "outcome") (ticket_text ticket) (omega arith) (omega (arith, short)) in omega (arith, all)
joined_short _ kind valid = absurd kind

-- the line of a call has at most 201 bytes
pub call_short : (line : List ℕ) → IsCall line → length line ≤ 201
call_short line (asked, of) =
    let whole : joined (request_words asked) ≡ of.bytes = ap joined (sym of.words) ∙ join_with_byte-slice_split 32 of.bytes in
    let short = joined_short asked of.kind of.valid in
    let lengths = ap length whole in
    let ends = ap length of.ended in
    let more = length-append of.bytes (10 ∷ []) in
    omega (arith, short, lengths, ends, more)
