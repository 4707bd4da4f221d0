-- A line of words is its request's.
use Rattle.std.proofs.Common.{◌≡◌, ℕ, false, List, [], ◌∷◌, ◌++◌, refl, ◌∙◌, ap, codes, decimal, arith}
use Rattle.std.specs.Prelude.{All}
use Rattle.std.specs.List.{list_any}
use Rattle.std.proofs.lemmas.List.Elements.{All-cons, All-nil}
use Rattle.std.proofs.lemmas.List.Splits.{slice_split_none, slice_split_at}
use Rattle.ix_values.specs.PlainAction.{text_of}
use Rattle.ix_values.specs.Tickets.{ticket_text}
use Rattle.ix_lines.specs.Words.{words_of}
use Rattle.ix_lines.specs.inside.WordsBehind.{HasNoSpace}
use Rattle.ix_lines.proofs.NumberCuts.{decimal-plain, or_false}
use Rattle.ix_lines.proofs.WordLemmas.{is_space}
use Rattle.ix_journal.proofs.EntryTexts.{action-plain, ticket-plain}
use Rattle.ix_proto.specs.Requests.{PlainRequest, IsRequest, request_words, ask, confirm, cancel, outcome}
use Rattle.ix_proto.specs.inside.RequestTexts.{request_text}
use Rattle.ix_client.specs.Links.{IsLineOf, IsOfTickets}

each_plain : (xs : List ℕ) → HasNoSpace xs → All (λ x. is_space x ≡ false) xs
each_plain [] h = All-nil (λ x. is_space x ≡ false)
each_plain (x ∷ xs) h =
    let both = or_false (is_space x) (list_any is_space xs) h in
    All-cons (λ x. is_space x ≡ false) x xs both.0 (each_plain xs both.1)

first_of_words : (word rest : List ℕ) → HasNoSpace word → words_of (word ++ 32 ∷ rest) ≡ word ∷ words_of rest
first_of_words word rest h = slice_split_at is_space word 32 rest (each_plain word h) refl

only_word : (word : List ℕ) → HasNoSpace word → words_of word ≡ word ∷ []
only_word word h = slice_split_none is_space word (each_plain word h)

two_words : (verb word : List ℕ) → HasNoSpace verb → HasNoSpace word → words_of (verb ++ 32 ∷ word) ≡ verb ∷ word ∷ []
two_words verb word h k = first_of_words verb word h ∙ ap (λ ws. verb ∷ ws) (only_word word k)

-- no word of a request has a space
words_again : (asked : PlainRequest) → IsOfTickets asked → IsRequest asked → words_of (request_text asked) ≡ request_words asked
words_again (ask a lease) kind valid =
    first_of_words (codes "ask") (text_of a ++ 32 ∷ decimal lease) refl
    ∙ ap (λ ws. codes "ask" ∷ ws)
    (two_words (text_of a) (decimal lease) (action-plain a valid.0) (decimal-plain lease (omega (arith, valid.1.high))))
words_again (confirm ticket) kind valid = two_words (codes "confirm") (ticket_text ticket) refl (ticket-plain ticket valid)
words_again (cancel ticket) kind valid = two_words (codes "cancel") (ticket_text ticket) refl (ticket-plain ticket valid)
words_again (outcome ticket) kind valid = two_words (codes "outcome") (ticket_text ticket) refl (ticket-plain ticket valid)
words_again _ kind valid = absurd kind

pub line_is : (asked : PlainRequest) (line : List ℕ) → IsOfTickets asked → IsRequest asked → line ≡ request_text asked ++ 10 ∷ []
    → IsLineOf asked line
line_is asked line kind valid is = record {
  kind = kind;
  valid = valid;
  bytes = request_text asked;
  words = words_again asked kind valid;
  ended = is;
}
