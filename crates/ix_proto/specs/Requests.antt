-- The eleven requests, by the words of their lines.
use Rattle.std.specs.Prelude.{ℕ, ◌<◌, ◌≤◌, ◌^◌, List, [], ◌∷◌, codes}
use Rattle.std.specs.Fmt.{decimal}
use Rattle.ix_values.specs.PlainAction.{PlainAction, text_of}
use Rattle.ix_values.specs.Texts.{IsName, IsAction}
use Rattle.ix_values.specs.Tickets.{IsTicket, ticket_text}
use Rattle.ix_values.specs.declared.tickets.Ticket.{Ticket}

-- a request, with its action and its name as values
pub data PlainRequest : Type 0 where
  ask : PlainAction → ℕ → PlainRequest
  confirm : Ticket → PlainRequest
  cancel : Ticket → PlainRequest
  outcome : Ticket → PlainRequest
  may : PlainAction → PlainRequest
  watch : List ℕ → PlainAction → PlainRequest
  drop_watch : List ℕ → PlainAction → PlainRequest
  poll : List ℕ → PlainRequest
  status : PlainRequest
  log : ℕ → PlainRequest
  stop : PlainRequest

-- the words of a request's line
abbrev pub request_words : PlainRequest → List (List ℕ)
request_words (ask action lease) = codes "ask" ∷ text_of action ∷ decimal lease ∷ []
request_words (confirm ticket) = codes "confirm" ∷ ticket_text ticket ∷ []
request_words (cancel ticket) = codes "cancel" ∷ ticket_text ticket ∷ []
request_words (outcome ticket) = codes "outcome" ∷ ticket_text ticket ∷ []
request_words (may action) = codes "may" ∷ text_of action ∷ []
request_words (watch name action) = codes "watch" ∷ name ∷ text_of action ∷ []
request_words (drop_watch name action) = codes "drop" ∷ name ∷ text_of action ∷ []
request_words (poll name) = codes "poll" ∷ name ∷ []
request_words status = codes "status" ∷ []
request_words (log number) = codes "log" ∷ decimal number ∷ []
request_words stop = codes "stop" ∷ []

-- a lease is 1 to 86400000 milliseconds
pub record IsLease (lease : ℕ) : Type 0 where
  pub low : 1 ≤ lease
  pub high : lease ≤ 86400000

-- the names and actions of a request are some, its lease is one, and its numbers are at most
-- 18446744073709551615
abbrev pub IsRequest : PlainRequest → Type 0
IsRequest (ask action lease) = IsAction action × IsLease lease
IsRequest (confirm ticket) = IsTicket ticket
IsRequest (cancel ticket) = IsTicket ticket
IsRequest (outcome ticket) = IsTicket ticket
IsRequest (may action) = IsAction action
IsRequest (watch name action) = IsName name × IsAction action
IsRequest (drop_watch name action) = IsName name × IsAction action
IsRequest (poll name) = IsName name
IsRequest status = Unit {0}
IsRequest (log number) = number < 2 ^ 64
IsRequest stop = Unit {0}
