-- Requests that lend their parts from the line.
use Rattle.std.specs.Prelude.{◌≡◌, ℕ, List}
use Rattle.ix_values.specs.PlainAction.{text_of}
use Rattle.ix_proto.specs.declared.request.Request.{Request}
use Rattle.ix_proto.specs.declared.request.Request.TheVariants.{Ask, Confirm, Cancel, Outcome, May}
use Rattle.ix_proto.specs.declared.request.Request.TheVariants.{Watch, Drop, Poll, Status, Log}
use Rattle.ix_proto.specs.declared.request.Request.TheVariants.{Stop}
use Rattle.ix_proto.specs.Requests.{PlainRequest, ask, confirm, cancel, outcome, may, watch}
use Rattle.ix_proto.specs.Requests.{drop_watch, poll, status, log, stop, request_words, IsRequest}

-- a request that was read lends the texts of this request's name and action, and has its ticket and
-- its numbers
abbrev pub LendsRequest : Request → PlainRequest → Type 0
LendsRequest (Ask text number) (ask action lease) = (text.now ≡ text_of action) × (number ≡ lease)
LendsRequest (Confirm read) (confirm ticket) = read ≡ ticket
LendsRequest (Cancel read) (cancel ticket) = read ≡ ticket
LendsRequest (Outcome read) (outcome ticket) = read ≡ ticket
LendsRequest (May text) (may action) = text.now ≡ text_of action
LendsRequest (Watch bytes text) (watch name action) =
    (bytes.now ≡ name) × (text.now ≡ text_of action)
LendsRequest (Drop bytes text) (drop_watch name action) =
    (bytes.now ≡ name) × (text.now ≡ text_of action)
LendsRequest (Poll bytes) (poll name) = bytes.now ≡ name
LendsRequest Status status = Unit {0}
LendsRequest (Log number) (log place) = number ≡ place
LendsRequest Stop stop = Unit {0}
LendsRequest _ _ = ⊥

-- the words are those of a request, which lends its texts from them
pub record Reads (words : List (List ℕ)) (request : Request) : Type 0 where
  pub plain : PlainRequest
  pub valid : IsRequest plain
  pub lends : LendsRequest request plain
  pub same : words ≡ request_words plain
