-- The words of a line tell its request.
use Rattle.std.proofs.Common.{◌≡◌}
use Rattle.ix_values.specs.Laws.{TextsTellTicketsApart}
use Rattle.ix_proto.specs.Requests.{PlainRequest, ask, confirm, cancel, outcome, IsRequest, request_words}
use Rattle.ix_manager.proofs.RequestsApart.{asks_alone, cancels_alone, confirms_alone, outcomes_alone}
use Rattle.ix_client.specs.Links.{IsOfTickets}

-- two requests with the same words are the same request, where the first is of a ticket
pub requests_apart : TextsTellTicketsApart → (p q : PlainRequest) → IsOfTickets p → IsRequest p → IsRequest q
    → request_words p ≡ request_words q → p ≡ q
requests_apart apart (ask a lease) q kind valid others same = asks_alone a lease valid q others same
requests_apart apart (confirm ticket) q kind valid others same = confirms_alone apart ticket valid q others same
requests_apart apart (cancel ticket) q kind valid others same = cancels_alone apart ticket valid q others same
requests_apart apart (outcome ticket) q kind valid others same = outcomes_alone apart ticket valid q others same
requests_apart apart _ q kind valid others same = absurd kind
