use Rattle.std.proofs.Common.{◌≡◌, ℕ, List, refl, ◌∙◌}
use Rattle.ix_values.specs.Faults.{IsActionText}
use Rattle.ix_proto.specs.inside.Lends.{LendsRequest, Reads}
use Rattle.ix_proto.specs.Requests.{PlainRequest, ask, confirm, cancel, outcome, may, watch, drop_watch, poll, status, log, stop, request_words, IsRequest}
use Rattle.ix_proto.specs.declared.request.Request.{Request}
use Rattle.ix_proto.proofs.RequestLemmas.{first_alone, first_and_one, first_and_two}
use Rattle.ix_proto.proofs.request.read_behind.Goals as goal

reads : {words : List (List ℕ)} {request : Request} (plain : PlainRequest)
    → IsRequest plain → LendsRequest request plain → words ≡ request_words plain → Reads words request
reads plain valid lends same = record { plain = plain; valid = valid; lends = lends; same = same }

pub returns-in_ok-lease-in-Ask : goal.returns-in_ok-lease-in-Ask
returns-in_ok-lease-in-Ask c =
    let action = c.in_ok-action-in-Ask-2.ensures in
    let lease = c.in_ok-lease-in-Ask.ensures in
    let read : IsActionText c.in_ok-action-in-Ask.action.now = action.1 in
    reads (ask read.action c.in_ok-lease-in-Ask.lease) (read.valid, lease.1) (action.0 ∙ read.same, refl)
    (first_and_two c.in-Ask.is c.in_ok-action-in-Ask.ensures read.same lease.0.same)

pub returns-in_ok-ticket_word-in-Confirm : goal.returns-in_ok-ticket_word-in-Confirm
returns-in_ok-ticket_word-in-Confirm c =
    let ticket = c.in_ok-ticket_word-in-Confirm.ensures in
    reads (confirm c.in_ok-ticket_word-in-Confirm.field-0) ticket.0 refl
    (first_and_one c.in-Confirm.is c.in_ok-one_word-in-Confirm.ensures ticket.1)

pub returns-in_ok-ticket_word-in-Cancel : goal.returns-in_ok-ticket_word-in-Cancel
returns-in_ok-ticket_word-in-Cancel c =
    let ticket = c.in_ok-ticket_word-in-Cancel.ensures in
    reads (cancel c.in_ok-ticket_word-in-Cancel.field-0) ticket.0 refl
    (first_and_one c.in-Cancel.is c.in_ok-one_word-in-Cancel.ensures ticket.1)

pub returns-in_ok-ticket_word-in-Outcome : goal.returns-in_ok-ticket_word-in-Outcome
returns-in_ok-ticket_word-in-Outcome c =
    let ticket = c.in_ok-ticket_word-in-Outcome.ensures in
    reads (outcome c.in_ok-ticket_word-in-Outcome.field-0) ticket.0 refl
    (first_and_one c.in-Outcome.is c.in_ok-one_word-in-Outcome.ensures ticket.1)

pub returns-in_ok-action_word-in-May : goal.returns-in_ok-action_word-in-May
returns-in_ok-action_word-in-May c =
    let action = c.in_ok-action_word-in-May.ensures in
    let read : IsActionText c.in_ok-one_word-in-May.field-0.now = action.1 in
    reads (may read.action) read.valid (action.0 ∙ read.same)
    (first_and_one c.in-May.is c.in_ok-one_word-in-May.ensures read.same)

pub returns-in_ok-name-in-Watch : goal.returns-in_ok-name-in-Watch
returns-in_ok-name-in-Watch c =
    let words = c.in_ok-name-in-Watch.ensures in
    let read : IsActionText c.in_ok-name-in-Watch.action.now = words.2 in
    reads (watch c.in_ok-name-in-Watch.name.now read.action) (words.1, read.valid) (refl, read.same)
    (first_and_two c.in-Watch.is words.0 refl read.same)

pub returns-in_ok-name-in-Drop : goal.returns-in_ok-name-in-Drop
returns-in_ok-name-in-Drop c =
    let words = c.in_ok-name-in-Drop.ensures in
    let read : IsActionText c.in_ok-name-in-Drop.action.now = words.2 in
    reads (drop_watch c.in_ok-name-in-Drop.name.now read.action) (words.1, read.valid) (refl, read.same)
    (first_and_two c.in-Drop.is words.0 refl read.same)

pub returns-in_ok-name_word-in-Poll : goal.returns-in_ok-name_word-in-Poll
returns-in_ok-name_word-in-Poll c =
    let name = c.in_ok-name_word-in-Poll.ensures in
    reads (poll c.in_ok-one_word-in-Poll.field-0.now) name.1 name.0
    (first_and_one c.in-Poll.is c.in_ok-one_word-in-Poll.ensures refl)

pub returns-in_ok-no_words-in-Status : goal.returns-in_ok-no_words-in-Status
returns-in_ok-no_words-in-Status c = reads status tt tt (first_alone c.in-Status.is c.in_ok-no_words-in-Status.ensures)

pub returns-in_ok-number_word-in-Log : goal.returns-in_ok-number_word-in-Log
returns-in_ok-number_word-in-Log c =
    let number = c.in_ok-number_word-in-Log.ensures in
    reads (log c.in_ok-number_word-in-Log.field-0) number.fits refl
    (first_and_one c.in-Log.is c.in_ok-one_word-in-Log.ensures number.same)

pub returns-in_ok-no_words-in-Stop : goal.returns-in_ok-no_words-in-Stop
returns-in_ok-no_words-in-Stop c = reads stop tt tt (first_alone c.in-Stop.is c.in_ok-no_words-in-Stop.ensures)
