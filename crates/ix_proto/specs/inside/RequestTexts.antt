-- Requests and their lines as the call that writes them takes them.
use Rattle.std.specs.Prelude.{◌≤◌, ◌<◌, ◌^◌, ℕ, List, length}
use Rattle.std.specs.List.{join_with_byte}
use Rattle.ix_values.specs.Tickets.{IsTicket}
use Rattle.ix_proto.specs.declared.request.Request.{Request}
use Rattle.ix_proto.specs.declared.request.Request.TheVariants.{Ask, Confirm, Cancel, Outcome, May}
use Rattle.ix_proto.specs.declared.request.Request.TheVariants.{Watch, Drop, Poll, Log}
use Rattle.ix_proto.specs.Requests.{PlainRequest, request_words}

-- the line of a request without its byte 10: its words, with a space between each two
abbrev pub request_text : PlainRequest → List ℕ
request_text request = join_with_byte 32 (request_words request)

-- the action's text has at most 165 bytes, and the name at most 32
abbrev pub HasShortTexts : Request → Type 0
HasShortTexts (Ask text lease) = length text.now ≤ 165
HasShortTexts (May text) = length text.now ≤ 165
HasShortTexts (Watch name text) = (length name.now ≤ 32) × (length text.now ≤ 165)
HasShortTexts (Drop name text) = (length name.now ≤ 32) × (length text.now ≤ 165)
HasShortTexts (Poll name) = length name.now ≤ 32
HasShortTexts _ = Unit {0}

-- its ticket is one, and its number at most 18446744073709551615
abbrev pub HasSoundNumbers : Request → Type 0
HasSoundNumbers (Confirm ticket) = IsTicket ticket
HasSoundNumbers (Cancel ticket) = IsTicket ticket
HasSoundNumbers (Outcome ticket) = IsTicket ticket
HasSoundNumbers (Log number) = number < 2 ^ 64
HasSoundNumbers _ = Unit {0}
