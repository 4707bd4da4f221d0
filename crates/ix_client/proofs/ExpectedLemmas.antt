-- What was read of the lines of a request and of its reply.
use Rattle.std.proofs.Common.{◌≡◌, ℕ, List, [], ◌∷◌, ◌++◌, sym, ◌∙◌, ap, subst}
use Rattle.std.proofs.lemmas.List.{same_from_push}
use Rattle.ix_lines.specs.Words.{words_of}
use Rattle.ix_values.specs.Laws.{TextsTellTicketsApart}
use Rattle.ix_proto.specs.Replies.{IsReply, TextsTellRepliesApart, reply_text}
use Rattle.ix_proto.specs.Requests.{PlainRequest}
use Rattle.ix_proto.specs.declared.reply.Reply.{Reply}
use Rattle.ix_proto.specs.declared.request.Request.{Request}
use Rattle.ix_proto.specs.inside.Lends.{LendsRequest, Reads}
use Rattle.ix_client.specs.Links.{IsLineOf, IsLineWith}
use Rattle.ix_client.proofs.RequestsApart.{requests_apart}

-- the request that was read of a request's line lends its texts
pub lends_asked : TextsTellTicketsApart → (asked : PlainRequest) (line words : List ℕ) (last : ℕ) (request : Request) → IsLineOf asked line
    → line ≡ words ++ last ∷ [] → Reads (words_of words) request → LendsRequest request asked
lends_asked apart asked line words last request of is reads =
    let same : of.bytes ≡ words = (same_from_push of.bytes words 10 last (sym of.ended ∙ is)).0 in
    subst (LendsRequest request) (sym (requests_apart apart asked reads.plain of.kind of.valid reads.valid (sym of.words ∙ ap words_of same ∙ reads.same)))
    reads.lends

-- what holds of a line's reply holds of the reply that was read
pub holds_of : TextsTellRepliesApart → (P : Reply → Type 0) (line : List ℕ) (read : Reply) → IsReply read → reply_text read ≡ line → IsLineWith P line → P read
holds_of apart P line read valid text with_ =
    subst P (apart with_.told read with_.valid valid (with_.text ∙ sym text)) with_.holds
