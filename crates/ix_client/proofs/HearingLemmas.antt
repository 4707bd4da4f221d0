-- What is heard, from what a link says of its call.
use Rattle.std.proofs.Common.{◌≡◌, inl, inr, ℕ, List, Option, None, Some, MatchOption, Ok, Err, sym, ◌∙◌, subst}
use Rattle.ix_expr.specs.Form.{Form}
use Rattle.ix_proto.specs.Replies.{IsReply, reply_text, TextsTellRepliesApart}
use Rattle.ix_proto.specs.Requests.{PlainRequest}
use Rattle.ix_proto.specs.inside.ReplyTexts.{IsReplyText}
use Rattle.ix_proto.specs.declared.reply.Reply.{Reply}
use Rattle.ix_manager.specs.Machine.{MachineState}
use Rattle.ix_client.specs.Hearing.{Hears}
use Rattle.ix_client.specs.Links.{Answers, Fails, GivesLine, IsExpected, IsLineOf, IsLineWith, LinkState, MakesCall, NoFewer, TellsBy, Told}
use Rattle.ix_client.specs.declared.link.LinkFailed.{LinkFailed}

-- what is told came of the state before in a weaker way too
pub tells_weaker : {R Q : Form → ℕ → MachineState → MachineState → Type 0}
    → ((x : Form) (limit : ℕ) (s u : MachineState) → R x limit s u → Q x limit s u)
    → (old new : Option Told) → TellsBy R old new → TellsBy Q old new
tells_weaker weaker None new told = told
tells_weaker weaker (Some old) None told = tt
tells_weaker weaker (Some old) (Some new) told = record {
  form = told.form;
  limit = told.limit;
  machine = weaker old.form old.limit old.machine new.machine told.machine;
}

-- a text of which this holds, when it was read
of_text : (apart : TextsTellRepliesApart) (P : Reply → Type 0) (line : List ℕ) (read : Reply) → IsReply read → reply_text read ≡ line
    → IsLineWith P line → P read
of_text apart P line read valid text with_ =
    subst P (apart with_.told read with_.valid valid (with_.text ∙ sym text)) with_.holds

no_text : {P : Reply → Type 0} {Q : Type 0} (line : List ℕ) → (IsReplyText line → ⊥) → IsLineWith P line → Q
no_text line none with_ = absurd (none (record { reply = with_.told; valid = with_.valid; same = with_.text }))

-- a line that was read
pub heard_line : TextsTellRepliesApart → (asked : PlainRequest) (line : List ℕ) (read : Option Reply) (old new : LinkState)
    → MatchOption read (IsReplyText line → ⊥) (λ told. IsReply told × (reply_text told ≡ line))
    → (sent : List ℕ) → IsLineOf asked sent → MakesCall sent old new
    → NoFewer old new → GivesLine asked line old new → Hears asked (Ok read) old new
heard_line apart asked line None old new none sent of made counts gives = record {
  once = made.calls;
  line = subst (IsLineOf asked) (sym made.line) of;
  counts = counts;
  cause = elim gives.expected [ inl with_ ↦ no_text line none with_ | inr rose ↦ rose ];
  told = tells_weaker (λ x limit s u with_. no_text line none with_) old.told new.told gives.told;
}
heard_line apart asked line (Some read) old new is sent of made counts gives = record {
  once = made.calls;
  line = subst (IsLineOf asked) (sym made.line) of;
  counts = counts;
  cause = elim gives.expected [
    | inl with_ ↦ inl (of_text apart (IsExpected asked) line read is.0 is.1 with_)
    | inr rose ↦ inr rose
  ];
  told =
      tells_weaker (λ x limit s u with_. of_text apart (λ told. Answers asked told x limit s u) line read is.0 is.1 with_)
      old.told new.told gives.told;
}

-- a call that failed
pub heard_nothing : (asked : PlainRequest) (failed : LinkFailed) (old new : LinkState) (sent : List ℕ) → IsLineOf asked sent → MakesCall sent old new
    → NoFewer old new → Fails old new → Hears asked (Err failed) old new
heard_nothing asked failed old new sent of made counts fails = record {
  once = made.calls;
  line = subst (IsLineOf asked) (sym made.line) of;
  counts = counts;
  cause = fails.counted;
  told = fails.told;
}
