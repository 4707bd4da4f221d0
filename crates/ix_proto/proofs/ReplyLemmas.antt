-- A reply's text as its first word and what stands reply_rest it.
use Rattle.std.proofs.Common.{◌≡◌, ◌≢◌, ℕ, ◌+◌, ◌<◌, ◌^◌, ◌==◌, Bool, true, false, if◌then◌else◌, List, [], ◌∷◌, ◌++◌, get_or, Option, Some, None, MatchOption, refl, sym, ◌∙◌, ap, subst, arith, append-nil}
use Rattle.std.specs.Fmt.{decimal}
use Rattle.ix_values.specs.Faults.{IsActionText}
use Rattle.ix_values.specs.PlainAction.{text_of}
use Rattle.ix_lines.specs.inside.WordsBehind.{behind_word, HasNoSpace}
use Rattle.ix_proto.specs.Replies.{IsReply, reply_text, complete_or_partial, with_number, has_number, refusal_text}
use Rattle.ix_proto.specs.inside.ReplyTexts.{IsReplyText}
use Rattle.ix_proto.specs.inside.ReplyParts.{kind_word, kind_of, reply_rest, nodes_text, StandsBehind, IsRefusalBehind}
use Rattle.ix_lines.specs.Numbers.{BeginsWithNumber}
use Rattle.ix_lines.proofs.NumberCuts.{cut_same, number_same, some_same}
use Rattle.ix_proto.proofs.ReplyKinds.{only_refused, only_status, only_entry}
use Rattle.ix_proto.specs.declared.reply.Reply.{Reply}
use Rattle.ix_proto.specs.declared.reply.Reply.TheVariants.{Granted, Confirmed, Cancelled, Outcome, May, Watching, Dropped, Changes, Change, Status, Entry, Stopping, Refused}
use Rattle.ix_proto.specs.declared.reply_read.Kind.{Kind}
use Rattle.ix_proto.specs.declared.reply_read.Kind.TheVariants as kind

pub parts_of_text : (r : Reply) → reply_text r ≡ kind_word (kind_of r) ++ behind_word (reply_rest r)
parts_of_text (Granted ticket) = refl
parts_of_text (Confirmed count) = refl
parts_of_text (Cancelled ticket) = refl
parts_of_text (Outcome outcome) = refl
parts_of_text (May true) = refl
parts_of_text (May false) = refl
parts_of_text (Watching answer) = refl
parts_of_text Dropped = refl
parts_of_text (Changes count) = refl
parts_of_text (Change true action) = refl
parts_of_text (Change false action) = refl
parts_of_text (Status complete count nodes) = refl
parts_of_text (Entry place action) = refl
parts_of_text Stopping = refl
parts_of_text (Refused code number) = refl

pub kind-plain : (k : Kind) → HasNoSpace (kind_word k)
kind-plain kind.Granted = refl
kind-plain kind.Confirmed = refl
kind-plain kind.Cancelled = refl
kind-plain kind.Outcome = refl
kind-plain (kind.Answer true) = refl
kind-plain (kind.Answer false) = refl
kind-plain kind.Watching = refl
kind-plain kind.Dropped = refl
kind-plain kind.Changes = refl
kind-plain kind.Status = refl
kind-plain kind.Entry = refl
kind-plain kind.Stopping = refl
kind-plain kind.Refused = refl

-- the first words differ in their first byte, or in the sum of the next two
abbrev pub kind_from : ℕ → ℕ → Kind
kind_from first next =
    if first == 103 then kind.Granted else
    if first == 111 then kind.Outcome else
    if first == 121 then kind.Answer true else
    if first == 110 then kind.Answer false else
    if first == 119 then kind.Watching else
    if first == 100 then kind.Dropped else
    if first == 101 then kind.Entry else
    if first == 114 then kind.Refused else
    if next == 213 then kind.Status else
    if next == 227 then kind.Stopping else
    if next == 221 then kind.Confirmed else
    if next == 207 then kind.Cancelled else kind.Changes

from_word : List ℕ → Kind
from_word word = kind_from (get_or word 0 0) (get_or word 1 0 + get_or word 2 0)

kind_again : (k : Kind) → from_word (kind_word k) ≡ k
unfolding from_word
kind_again kind.Granted = refl
kind_again kind.Confirmed = refl
kind_again kind.Cancelled = refl
kind_again kind.Outcome = refl
kind_again (kind.Answer true) = refl
kind_again (kind.Answer false) = refl
kind_again kind.Watching = refl
kind_again kind.Dropped = refl
kind_again kind.Changes = refl
kind_again kind.Status = refl
kind_again kind.Entry = refl
kind_again kind.Stopping = refl
kind_again kind.Refused = refl

pub same_kind : (j k : Kind) → kind_word j ≡ kind_word k → j ≡ k
same_kind j k e = sym (kind_again j) ∙ ap from_word e ∙ kind_again k

-- the first word of a reply's text, and what stands reply_rest it
pub cut_text : (line word : List ℕ) (rest : Option (List ℕ)) → line ≡ word ++ behind_word rest → HasNoSpace word
    → (r : Reply) → reply_text r ≡ line → (word ≡ kind_word (kind_of r)) × (rest ≡ reply_rest r)
cut_text line word rest cut plain r e =
    cut_same word (kind_word (kind_of r)) rest (reply_rest r) plain (kind-plain (kind_of r)) (sym cut ∙ sym e ∙ parts_of_text r)

pub no_kind : (line word : List ℕ) (rest : Option (List ℕ)) → line ≡ word ++ behind_word rest → HasNoSpace word
    → ((k : Kind) → word ≢ kind_word k) → ¬ IsReplyText line
no_kind line word rest cut plain none h = none (kind_of h.reply) (cut_text line word rest cut plain h.reply h.same).0

no_reply : (line word : List ℕ) (rest : Option (List ℕ)) → line ≡ word ++ behind_word rest → HasNoSpace word
    → (k : Kind) → word ≡ kind_word k → ((r : Reply) → ¬ StandsBehind k rest r) → ¬ IsReplyText line
no_reply line word rest cut plain k is none h =
    let parts = cut_text line word rest cut plain h.reply h.same in
    none h.reply (record {
      valid = h.valid;
      kind_is = same_kind (kind_of h.reply) k (sym parts.0 ∙ is);
      rest_is = sym parts.1;
    })

-- what a line reads as, where its first word is a reply's
pub read_line : (line word : List ℕ) (rest : Option (List ℕ)) (k : Kind) (r : Option Reply) → line ≡ word ++ behind_word rest → HasNoSpace word
    → word ≡ kind_word k → MatchOption r ((reply : Reply) → ¬ StandsBehind k rest reply) (StandsBehind k rest)
    → MatchOption r (¬ IsReplyText line) (λ reply. IsReply reply × (reply_text reply ≡ line))
read_line line word rest k None cut plain is none = no_reply line word rest cut plain k is none
read_line line word rest k (Some reply) cut plain is h = (
  h.valid,
  parts_of_text reply
      ∙ ap (λ z. kind_word z ++ behind_word (reply_rest reply)) h.kind_is
      ∙ ap (λ z. kind_word k ++ behind_word z) h.rest_is
      ∙ ap (λ z. z ++ behind_word rest) (sym is)
      ∙ sym cut,
)

pub no_entry : (text tail : List ℕ) (n : ℕ) → BeginsWithNumber (2 ^ 64) text n tail → ¬ IsActionText tail
    → (r : Reply) → ¬ StandsBehind kind.Entry (Some text) r
no_entry text tail n number none r h =
    only_entry (λ r. StandsBehind kind.Entry (Some text) r → ⊥)
    (λ place action g.
    let same = number_same place n (text_of action) tail g.valid.0 number.fits (some_same g.rest_is ∙ number.split) in
    none (record { action = action; valid = g.valid.1; same = sym same.1 }))
    r h.kind_is h

pub no_refused : (text tail : List ℕ) (n : ℕ) → BeginsWithNumber (2 ^ 8) text n tail
    → ((told : ℕ) → ¬ IsRefusalBehind n tail told) → (r : Reply) → ¬ StandsBehind kind.Refused (Some text) r
no_refused text tail n number none r h =
    only_refused (λ r. StandsBehind kind.Refused (Some text) r → ⊥)
    (λ code told g.
    let same = number_same code n _ tail (omega (arith, g.valid.0)) (omega (arith, number.fits)) (some_same g.rest_is ∙ number.split) in
    none told (subst (λ z. IsRefusalBehind z tail told) same.0 (record { fits = g.valid.1; told = g.valid.2; same = sym same.1 })))
    r h.kind_is h

with_front : (b : Bool) (o : Option (List ℕ)) (front : List ℕ) (n : ℕ) → Some front ≡ o → (tail : List ℕ) × (with_number b o n ≡ front ++ tail)
with_front b None front n e = cc
with_front true (Some text) front n e = (32 ∷ decimal n, (let same : front ≡ text = cc in ap (λ z. z ++ 32 ∷ decimal n) (sym same)))
with_front false (Some text) front n e = ([], (let same : front ≡ text = cc in sym same ∙ sym (append-nil front)))

pub no_refusal : (code : ℕ) (text front : List ℕ) → Some front ≡ refusal_text code → ((tail : List ℕ) → text ≢ front ++ tail)
    → (n : ℕ) → ¬ IsRefusalBehind code text n
no_refusal code text front listed none n h =
    let parts = with_front (has_number code) (refusal_text code) front n listed in
    none parts.0 (h.same ∙ parts.1)

complete-plain : (b : Bool) → HasNoSpace (complete_or_partial b)
complete-plain true = refl
complete-plain false = refl

pub complete_same : (b d : Bool) (x y : List ℕ) → complete_or_partial b ++ 32 ∷ x ≡ complete_or_partial d ++ 32 ∷ y
    → (complete_or_partial b ≡ complete_or_partial d) × (x ≡ y)
complete_same b d x y e =
    let cut = cut_same (complete_or_partial b) (complete_or_partial d) (Some x) (Some y) (complete-plain b) (complete-plain d) e in
    (cut.0, some_same cut.1)

pub no_status : (text middle tail : List ℕ) (b : Bool) (n : ℕ)
    → text ≡ complete_or_partial b ++ 32 ∷ middle → BeginsWithNumber (2 ^ 64) middle n tail
    → ((s : ℕ) → s < 2 ^ 64 → tail ≢ nodes_text s) → (r : Reply) → ¬ StandsBehind kind.Status (Some text) r
no_status text middle tail b n front number none r h =
    only_status (λ r. StandsBehind kind.Status (Some text) r → ⊥)
    (λ complete count nodes g.
    let behind_front = (complete_same complete b (decimal count ++ 32 ∷ nodes_text nodes) middle (some_same g.rest_is ∙ front)).1 in
    let same = number_same count n (nodes_text nodes) tail g.valid.0 number.fits (behind_front ∙ number.split) in
    none nodes g.valid.1 (sym same.1))
    r h.kind_is h
