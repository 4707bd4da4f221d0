-- Two replies with one text are the same reply.
use Rattle.std.proofs.Common.{◌≡◌, ℕ, ◌<◌, ◌^◌, Bool, true, false, List, ◌∷◌, ◌++◌, codes, Option, Some, None, IsSome, refl, sym, ◌∙◌, ap, subst, arith}
use Rattle.std.specs.Fmt.{decimal}
use Rattle.std.proofs.lemmas.Fmt.{decimal_injective}
use Rattle.std.proofs.lemmas.List.{append_cancel_left}
use Rattle.ix_values.specs.PlainAction.{PlainAction, text_of}
use Rattle.ix_values.specs.Tickets.{ticket_text}
use Rattle.ix_values.proofs.TextsApart.{texts_apart}
use Rattle.ix_values.specs.Laws.{TextsTellTicketsApart}
use Rattle.ix_proto.specs.Replies.{IsReply, IsRefusal, IsOutcome, TextsTellRepliesApart, reply_text, outcome_text, yes_or_no, complete_or_partial, with_number, has_number, refusal_text}
use Rattle.ix_proto.specs.inside.ReplyParts.{kind_word, kind_of, reply_rest, nodes_text}
use Rattle.ix_lines.proofs.NumberCuts.{cut_same, number_same, some_same}
use Rattle.ix_proto.proofs.ReplyKinds as only
use Rattle.ix_proto.proofs.ReplyLemmas.{parts_of_text, kind-plain, same_kind, complete_same}
use Rattle.ix_proto.specs.declared.reply_read.Kind.TheVariants as kind
use Rattle.ix_proto.specs.declared.reply.Outcome.{Outcome as Became}
use Rattle.ix_proto.specs.declared.reply.Outcome.TheVariants as became
use Rattle.ix_proto.specs.declared.reply.Reply.{Reply}
use Rattle.ix_proto.specs.declared.reply.Reply.TheVariants.{Granted, Confirmed, Cancelled, Outcome, May, Watching, Dropped, Changes, Change, Status, Entry, Stopping, Refused}

answers_apart : (a b : Bool) → yes_or_no a ≡ yes_or_no b → a ≡ b
answers_apart true true e = refl
answers_apart true false e = cc
answers_apart false true e = cc
answers_apart false false e = refl

completes_apart : (a b : Bool) → complete_or_partial a ≡ complete_or_partial b → a ≡ b
completes_apart true true e = refl
completes_apart true false e = cc
completes_apart false true e = cc
completes_apart false false e = refl

outcomes_apart : (a b : Became) → IsOutcome a → IsOutcome b → outcome_text a ≡ outcome_text b → a ≡ b
outcomes_apart (became.Confirmed m) (became.Confirmed n) v w e =
    let same : decimal m ≡ decimal n = append_cancel_left (codes "confirmed ") (decimal m) (decimal n) e in
    ap became.Confirmed (decimal_injective m n v w same)
outcomes_apart (became.Confirmed m) became.Waiting v w e = cc
outcomes_apart (became.Confirmed m) became.Never v w e = cc
outcomes_apart became.Waiting (became.Confirmed n) v w e = cc
outcomes_apart became.Waiting became.Waiting v w e = refl
outcomes_apart became.Waiting became.Never v w e = cc
outcomes_apart became.Never (became.Confirmed n) v w e = cc
outcomes_apart became.Never became.Waiting v w e = cc
outcomes_apart became.Never became.Never v w e = refl

nodes_apart : (a b : ℕ) → a < 2 ^ 64 → b < 2 ^ 64 → nodes_text a ≡ nodes_text b → a ≡ b
nodes_apart a b l m e = let same : decimal a ≡ decimal b = cc in decimal_injective a b l m same

told_apart : (b : Bool) (o : Option (List ℕ)) (m n : ℕ) → IsSome o → (b ≡ false → m ≡ 0) → (b ≡ false → n ≡ 0)
    → m < 2 ^ 64 → n < 2 ^ 64 → with_number b o m ≡ with_number b o n → m ≡ n
told_apart true (Some text) m n some zero zero' l l' e =
    let tails : 32 ∷ decimal m ≡ 32 ∷ decimal n = append_cancel_left text (32 ∷ decimal m) (32 ∷ decimal n) e in
    let same : decimal m ≡ decimal n = cc in
    decimal_injective m n l l' same
told_apart false (Some text) m n some zero zero' l l' e = zero refl ∙ sym (zero' refl)
told_apart true None m n some zero zero' l l' e = cc
told_apart false None m n some zero zero' l l' e = cc

refused_apart : (c d m n : ℕ) → c ≡ d → m < 2 ^ 64 → n < 2 ^ 64 → IsRefusal c m → IsRefusal d n
    → with_number (has_number c) (refusal_text c) m ≡ with_number (has_number d) (refusal_text d) n → m ≡ n
refused_apart c d m n e l l' r r' h =
    let told : IsRefusal c n = subst (λ z. IsRefusal z n) (sym e) r' in
    let text : with_number (has_number c) (refusal_text c) m ≡ with_number (has_number c) (refusal_text c) n =
    h ∙ ap (λ z. with_number (has_number z) (refusal_text z) n) (sym e) in
    told_apart (has_number c) (refusal_text c) m n r.listed r.zero_else told.zero_else l l' text

same_entry : (m : ℕ) (action : PlainAction) (y : Reply) → IsReply (Entry m action) → IsReply y → kind_of y ≡ kind.Entry
    → reply_rest (Entry m action) ≡ reply_rest y → Entry m action ≡ y
same_entry m action y v w k b =
    only.only_entry (λ y. IsReply y → reply_rest (Entry m action) ≡ reply_rest y → Entry m action ≡ y)
    (λ n other w e.
    let places = number_same m n (text_of action) (text_of other) v.0 w.0 (some_same e) in
    λ i. Entry (places.0 i) (texts_apart action other v.1 w.1 places.1 i))
    y k w b

same_refusal : (c m : ℕ) (y : Reply) → IsReply (Refused c m) → IsReply y → kind_of y ≡ kind.Refused
    → reply_rest (Refused c m) ≡ reply_rest y → Refused c m ≡ y
same_refusal c m y v w k b =
    only.only_refused (λ y. IsReply y → reply_rest (Refused c m) ≡ reply_rest y → Refused c m ≡ y)
    (λ d n w e.
    let codes = number_same c d _ _ (omega (arith, v.0)) (omega (arith, w.0)) (some_same e) in
    λ i. Refused (codes.0 i) (refused_apart c d m n codes.0 v.1 w.1 v.2 w.2 codes.1 i))
    y k w b

same_reply : TextsTellTicketsApart → (x y : Reply) → IsReply x → IsReply y → kind_of y ≡ kind_of x → reply_rest x ≡ reply_rest y → x ≡ y
same_reply apart (Granted t) y v w k b =
    only.only_granted (λ y. IsReply y → Some (ticket_text t) ≡ reply_rest y → Granted t ≡ y)
    (λ u w e. ap Granted (apart t u v w (some_same e))) y k w b
same_reply apart (Confirmed t) y v w k b =
    only.only_confirmed (λ y. IsReply y → Some (decimal t) ≡ reply_rest y → Confirmed t ≡ y)
    (λ u w e. ap Confirmed (decimal_injective t u v w (some_same e))) y k w b
same_reply apart (Cancelled t) y v w k b =
    only.only_cancelled (λ y. IsReply y → Some (ticket_text t) ≡ reply_rest y → Cancelled t ≡ y)
    (λ u w e. ap Cancelled (apart t u v w (some_same e))) y k w b
same_reply apart (Outcome a) y v w k b =
    only.only_outcome (λ y. IsReply y → Some (outcome_text a) ≡ reply_rest y → Outcome a ≡ y)
    (λ u w e. ap Outcome (outcomes_apart a u v w (some_same e))) y k w b
same_reply apart (Changes t) y v w k b =
    only.only_changes (λ y. IsReply y → Some (decimal t) ≡ reply_rest y → Changes t ≡ y)
    (λ u w e. ap Changes (decimal_injective t u (omega (arith, v)) (omega (arith, w)) (some_same e))) y k w b
same_reply apart (May a) y v w k b =
    only.only_answer (λ y. None ≡ reply_rest y → May a ≡ y) a (λ e. refl) (λ action e. cc) y k b
same_reply apart (Change a action) y v w k b =
    only.only_answer (λ y. IsReply y → Some (text_of action) ≡ reply_rest y → Change a action ≡ y) a
    (λ w e. cc) (λ other w e. ap (Change a) (texts_apart action other v w (some_same e))) y k w b
same_reply apart (Watching a) y v w k b =
    only.only_watching (λ y. Some (yes_or_no a) ≡ reply_rest y → Watching a ≡ y)
    (λ c e. ap Watching (answers_apart a c (some_same e))) y k b
same_reply apart Dropped y v w k b = only.only_dropped (λ y. Dropped ≡ y) refl y k
same_reply apart Stopping y v w k b = only.only_stopping (λ y. Stopping ≡ y) refl y k
same_reply apart (Status a m s) y v w k b =
    only.only_status (λ y. IsReply y → reply_rest (Status a m s) ≡ reply_rest y → Status a m s ≡ y)
    (λ c n t w e.
    let front = complete_same a c (decimal m ++ 32 ∷ nodes_text s) (decimal n ++ 32 ∷ nodes_text t) (some_same e) in
    let counts = number_same m n (nodes_text s) (nodes_text t) v.0 w.0 front.1 in
    λ i. Status (completes_apart a c front.0 i) (counts.0 i) (nodes_apart s t v.1 w.1 counts.1 i))
    y k w b
same_reply apart (Entry m action) y v w k b = same_entry m action y v w k b
same_reply apart (Refused c m) y v w k b = same_refusal c m y v w k b

same_parts : (x y : Reply) → reply_text x ≡ reply_text y → (kind_of y ≡ kind_of x) × (reply_rest x ≡ reply_rest y)
same_parts x y e =
    let parts = cut_same (kind_word (kind_of x)) (kind_word (kind_of y)) (reply_rest x) (reply_rest y)
    (kind-plain (kind_of x)) (kind-plain (kind_of y)) (sym (parts_of_text x) ∙ e ∙ parts_of_text y) in
    (sym (same_kind (kind_of x) (kind_of y) parts.0), parts.1)

-- the text of an entry is no other reply's
pub entry_apart : (m : ℕ) (action : PlainAction) (y : Reply) → IsReply (Entry m action) → IsReply y
    → reply_text (Entry m action) ≡ reply_text y → Entry m action ≡ y
entry_apart m action y v w e =
    let parts = same_parts (Entry m action) y e in same_entry m action y v w parts.0 parts.1

-- nor is that of a refusal
pub refusal_apart : (c m : ℕ) (y : Reply) → IsReply (Refused c m) → IsReply y
    → reply_text (Refused c m) ≡ reply_text y → Refused c m ≡ y
refusal_apart c m y v w e =
    let parts = same_parts (Refused c m) y e in same_refusal c m y v w parts.0 parts.1

pub replies_apart : TextsTellTicketsApart → TextsTellRepliesApart
replies_apart apart x y v w e = let parts = same_parts x y e in same_reply apart x y v w parts.0 parts.1
