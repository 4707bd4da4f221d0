-- The entry that a line tells.
use Rattle.std.proofs.Common.{◌≡◌, ◌≢◌, ℕ, ◌≤◌, List, refl, sym, ◌∙◌, ap, subst, arith}
use Rattle.ix_values.specs.PlainAction.{PlainAction}
use Rattle.ix_proto.specs.Replies.{IsReply, reply_text}
use Rattle.ix_proto.specs.declared.reply.Reply.{Reply}
use Rattle.ix_proto.specs.declared.reply.Reply.TheVariants.{Entry, Refused}
use Rattle.ix_proto.proofs.RepliesApart.{entry_apart, refusal_apart}
use Rattle.ix_follow.specs.Following.{IsEntryLine, IsLeftOut}

-- a line tells one entry
pub same_entry : (line : List ℕ) (n m : ℕ) (a b : PlainAction) → IsEntryLine line n a → IsEntryLine line m b → n ≡ m
same_entry line n m a b e f =
    let same : Entry n a ≡ Entry m b = entry_apart n a (Entry m b) e.entry f.entry (e.text ∙ sym f.text) in
    cc

-- and none where it is the text of a reply that is no entry
pub no_entry_told : (r : Reply) (line : List ℕ) → IsReply r → reply_text r ≡ line → ((n : ℕ) (a : PlainAction) → 1 ≤ n → r ≢ Entry n a)
    → (n : ℕ) (a : PlainAction) → IsEntryLine line n a → ⊥
no_entry_told r line valid text apart n a is =
    apart n a is.from_one (sym (entry_apart n a r is.entry valid (is.text ∙ sym text)))

-- an entry without a number from 1 is none
pub no_number : (a : PlainAction) (n m : ℕ) (b : PlainAction) → n ≡ 0 → 1 ≤ m → Entry n a ≢ Entry m b
no_number a n m b zero one same = let number : n ≡ m = cc in omega (arith, number, zero, one)

-- the refusal of an entry that is left out is a reply
pub is_refusal : IsReply (Refused 33 0)
is_refusal = (omega arith, omega arith, record { listed = refl; zero_else = λ e. refl })

-- and no entry
pub left_out_is_none : (line : List ℕ) (n : ℕ) (a : PlainAction) → IsLeftOut line → IsEntryLine line n a → ⊥
left_out_is_none line n a told is =
    let same : Entry n a ≡ Refused 33 0 = entry_apart n a (Refused 33 0) is.entry is_refusal (is.text ∙ told) in
    cc

-- the text of another reply isn't that refusal
pub no_left_out : (r : Reply) (line : List ℕ) → IsReply r → reply_text r ≡ line → r ≢ Refused 33 0 → IsLeftOut line → ⊥
no_left_out r line valid text apart told = apart (sym (refusal_apart 33 0 r is_refusal valid (sym (text ∙ told))))

-- a refusal of that code has no number
pub no_number_of : (r : Reply) (line : List ℕ) (code number : ℕ) → IsReply r → reply_text r ≡ line → r ≡ Refused code number → code ≡ 33 → IsLeftOut line
no_number_of r line code number valid text is named =
    let of : IsReply (Refused 33 number) = subst IsReply (is ∙ ap (λ n. Refused n number) named) valid in
    sym text ∙ ap reply_text (is ∙ ap (λ n. Refused n number) named ∙ ap (Refused 33) (of.2.zero_else refl))
