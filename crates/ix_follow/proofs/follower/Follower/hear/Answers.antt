use Rattle.std.proofs.Common.{◌≡◌, refl, sym, ◌∙◌, ap, subst, arith}
use Rattle.ix_proto.specs.Replies.{IsReply, reply_text}
use Rattle.ix_follow.specs.Following.{entry, no_entry}
use Rattle.ix_follow.proofs.Entries.{no_entry_told, no_number, no_left_out}
use Rattle.ix_follow.proofs.follower.Follower.hear.Goals as goal

pub returns-then-number-eq0-clause-hears : goal.returns-then-number-eq0-clause-hears
returns-then-number-eq0-clause-hears c = λ line valid text.
    let it = c.in-Entry in
    let zero : it.number ≡ 0 = omega arith in
    no_entry (no_entry_told c.args.reply.now line valid text (λ n a one same. no_number it.action it.number n a zero one (sym it.is ∙ same)))
    (no_left_out c.args.reply.now line valid text (λ same. let refused = sym it.is ∙ same in cc)) refl refl

pub returns-else-number-eq0-clause-hears : goal.returns-else-number-eq0-clause-hears
returns-else-number-eq0-clause-hears c = λ line valid text.
    let it = c.in-Entry in
    entry
    (record { entry = subst IsReply it.is valid; from_one = omega arith; text = ap reply_text (sym it.is) ∙ text })
    c.meet.ensures.meets c.meet.ensures.leaves

pub returns-else-code-eq-ENTRY_LEFT_OUT-clause-hears : goal.returns-else-code-eq-ENTRY_LEFT_OUT-clause-hears
returns-else-code-eq-ENTRY_LEFT_OUT-clause-hears c = λ line valid text.
    let it = c.in-Refused in
    let other = c.if-code-eq-ENTRY_LEFT_OUT.false in
    no_entry (no_entry_told c.args.reply.now line valid text (λ n a one same. let refused = sym it.is ∙ same in cc))
    (no_left_out c.args.reply.now line valid text (λ same.
    let refused = sym it.is ∙ same in
    let code : it.code ≡ 33 = cc in
    absurd (omega (arith, other, code)))) refl refl
