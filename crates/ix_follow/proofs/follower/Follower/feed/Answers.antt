use Rattle.std.proofs.Common.{refl, sym}
use Rattle.ix_proto.specs.declared.reply.Reply.TheVariants.{Entry, Refused}
use Rattle.ix_follow.specs.Following.{no_entry}
use Rattle.ix_follow.proofs.Entries.{is_refusal}
use Rattle.ix_follow.proofs.follower.Follower.feed.Goals as goal

pub returns-in-Some-clause-feeds : goal.returns-in-Some-clause-feeds
returns-in-Some-clause-feeds c = c.hear.ensures.hears c.args.line.now c.in-Some.ensures.0 c.in-Some.ensures.1

pub returns-in-None-clause-feeds : goal.returns-in-None-clause-feeds
returns-in-None-clause-feeds c = no_entry (λ n a is. c.in-None.ensures (record { reply = Entry n a; valid = is.entry; same = is.text }))
    (λ told. c.in-None.ensures (record { reply = Refused 33 0; valid = is_refusal; same = sym told })) refl refl
