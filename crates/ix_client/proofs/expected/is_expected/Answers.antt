use Rattle.ix_client.specs.Links.{IsExpected}
use Rattle.ix_client.proofs.ExpectedLemmas.{holds_of, lends_asked}
use Rattle.ix_client.proofs.expected.is_expected.Goals as goal

pub returns-in-Some-read-clause-all : goal.returns-in-Some-read-clause-all
returns-in-Some-read-clause-all c = λ asked of with_.
    c.answers.ensures.all asked
    (lends_asked c.texts_tell_tickets_apart.ensures asked c.args.line.now c.in-Some.words.now c.in-Some.field-0-0.now c.in-Ok.request of
    c.in-Some.ensures.cases.0 c.in-Ok.ensures)
    (holds_of c.texts_tell_replies_apart.ensures (IsExpected asked) c.args.reply.now c.in-Some-read.told c.in-Some-read.ensures.0 c.in-Some-read.ensures.1
    with_)
