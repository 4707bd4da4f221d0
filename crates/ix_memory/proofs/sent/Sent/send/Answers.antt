-- One more pair, whose text was put behind the bytes.
use Rattle.ix_memory.proofs.Spanning.{AreKept-pair, sends_of-pair, text_at-more}
use Rattle.ix_memory.proofs.sent.Sent.send.Goals as goal

pub invariant_of-self : goal.invariant_of-self
invariant_of-self c = rw (c.kept-span.ensures.items, c.put.ensures.items)
    (AreKept-pair _ _ _ _ _ _ c.kept-span.result c.self.invariant
    c.kept-span.ensures.start c.kept-span.ensures.end)

pub returns-clause-sends : goal.returns-clause-sends
returns-clause-sends c = rw (← c.self.view_is, c.kept-span.ensures.items, c.put.ensures.items)
    (sends_of-pair _ _ _ _ _ _ _ c.kept-span.result c.self.invariant
    c.kept-span.ensures.start c.kept-span.ensures.end)

pub returns-clause-name : goal.returns-clause-name
returns-clause-name c = rw (← c.self.view_is, c.kept-span.ensures.items)
    (text_at-more c.self.inside.bytes.items _ c.self.inside.name c.self.invariant.of_name)
