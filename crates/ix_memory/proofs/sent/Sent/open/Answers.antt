-- The name of the file, whose text was put behind the bytes.
use Rattle.ix_memory.proofs.Spanning.{AreKept-name, sends_of-more, text_at-last}
use Rattle.ix_memory.proofs.sent.Sent.open.Goals as goal

pub invariant_of-self : goal.invariant_of-self
invariant_of-self c = rw c.kept-span.ensures.items
    (AreKept-name _ _ _ _ c.self.inside.name c.kept-span.result c.self.invariant
    c.kept-span.ensures.start c.kept-span.ensures.end)

pub returns-clause-sends : goal.returns-clause-sends
returns-clause-sends c = rw (← c.self.view_is, c.kept-span.ensures.items)
    (sends_of-more _ _ _ _ _ c.self.inside.name c.self.invariant)

pub returns-clause-name : goal.returns-clause-name
returns-clause-name c = rw c.kept-span.ensures.items
    (text_at-last _ _ c.kept-span.result
    c.kept-span.ensures.start c.kept-span.ensures.end)
