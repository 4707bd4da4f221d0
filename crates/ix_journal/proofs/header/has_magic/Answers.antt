use Rattle.ix_journal.proofs.HeaderFronts.{first_magic, second_magic, third_magic}
use Rattle.ix_journal.proofs.header.has_magic.Goals as goal

pub returns-then-starts_with : goal.returns-then-starts_with
returns-then-starts_with c =
    (λ is. first_magic _ _ c.starts_with.ensures.value c.if-starts_with.true, λ w. cc)

pub returns-then-starts_with-2 : goal.returns-then-starts_with-2
returns-then-starts_with-2 c =
    (λ is. second_magic _ _ c.starts_with-2.ensures.value c.if-starts_with-2.true, λ w. cc)

pub returns : goal.returns
returns c =
    third_magic _ _ _ _ c.starts_with.ensures.value c.starts_with-2.ensures.value
    c.starts_with-3.ensures.value c.if-starts_with.false c.if-starts_with-2.false
