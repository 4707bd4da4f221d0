use Rattle.ix_client.proofs.HearingLemmas.{heard_line, heard_nothing}
use Rattle.ix_client.proofs.exchange.exchange.Goals as goal

pub returns-in-Ok : goal.returns-in-Ok
returns-in-Ok g c = λ asked line.
    heard_line c.texts_tell_replies_apart.ensures asked c.as_slice.result.now c.read.result _ _ c.read.ensures _ line c.in-Ok.ensures.once c.in-Ok.ensures.counts
    (rw c.as_slice.ensures.value (c.in-Ok.ensures.calls asked line))

pub returns-in-Err : goal.returns-in-Err
returns-in-Err g c = λ asked line. heard_nothing asked _ _ _ _ line c.in-Err.ensures.once c.in-Err.ensures.counts (c.in-Err.ensures.calls asked line)
