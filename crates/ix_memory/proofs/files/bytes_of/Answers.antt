-- A file is found where its name equals the one that is sought.
use Rattle.std.proofs.Common.{string_bytes, sym, ◌∙◌}
use Rattle.std.proofs.lemmas.Bool.{false≢true}
use Rattle.std.proofs.lemmas.Slice.Eq.{bytes_eq-Decides}
use Rattle.ix_memory.proofs.Looking.{Leads-found, Leads-next}
use Rattle.ix_memory.proofs.files.bytes_of.Goals as goal

pub returns-then-eq : goal.returns-then-eq
returns-then-eq c = rw c.as_slice.ensures.value
    (Leads-found (λ file. (string_bytes file.0, file.1.items)) c.args.files.now c.loop-known.known-index c.loop-known-item.result _ _
    c.loop-known-test.true c.loop-known-item.is c.loop-known.invariant
    (sym c.as_str.ensures.value ∙ (bytes_eq-Decides c.as_str.result.now c.args.name.now).0 (sym c.if-eq.ensures)))

pub loop-known-preserved : goal.loop-known-preserved
loop-known-preserved c =
    Leads-next (λ file. (string_bytes file.0, file.1.items)) c.args.files.now c.loop-known.known-index c.loop-known-item.result _ _
    c.loop-known-test.true c.loop-known-item.is c.loop-known.invariant
    (λ same. false≢true (c.if-eq.ensures ∙ (bytes_eq-Decides c.as_str.result.now c.args.name.now).1 (c.as_str.ensures.value ∙ same)))
