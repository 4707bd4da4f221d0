use Rattle.ix_journal.proofs.RenewedLaws.{renewed_whole}
use Rattle.ix_journal.proofs.writing.renewed_bytes.Goals as goal

pub returns-clause-bytes : goal.returns-clause-bytes
returns-clause-bytes c =
    renewed_whole _ _ _ _ c.args.carried.now c.args.actions c.args.boots
    c.new-bytes.ensures.items c.in_ok-append_carried.ensures.bytes c.in_ok-append_open.ensures.bytes c.in_ok-push.ensures.items
