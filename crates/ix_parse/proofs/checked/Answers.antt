use Rattle.std.proofs.Common.{◌≡◌, Some, length, refl, arith}
use Rattle.std.proofs.lemmas.Option.{slice_get_read}
use Rattle.ix_expr.specs.inside.FormOf.{form_of}
use Rattle.ix_expr.specs.FormFaults.{nodes_of, fault_at}
use Rattle.ix_parse.proofs.Endings.{in_range}
use Rattle.ix_parse.proofs.checked.Goals as goal

pub returns-in-Err : goal.returns-in-Err
returns-in-Err c =
    let nodes = nodes_of (form_of c.args.operand.expr) in
    let found = in_range nodes c.in-Err.fault.node (λ node. fault_at c.in-Err.fault.node node ≡ Some c.in-Err.fault.code) c.in-Err.ensures.fault.here in
    let same : length c.args.operand.places.items ≡ length nodes = c.requires.places in
    (c.in-Err.fault.node, c.in-Err.ensures.fault, slice_get_read c.args.operand.places.items (length c.args.operand.places.items) c.in-Err.fault.node c.index.result.now refl (omega arith) c.index.ensures)
