use Rattle.ix_proto.proofs.FaultLemmas.{request_lines_have_one_fault}
use Rattle.ix_proto.proofs.laws.request_lines_have_one_fault.Goals as goal

pub returns : goal.returns
returns c = request_lines_have_one_fault
