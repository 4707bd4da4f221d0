use Rattle.ix_proto.proofs.FaultLemmas.{faults_tell_no_request}
use Rattle.ix_proto.proofs.laws.faults_tell_no_request.Goals as goal

pub returns : goal.returns
returns c = faults_tell_no_request
