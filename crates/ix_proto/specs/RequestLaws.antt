-- What holds of requests and faults.
use Rattle.std.specs.Prelude.{◌≡◌, ℕ, List}
use Rattle.ix_proto.specs.Requests.{PlainRequest, IsRequest, request_words}
use Rattle.ix_proto.specs.RequestFaults.{IsRequestFault}

-- no request's line has a fault
abbrev pub FaultsTellNoRequest : Type 0
FaultsTellNoRequest = (request : PlainRequest) (code : ℕ) → IsRequest request
    → ¬ IsRequestFault (request_words request) code

-- a request line has at most one fault code
abbrev pub RequestLinesHaveOneFault : Type 0
RequestLinesHaveOneFault = (words : List (List ℕ)) (c d : ℕ) → IsRequestFault words c
    → IsRequestFault words d → c ≡ d
