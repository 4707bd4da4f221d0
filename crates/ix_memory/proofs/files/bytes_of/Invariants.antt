use Rattle.std.proofs.Common.{map, drop, string_bytes}
use Rattle.ix_memory.proofs.Looking.{Leads}
use Rattle.ix_memory.proofs.files.bytes_of.Given as goal

abbrev pub invariant-loop-known : goal.invariant-loop-known
invariant-loop-known l =
    Leads (map (λ file. (string_bytes file.0, file.1.items)) (drop l.known-index l.files))
    (map (λ file. (string_bytes file.0, file.1.items)) l.files) l.name
