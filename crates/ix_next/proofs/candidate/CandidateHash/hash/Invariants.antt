use Rattle.std.proofs.Common.{◌≡◌, fold, take, map}
use Rattle.ix_next.specs.lemmas.Same.{hashed}
use Rattle.ix_next.proofs.candidate.CandidateHash.hash.Given as goal

abbrev pub invariant-loop-term : goal.invariant-loop-term
invariant-loop-term g l = l.state ≡ fold g.H.Hasher.write l.initial.state (map hashed (take l.term-index l.term-items))
