use Rattle.std.proofs.Common.{◌≡◌, ◌+◌, ◌*◌, ◌≤◌, ◌++◌, length, take}
use Rattle.ix_next.proofs.CandidateTexts.{behind_commas}
use Rattle.ix_next.proofs.candidate.write_rest.Given as goal

abbrev pub invariant-loop-term : goal.invariant-loop-term
invariant-loop-term l = record {
  written : l.out.items ≡ l.fn.out.items ++ behind_commas (take l.term-index l.rest);
  short : length l.out.items ≤ 65 + 33 * l.term-index;
}
