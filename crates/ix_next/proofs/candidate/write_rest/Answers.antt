use Rattle.std.proofs.Common.{arith}
use Rattle.ix_next.proofs.CandidateTexts.{rest_written}
use Rattle.ix_next.proofs.candidate.write_rest.Goals as goal

pub returns-clause-text : goal.returns-clause-text
returns-clause-text c = rest_written c.args.out.now.items c.loop-term.out.items c.push-2.new.self.items c.args.rest.now c.loop-term.term-index (omega (arith, c.loop-term-test.false)) c.loop-term.invariant.written c.push-2.ensures.items
