use Rattle.std.proofs.Common.{◌≡◌, ◌≤◌, sym, ap, subst, ◌∙◌, arith, take, length}
use Rattle.std.proofs.lemmas.List.{length-take-le}
use Rattle.ix_lines.specs.Feeding.{UnfinishedLine, skipping, unfinished}
use Rattle.ix_lines.specs.inside.FeedAnswers.{ResumesAt}
use Rattle.ix_lines.specs.inside.Buffer.{shown}
use Rattle.ix_lines.proofs.WindowLemmas.{no_end, skip_shown}
use Rattle.ix_lines.proofs.ResumeLemmas.{resumes_open, resumes_behind}
use Rattle.ix_lines.proofs.Lines.resume.Goals as goal

-- no line is skipped: at the piece's first byte
pub returns-then-not-self-clause-some : goal.returns-then-not-self-clause-some
returns-then-not-self-clause-some c =
    let part = take c.self.inside.open_len c.self.inside.buffer.items in
    let is : unfinished part ≡ c.args.self.now = ap (λ test. shown test part) (sym c.if-not-self.true) ∙ c.self.view_is in
    let fits : length part ≤ 512 = omega (arith, c.self.invariant.fits, length-take-le c.self.inside.open_len c.self.inside.buffer.items c.self.invariant.within) in
    subst (λ (h : UnfinishedLine). ResumesAt h c.args.piece.now 0 h) is (resumes_open part c.args.piece.now c.self.invariant.plain fits)

-- a line is skipped, and doesn't end
pub returns-in_err-end-clause-none : goal.returns-in_err-end-clause-none
returns-in_err-end-clause-none c =
    let skips : c.args.self.now ≡ skipping = skip_shown c.self.inside.skipping _ c.args.self.now c.self.view_is c.if-not-self.false in
    rw c.from_residual.ensures (skips, no_end c.args.piece.now (c.in_err-end.ensures), skips)

-- a line is skipped, and ends
pub returns-clause-some : goal.returns-clause-some
returns-clause-some c =
    let skips : c.args.self.now ≡ skipping = skip_shown c.self.inside.skipping _ c.args.self.now c.self.view_is c.if-not-self.false in
    let found = c.in_ok-end.ensures in
    rw (skips, c.clear.ensures) (resumes_behind c.args.piece.now c.in_ok-end.end found.0 found.1)
