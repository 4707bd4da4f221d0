use Rattle.std.proofs.Common.{◌≡◌, ◌+◌, ◌-◌, refl, ap, subst, ◌∙◌, take, drop, length}
use Rattle.std.proofs.lemmas.List.{take_rest}
use Rattle.ix_lines.specs.Feeding.{Feeds, holds_after}
use Rattle.ix_lines.specs.inside.FeedAnswers.{told_item}
use Rattle.ix_lines.proofs.FeedLemmas.{tells_none}
use Rattle.ix_lines.proofs.ResumeLemmas.{skips_whole, feeds_behind}
use Rattle.ix_lines.proofs.Lines.feed.Goals as goal

-- the whole piece is skipped
pub returns-in_default : goal.returns-in_default
returns-in_default c =
    let none = (c.in_default.ensures).none in
    let facts = skips_whole c.args.piece.now none.1 in
    rw (none.2, none.0) ((refl, (λ _. tt), facts.1), record { tells = facts.0; more = (λ _. facts.2, λ _. refl); holds = tt })

-- the piece goes on with a line that isn't skipped
pub returns : goal.returns
returns c =
    let some = c.in-Some.ensures.some in
    let place = c.in-Some.start in
    let piece = c.args.piece.now in
    let fed = c.take_line-fed.result in
    let rest : take (length piece - place) (drop place piece) ≡ drop place piece = take_rest piece place in
    let tells = subst (λ t. Feeds c.resume.new.self t (told_item fed.kind) fed.used) rest c.take_line-fed.ensures.tells in
    let facts = feeds_behind c.args.self.now c.resume.new.self piece place (told_item fed.kind) fed.used some tells in
    let after = ap (λ t. holds_after c.resume.new.self (take fed.used t)) rest in (
      (refl, (λ _. tt), c.take_line-fed.follows.holds-at-none ∙ after ∙ facts.1),
      record { tells = facts.0; more = tells_none c.args.self.now piece (told_item fed.kind) (place + fed.used) facts.0; holds = tt },
    )
