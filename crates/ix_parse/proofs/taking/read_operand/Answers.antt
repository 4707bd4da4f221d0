use Rattle.std.proofs.Common.{Some, sym, ap, ◌∙◌, subst}
use Rattle.ix_lex.specs.inside.Items.{plain_token, item_pieces}
use Rattle.ix_parse.specs.inside.Progress.{Progress}
use Rattle.ix_parse.specs.inside.Configs.{config_of}
use Rattle.ix_parse.specs.inside.Outcomes.{pending, IsFaultOf}
use Rattle.ix_parse.proofs.Rounds.{round-start, round-may, round-readable, round-step, round-err, round-bad, round-end, at-token, at-bad, at-end, follower-pending, Progress-sound}
use Rattle.ix_parse.proofs.taking.read_operand.Goals as goal

pub loop-ahead-init : goal.loop-ahead-init
loop-ahead-init c =
    round-start c.args.text.now c.next-ahead.result c.new-tokens.result c.next-ahead.new.self (config_of c.new.result) c.new-tokens.ensures c.next-ahead.ensures.steps c.new.ensures

pub returns-in-Err : goal.returns-in-Err
returns-in-Err c =
    let text = c.args.text.now in
    let here = at-bad (item_pieces 0 text) c.loop-ahead.ahead c.loop-ahead.tokens c.in-Err.fault (config_of c.loop-ahead.reading.reader) c.loop-ahead.reading.nodes c.loop-ahead.invariant (c.in-Some.is ∙ ap Some c.in-Err.is) in
    subst (λ fault. IsFaultOf text fault) (sym c.fault_at.ensures)
    (round-bad text _ c.in-Err.fault.at (config_of c.loop-ahead.reading.reader) c.loop-ahead.reading.nodes c.requires here)

pub take-requires-clause-may : goal.take-requires-clause-may
take-requires-clause-may c =
    let text = c.args.text.now in
    let r = c.next-ahead-in-Some.result in
    let t = c.next-ahead-in-Some.new.self in
    let here = at-token (item_pieces 0 text) c.loop-ahead.ahead r c.loop-ahead.tokens t c.in-Ok.token (config_of c.loop-ahead.reading.reader) c.loop-ahead.reading.nodes c.loop-ahead.invariant (c.in-Some.is ∙ ap Some c.in-Ok.is) c.next-ahead-in-Some.ensures.steps in
    round-may text (pending r t) (plain_token c.in-Ok.token) (config_of c.loop-ahead.reading.reader) c.loop-ahead.reading.nodes c.follower.result here (follower-pending r t ∙ sym c.follower.ensures)

pub take-requires-clause-readable : goal.take-requires-clause-readable
take-requires-clause-readable c =
    let text = c.args.text.now in
    let r = c.next-ahead-in-Some.result in
    let t = c.next-ahead-in-Some.new.self in
    let here = at-token (item_pieces 0 text) c.loop-ahead.ahead r c.loop-ahead.tokens t c.in-Ok.token (config_of c.loop-ahead.reading.reader) c.loop-ahead.reading.nodes c.loop-ahead.invariant (c.in-Some.is ∙ ap Some c.in-Ok.is) c.next-ahead-in-Some.ensures.steps in
    round-readable text (pending r t) (plain_token c.in-Ok.token) (config_of c.loop-ahead.reading.reader) c.loop-ahead.reading.nodes c.follower.result here (follower-pending r t ∙ sym c.follower.ensures)

pub take-requires-clause-sound : goal.take-requires-clause-sound
take-requires-clause-sound c = Progress-sound _ _ (config_of c.loop-ahead.reading.reader) c.loop-ahead.reading.nodes c.loop-ahead.invariant

pub returns-in-Err-take : goal.returns-in-Err-take
returns-in-Err-take c =
    let text = c.args.text.now in
    let r = c.next-ahead-in-Some.result in
    let t = c.next-ahead-in-Some.new.self in
    let here = at-token (item_pieces 0 text) c.loop-ahead.ahead r c.loop-ahead.tokens t c.in-Ok.token (config_of c.loop-ahead.reading.reader) c.loop-ahead.reading.nodes c.loop-ahead.invariant (c.in-Some.is ∙ ap Some c.in-Ok.is) c.next-ahead-in-Some.ensures.steps in
    round-err text (pending r t) (plain_token c.in-Ok.token) (config_of c.loop-ahead.reading.reader) c.loop-ahead.reading.nodes c.follower.result c.in-Err-take.fault here (follower-pending r t ∙ sym c.follower.ensures) c.requires c.in-Err-take.ensures

pub loop-ahead-preserved : goal.loop-ahead-preserved
loop-ahead-preserved c =
    let text = c.args.text.now in
    let r = c.next-ahead-in-Some.result in
    let t = c.next-ahead-in-Some.new.self in
    let here = at-token (item_pieces 0 text) c.loop-ahead.ahead r c.loop-ahead.tokens t c.in-Ok.token (config_of c.loop-ahead.reading.reader) c.loop-ahead.reading.nodes c.loop-ahead.invariant (c.in-Some.is ∙ ap Some c.in-Ok.is) c.next-ahead-in-Some.ensures.steps in
    let next = config_of c.in-Ok-take.reading.reader in
    subst (λ n. Progress (item_pieces 0 text) (pending r t) next n) (sym c.in-Ok-take.ensures.2)
    (round-step text (pending r t) (plain_token c.in-Ok.token) (config_of c.loop-ahead.reading.reader) c.loop-ahead.reading.nodes c.follower.result here (follower-pending r t ∙ sym c.follower.ensures) next c.in-Ok-take.ensures.0 c.in-Ok-take.ensures.1)

pub finish-requires : goal.finish-requires
finish-requires c = Progress-sound _ _ (config_of c.loop-ahead.reading.reader) c.loop-ahead.reading.nodes c.loop-ahead.invariant

pub returns : goal.returns
returns c =
    let text = c.args.text.now in
    round-end text (config_of c.loop-ahead.reading.reader) c.loop-ahead.reading.nodes c.finish.result c.requires
    (at-end (item_pieces 0 text) c.loop-ahead.ahead c.loop-ahead.tokens (config_of c.loop-ahead.reading.reader) c.loop-ahead.reading.nodes c.loop-ahead.invariant c.in_default.is)
    c.finish.ensures
