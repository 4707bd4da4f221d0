use Rattle.std.proofs.Common.{refl, ◌∙◌, ap, length}
use Rattle.ix_manager.specs.Machine.{MachineState, count}
use Rattle.ix_manager.specs.declared.faults.Go.TheVariants.{More, Stopped}
use Rattle.ix_manager.specs.inside.Core.{Core}
use Rattle.ix_manager.specs.inside.WireState.{wired}
use Rattle.ix_words.specs.Each.{item, no_item}
use Rattle.ix_watch.specs.inside.Watches.{changes_of}
use Rattle.ix_manager.proofs.AcknowledgedLemmas.{answered_within, changes_within}
use Rattle.ix_manager.proofs.AnswerLemmas.{one_answered, stop_answered, poll_answered}
use Rattle.ix_manager.proofs.HistoryLemmas.{number_rises, told_reserves}
use Rattle.ix_manager.proofs.OverLemmas.{request_over, confirm_request}
use Rattle.ix_manager.proofs.answering.answer_request.Goals as goal

-- one reply
pub returns-in-One : goal.returns-in-One
returns-in-One g c =
    let a = c.args.site.now in
    let b = c.send_reply.new.site in
    let before = wired c.args.gone.now (g.S.Site.state a) in
    let after = wired c.send_reply.new.gone (g.S.Site.state b) in
    let old = c.args.journaled.now.machine in
    request_over c.args.conn c.args.request.now More c.args.journaled.now (record c.args.journaled.now { machine = c.answer.new.self }) before after (g.S.Site.crashes a) (g.S.Site.crashes b)
    (g.met.S.Site.lawful a) (g.met.S.Site.lawful b) c.requires.fits c.answer.ensures.history c.answer.ensures.tickets refl _
    (one_answered c.args.conn c.args.request.now c.in-One.reply old c.answer.new.self before after
    c.in-One.ensures.answers c.send_reply.ensures.sends c.answer.ensures.form c.answer.ensures.limit
    (number_rises c.answer.ensures.tickets))
    c.send_reply.ensures.only
    (let asked = c.requires.plain in
    answered_within (c.in-One.ensures.answers.0 asked.0 asked.1 asked.2)
    (ap length c.answer.ensures.history))

-- a poll is told
pub returns-in-Poll : goal.returns-in-Poll
returns-in-Poll g c =
    let a = c.args.site.now in
    let b = c.send_changes.new.site in
    let before = wired c.args.gone.now (g.S.Site.state a) in
    let after = wired c.send_changes.new.gone (g.S.Site.state b) in
    let old = c.args.journaled.now.machine in
    let polls = c.in-Poll.ensures.answers in
    request_over c.args.conn c.args.request.now More c.args.journaled.now (record c.args.journaled.now { machine = c.tell.new.self }) before after (g.S.Site.crashes a) (g.S.Site.crashes b)
    (g.met.S.Site.lawful a) (g.met.S.Site.lawful b) c.requires.fits
    (ap (λ (s : MachineState). s.history) c.tell.ensures.rest ∙ c.answer.ensures.history)
    (told_reserves old c.answer.new.self c.tell.new.self c.in-Poll.name c.tell.ensures polls.1) refl _
    (poll_answered c.args.conn c.args.request.now c.in-Poll.name old c.answer.new.self c.tell.new.self before after
    polls.0 polls.1 c.answer.ensures.form c.answer.ensures.limit c.tell.ensures c.send_changes.ensures.sends)
    c.send_changes.ensures.only (item tt
    (changes_within (count old.state) (changes_of c.in-Poll.name c.answer.new.self.noted)))

-- a confirm
pub returns-in-Confirm : goal.returns-in-Confirm
returns-in-Confirm g c =
    let j = c.args.journaled.now in
    let facts = c.in-Confirm.ensures.answers in
    confirm_request c.args.conn c.args.request.now c.in-Confirm.ticket c.answer_confirm.result j _ c.answer_confirm.new.journaled
    (wired c.args.gone.now (g.S.Site.state c.args.site.now)) (wired c.answer_confirm.new.gone (g.S.Site.state c.answer_confirm.new.site))
    (g.S.Site.crashes c.args.site.now) (g.S.Site.crashes c.answer_confirm.new.site) facts.0
    (ap (λ (core : Core). record j { machine = core }) facts.1) c.answer_confirm.ensures

-- `stop`
pub returns-in-Stop : goal.returns-in-Stop
returns-in-Stop g c =
    let a = c.args.site.now in
    let b = c.send_reply-in-Stop.new.site in
    let before = wired c.args.gone.now (g.S.Site.state a) in
    let after = wired c.send_reply-in-Stop.new.gone (g.S.Site.state b) in
    let old = c.args.journaled.now.machine in
    request_over c.args.conn c.args.request.now Stopped c.args.journaled.now (record c.args.journaled.now { machine = c.answer.new.self }) before after (g.S.Site.crashes a) (g.S.Site.crashes b)
    (g.met.S.Site.lawful a) (g.met.S.Site.lawful b) c.requires.fits c.answer.ensures.history c.answer.ensures.tickets refl _
    (stop_answered c.args.conn c.args.request.now old c.answer.new.self before after
    c.in-Stop.ensures.answers c.send_reply-in-Stop.ensures.sends)
    c.send_reply-in-Stop.ensures.only (item tt no_item)
