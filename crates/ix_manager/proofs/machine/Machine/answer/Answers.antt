use Rattle.std.proofs.Common.{[], ◌∷◌, refl, sym, subst}
use Rattle.ix_proto.specs.Requests.{PlainRequest, stop}
use Rattle.ix_proto.specs.inside.Lends.{LendsRequest}
use Rattle.ix_proto.specs.declared.request.Request.{Request}
use Rattle.ix_proto.specs.declared.reply.Reply.{Reply}
use Rattle.ix_manager.specs.Machine.{Step}
use Rattle.ix_manager.specs.inside.Core.{Core}
use Rattle.ix_manager.proofs.Requesting.{OfEach, ask_is, may_is, watch_is, drop_is}
use Rattle.ix_manager.proofs.HistoryLemmas.{does_history, poll_history, step_reserves, poll_reserves}
use Rattle.ix_manager.proofs.machine.Machine.answer.Goals as goal

-- the step of a request that was answered by one reply
abbrev StepsTo : Core → Reply → Core → PlainRequest → Type 0
StepsTo old one new plain = Step old.form old.limit old.state plain (one ∷ []) new.state

-- a request that isn't `stop`
abbrev EndsNoRun : Request → Type 0
EndsNoRun request = ¬ LendsRequest request stop

pub returns-in-Ask-clause-answers : goal.returns-in-Ask-clause-answers
returns-in-Ask-clause-answers c =
    let P = StepsTo c.args.self.now c.ask.result c.ask.new.self in (
      subst (λ (r : Request). OfEach r P) (sym c.in-Ask.is)
          (ask_is P c.in-Ask.action c.in-Ask.lease c.of_text.result c.of_text.ensures.valid c.of_text.ensures.same c.ask.ensures.step),
      subst EndsNoRun (sym c.in-Ask.is) (λ h. h),
      c.ask.ensures.told,
    )

pub returns-in-May-clause-answers : goal.returns-in-May-clause-answers
returns-in-May-clause-answers c =
    let P = StepsTo c.args.self.now c.may.result c.args.self.now in
    let read = c.of_text-in-May in (
      subst (λ (r : Request). OfEach r P) (sym c.in-May.is)
          (may_is P c.in-May.action read.result read.ensures.valid read.ensures.same c.may.ensures.step),
      subst EndsNoRun (sym c.in-May.is) (λ h. h),
      c.may.ensures.told,
    )

pub returns-in-Watch-clause-answers : goal.returns-in-Watch-clause-answers
returns-in-Watch-clause-answers c =
    let P = StepsTo c.args.self.now c.watch.result c.watch.new.self in
    let read = c.of_text-in-Watch-2 in (
      subst (λ (r : Request). OfEach r P) (sym c.in-Watch.is)
          (watch_is P c.in-Watch.name c.in-Watch.action c.of_text-in-Watch.result read.result c.of_text-in-Watch.ensures read.ensures.valid read.ensures.same c.watch.ensures.step),
      subst EndsNoRun (sym c.in-Watch.is) (λ h. h),
      c.watch.ensures.told,
    )

pub returns-in-Drop-clause-answers : goal.returns-in-Drop-clause-answers
returns-in-Drop-clause-answers c =
    let P = StepsTo c.args.self.now c.drop_watch.result c.drop_watch.new.self in
    let read = c.of_text-in-Drop-2 in (
      subst (λ (r : Request). OfEach r P) (sym c.in-Drop.is)
          (drop_is P c.in-Drop.name c.in-Drop.action c.of_text-in-Drop.result read.result c.of_text-in-Drop.ensures read.ensures.valid read.ensures.same c.drop_watch.ensures.step),
      subst EndsNoRun (sym c.in-Drop.is) (λ h. h),
      c.drop_watch.ensures.told,
    )

pub returns-in-Stop-clause-answers : goal.returns-in-Stop-clause-answers
returns-in-Stop-clause-answers c = (subst (λ (r : Request). LendsRequest r stop) (sym c.in-Stop.is) tt, refl)

-- none of these changes the history
pub returns-in-Ask-clause-history : goal.returns-in-Ask-clause-history
returns-in-Ask-clause-history c = does_history c.args.self.now c.ask.new.self _ c.ask.result tt c.ask.ensures

pub returns-in-Cancel-clause-history : goal.returns-in-Cancel-clause-history
returns-in-Cancel-clause-history c = does_history c.args.self.now c.cancel.new.self _ c.cancel.result tt c.cancel.ensures

pub returns-in-Watch-clause-history : goal.returns-in-Watch-clause-history
returns-in-Watch-clause-history c = does_history c.args.self.now c.watch.new.self _ c.watch.result tt c.watch.ensures

pub returns-in-Drop-clause-history : goal.returns-in-Drop-clause-history
returns-in-Drop-clause-history c = does_history c.args.self.now c.drop_watch.new.self _ c.drop_watch.result tt c.drop_watch.ensures

pub returns-in-Poll-clause-history : goal.returns-in-Poll-clause-history
returns-in-Poll-clause-history c = poll_history c.args.self.now c.poll.new.self _ c.poll.result c.poll.ensures

-- each may reserve the next ticket
pub returns-in-Ask-clause-tickets : goal.returns-in-Ask-clause-tickets
returns-in-Ask-clause-tickets c = step_reserves c.ask.ensures.step

pub returns-in-Cancel-clause-tickets : goal.returns-in-Cancel-clause-tickets
returns-in-Cancel-clause-tickets c = step_reserves c.cancel.ensures.step

pub returns-in-Watch-clause-tickets : goal.returns-in-Watch-clause-tickets
returns-in-Watch-clause-tickets c = step_reserves c.watch.ensures.step

pub returns-in-Drop-clause-tickets : goal.returns-in-Drop-clause-tickets
returns-in-Drop-clause-tickets c = step_reserves c.drop_watch.ensures.step

pub returns-in-Poll-clause-tickets : goal.returns-in-Poll-clause-tickets
returns-in-Poll-clause-tickets c = poll_reserves c.args.self.now c.poll.new.self _ c.poll.result c.poll.ensures
