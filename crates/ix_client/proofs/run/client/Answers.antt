use Rattle.std.proofs.Common.{map}
use Rattle.std.specs.Prelude.{string_bytes}
use Rattle.ix_client.specs.Client.{ClientEnds}
use Rattle.ix_client.proofs.ClientCauses.{link_cause, never_cause, plain_run, reply_cause, unsure_cause}
use Rattle.ix_client.proofs.ClientCalls.{runs_calls}
use Rattle.ix_client.proofs.ClientTold.{refused_run, told_run}
use Rattle.ix_client.proofs.run.client.Goals as goal

pub returns : goal.returns
returns g c =
    let words = map string_bytes c.args.words.now in
    let s = g.L.Link.state c.args.link.now in
    let u = g.L.Link.state c.run-ended.new.link in
    let before = g.K.Sink.state c.args.out.now in
    let after = g.K.Sink.state c.finish.new.out in
    let run : ClientEnds words c.finish.result s u before after = record {
      how = c.run-ended.result;
      runs = c.run-ended.ensures;
      puts = c.finish.ensures.line;
    } in
    record {
      ends = run;
      puts = c.finish.ensures.puts;
      calls = runs_calls words c.run-ended.result s u c.run-ended.ensures;
      never = never_cause words c.finish.result s u before after run;
      failed = link_cause words c.finish.result s u before after run;
      balked = reply_cause words c.finish.result s u before after run;
      unsure = unsure_cause words c.finish.result s u before after run;
      plain = plain_run words c.finish.result s u before after run;
      done = told_run words c.finish.result s u before after run;
      refused = refused_run words c.finish.result s u before after run;
    }
