use Rattle.text.specs.Buffered.{writer_contents}
use Rattle.program.proofs.replay_call.replay_files.Goals as goal

pub returns : goal.returns
returns g c = record {
  script = g.T.Read.remaining c.args.inputs.script;
  departures_old = writer_contents g.V.Write.contents c.args.departures;
  departures_new = g.V.Write.contents c.answer_replay-writer.result.2;
  ending = c.answer_replay-writer.ensures;
}
