use Rattle.script.proofs.answers.tell_used.Goals as goal

pub returns-else-counters-gt0 : goal.returns-else-counters-gt0
returns-else-counters-gt0 g c = g.met.H.Watch.nothing c.args.watch.now
