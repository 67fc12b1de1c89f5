use Rattle.std.proofs.Common.{List, Result, subst}
use Rattle.replay.specs.Words.{CapFault, End, Ends, Entry, got, outcome_of}
use Rattle.replay.proofs.RecordLaws.{unmoved_reading}
use Rattle.replay.proofs.ReplayLaws.{when_known}
use Rattle.replay.proofs.replay_run.replay.Goals as goal

pub returns-clause-replay : goal.returns-clause-replay
returns-clause-replay g c = λ read is.
    let old = got (g.V.Write.contents c.args.outputs.now.report) (g.W.Write.contents c.args.outputs.now.departures) in
    let new = got (g.V.Write.contents c.replay_timed.new.outputs.report) (g.W.Write.contents c.replay_timed.new.outputs.departures) in
    when_known (g.R.Read.remaining c.args.script) _ (λ lines known. when_known (g.S.Read.remaining c.args.capture) _ (λ octets known'. λ records reads.
    let P : Result (List Entry × End) CapFault → Type 0 = λ rs. Ends c.replay_timed.result old new (outcome_of read c.args.settings c.args.stamp lines rs) in
    subst P (unmoved_reading records) (rw (known, known') at c.replay_timed.ensures.replay read is records reads)))
