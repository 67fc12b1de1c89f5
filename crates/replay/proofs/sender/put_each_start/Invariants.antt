-- What is written and the starts to come are those of all.
use Rattle.std.proofs.Common.{◌≡◌, ◌≤◌, map}
use Rattle.replay.specs.Words.{settled, starts_until, waiting, Gave, Origin, last_end, noted_all, SentBoth, got, output, IsTogether, Keeps, state}
use Rattle.abstract_port.specs.declared.Answer.TheVariants as Answered
use Rattle.replay.proofs.sender.put_each_start.Given as goal

abbrev pub invariant-loop-start : goal.invariant-loop-start
invariant-loop-start g l = record {
  later : l.sending.port.port.now ≤ l.until;
  together : IsTogether (state l.sending (g.V.Write.contents l.report) (g.W.Write.contents l.departures));
  same_end : settled (starts_until l.sending.port.port l.until).1 ≡ settled (starts_until l.fn.sending.port.port l.until).1;
  same_seen : noted_all l.now (map Answered.Start (starts_until l.sending.port.port l.until).0) l.sending.summary ≡ noted_all l.fn.sending.port.port.now (map Answered.Start (starts_until l.fn.sending.port.port l.until).0) l.fn.sending.summary;
  same_last : last_end l.sending.leaving.last (starts_until l.sending.port.port l.until).0 ≡ last_end l.fn.sending.leaving.last (starts_until l.fn.sending.port.port l.until).0;
  keeps : (es : Origin) → Keeps es (state l.fn.sending (g.V.Write.contents l.fn.report) (g.W.Write.contents l.fn.departures)) → Keeps es (state l.sending (g.V.Write.contents l.report) (g.W.Write.contents l.departures));
  sent : (es : Origin) → Keeps es (state l.fn.sending (g.V.Write.contents l.fn.report) (g.W.Write.contents l.fn.departures)) →
      SentBoth (got (g.V.Write.contents l.fn.report) (g.W.Write.contents l.fn.departures)) (got (g.V.Write.contents l.report) (g.W.Write.contents l.departures))
      (output es (map Gave (map Answered.Start (starts_until l.fn.sending.port.port l.until).0))) (output es (map Gave (map Answered.Start (starts_until l.sending.port.port l.until).0)));
}

abbrev pub decreases-loop-start : goal.decreases-loop-start
decreases-loop-start g l = waiting l.sending.port.port
