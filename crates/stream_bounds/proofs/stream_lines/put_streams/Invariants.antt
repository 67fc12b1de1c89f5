use Rattle.std.proofs.Common.{◌≡◌, drop}
use Rattle.text.specs.Writes.{Sent}
use Rattle.stream_bounds.specs.BoundLines.{bound_lines, finding_in, first_of}
use Rattle.stream_bounds.proofs.stream_lines.put_streams.Given as goal

-- what is written and what is to come, and the first finding so far
abbrev pub invariant-loop-stream : goal.invariant-loop-stream
invariant-loop-stream g l = record {
  lines : Sent (g.W.Write.contents l.fn.writer) (g.W.Write.contents l.writer) (bound_lines l.settings l.change l.fn.answers l.streams) (bound_lines l.settings l.change l.answers (drop l.stream-index l.streams));
  finding : first_of l.first (finding_in l.settings l.change l.answers (drop l.stream-index l.streams)) ≡ finding_in l.settings l.change l.fn.answers l.streams;
}
