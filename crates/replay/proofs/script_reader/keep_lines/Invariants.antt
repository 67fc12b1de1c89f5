-- What is kept, and what the lines to come ask, are all that is asked.
use Rattle.std.proofs.Common.{ℕ, List, [], Result}
use Rattle.replay.specs.Words.{Command, script_left, IsReader, TcFault, kept_requests}
use Rattle.text.specs.LineReader.{most_lines}
use Rattle.replay.proofs.KeepLaws.{Goes}
use Rattle.replay.proofs.script_reader.keep_lines.Given as goal

abbrev pub invariant-lines : goal.invariant-lines
invariant-lines g l = record {
  kept : (read : List (List ℕ) → Result Command TcFault) → IsReader read →
      Goes read (script_left g.R.Read.remaining l.fn.lines) (kept_requests read l.fn.script.octets.items l.fn.script.lines.items)
      (script_left g.R.Read.remaining l.lines) (kept_requests read l.script.octets.items l.script.lines.items);
  alerts : g.P.Watch.alerted [] l.fn.watch l.watch;
}

abbrev pub decreases-lines : goal.decreases-lines
decreases-lines g l = most_lines l.lines
