use Rattle.std.proofs.Common.{ℕ, List, Result}
use Rattle.schedule_check.specs.Words.{Command, TcFault, IsReader, script_left, long_line, verdict_lines, Teller, IsTeller}
use Rattle.text.specs.LineReader.{most_lines}
use Rattle.job.proofs.LineLaws.{Goes}
use Rattle.schedule_check.proofs.AlertLaws.{Tells}
use Rattle.schedule_check.proofs.LineLaws.{checked}
use Rattle.schedule_check.proofs.schedules.check_lines.Given as goal

abbrev pub invariant-lines : goal.invariant-lines
invariant-lines g l = record {
  text : (tell : Teller) → IsTeller tell → (read : List (List ℕ) → Result Command TcFault) → IsReader read → Goes long_line (checked l.settings.script read (verdict_lines tell l.settings)) tt (script_left g.R.Read.remaining l.fn.lines) (g.W.Write.contents l.fn.writer) (g.W.Write.contents l.writer) tt (script_left g.R.Read.remaining l.lines);
  alerts : (read : List (List ℕ) → Result Command TcFault) → IsReader read → Tells g.H.Watch.alerted l.settings read (script_left g.R.Read.remaining l.fn.lines) l.fn.watch l.watch (script_left g.R.Read.remaining l.lines);
}

abbrev pub decreases-lines : goal.decreases-lines
decreases-lines g l = most_lines l.lines
