-- The line so far and what is to come are what was to come.
use Rattle.text.specs.declared.line_reader.lines.TheConstants.{MAX_LINE_OCTETS}
use Rattle.std.proofs.Common.{◌≡◌, ◌≤◌, ◌<◌, Option, None, Some, false, ◌-◌, vec_len}
use Rattle.std.specs.Bool.{⊤}
use Rattle.text.specs.LineReader.{script_ahead, script_within}
use Rattle.text.proofs.line_reader.lines.LineReader.next_line.Given as goal

-- what is known stays
abbrev pub Stays : {A : Type 0} → Option A → Option A → Type 0
Stays None new = ⊤
Stays (Some x) new = new ≡ Some x

abbrev pub invariant-octets : goal.invariant-octets
invariant-octets g l = record {
  script : Stays (script_ahead g.R.Read.remaining l.fn.self) (script_within g.R.Read.remaining l.self);
  breaks : l.fn.self.breaks ≤ l.self.breaks;
  is_open : 0 < vec_len l.self.line → l.self.source.ended ≡ false;
  ended : l.self.source.ended ≡ l.fn.self.source.ended;
  over : l.self.ended ≡ l.fn.self.ended;
}

abbrev pub decreases-octets : goal.decreases-octets
decreases-octets g l = MAX_LINE_OCTETS - vec_len l.self.line
