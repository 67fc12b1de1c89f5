use Rattle.std.proofs.Common.{◌≡◌, ◌≤◌, [], length}
use Rattle.text.specs.LineReader.{in_hand}
use Rattle.text.specs.Script.{ends_in}
use Rattle.text.specs.declared.line_reader.source.TheConstants.{CHUNK}
use Rattle.text.proofs.line_reader.lines.LineReader.has_line.Given as goal

abbrev pub invariant-feeds : goal.invariant-feeds
invariant-feeds g l = record { same : ends_in [] (in_hand l.fn.self) ≡ ends_in [] l.rest; short : length l.rest ≤ CHUNK }

abbrev pub decreases-feeds : goal.decreases-feeds
decreases-feeds g l = length l.rest
