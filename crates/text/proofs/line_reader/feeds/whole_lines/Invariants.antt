use Rattle.std.proofs.Common.{◌≡◌, ◌≤◌, take, length}
use Rattle.text.proofs.line_reader.feeds.whole_lines.Given as goal

abbrev pub invariant-feeds : goal.invariant-feeds
invariant-feeds l = record { is : l.front ≡ take (length l.front) l.fn.octets; within : length l.front ≤ length l.fn.octets }

abbrev pub decreases-feeds : goal.decreases-feeds
decreases-feeds l = length l.front
