use Rattle.std.proofs.Common.{◌≤◌, ◌<◌, ◌+◌, ◌-◌, ◌*◌, true}
use Rattle.stream_bounds.specs.Timed.{is_over, meets}
use Rattle.stream_bounds.specs.declared.slack.TheConstants.{GREATEST}
use Rattle.stream_bounds.proofs.slack.narrowed.Given as goal

-- the deadline is met at the lower end, and at the upper one it isn't
abbrev pub invariant-loop-high : goal.invariant-loop-high
invariant-loop-high l = record {
  order : l.low < l.high;
  within : l.high ≤ GREATEST + 1;
  met : meets l.timed (l.low * 1000) true;
  over : is_over l.timed (l.high * 1000);
}

abbrev pub decreases-loop-high : goal.decreases-loop-high
decreases-loop-high l = l.high - l.low
