use Rattle.std.proofs.Common.{◌≡◌, ◌<◌, ◌≤◌, ◌^◌, ◌-◌, Some, length, take}
use Rattle.text.specs.Numbers.{value_behind}
use Rattle.text.proofs.words.numbers.few_run.Given as goal

-- the digits so far, and that so many make no greater number
abbrev pub invariant-loop-end : goal.invariant-loop-end
invariant-loop-end l = record {
  within : l.end ≤ length l.octets;
  value : value_behind 10 0 (take l.end l.octets) ≡ Some l.number;
  bound : l.number < 10 ^ l.end;
}

abbrev pub decreases-loop-end : goal.decreases-loop-end
decreases-loop-end l = length l.octets - l.end
