use Rattle.std.proofs.Common.{◌≡◌, ◌<◌, ◌≤◌, ◌^◌, ◌-◌, Some, take}
use Rattle.text.specs.Numbers.{value_behind}
use Rattle.text.proofs.words.numbers.hex_run.Given as goal

-- the digits so far, and that so many make no greater number
abbrev pub invariant-loop-end : goal.invariant-loop-end
invariant-loop-end l = record {
  within : l.end ≤ l.stop;
  value : value_behind 16 0 (take l.end l.octets) ≡ Some l.number;
  bound : l.number < 16 ^ l.end;
}

abbrev pub decreases-loop-end : goal.decreases-loop-end
decreases-loop-end l = l.stop - l.end
