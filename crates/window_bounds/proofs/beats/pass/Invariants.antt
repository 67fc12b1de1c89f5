use Rattle.std.proofs.Common.{◌≡◌, ◌<◌, ◌+◌, ◌^◌, ◌++◌, All, drop, take}
use Rattle.window_bounds.specs.Beats.{IsBeat, all_before, all_from, capped}
use Rattle.window_bounds.proofs.beats.pass.Given as goal

abbrev pub invariant-loop-i : goal.invariant-loop-i
invariant-loop-i l = record {
  beats : l.beats ≡ all_from (l.t + 1) (take l.i l.fn.beats) ++ drop l.i l.fn.beats;
  fine : All IsBeat l.beats;
  most : l.count < 2 ^ 128;
  count : capped (l.count + all_before (drop l.i l.beats) (l.t + 1)) ≡ capped (all_before l.fn.beats (l.t + 1));
}
