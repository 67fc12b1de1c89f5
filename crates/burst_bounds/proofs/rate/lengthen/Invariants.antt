use Rattle.std.proofs.Common.{◌≡◌, ◌<◌, ◌≤◌, ◌*◌, ◌%◌, ◌^◌, ℕ, get_or}
use Rattle.burst_bounds.specs.Walk.{talker_at}
use Rattle.burst_bounds.proofs.rate.lengthen.Given as goal

abbrev pub invariant-loop-i : goal.invariant-loop-i
invariant-loop-i l = record {
  done : (j : ℕ) → j < l.i → get_or l.times j 0 ≡ (get_or l.initial.times j 0 % (talker_at l.talkers j).period) * 2 ^ 32;
  rest : (j : ℕ) → l.i ≤ j → get_or l.times j 0 ≡ get_or l.initial.times j 0;
}
