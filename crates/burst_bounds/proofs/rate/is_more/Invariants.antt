use Rattle.std.proofs.Common.{◌≡◌, length}
use Rattle.burst_bounds.proofs.RateLaws.{IsDigit}
use Rattle.burst_bounds.proofs.rate.is_more.Given as goal

abbrev pub invariant-loop-i : goal.invariant-loop-i
invariant-loop-i l = record {
  count : length l.times ≡ length l.talkers;
  digit : IsDigit l.talkers l.fn.share.slots l.fn.share.time l.slots l.times;
}
