use Rattle.std.proofs.Common.{◌≡◌, ◌<◌, ◌^◌, max, drop}
use Rattle.burst_bounds.specs.Talkers.{longest_need}
use Rattle.stream_bounds.proofs.shared.longest_need.Given as goal

-- the longest so far, and of those to come
abbrev pub invariant-loop-talker : goal.invariant-loop-talker
invariant-loop-talker l = record {
  longest : max l.need (longest_need (drop l.talker-index l.talkers)) ≡ longest_need l.talkers;
  short : l.need < 2 ^ 60;
}
