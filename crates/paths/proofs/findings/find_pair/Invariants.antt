use Rattle.std.proofs.Common.{◌≡◌, ◌-◌}
use Rattle.paths.specs.Findings.{pairs_finding}
use Rattle.paths.specs.PathLines.{first_of}
use Rattle.paths.proofs.findings.find_pair.Given as goal

-- the first so far, and then that among those to come
abbrev pub invariant-loop-pair : goal.invariant-loop-pair
invariant-loop-pair l = first_of l.first (pairs_finding l.names l.verdicts (l.count - l.pair) l.pair) ≡ pairs_finding l.names l.verdicts l.count 0
