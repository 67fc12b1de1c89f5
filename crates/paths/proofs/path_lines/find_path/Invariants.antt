use Rattle.std.proofs.Common.{◌≡◌, drop, false}
use Rattle.paths.specs.PathLines.{first_of, paths_finding}
use Rattle.paths.proofs.path_lines.find_path.Given as goal

-- the first so far, and then that among those to come
abbrev pub invariant-loop-place : goal.invariant-loop-place
invariant-loop-place l = first_of l.first (paths_finding l.ports l.verdicts l.over (drop l.place l.hops)) ≡ paths_finding l.ports l.verdicts false l.hops
