use Rattle.std.proofs.Common.{◌≡◌, drop, false}
use Rattle.stream_bounds.specs.BoundsEnd.{no_classes, read_classes}
use Rattle.stream_bounds.proofs.bounds_job.read_classes.Given as goal

-- with those that are named so far the rest names what all do
abbrev pub invariant-loop-octet : goal.invariant-loop-octet
invariant-loop-octet l = read_classes l.named l.behind (drop l.octet-index l.text) ≡ read_classes no_classes false l.text
