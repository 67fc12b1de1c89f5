use Rattle.std.proofs.Common.{◌≡◌, drop, find}
use Rattle.compare.specs.Outcome.{offends}
use Rattle.compare.proofs.tally.offender.Given as goal

abbrev pub invariant-loop-compared : goal.invariant-loop-compared
invariant-loop-compared l = find (offends l.within) l.all ≡ find (offends l.within) (drop l.compared-index l.all)
