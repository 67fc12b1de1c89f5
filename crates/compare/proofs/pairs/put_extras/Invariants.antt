use Rattle.std.proofs.Common.{◌≡◌, ◌++◌, List, map, drop, filter}
use Rattle.compare.specs.Pairs.{extra_of, is_extra}
use Rattle.compare.specs.Places.{AreAt}
use Rattle.compare.specs.declared.counted.NthFrame.{NthFrame}
use Rattle.compare.proofs.pairs.put_extras.Given as goal

abbrev pub invariant-loop-counted : goal.invariant-loop-counted
invariant-loop-counted g l = (others : List NthFrame) → AreAt others l.first →
    l.all.items ++ map extra_of (filter (is_extra others) (drop l.counted-index l.second)) ≡ l.fn.all.items ++ map extra_of (filter (is_extra others) l.second)
