use Rattle.std.proofs.Common.{◌≡◌, ◌++◌, List, map, drop}
use Rattle.compare.specs.Pairs.{beside, partner}
use Rattle.compare.specs.Places.{AreAt}
use Rattle.compare.specs.declared.counted.NthFrame.{NthFrame}
use Rattle.compare.proofs.pairs.put_first.Given as goal

abbrev pub invariant-loop-counted : goal.invariant-loop-counted
invariant-loop-counted g l = (others : List NthFrame) → AreAt others l.second →
    l.all.items ++ map (λ c. beside c (partner others c)) (drop l.counted-index l.first) ≡ l.fn.all.items ++ map (λ c. beside c (partner others c)) l.first
