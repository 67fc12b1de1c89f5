use Rattle.std.proofs.Common.{◌≡◌, ◌==◌, ℕ, nat_eq, unwrap_or, count_by, take}
use Rattle.std.specs.HashMap.{get}
use Rattle.compare.specs.Pairs.{counted}
use Rattle.compare.proofs.counted.counted.Given as goal

abbrev pub invariant-loop-frame : goal.invariant-loop-frame
invariant-loop-frame g l = record {
  all : l.all.items ≡ counted (take l.frame-index l.frames);
  counts : (q : ℕ) → unwrap_or (get nat_eq l.counts q) 0 ≡ count_by (λ f. f.key == q) (take l.frame-index l.frames);
}
