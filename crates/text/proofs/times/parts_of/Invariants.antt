use Rattle.std.proofs.Common.{◌≡◌, ◌≤◌, ◌^◌, ℕ}
use Rattle.text.proofs.times.parts_of.Given as goal

pub record Counts (places parts counter : ℕ) : Type 0 where
  pub within : counter ≤ places
  pub value : parts ≡ 10 ^ counter

abbrev pub invariant-loop : goal.invariant-loop
invariant-loop l = Counts l.places l.parts l.counter
