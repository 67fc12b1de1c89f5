-- What is reported of the faults of an input.
use Rattle.std.specs.Prelude.{List, ℕ}

-- to each fault its text, and the exit status that goes with it
pub record Telling (I : Type 0) : Type 0 where
  pub text : I → List ℕ
  pub status : I → ℕ
