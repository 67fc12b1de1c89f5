-- A text at a place of octets.
use Rattle.std.specs.Prelude.{◌≡◌, ◌+◌, ◌++◌, List, ℕ, length, take}

-- `new` is `old` as far as `at`, and then has the text, up to `end`; behind that it may be anything
pub record Placed (old new : List ℕ) (at : ℕ) (text : List ℕ) (end : ℕ) : Type 0 where
  pub octets : take end new ≡ take at old ++ text
  pub ends : end ≡ at + length text
  pub whole : length new ≡ length old
