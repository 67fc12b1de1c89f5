-- Frames as a map has them, by their key and by how many before them have it.
use Rattle.std.specs.Prelude.{◌≡◌, ◌==◌, ◌&&◌, ℕ, List, find}
use Rattle.std.specs.HashMap.{HashMap, get}
use Rattle.compare.specs.Pairs.{is_nth}
use Rattle.compare.specs.declared.counted.NthFrame.{NthFrame}

-- each is found where it is
abbrev pub AreAt : {S : Type 0} → List NthFrame → HashMap (ℕ × ℕ) NthFrame S → Type 0
AreAt all places = (key nth : ℕ) → get (λ x y. (x.0 == y.0) && (x.1 == y.1)) places (key, nth) ≡ find (is_nth key nth) all
