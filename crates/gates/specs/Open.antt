-- Whether a class is open for a while.
use Rattle.std.specs.Prelude.{ℕ, zero, suc, ◌+◌, Bool, true, ◌&&◌}
use Rattle.gates.specs.Gate.{opens}

-- whether masks that change with the moment open a class at every picosecond from s on, for so long
unfoldable pub open_while : (ℕ → ℕ) → ℕ → ℕ → ℕ → Bool
open_while mask class s zero = true
open_while mask class s (suc d) = opens (mask s) class && open_while mask class (s + 1) d
