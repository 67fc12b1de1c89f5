-- What is kept of the heads of the class queues.
use Rattle.std.specs.Prelude.{◌≡◌, ◌<◌, ℕ, zero, suc, nat_lt, List, Option, Some, None, slice_index_or}
use Rattle.gates.specs.Gate.{opens}

-- what a class needs, by the number that is kept of it: 0 where no frame waits
abbrev pub need_kept : ℕ → Option ℕ
need_kept zero = None
need_kept (suc d) = Some (suc d)

-- the mask opens the classes in which a frame waits
abbrev pub AreMarked : ℕ → List ℕ → Type 0
AreMarked waits needs = (class : ℕ) → class < 8 → opens waits class ≡ nat_lt 0 (slice_index_or needs class 0)
