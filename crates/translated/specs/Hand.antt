-- What was read and not yet taken.
use Rattle.std.specs.Prelude.{ℕ, List, drop, take}
use Rattle.translated.specs.declared.hand.Hand.{Hand}

-- the octets that were read and not yet taken
abbrev pub held : {A : Type 0} → Hand A → List ℕ
held h = drop h.start (take h.end h.octets.items)
