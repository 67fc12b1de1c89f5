-- What a queue of octets holds.
use Rattle.std.specs.Prelude.{ℕ, List, take, drop}
use Rattle.capture.specs.declared.octet_store.queue.OctetQueue.{OctetQueue}

-- the octets that were put and not given up
abbrev pub held : {A : Type 0} → OctetQueue A → List ℕ
held q = drop q.head (take q.end q.octets.items)
