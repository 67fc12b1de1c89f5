-- What is read ahead and not yet given.
use Rattle.std.specs.Prelude.{ℕ, ◌-◌, List, slice_range}
use Rattle.capture.specs.declared.read_ahead.ReadAhead.{ReadAhead}

-- the octets that were read and not yet given
abbrev pub held : {A : Type 0} → ReadAhead A → List ℕ
held w = slice_range w.buffer.items w.start w.end

-- the octets that it gave last
abbrev pub last_given : {A : Type 0} → ReadAhead A → ℕ → List ℕ
last_given w count = slice_range w.buffer.items (w.start - count) w.start
