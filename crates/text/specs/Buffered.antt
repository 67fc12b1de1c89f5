-- What a clause reads of a `BufWriter`.
use Rattle.std.specs.Prelude.{ℕ, List, Option, take, vec_len}
use Rattle.std.specs.Io.KnownBytes.{append_known}
use Rattle.text.specs.declared.octet_writer.buffered.BufWriter.{BufWriter}

-- the octets that are kept back
abbrev pub writer_buffer : {T A : Type 0} → BufWriter T A → List ℕ
writer_buffer w = take w.held.filled w.held.octets.items

-- the most octets that can be kept back
abbrev pub writer_capacity : {T A : Type 0} → BufWriter T A → ℕ
writer_capacity w = vec_len w.held.octets

-- the writer behind
abbrev pub writer_inner : {T A : Type 0} → BufWriter T A → T
writer_inner w = w.inner

-- what the writer behind holds and then what is kept back, where that is known
abbrev pub writer_contents : {T A : Type 0} → (T → Option (List ℕ)) → BufWriter T A → Option (List ℕ)
writer_contents contents w = append_known (contents w.inner) (writer_buffer w)
