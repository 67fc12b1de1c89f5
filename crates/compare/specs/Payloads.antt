-- The numbers of octets that came, as a map has them.
use Rattle.std.specs.Prelude.{◌≡◌, ◌==◌, ℕ, List, length, Option, Some, None, Result, IfOk, if◌then◌else◌}
use Rattle.std.specs.HashMap.{HashMap, get_by, hash_map_len}
use Rattle.std.specs.Str.{bytes_eq}
use Rattle.std.specs.declared.vec.Vec.{Vec}
use Rattle.job.specs.declared.fault.Fault.{Fault}
use Rattle.compare.specs.Frames.{Reading, payload_key}
use Rattle.compare.specs.Read.{Reads}
use Rattle.compare.specs.declared.faults.Trouble.{Trouble}
use Rattle.compare.specs.declared.frame.Frame.{Frame}

-- the number of octets that came, if they did
abbrev pub number_of : List (List ℕ) → List ℕ → Option ℕ
number_of seen octets = if payload_key seen octets == length seen then None else Some (payload_key seen octets)

-- a map has the numbers of the different octets that came, and no others
pub record AreNumbered {A S : Type 0} (seen : List (List ℕ)) (numbers : HashMap (Vec ℕ A) ℕ S) : Type 0 where
  pub each : (octets : List ℕ) → get_by (λ key. bytes_eq octets key.items) numbers ≡ number_of seen octets
  pub count : hash_map_len numbers ≡ length seen

-- what reading an input leaves, and then the numbers of all octets that came
pub record ReadsNumbered {T A S : Type 0} (result : Result T (Fault Trouble)) (reading : Reading) (old new : List Frame) (numbers : HashMap (Vec ℕ A) ℕ S) : Type 0 where
  pub reads : Reads result reading old new
  pub numbered : IfOk result (λ x. AreNumbered reading.payloads numbers)
