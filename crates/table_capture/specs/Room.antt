-- Room for the octets of any frame.
use Rattle.std.specs.Prelude.{◌≡◌, ◌-◌, ℕ, List, length, drop, replicate}
use Rattle.capture.specs.declared.format.TheConstants.{MAX_RECORD_OCTETS}
use Rattle.table_capture.specs.declared.frame_octets.TheConstants.{FRONT}

-- as many octets as a record may have: behind the first ones zeros
pub record IsRoom (octets : List ℕ) : Type 0 where
  pub long : length octets ≡ MAX_RECORD_OCTETS
  pub rest : drop FRONT octets ≡ replicate (MAX_RECORD_OCTETS - FRONT) 0
