-- Which rate, mtu and room a port can have, judged in this order.
use Rattle.std.specs.Prelude.{ℕ, not, if◌then◌else◌, Option, Some, None, is_err}
use Rattle.wire_time.specs.Wire.{rate_of}
use Rattle.port.specs.Limits.{is_mtu, is_room}
use Rattle.driven_port.specs.declared.OpenFault.{OpenFault}
use Rattle.driven_port.specs.declared.OpenFault.TheVariants.{BadRate, BadMtu, BadRoom}

-- the first value that is out of its limits
abbrev pub open_refusal : ℕ → ℕ → ℕ → Option OpenFault
open_refusal mbps mtu room =
    if is_err (rate_of mbps) then Some BadRate
    else if not (is_mtu mtu) then Some BadMtu
    else if not (is_room room) then Some BadRoom
    else None
