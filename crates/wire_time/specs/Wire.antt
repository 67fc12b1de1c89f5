-- Time on the wire (IEEE Std 802.3: preamble 7, start delimiter 1, check sequence 4, gap 12 octets; 60 octets at least).
use Rattle.std.specs.Prelude.{ℕ, ◌+◌, ◌-◌, ◌*◌, ◌/◌, ◌==◌, max, nat_le, if◌then◌else◌, List, [], ◌∷◌, Option, Some, None, Result, Ok, Err}
use Rattle.std.specs.List.{list_any}
use Rattle.wire_time.specs.declared.Frame.{Frame}
use Rattle.wire_time.specs.declared.RateFault.{RateFault}
use Rattle.wire_time.specs.declared.RateFault.TheVariants.{UnknownRate}

-- the line rates, in Mb/s
abbrev pub rates : List ℕ
rates = 10 ∷ 100 ∷ 1000 ∷ 2500 ∷ 5000 ∷ 10000 ∷ 25000 ∷ 40000 ∷ 50000 ∷ 100000 ∷ []

-- the picoseconds of an octet, which has 8 bits, at so many Mb/s
abbrev pub octet_time : ℕ → ℕ
octet_time mbps = 8000000 / mbps

-- the rate of so many Mb/s, as its picoseconds an octet, where it is one of the ten
abbrev pub rate_of : ℕ → Result ℕ RateFault
rate_of mbps = if list_any (λ r. r == mbps) rates then Ok (octet_time mbps) else Err UnknownRate

-- the octets on the wire of a frame of so many octets without check sequence
abbrev pub wire_octets : ℕ → ℕ
wire_octets len = max len 60 + 24

-- the picoseconds that a frame occupies the wire, at so many picoseconds an octet
abbrev pub occupancy_of : ℕ → ℕ → ℕ
occupancy_of ps len = wire_octets len * ps

-- the occupancy of the longest frame that a port of this mtu accepts
abbrev pub lead_of : ℕ → ℕ → ℕ
lead_of ps mtu = (mtu + 42) * ps

-- the octets before the payload
abbrev pub header_of : Frame → ℕ
header_of f = if f.tagged then 18 else 14

-- the service data unit, which a frame shorter than its header has not
abbrev pub sdu_of : Frame → Option ℕ
sdu_of f = if nat_le (header_of f) f.len then Some (f.len - header_of f) else None
