-- Laws of the time on the wire.
use Rattle.std.proofs.Common.{◌≡◌, ◌<◌, ◌≤◌, ℕ, ◌+◌, ◌-◌, max, Bool, true, false, cond, leb, Some, None, arith, mul-pos, mul-le-mul_right}
use Rattle.wire_time.specs.Wire.{occupancy_of, lead_of, sdu_of, header_of}
use Rattle.wire_time.specs.declared.Frame.{Frame}

pub occupancy_pos : (ps len : ℕ) → 0 < ps → 0 < occupancy_of ps len
occupancy_pos ps len pos = let w : 0 < max len 60 + 24 = omega arith in mul-pos w pos

header_most : (b : Bool) → cond b 18 14 ≤ 18
header_most true = omega arith
header_most false = omega arith

sdu_within : (b : Bool) (len h sdu : ℕ) → h ≤ 18 → cond b (Some (len - h)) None ≡ Some sdu → len ≤ sdu + 18
sdu_within true len h sdu l e = let e' : len - h ≡ sdu = cc in omega arith
sdu_within false len h sdu l e = cc

-- a frame whose service data unit is within the mtu occupies the wire for no longer than the lead
pub occupancy_within : (ps mtu : ℕ) (f : Frame) (sdu : ℕ) → 42 ≤ mtu → sdu_of f ≡ Some sdu → sdu ≤ mtu → occupancy_of ps f.len ≤ lead_of ps mtu
occupancy_within ps mtu f sdu large e l =
    let most = sdu_within (leb (header_of f) f.len) f.len (header_of f) sdu (header_most f.tagged) e in
    let w : max f.len 60 + 24 ≤ mtu + 42 = omega arith in
    mul-le-mul_right ps w
