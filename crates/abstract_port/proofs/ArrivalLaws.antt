-- What is known of a frame that is queued.
use Rattle.std.proofs.Common.{◌≡◌, ◌≤◌, ℕ, nat_lt, Bool, true, false, if◌then◌else◌, Option, Some, None, Result, Ok, Err, refl, sym, ap, ◌∙◌, arith}
use Rattle.std.specs.Prelude.{OnOk}
use Rattle.wire_time.specs.declared.Frame.{Frame}
use Rattle.wire_time.specs.Wire.{occupancy_of, lead_of, sdu_of}
use Rattle.wire_time.proofs.WireLaws.{occupancy_within}
use Rattle.abstract_port.specs.declared.Dropped.{Dropped}
use Rattle.abstract_port.specs.declared.Dropped.TheVariants.{NoClass, TooLong}
use Rattle.abstract_port.specs.AbstractPort.{AbstractPort, class_for, verdict, verdict_in}

by_length : (b : Bool) (later : Result ℕ Dropped) (class : ℕ) → (if b then Err TooLong else later) ≡ Ok class → b ≡ false
by_length true later class e = absurd (cc)
by_length false later class e = refl

by_sdu : (p : AbstractPort) (f : Frame) (d class : ℕ) (o : Option ℕ) → sdu_of f ≡ o → 42 ≤ p.mtu → verdict_in p d o ≡ Ok class → occupancy_of p.ps f.len ≤ lead_of p.ps p.mtu
by_sdu p f d class None is mtu e = absurd (cc)
by_sdu p f d class (Some sdu) is mtu e =
    let within = by_length (nat_lt p.mtu sdu) _ class e in
    occupancy_within p.ps p.mtu f sdu mtu is (grind (arith, within))

-- the verdict, by the class that a frame's priority has
abbrev pub verdict_with : AbstractPort → Frame → Option ℕ → Result ℕ Dropped
verdict_with p f o = elim o [ Some class ↦ verdict_in p class (sdu_of f) | None ↦ Err NoClass ]

by_class : (p : AbstractPort) (f : Frame) (class : ℕ) (o : Option ℕ) → 42 ≤ p.mtu → verdict_with p f o ≡ Ok class → occupancy_of p.ps f.len ≤ lead_of p.ps p.mtu
by_class p f class None mtu e = absurd (cc)
by_class p f class (Some d) mtu e = by_sdu p f d class (sdu_of f) refl mtu e

-- a frame that is queued takes the wire for the lead at most
pub verdict_fits : (p : AbstractPort) (f : Frame) (class : ℕ) → 42 ≤ p.mtu → verdict p f ≡ Ok class → occupancy_of p.ps f.len ≤ lead_of p.ps p.mtu
verdict_fits p f class mtu e = by_class p f class (class_for p f.priority) mtu e

-- the verdict, by the class of the priority
pub verdict_is : (p : AbstractPort) (f : Frame) (class : ℕ) (v : Result ℕ Dropped) → class_for p f.priority ≡ Some class → v ≡ verdict_in p class (sdu_of f) → v ≡ verdict p f
verdict_is p f class v e is = is ∙ ap (verdict_with p f) (sym e)

-- A frame that is queued takes the wire for the lead at most.
pub fits_on : (v : Result ℕ Dropped) (p : AbstractPort) (f : Frame) → 42 ≤ p.mtu → v ≡ verdict p f → OnOk v (occupancy_of p.ps f.len ≤ lead_of p.ps p.mtu)
fits_on (Ok class) p f mtu is = verdict_fits p f class mtu (sym is)
fits_on (Err why) p f mtu is = tt
