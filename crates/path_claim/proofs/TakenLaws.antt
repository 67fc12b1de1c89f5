-- Of a stream that a port takes whole no frame is longer than its class takes, and each has a whole header.
use Rattle.std.proofs.Common.{◌≡◌, ◌≤◌, ℕ, ◌+◌, ◌-◌, ◌==◌, ◌&&◌, not, nat_lt, nat_le, max, min, Bool, true, false, length, Option, Some, None, Ok, Err, if◌then◌else◌, refl, ap, subst, arith}
use Rattle.std.proofs.lemmas.Bool.{leb-true, ltb-false}
use Rattle.std.proofs.lemmas.Option.{none-some, same_Some}
use Rattle.wire_time.specs.Wire.{sdu_of}
use Rattle.abstract_port.specs.AbstractPort.{AbstractPort, class_for, judged, limit_of, queue_of, verdict}
use Rattle.abstract_port.specs.declared.Change.{Change}
use Rattle.abstract_port.specs.declared.Dropped.{Dropped}
use Rattle.abstract_port.specs.declared.Dropped.TheVariants as Drops
use Rattle.abstract_port.proofs.ArrivalLaws.{verdict_with}
use Rattle.stream_bounds.specs.Classes.{class_of, drop_of, first_drop, frame_of, header, len_within, most_sdu, port_of, whole_len}
use Rattle.stream_bounds.specs.declared.settings.BoundsSettings.{BoundsSettings}
use Rattle.traffic.specs.declared.table.Stream.{Stream}
use Rattle.path_bounds.specs.Start.{taken_class}
use Rattle.path_bounds.specs.declared.hop.PathPort.{PathPort}
use Rattle.path_claim.specs.Told.{IsTaken}

some-none : {A : Type 0} (x : A) → Some x ≡ None → ⊥
some-none x e = none-some x (let other : None ≡ Some x = cc in other)

none_first : (a b : Option Dropped) → first_drop a b ≡ None → (a ≡ None) × (b ≡ None)
none_first (Some why) b e = absurd (some-none why e)
none_first None b e = (refl, e)

-- ---- one frame

module _ (mtu limit room waiting class : ℕ) where
  -- a service data unit that isn't dropped is within the mtu, and within the limit, if there is one
  within_by : (sdu : ℕ) (long : Bool) → nat_lt mtu sdu ≡ long → (any : Bool) → (limit == 0) ≡ any → (over : Bool) → nat_lt limit sdu ≡ over
      → drop_of (if long then Err Drops.TooLong else if not any && over then Err Drops.OverSdu else if nat_le room waiting then Err Drops.Full else Ok class)
      ≡ None
      → sdu ≤ (if any then mtu else min mtu limit)
  within_by sdu true is_long any is_any over is_over e = absurd (some-none Drops.TooLong e)
  within_by sdu false is_long true is_any over is_over e = ltb-false mtu sdu is_long
  within_by sdu false is_long false is_any true is_over e = absurd (some-none Drops.OverSdu e)
  within_by sdu false is_long false is_any false is_over e =
      let one = ltb-false mtu sdu is_long in
      let two = ltb-false limit sdu is_over in
      omega (arith, one, two)

  -- and of no other class
  same_by : (d : ℕ) (long over full : Bool)
      → (if long then Err Drops.TooLong else if over then Err Drops.OverSdu else if full then Err Drops.Full else Ok class) ≡ Ok d → class ≡ d
  same_by d true over full e = absurd (none-some d (ap taken_class e))
  same_by d false true full e = absurd (none-some d (ap taken_class e))
  same_by d false false true e = absurd (none-some d (ap taken_class e))
  same_by d false false false e = same_Some class d (ap taken_class e)

  same_class : (d : ℕ) (sdu : Option ℕ) → judged mtu limit room waiting class sdu ≡ Ok d → class ≡ d
  same_class d None e = absurd (none-some d (ap taken_class e))
  same_class d (Some sdu) e = same_by d (nat_lt mtu sdu) (not (limit == 0) && nat_lt limit sdu) (nat_le room waiting) e

-- ---- of a stream

module _ (s : BoundsSettings) (c : Change) (class : ℕ) (x : Stream) where
  abbrev p : AbstractPort
  p = port_of s c

  class_by : (len : ℕ) (o : Option ℕ) → verdict_with p (frame_of x len) o ≡ Ok class → o ≡ Some class
  class_by len None e = absurd (none-some class (ap taken_class e))
  class_by len (Some d) e =
      ap (λ (n : ℕ). Some n) (same_class p.mtu (limit_of p d) p.room (length (queue_of p d)) d class (sdu_of (frame_of x len)) e)

  class_is : class_of s c x ≡ Ok class → class_for p x.priority ≡ Some class
  class_is e = class_by (whole_len x) (class_for p x.priority) e

  len_by : (len : ℕ) (t : Bool) → nat_le (header x) len ≡ t
      → drop_of (judged p.mtu (limit_of p class) p.room (length (queue_of p class)) class (if t then Some (len - header x) else None)) ≡ None
      → (header x ≤ len) × (len ≤ header x + most_sdu s c class)
  len_by len true is e =
      let sdu : len - header x ≤ most_sdu s c class
      = within_by p.mtu (limit_of p class) p.room (length (queue_of p class)) class (len - header x) (nat_lt p.mtu (len - header x)) refl
      (limit_of p class == 0) refl (nat_lt (limit_of p class) (len - header x)) refl e in
      sums (header x) (most_sdu s c class) (leb-true (header x) len is) sdu
    where
      sums : (header most : ℕ) → header ≤ len → len - header ≤ most → (header ≤ len) × (len ≤ header + most)
      sums header most le within = (le, omega (arith, le, within))
  len_by len false is e = absurd (some-none Drops.Runt e)

  -- one that isn't dropped has a header, and is as long as its class takes
  len_is : (len : ℕ) → class_for p x.priority ≡ Some class → drop_of (verdict p (frame_of x len)) ≡ None
      → (header x ≤ len) × (len ≤ header x + most_sdu s c class)
  len_is len at e =
      len_by len (nat_le (header x) len) refl (subst (λ (o : Option ℕ). drop_of (verdict_with p (frame_of x len) o) ≡ None) at e)

pub lengths_of : (p : PathPort) (class : ℕ) (x : Stream) → IsTaken p class x
    → (len_within (most_sdu p.settings p.change class) x ≡ x.len) × (whole_len x ≡ x.shortest)
lengths_of p class x taken =
    let at = class_is p.settings p.change class x taken.to in
    let none = none_first _ _ taken.none in
    let long = len_is p.settings p.change class x x.len at none.0 in
    let short = len_is p.settings p.change class x x.shortest at none.1 in
    sums (header x) (most_sdu p.settings p.change class) long.1 short.0 taken.lengths
  where
    sums : (header most : ℕ) → x.len ≤ header + most → header ≤ x.shortest → x.shortest ≤ x.len
        → (min x.len (header + most) ≡ x.len) × (min x.len (max x.shortest header) ≡ x.shortest)
    sums header most long short le = (omega (arith, long), omega (arith, short, le))
