-- Windows behind a port, by whole sums.
use Rattle.std.proofs.Common.{◌≡◌, ◌<◌, ◌≤◌, ℕ, ◌+◌, ◌-◌, ◌^◌, Bool, true, false, nat_le, Option, Some, None, is_some, unwrap_or, if◌then◌else◌, refl, ap, ◌∙◌, subst, arith}
use Rattle.std.proofs.lemmas.Bool.{and_parts, leb-true}
use Rattle.std.proofs.lemmas.Option.{same_Some}
use Rattle.wire_time.specs.Moment.{greatest_moment}
use Rattle.delay_bounds.specs.declared.Bound.{Bound}
use Rattle.stream_bounds.specs.Verdicts.{needs_of, plus}
use Rattle.traffic.specs.Table.{earliest}
use Rattle.traffic.specs.declared.table.Stream.{Stream}
use Rattle.path_bounds.specs.Hops.{ahead_of, coming_by, first_moment, gap_of, greatest_of, is_counted, last_moment, moved, moved_offset, span_behind, spread_of}
use Rattle.path_bounds.specs.declared.hop.Coming.{Coming}
use Rattle.path_bounds.specs.declared.hop.Coming.TheVariants as Comings
use Rattle.path_bounds.specs.declared.hop.Hop.{Hop}
use Rattle.path_bounds.specs.declared.hop.PathPort.{PathPort}
use Rattle.path_bounds.specs.declared.hop.Span.{Span}
use Rattle.path_claim.specs.Windows.{Begins, BeginsLaw, Ends, EndsLaw, IsBehind, IsFar, IsNear, longest_wait}

-- ---- sums

pub plus_below : (a b : ℕ) → plus a b ≤ a + b
plus_below a b = omega arith

-- one that isn't the greatest isn't cut off
pub plus_whole : (a b : ℕ) → plus a b < 2 ^ 128 - 1 → plus a b ≡ a + b
plus_whole a b less = omega (arith, less)

-- the first moment is no more than its whole sum
first_below : (e b n l t : ℕ) → plus (plus (plus (plus e b) n) l) t ≤ e + b + n + l + t
first_below e b n l t =
    sums (plus e b) (plus (plus e b) n) (plus (plus (plus e b) n) l) (plus (plus (plus (plus e b) n) l) t) (plus_below e b)
    (plus_below (plus e b) n) (plus_below (plus (plus e b) n) l) (plus_below (plus (plus (plus e b) n) l) t)
  where
    sums : (p q r s : ℕ) → p ≤ e + b → q ≤ p + n → r ≤ q + l → s ≤ r + t → s ≤ e + b + n + l + t
    sums p q r s one two three four = omega (arith, one, two, three, four)

-- and the last is its whole sum, where it isn't cut off; nor is any part of it
last_whole : (e w n g t c : ℕ) → plus (plus (plus (plus (plus e w) n) g) t) c < 2 ^ 128 - 1
    → (e + w + n + g + t + c ≡ plus (plus (plus (plus (plus e w) n) g) t) c) × (w < 2 ^ 128 - 1)
last_whole e w n g t c less =
    let five = plus_whole (plus (plus (plus (plus e w) n) g) t) c less in
    let four_less = before (plus (plus (plus (plus e w) n) g) t) c _ five less in
    let four = plus_whole (plus (plus (plus e w) n) g) t four_less in
    let three_less = before (plus (plus (plus e w) n) g) t _ four four_less in
    let three = plus_whole (plus (plus e w) n) g three_less in
    let two_less = before (plus (plus e w) n) g _ three three_less in
    let two = plus_whole (plus e w) n two_less in
    let one_less = before (plus e w) n _ two two_less in
    let one = plus_whole e w one_less in
    let here = sums (plus e w) (plus (plus e w) n) (plus (plus (plus e w) n) g) (plus (plus (plus (plus e w) n) g) t)
    (plus (plus (plus (plus (plus e w) n) g) t) c) one two three four five in
    (here, behind (plus e w) one one_less)
  where
    before : (a b s : ℕ) → s ≡ a + b → s < 2 ^ 128 - 1 → a < 2 ^ 128 - 1
    before a b s is less = omega (arith, is, less)

    behind : (s : ℕ) → s ≡ e + w → s < 2 ^ 128 - 1 → w < 2 ^ 128 - 1
    behind s is less = omega (arith, is, less)

    sums : (p q r s u : ℕ) → p ≡ e + w → q ≡ p + n → r ≡ q + g → s ≡ r + t → u ≡ s + c → e + w + n + g + t + c ≡ u
    sums p q r s u one two three four five = omega (arith, one, two, three, four, five)

-- ---- what is told

abbrev pub span_in : Span → Coming → Span
span_in d (Comings.Within s) = s
span_in d Comings.Awaited = d
span_in d Comings.Unknown = d
span_in d Comings.Never = d

abbrev is_within : Coming → Bool
is_within (Comings.Within s) = true
is_within Comings.Awaited = false
is_within Comings.Unknown = false
is_within Comings.Never = false

pub unknown_only : (told : Span) → Comings.Unknown ≡ Comings.Within told → ⊥
unknown_only told e = let no : false ≡ true = ap is_within e in cc

-- a span that is told is one that is counted
pub within_by : (t : Bool) (s told : Span) → (if t then Comings.Within s else Comings.Unknown) ≡ Comings.Within told → (t ≡ true) × (s ≡ told)
within_by true s told e = (refl, ap (span_in told) e)
within_by false s told e = absurd (unknown_only told e)

pub told_of : (x : Stream) (o : Option Span) (told : Span) → coming_by x o ≡ Comings.Within told
    → (o ≡ Some told) × (is_counted (moved x told) ≡ true)
told_of x None told e = absurd (unknown_only told e)
told_of x (Some s) told e =
    let is = within_by (is_counted (moved x s)) s told e in
    (ap (λ (y : Span). Some y) is.1, subst (λ (y : Span). is_counted (moved x y) ≡ true) is.1 is.0)

some_by : (t : Bool) (s told : Span) → (if t then Some s else None) ≡ Some told → (t ≡ true) × (s ≡ told)
some_by true s told e = (refl, same_Some s told e)
some_by false s told e = absurd (cc)

-- how wide a window is that is counted
width_by : (t : Bool) (jitter width : ℕ) → (if t then width else plus jitter width) ≤ greatest_moment → width ≤ greatest_moment
width_by true jitter width le = le
width_by false jitter width le = omega (arith, le)

width_within : (x : Stream) (s : Span) → is_counted (moved x s) ≡ true → s.latest - s.earliest ≤ greatest_moment
width_within x s counted =
    width_by (is_some x.offset) x.jitter (s.latest - s.earliest)
    (leb-true (spread_of x s) greatest_moment (and_parts _ _ counted).1)

-- and when it begins
near_by : (o : Option ℕ) (s : Span) → IsNear o s → unwrap_or (moved_offset o s) 0 ≤ greatest_moment → s.earliest < 2 ^ 126
near_by (Some offset) s near le = omega (arith, le)
near_by None s near le = near

near_within : (x : Stream) (s : Span) → IsNear x.offset s → is_counted (moved x s) ≡ true → s.earliest < 2 ^ 126
near_within x s near counted =
    near_by x.offset s near (leb-true (earliest (moved x s)) greatest_moment (and_parts _ _ counted).0)

-- ---- the laws

module _ (from to : PathPort) (clocks : ℕ) (h : Hop) (s : Span) (b : Bound) (behind : Span) (far : IsFar from clocks)
    (told : IsBehind from to clocks h s b behind) where
  abbrev first : ℕ
  first = first_moment from to h.stream s b h.least

  abbrev last : ℕ
  last = last_moment from to clocks h.stream s b h.greatest

  abbrev span : Span
  span = record { earliest = first - plus (ahead_of from) clocks; latest = last - ahead_of from }

  is_told : (span_behind from to clocks h.stream s b h.least h.greatest ≡ Some behind) × (is_counted (moved h.stream behind) ≡ true)
  is_told = told_of h.stream (span_behind from to clocks h.stream s b h.least h.greatest) behind told

  pub is_span : (nat_le (plus (ahead_of from) clocks) first ≡ true) × (span ≡ behind)
  is_span = some_by (nat_le (plus (ahead_of from) clocks) first) span behind is_told.0

  -- what is taken off is whole
  pub ahead_whole : (plus (ahead_of from) clocks ≡ gap_of from.settings.port.rate + from.since + clocks)
      × (ahead_of from ≡ gap_of from.settings.port.rate + from.since)
  ahead_whole = sums (gap_of from.settings.port.rate) from.since far
    where
      sums : (gap since : ℕ) → gap + since + clocks < 2 ^ 127
          → (plus (plus gap since) clocks ≡ gap + since + clocks) × (plus gap since ≡ gap + since)
      sums gap since less =
          let one : plus gap since ≡ gap + since = omega (arith, less) in
          let two : plus (gap + since) clocks ≡ gap + since + clocks = omega (arith, less) in
          (ap (λ n. plus n clocks) one ∙ two, one)

  begins : Begins from to clocks h s b behind
  begins =
      let needs = needs_of from.settings.port.rate h.stream in
      sums first (plus (ahead_of from) clocks) behind.earliest (gap_of from.settings.port.rate) from.since
      (s.earliest + b.least + needs.shortest + h.least + to.since) (first_below s.earliest b.least needs.shortest h.least to.since)
      (leb-true (plus (ahead_of from) clocks) first is_span.0) (ap (λ (y : Span). y.earliest) is_span.1) ahead_whole.0
    where
      sums : (first ahead earliest gap since whole : ℕ) → first ≤ whole → ahead ≤ first → first - ahead ≡ earliest
          → ahead ≡ gap + since + clocks → earliest + since + gap + clocks ≤ whole
      sums first ahead earliest gap since whole below le is taken = omega (arith, below, le, is, taken)

  -- the last moment isn't cut off
  last_less : IsNear h.stream.offset behind → last < 2 ^ 128 - 1
  last_less near =
      sums last (ahead_of from) behind.earliest behind.latest (gap_of from.settings.port.rate) from.since
      (ap (λ (y : Span). y.latest) is_span.1) ahead_whole.1 far (near_within h.stream behind near is_told.1)
      (width_within h.stream behind is_told.1)
    where
      sums : (last ahead earliest latest gap since : ℕ) → last - ahead ≡ latest → ahead ≡ gap + since → gap + since + clocks < 2 ^ 127
          → earliest < 2 ^ 126 → latest - earliest ≤ greatest_moment → last < 2 ^ 128 - 1
      sums last ahead earliest latest gap since is taken less near wide = omega (arith, is, taken, less, near, wide)

  wait_by : (t : Bool) (greatest width : ℕ) → (if t then greatest else plus greatest width) < 2 ^ 128 - 1
      → (if t then greatest else plus greatest width) ≡ (if t then greatest else greatest + width)
  wait_by true greatest width less = refl
  wait_by false greatest width less = plus_whole greatest width less

  ends : IsNear h.stream.offset behind → Ends from to clocks h s b behind
  ends near =
      let needs = needs_of from.settings.port.rate h.stream in
      let whole = last_whole s.earliest (greatest_of h.stream s b) needs.longest h.greatest to.since clocks (last_less near) in
      let wait : greatest_of h.stream s b ≡ longest_wait h.stream s b
      = wait_by (is_some h.stream.offset) b.greatest (s.latest - s.earliest) whole.1 in
      sums s.earliest (greatest_of h.stream s b) (longest_wait h.stream s b) needs.longest h.greatest to.since last (ahead_of from)
      behind.latest (gap_of from.settings.port.rate) from.since whole.0 wait (ap (λ (y : Span). y.latest) is_span.1) ahead_whole.1
    where
      sums : (e w wait n g t last ahead latest gap since : ℕ) → e + w + n + g + t + clocks ≡ last → w ≡ wait → last - ahead ≡ latest
          → ahead ≡ gap + since → e + wait + n + g + clocks + t ≤ latest + since + gap
      sums e w wait n g t last ahead latest gap since whole same is taken = omega (arith, whole, same, is, taken)

pub begins_law : BeginsLaw
begins_law from to clocks h s b behind far told = begins from to clocks h s b behind far told

pub ends_law : EndsLaw
ends_law from to clocks h s b behind far near told = ends from to clocks h s b behind far told near
