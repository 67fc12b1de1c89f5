-- How the window of a stream at a port follows from that at the port before.
--
-- What is known of hops is added up to what 128 bits hold at most (`plus`). Here each sum is whole. A window counts from the change moment of
-- the port's schedule and the nominal moment together. Times are in picoseconds.
use Rattle.std.specs.Prelude.{◌≡◌, ◌<◌, ◌≤◌, ℕ, ◌+◌, ◌-◌, ◌^◌, Option, Some, None, is_some, if◌then◌else◌}
use Rattle.delay_bounds.specs.declared.Bound.{Bound}
use Rattle.stream_bounds.specs.Verdicts.{needs_of}
use Rattle.traffic.specs.declared.table.Stream.{Stream}
use Rattle.path_bounds.specs.Hops.{coming_behind, gap_of}
use Rattle.path_bounds.specs.declared.hop.Coming.TheVariants as Comings
use Rattle.path_bounds.specs.declared.hop.Hop.{Hop}
use Rattle.path_bounds.specs.declared.hop.PathPort.{PathPort}
use Rattle.path_bounds.specs.declared.hop.Span.{Span}
use Rattle.path_bounds.specs.declared.pass.Leaving.TheVariants as Leavings

-- How long frames wait at most, from the earliest moment at which they may come: bounds of a stream without offset count from its arrivals.
abbrev pub longest_wait : Stream → Span → Bound → ℕ
longest_wait x s b = if is_some x.offset then b.greatest else b.greatest + (s.latest - s.earliest)

-- a port's moment zero, the gap there and the difference of clocks are far from what 128 bits hold
abbrev pub IsFar : PathPort → (clocks : ℕ) → Type 0
IsFar from clocks = gap_of from.settings.port.rate + from.since + clocks < 2 ^ 127

-- and so is the earliest moment of a window. Where the offset is known it is, since moments up to the greatest are told alone.
abbrev pub IsNear : (offset : Option ℕ) → Span → Type 0
IsNear (Some offset) s = Unit {0}
IsNear None s = s.earliest < 2 ^ 126

module _ (from to : PathPort) (clocks : ℕ) (h : Hop) (s : Span) (b : Bound) (behind : Span) where
  -- A window begins no later than the shortest frame may come, which the port before starts at the earliest;
  abbrev pub Begins : Type 0
  Begins =
      behind.earliest + from.since + gap_of from.settings.port.rate + clocks
      ≤ s.earliest + b.least + (needs_of from.settings.port.rate h.stream).shortest + h.least + to.since

  -- and ends no sooner than the longest may, which that starts at the latest.
  abbrev pub Ends : Type 0
  Ends =
      s.earliest + longest_wait h.stream s b + (needs_of from.settings.port.rate h.stream).longest + h.greatest + clocks + to.since
      ≤ behind.latest + from.since + gap_of from.settings.port.rate

  -- it is told so of a hop behind one with this window and these bounds
  abbrev pub IsBehind : Type 0
  IsBehind = coming_behind from to clocks (Leavings.Bounded s b) h ≡ Comings.Within behind

-- The laws: where a window is told of a hop it begins so, and ends so.
abbrev pub BeginsLaw : Type 0
BeginsLaw =
    (from to : PathPort) (clocks : ℕ) (h : Hop) (s : Span) (b : Bound) (behind : Span) → IsFar from clocks
    → IsBehind from to clocks h s b behind → Begins from to clocks h s b behind

abbrev pub EndsLaw : Type 0
EndsLaw =
    (from to : PathPort) (clocks : ℕ) (h : Hop) (s : Span) (b : Bound) (behind : Span) → IsFar from clocks → IsNear h.stream.offset behind
    → IsBehind from to clocks h s b behind → Ends from to clocks h s b behind
