-- What is known of a stream at the ports on its way.
--
-- A port sends the last octet of a frame a gap before the end of its time on the wire (IEEE Std 802.3, 4.4.2). A link takes it to the next
-- port within two times. Moment zero is one for all ports; offsets count from it, each moment at a port from the change moment of its
-- schedule. The clocks of two ports differ by so much at most. Times are in picoseconds.
use Rattle.std.specs.Prelude.{◌≡◌, ℕ, ◌+◌, ◌-◌, ◌*◌, ◌==◌, nat_le, ◌&&◌, not, Bool, true, false, List, [], ◌∷◌, Option, Some, None, is_some, slice_get, if◌then◌else◌}
use Rattle.wire_time.specs.Moment.{greatest_moment}
use Rattle.abstract_port.specs.AbstractPort.{plan_asked}
use Rattle.delay_bounds.specs.declared.Bound.{Bound}
use Rattle.stream_bounds.specs.Classes.{IsPeriodic}
use Rattle.stream_bounds.specs.Verdicts.{needs_of, plus}
use Rattle.traffic.specs.Table.{earliest}
use Rattle.traffic.specs.declared.table.Stream.{Stream}
use Rattle.path_bounds.specs.declared.hop.Coming.{Coming}
use Rattle.path_bounds.specs.declared.hop.Coming.TheVariants as Comings
use Rattle.path_bounds.specs.declared.hop.Hop.{Hop}
use Rattle.path_bounds.specs.declared.hop.PathPort.{PathPort}
use Rattle.path_bounds.specs.declared.hop.Span.{Span}
use Rattle.path_bounds.specs.declared.pass.Leaving.{Leaving}
use Rattle.path_bounds.specs.declared.pass.Leaving.TheVariants as Leavings

-- 1. A stream at a port

-- a port's schedule is the one that its change asks for
pub record IsPort (p : PathPort) : Type 0 where
  pub plan : p.schedule ≡ plan_asked p.change

-- by how much a frame may come later than at the earliest moment that is known
abbrev pub spread_of : Stream → Span → ℕ
spread_of x s = if is_some x.offset then s.latest - s.earliest else plus x.jitter (s.latest - s.earliest)

abbrev pub moved_offset : Option ℕ → Span → Option ℕ
moved_offset (Some offset) s = Some (plus offset s.earliest)
moved_offset None s = None

-- the stream as a port gets it, whose frames come within a span there
abbrev pub moved : Stream → Span → Stream
moved x s = record x { offset = moved_offset x.offset s; jitter = spread_of x s }

-- its moments are no later than the greatest
abbrev pub is_counted : Stream → Bool
is_counted x = nat_le (earliest x) greatest_moment && nat_le x.jitter greatest_moment

-- so much is known, where frames come within a span: nothing, where that is beyond the greatest moment
abbrev pub coming_of : Stream → Span → Coming
coming_of x s = if is_counted (moved x s) then Comings.Within s else Comings.Unknown

-- At its first port a frame comes with its nominal moment, or up to the talker's jitter later, where the offset is known. The schedule there
-- is in force for so long at moment zero.
abbrev pub first_span : Stream → (since : ℕ) → Span
first_span x since = record { earliest = since; latest = plus since (if is_some x.offset then x.jitter else 0) }

-- the stream as a port gets it, as far as that is known
abbrev pub entry_by : Stream → Coming → Stream
entry_by x (Comings.Within s) = moved x s
entry_by x Comings.Awaited = x
entry_by x Comings.Unknown = x
entry_by x Comings.Never = x

abbrev pub entry_of : Hop → Stream
entry_of h = entry_by h.stream h.coming

-- what is known can be judged by
abbrev pub IsHeard : Stream → Coming → Type 0
IsHeard x (Comings.Within s) = IsPeriodic (moved x s)
IsHeard x _ = Unit {0}

pub record IsHop (h : Hop) : Type 0 where
  pub stream : IsPeriodic h.stream
  pub heard : IsHeard h.stream h.coming

-- 2. From port to port

-- for how long the gap behind a frame occupies the wire
abbrev pub gap_of : (ps : ℕ) → ℕ
gap_of ps = 12 * ps

-- how long frames wait at most, from the earliest moment at which they may come: bounds of a stream without offset count from its arrivals
abbrev pub greatest_of : Stream → Span → Bound → ℕ
greatest_of x s b = if is_some x.offset then b.greatest else plus b.greatest (s.latest - s.earliest)

-- what has to be taken off a moment by the clock of one port, for the next one to have it by its own
abbrev pub ahead_of : PathPort → ℕ
ahead_of from = plus (gap_of from.settings.port.rate) from.since

-- When frames come to the next port, by when they come to one, and how long they wait there. The shortest that starts the earliest comes
-- first, and the longest that starts the latest comes last.
abbrev pub first_moment : (from to : PathPort) → Stream → Span → Bound → (least : ℕ) → ℕ
first_moment from to x s b least =
    plus (plus (plus (plus s.earliest b.least) (needs_of from.settings.port.rate x).shortest) least) to.since

abbrev pub last_moment : (from to : PathPort) → (clocks : ℕ) → Stream → Span → Bound → (greatest : ℕ) → ℕ
last_moment from to clocks x s b greatest =
    plus (plus (plus (plus (plus s.earliest (greatest_of x s b)) (needs_of from.settings.port.rate x).longest) greatest) to.since) clocks

-- It is known where it does not begin before moment zero by the schedule of the next port.
abbrev pub span_behind : (from to : PathPort) → (clocks : ℕ) → Stream → Span → Bound → (least greatest : ℕ) → Option Span
span_behind from to clocks x s b least greatest =
    if nat_le (plus (ahead_of from) clocks) (first_moment from to x s b least)
    then Some (record {
      earliest = first_moment from to x s b least - plus (ahead_of from) clocks;
      latest = last_moment from to clocks x s b greatest - ahead_of from;
    })
    else None

abbrev pub coming_by : Stream → Option Span → Coming
coming_by x (Some s) = coming_of x s
coming_by x None = Comings.Unknown

-- 3. Hops of a class

-- none comes
abbrev pub is_never : Coming → Bool
is_never Comings.Never = true
is_never _ = false

-- nothing is known yet
abbrev pub is_awaited : Coming → Bool
is_awaited Comings.Awaited = true
is_awaited _ = false

-- nothing will be known
abbrev pub is_unknown : Coming → Bool
is_unknown Comings.Unknown = true
is_unknown _ = false

abbrev pub is_class : Option ℕ → ℕ → Bool
is_class (Some d) class = d == class
is_class None class = false

-- frames of a hop may come to a port
abbrev pub is_at : (port : ℕ) → Hop → Bool
is_at port h = h.port == port && not (is_never h.coming)

-- and are of a class there
abbrev pub is_own : (port class : ℕ) → Hop → Bool
is_own port class h = is_at port h && is_class h.class class

-- 4. Behind a class that is judged

-- when frames come behind a port, by what leaves it: nothing is known where that has no bounds
abbrev pub coming_behind : (from to : PathPort) → (clocks : ℕ) → Leaving → Hop → Coming
coming_behind from to clocks Leavings.Other h = h.coming
coming_behind from to clocks Leavings.Unbounded h = Comings.Unknown
coming_behind from to clocks (Leavings.Bounded s b) h = coming_by h.stream (span_behind from to clocks h.stream s b h.least h.greatest)

abbrev pub coming_at : (from : PathPort) → (to : Option PathPort) → (clocks : ℕ) → Leaving → Hop → Coming
coming_at from (Some to) clocks leaving h = coming_behind from to clocks leaving h
coming_at from None clocks leaving h = Comings.Unknown

-- what leaves a port where frames come as is known, and have these bounds there
abbrev pub leaving_of : Coming → Option Bound → Leaving
leaving_of (Comings.Within s) (Some b) = Leavings.Bounded s b
leaving_of _ _ = Leavings.Unbounded

module _ (ports : List PathPort) (from : PathPort) (clocks : ℕ) where
  -- a hop, behind one that so much leaves: it is known now when its frames come, if it wasn't
  abbrev pub arrived : Leaving → Hop → Hop
  arrived leaving h = if is_awaited h.coming then record h { coming = coming_at from (slice_get ports h.port) clocks leaving h } else h

  module _ (port class : ℕ) (left : List Bound) where
    -- a hop of the class has the next bounds, and the one behind it is known by them
    abbrev pub passed_by : Bool → (place : ℕ) → Hop → (ℕ → Leaving → List Hop) → List Hop
    passed_by true place h behind =
        record h { bound = slice_get left place } ∷ behind (place + 1) (leaving_of h.coming (slice_get left place))
    passed_by false place h behind = h ∷ behind place Leavings.Other

    abbrev pub passed_at : (place : ℕ) → Leaving → Hop → (ℕ → Leaving → List Hop) → List Hop
    passed_at place leaving h behind = passed_by (is_own port class (arrived leaving h)) place (arrived leaving h) behind

    -- the hops, once the class has these bounds, of which so many have been given
    unfoldable pub passed_on : (place : ℕ) → Leaving → List Hop → List Hop
    passed_on place leaving [] = []
    passed_on place leaving (h ∷ hs) = passed_at place leaving h (λ place leaving. passed_on place leaving hs)
