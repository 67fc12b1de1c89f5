-- Which streams are of which class, by a schedule that a new port has accepted.
use Rattle.std.specs.Prelude.{◌<◌, ◌≤◌, ℕ, ◌+◌, ◌^◌, ◌==◌, ◌&&◌, if◌then◌else◌, max, min, not, Bool, false, List, [], ◌∷◌, filter, Option, Some, None, is_some, Result, Ok, Err}
use Rattle.std.specs.List.{list_all, list_any}
use Rattle.wire_time.specs.Moment.{greatest_moment}
use Rattle.wire_time.specs.Wire.{occupancy_of}
use Rattle.wire_time.specs.declared.Frame.{Frame}
use Rattle.abstract_port.specs.AbstractPort.{AbstractPort, after_command, limit_of, own_refusal, verdict}
use Rattle.abstract_port.specs.declared.Change.{Change}
use Rattle.abstract_port.specs.declared.Command.TheVariants.{Replace}
use Rattle.abstract_port.specs.declared.Dropped.{Dropped}
use Rattle.abstract_port.specs.declared.Refused.{Refused}
use Rattle.burst_bounds.specs.declared.Talker.{Talker}
use Rattle.window_bounds.specs.declared.JitteredFlow.{JitteredFlow}
use Rattle.delay_bounds.specs.declared.Flow.{Flow}
use Rattle.schedule_check.specs.Refusals.{port_with}
use Rattle.stream_bounds.specs.declared.settings.BoundsSettings.{BoundsSettings}
use Rattle.traffic.specs.Table.{earliest}
use Rattle.traffic.specs.declared.table.Stream.{Stream}

-- the port before a change: a new one, which has a map already where one is given
abbrev pub port_before : BoundsSettings → AbstractPort
port_before s = port_with s.port.rate s.port.mtu s.port.room s.map

-- why it refuses a change, if it does (the first of its refusals: its map, its size limits, its schedule)
abbrev pub refusal_of : BoundsSettings → Change → Option Refused
refusal_of s c = own_refusal (port_before s) c

-- the port once it has accepted a change
abbrev pub port_of : BoundsSettings → Change → AbstractPort
port_of s c = after_command (port_before s) (Replace c)

-- a frame of a stream, of this length
abbrev pub frame_of : Stream → ℕ → Frame
frame_of x len = record { id = x.first_id; priority = x.priority; len = len; tagged = x.tagged }

-- the octets of its header, with a customer VLAN tag or without
abbrev pub header : Stream → ℕ
header x = if x.tagged then 18 else 14

-- the length of its shortest frame that has a whole header, if one has
abbrev pub whole_len : Stream → ℕ
whole_len x = min x.len (max x.shortest (header x))

-- The class whose queue takes some frames of a stream, where there is room; or why each of them is dropped.
abbrev pub class_of : BoundsSettings → Change → Stream → Result ℕ Dropped
class_of s c x = verdict (port_of s c) (frame_of x (whole_len x))

-- why a frame is dropped, if it is
abbrev pub drop_of : Result ℕ Dropped → Option Dropped
drop_of (Ok class) = None
drop_of (Err why) = Some why

-- the first of two
abbrev pub first_drop : Option Dropped → Option Dropped → Option Dropped
first_drop (Some why) other = Some why
first_drop None other = other

-- why the longest frames of a stream are dropped, or else the shortest, if they are
abbrev pub dropped_of : BoundsSettings → Change → Stream → Option Dropped
dropped_of s c x = first_drop (drop_of (verdict (port_of s c) (frame_of x x.len))) (drop_of (verdict (port_of s c) (frame_of x x.shortest)))

-- the greatest service data unit that a class takes
abbrev pub most_sdu : BoundsSettings → Change → ℕ → ℕ
most_sdu s c class = if limit_of (port_of s c) class == 0 then s.port.mtu else min s.port.mtu (limit_of (port_of s c) class)

-- whether that is this class
abbrev pub is_class : ℕ → Result ℕ Dropped → Bool
is_class class (Ok d) = d == class
is_class class (Err why) = false

-- the streams of a class, in the order of the table
abbrev pub streams_of : BoundsSettings → Change → ℕ → List Stream → List Stream
streams_of s c class streams = filter (λ x. is_class class (class_of s c x)) streams

-- a stream as a flow that goes on for ever
abbrev pub flow_of : ℕ → Stream → Flow
flow_of ps x = record { need = occupancy_of ps x.len; period = x.period; offset = earliest x }

-- the longest frame of a stream, of those up to a service data unit
abbrev pub len_within : ℕ → Stream → ℕ
len_within sdu x = min x.len (header x + sdu)

-- A stream as a talker, of whose frames is known how far apart they come; those up to a service data unit are taken.
unfoldable pub talker_of : (ps sdu : ℕ) → Stream → Talker
talker_of ps sdu x = record { need = occupancy_of ps (len_within sdu x); period = x.period; jitter = x.jitter }

-- A stream as a flow, each of whose frames comes in a window of its own; those up to a service data unit are taken.
unfoldable pub jittered_of : (ps sdu : ℕ) → Stream → JitteredFlow
jittered_of ps sdu x = record {
  offset = earliest x;
  period = x.period;
  jitter = x.jitter;
  shortest = min (occupancy_of ps (whole_len x)) (occupancy_of ps (len_within sdu x));
  longest = occupancy_of ps (len_within sdu x);
}

-- The frames of a stream come at exact moments, and have one length.
abbrev pub is_exact : Stream → Bool
is_exact x = is_some x.offset && (x.jitter == 0 && x.shortest == x.len)

-- some stream's do not
abbrev pub has_inexact : List Stream → Bool
has_inexact streams = list_any (λ x. not (is_exact x)) streams

-- nothing is known of when the frames of a stream come but how far apart
abbrev pub is_any : Stream → Bool
is_any x = not (is_some x.offset)

-- of all streams, and of some
abbrev pub are_any : List Stream → Bool
are_any streams = list_all is_any streams

abbrev pub has_any : List Stream → Bool
has_any streams = list_any is_any streams

-- the frames of a stream have this length
abbrev pub has_len : ℕ → Stream → Bool
has_len len x = x.len == len && x.shortest == len

-- the length of the first stream's frames
abbrev pub first_len : List Stream → ℕ
first_len [] = 0
first_len (x ∷ streams) = x.len

-- the frames of all streams have one length
abbrev pub are_equal : List Stream → Bool
are_equal streams = list_all (has_len (first_len streams)) streams

-- a stream whose frames come one after another
pub record IsPeriodic (x : Stream) : Type 0 where
  pub above : 0 < x.period
  pub period : x.period ≤ greatest_moment
  pub offset : earliest x ≤ greatest_moment
  pub jitter : x.jitter ≤ greatest_moment

-- a talker whose frames need the wire for less than 2^60
pub record IsShort (t : Talker) : Type 0 where
  pub short : t.need < 2 ^ 60
