-- The frame that a record is of (IEEE Std 802.1Q-2018, 9.3 to 9.6: a tag stands after the two addresses).
use Rattle.std.specs.Prelude.{ℕ, ◌/◌, List, length, max, Bool, ◌&&◌, ◌==◌, nat_le, slice_index, if◌then◌else◌}
use Rattle.wire_time.specs.declared.Frame.{Frame}
use Rattle.capture.specs.declared.record.Record.{Record}
use Rattle.capture.specs.Records.{Entry}

-- a record without where its octets lie
abbrev pub entry : Record → Entry
entry r = record { moment = r.moment; captured = r.captured; original = r.original; octets = r.octets.now }

-- whether a customer tag stands there whole: its type 81 00 and the two octets of its control information
abbrev pub is_tagged : List ℕ → Bool
is_tagged octets = nat_le 16 (length octets) && (slice_index octets 12 == 0x81) && (slice_index octets 13 == 0)

-- the frame: the longer of the two lengths, and the priority in the three high bits of the control information
abbrev pub frame_of : Entry → ℕ → Frame
frame_of e id = record {
  id = id;
  priority = if is_tagged e.octets then slice_index e.octets 14 / 32 else 0;
  len = max e.captured e.original;
  tagged = is_tagged e.octets;
}
