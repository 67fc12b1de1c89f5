-- Which moment of a frame on the wire the record of its departure carries.
use Rattle.std.specs.Prelude.{ℕ, ◌+◌, ◌-◌, ◌*◌, ◌/◌, min, List, Option, Some, None, codes, unwrap_or, if◌then◌else◌}
use Rattle.std.specs.Str.{bytes_eq}
use Rattle.abstract_port.specs.declared.Start.{Start}
use Rattle.capture.specs.declared.writer.TheConstants.{CAPTURE_END}
use Rattle.replay.specs.declared.stamps.Stamp.{Stamp}
use Rattle.replay.specs.declared.stamps.Stamp.TheVariants as Stamps
use Rattle.replay.specs.declared.stamps.Stamping.{Stamping}

-- how long the gap after a frame is, in picoseconds: 12 octets (IEEE Std 802.3, 4.4.2). A frame's time on the wire ends with it.
abbrev pub gap_of : ℕ → ℕ
gap_of ps = 12 * ps

-- at a rate of so many picoseconds an octet
abbrev pub stamping_at : Stamp → ℕ → Stamping
stamping_at stamp ps = record { stamp = stamp; gap = gap_of ps }

-- A capture has whole nanoseconds. At a moment that is rounded up to them, what was sent before it has been sent.
abbrev pub rounded_up : ℕ → ℕ
rounded_up moment = 1000 * ((moment + 999) / 1000)

-- The moment of a start: that at which the frame starts, or that at which its last octet, of the check sequence, has been sent, which is its end
-- without the gap after it. A moment that no capture can say is the last that one can.
abbrev pub moment_by : Stamp → ℕ → Start → ℕ
moment_by Stamps.Start gap s = s.at
moment_by Stamps.End gap s = min (rounded_up (s.«end» - gap)) (CAPTURE_END - 1)

-- the moment that its record carries
abbrev pub stamped : Stamping → Start → ℕ
stamped how s = moment_by how.stamp how.gap s

-- the stamp of a word: start or end
abbrev pub stamp_in : List ℕ → Option Stamp
stamp_in word = if bytes_eq word (codes "start") then Some Stamps.Start else if bytes_eq word (codes "end") then Some Stamps.End else None

-- of the word that is given, if it is one; start where none is given
abbrev pub stamp_given : Option (List ℕ) → Option Stamp
stamp_given word = stamp_in (unwrap_or word (codes "start"))
