-- The backlog of a walk, and where it is seen to grow for ever.
--
-- A frame that comes finds a backlog for as long as the wire is taken by the frames before it: by their time on the wire, and by their waiting for
-- the gate. At a look the frames of the flows come as they did whole cycles before. Where the backlog has risen by a cycle from one look to a later
-- one, and no frame between them found none, it rises so again and again: `IsOverloaded` (specs/Overloaded.antt).
use Rattle.std.specs.Prelude.{ℕ, ◌-◌, Bool, true, false, ◌&&◌, ◌||◌, if◌then◌else◌, nat_lt, nat_le}
use Rattle.delay_bounds.specs.Bounds.{Track}
use Rattle.delay_bounds.specs.declared.Unbound.{Unbound}
use Rattle.delay_bounds.specs.declared.Unbound.TheVariants.{Overloaded, Long}
use Rattle.delay_bounds.specs.declared.look.Backlog.{Backlog}
use Rattle.delay_bounds.specs.declared.look.Look.{Look}
use Rattle.delay_bounds.specs.declared.look.Look.TheVariants as Looks

-- for how long the wire is taken from t on
abbrev pub taken_at : ℕ → Track → ℕ
taken_at t s = s.free - t

-- before any frame: no look yet
abbrev pub no_backlog : Backlog
no_backlog = record { origin = 0; lasts = false; grows = false }

-- from a look on, at which the wire is taken for so long
abbrev pub from_look : ℕ → Bool → Backlog
from_look taken grows = record { origin = taken; lasts = true; grows = grows }

-- beside an earlier look since which it has lasted: it may have risen by a cycle
abbrev pub beside : ℕ → ℕ → Backlog → Backlog
beside cycle taken b = record { origin = b.origin; lasts = true; grows = b.grows || nat_le cycle (taken - b.origin) }

-- where the frames come as they did
abbrev pub compared : ℕ → ℕ → Backlog → Backlog
compared cycle taken b = if b.lasts then beside cycle taken b else from_look taken b.grows

-- behind a look
abbrev pub looked : ℕ → Look → ℕ → Backlog → Backlog
looked cycle Looks.Frames taken b = compared cycle taken b
looked cycle Looks.First taken b = from_look taken b.grows
looked cycle _ taken b = b

-- behind the frame that comes then: it has found none where the wire was free
abbrev pub with_frame : ℕ → Backlog → Backlog
with_frame taken b = record { origin = b.origin; lasts = b.lasts && nat_lt 0 taken; grows = b.grows }

-- behind a look and that frame
abbrev pub followed : ℕ → Look → ℕ → Backlog → Backlog
followed cycle l taken b = with_frame taken (looked cycle l taken b)

-- why flows have no bounds, where so many frames were walked as may be
abbrev pub unended : Backlog → Unbound
unended b = if b.grows then Overloaded else Long
