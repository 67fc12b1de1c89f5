-- The lines of a summary.
use Rattle.std.specs.Prelude.{ℕ, zero, suc, ◌++◌, ◌+◌, ◌-◌, ◌*◌, ◌/◌, ◌==◌, ◌&&◌, List, [], ◌∷◌, Option, Some, None, decimal, codes, slice_index, if◌then◌else◌}
use Rattle.std.specs.List.{concat}
use Rattle.abstract_port.specs.AbstractPort.{AbstractPort, counters_of}
use Rattle.abstract_port.specs.declared.Counters.{Counters}
use Rattle.summary.specs.Observed.{ClassSeen, Observed, class_at, mean_of}
use Rattle.summary.specs.declared.waits.Waits.{Waits}

-- a number of picoseconds, or - where no frame has started
abbrev pub wait_text : Waits → ℕ → List ℕ
wait_text w number = if w.count == 0 then codes "-" else decimal number

-- the frames of a class that were dropped
abbrev pub dropped_of : Counters → ℕ
dropped_of c = slice_index c.dropped 0 + slice_index c.dropped 1 + slice_index c.dropped 2 + slice_index c.dropped 3

-- what a class has counted, how long its frames waited from arrival to start, and the greatest number that waited at once
abbrev pub class_line : ℕ → Counters → Waits → ℕ → List ℕ
class_line class c w most = concat (
    codes "summary class " ∷ decimal class
    ∷ codes " queued " ∷ decimal c.accepted
    ∷ codes " sent " ∷ decimal c.sent
    ∷ codes " dropped " ∷ decimal (dropped_of c)
    ∷ codes " octets " ∷ decimal c.sent_octets
    ∷ codes " least " ∷ wait_text w w.least
    ∷ codes " mean " ∷ wait_text w (mean_of w)
    ∷ codes " greatest " ∷ wait_text w w.greatest
    ∷ codes " most " ∷ decimal most
    ∷ codes "\n" ∷ [])

-- the line of a class that had frames
abbrev pub class_text : ℕ → Counters → ClassSeen → List ℕ
class_text class c s = if c.accepted == 0 && dropped_of c == 0 then [] else class_line class c s.waits s.most

-- For how long some frame has had the wire by a moment: what a frame that is on it still needs isn't counted.
abbrev pub busy_by : ℕ → Observed → ℕ
busy_by now o = o.busy - (o.free - now)

-- the share of a time in parts per million, rounded down; 0 of no time
abbrev pub share_of : ℕ → ℕ → ℕ
share_of busy now = if now == 0 then 0 else busy * 1000000 / now

-- the time up to a moment since the first frame was queued; none where none was
abbrev pub time_since : Option ℕ → ℕ → ℕ
time_since None now = 0
time_since (Some first) now = now - first

-- the moment at which the first frame was queued, or - where none was
abbrev pub first_text : Option ℕ → List ℕ
first_text None = codes "-"
first_text (Some first) = decimal first

-- how long the wire was busy, in picoseconds; the share of the time up to a moment; and the moment at which the first frame was queued, with the
-- share of the time since
abbrev pub wire_line : ℕ → ℕ → Option ℕ → List ℕ
wire_line busy now first = concat (
    codes "summary wire busy " ∷ decimal busy
    ∷ codes " ppm " ∷ decimal (share_of busy now)
    ∷ codes " from " ∷ first_text first
    ∷ codes " ppm " ∷ decimal (share_of busy (time_since first now))
    ∷ codes "\n" ∷ [])

-- how many frames were queued before the change moment of the first command: all gates were open for them
abbrev pub open_line : ℕ → ℕ → List ℕ
open_line early change = concat (codes "summary open " ∷ decimal early ∷ codes " frames before " ∷ decimal change ∷ codes "\n" ∷ [])

-- no line where no command was accepted, or no frame was queued before it came into force
abbrev pub open_text : ℕ → Option ℕ → List ℕ
open_text early None = []
open_text early (Some change) = if early == 0 then [] else open_line early change

-- the line of the wire, by what is seen, and then that of the frames for which all gates were open
abbrev pub wire_text : ℕ → Observed → List ℕ
wire_text now o = wire_line (busy_by now o) now o.first ++ open_text o.early o.change

-- the lines of so many classes from one on, of a port of which this is seen
unfoldable pub classes_from : ℕ → ℕ → AbstractPort → Observed → List ℕ
classes_from zero class p o = []
classes_from (suc n) class p o = class_text class (counters_of p class) (class_at o.classes class) ++ classes_from n (class + 1) p o

-- the lines of the classes that had frames, in rising order, and then those of the wire and of open gates, up to the port's moment
abbrev pub summary_lines : AbstractPort → Observed → List ℕ
summary_lines p o = classes_from 8 0 p o ++ wire_text p.now o
