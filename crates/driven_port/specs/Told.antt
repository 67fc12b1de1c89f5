-- What a driven port answers, and the port then (IEEE Std 802.1Q-2018, 8.6.8.4), as structs of a fixed layout.
use Rattle.std.specs.Prelude.{ℕ, ◌/◌, ◌%◌, ◌^◌, Bool, true, false, ◌||◌, nat_lt, if◌then◌else◌, Option, Some, None, Result, Ok, Err, is_some, slice_index_or}
use Rattle.wire_time.specs.Moment.{greatest_moment}
use Rattle.wire_time.specs.declared.Frame.{Frame}
use Rattle.abstract_port.specs.AbstractPort.{AbstractPort, verdict, after_arrival, installs, next_start, settled, report_of, counters_of}
use Rattle.abstract_port.specs.declared.Command.{Command}
use Rattle.abstract_port.specs.declared.Counters.{Counters}
use Rattle.abstract_port.specs.declared.Dropped.{Dropped}
use Rattle.abstract_port.specs.declared.Refused.{Refused}
use Rattle.abstract_port.specs.declared.Refused.TheVariants.{MapMissing, MapChanged, SduTooLarge, Schedule, Busy}
use Rattle.abstract_port.specs.declared.Report.{Report}
use Rattle.abstract_port.specs.declared.Start.{Start}
use Rattle.driven_port.specs.Codes.{dropped_code, plan_code, schedule_code}
use Rattle.driven_port.specs.declared.taken.ScheduleFault.{ScheduleFault}
use Rattle.driven_port.specs.declared.values.CAnswer.{CAnswer}
use Rattle.driven_port.specs.declared.values.CCounters.{CCounters}
use Rattle.driven_port.specs.declared.values.CReport.{CReport}

-- the halves of a moment
abbrev pub low : ℕ → ℕ
low moment = moment % 2 ^ 64

abbrev pub high : ℕ → ℕ
high moment = moment / 2 ^ 64

-- an answer of a kind that names nothing. The kinds: 1 queued, 2 dropped, 3 installed, 4 refused, 5 malformed, 6 start, 7 rest, 8 backward
abbrev pub answer : ℕ → CAnswer
answer kind = record { id = 0; at_low = 0; at_high = 0; end_low = 0; end_high = 0; kind = kind; reason = 0; class = 0; entry = 0 }

-- ---- arrivals

abbrev pub arrival_told : ℕ → Result ℕ Dropped → CAnswer
arrival_told id (Ok class) = record (answer 1) { id = id; class = class }
arrival_told id (Err why) = record (answer 2) { id = id; reason = dropped_code why }

-- a frame arrives
abbrev pub arrives : Frame → AbstractPort → CAnswer × AbstractPort
arrives f p = let v = verdict p f in (arrival_told f.id v, after_arrival p f v)

-- ---- commands

abbrev pub refused_told : Refused → CAnswer
refused_told MapMissing = record (answer 4) { reason = 6 }
refused_told MapChanged = record (answer 4) { reason = 7 }
refused_told (SduTooLarge class) = record (answer 4) { reason = 8; class = class }
refused_told (Schedule fault) = record (answer 4) { reason = (plan_code fault).0; entry = (plan_code fault).1 }
refused_told (Busy lead) = record (answer 4) { reason = 14; at_low = low lead; at_high = high lead }

abbrev pub command_told : Result ℕ Refused → CAnswer
command_told (Ok change) = record (answer 3) { at_low = low change; at_high = high change }
command_told (Err why) = refused_told why

abbrev pub malformed_told : ScheduleFault → CAnswer
malformed_told fault = record (answer 5) { reason = schedule_code fault }

-- a command is given, or a schedule that is none
abbrev pub given : Result Command ScheduleFault → AbstractPort → CAnswer × AbstractPort
given (Ok command) p = let r = installs p command in (command_told r.0, r.1)
given (Err fault) p = (malformed_told fault, p)

-- ---- the clock

abbrev pub start_told : Option Start → CAnswer
start_told (Some s) = record (answer 6) { id = s.id; at_low = low s.at; at_high = high s.at; end_low = low s.«end»; end_high = high s.«end»; class = s.class }
start_told None = answer 7

-- the clock goes on to the first start before a moment, or to that moment; it goes neither back nor past the greatest moment
abbrev pub steps : ℕ → AbstractPort → CAnswer × AbstractPort
steps upto p =
    if nat_lt upto p.now || nat_lt greatest_moment upto then (answer 8, p)
    else let s = next_start p upto in (start_told s.0, settled s.1)

-- ---- what is shown

-- 1 where it is so
abbrev pub bit : Bool → ℕ
bit true = 1
bit false = 0

abbrev pub shown : Report → CReport
shown r = record { now_low = low r.now; now_high = high r.now; no_class = r.no_class; gates = r.mask; pending = bit (is_some r.pending || is_some r.announced) }

-- what a port shows now
abbrev pub report_told : AbstractPort → CReport
report_told p = shown (report_of p)

abbrev pub counted : Option Counters → CCounters
counted (Some c) = record {
  accepted = c.accepted;
  sent = c.sent;
  sent_octets = c.sent_octets;
  waiting = c.waiting;
  runt = slice_index_or c.dropped 0 0;
  too_long = slice_index_or c.dropped 1 0;
  over_sdu = slice_index_or c.dropped 2 0;
  full = slice_index_or c.dropped 3 0;
}
counted None = record { accepted = 0; sent = 0; sent_octets = 0; waiting = 0; runt = 0; too_long = 0; over_sdu = 0; full = 0 }

-- what a class has counted; zeros where it is none
abbrev pub counters_told : ℕ → AbstractPort → CCounters
counters_told class p = counted (if nat_lt class 8 then Some (counters_of p class) else None)
