-- A time that is added to the moment of each record of a capture, or taken from it, before the record is answered.
use Rattle.std.specs.Prelude.{◌+◌, ◌-◌, ◌==◌, nat_le, ℕ, List, [], ◌∷◌, Bool, true, false, Option, Some, None, Result, Ok, Err, option_map, if◌then◌else◌}
use Rattle.capture.specs.Records.{Entry}
use Rattle.capture.specs.declared.fault.CapFault.{CapFault}
use Rattle.capture.specs.declared.fault.CapFault.TheVariants.{BadShift}
use Rattle.capture.specs.declared.reader.End.{End}
use Rattle.capture.specs.declared.reader.End.TheVariants.{Broken}
use Rattle.capture.specs.declared.writer.TheConstants.{CAPTURE_END}
use Rattle.text.specs.Times.{moment_in}
use Rattle.replay.specs.declared.shifts.Shift.{Shift}

-- 1. Moments

-- a moment that a capture can say, or the first that it can't
abbrev pub within : ℕ → Option ℕ
within moment = if nat_le moment CAPTURE_END then Some moment else None

-- a moment, moved: none before 0, and none past the greatest
abbrev pub shifted : Shift → ℕ → Option ℕ
shifted shift moment =
    if shift.earlier then (if nat_le shift.by moment then within (moment - shift.by) else None) else within (moment + shift.by)

-- a moment, moved where that is asked
abbrev pub moved_moment : Option Shift → ℕ → Option ℕ
moved_moment None moment = Some moment
moved_moment (Some shift) moment = shifted shift moment

-- 2. Captures

-- a record whose moment is moved, and those behind it; or, where there is no such moment, a fault of the record, with which the capture ends
abbrev pub with_moved : Entry → Option ℕ → List Entry × End → List Entry × End
with_moved e None behind = ([], Broken BadShift)
with_moved e (Some moment) behind = (record e { moment = moment } ∷ behind.0, behind.1)

-- the records of a capture and its end, moved
abbrev pub moved : Option Shift → List Entry → End → List Entry × End
moved shift [] last = ([], last)
moved shift (e ∷ es) last = with_moved e (moved_moment shift e.moment) (moved shift es last)

-- what was read of a capture, moved: a fault of its header stays
abbrev pub moved_reading : Option Shift → Result (List Entry × End) CapFault → Result (List Entry × End) CapFault
moved_reading shift (Ok records) = Ok (moved shift records.0 records.1)
moved_reading shift (Err fault) = Err fault

-- 3. Words

-- by so much, which is a word, earlier or later
abbrev pub shift_by : Bool → List ℕ → Option Shift
shift_by earlier word = option_map (λ by. record { earlier = earlier; by = by }) (moment_in CAPTURE_END word)

-- picoseconds, or a number with its unit; `-` in front says earlier
abbrev pub shift_in : List ℕ → Option Shift
shift_in [] = shift_by false []
shift_in (b ∷ bs) = if b == 45 then shift_by true bs else shift_by false (b ∷ bs)
