-- What the time stamps of both captures of a replay say.
use Rattle.std.specs.Prelude.{List, ℕ, Option, Some, None, Result, Ok, Err, codes}
use Rattle.replay.specs.Shifts.{shift_in}
use Rattle.replay.specs.Stamps.{stamp_given}
use Rattle.replay.specs.declared.shifts.Shift.{Shift}
use Rattle.replay.specs.declared.stamps.Stamp.{Stamp}
use Rattle.replay.specs.declared.timing.BadTiming.{BadTiming}
use Rattle.replay.specs.declared.timing.BadTiming.TheVariants as Bad
use Rattle.replay.specs.declared.timing.Timing.{Timing}

-- with this stamp, and the shift of a word, if it is one
abbrev pub timing_with : Stamp → Option Shift → Result Timing BadTiming
timing_with stamp None = Err Bad.Shift
timing_with stamp (Some shift) = Ok (record { stamp = stamp; shift = Some shift })

-- with this stamp; no word, no shift
abbrev pub timing_by : Stamp → Option (List ℕ) → Result Timing BadTiming
timing_by stamp None = Ok (record { stamp = stamp; shift = None })
timing_by stamp (Some word) = timing_with stamp (shift_in word)

-- with the stamp of a word, if it is one
abbrev pub timing_stamped : Option Stamp → Option (List ℕ) → Result Timing BadTiming
timing_stamped None shift = Err Bad.Stamp
timing_stamped (Some stamp) shift = timing_by stamp shift

-- of the words that are given: a stamp that is none comes first
abbrev pub timing_given : Option (List ℕ) → Option (List ℕ) → Result Timing BadTiming
timing_given stamp shift = timing_stamped (stamp_given stamp) shift

-- the text of a word that is bad
abbrev pub timing_text : BadTiming → List ℕ
timing_text Bad.Stamp = codes "taprio_port: bad value of --stamp\n"
timing_text Bad.Shift = codes "taprio_port: bad value of --shift\n"
