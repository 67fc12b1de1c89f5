-- Whether a frame is in time for the deadline of its stream. Times are in picoseconds.
use Rattle.std.specs.Prelude.{ℕ, ◌-◌, nat_le, Bool, false, ◌||◌, List, [], ◌∷◌, Option, Some, None, is_some, codes, if◌then◌else◌}
use Rattle.script.specs.declared.watch.Missed.{Missed}
use Rattle.script.specs.declared.watch.Missed.TheVariants as Misses
use Rattle.traffic.specs.declared.table.Stream.{Stream}
use Rattle.frame_table.specs.declared.rows.Fate.{Fate}
use Rattle.frame_table.specs.declared.rows.Fate.TheVariants.{Sent, Left, Lost}

-- Why a frame with this deadline, which came at this moment, isn't in time, if it isn't. One that was sent is in time where it has left at most its
-- deadline after it came: its end counts, with the gap behind it, as it does for `bounds` (stream_bounds/specs/Verdicts.antt, met_by).
abbrev pub missed : (deadline came : ℕ) → Fate → Option Missed
missed deadline came (Sent s) = if nat_le (s.«end» - came) deadline then None else Some Misses.Late
missed deadline came Left = Some Misses.Left
missed deadline came (Lost why) = Some (Misses.Dropped why)

-- the word for it; of a frame that still waits there is none, since it may yet be in time
abbrev pub deadline_word : Option Missed → List ℕ
deadline_word None = codes "met"
deadline_word (Some Misses.Late) = codes "missed"
deadline_word (Some (Misses.Dropped why)) = codes "missed"
deadline_word (Some Misses.Left) = []

-- by the deadline of its stream, where it is of one that has one
abbrev pub word_by : Option ℕ → ℕ → Fate → List ℕ
word_by None came fate = []
word_by (Some deadline) came fate = deadline_word (missed deadline came fate)

abbrev pub word_of : Option Stream → ℕ → Fate → List ℕ
word_of None came fate = []
word_of (Some s) came fate = word_by s.deadline came fate

-- whether one of these streams has a deadline
abbrev pub has_deadlines : List Stream → Bool
has_deadlines [] = false
has_deadlines (s ∷ rest) = is_some s.deadline || has_deadlines rest
