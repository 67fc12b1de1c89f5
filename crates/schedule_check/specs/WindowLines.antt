-- The lines of what a schedule gives each class.
use Rattle.std.specs.Prelude.{◌+◌, ◌-◌, ◌^◌, min, nat_lt, ◌==◌, List, ℕ, zero, suc, [], ◌∷◌, ◌++◌, Bool, true, false, Option, Some, None, decimal, codes, if◌then◌else◌}
use Rattle.std.specs.List.{concat}
use Rattle.delay_bounds.specs.LongestWait.{longest_wait}
use Rattle.gates.specs.Gate.{Plan}
use Rattle.gates.specs.declared.gate_list.Stay.{Stay}
use Rattle.gates.specs.declared.gate_list.Stay.TheVariants.{Lasts, Always}
use Rattle.schedule_check.specs.declared.windows.Longest.{Longest}
use Rattle.schedule_check.specs.declared.windows.Longest.TheVariants.{NoFrame, Octets, AnyFrame}
use Rattle.schedule_check.specs.declared.windows.Window.{Window}
use Rattle.wire_time.specs.Wire.{occupancy_of}

-- a time in picoseconds, or a word where it never ends
abbrev pub time_text : Stay → List ℕ
time_text (Lasts t) = decimal t
time_text Always = codes "always"

-- the longest frame in octets, or a word where there is none, or none is too long: a frame has less than 2^32 octets
abbrev pub frame_text : Longest → List ℕ
frame_text NoFrame = codes "none"
frame_text (Octets n) = if nat_lt n (2 ^ 32) then decimal n else codes "any"
frame_text AnyFrame = codes "any"

-- a wait in picoseconds, or a word where the frame never leaves
abbrev pub wait_text : Option ℕ → List ℕ
wait_text None = codes "none"
wait_text (Some wait) = decimal wait

-- The longest wait, from its arrival to its start, of the longest frame that can start, where it comes to a class that is idle: 0 where the class never
-- closes. No frame is longer than 2^32 - 1 octets.
abbrev pub longest_wait_of : ℕ → Plan → ℕ → Longest → Option ℕ
longest_wait_of ps plan class NoFrame = None
longest_wait_of ps plan class (Octets n) = longest_wait plan class (occupancy_of ps (min n (2 ^ 32 - 1)))
longest_wait_of ps plan class AnyFrame = Some 0

-- the same of a frame whose length is given
abbrev pub given_wait_text : ℕ → Plan → ℕ → Option ℕ → List ℕ
given_wait_text ps plan class None = []
given_wait_text ps plan class (Some len) = concat (codes " length " ∷ decimal len ∷ codes " wait " ∷ wait_text (longest_wait plan class (occupancy_of ps len)) ∷ [])

-- the end of a line of a class: how long frames wait at the longest
abbrev pub waits_text : ℕ → Plan → ℕ → Option ℕ → Longest → List ℕ
waits_text ps plan class frame longest = concat (
    codes " wait " ∷ wait_text (longest_wait_of ps plan class longest)
    ∷ given_wait_text ps plan class frame ∷ codes "\n" ∷ [])

-- the line of a class
abbrev pub window_line : ℕ → Window → List ℕ
window_line class w = concat (
    codes "window class " ∷ decimal class
    ∷ codes " open " ∷ time_text w.open_time
    ∷ codes " closed " ∷ time_text w.closed_time
    ∷ codes " share " ∷ decimal w.share
    ∷ codes " of " ∷ decimal w.cycle
    ∷ codes " frame " ∷ frame_text w.longest_frame
    ∷ [])

-- the line of a class that is never open: there is one where some priority leads to it
abbrev pub never_line : Bool → ℕ → List ℕ
never_line led class = if led then concat (codes "never " ∷ decimal class ∷ codes "\n" ∷ []) else []

-- the line of a class, to which some priority leads or none does, with this end; a class that is ever open is so for some part of a cycle
abbrev pub told_line : Bool → ℕ → Window → List ℕ → List ℕ
told_line led class w waits = if w.share == 0 then never_line led class else window_line class w ++ waits

-- of so many classes from one on, the lines, in rising order
unfoldable pub open_lines : (ℕ → List ℕ) → ℕ → ℕ → List ℕ
open_lines line zero class = []
open_lines line (suc n) class = line class ++ open_lines line n (class + 1)

-- the lines of the classes below a number, where they are asked for
abbrev pub asked_lines : Bool → (ℕ → List ℕ) → ℕ → List ℕ
asked_lines true line count = open_lines line count 0
asked_lines false line count = []
