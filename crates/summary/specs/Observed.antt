-- What is seen of a run, answer by answer: how long frames wait, and how long the wire is busy. Moments and durations are in
-- picoseconds.
use Rattle.std.specs.Prelude.{ℕ, ◌+◌, ◌-◌, ◌^◌, ◌==◌, ◌/◌, nat_lt, min, max, List, [], ◌∷◌, ◌++◌, length, Option, Some, None, Bool, true, false, slice_set, slice_index_or, if◌then◌else◌}
use Rattle.abstract_port.specs.Eight.{eight}
use Rattle.abstract_port.specs.AbstractPort.{AbstractPort}
use Rattle.abstract_port.specs.Answers.{answers_to}
use Rattle.abstract_port.specs.declared.Answer.{Answer}
use Rattle.abstract_port.specs.declared.Answer.TheVariants as Answered
use Rattle.abstract_port.specs.declared.Event.{Event}
use Rattle.abstract_port.specs.declared.Start.{Start}
use Rattle.summary.specs.declared.waits.Waits.{Waits}

-- 1. Waits

-- a sum that stays at the greatest u128
abbrev pub sum_capped : ℕ → ℕ → ℕ
sum_capped n k = min (n + k) (2 ^ 128 - 1)

-- of no frame
abbrev pub no_waits : Waits
no_waits = record { count = 0; least = 0; sum = 0; greatest = 0 }

-- the less of two waits; the first frame's is the least so far
abbrev pub least_with : ℕ → Waits → ℕ
least_with wait w = if w.count == 0 then wait else min w.least wait

-- and of one frame more
abbrev pub with_wait : ℕ → Waits → Waits
with_wait wait w = record {
  count = sum_capped w.count 1;
  least = least_with wait w;
  sum = sum_capped w.sum wait;
  greatest = max w.greatest wait;
}

-- the mean, rounded down; 0 of no frame
abbrev pub mean_of : Waits → ℕ
mean_of w = if w.count == 0 then 0 else w.sum / w.count

-- 2. A class

-- The arrival moments of the frames that wait, the first to go first, and for how many there is room; the greatest number that
-- waited at once; and the waits of the frames that started.
pub record ClassSeen : Type 0 where
  pub arrivals : List ℕ
  pub room : ℕ
  pub most : ℕ
  pub waits : Waits

-- a class without frames
abbrev pub no_frames : ℕ → ClassSeen
no_frames room = record { arrivals = []; room = room; most = 0; waits = no_waits }

-- a frame is queued at a moment, if there is room
abbrev pub with_arrival : ℕ → ClassSeen → ClassSeen
with_arrival now c =
    if nat_lt (length c.arrivals) c.room
    then record c { arrivals = c.arrivals ++ now ∷ []; most = max c.most (length c.arrivals + 1) }
    else c

-- the frame that came first starts at a moment: it has waited since it came
abbrev pub starts_first : ℕ → List ℕ → ClassSeen → ClassSeen
starts_first at [] c = c
starts_first at (came ∷ rest) c = record c { arrivals = rest; waits = with_wait (at - came) c.waits }

-- the frame that waits longest starts at a moment, where a frame waits
abbrev pub with_start : ℕ → ClassSeen → ClassSeen
with_start at c = starts_first at c.arrivals c

-- 3. A port

-- what is seen of each class; for how long some frame has had the wire; the moment from which it is free; the moment at which the first
-- frame was queued, if one was; the change moment of the first command that was accepted, if one was; and how many frames were queued before that
pub record Observed : Type 0 where
  pub classes : List ClassSeen
  pub busy : ℕ
  pub free : ℕ
  pub first : Option ℕ
  pub change : Option ℕ
  pub early : ℕ

-- nothing, with room for so many frames a class
abbrev pub nothing_seen : ℕ → Observed
nothing_seen room = record {
  classes = eight (no_frames room);
  busy = 0;
  free = 0;
  first = None;
  change = None;
  early = 0;
}

-- what is seen of a class
abbrev pub class_at : List ClassSeen → ℕ → ClassSeen
class_at classes class = slice_index_or classes class (no_frames 0)

-- one of the eight classes changes
abbrev pub in_class : ℕ → (ClassSeen → ClassSeen) → Observed → Observed
in_class class change o =
    if nat_lt class 8 then record o { classes = slice_set o.classes class (change (class_at o.classes class)) } else o

-- the first of the moments that come one after another
abbrev pub first_with : ℕ → Option ℕ → Option ℕ
first_with now None = Some now
first_with now (Some first) = Some first

-- whether a moment is before the change moment of the first command: where none was accepted yet, it is before that of any to come
abbrev pub is_early : ℕ → Option ℕ → Bool
is_early now None = true
is_early now (Some change) = nat_lt now change

-- how many frames were queued so early, with one more that is or isn't
abbrev pub early_with : Bool → ℕ → ℕ
early_with true early = sum_capped early 1
early_with false early = early

-- a frame is queued at a moment: it is the first, where none was queued before
abbrev pub with_queued : ℕ → Observed → Observed
with_queued now o = record o { first = first_with now o.first; early = early_with (is_early now o.change) o.early }

-- a command is accepted, and comes into force at this moment (IEEE Std 802.1Q-2018, 8.6.9.3: ConfigChangeTime): gates are open up to the first of these
abbrev pub with_command : ℕ → Observed → Observed
with_command change o = record o { change = first_with change o.change }

-- a frame takes the wire: that part of its time counts that no frame before it has had
abbrev pub on_wire : Start → Observed → Observed
on_wire s o = record o { busy = o.busy + (s.«end» - max s.at o.free); free = max o.free s.«end» }

-- one answer, given at a moment
abbrev pub seen : ℕ → Answer → Observed → Observed
seen now (Answered.Queued id class) o = with_queued now (in_class class (with_arrival now) o)
seen now (Answered.Start s) o = on_wire s (in_class s.class (with_start s.at) o)
seen now (Answered.Dropped id why) o = o
seen now (Answered.Installed change) o = with_command change o
seen now (Answered.Refused why) o = o
seen now Answered.Backward o = o
seen now (Answered.Report report) o = o
seen now (Answered.Counters class counters) o = o
seen now Answered.BadClass o = o

-- 4. A run

-- one answer after another
abbrev pub seen_all : ℕ → List Answer → Observed → Observed
seen_all now [] o = o
seen_all now (answer ∷ rest) o = seen_all now rest (seen now answer o)

-- the answers to an event
abbrev pub seen_at : Event → AbstractPort → Observed → Observed
seen_at event p o = seen_all p.now (answers_to event p).0 o

-- the answers to a list of events
abbrev pub observed_after : List Event → AbstractPort → Observed → Observed
observed_after [] p o = o
observed_after (event ∷ rest) p o = observed_after rest (answers_to event p).1 (seen_at event p o)
