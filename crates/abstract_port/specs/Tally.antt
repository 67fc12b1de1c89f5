-- What a run has to count, and how each counter of a class grows by it.
use Rattle.std.specs.Prelude.{◌≡◌, ◌<◌, ◌≤◌, ℕ, zero, suc, ◌+◌, ◌-◌, ◌==◌, ◌||◌, Bool, true, false, if◌then◌else◌, nat_lt, List, [], ◌∷◌, ◌++◌, Option, Some, None, Result, Ok, Err, map, filter, sum_by, length}
use Rattle.wire_time.specs.Moment.{greatest_moment}
use Rattle.wire_time.specs.declared.Frame.{Frame}
use Rattle.abstract_port.specs.declared.Dropped.{Dropped}
use Rattle.abstract_port.specs.declared.Dropped.TheVariants.{Runt, TooLong, OverSdu, Full}
use Rattle.abstract_port.specs.declared.Start.{Start}
use Rattle.abstract_port.specs.declared.Counts.{Counts}
use Rattle.abstract_port.specs.declared.Event.{Event}
use Rattle.abstract_port.specs.declared.Event.TheVariants.{Arrive, Install, Clock, Query, Count}
use Rattle.abstract_port.specs.declared.Answer.{Answer}
use Rattle.abstract_port.specs.declared.Answer.TheVariants as Answered
use Rattle.abstract_port.specs.AbstractPort.{AbstractPort, queue_of, counts_at, class_for, verdict, waiting, next_start}
use Rattle.abstract_port.specs.Answers.{arrival_answer, answers_to, answers_of, port_after}
use Rattle.abstract_port.specs.FrameCounts.{add_capped}
use Rattle.gates.specs.Visits.{greatest_count}

-- 1. What happens

-- a frame that arrived, with the class of its priority and the verdict, or one that started
pub data Happening : Type 0 where
  Arrived : Frame → Option ℕ → Result ℕ Dropped → Happening
  Started : Start → Frame → Happening

-- the frame that starts is the first of its class
abbrev pub started : Option Start → List Frame → List Happening → List Happening
started None queue later = []
started (Some s) [] later = []
started (Some s) (f ∷ rest) later = Started s f ∷ later

-- the frames of the class that starts
abbrev pub first_of_class : AbstractPort → Option Start → List Frame
first_of_class p None = []
first_of_class p (Some s) = queue_of p s.class

-- the frames that start before a moment, one after the other, no more than so many
unfoldable pub departures : ℕ → ℕ → AbstractPort → List Happening
departures zero upto p = []
departures (suc n) upto p =
    started (next_start p upto).0 (first_of_class p (next_start p upto).0) (departures n upto (next_start p upto).1)

-- what happens at an event
abbrev pub happened : Event → AbstractPort → List Happening
happened (Arrive f) p = Arrived f (class_for p f.priority) (verdict p f) ∷ []
happened (Clock m) p = if nat_lt m p.now || nat_lt greatest_moment m then [] else departures (waiting p + 1) m p
happened (Install c) p = []
happened Query p = []
happened (Count class) p = []

-- all that happens in a run
abbrev pub happenings : List Event → AbstractPort → List Happening
happenings [] p = []
happenings (event ∷ rest) p = happened event p ++ happenings rest (answers_to event p).1

-- 2. How counters grow

-- the seven counters of a class
pub data Counter : Type 0 where
  Accepted : Counter
  Sent : Counter
  SentOctets : Counter
  Runts : Counter
  TooLongs : Counter
  OverSdus : Counter
  Fulls : Counter

-- the value of a counter
abbrev pub value_of : Counter → Counts → ℕ
value_of Accepted c = c.accepted
value_of Sent c = c.sent
value_of SentOctets c = c.sent_octets
value_of Runts c = c.runt
value_of TooLongs c = c.too_long
value_of OverSdus c = c.over_sdu
value_of Fulls c = c.full

-- by a frame that is accepted
abbrev pub by_accepted : Counter → ℕ
by_accepted Accepted = 1
by_accepted _ = 0

-- by a frame that starts
abbrev pub by_start : Counter → Frame → ℕ
by_start Sent f = 1
by_start SentOctets f = f.len
by_start _ f = 0

-- by a frame that is dropped
abbrev pub by_drop : Counter → Dropped → ℕ
by_drop Runts Runt = 1
by_drop TooLongs TooLong = 1
by_drop OverSdus OverSdu = 1
by_drop Fulls Full = 1
by_drop _ _ = 0

-- a number, where the class is the one that is asked for
abbrev pub only_in : ℕ → ℕ → ℕ → ℕ
only_in class d n = if d == class then n else 0

-- by what happens
abbrev pub growth : Counter → ℕ → Happening → ℕ
growth counter class (Arrived f o (Ok d)) = only_in class d (by_accepted counter)
growth counter class (Arrived f (Some d) (Err why)) = only_in class d (by_drop counter why)
growth counter class (Arrived f None (Err why)) = 0
growth counter class (Started s f) = only_in class s.class (by_start counter f)

-- 3. The law

-- After a run each counter of a class is the number at its beginning plus how much it grows by what happens, at most the
-- greatest u64.
abbrev pub CountingLaw : Type 0
CountingLaw =
    (counter : Counter) (class : ℕ) (p : AbstractPort) (events : List Event) → class < length p.counts → value_of counter (counts_at p class) ≤ greatest_count
    → value_of counter (counts_at (port_after events p) class) ≡ add_capped (value_of counter (counts_at p class)) (sum_by (growth counter class) (happenings events p))

-- 1 for a frame that arrived and has no class
abbrev pub unclassed : Happening → ℕ
unclassed (Arrived f None (Err why)) = 1
unclassed _ = 0

-- After a run the count of frames without a class is the number at its beginning plus those that arrived, at most the greatest
-- u64.
abbrev pub UnclassedLaw : Type 0
UnclassedLaw =
    (p : AbstractPort) (events : List Event) → p.no_class ≤ greatest_count
    → (port_after events p).no_class ≡ add_capped p.no_class (sum_by unclassed (happenings events p))

-- what happens is what is answered to arrivals, and the starts
abbrev pub told : Happening → Answer
told (Arrived f o v) = arrival_answer f v
told (Started s f) = Answered.Start s

-- whether an answer is of an arrival or a start
abbrev pub is_told : Answer → Bool
is_told (Answered.Queued id class) = true
is_told (Answered.Dropped id why) = true
is_told (Answered.Start s) = true
is_told _ = false

-- what happens in a run is what is answered to arrivals, and the starts
abbrev pub ToldLaw : Type 0
ToldLaw = (p : AbstractPort) (events : List Event) → map told (happenings events p) ≡ filter is_told (answers_of events p)
