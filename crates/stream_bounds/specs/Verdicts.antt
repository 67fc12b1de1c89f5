-- What is answered about a class and its streams.
--
-- The claim for exact traffic: the answer about a class is `answer_of` (delay_bounds/specs/Walked.antt) for the flows of its streams in the schedule. What it is
-- worth in every run of a port is delay_bounds/specs/Claim.antt, the law `delay_bounds::laws::answers`: bounds hold for ever, and each is reached;
-- of a class that is full that very frame is the first to be dropped, and of one that is stuck it is too, behind a frame that never starts; and a class
-- that is overloaded loses a frame at any room.
--
-- Where a frame of the class may come at any moment, it is what `IsBurstAnswer` says: the least wait and the least number of frames that bound every
-- run whose frames conform to the arrival curve of the streams. What such bounds are worth in every run of a port is the law
-- `any_traffic::any_traffic`; that these frames do conform, `any_traffic::sporadic`.
--
-- Of a class that shares its windows it is what `IsSharedAnswer` says, from the highest class down: which class above it has no bounds, or else the least
-- bounds that hold for the arrival curves of its streams and of those above it, whatever is sent of those below it up to what the port takes. What they
-- are worth is the law `shared_bounds::laws::every_run`.
--
-- For any other traffic (a frame with jitter, or of several lengths) it is what `IsWindowAnswer` says: for each stream the least time, and the least number
-- of frames, that bound the late run, in which each frame comes as late as it may. What they are worth is the law `any_traffic::periodic_windows`.
use Rattle.std.specs.List.{list_any}
use Rattle.std.specs.Prelude.{ℕ, ◌+◌, ◌-◌, ◌^◌, ◌==◌, ◌≡◌, length, map, min, nat_le, is_some, ◌&&◌, Bool, true, false, List, [], ◌∷◌, drop, slice_get, slice_set, slice_index_or, Option, Some, None, unwrap_or, Result, Ok, Err, if◌then◌else◌}
use Rattle.gates.specs.Gate.{keeps_apart}
use Rattle.abstract_port.specs.AbstractPort.{plan_asked}
use Rattle.abstract_port.specs.declared.Change.{Change}
use Rattle.abstract_port.specs.declared.Dropped.{Dropped}
use Rattle.delay_bounds.specs.Bounded.{Answer}
use Rattle.delay_bounds.specs.Walked.{answer_of}
use Rattle.delay_bounds.specs.declared.Bound.{Bound}
use Rattle.delay_bounds.specs.declared.Refused.{Refused}
use Rattle.delay_bounds.specs.declared.Unbound.{Unbound}
use Rattle.delay_bounds.specs.declared.Unbound.TheVariants as Unbounds
use Rattle.burst_bounds.specs.Answer.{IsUnbound as IsUnboundBurst}
use Rattle.burst_bounds.specs.Least.{AreLeast as IsLeastBurst}
use Rattle.burst_bounds.specs.Talkers.{curve, longest_need}
use Rattle.burst_bounds.specs.declared.Bounds.{Bounds as BurstBounds}
use Rattle.burst_bounds.specs.declared.Unbound.{Unbound as BurstUnbound}
use Rattle.burst_bounds.specs.declared.Talker.{Talker}
use Rattle.burst_bounds.specs.declared.Unbound.TheVariants as BurstFaults
use Rattle.delay_bounds.specs.Walk.{may_by}
use Rattle.window_bounds.specs.Flows.{flows_of as flows_with_windows, longest_need as longest_of}
use Rattle.window_bounds.specs.Least.{AreLeast as AreLeastWindows}
use Rattle.window_bounds.specs.Unbound.{IsUnbound as IsUnboundWindows}
use Rattle.window_bounds.specs.declared.Bounded.{Bounded}
use Rattle.window_bounds.specs.declared.JitteredFlow.{JitteredFlow}
use Rattle.window_bounds.specs.declared.Unbound.{Unbound as WindowUnbound}
use Rattle.window_bounds.specs.declared.Unbound.TheVariants as WindowFaults
use Rattle.gates.specs.Gate.{Plan}
use Rattle.wire_time.specs.Wire.{occupancy_of}
use Rattle.stream_bounds.specs.Classes.{are_any, are_equal, class_of, dropped_of, flow_of, has_any, has_inexact, jittered_of, most_sdu, talker_of}
use Rattle.stream_bounds.specs.Shared.{AreBeside, AreOpen, IsHighest, IsShared}
use Rattle.shared_bounds.specs.declared.ClassTraffic.{ClassTraffic}
use Rattle.shared_bounds.specs.declared.Unbound.{Unbound as SharedUnbound}
use Rattle.shared_bounds.specs.declared.Unbound.TheVariants as SharedFaults
use Rattle.stream_bounds.specs.declared.standing.Standing.{Standing}
use Rattle.stream_bounds.specs.declared.extras.Extra.{Extra}
use Rattle.stream_bounds.specs.declared.settings.BoundsSettings.{BoundsSettings}
use Rattle.stream_bounds.specs.declared.verdicts.Needs.{Needs}
use Rattle.stream_bounds.specs.declared.verdicts.Place.{Place}
use Rattle.stream_bounds.specs.declared.verdicts.Verdict.{Verdict}
use Rattle.stream_bounds.specs.declared.verdicts.Verdict.TheVariants as Verdicts
use Rattle.stream_bounds.specs.declared.verdicts.Delay.{Delay}
use Rattle.stream_bounds.specs.declared.verdicts.Delay.TheVariants as Delays
use Rattle.stream_bounds.specs.declared.verdicts.Met.{Met}
use Rattle.stream_bounds.specs.declared.verdicts.Met.TheVariants as Mets
use Rattle.traffic.specs.declared.table.Stream.{Stream}

-- 1. A class

-- a sum, or what 128 bits hold at most: no time comes near that
abbrev pub plus : ℕ → ℕ → ℕ
plus a b = min (a + b) (2 ^ 128 - 1)

-- a frame of the stream at a place of its class, behind so many of the stream, which comes at a moment
abbrev pub place_of : List ℕ → ℕ → ℕ → ℕ → Place
place_of ids place before moment = record { moment = moment; id = slice_index_or ids place 0; number = plus before 1 }

-- where no frame starts any more, the first that finds no room, if it comes by the greatest moment
abbrev pub full_behind : List ℕ → Option Refused → Option Place
full_behind ids (Some f) = Some (place_of ids f.place f.before f.moment)
full_behind ids None = None

-- whether a class with these streams has one only
abbrev pub is_alone : List ℕ → Bool
is_alone ids = length ids == 1

-- the verdict about a class that is kept apart
abbrev pub verdict_of : List ℕ → Result Answer Unbound → Verdict
verdict_of ids (Ok a) = Verdicts.Bounded a.most a.frames a.every
verdict_of ids (Err (Unbounds.Full f)) = Verdicts.Full (place_of ids f.place f.before f.moment) (is_alone ids)
verdict_of ids (Err (Unbounds.Never f refused)) = Verdicts.Stuck (place_of ids f.place f.before f.moment) (full_behind ids refused)
verdict_of ids (Err Unbounds.Overloaded) = Verdicts.Overloaded (is_alone ids)
verdict_of ids (Err Unbounds.Long) = Verdicts.Long
verdict_of ids (Err Unbounds.Late) = Verdicts.Late
verdict_of ids (Err Unbounds.Memory) = Verdicts.Late

-- The verdict about a class, and the bounds of its streams that are still to be told; and what is told beside them, where it is asked.
pub record ClassAnswer : Type 0 where
  pub verdict : Verdict
  pub left : List Bound
  pub extras : List Extra

-- the bounds of an answer
abbrev pub bounds_of : Result Answer Unbound → List Bound
bounds_of (Ok a) = a.bounds
bounds_of (Err why) = []

-- a class without bounds
abbrev pub unbounded : Verdict → ClassAnswer
unbounded verdict = record { verdict = verdict; left = []; extras = [] }

-- a class without streams
abbrev pub idle : ClassAnswer
idle = unbounded Verdicts.Idle

-- the answer about a class that is kept apart, with these streams
abbrev pub apart_answer : List Stream → Result Answer Unbound → ClassAnswer
apart_answer streams told = record { verdict = verdict_of (map (λ x. x.first_id) streams) told; left = bounds_of told; extras = [] }

-- by the walk over its flows, where its traffic is exact
abbrev pub exact_answer : BoundsSettings → Plan → List Stream → ℕ → ClassAnswer
exact_answer s plan streams class =
    apart_answer streams (answer_of plan class s.port.room (map (flow_of s.port.rate) streams) s.frames)

-- a class's answer among all
abbrev pub answer_at : List ClassAnswer → ℕ → ClassAnswer
answer_at answers class = slice_index_or answers class idle

-- the bounds of the next stream of a class are told
abbrev pub bound_told : ClassAnswer → ClassAnswer
bound_told a = record { verdict = a.verdict; left = drop 1 a.left; extras = a.extras }

abbrev pub one_told : List ClassAnswer → ℕ → List ClassAnswer
one_told answers class = slice_set answers class (bound_told (answer_at answers class))

-- where nothing else is asked
abbrev pub no_extra : Extra
no_extra = record { slack = None; shares = None }

-- what else is told of it
abbrev pub extra_at : List ClassAnswer → ℕ → Extra
extra_at answers class = unwrap_or (slice_get (answer_at answers class).extras 0) no_extra

-- it is told
abbrev pub more_told : ClassAnswer → ClassAnswer
more_told a = record { verdict = a.verdict; left = a.left; extras = drop 1 a.extras }

abbrev pub extra_told : List ClassAnswer → ℕ → List ClassAnswer
extra_told answers class = slice_set answers class (more_told (answer_at answers class))

-- 2. A class some of whose frames may come at any moment, by how far apart they come

-- By how much a frame of a stream may come later than the moment that its bounds count from: of a known offset that is its earliest, else its own.
abbrev pub late_by : Stream → ℕ
late_by x = if is_some x.offset then x.jitter else 0

-- the bounds of a stream of a class whose frames wait for so long at most
abbrev pub range_of : ℕ → Stream → Bound
range_of wait x = record { least = 0; greatest = plus wait (late_by x) }

-- Bounds, where there is room for as many frames as may wait; and whether a frame of each stream may take so long.
abbrev pub within_room : Bool → ℕ → Bool → List Bound → ClassAnswer
within_room true most reached bounds = record { verdict = Verdicts.Within most reached; left = bounds; extras = [] }
within_room false most reached bounds = unbounded (Verdicts.Crowded most)

-- the answer about a class with these streams, with room for so many frames
abbrev pub burst_answer : ℕ → List Stream → Result BurstBounds BurstUnbound → ClassAnswer
burst_answer room streams (Ok b) = within_room (nat_le b.most room) b.most (are_equal streams && are_any streams) (map (range_of b.wait) streams)
burst_answer room streams (Err BurstFaults.Overloaded) = unbounded (Verdicts.Overloaded false)
burst_answer room streams (Err BurstFaults.Stuck) = unbounded Verdicts.Unfit
burst_answer room streams (Err why) = unbounded Verdicts.Long

-- Of so many frames of a busy time: these bounds are the least, or this is why there are none.
abbrev pub IsBurst : Plan → ℕ → List Talker → ℕ → Result BurstBounds BurstUnbound → Type 0
IsBurst plan class talkers limit (Ok b) = IsLeastBurst plan class (longest_need talkers) (curve talkers) b.wait b.most
IsBurst plan class talkers limit (Err BurstFaults.Memory) = ⊥
IsBurst plan class talkers limit (Err why) = IsUnboundBurst plan class talkers limit why

-- at most so many frames of a busy time are looked at
abbrev pub burst_limit : BoundsSettings → ℕ
burst_limit s = min s.frames (2 ^ 32 - 1)

-- The answer about a class with these streams: by the least bounds of their arrival curve.
pub record IsBurstAnswer (s : BoundsSettings) (c : Change) (streams : List Stream) (class : ℕ) (answer : ClassAnswer) : Type 0 where
  pub told : Result BurstBounds BurstUnbound
  pub is : IsBurst (plan_asked c) class (map (talker_of s.port.rate (most_sdu s c class)) streams) (burst_limit s) told
  pub answered : answer ≡ burst_answer s.port.room streams told

-- 3. A class each of whose frames comes in a window of its own

-- least bounds of each stream, and the most frames that ever wait at once; or why there are none
pub record LeastWindows : Type 0 where
  pub bounds : List Bound
  pub most : ℕ

-- what `window_bounds` answers, without where it is kept
abbrev pub windows_of : {A : Type 0} → Result (Bounded A) WindowUnbound → Result LeastWindows WindowUnbound
windows_of (Ok b) = Ok (record { bounds = b.bounds.items; most = b.most })
windows_of (Err why) = Err why

-- Of so many frames: these bounds are the least, or this is why there are none.
abbrev pub AreWindows : Plan → ℕ → List JitteredFlow → ℕ → Result LeastWindows WindowUnbound → Type 0
AreWindows plan class flows limit (Ok w) =
    AreLeastWindows (may_by plan class) (longest_of flows) (flows_with_windows flows) w.bounds w.most
AreWindows plan class flows limit (Err WindowFaults.Memory) = ⊥
AreWindows plan class flows limit (Err why) = IsUnboundWindows plan class flows limit why

-- The answer about a class with these streams, with room for so many frames. Where too few frames are looked at it is that by how far apart they come.
abbrev pub IsAnswerWith : BoundsSettings → Change → List Stream → ℕ → ClassAnswer → Result LeastWindows WindowUnbound → Type 0
IsAnswerWith s c streams class answer (Ok w) = answer ≡ within_room (nat_le w.most s.port.room) w.most (are_equal streams) w.bounds
IsAnswerWith s c streams class answer (Err WindowFaults.Overloaded) = answer ≡ unbounded (Verdicts.Overloaded false)
IsAnswerWith s c streams class answer (Err WindowFaults.Stuck) = answer ≡ unbounded Verdicts.Unfit
IsAnswerWith s c streams class answer (Err why) = IsBurstAnswer s c streams class answer

-- The answer about a class with these streams: by the least bounds of their windows.
pub record IsWindowAnswer (s : BoundsSettings) (c : Change) (streams : List Stream) (class : ℕ) (answer : ClassAnswer) : Type 0 where
  pub told : Result LeastWindows WindowUnbound
  pub are : AreWindows (plan_asked c) class (map (jittered_of s.port.rate (most_sdu s c class)) streams) s.frames told
  pub answered : IsAnswerWith s c streams class answer told

-- 4. A class that shares its windows

-- bounds, where there is room for as many frames as may wait
abbrev pub shared_within : Bool → BurstBounds → List Stream → ClassAnswer
shared_within true b streams = record { verdict = Verdicts.Sharing b; left = map (range_of b.wait) streams; extras = [] }
shared_within false b streams = unbounded (Verdicts.Crowded b.most)

-- the answer about a class with these streams, with room for so many frames
abbrev pub shared_answer : ℕ → List Stream → Result BurstBounds SharedUnbound → ClassAnswer
shared_answer room streams (Ok b) = shared_within (nat_le b.most room) b streams
shared_answer room streams (Err SharedFaults.Stuck) = unbounded Verdicts.NoWindow
shared_answer room streams (Err SharedFaults.Blocked) = unbounded Verdicts.Blocked
shared_answer room streams (Err why) = unbounded Verdicts.Long

module _ (s : BoundsSettings) (c : Change) (table : List Stream) (above : List Standing) (streams : List Stream) (class : ℕ) (answer : ClassAnswer) where
  -- by its least bounds beside the other classes, where those above it that share its windows have bounds or send nothing
  pub record IsBoundedAnswer : Type 0 where
    pub traffic : List ClassTraffic
    pub beside : AreBeside s c table above streams class traffic
    pub told : Result BurstBounds SharedUnbound
    pub is : IsShared (plan_asked c) class traffic (burst_limit s + 1) told
    pub answered : answer ≡ shared_answer s.port.room streams told

  -- by whether one of those has none
  abbrev pub IsAnswerBehind : Option ℕ → Type 0
  IsAnswerBehind (Some other) = answer ≡ unbounded (Verdicts.Behind other)
  IsAnswerBehind None = IsBoundedAnswer

  pub record IsKnownAnswer : Type 0 where
    pub behind : Option ℕ
    pub highest : IsHighest (plan_asked c) above class behind
    pub answered : IsAnswerBehind behind

  -- by whether nothing is known of one of those
  abbrev pub IsAnswerUnless : Bool → List Bool → Type 0
  IsAnswerUnless true to = answer ≡ unbounded (Verdicts.Open to)
  IsAnswerUnless false to = IsKnownAnswer

  pub record IsSharedAnswer : Type 0 where
    pub to : List Bool
    pub are : AreOpen (plan_asked c) above class to
    pub answered : IsAnswerUnless (list_any (λ is. is) to) to

-- 5. A class

-- the answer about a class that is kept apart, with these streams, by whether any frame may come at any moment, and whether any stream isn't exact
abbrev pub IsApartAnswer : (anywhen inexact : Bool) → BoundsSettings → Change → List Stream → ℕ → ClassAnswer → Type 0
IsApartAnswer true inexact s c streams class answer = IsBurstAnswer s c streams class answer
IsApartAnswer false true s c streams class answer = IsWindowAnswer s c streams class answer
IsApartAnswer false false s c streams class answer = answer ≡ exact_answer s (plan_asked c) streams class

-- the answer about a class with these streams, by whether it is kept apart
abbrev pub IsAnswerBy : Bool → BoundsSettings → Change → (table : List Stream) → (above : List Standing) → List Stream → ℕ → ClassAnswer → Type 0
IsAnswerBy apart s c table above [] class answer = answer ≡ idle
IsAnswerBy false s c table above (x ∷ streams) class answer = IsSharedAnswer s c table above (x ∷ streams) class answer
IsAnswerBy true s c table above (x ∷ streams) class answer =
    IsApartAnswer (has_any (x ∷ streams)) (has_inexact (x ∷ streams)) s c (x ∷ streams) class answer

-- The answer about a class with these streams, by its schedule, beside the streams of a table, and below classes that stand so.
abbrev pub IsOwnAnswer : BoundsSettings → Change → (table : List Stream) → (above : List Standing) → List Stream → ℕ → ClassAnswer → Type 0
IsOwnAnswer s c table above streams class answer =
    IsAnswerBy (keeps_apart (plan_asked c).entries class) s c table above streams class answer

-- 6. A stream

-- how long the shortest and the longest frame of a stream occupy the wire
abbrev pub needs_of : ℕ → Stream → Needs
needs_of ps x = record { shortest = occupancy_of ps x.shortest; longest = occupancy_of ps x.len }

-- the delay of a stream of a class that loses frames: it loses some where the class has no other
abbrev pub losing : ℕ → Bool → Delay
losing class alone = if alone then Delays.Unbounded class else Delays.Unsettled class

-- the delay of the next stream of a class
abbrev pub delay_by : ℕ → Verdict → Bound → Delay
delay_by class (Verdicts.Bounded most frames every) b = Delays.Exact class b
delay_by class (Verdicts.Within most reached) b = Delays.Within class b reached
delay_by class (Verdicts.Sharing bounds) b = Delays.Within class b false
delay_by class (Verdicts.Full f alone) b = losing class alone
delay_by class (Verdicts.Stuck never full) b = Delays.Unbounded class
delay_by class Verdicts.Unfit b = Delays.Unbounded class
delay_by class (Verdicts.Overloaded alone) b = losing class alone
delay_by class _ b = Delays.Unknown class

abbrev pub delay_in : List ClassAnswer → ℕ → Delay
delay_in answers class = delay_by class (answer_at answers class).verdict (unwrap_or (slice_get (answer_at answers class).left 0) (record { least = 0; greatest = 0 }))

-- the delay of the next stream, by its class
abbrev pub delay_of : List ClassAnswer → Result ℕ Dropped → Delay
delay_of answers (Ok class) = delay_in answers class
delay_of answers (Err why) = Delays.Lost why

-- what is told of a stream, of whose frames some may be dropped
abbrev pub unless_dropped : Option Dropped → Delay → Delay
unless_dropped None delay = delay
unless_dropped (Some why) delay = Delays.Lost why

-- the delay of the next stream of a table
abbrev pub next_delay : BoundsSettings → Change → List ClassAnswer → Stream → Delay
next_delay s c answers x = unless_dropped (dropped_of s c x) (delay_of answers (class_of s c x))

-- what else is told of it: where its frames are dropped, nothing
abbrev pub extra_of : List ClassAnswer → Result ℕ Dropped → Extra
extra_of answers (Ok class) = extra_at answers class
extra_of answers (Err why) = no_extra

-- the answers that are left behind it
abbrev pub left_after : List ClassAnswer → Result ℕ Dropped → List ClassAnswer
left_after answers (Ok class) = one_told (extra_told answers class) class
left_after answers (Err why) = answers

-- Where a frame has left by a deadline at the latest, it is met; and else it is missed, if a frame does take so long.
abbrev pub met_within : ℕ → ℕ → Bool → Met
met_within «end» deadline reached = if nat_le «end» deadline then Mets.Met else if reached then Mets.Missed else Mets.Unknown

-- whether a deadline is met
abbrev pub met_by : Needs → Delay → ℕ → Met
met_by needs (Delays.Exact class b) deadline = met_within (plus b.greatest needs.longest) deadline true
met_by needs (Delays.Within class b reached) deadline = met_within (plus b.greatest needs.longest) deadline reached
met_by needs (Delays.Unbounded class) deadline = Mets.Missed
met_by needs (Delays.Unsettled class) deadline = Mets.Unknown
met_by needs (Delays.Unknown class) deadline = Mets.Unknown
met_by needs (Delays.Lost why) deadline = Mets.Missed
