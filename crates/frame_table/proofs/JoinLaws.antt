-- A frame that joins a class joins one of the eight.
use Rattle.std.proofs.Common.{◌≡◌, ◌<◌, ℕ, zero, suc, Bool, true, false, cond, eqb, leb, ltb, not, ◌&&◌, List, [], ◌∷◌, ◌++◌, length, ◌+◌, ◌||◌, slice_get, Option, Some, None, Result, Ok, Err, refl, sym, ◌∙◌, subst, unwrap_or, arith}
use Rattle.std.specs.Prelude.{All, IfSome}
use Rattle.wire_time.specs.Moment.{greatest_moment}
use Rattle.wire_time.specs.Wire.{sdu_of}
use Rattle.wire_time.specs.declared.Frame.{Frame}
use Rattle.abstract_port.specs.declared.class_map.ClassMap.{ClassMap}
use Rattle.abstract_port.specs.declared.class_map.Queues.{Queues}
use Rattle.abstract_port.specs.AbstractPort.{AbstractPort, after_arrival, after_command, class_for, default_class, drop_in, installs_by, limit_of, new_port, next_start, plain_queues, queue_of, refusal, verdict, verdict_in, waiting}
use Rattle.abstract_port.specs.Answers.{answers_to}
use Rattle.abstract_port.specs.declared.Command.{Command}
use Rattle.abstract_port.specs.declared.Command.TheVariants.{Replace, Delete}
use Rattle.abstract_port.specs.declared.Dropped.{Dropped}
use Rattle.abstract_port.specs.declared.Dropped.TheVariants.{TooLong, OverSdu, Full}
use Rattle.abstract_port.specs.declared.Event.{Event}
use Rattle.abstract_port.specs.declared.Event.TheVariants.{Arrive, Clock, Count, Install, Query}
use Rattle.abstract_port.specs.declared.Refused.{Refused}
use Rattle.abstract_port.proofs.ArrivalLaws.{verdict_with}
use Rattle.abstract_port.proofs.RunLaws.{clock_by}
use Rattle.abstract_port.proofs.StartsLaws.{IsUnmoved, next_start-unmoved, starts_from-unmoved}
use Rattle.frame_table.specs.Once.{AllJoin, AreMapped, CountLaw, Incoming, IsMapped, IsMappedIn, JoinsClass, coming, comings}
use Rattle.frame_table.proofs.OnceLaws.{once-count}

-- a map whose classes are the eight
abbrev IsWithin : ClassMap → Type 0
IsWithin map = All (λ class. class < 8) map.classes

-- the map that a port has, if it has one
abbrev IsMappedBy : Option (ClassMap × Queues) → Type 0
IsMappedBy classes = IfSome classes (λ both. IsWithin both.0)

-- ---- the class of a priority

default_within : (priority : ℕ) → IfSome (default_class priority) (λ class. class < 8)
default_within priority = go (ltb priority 8) refl
  where
    go : (b : Bool) → ltb priority 8 ≡ b → IfSome (cond b (Some priority) (cond (ltb priority 16) (Some 0) None)) (λ class. class < 8)
    go true less = grind (arith, less)
    go false more = go_zero (ltb priority 16)
      where
        go_zero : (b : Bool) → IfSome (cond b (Some 0) None) (λ class. class < 8)
        go_zero true = omega arith
        go_zero false = tt

get_within : (xs : List ℕ) (i : ℕ) → All (λ class. class < 8) xs → IfSome (slice_get xs i) (λ class. class < 8)
get_within [] i all = tt
get_within (x ∷ xs) zero all = all 0 x (omega arith)
get_within (x ∷ xs) (suc i) all = get_within xs i (λ k d less. all (suc k) d (omega (arith, less)))

class_within : (p : AbstractPort) (priority : ℕ) → IsMappedBy p.classes → IfSome (class_for p priority) (λ class. class < 8)
class_within p priority mapped = go p.classes mapped
  where
    go : (o : Option (ClassMap × Queues)) → IsMappedBy o → IfSome (elim o as (λ _. Option ℕ) [ Some both ↦ slice_get both.0.classes priority | None ↦ default_class priority ]) (λ class. class < 8)
    go None mapped = default_within priority
    go (Some both) mapped = get_within both.0.classes priority mapped

-- ---- what becomes of a frame

join_or : (b : Bool) (v w : Result ℕ Dropped) → JoinsClass v → JoinsClass w → JoinsClass (cond b v w)
join_or true v w first second = first
join_or false v w first second = second

joins_in : (p : AbstractPort) (class : ℕ) (sdu : Option ℕ) → class < 8 → JoinsClass (verdict_in p class sdu)
joins_in p class None less = tt
joins_in p class (Some sdu) less =
    let full : Bool = leb p.room (length (queue_of p class)) in
    let over : Bool = not (eqb (limit_of p class) 0) && ltb (limit_of p class) sdu in
    let fits : Result ℕ Dropped = cond full (Err Full) (Ok class) in
    join_or (ltb p.mtu sdu) (Err TooLong) (cond over (Err OverSdu) fits) tt (join_or over (Err OverSdu) fits tt (join_or full (Err Full) (Ok class) tt less))

joins : (p : AbstractPort) (f : Frame) → IsMappedBy p.classes → JoinsClass (verdict p f)
joins p f mapped = go (class_for p f.priority) (class_within p f.priority mapped)
  where
    go : (o : Option ℕ) → IfSome o (λ class. class < 8) → JoinsClass (verdict_with p f o)
    go None within = tt
    go (Some class) within = joins_in p class (sdu_of f) within

-- ---- the map of a port

map-stays : IsUnmoved (λ p. p.classes)
map-stays = record { moved = λ p m. refl; begun = λ p m finish queues counts. refl }

map-drop : (p : AbstractPort) (why : Dropped) (o : Option ℕ) → (drop_in p why o).classes ≡ p.classes
map-drop p why None = refl
map-drop p why (Some class) = refl

map-arrival : (p : AbstractPort) (f : Frame) (v : Result ℕ Dropped) → (after_arrival p f v).classes ≡ p.classes
map-arrival p f (Ok class) = refl
map-arrival p f (Err why) = map-drop p why (class_for p f.priority)

map-clock : (m : ℕ) (p : AbstractPort) (b : Bool) → (clock_by b m p).1.classes ≡ p.classes
map-clock m p true = refl
map-clock m p false = (let r = next_start p m in starts_from-unmoved (λ q. q.classes) map-stays (waiting p + 1) m r.0 r.1 ∙ next_start-unmoved (λ q. q.classes) map-stays p m)

mapped_command : (p : AbstractPort) (c : Command) → IsMapped c → IsMappedBy p.classes → IsMappedBy (after_command p c).classes
mapped_command p Delete given mapped = mapped
mapped_command p (Replace c) given mapped = go p.classes mapped
  where
    fresh : (o : Option ClassMap) → IfSome o IsWithin → IsMappedBy (elim o as (λ _. Option (ClassMap × Queues)) [ Some m ↦ Some (m, unwrap_or c.queues (plain_queues m)) | None ↦ None ])
    fresh None given = tt
    fresh (Some m) given = given

    go : (o : Option (ClassMap × Queues)) → IsMappedBy o
        → IsMappedBy (elim o as (λ _. Option (ClassMap × Queues)) [ Some both ↦ Some both | None ↦ elim c.map as (λ _. Option (ClassMap × Queues)) [ Some m ↦ Some (m, unwrap_or c.queues (plain_queues m)) | None ↦ None ] ])
    go (Some both) mapped = mapped
    go None mapped = fresh c.map given

mapped_on : (event : Event) (p : AbstractPort) → IsMappedIn event → IsMappedBy p.classes → IsMappedBy (answers_to event p).1.classes
mapped_on (Arrive f) p given mapped = subst IsMappedBy (sym (map-arrival p f (verdict p f))) mapped
mapped_on (Install c) p given mapped = go (refusal p c.now)
  where
    go : (o : Option Refused) → IsMappedBy (installs_by o p c.now).1.classes
    go (Some why) = mapped
    go None = mapped_command p c.now given mapped
mapped_on (Clock m) p given mapped = subst IsMappedBy (sym (map-clock m p (ltb m p.now || ltb greatest_moment m))) mapped
mapped_on Query p given mapped = mapped
mapped_on (Count class) p given mapped = mapped

-- ---- a run

join_append : (event : Event) (p : AbstractPort) (rest : List Incoming) → IsMappedBy p.classes → AllJoin rest → AllJoin (coming event p ++ rest)
join_append (Arrive f) p rest mapped all = (joins p f mapped, all)
join_append (Install c) p rest mapped all = all
join_append (Clock m) p rest mapped all = all
join_append Query p rest mapped all = all
join_append (Count class) p rest mapped all = all

pub all_join : (events : List Event) (p : AbstractPort) → IsMappedBy p.classes → AreMapped events → AllJoin (comings events p)
all_join [] p mapped given = tt
all_join (event ∷ rest) p mapped given =
    join_append event p (comings rest (answers_to event p).1) mapped (all_join rest (answers_to event p).1 (mapped_on event p given.0 mapped) given.1)

pub counts_all : CountLaw
counts_all events ps mtu room given = once-count events (new_port ps mtu room) (all_join events (new_port ps mtu room) tt given)
