-- What is known of all classes, where one is judged that shares its windows.
--
-- Of it and of those above it: the frames of their streams come no nearer than these say; and of those above it, the bounds by which they were
-- judged before. Of those below it only this: a frame of theirs is no longer than the port takes it. Nothing is asked of how many come. What
-- none of it says is that frames of a class that is left out come (IEEE Std 802.1Q-2018, 8.6.8.1, 8.6.8.4 and 8.6.9).
use Rattle.std.specs.declared.vec.Vec.{Vec}
use Rattle.std.specs.Prelude.{◌≡◌, ◌<◌, ℕ, ◌+◌, ◌-◌, ◌==◌, nat_le, nat_lt, Bool, true, false, List, [], ◌∷◌, length, map, slice_get, unwrap_or, Option, Some, None, Result, Ok, Err, if◌then◌else◌}
use Rattle.abstract_port.specs.declared.Change.{Change}
use Rattle.burst_bounds.specs.Talkers.{longest_need}
use Rattle.burst_bounds.specs.declared.Bounds.{Bounds}
use Rattle.burst_bounds.specs.declared.Talker.{Talker}
use Rattle.gates.specs.Gate.{Plan}
use Rattle.shared_bounds.specs.Least.{AreLeastOf, IsUnbound}
use Rattle.shared_bounds.specs.Sharing.{Share}
use Rattle.shared_bounds.specs.declared.ClassTraffic.{ClassTraffic}
use Rattle.shared_bounds.specs.declared.Unbound.{Unbound}
use Rattle.shared_bounds.specs.declared.Unbound.TheVariants as SharedFaults
use Rattle.stream_bounds.specs.Classes.{most_sdu, streams_of, talker_of}
use Rattle.stream_bounds.specs.Standing.{may_send}
use Rattle.stream_bounds.specs.declared.settings.BoundsSettings.{BoundsSettings}
use Rattle.stream_bounds.specs.declared.standing.Standing.{Standing}
use Rattle.stream_bounds.specs.declared.standing.Standing.TheVariants as Standings
use Rattle.traffic.specs.declared.table.Stream.{Stream}
use Rattle.wire_time.specs.Wire.{occupancy_of}

-- 1. One of the classes

-- the greatest service data unit of a frame of a class without streams of its own: where frames may be left, it may be older than the limit
abbrev pub widest_sdu : BoundsSettings → Change → ℕ → ℕ
widest_sdu s c class = if s.leftovers then s.port.mtu else most_sdu s c class

-- for how long such a frame needs the wire, with a customer VLAN tag
abbrev pub widest : BoundsSettings → Change → ℕ → ℕ
widest s c class = occupancy_of s.port.rate (18 + widest_sdu s c class)

-- For how long a frame of a class with these talkers needs the wire at most, where `class` is judged; 0: none is sent.
abbrev pub need_beside : BoundsSettings → Change → (class other : ℕ) → List Talker → ℕ
need_beside s c class other [] = if may_send s c other then widest s c other else 0
need_beside s c class other (t ∷ ts) = if nat_le class other then longest_need (t ∷ ts) else widest s c other

-- the streams of a class, where those of the class that is judged are these
abbrev pub streams_beside : BoundsSettings → Change → (table streams : List Stream) → (class other : ℕ) → List Stream
streams_beside s c table streams class other = if other == class then streams else streams_of s c other table

-- as talkers
abbrev pub talkers_beside : BoundsSettings → Change → (table streams : List Stream) → (class other : ℕ) → List Talker
talkers_beside s c table streams class other =
    map (talker_of s.port.rate (most_sdu s c other)) (streams_beside s c table streams class other)

-- how a class above stands, of those from the next one up
abbrev pub standing_in : List Standing → (class other : ℕ) → Standing
standing_in above class other = unwrap_or (slice_get above (other - class - 1)) Standings.Silent

-- no bounds are known
abbrev pub no_bounds : Bounds
no_bounds = record { wait = 0; most = 0 }

abbrev pub bounds_of_standing : Standing → Bounds
bounds_of_standing (Standings.Bounded b) = b
bounds_of_standing _ = no_bounds

-- those of a class above
abbrev pub bounds_beside : List Standing → (class other : ℕ) → Bounds
bounds_beside above class other = if nat_lt class other then bounds_of_standing (standing_in above class other) else no_bounds

-- 2. All classes

module _ (s : BoundsSettings) (c : Change) (table : List Stream) (above : List Standing) (streams : List Stream) (class : ℕ) where
  -- this is what is known of a class
  pub record IsBesideAt (other : ℕ) (t : ClassTraffic) : Type 0 where
    pub need : t.need ≡ need_beside s c class other t.talkers.now
    pub talkers : t.talkers.now ≡ talkers_beside s c table streams class other
    pub bounds : t.bounds ≡ bounds_beside above class other

  -- of those from one on
  abbrev pub AreBesideFrom : ℕ → List ClassTraffic → Type 0
  AreBesideFrom other [] = Unit {0}
  AreBesideFrom other (t ∷ ts) = IsBesideAt other t × AreBesideFrom (other + 1) ts

  -- of all eight
  abbrev pub AreBeside : List ClassTraffic → Type 0
  AreBeside traffic = (length traffic ≡ 8) × AreBesideFrom 0 traffic

-- Of so many slots of a busy time: these bounds are the least, or this is why there are none.
abbrev pub IsShared : Plan → ℕ → List ClassTraffic → ℕ → Result Bounds Unbound → Type 0
IsShared plan class traffic limit (Ok b) = AreLeastOf plan class traffic limit b.wait b.most
IsShared plan class traffic limit (Err SharedFaults.Memory) = ⊥
IsShared plan class traffic limit (Err why) = IsUnbound plan class traffic limit why

-- 3. What stands in the way of bounds

-- nothing is known of a class
abbrev pub is_open : Standing → Bool
is_open Standings.Open = true
is_open _ = false

-- it has streams, and no bounds
abbrev pub is_unbounded : Standing → Bool
is_unbounded Standings.Unbounded = true
is_unbounded _ = false

module _ (plan : Plan) (above : List Standing) (class : ℕ) where
  -- a class is above, shares windows with the one that is judged, and stands so
  pub record IsInTheWay (stands : Standing → Bool) (other : ℕ) : Type 0 where
    pub higher : class < other
    pub so : stands (standing_in above class other) ≡ true
    pub share : Share plan class other

  -- of each class from one on whether nothing is known of it, which is in the way
  abbrev pub AreOpenFrom : ℕ → List Bool → Type 0
  AreOpenFrom other [] = Unit {0}
  AreOpenFrom other (is ∷ rest) =
      (is ≡ true → IsInTheWay is_open other) × (is ≡ false → IsInTheWay is_open other → ⊥) × AreOpenFrom (other + 1) rest

  -- of all eight
  abbrev pub AreOpen : List Bool → Type 0
  AreOpen to = (length to ≡ 8) × AreOpenFrom 0 to

  -- of the classes below a number the highest that is in the way since it has no bounds, if one is
  abbrev pub IsHighestBelow : ℕ → Option ℕ → Type 0
  IsHighestBelow «end» None = (other : ℕ) → other < «end» → IsInTheWay is_unbounded other → ⊥
  IsHighestBelow «end» (Some other) =
      (other < «end») × IsInTheWay is_unbounded other × ((higher : ℕ) → other < higher → higher < «end» → IsInTheWay is_unbounded higher → ⊥)

  -- of all eight
  abbrev pub IsHighest : Option ℕ → Type 0
  IsHighest = IsHighestBelow 8

-- 4. The talkers of all classes

module _ (s : BoundsSettings) (c : Change) (table streams : List Stream) (class : ℕ) where
  -- these are those of the classes from one on
  abbrev pub AreTalkersFrom : {A : Type 0} → ℕ → List (Vec Talker A) → Type 0
  AreTalkersFrom other [] = Unit {0}
  AreTalkersFrom other (talkers ∷ rest) = (talkers.items ≡ talkers_beside s c table streams class other) × AreTalkersFrom (other + 1) rest
