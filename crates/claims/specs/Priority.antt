-- A class that shares its windows, in a network: under strict priority it is judged beside the classes of its port that were judged before it.
--
-- Of the classes above it that share windows with it, when their frames come is known by then. Of those below no more is asked than for how
-- long a frame needs the wire (IEEE Std 802.1Q-2018, 8.6.8.1 and 8.6.8.4). Times are in picoseconds.
use Rattle.std.specs.Prelude.{◌≡◌, ◌<◌, ◌≤◌, ◌⊎◌, ℕ, Bool, true, false, List, [], map, Some, slice_get}
use Rattle.any_traffic.specs.Sporadic.{AreFlows}
use Rattle.burst_bounds.specs.Talkers.{flows_of}
use Rattle.burst_bounds.specs.declared.Bounds.{Bounds}
use Rattle.shared_bounds.specs.Traffic.{needs}
use Rattle.shared_bounds.specs.declared.ClassTraffic.{ClassTraffic}
use Rattle.claims.specs.SharedClaim.{AreJudged}
use Rattle.claims.specs.Network.{Hop, Network}
use Rattle.claims.specs.Promise.{AreByWait, IsPromise, need_at, talker_at}

module _ (net : Network) (port : ℕ) where
  -- No frame of a class needs the wire for longer: if it is judged, none of its streams has a longer one; or its limit is no more.
  abbrev pub NeedsUpTo : (class need : ℕ) → Type 0
  NeedsUpTo class need =
      ((net.judged port class ≡ true)
      × ((i : ℕ) (h : Hop) → slice_get (net.hops port class) i ≡ Some h → need_at net port (net.streams h.stream).longest ≤ need))
      ⊎ ((limit : ℕ) × (net.limit port class ≡ Some limit) × (limit ≤ need))

  -- The claim for shared windows is taken with this class and some that are judged before it, each with its streams as talkers. To silent
  -- classes nothing comes, and of any other it is known how long its frames are. There is room for all that wait.
  pub record IsByPriority (class : ℕ) : Type 0 where
    pub traffic : ℕ → List ClassTraffic
    pub bounds : ℕ → Bounds
    pub beside : ℕ → Bool
    pub silent : ℕ → Bool
    pub are : AreJudged (net.ports port).plan traffic bounds beside silent
    pub own : beside class ≡ true
    pub sooner : (j : ℕ) → beside j ≡ true → (net.judged port j ≡ true) × ((j ≡ class) ⊎ (net.order port j < net.order port class))
    pub talkers : (j : ℕ) (t : ClassTraffic) → beside j ≡ true → slice_get (traffic j) j ≡ Some t
        → flows_of t.talkers.now ≡ map (talker_at net port) (net.hops port j)
    pub flows : (j : ℕ) → beside j ≡ true → AreFlows (needs (traffic j) j) (map (talker_at net port) (net.hops port j))
    pub quiet : (j : ℕ) → silent j ≡ true → (net.judged port j ≡ true) × (net.hops port j ≡ [])
    pub others : (j k : ℕ) → beside j ≡ true → k < 8 → beside k ≡ false → silent k ≡ false → NeedsUpTo k (needs (traffic j) k)
    pub room : (bounds class).most ≤ (net.ports port).room
    pub waits : AreByWait net port class (bounds class).wait

-- The law: a class that is judged by priority keeps its promise.
abbrev pub PriorityPromise : Type 0
PriorityPromise = (net : Network) (port class : ℕ) → net.judged port class ≡ true → IsByPriority net port class → IsPromise net port class
