-- That the claim for networks speaks of something: there are runs in which a frame goes from one port to another.
--
-- The claim (NetworkClaim.antt) is of every run of a network, and would hold of any bounds where there are none. So each premise here is one
-- that the standard, a port's limits or the claim ask, and none is more. Times are in picoseconds.
use Rattle.std.specs.Prelude.{◌≡◌, ◌<◌, ◌≤◌, ◌⊎◌, ℕ, ◌+◌, true, [], ◌∷◌, Some, None}
use Rattle.wire_time.specs.Moment.{greatest_moment}
use Rattle.wire_time.specs.declared.Frame.{Frame}
use Rattle.wire_time.specs.declared.TheConstants.{MIN_PS_PER_OCTET, MIN_MTU}
use Rattle.abstract_port.specs.AbstractPort.{new_port, plan_asked, refusal}
use Rattle.abstract_port.specs.declared.Change.{Change}
use Rattle.abstract_port.specs.declared.Command.TheVariants.{Replace}
use Rattle.abstract_port.specs.Traffic.{Came}
use Rattle.claims.specs.Runs.{IsTaken, in_force_from, scheduled}
use Rattle.claims.specs.Network.{AreNominal, Hop, IsNetworkRun, IsNumbered, Link, Network, PortRun}
use Rattle.claims.specs.NetworkClaim.{IsJudged, IsTold}
use Rattle.claims.specs.Promise.{IsPromise, need_at}

module _ (net : Network) where
  -- when the schedule of a port comes into force that a new one accepts
  abbrev pub forced_at : (port : ℕ) → Change → ℕ
  forced_at port change = in_force_from (net.ports port).ps (net.ports port).mtu (net.ports port).room change

  -- A port is of a rate and an mtu that there are, accepts its schedule when it is new, and then takes the frame into a class: to this come the
  -- frames of one stream alone, and it is as long as those.
  pub record Takes (port class : ℕ) (change : Change) (h : Hop) (f : Frame) : Type 0 where
    pub rate : MIN_PS_PER_OCTET ≤ (net.ports port).ps
    pub large : MIN_MTU ≤ (net.ports port).mtu
    pub plan : (net.ports port).plan ≡ plan_asked change
    pub accepted : refusal (new_port (net.ports port).ps (net.ports port).mtu (net.ports port).room) (Replace change) ≡ None
    pub listed : class < 8
    pub judged : net.judged port class ≡ true
    pub taken : IsTaken (scheduled (net.ports port).ps (net.ports port).mtu (net.ports port).room change) class (need_at net port f.len)
    pub is : taken.frame ≡ f
    pub hop : net.hops port class ≡ h ∷ []
    pub long : ((net.streams h.stream).shortest ≤ f.len) × (f.len ≤ (net.streams h.stream).longest)

  -- A frame of a stream can go from its talker to port 0, and over a link to port 1; no other class is judged.
  pub record CanPass (c d : ℕ) (one two : Change) (first second : Hop) (least greatest : ℕ) (f : Frame) : Type 0 where
    pub only : (p class : ℕ) → net.judged p class ≡ true → ((p ≡ 0) × (class ≡ c)) ⊎ ((p ≡ 1) × (class ≡ d))
    pub limits : (p class : ℕ) → net.limit p class ≡ None
    pub takes : Takes 0 c one first f
    pub then : Takes 1 d two second f
    pub talker : first.before ≡ None
    pub window : first.earliest ≤ first.latest
    pub link : second.before ≡ Some (record { port = 0; class = c; place = 0; least = least; greatest = greatest })
    pub times : least ≤ greatest

-- The law: where the first class keeps a promise there is a run of the network, with all nominal moments that there may be, in which this frame
-- comes to the second port, as far as the clocks go.
abbrev pub NetworkRunsExist : Type 0
NetworkRunsExist =
    (net : Network) (c d n : ℕ) (one two : Change) (first second : Hop) (least greatest : ℕ) (f : Frame) (nominal : (stream n : ℕ) → ℕ)
    → IsTold net → IsPromise net 0 c → CanPass net c d one two first second least greatest f
    → ((s : ℕ) → AreNominal (net.streams s) (nominal s))
    → forced_at net 0 one + nominal first.stream n + first.earliest + first.bound.greatest < greatest_moment
    → forced_at net 1 two + nominal second.stream n + second.latest ≤ greatest_moment
    → (runs : ℕ → PortRun) × IsNetworkRun net runs nominal
    × (g : Came) × IsNumbered net 1 d (runs 1) 0 0 n g second × (g.frame ≡ f)

-- And all that the claim asks can be met at once: some network is told and judged, with clocks that differ, and in a run of it a frame comes to a
-- port from another one.
abbrev pub PremisesAreMet : Type 0
PremisesAreMet =
    (net : Network) × IsTold net × ((p class : ℕ) → net.judged p class ≡ true → IsJudged net p class) × (0 < net.clocks)
    × (runs : ℕ → PortRun) × (nominal : (stream n : ℕ) → ℕ) × IsNetworkRun net runs nominal
    × (p class k i n : ℕ) × (f : Came) × (h : Hop) × (l : Link) × IsNumbered net p class (runs p) k i n f h × (h.before ≡ Some l)
