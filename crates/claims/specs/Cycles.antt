-- A network whose schedules have been in force for some more cycles at moment zero: what is told of it is the same.
--
-- So it is enough to judge each port as if its schedule came into force less than a cycle before, by its base time alone. Times are in
-- picoseconds.
use Rattle.std.specs.Prelude.{◌≡◌, ℕ, ◌+◌, ◌*◌, true, map}
use Rattle.gates.specs.Gate.{in_ps}
use Rattle.claims.specs.Network.{Hop, IsNetworkRun, Network, NetworkPort, PortRun}
use Rattle.claims.specs.NetworkClaim.{IsJudged, IsTold, KeepsTime}

-- so many cycles of a port
abbrev pub time_of : NetworkPort → (cycles : ℕ) → ℕ
time_of p cycles = in_ps p.plan.cycle * cycles

-- a port whose schedule has been in force for so many cycles more
abbrev pub port_later : (cycles : ℕ) → NetworkPort → NetworkPort
port_later cycles p = record { ps = p.ps; mtu = p.mtu; room = p.room; plan = p.plan; since = p.since + time_of p cycles }

-- a hop there: its window counts from the change moment, and so comes as much later
abbrev pub hop_later : (time : ℕ) → Hop → Hop
hop_later time h = record {
  stream = h.stream;
  before = h.before;
  earliest = h.earliest + time;
  latest = h.latest + time;
  bound = h.bound;
}

-- the network, where each port has a number of cycles of its own
abbrev pub later : Network → (cycles : (port : ℕ) → ℕ) → Network
later net cycles = record {
  ports = λ p. port_later (cycles p) (net.ports p);
  streams = net.streams;
  hops = λ p class. map (hop_later (time_of (net.ports p) (cycles p))) (net.hops p class);
  judged = net.judged;
  order = net.order;
  limit = net.limit;
  clocks = net.clocks;
}

-- The claim: where a network is told, and its classes are judged, so is it with any numbers of cycles more; and all keep time in every run.
abbrev pub CyclesClaim : Type 0
CyclesClaim =
    (net : Network) → IsTold net → ((p class : ℕ) → net.judged p class ≡ true → IsJudged net p class) → (cycles : (port : ℕ) → ℕ)
    → (runs : ℕ → PortRun) (nominal : (stream n : ℕ) → ℕ) → IsNetworkRun (later net cycles) runs nominal
    → (p class : ℕ) → net.judged p class ≡ true → KeepsTime (later net cycles) runs nominal p class
