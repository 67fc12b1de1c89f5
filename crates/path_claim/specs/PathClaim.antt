-- The claim for what is told of the ways of streams: in every run of a network of which all is told, the classes that are judged keep time.
use Rattle.std.specs.Prelude.{◌≡◌, ◌<◌, ℕ, ◌-◌, ◌^◌, true, false, List, [], ◌∷◌, Some}
use Rattle.gates.specs.Gate.{keeps_apart}
use Rattle.delay_bounds.specs.declared.Bound.{Bound}
use Rattle.path_bounds.specs.Judged.{AreJudged, Known, unjudged}
use Rattle.path_bounds.specs.Start.{start_hops}
use Rattle.path_bounds.specs.declared.hop.Coming.TheVariants as Comings
use Rattle.path_bounds.specs.declared.hop.Hop.{Hop}
use Rattle.path_bounds.specs.declared.hop.PathPort.{PathPort}
use Rattle.path_bounds.specs.declared.hop.Span.{Span}
use Rattle.path_bounds.specs.declared.start.WayHop.{WayHop}
use Rattle.claims.specs.Network.{Hop as NetworkHop, IsNetworkRun, Network, PortRun}
use Rattle.claims.specs.NetworkClaim.{KeepsTime}
use Rattle.claims.specs.Priority.{IsByPriority}
use Rattle.path_claim.specs.Answered.{own_hops}
use Rattle.path_claim.specs.Networks.{AreSmall, IsNetworkOf}
use Rattle.path_claim.specs.Sent.{AreSent}
use Rattle.path_claim.specs.Told.{bound_told, stream_told}

module _ (net : Network) where
  -- a hop of the network is one that is told
  pub record IsHopAs (a : NetworkHop) (h : Hop) : Type 0 where
    pub span : Span
    pub coming : h.coming ≡ Comings.Within span
    pub bound : Bound
    pub bounded : h.bound ≡ Some bound
    pub whole : bound.greatest < 2 ^ 128 - 1
    pub stream : net.streams a.stream ≡ stream_told h.stream
    pub earliest : a.earliest ≡ span.earliest
    pub latest : a.latest ≡ span.latest
    pub waits : a.bound ≡ bound_told h.stream span bound

  -- and so are all hops of a class, in their order
  abbrev pub AreHopsAs : List NetworkHop → List Hop → Type 0
  AreHopsAs [] [] = Unit {0}
  AreHopsAs (a ∷ those) (h ∷ hops) = IsHopAs a h × AreHopsAs those hops
  AreHopsAs _ _ = ⊥

-- The law: once the classes of all ports were judged one after another, the classes of the network keep time in every run, where those that
-- share windows are judged by priority.
abbrev pub PathClaim : Type 0
PathClaim =
    (net : Network) (ports : List PathPort) (clocks : ℕ) (ways : List WayHop) (known : Known) → AreSent ways
    → AreJudged ports clocks (unjudged ports (start_hops ports false ways)) known → AreSmall ports clocks known
    → IsNetworkOf net ports clocks known
    → ((p class : ℕ) → net.judged p class ≡ true → AreHopsAs net (net.hops p class) (own_hops p class known.hops))
    → ((p class : ℕ) → net.judged p class ≡ true → keeps_apart (net.ports p).plan.entries class ≡ false → (net.hops p class ≡ [] → ⊥)
    → IsByPriority net p class)
    → (runs : ℕ → PortRun) (nominal : (stream n : ℕ) → ℕ) → IsNetworkRun net runs nominal
    → (p class : ℕ) → net.judged p class ≡ true → KeepsTime net runs nominal p class
