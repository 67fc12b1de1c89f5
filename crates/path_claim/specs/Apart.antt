-- What the answer about a class is worth in a network where the port's schedule keeps the class apart.
use Rattle.std.specs.Prelude.{◌≡◌, ◌⊎◌, ℕ, true, List, ◌∷◌, map}
use Rattle.gates.specs.Gate.{keeps_apart}
use Rattle.abstract_port.specs.AbstractPort.{plan_asked}
use Rattle.stream_bounds.specs.Classes.{has_any}
use Rattle.stream_bounds.specs.Verdicts.{ClassAnswer, IsApartAnswer}
use Rattle.path_bounds.specs.Hops.{entry_of}
use Rattle.path_bounds.specs.declared.hop.Hop.{Hop}
use Rattle.path_bounds.specs.declared.hop.PathPort.{PathPort}
use Rattle.claims.specs.Network.{Network}
use Rattle.claims.specs.Promise.{IsByCurve, IsByWindows}
use Rattle.path_claim.specs.Told.{AreHopsTold, port_told}

-- The law: where the answer has bounds of all streams of the class, as the port gets them, the class is judged by windows, or by an arrival
-- curve.
abbrev pub ApartLaw : Type 0
ApartLaw =
    (net : Network) (port class : ℕ) (p : PathPort) (h : Hop) (hops : List Hop) (answer : ClassAnswer) → net.ports port ≡ port_told p
    → keeps_apart (plan_asked p.change).entries class ≡ true
    → IsApartAnswer (has_any (map entry_of (h ∷ hops))) true p.settings p.change (map entry_of (h ∷ hops)) class answer
    → AreHopsTold net p class (net.hops port class) (h ∷ hops) answer.left → IsByWindows net port class ⊎ IsByCurve net port class
