-- What is told of a class in the end is what was when the class was judged: its hops, their windows and bounds, and its answer.
use Rattle.std.specs.List.{list_any}
use Rattle.std.specs.Prelude.{◌≡◌, ◌⊎◌, ◌<◌, ℕ, ◌+◌, ◌-◌, Bool, true, false, List, [], ◌∷◌, filter, map, Some, None, slice_get, slice_index_or}
use Rattle.gates.specs.Gate.{keeps_apart}
use Rattle.abstract_port.specs.AbstractPort.{plan_asked}
use Rattle.delay_bounds.specs.declared.Bound.{Bound}
use Rattle.stream_bounds.specs.Verdicts.{ClassAnswer, unbounded}
use Rattle.stream_bounds.specs.declared.standing.Standing.{Standing}
use Rattle.stream_bounds.specs.declared.verdicts.Verdict.TheVariants as Verdicts
use Rattle.traffic.specs.declared.table.Stream.{Stream}
use Rattle.path_bounds.specs.Answers.{AreSharing, IsAnswerBy, pair_of, standings_from, table_of, verdict_at}
use Rattle.path_bounds.specs.Hops.{entry_of, is_awaited, is_own, is_unknown}
use Rattle.path_bounds.specs.Judged.{AreJudged, Known, class_in, port_in, unjudged}
use Rattle.path_bounds.specs.declared.hop.Coming.TheVariants as Comings
use Rattle.path_bounds.specs.declared.hop.Hop.{Hop}
use Rattle.path_bounds.specs.declared.hop.PathPort.{PathPort}
use Rattle.path_bounds.specs.declared.hop.Span.{Span}
use Rattle.path_bounds.specs.declared.standings.PairVerdict.{PairVerdict}
use Rattle.path_bounds.specs.declared.standings.PairVerdict.TheVariants as PairVerdicts

-- the hops of a class of a port
abbrev pub own_hops : (port class : ℕ) → List Hop → List Hop
own_hops port class hops = filter (is_own port class) hops

-- hops have these bounds, from a place on
abbrev pub AreGiven : List Bound → (place : ℕ) → List Hop → Type 0
AreGiven left place [] = Unit {0}
AreGiven left place (h ∷ hops) = (h.bound ≡ slice_get left place) × AreGiven left (place + 1) hops

-- a hop, without what becomes known of it
abbrev pub fixed : Hop → Hop
fixed h = record h { coming = Comings.Awaited; bound = None }

module _ (known : Known) (i : ℕ) (port : ℕ) where
  -- nothing comes to a class, or it was judged before place i
  abbrev pub IsSettled : (other : ℕ) → Type 0
  IsSettled other =
      (own_hops port other known.hops ≡ [])
      ⊎ ((j r : ℕ) × (j < i) × (slice_get known.order j ≡ Some r) × (port ≡ port_in r) × (other ≡ class_in r))

module _ (known : Known) (i port class : ℕ) where
  -- What a class that was judged at place i was judged beside: the table of what was known of all hops then. No more has become known since
  -- than when frames come that were awaited, and bounds. Of a higher class that shares windows nothing has: it was judged before, or nothing
  -- comes there; and it stands as it did.
  pub record IsBeside (p : PathPort) (table : List Stream) (above : List Standing) : Type 0 where
    pub hops : List Hop
    pub shares : List Bool
    pub are : AreSharing (plan_asked p.change) class shares
    pub table_is : table ≡ table_of port hops
    pub above_is : above ≡ standings_from p port known.hops known.verdicts shares (7 - class) (class + 1)
    pub same : map fixed hops ≡ map fixed known.hops
    pub alike : (other : ℕ) → map fixed (own_hops port other hops) ≡ map fixed (own_hops port other known.hops)
    pub heard : (k : ℕ) (h : Hop) (s : Span) → slice_get hops k ≡ Some h → h.coming ≡ Comings.Within s
        → (g : Hop) × (slice_get known.hops k ≡ Some g) × (g.coming ≡ Comings.Within s)
    pub settled : (other : ℕ) → class < other → other < 8 → slice_index_or shares other false ≡ true
        → IsSettled known i port other
    pub stay : (other : ℕ) → class < other → other < 8 → slice_index_or shares other false ≡ true
        → own_hops port other hops ≡ own_hops port other known.hops

module _ (ports : List PathPort) (known : Known) (i pair : ℕ) where
  abbrev pub class_hops : List Hop
  class_hops = own_hops (port_in pair) (class_in pair) known.hops

  -- Of each hop of the class is known when its frames come. The answer is one about the streams as the port gets them, by a table of the port
  -- and the classes above as they stood.
  pub record IsKnownSo (p : PathPort) (answer : ClassAnswer) (verdict : PairVerdict) : Type 0 where
    pub is : verdict ≡ PairVerdicts.Known answer.verdict
    pub all : list_any (λ (h : Hop). is_unknown h.coming) class_hops ≡ false
    pub table : List Stream
    pub above : List Standing
    pub answered : IsAnswerBy (keeps_apart (plan_asked p.change).entries (class_in pair)) p table above (map entry_of class_hops) (class_in pair) answer
    pub beside : IsBeside known i (port_in pair) (class_in pair) p table above

  -- A class of a port has been judged, at place i. Its hops have the bounds of the answer, and none of them is awaited.
  pub record IsAnswered : Type 0 where
    pub port : PathPort
    pub is : slice_get ports (port_in pair) ≡ Some port
    pub answer : ClassAnswer
    pub verdict : PairVerdict
    pub told : verdict_at known.verdicts (pair_of (port_in pair) (class_in pair)) ≡ Some verdict
    pub given : AreGiven answer.left 0 class_hops
    pub heard : list_any (λ (h : Hop). is_awaited h.coming) class_hops ≡ false
    pub so : ((answer ≡ unbounded Verdicts.Idle) × (verdict ≡ PairVerdicts.Unheard)) ⊎ IsKnownSo port answer verdict

-- The law: so is each class that was judged.
abbrev pub AnsweredLaw : Type 0
AnsweredLaw =
    (ports : List PathPort) (clocks : ℕ) (hops : List Hop) (known : Known) → AreJudged ports clocks (unjudged ports hops) known
    → (i pair : ℕ) → slice_get known.order i ≡ Some pair → IsAnswered ports known i pair
