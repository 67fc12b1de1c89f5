-- A class is judged after all classes from which its frames come: when it is, these have bounds.
use Rattle.std.specs.List.{list_any}
use Rattle.std.proofs.Common.{◌≡◌, ◌⊎◌, inl, inr, ℕ, zero, suc, ◌+◌, ◌&&◌, not, Bool, true, false, List, [], ◌∷◌, ◌++◌, length, Option, Some, None, slice_get, if◌then◌else◌, refl, sym, ap, ◌∙◌, subst}
use Rattle.std.proofs.lemmas.Bool.{or_parts, true≢false}
use Rattle.std.proofs.lemmas.Option.{none-some, same_Some, slice_get_within}
use Rattle.delay_bounds.specs.declared.Bound.{Bound}
use Rattle.any_traffic.proofs.ListLaws.{get_last, get_more, none_here}
use Rattle.path_bounds.specs.Hops.{arrived, coming_at, is_awaited, is_own, leaving_of, passed_by, passed_on}
use Rattle.path_bounds.specs.Judged.{AreJudged, AreSteps, IsStep, Known, class_in, port_in, unjudged}
use Rattle.path_bounds.specs.Start.{hop_of, never_behind, start_hops, with_port}
use Rattle.path_bounds.specs.declared.hop.Coming.TheVariants as Comings
use Rattle.path_bounds.specs.declared.hop.Hop.{Hop}
use Rattle.path_bounds.specs.declared.hop.PathPort.{PathPort}
use Rattle.path_bounds.specs.declared.hop.Span.{Span}
use Rattle.path_bounds.specs.declared.pass.Leaving.{Leaving}
use Rattle.path_bounds.specs.declared.pass.Leaving.TheVariants as Leavings
use Rattle.path_bounds.specs.declared.start.WayHop.{WayHop}
use Rattle.path_claim.specs.Earlier.{AreLater, EarlierLaw, IsLater, IsSooner}
use Rattle.path_claim.specs.Linked.{AreLinked, IsWindow}
use Rattle.path_claim.proofs.AnsweredLaws as Answers
use Rattle.path_claim.proofs.LinkedLaws as Links

-- a hop with bounds is of a class that was judged
abbrev pub IsHeldIn : (order : List ℕ) → Hop → Type 0
IsHeldIn order h = (b : Bound) → h.bound ≡ Some b → (i r : ℕ) × (slice_get order i ≡ Some r) × (h.port ≡ port_in r) × (h.class ≡ Some (class_in r))

abbrev pub AreHeldIn : (order : List ℕ) → List Hop → Type 0
AreHeldIn order [] = Unit {0}
AreHeldIn order (h ∷ hops) = IsHeldIn order h × AreHeldIn order hops

pub held_at : (order : List ℕ) (hops : List Hop) (k : ℕ) (h : Hop) → AreHeldIn order hops → slice_get hops k ≡ Some h → IsHeldIn order h
held_at order [] k h are e = absurd (none_here k h e)
held_at order (x ∷ hops) zero h are e = subst (λ (y : Hop). IsHeldIn order y) (same_Some x h e) are.0
held_at order (x ∷ hops) (suc k) h are e = held_at order hops k h are.1 e

-- so is one before another
abbrev IsHeldBefore : (order : List ℕ) → Option Hop → Type 0
IsHeldBefore order None = Unit {0}
IsHeldBefore order (Some g) = IsHeldIn order g

-- a hop stays where it is, and of its class
abbrev Stays : (old new : Option Hop) → Type 0
Stays None new = Unit {0}
Stays (Some g) None = ⊥
Stays (Some g) (Some k) = (k.port ≡ g.port) × (k.class ≡ g.class)

module _ (ports : List PathPort) (clocks : ℕ) where
  begin_held : (ways : List WayHop) (never : Bool) → AreHeldIn [] (start_hops ports never ways)
  unfolding start_hops
  begin_held [] never = tt
  begin_held (h ∷ ways) never = by (slice_get ports h.port) (begin_held ways)
    where
      by : (o : Option PathPort) → ((next : Bool) → AreHeldIn [] (start_hops ports next ways))
          → AreHeldIn [] (with_port o h never (λ next. start_hops ports next ways))
      by None rest = rest never
      by (Some p) rest = (
        λ (b : Bound) e. absurd (none-some b e),
        rest (never_behind (never && not h.first) (hop_of p h (never && not h.first))),
      )

  module _ (pair : ℕ) (from : PathPort) (left : List Bound) (order : List ℕ) where
    abbrev port : ℕ
    port = port_in pair

    abbrev class : ℕ
    class = class_in pair

    abbrev more : List ℕ
    more = order ++ pair ∷ []

    abbrev passed : (place : ℕ) → Leaving → List Hop → List Hop
    passed = passed_on ports from clocks port class left

    -- what stays of a hop
    same_parts : (leaving : Leaving) (h : Hop) (awaited : Bool)
        → ((if awaited then record h { coming = coming_at from (slice_get ports h.port) clocks leaving h } else h).port ≡ h.port)
        × ((if awaited then record h { coming = coming_at from (slice_get ports h.port) clocks leaving h } else h).class ≡ h.class)
        × ((if awaited then record h { coming = coming_at from (slice_get ports h.port) clocks leaving h } else h).bound ≡ h.bound)
    same_parts leaving h true = (refl, refl, refl)
    same_parts leaving h false = (refl, refl, refl)

    held_on : (hops : List Hop) (place : ℕ) (leaving : Leaving) → AreHeldIn order hops → AreHeldIn more (passed place leaving hops)
    unfolding passed_on
    held_on [] place leaving held = tt
    held_on (h ∷ hops) place leaving held =
        by (arrived ports from clocks leaving h) (same_parts leaving h (is_awaited h.coming))
        (is_own port class (arrived ports from clocks leaving h)) refl (λ (next : ℕ) (behind : Leaving). held_on hops next behind held.1)
      where
        by : (k : Hop) → (k.port ≡ h.port) × (k.class ≡ h.class) × (k.bound ≡ h.bound) → (own : Bool) → is_own port class k ≡ own
            → ((next : ℕ) (behind : Leaving) → AreHeldIn more (passed next behind hops))
            → AreHeldIn more (passed_by ports from clocks port class left own place k (λ next behind. passed next behind hops))
        by k same true own rest = (
          λ (b : Bound) e. (let is = Answers.own_parts port class k own in (length order, pair, get_last order pair, is.0, is.1)),
          rest (place + 1) (leaving_of k.coming (slice_get left place)),
        )
        by k same false own rest = (
          λ (b : Bound) e. (let is = held.0 b (sym same.2 ∙ e) in (
            is.0,
            is.1,
            get_more order (pair ∷ []) is.0 is.1 is.2,
            same.0 ∙ is.3,
            same.1 ∙ is.4,
          )),
          rest place Leavings.Other,
        )

    -- ---- a class that was judged before

    module _ (j q : ℕ) where
      sooner_kept : (old new : Option Hop) → Stays old new → IsSooner order j q old → IsSooner more j q new
      sooner_kept None new stays is = absurd is
      sooner_kept (Some g) None stays is = absurd stays
      sooner_kept (Some g) (Some k) stays is =
          (is.0, is.1, is.2, get_more order (pair ∷ []) is.0 is.1 is.3, stays.0 ∙ is.4, stays.1 ∙ is.5)

      later_kept : (old new : Option Hop) (h k : Hop) → Answers.Same ports clocks (port_in q) (class_in q) h k → Stays old new
          → IsLater order j q old h → IsLater more j q new k
      later_kept old new h k (inl nots) stays is = λ own behind coming first. absurd (true≢false (sym own ∙ nots.1))
      later_kept old new h k (inr same) stays is =
          subst (λ (y : Hop). IsLater more j q new y) (sym same)
          (λ own behind coming first. sooner_kept old new stays (is own behind coming first))

      kept_on : (hops : List Hop) (place : ℕ) (leaving : Leaving) (old new : Option Hop)
          → list_any (λ (h : Hop). is_own (port_in q) (class_in q) h && is_awaited h.coming) hops ≡ false → Stays old new
          → AreLater order j q old hops → AreLater more j q new (passed place leaving hops)
      unfolding passed_on
      kept_on [] place leaving old new none stays are = tt
      kept_on (h ∷ hops) place leaving old new none stays are =
          let parts = or_parts (is_own (port_in q) (class_in q) h && is_awaited h.coming)
          (list_any (λ (h : Hop). is_own (port_in q) (class_in q) h && is_awaited h.coming) hops) none in
          by (arrived ports from clocks leaving h) (same_parts leaving h (is_awaited h.coming))
          (later_kept old new h (arrived ports from clocks leaving h)
          (Answers.same_hop ports clocks from (port_in q) (class_in q) leaving h parts.0) stays are.0)
          (is_own port class (arrived ports from clocks leaving h))
          (λ (next : ℕ) (behind : Leaving) (k : Hop) same. kept_on hops next behind (Some h) (Some k) parts.1 same are.1)
        where
          by : (k : Hop) → (k.port ≡ h.port) × (k.class ≡ h.class) × (k.bound ≡ h.bound) → IsLater more j q new k → (own : Bool)
              → ((next : ℕ) (behind : Leaving) (g : Hop) → (g.port ≡ h.port) × (g.class ≡ h.class)
              → AreLater more j q (Some g) (passed next behind hops))
              → AreLater more j q new (passed_by ports from clocks port class left own place k (λ next behind. passed next behind hops))
          by k same later true rest = (
            later,
            rest (place + 1) (leaving_of k.coming (slice_get left place)) (record k { bound = slice_get left place }) (same.0, same.1),
          )
          by k same later false rest = (later, rest place Leavings.Other k (same.0, same.1))

    -- ---- the class that is judged

    sooner_here : (old new : Option Hop) (h : Hop) (behind : Span) (first : Bool) → first ≡ false → Stays old new → IsHeldBefore order old
        → IsWindow ports clocks first old h behind → IsSooner more (length order) pair new
    sooner_here old new h behind true not_first stays held is = absurd (true≢false not_first)
    sooner_here None new h behind false not_first stays held is = absurd is
    sooner_here (Some g) None h behind false not_first stays held is = absurd stays
    sooner_here (Some g) (Some k) h behind false not_first stays held is =
        let r = held is.bound is.bounded in
        (r.0, r.1, slice_get_within order r.0 r.1 r.2, get_more order (pair ∷ []) r.0 r.1 r.2, stays.0 ∙ r.3, stays.1 ∙ r.4)

    later_here : (old new : Option Hop) (h k : Hop) → Answers.Same ports clocks port class h k → Stays old new → IsHeldBefore order old
        → ((behind : Span) → h.coming ≡ Comings.Within behind → IsWindow ports clocks h.first old h behind)
        → IsLater more (length order) pair new k
    later_here old new h k (inl nots) stays held windows = λ own behind coming first. absurd (true≢false (sym own ∙ nots.1))
    later_here old new h k (inr same) stays held windows =
        subst (λ (y : Hop). IsLater more (length order) pair new y) (sym same)
        (λ own behind coming first. sooner_here old new h behind h.first first stays held (windows behind coming))

    here_on : (hops : List Hop) (place : ℕ) (leaving : Leaving) (old new : Option Hop)
        → list_any (λ (h : Hop). is_own port class h && is_awaited h.coming) hops ≡ false → Stays old new → IsHeldBefore order old
        → AreHeldIn order hops → AreLinked ports clocks old hops → AreLater more (length order) pair new (passed place leaving hops)
    unfolding passed_on
    here_on [] place leaving old new none stays before held linked = tt
    here_on (h ∷ hops) place leaving old new none stays before held linked =
        let parts = or_parts (is_own port class h && is_awaited h.coming)
        (list_any (λ (h : Hop). is_own port class h && is_awaited h.coming) hops) none in
        by (arrived ports from clocks leaving h) (same_parts leaving h (is_awaited h.coming))
        (later_here old new h (arrived ports from clocks leaving h) (Answers.same_hop ports clocks from port class leaving h parts.0) stays before
        (linked.0).window) (is_own port class (arrived ports from clocks leaving h))
        (λ (next : ℕ) (behind : Leaving) (k : Hop) same. here_on hops next behind (Some h) (Some k) parts.1 same held.0 held.1 linked.1)
      where
        by : (k : Hop) → (k.port ≡ h.port) × (k.class ≡ h.class) × (k.bound ≡ h.bound) → IsLater more (length order) pair new k → (own : Bool)
            → ((next : ℕ) (behind : Leaving) (g : Hop) → (g.port ≡ h.port) × (g.class ≡ h.class)
            → AreLater more (length order) pair (Some g) (passed next behind hops))
            → AreLater more (length order) pair new
            (passed_by ports from clocks port class left own place k (λ next behind. passed next behind hops))
        by k same later true rest = (
          later,
          rest (place + 1) (leaving_of k.coming (slice_get left place)) (record k { bound = slice_get left place }) (same.0, same.1),
        )
        by k same later false rest = (later, rest place Leavings.Other k (same.0, same.1))

  -- ---- all steps

  record IsKept (known : Known) : Type 0 where
    links : Links.IsKept ports clocks known
    answers : Answers.IsKept ports clocks known
    held : AreHeldIn known.order known.hops
    later : (j q : ℕ) → slice_get known.order j ≡ Some q → AreLater known.order j q None known.hops

  step_kept : (pair : ℕ) (old new : Known) → IsKept old → IsStep ports clocks pair old new → IsKept new
  step_kept pair old new kept step = record {
    links = Links.step_kept ports clocks pair old new kept.links step;
    answers = Answers.step_kept ports clocks pair old new kept.answers step;
    held = subst (λ (o : List ℕ). AreHeldIn o new.hops) (sym step.order)
        (subst (λ (hs : List Hop). AreHeldIn (old.order ++ pair ∷ []) hs) (sym step.hops)
        (held_on pair step.port (step.answer).left old.order old.hops 0 Leavings.Other kept.held));
    later = λ (j q : ℕ) e. by j q (Answers.last_at old.order pair j q (sym (ap (λ (xs : List ℕ). slice_get xs j) step.order) ∙ e));
  }
    where
      moved : (j q : ℕ)
          → AreLater (old.order ++ pair ∷ []) j q None
          (passed_on ports step.port clocks (port_in pair) (class_in pair) (step.answer).left 0 Leavings.Other old.hops)
          → AreLater new.order j q None new.hops
      moved j q are =
          subst (λ (o : List ℕ). AreLater o j q None new.hops) (sym step.order)
          (subst (λ (hs : List Hop). AreLater (old.order ++ pair ∷ []) j q None hs) (sym step.hops) are)

      by : (j q : ℕ) → (slice_get old.order j ≡ Some q) ⊎ ((pair ≡ q) × (j ≡ length old.order)) → AreLater new.order j q None new.hops
      by j q (inl before) =
          let answered = (kept.answers).all j q before in
          moved j q
          (kept_on pair step.port (step.answer).left old.order j q old.hops 0 Leavings.Other None None
          (Answers.any_own (port_in q) (class_in q) is_awaited old.hops ∙ answered.heard) tt (kept.later j q before))
      by j q (inr is) =
          let here : AreLater new.order (length old.order) pair None new.hops = moved (length old.order) pair
          (here_on pair step.port (step.answer).left old.order old.hops 0 Leavings.Other None None
          (Answers.none_own ports clocks pair old new step (kept.answers).long) tt tt kept.held (kept.links).linked) in
          subst (λ (n : ℕ). AreLater new.order n q None new.hops) (sym is.1)
          (subst (λ (n : ℕ). AreLater new.order (length old.order) n None new.hops) is.0 here)

  steps_kept : (pairs : List ℕ) (old new : Known) → IsKept old → AreSteps ports clocks pairs old new → IsKept new
  steps_kept [] old new kept steps = subst (λ (k : Known). IsKept k) steps kept
  steps_kept (pair ∷ pairs) old new kept steps = steps_kept pairs steps.0 new (step_kept pair old steps.0 kept steps.1) steps.2

all_kept : (ports : List PathPort) (clocks : ℕ) (ways : List WayHop) (known : Known)
    → AreJudged ports clocks (unjudged ports (start_hops ports false ways)) known → IsKept ports clocks known
all_kept ports clocks ways known judged =
    steps_kept ports clocks known.order (unjudged ports (start_hops ports false ways)) known (record {
      links = Links.begin_kept ports clocks ways;
      answers = Answers.begin_kept ports clocks (start_hops ports false ways);
      held = begin_held ports clocks ways false;
      later = λ (j q : ℕ) e. absurd (none_here j q e);
    }) judged.steps

pub held_law : (ports : List PathPort) (clocks : ℕ) (ways : List WayHop) (known : Known)
    → AreJudged ports clocks (unjudged ports (start_hops ports false ways)) known → AreHeldIn known.order known.hops
held_law ports clocks ways known judged = (all_kept ports clocks ways known judged).held

pub earlier_law : EarlierLaw
earlier_law ports clocks ways known judged = (all_kept ports clocks ways known judged).later
