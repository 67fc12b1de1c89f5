-- What is answered of flows.
use Rattle.std.proofs.Common.{◌≡◌, ◌<◌, ◌≤◌, ℕ, suc, ◌+◌, Bool, true, false, All, List, [], ◌∷◌, length, get_or, option_map, slice_get, Some, None, refl, sym, ap, ◌∙◌, subst, arith, le_refl}
use Rattle.std.proofs.lemmas.Bool.{both_ways}
use Rattle.std.proofs.lemmas.List.{length-map}
use Rattle.std.proofs.lemmas.Option.{get_or_from_slice_get, slice_get-get_or, slice_get-map}
use Rattle.gates.specs.Gate.{Plan, mask_since}
use Rattle.gates.proofs.OpenLaws.{open_within}
use Rattle.delay_bounds.specs.Walk.{may_by}
use Rattle.delay_bounds.specs.declared.Bound.{Bound}
use Rattle.any_traffic.specs.LateForEver.{AreLateWithin}
use Rattle.any_traffic.specs.PeriodicWindows.{IsLateStart, PeriodicFlow}
use Rattle.any_traffic.proofs.LateForEverLaws.{late_enough_law}
use Rattle.burst_bounds.specs.Unbound.{IsStuck}
use Rattle.window_bounds.specs.Flows.{IsFlow, flows_of, longest_need, periodic_of}
use Rattle.window_bounds.specs.Least.{AreLeast, IsLeastWait, greatest_of}
use Rattle.window_bounds.specs.Notes.{bound_at, jittered_at}
use Rattle.window_bounds.specs.Unbound.{IsHopeless, IsUnbound}
use Rattle.window_bounds.specs.Walk.{HasCome}
use Rattle.window_bounds.specs.declared.JitteredFlow.{JitteredFlow}
use Rattle.window_bounds.specs.declared.Unbound.{Unbound}
use Rattle.window_bounds.specs.declared.Unbound.TheVariants.{Overloaded, Stuck, Long, Late, Memory}
use Rattle.window_bounds.proofs.EverLaws.{few_ever, fewest_ever, reached_ever}
use Rattle.window_bounds.proofs.FlowLaws.{are_periodic, need_above, need_at}
use Rattle.window_bounds.proofs.NoteLaws.{flow_there}
use Rattle.window_bounds.proofs.StepLaws.{have_period}

-- no window that takes a longer one takes no shorter one
pub stuck_longer : (plan : Plan) (class d e : ℕ) → d ≤ e → IsStuck plan class d → IsStuck plan class e
stuck_longer plan class d e le stuck t = by (may_by plan class t e) refl
  where
    by : (b : Bool) → may_by plan class t e ≡ b → may_by plan class t e ≡ false
    by false is = is
    by true is =
        absurd (both_ways _ (stuck t) (open_within (mask_since (Some plan) 0 None) class t e t d is (le_refl t) (omega (arith, le))))

pub stuck_flow : (plan : Plan) (class : ℕ) (flows : List JitteredFlow) → All IsFlow flows → (i : ℕ) → i < length flows
    → IsStuck plan class (jittered_at flows i).shortest → IsStuck plan class (longest_need flows)
stuck_flow plan class flows all i less stuck =
    let f = all i (record { offset = 0; period = 0; jitter = 0; shortest = 0; longest = 0 }) less in
    let order = f.order in
    let low = need_at flows i less in
    stuck_longer plan class (jittered_at flows i).shortest (longest_need flows) (omega (arith, order, low)) stuck

pub hopeless_is : (plan : Plan) (class need limit : ℕ) (flows : List JitteredFlow) → need ≡ longest_need flows → (why : Unbound)
    → IsHopeless plan class need flows why → IsUnbound plan class flows limit why
hopeless_is plan class need limit flows is Overloaded h = subst (λ d. IsHopeless plan class d flows Overloaded) is h
hopeless_is plan class need limit flows is Stuck h = subst (IsStuck plan class) is h
hopeless_is plan class need limit flows is Memory h = h
hopeless_is plan class need limit flows is Long h = absurd h
hopeless_is plan class need limit flows is Late h = absurd h

greatest_is : (bounds : List Bound) (waits : List ℕ) → length bounds ≡ length waits
    → ((i : ℕ) → i < length waits → (bound_at bounds i).greatest ≡ get_or waits i 0) → greatest_of bounds ≡ waits
greatest_is [] [] same each = refl
greatest_is (b ∷ bounds) [] same each = absurd (omega (arith, same))
greatest_is [] (w ∷ waits) same each = absurd (omega (arith, same))
greatest_is (b ∷ bounds) (w ∷ waits) same each =
    ap (λ x. x ∷ greatest_of bounds) (each 0 (omega arith))
    ∙ ap (λ xs. w ∷ xs) (greatest_is bounds waits (omega (arith, same)) (λ i less. each (suc i) (omega (arith, less))))

pub are_least : (may : ℕ → ℕ → Bool) (flows : List JitteredFlow) (every most : ℕ) (waits : List ℕ) (bounds : List Bound)
    → 0 < length flows → All IsFlow flows → HasCome may (longest_need flows) (flows_of flows) every most waits
    → length bounds ≡ length flows → ((i : ℕ) → i < length flows → (bound_at bounds i).greatest ≡ get_or waits i 0)
    → ((i : ℕ) → i < length flows → IsLeastWait may (periodic_of (jittered_at flows i)) (bound_at bounds i).least)
    → AreLeast may (longest_need flows) (flows_of flows) bounds most
are_least may flows every most waits bounds some all come count greatest least =
    let d : ℕ = longest_need flows in
    let above = need_above flows some all in
    let these = are_periodic flows all in
    let periods = have_period flows all in
    let many : length (flows_of flows) ≡ length flows = length-map flows periodic_of in
    let noted = come.noted in
    let all_noted = noted.count in
    let listed : length waits ≡ length flows = omega (arith, all_noted, many) in
    let same = greatest_is bounds waits (omega (arith, count, listed)) (λ i less. greatest i (omega (arith, less, listed))) in
    let first = slice_get-get_or (flows_of flows) 0 (record { offset = 0; period = 0; jitter = 0; shortest = 0; longest = 0 })
    (omega (arith, some, many)) in
    record {
      count = omega (arith, count, many);
      recurs = (come.from, every, come.recurs);
      always = λ upto. late_enough_law may d (flows_of flows) come.from every (greatest_of bounds) these come.recurs
          (subst (λ ws. AreLateWithin (IsLateStart may d (flows_of flows)) (flows_of flows) ws (come.from + every)) (sym same) noted.within) upto;
      reached = λ i flow b place told.
          reached_ever may d above (flows_of flows) periods come.from every most come.recurs _ first come.sent waits noted i b.greatest flow place
          (subst (λ ws. slice_get ws i ≡ Some b.greatest) same
          (slice_get-map (λ (x : Bound). x.greatest) bounds i ∙ ap (λ o. option_map (λ (x : Bound). x.greatest) o) told));
      least = λ i flow b place told.
          let there = flow_there flows i flow place in
          let is = get_or_from_slice_get bounds i b (record { least = 0; greatest = 0 }) told in
          subst (λ (x : Bound). IsLeastWait may flow x.least) is
          (subst (λ (f : PeriodicFlow). IsLeastWait may f (bound_at bounds i).least) there.1 (least i there.0));
      few = few_ever may d above (flows_of flows) periods come.from every most come.recurs _ first come.sent;
      fewest = fewest_ever may d above (flows_of flows) periods come.from every most come.recurs _ first come.sent;
    }
