-- A class that is always open, and overloaded by one flow: each microsecond a frame comes that takes three.
use Rattle.std.proofs.Common.{◌≡◌, ◌<◌, ◌≤◌, ℕ, zero, suc, ◌+◌, true, [], ◌∷◌, List, Some, None, refl, ap, ◌∙◌, arith}
use Rattle.std.proofs.lemmas.Option.{same_Some}
use Rattle.gates.specs.Gate.{Plan, mask_since}
use Rattle.gates.proofs.OpenLaws.{open_from}
use Rattle.delay_bounds.specs.declared.Flow.{Flow}
use Rattle.delay_bounds.specs.Bounds.{Track, first_fit, from_on}
use Rattle.delay_bounds.specs.Claim.{earliest, offsets_of}
use Rattle.delay_bounds.specs.Overloaded.{IsOverloaded}
use Rattle.delay_bounds.specs.Walk.{after, begun, may_by}
use Rattle.delay_bounds.proofs.FitLaws.{fit_some}
use Rattle.delay_bounds.proofs.OverloadLaws.{one_goes}
use Rattle.delay_bounds.proofs.StepLaws.{after_none}
use Rattle.delay_bounds.proofs.Words.{after_on}

abbrev open_plan : Plan
open_plan = record { entries = (record { mask = 255; interval = 1000 }) ∷ []; base = 0; cycle = 1000; extension = 0 }

abbrev full_flow : List Flow
full_flow = (record { need = 3000000; period = 1000000; offset = 0 }) ∷ []

always : (m d : ℕ) → may_by open_plan 5 m d ≡ true
always m d = open_from _ 5 m d (λ n from below. refl)

starts_at_once : first_fit (may_by open_plan 5) 3000000 0 1000000 ≡ Some 0
starts_at_once =
    let here : 0 ≤ 0 = omega arith in
    let soon : 0 < 0 + 1000000 = omega arith in
    fit_some (mask_since (Some open_plan) 0 None) 5 3000000 0 1000000 0 here soon (λ m from below. absurd (omega (arith, below))) (always 0 3000000)

-- behind the first frame
behind_one : Track
behind_one = record { nexts = 1000000 ∷ []; free = 3000000; starts = 0 ∷ [] }

walks_one : after (may_by open_plan 5) 1000000 1 full_flow 1 (begun (offsets_of full_flow)) ≡ Some behind_one
unfolding after behind_one earliest from_on
walks_one =
    let few : 0 < 1 = omega arith in
    let stepped = one_goes (may_by open_plan 5) 1000000 full_flow 1 (begun (offsets_of full_flow)) (0, 0) 0 refl few starts_at_once in
    ap (after_on (after (may_by open_plan 5) 1000000 1 full_flow 0)) stepped.1

overloaded : IsOverloaded open_plan 5 full_flow
unfolding after behind_one earliest
overloaded = record {
  room = 1;
  first = 0;
  frames = 1;
  cycles = 1;
  old = begun (offsets_of full_flow);
  new = behind_one;
  was = refl;
  is = walks_one;
  alike = refl;
  busy = taken;
  behind = omega arith;
}
  where
    taken : (k : ℕ) (z : Track) (e : ℕ × ℕ) → k < 1 → after (may_by open_plan 5) 1000000 1 full_flow (0 + k) (begun (offsets_of full_flow)) ≡ Some z → earliest z.nexts ≡ Some e → e.0 ≤ z.free
    taken zero z e less there next =
        let same : begun (offsets_of full_flow) ≡ z = after_none (may_by open_plan 5) 1000000 1 full_flow (begun (offsets_of full_flow)) z there in
        let first : ◌≡◌ {A = ℕ × ℕ} (0, 0) e = same_Some (0, 0) e (ap (λ (x : Track). earliest x.nexts) same ∙ next) in
        let at = ap (λ (x : ℕ × ℕ). x.0) first in
        omega (arith, at)
    taken (suc k) z e less there next = absurd (omega (arith, less))
