-- Where a list stands at its change moment.
use Rattle.std.proofs.Common.{◌≡◌, ◌<◌, ℕ, ◌+◌, ◌-◌, max, false, Option, Some, None, refl, sym, subst, arith}
use Rattle.std.proofs.lemmas.Bool.{lt-leb}
use Rattle.std.specs.Option.{ForSome}
use Rattle.jumping.specs.CommandWords.{Plan, IsSchedule, boundary_from, in_ps, Accepted, Position, IsUsable, Stands, StandsUnder, hold_for}
use Rattle.gates.specs.Gate.{has_come}
use Rattle.gates.proofs.PhaseLaws.{boundary_above}
use Rattle.jumping.specs.Position.{Shows}

-- a list at its change moment stands so whatever change is pending, since nothing is held before its first cycle is over
pub first_stands : (a : Accepted) (pending : Option Accepted) (position : Option Position) → IsUsable a → Stands (Some a) None a.change position → Stands (Some a) pending a.change position
first_stands a pending position usable stands = by a.plan usable.planned position stands pending
  where
    by : (p : Option Plan) → ForSome p IsSchedule → (position : Option Position) → StandsUnder p a.change None a.change position → (pending : Option Accepted) → StandsUnder p a.change pending a.change position
    by None ok position stands pending = stands
    by (Some plan) ok None stands pending = absurd stands
    by (Some plan) ok (Some position) p None = p
    by (Some plan) ok (Some position) p (Some next) = record {
      cycles = p.cycles;
      held_at = (_, refl);
      last_is = p.last_is;
      length_is = p.length_is;
      started_is = p.started_is;
      next_is = p.next_is;
      begun = p.begun;
      showing = subst (λ b. Shows b plan a.change position) (sym off) p.showing;
    }
      where
        far : ℕ
        far = max (a.change + 1) (max next.lead (next.change - in_ps plan.extension))

        after : a.change < boundary_from a.change (in_ps plan.cycle) far
        after =
            let cycle = ((ok plan refl).plan_is).cycle in
            let above = boundary_above a.change (in_ps plan.cycle) far (omega arith) in
            omega arith

        off : has_come (hold_for (Some plan) a.change (Some next)) position.timer.started ≡ false
        off = let begun = p.begun in let ahead = after in lt-leb (boundary_from a.change (in_ps plan.cycle) far) position.timer.started (omega arith)
