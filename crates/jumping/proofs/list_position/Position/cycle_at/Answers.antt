use Rattle.std.proofs.Common.{◌≡◌, ℕ, ◌+◌, ◌-◌, ◌*◌, ◌/◌, sym, ap, subst, arith}
use Rattle.std.proofs.Math.Nat.{mul-add}
use Rattle.gates.specs.Cycle.{Cycle}
use Rattle.gates.specs.Gate.{in_ps}
use Rattle.jumping.specs.Position.{IsPlaced}
use Rattle.jumping.proofs.list_position.Position.cycle_at.Goals as goal

pub returns-clause-placed : goal.returns-clause-placed
returns-clause-placed c = λ start n p.
    let cycle : ℕ = in_ps c.args.schedule.now.cycle in
    let timer : Cycle = c.args.self.now.timer in
    let more : ℕ = (c.args.t - timer.started) / timer.length in
    let jumped = ap (λ (k : Cycle). k.started) c.jump_to.ensures.cycle in
    let length = ap (λ l. l * more) p.length_is in
    let sum = mul-add cycle p.cycles more in
    let started_is = p.started_is in
    let at : c.jump_to.new.self.started ≡ start + cycle * (p.cycles + more) = omega (arith, jumped, length, sum, started_is) in
    subst (λ m. IsPlaced c.args.schedule.now start c.args.held_from m c.begin_cycle.result) (sym (ap (λ (k : Cycle). k.started) c.begin_cycle.ensures.timer))
    (c.begin_cycle.ensures.placed start (p.cycles + more) at p.held_at)
