use Rattle.std.proofs.Common.{◌≤◌, ◌&&◌, ◌∙◌, IsTrue, ap, subst, sym, arith}
use Rattle.std.specs.Prelude.{◌↔◌}
use Rattle.wire_time.specs.declared.TheConstants.{MIN_PS_PER_OCTET}
use Rattle.abstract_port.specs.AbstractPort.{AbstractPort}
use Rattle.claims.proofs.FlowArrivals.{Runs, runs_by}
use Rattle.claims.proofs.premises.bounds.is_run_on.Goals as goal

pub returns-then-apart : goal.returns-then-apart
returns-then-apart g c =
    let rate = subst (λ (p : AbstractPort). MIN_PS_PER_OCTET ≤ p.ps) c.requires.first c.now-now.ensures.sound.rate in
    subst (λ b. IsTrue (b && c.is_flow_in-flows.result) ↔ Runs c.args.rate 1500 128 c.args.class c.args.flow c.args.command c.args.events.now) c.if-apart.true
    (runs_by c.args.rate 1500 128 c.args.class c.args.flow c.args.command c.args.events.now _ _ c.is_apart_in-apart.result c.is_flow_in-flows.result rate (omega arith) c.requires.first c.requires.second c.is_apart_in-apart.ensures c.is_flow_in-flows.ensures)

pub returns-else-apart : goal.returns-else-apart
returns-else-apart g c =
    let rate = subst (λ (p : AbstractPort). MIN_PS_PER_OCTET ≤ p.ps) c.requires.first c.now-now.ensures.sound.rate in
    let neither = ap (λ b. b && c.is_flow_in-flows.result) c.if-apart.false ∙ sym c.if-apart.false in
    subst (λ b. IsTrue b ↔ Runs c.args.rate 1500 128 c.args.class c.args.flow c.args.command c.args.events.now) neither
    (runs_by c.args.rate 1500 128 c.args.class c.args.flow c.args.command c.args.events.now _ _ c.is_apart_in-apart.result c.is_flow_in-flows.result rate (omega arith) c.requires.first c.requires.second c.is_apart_in-apart.ensures c.is_flow_in-flows.ensures)
