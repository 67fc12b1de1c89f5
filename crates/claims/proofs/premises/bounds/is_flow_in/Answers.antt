use Rattle.std.proofs.lemmas.Bool.{false≢true}
use Rattle.abstract_port.specs.AbstractPort.{refusal}
use Rattle.claims.proofs.FlowArrivals.{flow_in, refusal-is}
use Rattle.claims.proofs.premises.bounds.is_flow_in.Goals as goal

pub returns-in-Ok : goal.returns-in-Ok
returns-in-Ok g c =
    flow_in c.args.rate c.args.class c.args.flow c.args.command c.args.events.now c.args.port.now.port _ c.in-Ok.change _ c.in-Ok.ensures.answer c.install.ensures.port c.are_next.ensures

pub returns-in-Err : goal.returns-in-Err
returns-in-Err g c =
    let p = c.args.port.now.port in
    (λ yes. absurd (false≢true yes), λ flow. absurd (refusal-is p c.args.command.now (refusal p c.args.command.now) _ c.in-Err.ensures.answer flow.0))
