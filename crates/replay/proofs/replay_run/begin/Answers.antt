use Rattle.std.proofs.Common.{Err, refl, ap, ◌∙◌}
use Rattle.std.proofs.lemmas.Result.{IfOk-from_err, err_from_is_err_and}
use Rattle.replay.specs.Words.{PortState, stamping_at}
use Rattle.replay.specs.declared.faults.Stop.TheVariants as Stops
use Rattle.replay.specs.Sends.{both_none, both_stop, capture_short, capture_whole}
use Rattle.replay.proofs.replay_run.begin.Goals as goal

pub returns-in_err-clone-clause-out : goal.returns-in_err-clone-clause-out
returns-in_err-clone-clause-out g c = λ report.
    let r = c.from_residual.result in
    let p = err_from_is_err_and r c.from_residual.ensures.1 in
    both_stop r p.1 (both_none _ _)

pub returns-in_default-clause-out : goal.returns-in_default-clause-out
returns-in_default-clause-out g c = λ report. both_stop (Err Stops.Memory) refl (both_none _ _)

pub returns-in_err-store-clause-out : goal.returns-in_err-store-clause-out
returns-in_err-store-clause-out g c = λ report.
    let r = c.from_residual-in_err-store.result in
    let p = err_from_is_err_and r c.from_residual-in_err-store.ensures.1 in
    both_stop r p.1 (both_none _ _)

pub returns-in-Ok-begin-clause-out : goal.returns-in-Ok-begin-clause-out
returns-in-Ok-begin-clause-out g c = λ report. capture_whole _ report c.in-Ok-begin.ensures.octets

pub returns-in-Err-clause-out : goal.returns-in-Err-clause-out
returns-in-Err-clause-out g c = λ report. capture_short (Err Stops.Write) report refl c.in-Err.ensures.octets

pub returns-in_err-clone-clause-port : goal.returns-in_err-clone-clause-port
returns-in_err-clone-clause-port g c = IfOk-from_err c.from_residual.result _ c.from_residual.ensures.0

pub returns-in_err-clone-clause-store : goal.returns-in_err-clone-clause-store
returns-in_err-clone-clause-store g c = IfOk-from_err c.from_residual.result _ c.from_residual.ensures.0

pub returns-in_err-clone-clause-seen : goal.returns-in_err-clone-clause-seen
returns-in_err-clone-clause-seen g c = IfOk-from_err c.from_residual.result _ c.from_residual.ensures.0

pub returns-in_err-clone-clause-sound : goal.returns-in_err-clone-clause-sound
returns-in_err-clone-clause-sound g c = IfOk-from_err c.from_residual.result _ c.from_residual.ensures.0

pub returns-in_err-store-clause-port : goal.returns-in_err-store-clause-port
returns-in_err-store-clause-port g c = IfOk-from_err c.from_residual-in_err-store.result _ c.from_residual-in_err-store.ensures.0

pub returns-in_err-store-clause-store : goal.returns-in_err-store-clause-store
returns-in_err-store-clause-store g c = IfOk-from_err c.from_residual-in_err-store.result _ c.from_residual-in_err-store.ensures.0

pub returns-in_err-store-clause-seen : goal.returns-in_err-store-clause-seen
returns-in_err-store-clause-seen g c = IfOk-from_err c.from_residual-in_err-store.result _ c.from_residual-in_err-store.ensures.0

pub returns-in_err-store-clause-sound : goal.returns-in_err-store-clause-sound
returns-in_err-store-clause-sound g c = IfOk-from_err c.from_residual-in_err-store.result _ c.from_residual-in_err-store.ensures.0

pub returns-in-Ok-begin-clause-port : goal.returns-in-Ok-begin-clause-port
returns-in-Ok-begin-clause-port g c = rw (c.rate-rate.ensures, c.mtu-mtu.ensures.value, c.room-room.ensures.value) at (ap (λ (x : PortState). x.port) c.in-Ok.ensures.ok)

pub returns-in-Ok-begin-clause-store : goal.returns-in-Ok-begin-clause-store
returns-in-Ok-begin-clause-store g c = rw c.room-room.ensures.value at c.in_ok-store.ensures

pub returns-in-Ok-begin-clause-seen : goal.returns-in-Ok-begin-clause-seen
returns-in-Ok-begin-clause-seen g c = refl

pub returns-in-Ok-begin-clause-sound : goal.returns-in-Ok-begin-clause-sound
returns-in-Ok-begin-clause-sound g c = c.now-now.ensures.sound

pub returns-in_default-clause-port : goal.returns-in_default-clause-port
returns-in_default-clause-port g c = tt

pub returns-in_default-clause-store : goal.returns-in_default-clause-store
returns-in_default-clause-store g c = tt

pub returns-in_default-clause-seen : goal.returns-in_default-clause-seen
returns-in_default-clause-seen g c = tt

pub returns-in_default-clause-sound : goal.returns-in_default-clause-sound
returns-in_default-clause-sound g c = tt

pub returns-in-Err-clause-port : goal.returns-in-Err-clause-port
returns-in-Err-clause-port g c = tt

pub returns-in-Err-clause-store : goal.returns-in-Err-clause-store
returns-in-Err-clause-store g c = tt

pub returns-in-Err-clause-seen : goal.returns-in-Err-clause-seen
returns-in-Err-clause-seen g c = tt

pub returns-in-Err-clause-sound : goal.returns-in-Err-clause-sound
returns-in-Err-clause-sound g c = tt

pub returns-in_err-clone-clause-stamping : goal.returns-in_err-clone-clause-stamping
returns-in_err-clone-clause-stamping g c = IfOk-from_err c.from_residual.result _ c.from_residual.ensures.0

pub returns-in_err-store-clause-stamping : goal.returns-in_err-store-clause-stamping
returns-in_err-store-clause-stamping g c = IfOk-from_err c.from_residual-in_err-store.result _ c.from_residual-in_err-store.ensures.0

pub returns-in_default-clause-stamping : goal.returns-in_default-clause-stamping
returns-in_default-clause-stamping g c = tt

pub returns-in-Err-clause-stamping : goal.returns-in-Err-clause-stamping
returns-in-Err-clause-stamping g c = tt

pub returns-in-Ok-begin-clause-stamping : goal.returns-in-Ok-begin-clause-stamping
returns-in-Ok-begin-clause-stamping g c = c.stamping_at-stamping.ensures ∙ ap (λ ps. stamping_at c.args.stamp ps) c.rate-rate.ensures
