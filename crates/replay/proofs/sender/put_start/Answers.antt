use Rattle.std.proofs.Common.{◌≡◌, Err, refl, ap, ◌∙◌}
use Rattle.std.proofs.lemmas.Result.{err_from_is_err_and}
use Rattle.replay.specs.declared.faults.Stop.TheVariants as Stops
use Rattle.replay.specs.Sends.{always, never, of_error, report_and_record, report_short}
use Rattle.replay.proofs.sender.put_start.Goals as goal

pub returns-in_err-put_noted_start-clause-out : goal.returns-in_err-put_noted_start-clause-out
returns-in_err-put_noted_start-clause-out g c =
    let p = err_from_is_err_and c.from_residual.result c.from_residual.ensures.1 in
    report_short c.from_residual.result _ _ p.1 c.in_err-put_noted_start.ensures.text

pub returns-clause-out : goal.returns-clause-out
returns-clause-out g c = report_and_record c.put_record.result _ c.in_ok-put_noted_start.ensures.text c.put_record.ensures.out

pub returns-clause-store : goal.returns-clause-store
returns-clause-store g c = c.put_record.ensures.store

pub returns-in_err-put_noted_start-clause-fault : goal.returns-in_err-put_noted_start-clause-fault
returns-in_err-put_noted_start-clause-fault g c =
    let p = err_from_is_err_and c.from_residual.result c.from_residual.ensures.1 in
    of_error c.from_residual.result Stops.Write (λ fault. fault ≡ Stops.Write) (p.1 ∙ ap Err p.2) refl

pub returns-clause-port : goal.returns-clause-port
returns-clause-port g c = c.put_record.ensures.port

pub returns-clause-seen : goal.returns-clause-seen
returns-clause-seen g c = c.put_record.ensures.seen ∙ c.in_ok-put_noted_start.ensures.seen

pub returns-clause-fault : goal.returns-clause-fault
returns-clause-fault g c = c.put_record.ensures.fault

pub returns-in_err-put_noted_start-clause-port : goal.returns-in_err-put_noted_start-clause-port
returns-in_err-put_noted_start-clause-port g c = refl

pub returns-in_err-put_noted_start-clause-seen : goal.returns-in_err-put_noted_start-clause-seen
returns-in_err-put_noted_start-clause-seen g c = c.in_err-put_noted_start.ensures.seen

pub returns-in_err-put_noted_start-clause-store : goal.returns-in_err-put_noted_start-clause-store
returns-in_err-put_noted_start-clause-store g c = never _ (err_from_is_err_and c.from_residual.result c.from_residual.ensures.1).1

pub put_record-requires : goal.put_record-requires
put_record-requires g c = (search, (c.requires.class, (c.requires.waits, c.requires.early)))

pub returns-in_err-put_noted_start-clause-stamping : goal.returns-in_err-put_noted_start-clause-stamping
returns-in_err-put_noted_start-clause-stamping g c = refl

pub returns-in_err-put_noted_start-clause-last : goal.returns-in_err-put_noted_start-clause-last
returns-in_err-put_noted_start-clause-last g c = never _ (err_from_is_err_and c.from_residual.result c.from_residual.ensures.1).1

pub returns-clause-stamping : goal.returns-clause-stamping
returns-clause-stamping g c = c.put_record.ensures.stamping

pub returns-clause-last : goal.returns-clause-last
returns-clause-last g c = always c.put_record.result c.put_record.ensures.last
