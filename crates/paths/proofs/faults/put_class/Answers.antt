use Rattle.std.proofs.Common.{codes, refl}
use Rattle.std.proofs.lemmas.Result.{err_from_is_err_and}
use Rattle.text.proofs.Fronts.{sent_exit, sent_last, sent_more, sent_none}
use Rattle.paths.specs.Faults.{class_found, port_text}
use Rattle.paths.proofs.faults.put_class.Goals as goal

pub returns-in_err-put : goal.returns-in_err-put
returns-in_err-put g c =
    let p = err_from_is_err_and c.from_residual.result c.from_residual.ensures.1 in
    sent_exit _ (codes "taprio_port: paths: ") _ p.1 (sent_none _ (class_found c.args.name c.args.class c.args.found.now)) refl c.in_err-put.ensures

pub returns-in_err-put_port : goal.returns-in_err-put_port
returns-in_err-put_port g c =
    let p = err_from_is_err_and c.from_residual-in_err-put_port.result c.from_residual-in_err-put_port.ensures.1 in
    let s1 = sent_more _ (codes "taprio_port: paths: ") _ (sent_none _ (class_found c.args.name c.args.class c.args.found.now)) refl c.in_ok-put.ensures in
    sent_exit _ (port_text c.args.name) _ p.1 s1 refl c.in_err-put_port.ensures

pub returns : goal.returns
returns g c =
    let s1 = sent_more _ (codes "taprio_port: paths: ") _ (sent_none _ (class_found c.args.name c.args.class c.args.found.now)) refl c.in_ok-put.ensures in
    let s2 = sent_more _ (port_text c.args.name) _ s1 refl c.in_ok-put_port.ensures in
    sent_last _ _ s2 c.put_class_end.ensures
