use Rattle.std.proofs.Common.{codes, refl}
use Rattle.std.proofs.lemmas.Result.{err_from_is_err_and}
use Rattle.text.proofs.Fronts.{sent_exit, sent_last, sent_more, sent_none}
use Rattle.paths.specs.PortLines.{circles_line, cyclic_names}
use Rattle.paths.proofs.port_lines.put_circles.Goals as goal

pub returns-in_err-put : goal.returns-in_err-put
returns-in_err-put g c =
    let p = err_from_is_err_and c.from_residual.result c.from_residual.ensures.1 in
    let k = c.args.known.now in
    let names = c.args.names.now in
    sent_exit _ (codes "cyclic") _ p.1 (sent_none _ (circles_line k names c.args.count)) refl c.in_err-put.ensures

pub returns-in_err-put_names : goal.returns-in_err-put_names
returns-in_err-put_names g c =
    let p = err_from_is_err_and c.from_residual-in_err-put_names.result c.from_residual-in_err-put_names.ensures.1 in
    let k = c.args.known.now in
    let names = c.args.names.now in
    let s1 = sent_more _ (codes "cyclic") _ (sent_none _ (circles_line k names c.args.count)) refl c.in_ok-put.ensures in
    sent_exit _ (cyclic_names k names c.args.count 0) _ p.1 s1 refl c.in_err-put_names.ensures

pub returns : goal.returns
returns g c =
    let k = c.args.known.now in
    let names = c.args.names.now in
    let s1 = sent_more _ (codes "cyclic") _ (sent_none _ (circles_line k names c.args.count)) refl c.in_ok-put.ensures in
    let s2 = sent_more _ (cyclic_names k names c.args.count 0) _ s1 refl c.in_ok-put_names.ensures in
    sent_last _ _ s2 c.put-2.ensures
