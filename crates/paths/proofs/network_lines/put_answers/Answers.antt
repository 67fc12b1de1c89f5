use Rattle.std.proofs.Common.{◌*◌, false, length, refl}
use Rattle.std.proofs.lemmas.Result.{err_from_is_err_and}
use Rattle.text.proofs.Fronts.{sent_exit, sent_last, sent_more, sent_none}
use Rattle.paths.specs.Outcome.{answer_lines}
use Rattle.paths.specs.PortLines.{cyclic_line, ports_lines}
use Rattle.paths.proofs.network_lines.put_answers.Goals as goal

pub returns-in_err-put_ports : goal.returns-in_err-put_ports
returns-in_err-put_ports g c =
    let p = err_from_is_err_and c.from_residual.result c.from_residual.ensures.1 in
    let k = c.args.known.now in
    let names = c.args.names.now in
    let ports = c.args.ports.now in
    let order = c.args.order.now in
    sent_exit _ (ports_lines k names ports order) _ p.1 (sent_none _ (answer_lines names order ports k)) refl c.in_err-put_ports.ensures

pub returns-in_err-put_cyclic : goal.returns-in_err-put_cyclic
returns-in_err-put_cyclic g c =
    let p = err_from_is_err_and c.from_residual-in_err-put_cyclic.result c.from_residual-in_err-put_cyclic.ensures.1 in
    let k = c.args.known.now in
    let names = c.args.names.now in
    let ports = c.args.ports.now in
    let order = c.args.order.now in
    let s1 = sent_more _ (ports_lines k names ports order) _ (sent_none _ (answer_lines names order ports k)) refl c.in_ok-put_ports.ensures in
    sent_exit _ (cyclic_line k names (8 * length ports)) _ p.1 s1 refl c.in_err-put_cyclic.ensures

pub returns : goal.returns
returns g c =
    let k = c.args.known.now in
    let names = c.args.names.now in
    let ports = c.args.ports.now in
    let order = c.args.order.now in
    let s1 = sent_more _ (ports_lines k names ports order) _ (sent_none _ (answer_lines names order ports k)) refl c.in_ok-put_ports.ensures in
    let s2 = sent_more _ (cyclic_line k names (8 * length ports)) _ s1 refl c.in_ok-put_cyclic.ensures in
    let paths = rw (c.verdicts.ensures, c.hops.ensures.hops) at c.put_paths.ensures in
    sent_last _ _ s2 paths
