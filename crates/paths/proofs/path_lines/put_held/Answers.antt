use Rattle.std.proofs.Common.{refl, slice_get}
use Rattle.std.proofs.lemmas.Result.{err_from_is_err_and}
use Rattle.text.proofs.Fronts.{sent_exit, sent_last, sent_more, sent_none}
use Rattle.paths.specs.PathLines.{held_lines, hop_line}
use Rattle.paths.proofs.path_lines.put_held.Goals as goal

pub returns-in_err-put_hop : goal.returns-in_err-put_hop
returns-in_err-put_hop g c =
    let p = err_from_is_err_and c.from_residual.result c.from_residual.ensures.1 in
    let ports = c.args.ports.now in
    let verdicts = c.args.verdicts.now in
    let names = c.args.names.now in
    let h = c.args.hop.now in
    sent_exit _ (hop_line (slice_get names h.port) h.stream.first_id c.args.held) _ p.1 (sent_none _ (held_lines ports verdicts names c.args.last h c.args.held)) refl c.in_err-put_hop.ensures

pub returns : goal.returns
returns g c =
    let ports = c.args.ports.now in
    let verdicts = c.args.verdicts.now in
    let names = c.args.names.now in
    let h = c.args.hop.now in
    let s1 = sent_more _ (hop_line (slice_get names h.port) h.stream.first_id c.args.held) _ (sent_none _ (held_lines ports verdicts names c.args.last h c.args.held)) refl c.in_ok-put_hop.ensures in
    sent_last _ _ s1 c.put_last.ensures
