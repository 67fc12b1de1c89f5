use Rattle.std.proofs.Common.{codes, refl, slice_get}
use Rattle.std.proofs.lemmas.Result.{err_from_is_err_and}
use Rattle.text.proofs.Fronts.{sent_exit, sent_last, sent_more, sent_none}
use Rattle.paths.specs.PathLines.{hop_head, hop_line, named}
use Rattle.paths.proofs.path_lines.put_hop.Goals as goal

pub returns-in_err-put_hop_head : goal.returns-in_err-put_hop_head
returns-in_err-put_hop_head g c =
    let p = err_from_is_err_and c.from_residual.result c.from_residual.ensures.1 in
    let name = slice_get c.args.names.now c.args.port in
    sent_exit _ (hop_head c.args.id) _ p.1 (sent_none _ (hop_line name c.args.id c.args.held)) refl c.in_err-put_hop_head.ensures

pub returns-in_err-put_named : goal.returns-in_err-put_named
returns-in_err-put_named g c =
    let p = err_from_is_err_and c.from_residual-in_err-put_named.result c.from_residual-in_err-put_named.ensures.1 in
    let name = slice_get c.args.names.now c.args.port in
    let s1 = sent_more _ (hop_head c.args.id) _ (sent_none _ (hop_line name c.args.id c.args.held)) refl c.in_ok-put_hop_head.ensures in
    sent_exit _ (named (codes " ") name) _ p.1 s1 refl c.in_err-put_named.ensures

pub returns : goal.returns
returns g c =
    let name = slice_get c.args.names.now c.args.port in
    let s1 = sent_more _ (hop_head c.args.id) _ (sent_none _ (hop_line name c.args.id c.args.held)) refl c.in_ok-put_hop_head.ensures in
    let s2 = sent_more _ (named (codes " ") name) _ s1 refl c.in_ok-put_named.ensures in
    sent_last _ _ s2 c.put_hop_bounds.ensures
