use Rattle.std.proofs.Common.{codes, refl, slice_get}
use Rattle.std.proofs.lemmas.Result.{err_from_is_err_and}
use Rattle.text.proofs.Fronts.{sent_exit, sent_last, sent_more, sent_none}
use Rattle.paths.specs.PathLines.{named, stop_head, stop_line}
use Rattle.paths.proofs.path_lines.put_stop.Goals as goal

pub returns-in_err-put_stop_head : goal.returns-in_err-put_stop_head
returns-in_err-put_stop_head g c =
    let p = err_from_is_err_and c.from_residual.result c.from_residual.ensures.1 in
    let name = slice_get c.args.names.now c.args.port in
    sent_exit _ (stop_head c.args.id c.args.word.now) _ p.1 (sent_none _ (stop_line name c.args.id c.args.word.now)) refl c.in_err-put_stop_head.ensures

pub returns-in_err-put_named : goal.returns-in_err-put_named
returns-in_err-put_named g c =
    let p = err_from_is_err_and c.from_residual-in_err-put_named.result c.from_residual-in_err-put_named.ensures.1 in
    let name = slice_get c.args.names.now c.args.port in
    let s1 = sent_more _ (stop_head c.args.id c.args.word.now) _ (sent_none _ (stop_line name c.args.id c.args.word.now)) refl c.in_ok-put_stop_head.ensures in
    sent_exit _ (named (codes " at ") name) _ p.1 s1 refl c.in_err-put_named.ensures

pub returns : goal.returns
returns g c =
    let name = slice_get c.args.names.now c.args.port in
    let s1 = sent_more _ (stop_head c.args.id c.args.word.now) _ (sent_none _ (stop_line name c.args.id c.args.word.now)) refl c.in_ok-put_stop_head.ensures in
    let s2 = sent_more _ (named (codes " at ") name) _ s1 refl c.in_ok-put_named.ensures in
    sent_last _ _ s2 c.put.ensures
