use Rattle.std.proofs.Common.{refl}
use Rattle.std.proofs.lemmas.Result.{err_from_is_err_and}
use Rattle.text.proofs.Fronts.{sent_exit, sent_last, sent_more, sent_none}
use Rattle.paths.specs.NextLines.{jitter_text, line_end, shortest_text, tag_text}
use Rattle.paths.proofs.next_lines.put_parts_of.Goals as goal

pub returns-in_err-put_tag : goal.returns-in_err-put_tag
returns-in_err-put_tag g c =
    let p = err_from_is_err_and c.from_residual.result c.from_residual.ensures.1 in
    let x = c.args.stream.now in
    sent_exit _ (tag_text x.tagged) _ p.1 (sent_none _ (line_end x)) refl c.in_err-put_tag.ensures

pub returns-in_err-put_shortest : goal.returns-in_err-put_shortest
returns-in_err-put_shortest g c =
    let p = err_from_is_err_and c.from_residual-in_err-put_shortest.result c.from_residual-in_err-put_shortest.ensures.1 in
    let x = c.args.stream.now in
    let s1 = sent_more _ (tag_text x.tagged) _ (sent_none _ (line_end x)) refl c.in_ok-put_tag.ensures in
    sent_exit _ (shortest_text x) _ p.1 s1 refl c.in_err-put_shortest.ensures

pub returns-in_err-put_jitter : goal.returns-in_err-put_jitter
returns-in_err-put_jitter g c =
    let p = err_from_is_err_and c.from_residual-in_err-put_jitter.result c.from_residual-in_err-put_jitter.ensures.1 in
    let x = c.args.stream.now in
    let s1 = sent_more _ (tag_text x.tagged) _ (sent_none _ (line_end x)) refl c.in_ok-put_tag.ensures in
    let s2 = sent_more _ (shortest_text x) _ s1 refl c.in_ok-put_shortest.ensures in
    sent_exit _ (jitter_text x.jitter) _ p.1 s2 refl c.in_err-put_jitter.ensures

pub returns : goal.returns
returns g c =
    let x = c.args.stream.now in
    let s1 = sent_more _ (tag_text x.tagged) _ (sent_none _ (line_end x)) refl c.in_ok-put_tag.ensures in
    let s2 = sent_more _ (shortest_text x) _ s1 refl c.in_ok-put_shortest.ensures in
    let s3 = sent_more _ (jitter_text x.jitter) _ s2 refl c.in_ok-put_jitter.ensures in
    sent_last _ _ s3 c.put.ensures
