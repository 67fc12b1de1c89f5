use Rattle.std.proofs.Common.{refl}
use Rattle.std.proofs.lemmas.Result.{err_from_is_err_and}
use Rattle.text.proofs.Fronts.{sent_exit, sent_last, sent_more, sent_none}
use Rattle.paths.specs.NextLines.{count_text, line_head, offset_text, stream_line}
use Rattle.paths.proofs.next_lines.put_stream.Goals as goal

pub returns-in_err-put_head : goal.returns-in_err-put_head
returns-in_err-put_head g c =
    let p = err_from_is_err_and c.from_residual.result c.from_residual.ensures.1 in
    let x = c.args.stream.now in
    sent_exit _ (line_head x) _ p.1 (sent_none _ (stream_line x)) refl c.in_err-put_head.ensures

pub returns-in_err-put_offset : goal.returns-in_err-put_offset
returns-in_err-put_offset g c =
    let p = err_from_is_err_and c.from_residual-in_err-put_offset.result c.from_residual-in_err-put_offset.ensures.1 in
    let x = c.args.stream.now in
    let s1 = sent_more _ (line_head x) _ (sent_none _ (stream_line x)) refl c.in_ok-put_head.ensures in
    sent_exit _ (offset_text x.offset) _ p.1 s1 refl c.in_err-put_offset.ensures

pub returns-in_err-put_count : goal.returns-in_err-put_count
returns-in_err-put_count g c =
    let p = err_from_is_err_and c.from_residual-in_err-put_count.result c.from_residual-in_err-put_count.ensures.1 in
    let x = c.args.stream.now in
    let s1 = sent_more _ (line_head x) _ (sent_none _ (stream_line x)) refl c.in_ok-put_head.ensures in
    let s2 = sent_more _ (offset_text x.offset) _ s1 refl c.in_ok-put_offset.ensures in
    sent_exit _ (count_text x) _ p.1 s2 refl c.in_err-put_count.ensures

pub returns : goal.returns
returns g c =
    let x = c.args.stream.now in
    let s1 = sent_more _ (line_head x) _ (sent_none _ (stream_line x)) refl c.in_ok-put_head.ensures in
    let s2 = sent_more _ (offset_text x.offset) _ s1 refl c.in_ok-put_offset.ensures in
    let s3 = sent_more _ (count_text x) _ s2 refl c.in_ok-put_count.ensures in
    sent_last _ _ s3 c.put_parts_of.ensures
