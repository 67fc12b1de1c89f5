use Rattle.std.proofs.Common.{◌++◌, codes, refl}
use Rattle.std.proofs.lemmas.Result.{err_from_is_err_and}
use Rattle.text.proofs.Fronts.{sent_none, sent_more, sent_exit, sent_last}
use Rattle.stream_bounds.specs.BoundLines.{flag_texts, flagged_line}
use Rattle.stream_bounds.proofs.class_lines.put_flagged.Goals as goal

pub returns-in_err-put : goal.returns-in_err-put
returns-in_err-put g c =
    let p = err_from_is_err_and c.from_residual.result c.from_residual.ensures.1 in
    let rest = flag_texts c.args.flags.now 8 0 ++ codes "\n" in
    sent_exit _ c.args.words.now rest p.1 (sent_none _ (flagged_line c.args.words.now c.args.flags.now)) refl c.in_err-put.ensures

pub returns-in_err-put_flags : goal.returns-in_err-put_flags
returns-in_err-put_flags g c =
    let p = err_from_is_err_and c.from_residual-in_err-put_flags.result c.from_residual-in_err-put_flags.ensures.1 in
    let rest = flag_texts c.args.flags.now 8 0 ++ codes "\n" in
    let first = sent_more _ c.args.words.now rest (sent_none _ (flagged_line c.args.words.now c.args.flags.now)) refl c.in_ok-put.ensures in
    sent_exit _ (flag_texts c.args.flags.now 8 0) (codes "\n") p.1 first refl c.in_err-put_flags.ensures

pub returns : goal.returns
returns g c =
    let rest = flag_texts c.args.flags.now 8 0 ++ codes "\n" in
    let first = sent_more _ c.args.words.now rest (sent_none _ (flagged_line c.args.words.now c.args.flags.now)) refl c.in_ok-put.ensures in
    let second = sent_more _ (flag_texts c.args.flags.now 8 0) (codes "\n") first refl c.in_ok-put_flags.ensures in
    sent_last _ _ second c.put-2.ensures
