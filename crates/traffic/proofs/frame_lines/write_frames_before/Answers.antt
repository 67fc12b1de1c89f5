use Rattle.std.proofs.Common.{refl, sym, ◌∙◌}
use Rattle.std.proofs.lemmas.Result.{err_from_is_err_and}
use Rattle.text.proofs.Fronts.{sent_all, sent_exit, sent_more, sent_none}
use Rattle.traffic.proofs.LineLaws.{next_line, no_lines}
use Rattle.traffic.proofs.frame_lines.write_frames_before.Goals as goal

pub loop-coming-init : goal.loop-coming-init
loop-coming-init g c = record { tournament = c.requires.tournament; sent = sent_none _ _; others = refl }

pub loop-coming-preserved : goal.loop-coming-preserved
loop-coming-preserved g c = record {
  tournament = c.in-Some.ensures.tournament;
  sent = sent_more _ _ _ c.loop-coming.invariant.sent (next_line _ _ _ _ c.in-Some.ensures.before) c.in_ok-put_coming.ensures;
  others = c.loop-coming.invariant.others ∙ c.in-Some.ensures.others;
}

pub returns-in_err-put_coming-clause-lines : goal.returns-in_err-put_coming-clause-lines
returns-in_err-put_coming-clause-lines g c =
    let p = err_from_is_err_and c.from_residual.result c.from_residual.ensures.1 in
    sent_exit _ _ _ p.1 c.loop-coming.invariant.sent (next_line _ _ _ _ c.in-Some.ensures.before) c.in_err-put_coming.ensures

pub returns-clause-lines : goal.returns-clause-lines
returns-clause-lines g c = sent_all c.loop-coming.invariant.sent (no_lines _ _ c.in_default.ensures.before)

pub returns-clause-left : goal.returns-clause-left
returns-clause-left g c = sym (c.loop-coming.invariant.others ∙ c.in_default.ensures.others)
