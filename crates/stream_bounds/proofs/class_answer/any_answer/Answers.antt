use Rattle.std.proofs.Common.{◌≡◌, map, ◌∙◌}
use Rattle.stream_bounds.specs.Classes.{most_sdu, talker_of}
use Rattle.stream_bounds.specs.Verdicts.{burst_limit}
use Rattle.stream_bounds.proofs.AnswerLaws.{if_any}
use Rattle.stream_bounds.proofs.class_answer.any_answer.Goals as goal

pub returns-clause-answer : goal.returns-clause-answer
returns-clause-answer c =
    let of_calls : c.as_slice.result.now ≡ map (talker_of c.rate.result c.most_sdu-sdu.result) c.args.streams.now = c.as_slice.ensures.value ∙ c.in_ok-talkers.ensures.talkers in
    let talkers : c.as_slice.result.now ≡ map (talker_of c.args.case.now.settings.now.port.rate (most_sdu c.args.case.now.settings.now c.args.case.now.change.now c.args.case.now.class)) c.args.streams.now = rw (c.rate.ensures, c.most_sdu-sdu.ensures.most) at of_calls in
    let limit : c.min-limit.result ≡ burst_limit c.args.case.now.settings.now = cc in
    if_any c.args.case.now.settings.now c.args.case.now.change.now c.args.streams.now c.args.case.now.class c.args.case.now.schedule.now c.as_slice.result.now c.min-limit.result
    c.burst_bounds-told.result c.burst_answer.result c.requires.case.plan talkers limit c.burst_bounds-told.ensures.least c.burst_bounds-told.ensures.why
    c.burst_answer.ensures.known (rw c.room.ensures.value at c.burst_answer.ensures.answer)
