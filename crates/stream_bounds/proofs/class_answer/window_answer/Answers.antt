use Rattle.std.proofs.Common.{◌≡◌, map, ◌∙◌}
use Rattle.stream_bounds.specs.Classes.{jittered_of, most_sdu}
use Rattle.stream_bounds.proofs.AnswerLaws.{if_windows}
use Rattle.stream_bounds.proofs.class_answer.window_answer.Goals as goal

pub returns-clause-answer : goal.returns-clause-answer
returns-clause-answer c =
    let of_calls : c.as_slice.result.now ≡ map (jittered_of c.rate.result c.most_sdu-sdu.result) c.args.streams.now = c.as_slice.ensures.value ∙ c.in_ok-flows.ensures.flows in
    let flows : c.as_slice.result.now ≡ map (jittered_of c.args.case.now.settings.now.port.rate (most_sdu c.args.case.now.settings.now c.args.case.now.change.now c.args.case.now.class)) c.args.streams.now = rw (c.rate.ensures, c.most_sdu-sdu.ensures.most) at of_calls in
    if_windows c.args.case.now.settings.now c.args.case.now.change.now c.args.streams.now c.args.case.now.class c.args.case.now.schedule.now c.as_slice.result.now
    c.window_bounds-told.result c.answer_with.result c.requires.case.plan flows c.window_bounds-told.ensures.least c.window_bounds-told.ensures.why
    c.answer_with.ensures.known c.answer_with.ensures.answer
