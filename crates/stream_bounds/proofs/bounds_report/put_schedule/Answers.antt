use Rattle.stream_bounds.proofs.AnswerLaws.{told_by}
use Rattle.stream_bounds.proofs.bounds_report.put_schedule.Goals as goal

pub returns-after-wants_hints : goal.returns-after-wants_hints
returns-after-wants_hints g c =
    told_by c.args.settings.now c.args.change.now c.args.streams.now c.args.number c.in-Ok.answers _ _ _ _ c.told.ensures c.in-Ok.ensures.answers c.put_answers.ensures.lines c.put_answers.ensures.answered
