use Rattle.std.proofs.Common.{◌≡◌, subst}
use Rattle.std.specs.Prelude.{IfErr}
use Rattle.wire_time.specs.Moment.{greatest_moment}
use Rattle.script.specs.ScriptEnd.{settings_given}
use Rattle.script.specs.Given.{GivenWords}
use Rattle.drawing.specs.Given.{DrawWords}
use Rattle.drawing.specs.Options.{options_of}
use Rattle.program.proofs.draw_call.draw_script.Goals as goal

pub returns-clause-unread : goal.returns-clause-unread
returns-clause-unread g c =
    subst (λ (words : GivenWords). IfErr (settings_given greatest_moment words) (λ _. c.answer_draw.new.reader ≡ c.args.reader.now)) c.values_of.ensures c.answer_draw.ensures.unread

pub returns-clause-unused : goal.returns-clause-unused
returns-clause-unused g c =
    subst (λ (words : DrawWords). IfErr (options_of words) (λ _. c.answer_draw.new.reader ≡ c.args.reader.now)) c.draws_of.ensures c.answer_draw.ensures.unused
