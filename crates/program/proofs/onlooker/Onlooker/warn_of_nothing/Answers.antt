use Rattle.std.proofs.Common.{◌∙◌}
use Rattle.program.proofs.onlooker.Onlooker.warn_of_nothing.Goals as goal

pub returns-in-Script-clause-same : goal.returns-in-Script-clause-same
returns-in-Script-clause-same g c = λ none.
    let frames = rw c.in-Script.is at none in
    c.warn_of_early.ensures.same frames ∙ c.warn_of_no_frame.ensures.same frames
