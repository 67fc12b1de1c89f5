use Rattle.std.proofs.Common.{Result, Ok, Err, refl, sym, ◌∙◌}
use Rattle.std.specs.Prelude.{IfErr}
use Rattle.text.specs.Buffered.{writer_contents}
use Rattle.drawing.proofs.EndLaws.{good_ending, picture_ending}
use Rattle.drawing.proofs.draw_job.answer_draw.Goals as goal

pub returns-in-Ok-options_given-clause-ending : goal.returns-in-Ok-options_given-clause-ending
returns-in-Ok-options_given-clause-ending g c =
    let ending = picture_ending c.in-Ok.settings c.in-Ok-options_given.options c.draw-run.result (writer_contents g.W.Write.contents c.args.answers) (writer_contents g.W.Write.contents c.draw-run.new.writer) (g.R.Read.remaining c.args.reader.now) c.end_run.result.0 (g.W.Write.contents c.end_run.result.1) (g.E.Write.contents c.args.errors.now) (g.E.Write.contents c.end_run.new.errors) c.draw-run.ensures c.end_run.ensures in
    good_ending _ _ c.in-Ok.settings c.in-Ok-options_given.options _ _ _ _ _ _ (sym c.in-Ok.is ∙ c.settings_given.ensures) (sym c.in-Ok-options_given.is ∙ c.options_given.ensures) ending

-- what holds anyway holds where there is a fault
of_any : {T E P : Type 0} (r : Result T E) → P → IfErr r (λ e. P)
of_any (Ok x) p = tt
of_any (Err e) p = p

pub returns-in-Err-clause-unused : goal.returns-in-Err-clause-unused
returns-in-Err-clause-unused g c = of_any _ refl
