use Rattle.std.proofs.Common.{Err, ap, ◌∙◌, subst}
use Rattle.std.specs.Prelude.{IfSome}
use Rattle.std.proofs.lemmas.Result.{err_from_is_err_and}
use Rattle.abstract_port.specs.AbstractPort.{new_port}
use Rattle.script.specs.Setup.{Setup}
use Rattle.script.proofs.ReaderLaws.{of_input}
use Rattle.text.specs.Script.{script_of}
use Rattle.drawing.specs.Followed.{first_bands}
use Rattle.drawing.specs.PictureEnd.{first_course}
use Rattle.drawing.specs.Words.{IsDrawnFrom, Place, reading_of, script_left}
use Rattle.drawing.specs.declared.options.DrawOptions.{DrawOptions}
use Rattle.drawing.proofs.EndLaws.{without_memory}
use Rattle.drawing.proofs.draw_run.draw.Goals as goal

pub returns-in_err-lines : goal.returns-in_err-lines
returns-in_err-lines g c = λ read is.
    let p = err_from_is_err_and c.from_residual.result c.from_residual.ensures.1 in
    let s = c.args.settings in
    without_memory s c.args.options _ (λ input. reading_of read (script_of input)) (new_port s.rate s.mtu s.room) (first_course s c.args.options) (first_bands c.args.options) (g.W.Write.contents c.args.writer.now) (p.1 ∙ ap Err p.2)

pub returns-in_err-drawn : goal.returns-in_err-drawn
returns-in_err-drawn g c = λ read is.
    let p = err_from_is_err_and c.from_residual-in_err-drawn.result c.from_residual-in_err-drawn.ensures.1 in
    let s = c.args.settings in
    without_memory s c.args.options _ (λ input. reading_of read (script_of input)) (new_port s.rate s.mtu s.room) (first_course s c.args.options) (first_bands c.args.options) (g.W.Write.contents c.args.writer.now) (p.1 ∙ ap Err p.2)

pub returns : goal.returns
returns g c = λ read is.
    let s = c.args.settings in
    let o = c.args.options in
    let d = c.in_ok-drawn.drawn in
    let left = script_left g.R.Read.remaining c.in_ok-lines.lines in
    let old = g.W.Write.contents c.args.writer.now in
    let new = g.W.Write.contents c.draw_lines.new.writer in
    let P : Place → Type 0 = λ u. IfSome left (λ script. IsDrawnFrom s o (reading_of read script) u.port u.course u.bands c.draw_lines.result old new) in
    let Q : DrawOptions → Type 0 = λ q. IfSome left (λ script. IsDrawnFrom s q (reading_of read script) d.port.port d.course d.bands c.draw_lines.result old new) in
    let R : Setup → Type 0 = λ t. IfSome left (λ script. IsDrawnFrom t d.options (reading_of read script) d.port.port d.course d.bands c.draw_lines.result old new) in
    of_input (g.R.Read.remaining c.args.reader) _
    (λ script. IsDrawnFrom s o (reading_of read script) (new_port s.rate s.mtu s.room) (first_course s o) (first_bands o) c.draw_lines.result old new)
    c.in_ok-lines.ensures.left (subst P c.in_ok-drawn.ensures.place (subst Q c.in_ok-drawn.ensures.options (subst R c.in_ok-drawn.ensures.settings (c.draw_lines.ensures read is))))
