use Rattle.std.proofs.Common.{◌≡◌, Result, refl, sym, ap, ◌∙◌, subst}
use Rattle.drawing.specs.Words.{Command, TcFault, seen_by, settled, tc_request}
use Rattle.drawing.specs.Followed.{BandsBy}
use Rattle.script.specs.Responses.{responses_to}
use Rattle.script.proofs.StartsLaws.{settled-sound}
use Rattle.drawing.proofs.draw_run.take_tc.Goals as goal

pub returns-in-Err-clause-course : goal.returns-in-Err-clause-course
returns-in-Err-clause-course g c = λ read is.
    let P : Result Command TcFault → Type 0 = λ k. c.args.course.now ≡ seen_by (tc_request k) c.args.port.now.port c.args.course.now in
    subst P (sym c.in-Err.is ∙ c.read_tc_into.ensures read is) refl

pub returns-in-Err-clause-port : goal.returns-in-Err-clause-port
returns-in-Err-clause-port g c = λ read is.
    let P : Result Command TcFault → Type 0 = λ k. c.args.port.now.port ≡ settled (responses_to (tc_request k) c.args.port.now.port).1 in
    subst P (sym c.in-Err.is ∙ c.read_tc_into.ensures read is) (sym (settled-sound c.args.port.now.port c.now-now.ensures.sound))

pub returns-in-Err-take_command-clause-course : goal.returns-in-Err-take_command-clause-course
returns-in-Err-take_command-clause-course g c = λ read is.
    let P : Result Command TcFault → Type 0 = λ k. c.take_command.new.course ≡ seen_by (tc_request k) c.args.port.now.port c.args.course.now in
    subst P (sym c.in-Ok.is ∙ c.read_tc_into.ensures read is) c.take_command.ensures.course

pub returns-in-Err-take_command-clause-port : goal.returns-in-Err-take_command-clause-port
returns-in-Err-take_command-clause-port g c = λ read is.
    let t = c.take_command.ensures in
    let P : Result Command TcFault → Type 0 = λ k. c.take_command.new.port.port ≡ settled (responses_to (tc_request k) c.args.port.now.port).1 in
    subst P (sym c.in-Ok.is ∙ c.read_tc_into.ensures read is) (sym (settled-sound c.take_command.new.port.port t.sound) ∙ ap settled t.port)

pub returns-in_default-clause-course : goal.returns-in_default-clause-course
returns-in_default-clause-course g c = λ read is.
    let P : Result Command TcFault → Type 0 = λ k. c.take_command.new.course ≡ seen_by (tc_request k) c.args.port.now.port c.args.course.now in
    subst P (sym c.in-Ok.is ∙ c.read_tc_into.ensures read is) c.take_command.ensures.course

pub returns-in_default-clause-port : goal.returns-in_default-clause-port
returns-in_default-clause-port g c = λ read is.
    let t = c.take_command.ensures in
    let P : Result Command TcFault → Type 0 = λ k. c.take_command.new.port.port ≡ settled (responses_to (tc_request k) c.args.port.now.port).1 in
    subst P (sym c.in-Ok.is ∙ c.read_tc_into.ensures read is) (sym (settled-sound c.take_command.new.port.port t.sound) ∙ ap settled t.port)

pub returns-in-Err-clause-bands : goal.returns-in-Err-clause-bands
returns-in-Err-clause-bands g c = λ read is o.
    let P : Result Command TcFault → Type 0 = λ k. BandsBy c.args.settings o (tc_request k) c.args.port.now.port c.args.course.now c.args.bands.now c.args.bands.now in
    subst P (sym c.in-Err.is ∙ c.read_tc_into.ensures read is) refl

pub returns-in-Err-take_command-clause-bands : goal.returns-in-Err-take_command-clause-bands
returns-in-Err-take_command-clause-bands g c = λ read is o.
    let P : Result Command TcFault → Type 0 = λ k. BandsBy c.args.settings o (tc_request k) c.args.port.now.port c.args.course.now c.args.bands.now c.take_command.new.bands in
    subst P (sym c.in-Ok.is ∙ c.read_tc_into.ensures read is) c.take_command.ensures.bands

pub returns-in_default-clause-bands : goal.returns-in_default-clause-bands
returns-in_default-clause-bands g c = λ read is o.
    let P : Result Command TcFault → Type 0 = λ k. BandsBy c.args.settings o (tc_request k) c.args.port.now.port c.args.course.now c.args.bands.now c.take_command.new.bands in
    subst P (sym c.in-Ok.is ∙ c.read_tc_into.ensures read is) c.take_command.ensures.bands
