use Rattle.std.proofs.lemmas.Result.{err_from_is_err_and}
use Rattle.text.proofs.Fronts.{sent_more, sent_exit, sent_all}
use Rattle.schedule_check.specs.Words.{class_line, plan_asked, told_line, waits_text}
use Rattle.schedule_check.proofs.ChangeLaws.{line_is}
use Rattle.schedule_check.proofs.OpenLineLaws.{lines_first, lines_more, lines_end}
use Rattle.schedule_check.proofs.window_lines.put_windows.Goals as goal

pub loop-class-init : goal.loop-class-init
loop-class-init g c = λ tell tells. lines_first (class_line c.args.settings.now c.args.change.now (tell c.args.settings.now.rate (plan_asked c.args.change.now))) c.args.count _

pub loop-class-preserved : goal.loop-class-preserved
loop-class-preserved g c = λ tell tells.
    let s = c.args.settings.now in
    let ch = c.args.change.now in
    let class = c.loop-class.class in
    let w = c.window_of-window.result in
    let is = line_is tell s ch class c.args.schedule.now w c.is_led_after-led.result tells c.window_of-window.ensures.cycle c.requires.plan c.window_of-window.ensures.window c.is_led_after-led.ensures in
    let more = lines_more (class_line s ch (tell s.rate (plan_asked ch))) c.args.count class _ c.loop-class-test.true is in
    sent_more _ (told_line c.is_led_after-led.result class w (waits_text s.rate c.args.schedule.now class s.frame w.longest_frame)) _ (c.loop-class.invariant tell tells) more c.in_ok-put_told.ensures

pub returns-in_err-put_told : goal.returns-in_err-put_told
returns-in_err-put_told g c = λ tell tells.
    let p = err_from_is_err_and c.from_residual.result c.from_residual.ensures.1 in
    let s = c.args.settings.now in
    let ch = c.args.change.now in
    let class = c.loop-class.class in
    let w = c.window_of-window.result in
    let is = line_is tell s ch class c.args.schedule.now w c.is_led_after-led.result tells c.window_of-window.ensures.cycle c.requires.plan c.window_of-window.ensures.window c.is_led_after-led.ensures in
    let more = lines_more (class_line s ch (tell s.rate (plan_asked ch))) c.args.count class _ c.loop-class-test.true is in
    sent_exit _ (told_line c.is_led_after-led.result class w (waits_text s.rate c.args.schedule.now class s.frame w.longest_frame)) _ p.1 (c.loop-class.invariant tell tells) more c.in_err-put_told.ensures

pub returns : goal.returns
returns g c = λ tell tells.
    sent_all (c.loop-class.invariant tell tells) (lines_end (class_line c.args.settings.now c.args.change.now (tell c.args.settings.now.rate (plan_asked c.args.change.now))) c.args.count c.loop-class.class c.loop-class-test.false)
