use Rattle.script.proofs.FrontLaws.{clock_line_front, frame_line_front}
use Rattle.script.proofs.plain.front_event.Goals as goal

pub returns-in-Some : goal.returns-in-Some
returns-in-Some c = frame_line_front _ _ _ _ c.in-Some.ensures c.in_ok-frame.ensures

pub returns : goal.returns
returns c = clock_line_front _ _ _ _ c.in_ok-behind_clock.ensures c.in_ok-moment.ensures
