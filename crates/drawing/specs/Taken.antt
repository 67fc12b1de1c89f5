-- What a request draws, and the run up to its last moment.
use Rattle.std.specs.Prelude.{ℕ, min, max, Option, Some, None}
use Rattle.abstract_port.specs.AbstractPort.{AbstractPort, settled}
use Rattle.wire_time.specs.Moment.{greatest_moment}
use Rattle.abstract_port.specs.Answers.{answers_to}
use Rattle.abstract_port.specs.declared.Event.TheVariants.{Clock}
use Rattle.script.specs.Requests.{Request, Asks, NoCommand}
use Rattle.drawing.specs.Course.{Course, seen_at}

-- what a request draws; a line that begins with tc and is no command draws nothing
abbrev pub seen_by : Request → AbstractPort → Course → Course
seen_by (Asks event) p x = seen_at event p x
seen_by (NoCommand fault) p x = x

-- the run goes on to a moment, where one is given: the port then, and what is drawn
abbrev pub port_on : Option ℕ → AbstractPort → AbstractPort
port_on None p = p
port_on (Some until) p = settled (answers_to (Clock until) p).1

abbrev pub course_on : Option ℕ → AbstractPort → Course → Course
course_on None p x = x
course_on (Some until) p x = seen_at (Clock until) p x

-- the last moment of a run that was to go on to a moment: that, or the end of the last frame
abbrev pub last_moment : ℕ → Course → ℕ
last_moment asked x = min (max asked x.last) greatest_moment
