-- How the lines of a reader end, and what each further call answers then.
use Rattle.std.specs.Prelude.{Bool, true, false, Option, Some, None, Result, Ok, Err}
use Rattle.text.specs.declared.line_reader.lines.LineFault.{LineFault}

-- after the end there is no line, and after a fault there is that fault
abbrev pub answer_of : Result (Unit {0}) LineFault → Result Bool LineFault
answer_of (Ok _) = Ok false
answer_of (Err fault) = Err fault

-- how an answer ends the lines, if it does
abbrev pub ended_by : Result Bool LineFault → Option (Result (Unit {0}) LineFault)
ended_by (Ok true) = None
ended_by (Ok false) = Some (Ok tt)
ended_by (Err fault) = Some (Err fault)
