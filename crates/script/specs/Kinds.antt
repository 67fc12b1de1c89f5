-- What the faults of lines and of values are, where the faults of all jobs are told apart.
use Rattle.job.specs.declared.kind.FaultKind.{FaultKind}
use Rattle.job.specs.declared.kind.FaultKind.TheVariants as Kinds
use Rattle.job.specs.declared.kind.LineKind.{LineKind}
use Rattle.job.specs.declared.kind.LineKind.TheVariants as Lines
use Rattle.job.specs.declared.kind.ValueKind.{ValueKind}
use Rattle.job.specs.declared.kind.ValueKind.TheVariants as Options
use Rattle.script.specs.declared.faults.BadLine.{BadLine}
use Rattle.script.specs.declared.settings.BadValue.{BadValue}
use Rattle.script.specs.declared.settings.BadValue.TheVariants as Values
use Rattle.script.specs.declared.faults.ScriptFault.{ScriptFault}
use Rattle.script.specs.declared.faults.ScriptFault.TheVariants.{LongLine, TooManyLines, UnknownLine, FrameInReplay, WordCount, BadNumber, ClockTooLate}

-- of a line of a script or of schedules
abbrev pub line_kind : ScriptFault → LineKind
line_kind LongLine = Lines.LongLine
line_kind TooManyLines = Lines.TooManyLines
line_kind UnknownLine = Lines.UnknownLine
line_kind FrameInReplay = Lines.FrameInReplay
line_kind WordCount = Lines.WordCount
line_kind BadNumber = Lines.BadNumber
line_kind ClockTooLate = Lines.ClockTooLate

-- of a line of a table of streams
abbrev pub table_kind : ScriptFault → LineKind
table_kind LongLine = Lines.LongLine
table_kind TooManyLines = Lines.TooManyLines
table_kind UnknownLine = Lines.UnknownTableLine
table_kind FrameInReplay = Lines.FrameInReplay
table_kind WordCount = Lines.WordCount
table_kind BadNumber = Lines.BadNumber
table_kind ClockTooLate = Lines.StreamTooLate

-- of a bad value
abbrev pub value_kind : BadValue → ValueKind
value_kind Values.Rate = Options.Rate
value_kind Values.Mtu = Options.Mtu
value_kind Values.Room = Options.Room
value_kind Values.Until = Options.Until
value_kind Values.From = Options.From
value_kind Values.To = Options.To
value_kind Values.Width = Options.Width
value_kind Values.Map = Options.Map
value_kind Values.Frame = Options.Frame
value_kind Values.Seed = Options.Seed

-- of a script
abbrev pub script_kind : BadLine → FaultKind
script_kind bad = Kinds.Line (line_kind bad.fault)
