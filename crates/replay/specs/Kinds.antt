-- What the faults of a replay are, where the faults of all jobs are told apart.
use Rattle.capture.specs.declared.fault.CapFault.{CapFault}
use Rattle.capture.specs.declared.fault.CapFault.TheVariants.{ShortHeader, BadMagic, BadVersion, BadLink, ShortRecord, LongRecord, BadFraction, TooManyRecords, BadShift, Read, Write, Memory}
use Rattle.job.specs.declared.kind.CaptureKind.TheVariants as Captures
use Rattle.job.specs.declared.kind.FaultKind.{FaultKind}
use Rattle.job.specs.declared.kind.FaultKind.TheVariants as Kinds
use Rattle.job.specs.declared.kind.ValueKind.TheVariants as Options
use Rattle.script.specs.Kinds.{script_kind}
use Rattle.replay.specs.declared.faults.ReplayInput.{ReplayInput}
use Rattle.replay.specs.declared.faults.ReplayInput.TheVariants as Inputs

-- of a capture; a read, a write and memory have their own
abbrev pub capture_kind : CapFault → FaultKind
capture_kind ShortHeader = Kinds.Capture Captures.ShortHeader
capture_kind BadMagic = Kinds.Capture Captures.BadMagic
capture_kind BadVersion = Kinds.Capture Captures.BadVersion
capture_kind BadLink = Kinds.Capture Captures.BadLink
capture_kind ShortRecord = Kinds.Capture Captures.ShortRecord
capture_kind LongRecord = Kinds.Capture Captures.LongRecord
capture_kind BadFraction = Kinds.Capture Captures.BadFraction
capture_kind TooManyRecords = Kinds.Capture Captures.TooManyRecords
capture_kind BadShift = Kinds.Capture Captures.BadShift
capture_kind Read = Kinds.ReadFailed
capture_kind Write = Kinds.WriteFailed
capture_kind Memory = Kinds.OutOfMemory

-- of the inputs of a replay
abbrev pub replay_kind : ReplayInput → FaultKind
replay_kind Inputs.Until = Kinds.Value Options.Until
replay_kind (Inputs.Script bad) = script_kind bad
replay_kind (Inputs.Capture number fault) = capture_kind fault
