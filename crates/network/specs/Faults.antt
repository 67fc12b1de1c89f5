-- What is reported of the faults of networks.
use Rattle.std.specs.Prelude.{List, ℕ, [], ◌∷◌, codes, decimal}
use Rattle.std.specs.List.{concat}
use Rattle.job.specs.Report.{Telling}
use Rattle.job.specs.declared.kind.FaultKind.{FaultKind}
use Rattle.job.specs.declared.kind.FaultKind.TheVariants as Kinds
use Rattle.job.specs.declared.kind.LineKind.{LineKind}
use Rattle.job.specs.declared.kind.LineKind.TheVariants as Lines
use Rattle.script.specs.Texts.{line_text}
use Rattle.script.specs.declared.faults.ScriptFault.{ScriptFault}
use Rattle.script.specs.declared.faults.ScriptFault.TheVariants as ScriptFaults
use Rattle.network.specs.declared.network_table.faults.BadNetwork.{BadNetwork}
use Rattle.network.specs.declared.network_table.faults.NetworkFault.{NetworkFault}
use Rattle.network.specs.declared.network_table.faults.NetworkFault.TheVariants as Faults

-- the text of a line's fault of a name, after a beginning that names the input
abbrev pub named_text : List ℕ → ℕ → List ℕ → List ℕ
named_text begin line name = concat (begin ∷ decimal line ∷ codes ": " ∷ name ∷ codes "\n" ∷ [])

-- the same of a line that says what another line says already, with the number of that one
abbrev pub second_text : List ℕ → ℕ → List ℕ → ℕ → List ℕ
second_text begin line name other =
    concat (begin ∷ decimal line ∷ codes ": " ∷ name ∷ codes " (line " ∷ decimal other ∷ codes ")\n" ∷ [])

-- a way goes over a port twice
abbrev pub twice_text : ℕ → List ℕ → List ℕ
twice_text line name = concat (codes "taprio_port: network line " ∷ decimal line ∷ codes ": PortTwice " ∷ name ∷ codes "\n" ∷ [])

-- a way goes from one port to another, to which no link leads
abbrev pub unlinked_text : ℕ → (from to : List ℕ) → List ℕ
unlinked_text line from to =
    concat (codes "taprio_port: network line " ∷ decimal line ∷ codes ": NoLink " ∷ from ∷ codes " " ∷ to ∷ codes "\n" ∷ [])

-- the text of the fault of the line of a number
abbrev pub network_text : ℕ → NetworkFault → List ℕ
network_text line (Faults.Line fault) = line_text (codes "taprio_port: network line ") line fault
network_text line Faults.BadName = named_text (codes "taprio_port: network line ") line (codes "BadName")
network_text line (Faults.SecondPort other) = second_text (codes "taprio_port: network line ") line (codes "SecondPort") other
network_text line (Faults.SecondLink other) = second_text (codes "taprio_port: network line ") line (codes "SecondLink") other
network_text line (Faults.SecondClocks other) = second_text (codes "taprio_port: network line ") line (codes "SecondClocks") other
network_text line (Faults.PortTwice name) = twice_text line name
network_text line (Faults.NoLink from to) = unlinked_text line from to
network_text line Faults.NoWay = named_text (codes "taprio_port: network line ") line (codes "NoWay")

-- what is reported of a fault; 3: the input is refused
abbrev pub network_telling : Telling BadNetwork
network_telling = record { text = λ bad. network_text bad.line bad.fault; status = λ bad. 3 }

-- what a fault is that a line of another input may have, too
abbrev pub shared_kind : ScriptFault → LineKind
shared_kind ScriptFaults.LongLine = Lines.LongLine
shared_kind ScriptFaults.TooManyLines = Lines.TooManyLines
shared_kind ScriptFaults.UnknownLine = Lines.UnknownNetworkLine
shared_kind ScriptFaults.FrameInReplay = Lines.FrameInReplay
shared_kind ScriptFaults.WordCount = Lines.WordCount
shared_kind ScriptFaults.BadNumber = Lines.BadNumber
shared_kind ScriptFaults.ClockTooLate = Lines.StreamTooLate

-- what a fault is
abbrev pub line_kind_of : NetworkFault → LineKind
line_kind_of (Faults.Line fault) = shared_kind fault
line_kind_of Faults.BadName = Lines.BadName
line_kind_of (Faults.SecondPort other) = Lines.SecondPort
line_kind_of (Faults.SecondLink other) = Lines.SecondLink
line_kind_of (Faults.SecondClocks other) = Lines.SecondClocks
line_kind_of (Faults.PortTwice name) = Lines.PortTwice
line_kind_of (Faults.NoLink from to) = Lines.NoLink
line_kind_of Faults.NoWay = Lines.NoWay

abbrev pub network_kind : BadNetwork → FaultKind
network_kind bad = Kinds.Line (line_kind_of bad.fault)
