-- What who watches is told of the streams of a table that may count for strictness, in order.
use Rattle.std.specs.Prelude.{ℕ, List, [], ◌∷◌, ◌++◌, Option, Some, None, Result, Ok, Err, is_some}
use Rattle.text.specs.Script.{Script, End, Broken, Line}
use Rattle.script.specs.Alerts.{Alert}
use Rattle.script.specs.Alerts as Alerts
use Rattle.script.specs.declared.faults.ScriptFault.{ScriptFault}
use Rattle.text.specs.Words.{words_of}
use Rattle.traffic.specs.Table.{line_judged}
use Rattle.traffic.specs.declared.table.Stream.{Stream}

-- the alert of a stream that the line of this number is
abbrev pub stream_alert : ℕ → Stream → List Alert
stream_alert number s = Alerts.Stream number s.first_id s.count (is_some s.deadline) ∷ []

-- of a stream, by what is told of one, as it is judged: where it has a fault there is none
abbrev pub alerts_judged : (ℕ → Stream → List Alert) → ℕ → Result Stream ScriptFault → List Alert
alerts_judged tells number (Ok s) = tells number s
alerts_judged tells number (Err fault) = []

-- of what a line says
abbrev pub alerts_said : (ℕ → Stream → List Alert) → ℕ → Result (Option Stream) ScriptFault → List Alert
alerts_said tells number (Ok None) = []
alerts_said tells number (Ok (Some s)) = tells number s
alerts_said tells number (Err fault) = []

-- those of the lines behind it: a fault ends the table
abbrev pub unless_wrong : Result (Option Stream) ScriptFault → List Alert → List Alert
unless_wrong (Ok said) rest = rest
unless_wrong (Err fault) rest = []

-- the alerts of the lines of a table, up to the first fault, by what is judged and what is told of a stream
abbrev pub table_alerts : (ℕ → Stream → List Alert) → (Stream → Result Stream ScriptFault) → Script → List Alert
table_alerts tells judge End = []
table_alerts tells judge (Broken number limit) = []
table_alerts tells judge (Line number octets rest) =
    let said = line_judged judge (words_of octets) in alerts_said tells number said ++ unless_wrong said (table_alerts tells judge rest)
