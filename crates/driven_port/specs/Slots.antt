-- A place with a port, or without one, and what a call does there.
use Rattle.std.specs.Prelude.{ℕ, ◌==◌, if◌then◌else◌, Option, Some, None, Result, Ok, Err}
use Rattle.wire_time.specs.Wire.{rate_of}
use Rattle.wire_time.specs.declared.RateFault.{RateFault}
use Rattle.abstract_port.specs.AbstractPort.{AbstractPort, new_port}
use Rattle.driven_port.specs.Told.{answer, counted, counters_told, report_told}
use Rattle.driven_port.specs.declared.OpenFault.{OpenFault}
use Rattle.driven_port.specs.declared.OpenFault.TheVariants.{BadRate, BadMtu, BadRoom, Memory}
use Rattle.driven_port.specs.declared.values.CAnswer.{CAnswer}
use Rattle.driven_port.specs.declared.values.CCounters.{CCounters}
use Rattle.driven_port.specs.declared.values.CReport.{CReport}

-- the number of a reason why there is no port
abbrev pub open_reason : OpenFault → ℕ
open_reason BadRate = 24
open_reason BadMtu = 25
open_reason BadRoom = 26
open_reason Memory = 27

-- a port that has seen nothing, at a rate if it is one
abbrev pub port_at : Result ℕ RateFault → ℕ → ℕ → Option AbstractPort
port_at (Ok ps) mtu room = Some (new_port ps mtu room)
port_at (Err fault) mtu room = None

-- what a place has that was made with an answer of this kind: 9 opened
abbrev pub opened_at : ℕ → ℕ → ℕ → ℕ → Option AbstractPort
opened_at mbps mtu room kind = if kind == 9 then port_at (rate_of mbps) mtu room else None

-- what a call does at a place: without a port it answers so (kind 0), and nothing changes
abbrev pub at_slot : (AbstractPort → CAnswer × AbstractPort) → Option AbstractPort → CAnswer × Option AbstractPort
at_slot call None = (answer 0, None)
at_slot call (Some p) = ((call p).0, Some (call p).1)

-- a report with nothing
abbrev pub no_report : CReport
no_report = record { now_low = 0; now_high = 0; no_class = 0; gates = 0; pending = 0 }

abbrev pub report_at : Option AbstractPort → CReport
report_at None = no_report
report_at (Some p) = report_told p

abbrev pub counters_at : ℕ → Option AbstractPort → CCounters
counters_at class None = counted None
counters_at class (Some p) = counters_told class p
