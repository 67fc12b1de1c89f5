-- What a line puts, by what it is.
use Rattle.std.proofs.Common.{◌≡◌, ℕ, List, Option, Result, Ok, Err, Bool, true, false, sym, ap, subst}
use Rattle.abstract_port.specs.declared.Change.{Change}
use Rattle.abstract_port.specs.declared.Command.{Command}
use Rattle.abstract_port.specs.declared.Command.TheVariants as Commands
use Rattle.job.specs.declared.fault.Fault.{Fault}
use Rattle.network.specs.Network.{Net}
use Rattle.network.specs.Reads.{Takes}
use Rattle.pasted.specs.Device.{device_in}
use Rattle.network.specs.Schedules.{change_put, command_put, line_said, port_named}
use Rattle.network.specs.declared.port_schedules.faults.SchedulesFault.{SchedulesFault}
use Rattle.network.specs.declared.port_schedules.faults.SchedulesFault.TheVariants as Faults
use Rattle.network.specs.declared.port_schedules.schedules.PortSchedule.{PortSchedule}
use Rattle.script.specs.declared.faults.ScriptFault.{ScriptFault}
use Rattle.port_text.specs.declared.tc_reader.fault.TcFault.{TcFault}

module _ (number : ℕ) (kept : List PortSchedule) (net : Net) (ws : List (List ℕ)) where
  -- a command that replaces a schedule
  pub replaced : {T : Type 0} (result : Result T (Fault SchedulesFault)) (change : Change) (port : Option ℕ) (answer : Result Command TcFault) (new : List PortSchedule)
      → answer ≡ Ok (Commands.Replace change) → port ≡ port_named net (device_in ws) → Takes result (change_put number kept net change port) new → Takes result (command_put number kept net ws answer) new
  replaced {T} result change port answer new is named taken =
      let P : Option ℕ → Type 0 = λ p. Takes result (change_put number kept net change p) new in
      let Q : Result Command TcFault → Type 0 = λ r. Takes result (command_put number kept net ws r) new in
      subst Q (sym is) (subst P named taken)

  -- no command
  pub malformed : (fault : TcFault) (answer : Result Command TcFault) → answer ≡ Err fault → command_put number kept net ws answer ≡ Err (Faults.Malformed fault)
  malformed fault answer is = ap (command_put number kept net ws) is

module _ (said : Result Bool ScriptFault) (kept : List PortSchedule) (put : Result (List PortSchedule) SchedulesFault) where
  -- a line asks something
  pub asked : {T : Type 0} (result : Result T (Fault SchedulesFault)) (new : List PortSchedule) → said ≡ Ok true → Takes result put new → Takes result (line_said said kept put) new
  asked {T} result new is taken =
      let P : Result Bool ScriptFault → Type 0 = λ r. Takes result (line_said r kept put) new in
      subst P (sym is) taken

  -- a line is skipped, and one is wrong
  pub skipped : said ≡ Ok false → line_said said kept put ≡ Ok kept
  skipped is = ap (λ (r : Result Bool ScriptFault). line_said r kept put) is

  pub wrong : (fault : ScriptFault) → said ≡ Err fault → line_said said kept put ≡ Err (Faults.Line fault)
  wrong fault is = ap (λ (r : Result Bool ScriptFault). line_said r kept put) is
