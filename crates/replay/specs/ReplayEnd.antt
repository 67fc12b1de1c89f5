-- What a run of the program on a script and a capture leaves: its exit status, what the two writers got, and the text of a fault.
use Rattle.std.specs.Prelude.{◌≡◌, ◌⊎◌, List, ℕ, Option, Result, Err, IfSome}
use Rattle.std.specs.Io.KnownBytes.{append_known}
use Rattle.abstract_port.specs.declared.Command.{Command}
use Rattle.capture.specs.Records.{Entry}
use Rattle.capture.specs.declared.fault.CapFault.{CapFault}
use Rattle.capture.specs.declared.reader.End.{End}
use Rattle.port_text.specs.Reader.{IsReader}
use Rattle.port_text.specs.declared.tc_reader.fault.TcFault.{TcFault}
use Rattle.job.specs.RunEnd.{IsRunEnding}
use Rattle.script.specs.Setup.{Setup}
use Rattle.job.specs.declared.report.Ended.{Ended}
use Rattle.replay.specs.Outcome.{Ends, ReadsAs, timed_outcome}
use Rattle.replay.specs.Outputs.{Got, Output, nothing}
use Rattle.replay.specs.Texts.{replay_telling}
use Rattle.job.specs.declared.fault.Fault.{Fault}
use Rattle.job.specs.declared.fault.Fault.TheVariants as Faults
use Rattle.replay.specs.declared.faults.ReplayInput.{ReplayInput}
use Rattle.replay.specs.declared.timing.Timing.{Timing}

-- what two writers got, and then what no write let out
abbrev pub with_unwritten : Got → Output → Got
with_unwritten got unwritten = record { report = append_known got.report unwritten.report; departures = append_known got.departures unwritten.departures }

-- What two writers got, with what no write let out, is as this says; and all is let out but after a failed write.
pub record AreLetOut (run : Result (Unit {0}) (Fault ReplayInput)) (got : Got) (Wrote : Got → Type 0) : Type 0 where
  pub unwritten : Output
  pub let_out : (unwritten ≡ nothing) ⊎ (run ≡ Err Faults.Write)
  pub wrote : Wrote (with_unwritten got unwritten)

-- The end of a replay: what the writers got, with what no write let out, is what definitions over the octets of both inputs say, or after a fault of a
-- call's a prefix of each.
abbrev pub IsReplayEnding : (s : Setup) (timing : Timing) (script capture : Option (List ℕ)) → Ended → (old got : Got) (errors_old errors_new : Option (List ℕ)) → Type 0
IsReplayEnding s timing script capture ended old got errors_old errors_new =
    IsRunEnding replay_telling (λ run. AreLetOut run got (λ out. (read : List (List ℕ) → Result Command TcFault) → IsReader read → IfSome script (λ lines. IfSome capture (λ octets.
    (records : Result (List Entry × End) CapFault) → ReadsAs octets records → Ends run old out (timed_outcome read s timing lines records))))) ended errors_old errors_new
