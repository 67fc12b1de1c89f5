-- What a run of the program on a script leaves: its exit status, what the writer got, and the text of a fault.
use Rattle.std.specs.Prelude.{List, ℕ, Option, Result, Ok, Err, IfSome, unwrap_or, codes}
use Rattle.abstract_port.specs.declared.Command.{Command}
use Rattle.job.specs.RunEnd.{IsLetOut, IsRunEnding, IsUnanswered}
use Rattle.job.specs.Outcome.{Outcome, RunsOut}
use Rattle.job.specs.declared.report.Ended.{Ended}
use Rattle.port_text.specs.declared.tc_reader.fault.TcFault.{TcFault}
use Rattle.port_text.specs.Reader.{IsReader}
use Rattle.script.specs.Given.{GivenWords}
use Rattle.script.specs.Setup.{Setup}
use Rattle.script.specs.Settings.{settings_of, summarized}
use Rattle.script.specs.Outcome.{outcome_of}
use Rattle.script.specs.Texts.{script_telling, value_text}
use Rattle.script.specs.declared.faults.BadLine.{BadLine}
use Rattle.script.specs.declared.settings.BadValue.{BadValue}

-- The settings of the values that are given, with a moment of at most `greatest`: 1000 Mb/s, an mtu of 1500 octets and room for 128
-- frames a class where none is.
abbrev pub settings_or_usual : ℕ → GivenWords → Result Setup BadValue
settings_or_usual greatest given = settings_of (unwrap_or given.rate (codes "1000")) (unwrap_or given.mtu (codes "1500")) (unwrap_or given.room (codes "128")) given.until greatest

-- the settings of the values that are given or usual, with a summary where one is wanted
abbrev pub settings_given : ℕ → GivenWords → Result Setup BadValue
settings_given greatest given = summarized given.summary (settings_or_usual greatest given)

-- What is to be written for the octets of an input, by the function that reads tc lines.
abbrev pub Whole : Type 0
Whole = (List (List ℕ) → Result Command TcFault) → List ℕ → Outcome BadLine

-- The end of a run on good settings: what the writer got, with what no write let out, is what is to be written for the octets, or after a fault of the
-- call's a prefix of it.
abbrev pub IsWholeEnding : Whole → Option (List ℕ) → Ended → (old got errors_old errors_new : Option (List ℕ)) → Type 0
IsWholeEnding whole input ended old got errors_old errors_new =
    IsRunEnding script_telling (λ run. IsLetOut run got (λ out. (read : List (List ℕ) → Result Command TcFault) → IsReader read → IfSome input (λ octets. RunsOut run old out (whole read octets)))) ended errors_old errors_new

-- the end where a value is bad: status 2, and its text is reported
abbrev pub IsRefusal : BadValue → Ended → (old got errors_old errors_new : Option (List ℕ)) → Type 0
IsRefusal value ended old got errors_old errors_new = IsUnanswered 2 (value_text value) ended old got errors_old errors_new

-- by the settings of the values, and what is to be written by them
abbrev pub IsEnding : {S : Type 0} → (S → Whole) → Result S BadValue → Option (List ℕ) → Ended → (old got errors_old errors_new : Option (List ℕ)) → Type 0
IsEnding whole (Ok setup) input ended old got errors_old errors_new = IsWholeEnding (whole setup) input ended old got errors_old errors_new
IsEnding whole (Err value) input ended old got errors_old errors_new = IsRefusal value ended old got errors_old errors_new

-- what is to be written for a script
abbrev pub whole_script : Setup → Whole
whole_script setup read octets = outcome_of read setup octets
