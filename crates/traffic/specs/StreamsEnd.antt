-- What a run of the program on a table and a script leaves: its exit status, what the writer got, and the text of a fault.
use Rattle.text.specs.Numbers.{number_in}
use Rattle.std.specs.Prelude.{List, ℕ, ◌-◌, ◌^◌, Bool, true, false, if◌then◌else◌, Option, Some, None, Result, Ok, Err, IfSome, unwrap_or, codes}
use Rattle.wire_time.specs.Moment.{greatest_moment}
use Rattle.text.specs.Times.{moment_in}
use Rattle.script.specs.Given.{octets_of}
use Rattle.script.specs.ScriptEnd.{IsRefusal}
use Rattle.script.specs.declared.settings.BadValue.{BadValue}
use Rattle.script.specs.declared.settings.BadValue.TheVariants as Values
use Rattle.job.specs.RunEnd.{IsLetOut, IsRunEnding}
use Rattle.job.specs.Outcome.{RunsOut}
use Rattle.job.specs.declared.report.Ended.{Ended}
use Rattle.traffic.specs.Faults.{streams_telling}
use Rattle.traffic.specs.Outcome.{outcome_of}
use Rattle.traffic.specs.declared.plan.Plan.{Plan}
use Rattle.traffic.specs.declared.plan.Timing.{Timing}
use Rattle.traffic.specs.declared.plan.Timing.TheVariants.{Earliest, Latest, Drawn}
use Rattle.traffic.specs.declared.streams_job.StreamsWords.{StreamsWords}

-- The end of a run by a plan: what the writer got, with what no write let out, is what is to be written for the octets of
-- the table and of the script, or after a fault of a call's a prefix of it.
abbrev pub IsMergedEnding : Plan → (table script : Option (List ℕ)) → Ended → (old got errors_old errors_new : Option (List ℕ)) → Type 0
IsMergedEnding plan table script ended old got errors_old errors_new =
    IsRunEnding streams_telling (λ run. IsLetOut run got (λ out. IfSome table (λ streams. IfSome script (λ lines. RunsOut run old out (outcome_of plan streams lines))))) ended errors_old errors_new

-- a moment, if there is one
abbrev pub moment_where : Option ℕ → Result ℕ BadValue
moment_where (Some moment) = Ok moment
moment_where None = Err Values.From

-- the moment that the offsets count from: 0 where none is given
abbrev pub from_given : Option (List ℕ) → Result ℕ BadValue
from_given from = moment_where (moment_in greatest_moment (unwrap_or from (codes "0")))

-- when frames come by a seed, if it is one
abbrev pub drawn_where : Option ℕ → Result Timing BadValue
drawn_where (Some seed) = Ok (Drawn seed)
drawn_where None = Err Values.Seed

-- When frames come: as a seed of 64 bits draws it, where one is given; else as late as they may, where that is asked, or as early. Both are not asked at once.
abbrev pub timing_given : Bool → Option (List ℕ) → Result Timing BadValue
timing_given late None = Ok (if late then Latest else Earliest)
timing_given true (Some seed) = Err Values.Seed
timing_given false (Some seed) = drawn_where (number_in 10 (2 ^ 64 - 1) seed)

-- the words that stand as the values of the options
pub record GivenWords : Type 0 where
  pub from : Option (List ℕ)
  pub late : Bool
  pub seed : Option (List ℕ)

abbrev pub words_of_streams : StreamsWords → GivenWords
words_of_streams words = record { from = octets_of words.from; late = words.late; seed = octets_of words.seed }

-- what is given to the options: the first bad value is the fault
abbrev pub plan_where : Result ℕ BadValue → Result Timing BadValue → Result Plan BadValue
plan_where (Ok from) (Ok timing) = Ok (record { from = from; timing = timing })
plan_where (Ok from) (Err value) = Err value
plan_where (Err value) timing = Err value

abbrev pub plan_given : GivenWords → Result Plan BadValue
plan_given words = plan_where (from_given words.from) (timing_given words.late words.seed)

-- by the plan that is given
abbrev pub IsStreamsEnding : Result Plan BadValue → (table script : Option (List ℕ)) → Ended → (old got errors_old errors_new : Option (List ℕ)) → Type 0
IsStreamsEnding (Ok plan) table script ended old got errors_old errors_new = IsMergedEnding plan table script ended old got errors_old errors_new
IsStreamsEnding (Err value) table script ended old got errors_old errors_new = IsRefusal value ended old got errors_old errors_new
