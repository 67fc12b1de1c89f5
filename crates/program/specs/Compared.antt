-- What the words of the program say of a comparison, and how it ends.
use Rattle.std.specs.Prelude.{ℕ, ◌^◌, ◌-◌, ◌⊎◌, List, Option, Some, None, Result, Ok, Err, codes, option_map}
use Rattle.clap.specs.Matches.{first_value}
use Rattle.clap.specs.declared.parser.matches.Found.{Found}
use Rattle.text.specs.Times.{moment_in}
use Rattle.job.specs.RunEnd.{IsUnanswered}
use Rattle.job.specs.declared.report.Ended.{Ended}
use Rattle.replay.specs.Texts.{open_text}
use Rattle.compare.specs.CompareEnd.{IsCompareEnding}
use Rattle.compare.specs.Settings.{by_said}
use Rattle.compare.specs.declared.settings.By.{By}
use Rattle.compare.specs.declared.settings.By.TheVariants.{Order}
use Rattle.compare.specs.declared.settings.CompareSettings.{CompareSettings}
use Rattle.program.specs.declared.compare_call.BadCompare.{BadCompare}
use Rattle.program.specs.declared.compare_call.BadCompare.TheVariants as Bad

-- which frames are compared; no word, those of the same order
abbrev pub by_in : Option (List ℕ) → Option By
by_in None = Some Order
by_in (Some word) = by_said word

-- by how much they may differ, if a word says it
abbrev pub within_in : Option (List ℕ) → Option (Option ℕ)
within_in None = Some None
within_in (Some word) = option_map Some (moment_in (2 ^ 128 - 1) word)

-- both, or the word that is bad: that of the frames comes first
abbrev pub compare_by : Option By → Option (Option ℕ) → Result CompareSettings BadCompare
compare_by None within = Err Bad.By
compare_by (Some by) None = Err Bad.Within
compare_by (Some by) (Some within) = Ok (record { by = by; within = within })

abbrev pub compare_in : Found → Result CompareSettings BadCompare
compare_in found = compare_by (by_in (first_value found (codes "by"))) (within_in (first_value found (codes "within")))

-- the text of a word that is bad
abbrev pub compare_text : BadCompare → List ℕ
compare_text Bad.By = codes "taprio_port: bad value of --by\n"
compare_text Bad.Within = codes "taprio_port: bad value of --within\n"

-- the end of a comparison of files: that of some octets of both, since what a file gives is not known
abbrev pub IsComparedByFiles : CompareSettings → Ended → (old got errors_old errors_new : Option (List ℕ)) → Type 0
IsComparedByFiles settings ended old got errors_old errors_new =
    (first second : Option (List ℕ)) × IsCompareEnding settings first second ended old got errors_old errors_new

-- The end of a comparison of the files that the words name; or one of them can't be opened; or a word is bad, which comes first.
abbrev pub IsGivenCompare : Result CompareSettings BadCompare → Ended → (old got errors_old errors_new : Option (List ℕ)) → Type 0
IsGivenCompare (Err bad) ended old got errors_old errors_new = IsUnanswered 2 (compare_text bad) ended old got errors_old errors_new
IsGivenCompare (Ok settings) ended old got errors_old errors_new =
    IsComparedByFiles settings ended old got errors_old errors_new
    ⊎ ((path : List ℕ) × IsUnanswered 4 (open_text path) ended old got errors_old errors_new)
