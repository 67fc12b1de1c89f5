-- The lines that a job reads: as they stand, as they are plainly meant where they were pasted, or those of one device.
use Rattle.std.specs.Prelude.{ℕ, List, Bool, true, false, ◌&&◌, ◌||◌, Option, Some, None, codes, option_map, if◌then◌else◌}
use Rattle.std.specs.Option.{option_map_or}
use Rattle.clap.specs.Matches.{first_value}
use Rattle.clap.specs.declared.parser.matches.Found.{Found}
use Rattle.pasted.specs.Device.{lines_of_device}
use Rattle.pasted.specs.Plain.{plain_lines}
use Rattle.program.specs.Given.{flag_in}
use Rattle.program.specs.declared.job_name.JobName.{JobName}
use Rattle.program.specs.declared.job_name.JobName.TheVariants as Names

-- lines as they are pasted, where that is asked
abbrev pub plain_in : Bool → List ℕ → List ℕ
plain_in tolerant octets = if tolerant then plain_lines octets else octets

-- the lines of one device, where one is named
abbrev pub of_device : Option (List ℕ) → List ℕ → List ℕ
of_device None octets = octets
of_device (Some name) octets = lines_of_device name octets

-- both, as the words ask
abbrev pub lines_in : Found → List ℕ → List ℕ
lines_in found octets = of_device (first_value found (codes "device")) (plain_in (flag_in (codes "tolerant") found) octets)

-- whether the words ask for one of them
abbrev pub asks_lines : Found → Bool
asks_lines found = flag_in (codes "tolerant") found || option_map_or (λ name. true) (first_value found (codes "device")) false

-- whether the standard input of a job has lines with schedule commands
abbrev pub reads_commands : JobName → Bool
reads_commands Names.Script = true
reads_commands Names.Check = true
reads_commands Names.Bounds = true
reads_commands Names.Paths = true
reads_commands Names.Draw = true
reads_commands Names.Frames = true
reads_commands job = false

-- whether a job reads other lines of its standard input than those that stand there
abbrev pub changes_lines : JobName → Found → Bool
changes_lines job found = reads_commands job && asks_lines found

abbrev pub input_by : Bool → Found → Option (List ℕ) → Option (List ℕ)
input_by true found input = option_map (lines_in found) input
input_by false found input = input

-- what a job reads of its standard input
abbrev pub input_of : JobName → Found → Option (List ℕ) → Option (List ℕ)
input_of job found input = input_by (changes_lines job found) found input
