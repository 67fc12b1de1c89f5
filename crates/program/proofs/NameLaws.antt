-- The names of the jobs.
use Rattle.std.proofs.Common.{◌≡◌, ◌∙◌, ◌∷◌, [], List, Option, Some, None, All, ap, arith, map, refl, subst, sym}
use Rattle.std.proofs.lemmas.List.Elements.{All-map}
use Rattle.std.specs.Prelude.{Box, option_map}
use Rattle.std.specs.Box.{box_value}
use Rattle.clap.specs.Matches.{found_of, subcommand_name_of}
use Rattle.clap.specs.Simple.{HasMatchesOf, subcommand_rows}
use Rattle.clap.specs.Walk.{Row, Text, rows_of}
use Rattle.clap.specs.declared.parser.matches.ArgMatches.{ArgMatches}
use Rattle.clap.specs.declared.parser.matches.ArgMatches.TheViews.{out-ArgMatches, out-SubCommand}
use Rattle.clap.specs.declared.parser.matches.Found.{Found}
use Rattle.clap.specs.declared.parser.matches.SubCommand.{SubCommand}
use Rattle.program.specs.Jobs.{IsFound, IsNamed}
use Rattle.program.specs.Table.{name_of, program_app}
use Rattle.program.specs.declared.job_name.JobName.{JobName}
use Rattle.program.specs.declared.job_name.JobName.TheVariants as Names
use Rattle.program.specs.declared.options.Job.{Job}

-- the words name none of these jobs
pub record NameNone (matches : ArgMatches) (jobs : List Job) : Type 0 where
  pub none : All (λ (job : Job). subcommand_name_of matches ≡ Some (name_of job.name) → ⊥) jobs

abbrev pub all_names : List JobName
all_names = Names.Script ∷ Names.Replay ∷ Names.Check ∷ Names.Streams ∷ Names.Bounds ∷ Names.Paths ∷ Names.Plan ∷ Names.Draw ∷ Names.Frames ∷ Names.Compare ∷ []

of_each : (P : JobName → Type 0) → All P all_names → (name : JobName) → P name
of_each P each Names.Script = each 0 Names.Script (omega arith)
of_each P each Names.Replay = each 1 Names.Script (omega arith)
of_each P each Names.Check = each 2 Names.Script (omega arith)
of_each P each Names.Streams = each 3 Names.Script (omega arith)
of_each P each Names.Bounds = each 4 Names.Script (omega arith)
of_each P each Names.Paths = each 5 Names.Script (omega arith)
of_each P each Names.Plan = each 6 Names.Script (omega arith)
of_each P each Names.Draw = each 7 Names.Script (omega arith)
of_each P each Names.Frames = each 8 Names.Script (omega arith)
of_each P each Names.Compare = each 9 Names.Script (omega arith)

-- where these are the jobs of all names, the words name no job
pub none_at_all : (matches : ArgMatches) (jobs : List Job) → NameNone matches jobs → map (λ (job : Job). job.name) jobs ≡ all_names
    → (name : JobName) → subcommand_name_of matches ≡ Some (name_of name) → ⊥
none_at_all matches jobs names is =
    let Unnamed : JobName → Type 0 = λ name. subcommand_name_of matches ≡ Some (name_of name) → ⊥ in
    of_each Unnamed (subst (All Unnamed) is (All-map Unnamed (λ (job : Job). job.name) jobs names.none))

-- the job that a parse found is the one that the words name
pub named : (matches : ArgMatches) (words : List Text) (job : JobName) (given : ArgMatches) → HasMatchesOf program_app words matches → IsFound matches job given
    → IsNamed words job (found_of given)
named matches words job given has found = sym (has refl).1 ∙ found

module _ {Z : Type 0} where
  name_by : (o : Option (Box SubCommand Z)) (name : Text) (rows : List Row) → subcommand_rows o ≡ Some (name, rows) → option_map (λ b. (out-SubCommand (box_value b)).name.now) o ≡ Some name
  name_by None name rows is = cc
  name_by (Some b) name rows is = ap (λ (o : Option (Text × List Row)). option_map (λ p. p.0) o) is

-- a parse that found no job is one of words that name none
pub unnamed : (matches : ArgMatches) (words : List Text) → HasMatchesOf program_app words matches
    → ((job : JobName) → subcommand_name_of matches ≡ Some (name_of job) → ⊥) → (job : JobName) (found : Found) → IsNamed words job found → ⊥
unnamed matches words has none job found is = none job (name_by (out-ArgMatches matches).subcommand (name_of job) (rows_of found) ((has refl).1 ∙ is))
