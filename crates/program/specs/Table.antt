-- The words that the program understands, as `clap` has them: its jobs, and the words of each. A job's word is written as `--NAME VALUE`,
-- as `--NAME`, or as the name of a file alone.
use Rattle.std.specs.Prelude.{List, [], ◌∷◌, true, false, Option, Some, None, codes, map}
use Rattle.clap.specs.Walk.{Rule, Text}
use Rattle.clap.specs.Simple.{App, Shape, new_rule, new_shape, with_subcommand}
use Rattle.clap.specs.declared.builder.action.ArgAction.TheVariants.{SetTrue}
use Rattle.program.specs.declared.job_name.JobName.{JobName}
use Rattle.program.specs.declared.job_name.JobName.TheVariants as Names
use Rattle.program.specs.declared.options.Given.{Given}
use Rattle.program.specs.declared.options.Given.TheVariants as Givens
use Rattle.program.specs.declared.options.Job.{Job}
use Rattle.program.specs.declared.options.Word.{Word}

-- the word that names a job
abbrev pub name_of : JobName → Text
name_of Names.Script = codes "script"
name_of Names.Replay = codes "replay"
name_of Names.Check = codes "check"
name_of Names.Streams = codes "streams"
name_of Names.Bounds = codes "bounds"
name_of Names.Paths = codes "paths"
name_of Names.Plan = codes "plan"
name_of Names.Draw = codes "draw"
name_of Names.Frames = codes "frames"
name_of Names.Compare = codes "compare"

-- `--NAME VALUE`, or nothing
abbrev pub option : Text → Rule
option name = record (new_rule name) { long = Some name; value_names = 1 }

-- `--NAME`, or nothing
abbrev pub flag : Text → Rule
flag name = record (new_rule name) { long = Some name; action = Some SetTrue }

-- the name of a file, which has to be given
abbrev pub file : Text → Rule
file name = record (new_rule name) { value_names = 1; required = true }

-- a word that may not stand beside some other: which one that is, a rule does not say
abbrev pub excluding : Rule → Rule
excluding rule = record rule { is_free = false }

-- the words of each job, in the order in which they are added
abbrev pub rules_of : JobName → List Rule
rules_of Names.Script =
    option (codes "rate") ∷ option (codes "mtu") ∷ option (codes "room") ∷ option (codes "until") ∷ flag (codes "tolerant") ∷ option (codes "device") ∷ flag (codes "summary")
    ∷ flag (codes "strict") ∷ flag (codes "strict-frames") ∷ flag (codes "explain") ∷ []
rules_of Names.Replay =
    option (codes "rate") ∷ option (codes "mtu") ∷ option (codes "room") ∷ option (codes "until") ∷ option (codes "stamp")
    ∷ option (codes "shift") ∷ option (codes "format") ∷ option (codes "fcs") ∷ flag (codes "tolerant") ∷ option (codes "device") ∷ flag (codes "summary") ∷ flag (codes "progress") ∷ flag (codes "strict") ∷ flag (codes "strict-frames") ∷ flag (codes "explain")
    ∷ file (codes "script") ∷ file (codes "capture") ∷ file (codes "out") ∷ []
rules_of Names.Check =
    option (codes "rate") ∷ option (codes "mtu") ∷ option (codes "map") ∷ flag (codes "shares") ∷ flag (codes "windows")
    ∷ option (codes "frame") ∷ flag (codes "script") ∷ flag (codes "tolerant") ∷ option (codes "device") ∷ flag (codes "strict") ∷ flag (codes "explain") ∷ []
rules_of Names.Streams =
    option (codes "with") ∷ option (codes "from") ∷ flag (codes "late") ∷ option (codes "seed") ∷ excluding (option (codes "capture"))
    ∷ flag (codes "strict") ∷ flag (codes "explain") ∷ []
rules_of Names.Bounds =
    option (codes "rate") ∷ option (codes "mtu") ∷ option (codes "room") ∷ option (codes "map") ∷ option (codes "frames")
    ∷ option (codes "silent") ∷ flag (codes "leftovers") ∷ flag (codes "slack") ∷ flag (codes "why") ∷ flag (codes "tolerant") ∷ option (codes "device") ∷ flag (codes "strict")
    ∷ flag (codes "explain") ∷ file (codes "table") ∷ []
rules_of Names.Paths =
    option (codes "rate") ∷ option (codes "mtu") ∷ option (codes "room") ∷ option (codes "frames") ∷ option (codes "silent")
    ∷ flag (codes "leftovers") ∷ option (codes "next") ∷ flag (codes "tolerant") ∷ flag (codes "strict") ∷ flag (codes "explain") ∷ file (codes "network") ∷ []
rules_of Names.Plan =
    option (codes "rate") ∷ option (codes "mtu") ∷ option (codes "room") ∷ option (codes "cycle") ∷ option (codes "entries")
    ∷ option (codes "least-interval") ∷ option (codes "device") ∷ option (codes "base-time") ∷ flag (codes "share")
    ∷ flag (codes "explain") ∷ file (codes "table") ∷ []
rules_of Names.Draw =
    option (codes "rate") ∷ option (codes "mtu") ∷ option (codes "room") ∷ option (codes "until") ∷ option (codes "capture") ∷ option (codes "format") ∷ option (codes "fcs")
    ∷ option (codes "from") ∷ option (codes "to") ∷ option (codes "width") ∷ flag (codes "tolerant") ∷ option (codes "device") ∷ flag (codes "strict") ∷ flag (codes "explain") ∷ []
rules_of Names.Frames =
    option (codes "rate") ∷ option (codes "mtu") ∷ option (codes "room") ∷ option (codes "until")
    ∷ excluding (option (codes "capture")) ∷ option (codes "format") ∷ option (codes "fcs") ∷ option (codes "by-stream") ∷ flag (codes "tolerant") ∷ option (codes "device") ∷ flag (codes "strict") ∷ flag (codes "explain") ∷ []
rules_of Names.Compare =
    option (codes "by") ∷ option (codes "within") ∷ flag (codes "explain") ∷ file (codes "first") ∷ file (codes "second") ∷ []

-- a job, with its words
abbrev pub job_shape : JobName → Shape
job_shape job = record (new_shape (name_of job)) { rules = rules_of job }

-- The program: it has a version, and wants a job.
abbrev pub program_app : App
program_app = record {
  top = record (new_shape (codes "taprio_port")) { is_leaf = false; has_version = true; subcommand_required = true };
  subs = map job_shape (Names.Script ∷ Names.Replay ∷ Names.Check ∷ Names.Streams ∷ Names.Bounds ∷ Names.Paths ∷ Names.Plan ∷ Names.Draw ∷ Names.Frames ∷ Names.Compare ∷ []);
}

-- ---- what the code's table says

-- a word that may stand beside each other
abbrev pub free_rule : Given → Text → Rule
free_rule Givens.Value name = option name
free_rule Givens.Flag name = flag name
free_rule Givens.File name = file name

abbrev pub rule_without : {X : Type 0} → Option X → Rule → Rule
rule_without None rule = rule
rule_without (Some other) rule = excluding rule

abbrev pub rule_of_word : Word → Rule
rule_of_word word = rule_without word.without (free_rule word.given word.name.now)

abbrev pub shape_of_job : Job → Shape
shape_of_job job = record (new_shape (name_of job.name)) { rules = map rule_of_word job.words.now }

-- the program before its jobs are added
abbrev pub bare_app : App
bare_app = record {
  top = record (new_shape (codes "taprio_port")) { has_version = true; subcommand_required = true };
  subs = [];
}

-- one job more
abbrev pub with_job : App → Job → App
with_job app job = with_subcommand app (shape_of_job job)
