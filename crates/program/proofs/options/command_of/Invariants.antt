use Rattle.std.proofs.Common.{◌≡◌, [], false, map, take}
use Rattle.clap.specs.Simple.{new_shape}
use Rattle.clap.specs.Words.{app_of}
use Rattle.clap.specs.declared.builder.command.Command.TheViews.{out-Command as fields_of}
use Rattle.program.specs.Table.{name_of, rule_of_word}
use Rattle.program.proofs.options.command_of.Given as goal

-- the command of the words so far
abbrev pub invariant-loop-word : goal.invariant-loop-word
invariant-loop-word l =
    (app_of l.command ≡ record { top = record (new_shape (name_of l.job.name)) { rules = map rule_of_word (take l.word-index l.job.words.now) }; subs = [] })
    × ((fields_of l.command).has_globals ≡ false)
