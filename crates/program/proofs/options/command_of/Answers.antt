use Rattle.std.proofs.Common.{rules, ◌∙◌, ap, ap₂, sym, List, []}
use Rattle.std.proofs.lemmas.List.{map_more}
use Rattle.clap.specs.Simple.{App, new_shape}
use Rattle.clap.specs.Words.{Rule, with_rule}
use Rattle.program.specs.Table.{name_of, rule_of_word}
use Rattle.program.proofs.options.command_of.Goals as goal

pub loop-word-preserved : goal.loop-word-preserved
loop-word-preserved c =
    let with : List Rule → App = λ rules. record { top = record (new_shape (name_of c.args.job.now.name)) { rules = rules }; subs = [] } in
    let words = c.args.job.now.words.now in (
      c.in_ok-command.ensures.shape (search rules)
          ∙ (ap₂ with_rule c.loop-word.invariant.0 c.in_ok-arg_of.ensures.rule ∙ ap with (sym (map_more rule_of_word words c.loop-word.word-index _ (search rules)))),
      search rules,
    )
