use Rattle.std.proofs.Common.{arith, ◌≡◌, ◌∙◌, ap, ap₂, sym, true}
use Rattle.std.proofs.lemmas.List.Sums.{fold_more}
use Rattle.clap.specs.Simple.{App, Shape, app_of_fields, on_top, with_subcommand}
use Rattle.program.specs.Table.{bare_app, with_job}
use Rattle.program.proofs.options.command.Goals as goal

pub loop-job-init : goal.loop-job-init
loop-job-init c =
    ap app_of_fields c.subcommand_required-program.ensures
    ∙ ap (λ (a : App). on_top (λ (s : Shape). record s { subcommand_required = true }) a)
    (ap app_of_fields c.after_help.ensures ∙ (ap app_of_fields c.about.ensures ∙ (ap app_of_fields c.version.ensures
    ∙ ap (λ (a : App). on_top (λ (s : Shape). record s { has_version = true }) a) c.new.ensures.app)))

pub returns : goal.returns
returns c =
    let done : c.loop-job.job-index ≡ 10 = omega arith in
    rw done at c.loop-job.invariant

pub loop-job-preserved : goal.loop-job-preserved
loop-job-preserved c =
    c.in_ok-program.ensures.shape c.in_ok-command_of.ensures.local
    ∙ (ap₂ with_subcommand c.loop-job.invariant (ap (λ (a : App). a.top) c.in_ok-command_of.ensures.app)
    ∙ sym (fold_more with_job bare_app _ c.loop-job.job-index _ (omega arith)))
