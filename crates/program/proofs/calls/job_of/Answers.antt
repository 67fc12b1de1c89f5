use Rattle.std.proofs.Common.{arith, ◌≡◌, ◌∙◌, ap, refl, sym, Some}
use Rattle.std.proofs.lemmas.List.Elements.{All-more, All-nil}
use Rattle.clap.specs.Matches.{subcommand_name_of}
use Rattle.program.specs.Table.{name_of}
use Rattle.program.specs.declared.options.Job.{Job}
use Rattle.program.proofs.NameLaws.{none_at_all}
use Rattle.program.proofs.calls.job_of.Goals as goal

pub loop-job-init : goal.loop-job-init
loop-job-init c = record { none = All-nil (λ (job : Job). subcommand_name_of c.args.matches.now ≡ Some (name_of job.name) → ⊥) }

pub loop-job-preserved : goal.loop-job-preserved
loop-job-preserved c = record {
  none = All-more (λ (job : Job). subcommand_name_of c.args.matches.now ≡ Some (name_of job.name) → ⊥) _ c.loop-job.job-index _ (omega arith) c.loop-job.invariant.none
      (λ named. let no = c.in_default.ensures.found.1 (named ∙ ap Some (sym c.text.ensures)) in cc);
}

pub returns-clause-none : goal.returns-clause-none
returns-clause-none c =
    let done : c.loop-job.job-index ≡ 10 = omega arith in
    λ same. none_at_all c.args.matches.now _ (rw done at c.loop-job.invariant) refl
