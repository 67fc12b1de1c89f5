use Rattle.std.proofs.Common.{subst}
use Rattle.in_memory.specs.Slices.{Answers, slices, told_by}
use Rattle.in_memory.specs.Values.{settings_at}
use Rattle.in_memory.specs.declared.values.PortValues.{PortValues}
use Rattle.script.specs.Outcome.{outcome_of}
use Rattle.script.specs.Texts.{script_telling}
use Rattle.taprio_c.proofs.taprio_run.Goals as goal

pub returns : goal.returns
returns c = λ read reads.
    let P : PortValues → Type 0 = λ values. Answers (told_by script_telling (λ settings. outcome_of read settings c.args.script.now) (settings_at values)) c.run_octets.result (slices c.args.output.now c.args.fault.now) (slices c.run_octets.new.output c.run_octets.new.fault) in
    subst P c.port_values.ensures (c.run_octets.ensures read reads)
