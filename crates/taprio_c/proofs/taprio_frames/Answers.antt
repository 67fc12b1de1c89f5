use Rattle.std.proofs.Common.{subst}
use Rattle.in_memory.specs.Slices.{Answers, slices, told_by}
use Rattle.in_memory.specs.Values.{settings_at}
use Rattle.in_memory.specs.declared.values.PortValues.{PortValues}
use Rattle.frame_table.specs.Outcome.{frames_of}
use Rattle.script.specs.Texts.{script_telling}
use Rattle.taprio_c.proofs.taprio_frames.Goals as goal

pub returns : goal.returns
returns c = λ read reads.
    let P : PortValues → Type 0 = λ values. Answers (told_by script_telling (λ settings. frames_of read settings c.args.script.now) (settings_at values)) c.frames_octets.result (slices c.args.output.now c.args.fault.now) (slices c.frames_octets.new.output c.frames_octets.new.fault) in
    subst P c.port_values.ensures (c.frames_octets.ensures read reads)
