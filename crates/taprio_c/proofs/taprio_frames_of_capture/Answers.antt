use Rattle.std.proofs.Common.{subst}
use Rattle.in_memory.specs.Slices.{Answers, slices, told_by}
use Rattle.in_memory.specs.Values.{settings_at}
use Rattle.in_memory.specs.declared.values.PortValues.{PortValues}
use Rattle.frame_table.specs.OfCapture.{frames_of_capture}
use Rattle.replay.specs.Texts.{replay_telling}
use Rattle.taprio_c.proofs.taprio_frames_of_capture.Goals as goal

pub returns : goal.returns
returns c = λ read reads records says.
    let P : PortValues → Type 0 = λ values. Answers (told_by replay_telling (λ settings. frames_of_capture read settings c.args.script.now records) (settings_at values)) c.frames_of_capture_octets.result (slices c.args.output.now c.args.fault.now) (slices c.frames_of_capture_octets.new.output c.frames_of_capture_octets.new.fault) in
    subst P c.port_values.ensures (c.frames_of_capture_octets.ensures read reads records says)
