use Rattle.std.proofs.Common.{subst}
use Rattle.in_memory.specs.Slices.{Answers, slices, told_by}
use Rattle.in_memory.specs.Values.{settings_at}
use Rattle.in_memory.specs.declared.values.PortValues.{PortValues}
use Rattle.frame_table.specs.ByStream.{frames_by_stream}
use Rattle.traffic.specs.Faults.{streams_telling}
use Rattle.taprio_c.proofs.taprio_frames_by_stream.Goals as goal

pub returns : goal.returns
returns c = λ read reads.
    let P : PortValues → Type 0 = λ values. Answers (told_by streams_telling (λ settings. frames_by_stream read settings c.args.table.now c.args.script.now) (settings_at values)) c.frames_by_stream_octets.result (slices c.args.output.now c.args.fault.now) (slices c.frames_by_stream_octets.new.output c.frames_by_stream_octets.new.fault) in
    subst P c.port_values.ensures (c.frames_by_stream_octets.ensures read reads)
