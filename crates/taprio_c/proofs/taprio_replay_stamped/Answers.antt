use Rattle.std.proofs.Common.{subst}
use Rattle.in_memory.specs.Captures.{Replays, outputs, told_by_replay}
use Rattle.in_memory.specs.Values.{settings_at}
use Rattle.in_memory.specs.declared.values.PortValues.{PortValues}
use Rattle.replay.specs.Outcome.{outcome_of}
use Rattle.replay.specs.declared.stamps.Stamp.{Stamp}
use Rattle.taprio_c.specs.FromC.{port_values}
use Rattle.taprio_c.proofs.taprio_replay_stamped.Goals as goal

pub returns : goal.returns
returns c = λ read reads records says.
    let left = outputs c.args.report.now c.args.departures.now c.args.fault.now in
    let right = outputs c.replay_octets.new.report c.replay_octets.new.departures c.replay_octets.new.fault in
    let P : PortValues → Type 0 = λ values. Replays (told_by_replay (λ settings. outcome_of read settings c.stamp_of-stamp.result c.args.script.now records) (settings_at values)) c.replay_octets.result left right in
    let Q : Stamp → Type 0 = λ stamp. Replays (told_by_replay (λ settings. outcome_of read settings stamp c.args.script.now records) (settings_at (port_values c.args.values.now))) c.replay_octets.result left right in
    subst Q c.stamp_of-stamp.ensures (subst P c.port_values.ensures (c.replay_octets.ensures read reads records says))
