use Rattle.std.proofs.Common.{subst}
use Rattle.in_memory.specs.Captures.{Replays, outputs, told_by_replay}
use Rattle.in_memory.specs.Values.{settings_at}
use Rattle.in_memory.specs.declared.values.PortValues.{PortValues}
use Rattle.replay.specs.Outcome.{outcome_of}
use Rattle.replay.specs.declared.stamps.Stamp.TheVariants as Stamps
use Rattle.taprio_c.proofs.taprio_replay.Goals as goal

pub returns : goal.returns
returns c = λ read reads records says.
    let P : PortValues → Type 0 = λ values. Replays (told_by_replay (λ settings. outcome_of read settings Stamps.Start c.args.script.now records) (settings_at values)) c.replay_octets.result (outputs c.args.report.now c.args.departures.now c.args.fault.now) (outputs c.replay_octets.new.report c.replay_octets.new.departures c.replay_octets.new.fault) in
    subst P c.port_values.ensures (c.replay_octets.ensures read reads records says)
