use Rattle.std.proofs.Common.{◌∙◌, sym}
use Rattle.text.specs.LineReader.{script_left}
use Rattle.network.specs.Reads.{seen}
use Rattle.script.specs.Given.{octets_of}
use Rattle.paths.proofs.EndLaws.{bad_schedules, if_some, map_some, unnamed, with_schedules}
use Rattle.paths.proofs.network_lines.answer_network.Goals as goal

pub returns-in_default : goal.returns-in_default
returns-in_default g c = λ read is.
    if_some _ (script_left g.S.Read.remaining c.args.schedules.now)
    (λ script. unnamed c.args.settings.now _ (octets_of c.args.next) read (seen c.args.network.now) script (sym c.target_in.ensures ∙ c.in_default.is))

pub returns-in-Ok : goal.returns-in-Ok
returns-in-Ok g c = λ read is.
    let told = rw c.new-kept.ensures.items at (c.in-Ok.ensures read is) in
    let run = rw c.as_slice.ensures.value at c.answer_told.ensures in
    map_some _ _ (script_left g.S.Read.remaining c.args.schedules.now)
    (λ script said. with_schedules c.args.settings.now _ (octets_of c.args.next) read (seen c.args.network.now) script c.in-Some.target
    (sym c.target_in.ensures ∙ c.in-Some.is) _ _ c.read_schedules.new.kept.items said run) told

pub returns : goal.returns
returns g c = λ read is.
    let told = rw c.new-kept.ensures.items at (c.in-Err.ensures read is) in
    rw c.schedules_fault.ensures (map_some _ _ (script_left g.S.Read.remaining c.args.schedules.now)
    (λ script said. bad_schedules c.args.settings.now _ (octets_of c.args.next) read (seen c.args.network.now) script c.in-Some.target
    (sym c.target_in.ensures ∙ c.in-Some.is) c.in-Err.fault c.read_schedules.new.kept.items said) told)
