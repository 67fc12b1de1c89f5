use Rattle.std.proofs.Common.{Bool, true, subst}
use Rattle.in_memory.specs.Slices.{Answers, slices, told_by}
use Rattle.in_memory.specs.Values.{rate_at}
use Rattle.schedule_check.specs.CheckEnd.{usual}
use Rattle.schedule_check.specs.Checked.{whole_check}
use Rattle.script.specs.Texts.{script_telling}
use Rattle.taprio_c.proofs.taprio_check_shares.Goals as goal

pub returns : goal.returns
returns c = λ tell tells read reads.
    let P : Bool → Type 0 = λ windows. Answers (told_by script_telling (λ ps. whole_check tell (usual true windows ps) read c.args.schedules.now) (rate_at c.args.rate)) c.check_octets.result (slices c.args.output.now c.args.fault.now) (slices c.check_octets.new.output c.check_octets.new.fault) in
    subst P c.is_wanted-windows.ensures (c.check_octets.ensures tell tells read reads)
