use Rattle.std.proofs.Common.{◌≤◌, arith, None, sym, subst}
use Rattle.std.proofs.Common.{refl}
use Rattle.script.specs.Walked.{IsSilent}
use Rattle.script.specs.Words.{Event}
use Rattle.script.proofs.ClockLaws.{start_none}
use Rattle.script.proofs.script_walk.rests.Goals as goal

pub returns-clause-rests : goal.returns-clause-rests
returns-clause-rests g c = λ silent.
    let e = c.rest_until.ensures in
    let until = c.in-Clock.until in
    let p = c.args.port.now.port in
    let later = subst (λ n. n ≤ until) c.now.ensures.now c.if-until-now.false in
    let none = start_none until p c.rest_until.new.self.port c.now.ensures.sound later c.if-until-gt-MAX_MOMENT.false None (sym (e.start silent)) (e.port silent) e.sound refl in
    let P : Event → Type 0 = λ event. IsSilent event c.args.port.now c.rest_until.new.self in
    subst P (sym c.in-Clock.is) (record {
      answers = none.0;
      port = none.1;
      sound = e.sound;
      few = (let none_seen = e.visits silent in omega (arith, none_seen));
    })
