use Rattle.std.proofs.Common.{refl, ◌∙◌, rules}
use Rattle.port.specs.Words.{AbstractPort}
use Rattle.abstract_port.proofs.ScanLaws.{moved_port, step_none, step_rest}
use Rattle.port.proofs.MoveLaws.{moved_idle}
use Rattle.port.proofs.SoundLaws.{sound_by, kept_later}
use Rattle.port.proofs.Port.rest_until.Goals as goal

pub returns-then-not-rest_until-clause-sound : goal.returns-then-not-rest_until-clause-sound
returns-then-not-rest_until-clause-sound g c =
    sound_by _ _ c.rest_until.ensures.current (kept_later _ _ _ _ _ _ _ c.self.invariant.1 c.rest_until.ensures.onward) c.self.invariant.2 refl

pub invariant_of-self-2 : goal.invariant_of-self-2
invariant_of-self-2 g c = (
  c.rest_until.ensures.current,
  kept_later _ _ _ _ _ _ _ c.self.invariant.1 c.rest_until.ensures.onward,
  c.self.invariant.2,
  c.rest_until.ensures.needs ∙ c.self.invariant.3,
)

pub returns-clause-start : goal.returns-clause-start
returns-clause-start g c = λ _.
    let e = c.if-not-rest_until.ensures in
    let p : AbstractPort = c.args.self.now.port in
    let t = c.rest_until.new.self.moment in
    let k = c.rest_until.new.self.history in
    let idle = moved_idle p c.self.inside.lookout.needs (rw (← c.self.view_is) c.self.invariant.3) t (rw (← c.self.view_is) (e.idle refl)) in
    step_none p (record p { now = t; history = k }) c.args.until (moved_port p t k (rw (← c.self.view_is) (e.history refl))) (rw (← c.self.view_is) e.onward) idle (e.moment refl)

pub returns-clause-port : goal.returns-clause-port
returns-clause-port g c = λ _.
    let e = c.if-not-rest_until.ensures in
    let p : AbstractPort = c.args.self.now.port in
    let t = c.rest_until.new.self.moment in
    let k = c.rest_until.new.self.history in
    let idle = moved_idle p c.self.inside.lookout.needs (rw (← c.self.view_is) c.self.invariant.3) t (rw (← c.self.view_is) (e.idle refl)) in
    let rests = step_rest p (record p { now = t; history = k }) c.args.until (moved_port p t k (rw (← c.self.view_is) (e.history refl))) (rw (← c.self.view_is) e.onward) idle (e.moment refl) in
    rw (← c.self.view_is) (rw (← c.self.view_is) at rests)

pub returns-clause-sound : goal.returns-clause-sound
returns-clause-sound g c =
    sound_by _ _ c.rest_until.ensures.current (kept_later _ _ _ _ _ _ _ c.self.invariant.1 c.rest_until.ensures.onward) c.self.invariant.2 refl

pub rest_until-requires : goal.rest_until-requires
rest_until-requires g c = search rules

pub zero-self-inside-requires : goal.zero-self-inside-requires
zero-self-inside-requires g c = search
