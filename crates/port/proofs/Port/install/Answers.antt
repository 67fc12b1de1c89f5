use Rattle.std.proofs.Common.{◌≡◌, ◌+◌, refl, arith, rules}
use Rattle.port.specs.Words.{lead_of}
use Rattle.port.proofs.Port.install.Goals as goal

pub returns-in-Delete-clause-answer : goal.returns-in-Delete-clause-answer
returns-in-Delete-clause-answer g c = rw c.in-Delete.is c.delete.ensures.answer

pub returns-in-Delete-clause-port : goal.returns-in-Delete-clause-port
returns-in-Delete-clause-port g c = rw c.in-Delete.is c.delete.ensures.port

pub returns-in-Delete-clause-hindsight : goal.returns-in-Delete-clause-hindsight
returns-in-Delete-clause-hindsight g c =
    let ends : c.now.result + c.lead.result ≡ c.args.self.now.port.now + lead_of c.args.self.now.port.ps c.args.self.now.port.mtu = rw (c.now.ensures.now, c.lead.ensures.value, ← c.self.view_is) refl in
    rw (← ends) c.delete.ensures.hindsight

pub returns-in-Replace-clause-answer : goal.returns-in-Replace-clause-answer
returns-in-Replace-clause-answer g c = rw c.in-Replace.is c.give.ensures.answer

pub returns-in-Replace-clause-port : goal.returns-in-Replace-clause-port
returns-in-Replace-clause-port g c = rw c.in-Replace.is c.give.ensures.port

pub returns-in-Replace-clause-hindsight : goal.returns-in-Replace-clause-hindsight
returns-in-Replace-clause-hindsight g c =
    let ends : c.now.result + c.lead.result ≡ c.args.self.now.port.now + lead_of c.args.self.now.port.ps c.args.self.now.port.mtu = rw (c.now.ensures.now, c.lead.ensures.value, ← c.self.view_is) refl in
    rw (← ends) c.give.ensures.hindsight

pub delete-requires : goal.delete-requires
delete-requires g c =
    let ends : c.now.result + c.lead.result ≡ c.args.self.now.port.now + lead_of c.args.self.now.port.ps c.args.self.now.port.mtu = rw (c.now.ensures.now, c.lead.ensures.value, ← c.self.view_is) refl in
    let now = c.now.ensures.sound.current.within in
    let lead = c.lead.ensures.within (rw (← c.self.view_is) at c.now.ensures.sound.mtu.1) in
    (search rules, (ends, (omega (arith, c.now.ensures.now, c.lead.ensures.above), omega (arith, c.now.ensures.now, now, lead))))

pub give-requires : goal.give-requires
give-requires g c =
    let ends : c.now.result + c.lead.result ≡ c.args.self.now.port.now + lead_of c.args.self.now.port.ps c.args.self.now.port.mtu = rw (c.now.ensures.now, c.lead.ensures.value, ← c.self.view_is) refl in
    let now = c.now.ensures.sound.current.within in
    let lead = c.lead.ensures.within (rw (← c.self.view_is) at c.now.ensures.sound.mtu.1) in
    (search rules, (ends, (omega (arith, c.now.ensures.now, c.lead.ensures.above), (omega (arith, c.now.ensures.now, now, lead), c.now.ensures.sound))))

pub now-requires : goal.now-requires
now-requires g c = search

pub lead-requires : goal.lead-requires
lead-requires g c = search
