-- What a port looks at while it answers a request.
use Rattle.std.proofs.Common.{◌≡◌, ◌≤◌, ◌+◌, ◌*◌, max, false, Option, Some, None, refl, arith}
use Rattle.std.specs.Prelude.{IfSome, ⊤}
use Rattle.port.specs.Steps.{makes_step}
use Rattle.port.specs.Words.{longest}
pub use Rattle.port.proofs.FewLaws.{HasFew, few_first}
use Rattle.port.proofs.FewLaws.{few_more}
use Rattle.abstract_port.specs.Asked.{Gives, IsOneStart}
use Rattle.script.specs.Words.{Answer, Event, PortState}

-- one answer more, or none
pub few_answered : (p : PortState) (asked : Option Event) (q : PortState) → HasFew ⊤ p asked q → (answer : Option Answer) (left : Option Event) (r : PortState) → Gives asked q.port answer left r.port
    → (IfSome asked (λ event. makes_step q.port.now event ≡ false) → r.visits ≡ q.visits) → r.visits ≤ max q.visits (16 * (longest q.port.history + 1)) → HasFew ⊤ p left r
few_answered p None q so_far answer left r gives same few = (λ any. (let all = so_far.0 tt in let stays = same tt in omega (arith, all, stays)), by left gives.more)
  where
    by : (l : Option Event) → IfSome l (λ e. IsOneStart e None q.port answer r.port) → IfSome l (λ e. longest r.port.history ≤ longest p.port.history)
    by None one = tt
    by (Some e) one = absurd (let none = one.same in cc)
few_answered p (Some event) q so_far answer left r gives same few = few_more ⊤ p (Some event) q so_far refl answer left r gives.more (λ any. few)

-- a step of a clock event
pub few_stepped : (p : PortState) (event : Event) (q : PortState) → HasFew ⊤ p (Some event) q → (answer : Option Answer) (left : Option Event) (r : PortState) → IfSome left (λ e. IsOneStart e (Some event) q.port answer r.port)
    → r.visits ≤ 16 * (longest q.port.history + 1) → HasFew ⊤ p left r
few_stepped p event q so_far answer left r more few = few_more ⊤ p (Some event) q so_far refl answer left r more (λ any. omega (arith, few))
