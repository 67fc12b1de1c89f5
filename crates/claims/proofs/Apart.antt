-- A class that the one plan of a run keeps apart is kept apart in that run.
use Rattle.std.proofs.Common.{◌≡◌, ℕ, true, List, [], ◌∷◌, Some, ap, ◌∙◌}
use Rattle.std.proofs.lemmas.Option.{none-some, same_Some}
use Rattle.gates.specs.Gate.{Plan, keeps_apart}
use Rattle.gates.specs.History.{Accepted}
use Rattle.abstract_port.specs.AbstractPort.{AbstractPort, new_command, new_port, plan_asked}
use Rattle.abstract_port.specs.Answers.{answers_to}
use Rattle.abstract_port.specs.declared.Command.{Command}
use Rattle.abstract_port.specs.declared.Command.TheVariants.{Delete, Replace}
use Rattle.abstract_port.specs.declared.Event.{Event}
use Rattle.abstract_port.specs.declared.Event.TheVariants.{Arrive, Clock, Count, Install, Query}
use Rattle.abstract_port.specs.Separation.{IsApart, IsApartAt, IsKeptApart}
use Rattle.abstract_port.specs.Traffic.{IsOnly, IsOnlyAt}
use Rattle.any_traffic.specs.Runs.{AreScheduled, IsApartRun, IsScheduledAt, IsScheduledRun}

module _ (class : ℕ) (a : Accepted) (plan : Plan) (is : a.plan ≡ Some plan) (apart : keeps_apart plan.entries class ≡ true) where
  by_command : (p : AbstractPort) (c : Command) → new_command p c ≡ a → IsApart class c
  by_command p Delete same = absurd (none-some plan (ap (λ (x : Accepted). x.plan) same ∙ is))
  by_command p (Replace c) same =
      let mine : plan_asked c ≡ plan = same_Some (plan_asked c) plan (ap (λ (x : Accepted). x.plan) same ∙ is) in
      ap (λ (x : Plan). keeps_apart x.entries class) mine ∙ apart

  at_event : (event : Event) (p : AbstractPort) → IsScheduledAt class event p → IsOnlyAt a event p → IsApartAt class event p
  at_event (Arrive f) p scheduled only = scheduled
  at_event (Install c) p scheduled only = λ accepted. by_command p c.now (only accepted).1
  at_event (Clock m) p scheduled only = tt
  at_event Query p scheduled only = tt
  at_event (Count other) p scheduled only = tt

  in_events : (events : List Event) (p : AbstractPort) → AreScheduled class events p → IsOnly a events p → IsKeptApart class events p
  in_events [] p scheduled only = tt
  in_events (event ∷ rest) p scheduled only =
      (at_event event p scheduled.0 only.0, in_events rest (answers_to event p).1 scheduled.1 only.1)

pub apart_run : (ps mtu room class : ℕ) (a : Accepted) (plan : Plan) (events : List Event)
    → IsScheduledRun ps mtu room class events a plan → keeps_apart plan.entries class ≡ true
    → IsApartRun ps mtu room class events a plan
apart_run ps mtu room class a plan events r apart = record {
  one = r.one;
  apart = in_events class a plan (r.one).is apart events (new_port ps mtu room) r.scheduled (r.one).only;
}
