-- Each start of a class is that of its frame, and no sooner than its gate lets it.
use Rattle.std.proofs.Common.{◌≡◌, ◌<◌, ◌≤◌, ℕ, ◌+◌, ◌-◌, true, ◌⊎◌, inl, inr, List, [], ◌∷◌, slice_get, sym, ap, ◌∙◌, subst, arith, le_refl}
use Rattle.std.proofs.lemmas.Bool.{both_ways, cases_lt}
use Rattle.std.proofs.lemmas.Option.{same_Some}
use Rattle.wire_time.specs.Wire.{occupancy_of}
use Rattle.gates.proofs.OpenLaws.{open_within}
use Rattle.gates.specs.History.{gates, open_through}
use Rattle.abstract_port.specs.declared.Event.{Event}
use Rattle.abstract_port.specs.declared.Start.{Start}
use Rattle.abstract_port.specs.AbstractPort.{AbstractPort, new_port}
use Rattle.abstract_port.specs.Answers.{answers_of, answers_to, port_after}
use Rattle.abstract_port.specs.Laws.{starts_in}
use Rattle.abstract_port.specs.Hindsight.{IsOpenBy}
use Rattle.abstract_port.specs.Separation.{IsKeptApart}
use Rattle.abstract_port.specs.Served.{start_at}
use Rattle.abstract_port.specs.Traffic.{Came, queued_in}
use Rattle.abstract_port.proofs.SeparateRunLaws.{keeping}
use Rattle.delay_bounds.proofs.GateLaws.{same_gates}
use Rattle.delay_bounds.specs.Walk.{may_by}
use Rattle.any_traffic.specs.Runs.{AreScheduled}
use Rattle.any_traffic.specs.Starts.{ApartRunLaw, LeastStartLaw, OwnStartsLaw}
use Rattle.any_traffic.proofs.ListLaws.{none_here}
use Rattle.any_traffic.proofs.Offered.{scheduled_at}
use Rattle.any_traffic.proofs.Sharing.{SharedHolds, shared_run}
use Rattle.any_traffic.proofs.StartLaws.{class_of, class_one, own_shared, start_frame, start_holds}

apart_scheduled : (class : ℕ) (events : List Event) (p : AbstractPort) → IsKeptApart class events p → AreScheduled class events p
apart_scheduled class [] p k = tt
apart_scheduled class (event ∷ rest) p k = (scheduled_at class event p k.0, apart_scheduled class rest (answers_to event p).1 k.1)

pub apart_run_law : ApartRunLaw
apart_run_law ps mtu room class a plan events r =
    record { one = r.one; scheduled = apart_scheduled class events (new_port ps mtu room) r.apart }

pub own_starts_law : OwnStartsLaw
own_starts_law ps mtu room class a plan events r k x e =
    let rate = (r.one).rate in
    let held = shared_run class a ps (r.one).listed (let z : 0 < ps = omega (arith, rate) in z) mtu room events (r.one).large r.scheduled
    (r.one).only in
    let f = start_frame (open_through (a ∷ []) class) ps class _ 0 _ _ _ _ _ held.served k x e in
    (f.0, f.1, own_shared (open_through (a ∷ []) class) ps class _ 0 _ _ _ _ _ held.served k f.0 x f.1 e, f.2)

pub least_start_law : LeastStartLaw
least_start_law ps mtu room class d m s k a plan events f x r there e late long first =
    by held.phase
  where
    p : AbstractPort
    p = new_port ps mtu room

    held : SharedHolds class a ps (r.one).listed (let rate = (r.one).rate in let z : 0 < ps = omega (arith, rate) in z)
        (port_after events p)
        (queued_in class events p) (starts_in (answers_of events p))
    held = (let rate = (r.one).rate in shared_run class a ps (r.one).listed
        (let z : 0 < ps = omega (arith, rate) in z) mtu room events (r.one).large r.scheduled (r.one).only)

    own : (f.moment ≤ x.at) × (x ≡ start_at ps class x.at f.frame)
    own =
        let mine = own_starts_law ps mtu room class a plan events r k x e in
        let same : mine.0 ≡ f = same_Some mine.0 f (sym mine.1 ∙ there) in
        let from = mine.3 in
        let moment = ap (λ (y : Came). y.moment) same in
        (omega (arith, from, moment), subst (λ (y : Came). x ≡ start_at ps class x.at y.frame) same mine.2)

    after : (port_after events p).history ≡ a ∷ [] → a.change + s ≤ x.at
    after full = elim (cases_lt x.at (a.change + s)) [
      | inr fits ↦ fits
      | inl early ↦
          let place = class_one class (starts_in (answers_of events p)) k x e in
          let from = own.0 in
          let ends : x.«end» ≡ x.at + occupancy_of ps f.frame.len = ap (λ (y : Start). y.«end») own.1 in
          let at : a.change + (x.at - a.change) ≡ x.at = omega (arith, from, late) in
          let opened = subst (λ h. open_through h x.class x.at (x.«end» - x.at) ≡ true) full
          (start_holds (IsOpenBy (port_after events p).history) (answers_of events p)
          (keeping ps mtu room (r.one).rate (r.one).large events).open_by_end place.0 x place.1) in
          let mine = subst (λ c. open_through (a ∷ []) c x.at (x.«end» - x.at) ≡ true)
          (class_of class (starts_in (answers_of events p)) k x e) opened in
          let short = open_within (gates (a ∷ [])) class x.at (x.«end» - x.at) x.at d mine (le_refl x.at) (omega (arith, ends, long)) in
          let by : may_by plan class (x.at - a.change) d ≡ true = sym
          (ap (λ g. g (x.at - a.change) d) (same_gates a plan (r.one).is (r.one).above class)) ∙
          (ap (λ t. open_through (a ∷ []) class t d) at ∙ short) in
          absurd (both_ways _ (first.least (x.at - a.change) (omega (arith, from, late)) (omega (arith, early, from, late))) by)
    ]

    by : ((port_after events p).history ≡ a ∷ []) ⊎ (((port_after events p).history ≡ []) × (queued_in class events p ≡ []))
        → a.change + s ≤ x.at
    by (inl full) = after full
    by (inr none) = absurd (none_here k f (sym (ap (λ xs. slice_get xs k) none.1) ∙ there))
