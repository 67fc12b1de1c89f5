-- The claim, from the laws of every run: class by class, from the highest down.
use Rattle.std.proofs.Common.{◌≡◌, ◌<◌, ◌≤◌, ◌⊎◌, inl, inr, ℕ, zero, suc, ◌+◌, ◌-◌, Bool, true, false, not, List, slice_get, Some, IfSome, refl, sym, ap, ◌∙◌, subst, arith}
use Rattle.std.proofs.Math.Nat.{mul-le-mul_right}
use Rattle.std.proofs.lemmas.Bool.{cases_Bool}
use Rattle.gates.specs.Gate.{Plan}
use Rattle.abstract_port.specs.AbstractPort.{AbstractPort, new_port}
use Rattle.abstract_port.specs.Answers.{answers_of}
use Rattle.abstract_port.specs.Laws.{starts_in}
use Rattle.abstract_port.specs.declared.Event.{Event}
use Rattle.abstract_port.specs.declared.Start.{Start}
use Rattle.abstract_port.specs.Traffic.{Came, offered_in, queued_in}
use Rattle.any_traffic.specs.Runs.{IsScheduledRun, offered, queued, started}
use Rattle.any_traffic.specs.SharedRuns.{IsSharedInTime, KeepStartCurve}
use Rattle.any_traffic.specs.SharedSlots.{slots_of}
use Rattle.any_traffic.specs.StartCurve.{start_curve}
use Rattle.any_traffic.proofs.ListLaws.{none_here, one_at}
use Rattle.any_traffic.proofs.Offered.{are_part}
use Rattle.any_traffic.proofs.PartLaws.{part_at}
use Rattle.any_traffic.proofs.SharedSlots.{slots_rise}
use Rattle.any_traffic.proofs.Sharing.{shared_run}
use Rattle.any_traffic.proofs.StartCurveLaws.{start_curve_law}
use Rattle.any_traffic.proofs.StartLaws.{class_of, class_one, long_at}
use Rattle.burst_bounds.specs.declared.Bounds.{Bounds}
use Rattle.shared_bounds.specs.Traffic.{IsTraffic, covered_by, covered_of, need_of, needs, start_curves, starts_of}
use Rattle.shared_bounds.specs.declared.ClassTraffic.{ClassTraffic}
use Rattle.shared_bounds.proofs.RunLaws.{least_law}
use Rattle.shared_bounds.proofs.TrafficLaws.{all_known, covered_rises, slots_go_up}
use Rattle.claims.specs.OtherClasses.{TakesUpTo}
use Rattle.claims.specs.SharedClaim.{AreJudged, IsHigher, IsSharingRun, SharedClaim}
use Rattle.claims.proofs.OtherLaws.{others_law}

not_false : (b : Bool) → not b ≡ false → b ≡ true
not_false true e = refl
not_false false e = absurd (let z : true ≡ false = e in cc)

module _ (plan : Plan) (traffic : ℕ → List ClassTraffic) (bounds : ℕ → Bounds) (judged silent : ℕ → Bool)
    (is : AreJudged plan traffic bounds judged silent) (ps mtu room : ℕ) (events : List Event)
    (r : IsSharingRun ps mtu room plan traffic judged silent events) where
  abbrev fresh : AbstractPort
  fresh = new_port ps mtu room

  -- what is said of a class that is judged
  abbrev IsKept : ℕ → Type 0
  IsKept class = IsSharedInTime ps mtu room events class (bounds class).wait (bounds class).most

  run_of : (class : ℕ) → class < 8 → judged class ≡ true → IsScheduledRun ps mtu room class events r.command plan
  run_of class less j = record { one = r.one class less; scheduled = r.scheduled class less j }

  -- what a queue takes it is offered
  is_offered : (class k : ℕ) (f : Came) → class < 8 → slice_get (queued ps mtu room class events) k ≡ Some f
      → (m : ℕ) × (slice_get (offered ps mtu room class events) m ≡ Some f)
  is_offered class k f less e =
      let there = part_at (queued_in class events fresh) (offered_in class events fresh) k f
      (are_part class events fresh (r.one class less).large) e in
      (there.0, there.1)

  -- ---- how long frames need the wire

  -- those that are taken of a class that is judged, and of one of which nothing comes
  takes : (class j : ℕ) → judged class ≡ true → j < 8 → not (judged j) ≡ false → TakesUpTo ps mtu room events j (needs (traffic class) j)
  takes class j is_judged less own k f e =
      let one = not_false (judged j) own in
      let there = is_offered j k f less e in
      let short = (r.conform j less one).short there.0 f there.1 in
      let known = is.need class j is_judged one in
      omega (arith, short, known)

  takes_none : (need : ℕ → ℕ) (j : ℕ) → j < 8 → not (silent j) ≡ false → TakesUpTo ps mtu room events j (need j)
  takes_none need j less own k f e =
      let there = is_offered j k f less e in
      absurd (none_here there.0 f (sym (ap (λ xs. slice_get xs there.0) (r.quiet j less (not_false (silent j) own))) ∙ there.1))

  -- a start of a class of which nothing comes
  silent_short : (class : ℕ) → class < 8 → (need : ℕ → ℕ) (k : ℕ) (x : Start) → slice_get (starts_in (answers_of events fresh)) k ≡ Some x
      → silent x.class ≡ true → x.«end» ≤ x.at + need x.class
  silent_short class less need k x e quiet =
      let one = r.one class less in
      others_law ps mtu room need (λ c. not (silent c)) events one.rate one.large (λ i listed own. takes_none need i listed own) k x e (ap not quiet)

  short : (class : ℕ) → class < 8 → judged class ≡ true → (k : ℕ) (x : Start) → slice_get (starts_in (answers_of events fresh)) k ≡ Some x
      → x.«end» ≤ x.at + needs (traffic class) x.class
  short class less j k x e = elim (cases_Bool (judged x.class)) [
    | inl own ↦
        let one = r.one class less in
        others_law ps mtu room (needs (traffic class)) (λ c. not (judged c)) events one.rate one.large
        (λ i listed mine. takes class i j listed mine) k x e (ap not own)
    | inr other ↦ elim (cases_Bool (silent x.class)) [
      | inl quiet ↦ silent_short class less (needs (traffic class)) k x e quiet
      | inr sends ↦ r.others class k x less j e other sends
    ]
  ]

  -- so there is none
  none_starts : (class : ℕ) → class < 8 → judged class ≡ true → (j : ℕ) → silent j ≡ true → (k : ℕ) (x : Start)
      → slice_get (started ps mtu room j events) k ≡ Some x → ⊥
  none_starts class less is_judged j quiet k x e =
      let one = r.one class less in
      let rate = one.rate in
      let held = shared_run class r.command ps less (let z : 0 < ps = omega (arith, rate) in z) mtu room events one.large
      (r.scheduled class less is_judged) one.only in
      let there = class_one j (starts_in (answers_of events fresh)) k x e in
      let long = long_at (starts_in (answers_of events fresh)) there.0 x held.long there.1 in
      let is_one = class_of j (starts_in (answers_of events fresh)) k x e in
      let short_one = silent_short class less (λ c. 0) there.0 x there.1 (ap silent is_one ∙ quiet) in
      omega (arith, long, short_one)

  -- ---- from the highest class down

  -- the starts of a higher class whose bounds hold keep the start curves that are known of it
  keeps : (class j : ℕ) (t : ClassTraffic) → judged class ≡ true → IsHigher plan class j → judged j ≡ true
      → slice_get (traffic class) j ≡ Some t → IsKept j → (pitch : ℕ) → 0 < pitch
      → KeepStartCurve pitch (start_curves (traffic class) pitch j) (started ps mtu room j events)
  keeps class j t own above is_judged e held pitch some =
      subst (λ o. KeepStartCurve pitch (λ y. starts_of o pitch y) (started ps mtu room j events)) (sym e)
      (record {
        rises = λ x y le.
            let a = slots_go_up t known pitch x y le in
            let b = slots_go_up t known pitch (x + t.bounds.wait) (y + t.bounds.wait) (omega (arith, le)) in
            omega (arith, a, b);
        few = λ k n x y f g.
            let a = kept.few k n x y f g in
            let b = no_more (y.at - x.at) in
            omega (arith, a, b);
      })
    where
      known : IsTraffic t
      known = subst (λ o. IfSome o IsTraffic) e (all_known (traffic class) (is.known class own) j)

      own_need : ℕ
      own_need = needs (traffic j) j

      kept : KeepStartCurve pitch (start_curve (slots_of own_need pitch) (covered_by (traffic j) pitch j) (bounds j).most (bounds j).wait)
          (started ps mtu room j events)
      kept = start_curve_law ps mtu room j own_need pitch (bounds j).wait (bounds j).most (covered_by (traffic j) pitch j) r.command plan events
          (run_of j above.1 is_judged) some (r.conform j above.1 is_judged).short (r.cover j pitch above.1 is_judged some)
          (covered_rises (traffic j) (is.known j is_judged) pitch j) held

      come : (x : ℕ) → covered_by (traffic j) pitch j x ≤ covered_of (Some t) pitch x
      come x =
          let all = is.come class j pitch x own above is_judged some in
          let here = ap (λ o. covered_of o pitch x) e in
          omega (arith, all, here)

      no_more : (y : ℕ) → start_curve (slots_of own_need pitch) (covered_by (traffic j) pitch j) (bounds j).most (bounds j).wait y
          ≤ starts_of (Some t) pitch y
      no_more y =
          let bound = is.bound class j t own above is_judged e in
          let a = come y in
          let b = come (y + t.bounds.wait) in
          let need = is.need class j own is_judged in
          let here = ap need_of e in
          let longest = slots_rise own_need t.need pitch some (omega (arith, need, here)) in
          let waiting = mul-le-mul_right t.bounds.most longest in
          subst (λ (c : Bounds). start_curve (slots_of own_need pitch) (covered_by (traffic j) pitch j) c.most c.wait y ≤ starts_of (Some t) pitch y)
          bound (omega (arith, a, b, waiting))

  -- so do those of one of which nothing comes: there are none
  quiet_keeps : (class j : ℕ) (t : ClassTraffic) → class < 8 → judged class ≡ true → silent j ≡ true → slice_get (traffic class) j ≡ Some t
      → (pitch : ℕ) → KeepStartCurve pitch (start_curves (traffic class) pitch j) (started ps mtu room j events)
  quiet_keeps class j t less own quiet e pitch = subst (λ o. KeepStartCurve pitch (λ y. starts_of o pitch y) (started ps mtu room j events)) (sym e)
      (record {
        rises = λ x y le.
            let a = slots_go_up t known pitch x y le in
            let b = slots_go_up t known pitch (x + t.bounds.wait) (y + t.bounds.wait) (omega (arith, le)) in
            omega (arith, a, b);
        few = λ k n x y f g. absurd (none_starts class less own j quiet k x f);
      })
    where
      known : IsTraffic t
      known = subst (λ o. IfSome o IsTraffic) e (all_known (traffic class) (is.known class own) j)

  in_time : (n class : ℕ) → 8 ≤ class + n → class < 8 → judged class ≡ true → IsKept class
  in_time zero class far less j = absurd (omega (arith, far, less))
  in_time (suc n) class far less j =
      let least = (is.least class j).1 in
      let size = is.eight class j in
      least_law ps mtu room class (is.least class j).0 (bounds class).wait (bounds class).most (traffic class) r.command plan events
      size (is.known class j) least (record {
        run = run_of class less j;
        short = short class less j;
        conform = r.conform class less j;
        above = λ pitch i k some at.
            let share = least.share in
            let up = share.above i k at in
            let listed = share.listed i k at in
            let one = one_at (traffic class) k (omega (arith, listed, size)) in
            by k one.0 (up, listed, share.share i k at) one.1 (is.higher class k j (up, listed, share.share i k at))
            (λ other. in_time n k (omega (arith, far, up)) listed other) pitch some;
      })
    where
      by : (k : ℕ) (t : ClassTraffic) → IsHigher plan class k → slice_get (traffic class) k ≡ Some t → (judged k ≡ true) ⊎ (silent k ≡ true)
          → (judged k ≡ true → IsKept k) → (pitch : ℕ) → 0 < pitch
          → KeepStartCurve pitch (start_curves (traffic class) pitch k) (started ps mtu room k events)
      by k t above e (inl other) held pitch some = keeps class k t j above other e (held other) pitch some
      by k t above e (inr quiet) held pitch some = quiet_keeps class k t less j quiet e pitch

pub shared : SharedClaim
shared plan traffic bounds judged silent is ps mtu room events r class less j =
    in_time plan traffic bounds judged silent is ps mtu room events r 8 class (omega arith) less j
