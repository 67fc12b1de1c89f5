-- A frame goes from one port to another: a run of each, in which this frame comes alone.
use Rattle.std.proofs.Common.{◌≡◌, ◌<◌, ◌≤◌, inl, inr, ℕ, zero, suc, ◌+◌, ◌-◌, ◌*◌, ◌/◌, min, Bool, true, false, cond, List, [], ◌∷◌, Some, None, slice_get, refl, sym, ap, ◌∙◌, subst, arith, le_refl}
use Rattle.std.proofs.lemmas.Bool.{eq-eqb}
use Rattle.std.proofs.lemmas.Option.{none-some, same_Some, slice_get_within}
use Rattle.std.proofs.lemmas.List.Sums.{sum_by-cons}
use Rattle.wire_time.specs.Moment.{greatest_moment}
use Rattle.wire_time.specs.Wire.{occupancy_of}
use Rattle.wire_time.specs.declared.Frame.{Frame}
use Rattle.abstract_port.specs.AbstractPort.{class_for, plan_asked}
use Rattle.abstract_port.specs.declared.Change.{Change}
use Rattle.abstract_port.specs.declared.Start.{Start}
use Rattle.abstract_port.specs.Separation.{is_class}
use Rattle.abstract_port.specs.Traffic.{Came}
use Rattle.any_traffic.specs.ArrivalCurve.{ConformTo}
use Rattle.any_traffic.specs.SharedSlots.{slots_of}
use Rattle.any_traffic.specs.SlotCurve.{CoverUpTo, slot_curve, slots_for}
use Rattle.any_traffic.proofs.SharedSlots.{slots_rise}
use Rattle.any_traffic.specs.Runs.{IsScheduledRun, end_of_run}
use Rattle.any_traffic.specs.Sporadic.{curve_of}
use Rattle.any_traffic.proofs.ListLaws.{none_here, one_at}
use Rattle.burst_bounds.specs.Talkers.{curve, flows_of, sporadic_of}
use Rattle.burst_bounds.specs.declared.Talker.{Talker}
use Rattle.shared_bounds.specs.Traffic.{arrivals_of, covered_by, covered_of, frames_of, need_of, needs}
use Rattle.shared_bounds.specs.declared.ClassTraffic.{ClassTraffic}
use Rattle.claims.specs.Runs.{IsTaken, scheduled}
use Rattle.claims.specs.SharedPremises.{CanShare, SharedRunsExist, frames_to}
use Rattle.claims.proofs.Lengths.{ended, gap_within, need_of_stream}
use Rattle.claims.specs.Network.{AreNominal, Hop, IsClassRun, IsFromBefore, IsLong, IsNetworkRun, IsNumbered, IsPassedOn, IsWithin, Link, Network, NetworkPort, PortRun, gap, offered_at, started_at}
use Rattle.claims.specs.NetworkClaim.{FollowsFrom, IsTold}
use Rattle.claims.specs.NetworkRuns.{CanPass, NetworkRunsExist, Takes, forced_at}
use Rattle.claims.specs.Promise.{AreInTime, AreLong, AreWithin, IsPromise, need_at}

-- ---- one frame conforms to a curve

-- what is known of a class to which one frame comes
abbrev one_talker : ℕ → Talker
one_talker need = record { need = need; period = 1; jitter = 0 }

abbrev one_traffic : ℕ → ClassTraffic
one_traffic need = record {
  need = need;
  talkers = record { ref_ptr = (0, 0); now = one_talker need ∷ [] };
  bounds = record { wait = 0; most = 0 };
}

abbrev up_to : ℕ → ClassTraffic → List ClassTraffic
up_to zero t = t ∷ []
up_to (suc class) t = t ∷ up_to class t

at_last : (class : ℕ) (t : ClassTraffic) → slice_get (up_to class t) class ≡ Some t
at_last zero t = refl
at_last (suc class) t = at_last class t

one_comes : (need x : ℕ) → 1 ≤ curve (one_talker need ∷ []) x
one_comes need x =
    let sum = sum_by-cons (curve_of x) (sporadic_of (one_talker need)) (flows_of []) in
    omega (arith, sum)

conforms : (ps need : ℕ) (g : Came) (b : Bool) → occupancy_of ps g.frame.len ≤ need
    → ConformTo ps need (λ x. curve (one_talker need ∷ []) x) (cond b (g ∷ []) [])
conforms ps need g false le = record {
  short = λ k f e. absurd (none_here k f e);
  few = λ k n f h e i. absurd (none_here k f e);
}
conforms ps need g true le = record {
  short = short;
  few = λ k n f h e i.
      let within = slice_get_within (g ∷ []) (k + n) h i in
      let one = one_comes need (h.moment - f.moment) in
      omega (arith, within, one);
}
  where
    short : (k : ℕ) (f : Came) → slice_get (g ∷ []) k ≡ Some f → occupancy_of ps f.frame.len ≤ need
    short zero f e = subst (λ (y : Came). occupancy_of ps y.frame.len ≤ need) (same_Some g f e) le
    short (suc k) f e = absurd (none_here k f e)

no_less : (s q : ℕ) → s ≤ s * (q + 1)
no_less s q = (let parts : s * (q + 1) ≡ s * q + s = grind arith in omega (arith, parts))

covers : (ps need pitch : ℕ) (g : Came) (b : Bool) → 0 < pitch → occupancy_of ps g.frame.len ≤ need
    → CoverUpTo ps pitch (slot_curve need pitch (flows_of (one_talker need ∷ []))) (cond b (g ∷ []) [])
covers ps need pitch g false some le k n f h e i = absurd (none_here k f e)
covers ps need pitch g true some le (suc k) n f h e i = absurd (none_here k f e)
covers ps need pitch g true some le zero (suc n) f h e i =
    let next : 0 + suc n ≡ suc n = omega arith in
    absurd (none_here n h (sym (ap (slice_get (g ∷ [])) next) ∙ i))
covers ps need pitch g true some le zero zero f h e i =
    let x : ℕ = h.moment - f.moment in
    let one = sum_by-cons (slots_for ps pitch) g [] in
    let own = slots_rise (occupancy_of ps g.frame.len) need pitch some le in
    let least : min need need ≡ need = omega arith in
    let same = ap (λ d. slots_of d pitch) least in
    let more = no_less (slots_of (min need need) pitch) ((x + 0) / 1) in
    let all = sum_by-cons (λ flow. slots_of (min need flow.need) pitch * curve_of x flow) (sporadic_of (one_talker need)) (flows_of []) in
    omega (arith, one, own, same, more, all)

-- ---- a run of a port in which a frame comes alone

abbrev alone : ℕ → Frame → Came
alone m f = record { moment = m; frame = f }

record IsAlone (net : Network) (port class n : ℕ) (change : Change) (h : Hop) (f : Frame) (m : ℕ) : Type 0 where
  pub r : PortRun
  pub is : IsClassRun net port class r
  pub begins : r.command.change ≡ forced_at net port change
  pub ends : end_of_run (net.ports port).ps (net.ports port).mtu (net.ports port).room r.events ≡ greatest_moment
  pub came : offered_at net port class r ≡ alone m f ∷ []
  pub number : (j : ℕ) → r.numbers j ≡ (0, n) ∷ []

one_number : (n j k : ℕ) (x : ℕ × ℕ) → slice_get ((0, n) ∷ []) j ≡ Some x → slice_get ((0, n) ∷ []) k ≡ Some x → j ≡ k
one_number n zero zero x e f = refl
one_number n zero (suc k) x e f = absurd (none_here k x f)
one_number n (suc j) k x e f = absurd (none_here j x e)

module _ (law : SharedRunsExist) (net : Network) (port class n : ℕ) (change : Change) (h : Hop) (f : Frame) (m : ℕ)
    (t : Takes net port class change h f) (from : forced_at net port change ≤ m) (within : m ≤ greatest_moment) where
  abbrev setup : NetworkPort
  setup = net.ports port

  abbrev traffic : ℕ → List ClassTraffic
  traffic j = up_to j (one_traffic (need_at net port f.len))

  can : CanShare setup.ps setup.mtu setup.room change traffic (λ j. true) (λ j. false) (alone m f ∷ []) greatest_moment
  can = record {
    rate = t.rate;
    large = t.large;
    accepted = t.accepted;
    taken = taken;
    within = (from, within);
    clock = le_refl greatest_moment;
    conform = λ j less own. one (is_class j (class_for (scheduled setup.ps setup.mtu setup.room change) f.priority)) j;
    cover = λ j pitch less own some. one_covers pitch some (is_class j (class_for (scheduled setup.ps setup.mtu setup.room change) f.priority)) j;
    quiet = λ j less no. absurd (let z : false ≡ true = no in cc);
    others = λ j i k g less own listed no. absurd (let z : true ≡ false = no in cc);
  }
    where
      taken : (k : ℕ) (g : Came) → slice_get (alone m f ∷ []) k ≡ Some g
          → (c : ℕ) × (s : IsTaken (scheduled setup.ps setup.mtu setup.room change) c (occupancy_of setup.ps g.frame.len)) × (s.frame ≡ g.frame)
      taken zero g e = subst (λ (y : Came). (c : ℕ) × (s : IsTaken (scheduled setup.ps setup.mtu setup.room change) c
          (occupancy_of setup.ps y.frame.len)) × (s.frame ≡ y.frame)) (same_Some (alone m f) g e) (class, t.taken, t.is)
      taken (suc k) g e = absurd (none_here k g e)

      one : (b : Bool) (j : ℕ)
          → ConformTo setup.ps (needs (traffic j) j) (arrivals_of (traffic j) j) (cond b (alone m f ∷ []) [])
      one b j = subst (λ o. ConformTo setup.ps (need_of o) (λ x. frames_of o x) (cond b (alone m f ∷ []) []))
          (sym (at_last j (one_traffic (need_at net port f.len))))
          (conforms setup.ps (need_at net port f.len) (alone m f) b (le_refl (need_at net port f.len)))

      one_covers : (pitch : ℕ) → 0 < pitch → (b : Bool) (j : ℕ)
          → CoverUpTo setup.ps pitch (covered_by (traffic j) pitch j) (cond b (alone m f ∷ []) [])
      one_covers pitch some b j = subst (λ o. CoverUpTo setup.ps pitch (λ x. covered_of o pitch x) (cond b (alone m f ∷ []) []))
          (sym (at_last j (one_traffic (need_at net port f.len))))
          (covers setup.ps (need_at net port f.len) pitch (alone m f) b some (le_refl (need_at net port f.len)))

  is_alone : IsAlone net port class n change h f m
  is_alone =
      let run = law setup.ps setup.mtu setup.room change traffic (λ j. true) (λ j. false) (alone m f ∷ []) greatest_moment can in
      let sharing = run.1 in
      let leads : class_for (scheduled setup.ps setup.mtu setup.room change) f.priority ≡ Some class
      = subst (λ (y : Frame). class_for (scheduled setup.ps setup.mtu setup.room change) y.priority ≡ Some class) t.is (t.taken).leads in
      let own : frames_to (scheduled setup.ps setup.mtu setup.room change) class (alone m f ∷ []) ≡ alone m f ∷ []
      = ap (λ o. cond (is_class class o) (alone m f ∷ []) []) leads ∙ ap (λ b. cond b (alone m f ∷ []) []) (eq-eqb class class refl) in
      let r : PortRun = record { events = run.0; command = sharing.command; numbers = λ j. (0, n) ∷ [] } in
      let came : offered_at net port class r ≡ alone m f ∷ [] = run.2 class ∙ own in
      let by_plan : IsScheduledRun setup.ps setup.mtu setup.room class run.0 sharing.command (plan_asked change)
      = record { one = sharing.one class t.listed; scheduled = sharing.scheduled class t.listed refl } in
      record {
        r = r;
        is = record {
          run = subst (λ plan. IsScheduledRun setup.ps setup.mtu setup.room class run.0 sharing.command plan) (sym t.plan) by_plan;
          known = λ k g e. known r refl k g (sym (ap (λ xs. slice_get xs k) came) ∙ e) e;
          own = λ j k x e g. one_number n j k x e g;
        };
        begins = run.4;
        ends = run.3;
        came = came;
        number = λ j. refl;
      }
    where
      known : (r : PortRun) → r.numbers class ≡ (0, n) ∷ [] → (k : ℕ) (g : Came) → slice_get (alone m f ∷ []) k ≡ Some g
          → slice_get (offered_at net port class r) k ≡ Some g → (i v : ℕ) × (y : Hop) × IsNumbered net port class r k i v g y
      known r numbers zero g here e =
          (0, n, h, record { came = e; number = ap (λ xs. slice_get xs 0) numbers; hop = ap (λ xs. slice_get xs 0) t.hop })
      known r numbers (suc k) g here e = absurd (none_here k g here)

-- which frame that is
module _ (net : Network) (port class n : ℕ) (change : Change) (h : Hop) (f : Frame) (m : ℕ) (hop : net.hops port class ≡ h ∷ [])
    (a : IsAlone net port class n change h f m) where
  numbered : IsNumbered net port class a.r 0 0 n (alone m f) h
  numbered = record {
    came = ap (λ xs. slice_get xs 0) a.came;
    number = ap (λ xs. slice_get xs 0) (a.number class);
    hop = ap (λ xs. slice_get xs 0) hop;
  }

  the_one : (k i v : ℕ) (g : Came) (y : Hop) → IsNumbered net port class a.r k i v g y → (g ≡ alone m f) × (v ≡ n) × (y ≡ h)
  the_one zero i v g y is =
      let mine : ℕ × ℕ = (0, n) in
      let other : ℕ × ℕ = (i, v) in
      let pair : mine ≡ other = same_Some mine other (sym (ap (λ xs. slice_get xs 0) (a.number class)) ∙ is.number) in
      let place : 0 ≡ i = ap (λ (x : ℕ × ℕ). x.0) pair in (
        same_Some g (alone m f) (sym is.came ∙ ap (λ xs. slice_get xs 0) a.came),
        sym (ap (λ (x : ℕ × ℕ). x.1) pair),
        same_Some y h (sym is.hop ∙ (ap (slice_get (net.hops port class)) (sym place) ∙ ap (λ xs. slice_get xs 0) hop)),
      )
  the_one (suc k) i v g y is = absurd (none_here k g (sym (ap (λ xs. slice_get xs (suc k)) a.came) ∙ is.came))

-- ---- two ports

abbrev both : PortRun → PortRun → ℕ → PortRun
both a b zero = a
both a b (suc p) = b

module _ (law : SharedRunsExist) (net : Network) (c d n : ℕ) (one two : Change) (first second : Hop) (least greatest : ℕ) (f : Frame)
    (nominal : (stream n : ℕ) → ℕ) (told : IsTold net) (promise : IsPromise net 0 c)
    (can : CanPass net c d one two first second least greatest f) (moments : (s : ℕ) → AreNominal (net.streams s) (nominal s))
    (early : forced_at net 0 one + nominal first.stream n + first.earliest + first.bound.greatest < greatest_moment)
    (late : forced_at net 1 two + nominal second.stream n + second.latest ≤ greatest_moment) where
  abbrev link : Link
  link = record { port = 0; class = c; place = 0; least = least; greatest = greatest }

  -- ---- at the first

  abbrev m0 : ℕ
  m0 = forced_at net 0 one + nominal first.stream n + first.earliest

  a : IsAlone net 0 c n one first f m0
  a = is_alone law net 0 c n one first f m0 can.takes (omega arith) (omega (arith, early))

  class_is : (j : ℕ) → net.judged 0 j ≡ true → j ≡ c
  class_is j own = elim (can.only 0 j own) [ inl x ↦ x.1 | inr x ↦ (let no = x.0 in absurd (omega (arith, no))) ]

  in_window : IsWithin a.r.command.change (nominal first.stream n) first (alone m0 f)
  in_window =
      let begins = a.begins in
      let window = can.window in
      (omega (arith, begins), omega (arith, begins, window))

  long_first : AreLong net 0 c a.r
  long_first k i v g y is =
      let x = the_one net 0 c n one first f m0 (can.takes).hop a k i v g y is in
      subst (λ (z : Came). IsLong (net.streams y.stream) z) (sym x.0)
      (subst (λ (z : Hop). IsLong (net.streams z.stream) (alone m0 f)) (sym x.2) (can.takes).long)

  come_first : AreWithin net 0 c a.r nominal
  come_first k i v g y is =
      let x = the_one net 0 c n one first f m0 (can.takes).hop a k i v g y is in
      subst (λ (z : Came). IsWithin a.r.command.change (nominal y.stream v) y z) (sym x.0)
      (subst (λ w. IsWithin a.r.command.change (nominal y.stream w) y (alone m0 f)) (sym x.1)
      (subst (λ (z : Hop). IsWithin a.r.command.change (nominal z.stream n) z (alone m0 f)) (sym x.2) in_window))

  kept : AreInTime net 0 c a.r nominal
  kept = promise a.r nominal (record {
    moments = moments;
    runs = λ j own. subst (λ k. IsClassRun net 0 k a.r) (sym (class_is j own)) a.is;
    others = λ j limit e. absurd (none-some limit (sym (can.limits 0 j) ∙ e));
    long = λ j own. subst (λ k. AreLong net 0 k a.r) (sym (class_is j own)) long_first;
    come = come_first;
    before = λ j own sooner. absurd (let same = ap (net.order 0) (class_is j own) in omega (arith, sooner, same));
  })

  abbrev mine : IsNumbered net 0 c a.r 0 0 n (alone m0 f) first
  mine = numbered net 0 c n one first f m0 (can.takes).hop a

  begun : (x : Start) × (slice_get (started_at net 0 c a.r) 0 ≡ Some x)
  begun =
      let starts = kept.each 0 0 n (alone m0 f) first mine in
      let begins = a.begins in
      let ends = a.ends in
      one_at (started_at net 0 c a.r) 0 (starts.done (omega (arith, early, begins, ends)))

  -- ---- at the second

  abbrev zero_of : (port : ℕ) → Change → ℕ
  zero_of port change = forced_at net port change + (net.ports port).since

  abbrev m1 : ℕ
  m1 = (begun.0).«end» + zero_of 1 two + least - (zero_of 0 one + gap (net.ports 0).ps)

  follows : FollowsFrom net 1 second link first
  follows =
      let second_hop : slice_get (net.hops 1 d) 0 ≡ Some second = ap (λ xs. slice_get xs 0) (can.then).hop in
      let x = told.links 1 d 0 second link (can.then).judged second_hop can.link in
      let same : x.2 ≡ first = same_Some x.2 first (sym x.3 ∙ ap (λ xs. slice_get xs 0) (can.takes).hop) in
      subst (λ (b : Hop). FollowsFrom net 1 second link b) same x.4

  -- the frame is on the wire for the gap at least, and it doesn't come before moment zero
  goes : (zero_of 0 one + gap (net.ports 0).ps ≤ (begun.0).«end») × (m1 ≤ forced_at net 1 two + nominal second.stream n + second.latest)
  goes =
      let starts = kept.each 0 0 n (alone m0 f) first mine in
      let to = starts.no_later begun.0 begun.1 in
      let begins = a.begins in
      let end = ended net 0 c a.r a.is kept.all 0 0 n (alone m0 f) first begun.0 mine begun.1 in
      let from = end.0 in
      let at = end.1 in
      let needs = gap_within (net.ports 0).ps f.len in
      let since = told.talkers 0 c 0 first (can.takes).judged (ap (λ xs. slice_get xs 0) (can.takes).hop) can.talker in
      let most = (need_of_stream net 0 (net.streams second.stream) (alone m0 f) (can.then).long).1 in
      let moment : nominal first.stream n ≡ nominal second.stream n = ap (λ s. nominal s n) follows.same in
      let ends = follows.ends in
      let times = can.times in
      (omega (arith, from, at, needs, since), omega (arith, to, begins, at, most, moment, ends, times))

  b : IsAlone net 1 d n two second f m1
  b =
      let first_out = goes.0 in
      let last_in = goes.1 in
      is_alone law net 1 d n two second f m1 can.then (omega (arith, first_out)) (omega (arith, last_in, late))

  -- ---- both together

  abbrev runs : ℕ → PortRun
  runs = both a.r b.r

  passed_on : IsPassedOn net runs 1 link begun.0 (alone m1 f)
  passed_on =
      let here = a.begins in
      let there = b.begins in
      let out = goes.0 in
      let times = can.times in
      record { no_sooner = omega (arith, here, there, out); no_later = omega (arith, here, there, out, times) }

  from_before : IsFromBefore net runs 1 n link (alone m1 f)
  from_before = record {
    place = 0;
    frame = alone m0 f;
    came = mine.came;
    number = mine.number;
    same = refl;
    sent = λ none. (begun.0, begun.1, passed_on);
  }

  pick : (P : ℕ → ℕ → Type 0) → P 0 c → P 1 d → (p class : ℕ) → net.judged p class ≡ true → P p class
  pick P x y p class own = elim (can.only p class own) [
    | inl e ↦ subst (λ q. P q class) (sym e.0) (subst (P 0) (sym e.1) x)
    | inr e ↦ subst (λ q. P q class) (sym e.0) (subst (P 1) (sym e.1) y)
  ]

  is_run : IsNetworkRun net runs nominal
  is_run = record {
    moments = moments;
    ports = pick (λ p class. IsClassRun net p class (runs p)) a.is b.is;
    others = λ p class limit e. absurd (none-some limit (sym (can.limits p class) ∙ e));
    talkers = λ p class k i v g y own is e.
        pick (λ q j. (k i v : ℕ) (g : Came) (y : Hop) → IsNumbered net q j (runs q) k i v g y → y.before ≡ None
        → IsLong (net.streams y.stream) g × IsWithin (runs q).command.change (nominal y.stream v) y g)
        (λ k i v g y is e. (long_first k i v g y is, come_first k i v g y is))
        (λ k i v g y is e.
        let x = the_one net 1 d n two second f m1 (can.then).hop b k i v g y is in
        absurd (none-some link (sym e ∙ (ap (λ (z : Hop). z.before) x.2 ∙ can.link))))
        p class own k i v g y is e;
    links = λ p class k i v g y l own is e.
        pick (λ q j. (k i v : ℕ) (g : Came) (y : Hop) (l : Link) → IsNumbered net q j (runs q) k i v g y → y.before ≡ Some l
        → IsFromBefore net runs q v l g)
        (λ k i v g y l is e.
        let x = the_one net 0 c n one first f m0 (can.takes).hop a k i v g y is in
        absurd (none-some l (sym (ap (λ (z : Hop). z.before) x.2 ∙ can.talker) ∙ e)))
        (λ k i v g y l is e.
        let x = the_one net 1 d n two second f m1 (can.then).hop b k i v g y is in
        let same : l ≡ link = same_Some l link (sym e ∙ (ap (λ (z : Hop). z.before) x.2 ∙ can.link)) in
        subst (λ z. IsFromBefore net runs 1 v z g) (sym same)
        (subst (λ w. IsFromBefore net runs 1 w link g) (sym x.1)
        (subst (λ z. IsFromBefore net runs 1 n link z) (sym x.0) from_before)))
        p class own k i v g y l is e;
  }

pub network_runs_exist : SharedRunsExist → NetworkRunsExist
network_runs_exist law net c d n one two first second least greatest f nominal told promise can moments early late =
    let first_run = a law net c d n one two first second least greatest f nominal told promise can moments early late in
    let second_run = b law net c d n one two first second least greatest f nominal told promise can moments early late in (
      both first_run.r second_run.r,
      is_run law net c d n one two first second least greatest f nominal told promise can moments early late,
      alone (m1 law net c d n one two first second least greatest f nominal told promise can moments early late) f,
      numbered net 1 d n two second f (m1 law net c d n one two first second least greatest f nominal told promise can moments early late)
          (can.then).hop second_run,
      refl,
    )
