-- Two ports of 1 Gb/s whose schedules open class 5 alone, always. A stream of 118 octets goes through both, each 100 us at the most, over a
-- link of 500 ns; the clocks differ by a nanosecond, and the second schedule came into force 300 ns earlier.
use Rattle.std.proofs.Common.{◌≡◌, ◌<◌, ◌≤◌, ◌⊎◌, inl, inr, ℕ, zero, suc, ◌+◌, ◌-◌, ◌*◌, Bool, true, false, cond, eqb, List, [], ◌∷◌, Some, None, slice_get, refl, sym, ap, ◌∙◌, subst, arith, le_refl}
use Rattle.std.proofs.lemmas.Bool.{both_ways, cases_lt, eqb-true, false≢true}
use Rattle.std.proofs.lemmas.Option.{none-some, same_Some}
use Rattle.wire_time.specs.declared.Frame.{Frame}
use Rattle.gates.specs.Gate.{Plan}
use Rattle.gates.proofs.OpenLaws.{open_from}
use Rattle.abstract_port.specs.AbstractPort.{plan_asked}
use Rattle.abstract_port.specs.declared.Change.{Change}
use Rattle.abstract_port.specs.Served.{IsFirst}
use Rattle.delay_bounds.specs.Walk.{may_by}
use Rattle.any_traffic.specs.Slots.{IsSlot}
use Rattle.any_traffic.specs.Sporadic.{AreFlows, Sporadic, curve_of_all}
use Rattle.any_traffic.proofs.ListLaws.{none_here}
use Rattle.burst_bounds.specs.Least.{AreLeast}
use Rattle.claims.specs.LateClaim.{CurveClaim}
use Rattle.claims.specs.SharedPremises.{SharedRunsExist}
use Rattle.claims.proofs.CurveLaws.{curve_promise}
use Rattle.claims.proofs.NetworkRuns.{network_runs_exist}
use Rattle.claims.specs.Network.{Hop, Link, Network}
use Rattle.claims.specs.NetworkClaim.{FollowsFrom, IsJudged, IsTold}
use Rattle.claims.specs.NetworkRuns.{CanPass, PremisesAreMet, Takes}
use Rattle.claims.specs.Promise.{AreByWait, IsByCurve}

-- ---- the network

abbrev change : Change
change = record {
  map = Some (record { num_tc = 8; classes = 0 ∷ 1 ∷ 2 ∷ 3 ∷ 4 ∷ 5 ∷ 6 ∷ 7 ∷ 0 ∷ 0 ∷ 0 ∷ 0 ∷ 0 ∷ 0 ∷ 0 ∷ 0 ∷ [] });
  queues = None;
  max_sdu = None;
  list = (record { mask = 32; interval = 1000000 }) ∷ [];
  base_ns = 0;
  cycle_ns = 0;
  extension_ns = 0;
}

abbrev plan : Plan
plan = plan_asked change

abbrev link : Link
link = record { port = 0; class = 5; place = 0; least = 500000; greatest = 500000 }

abbrev first : Hop
first = record { stream = 0; before = None; earliest = 0; latest = 0; bound = record { least = 0; greatest = 0 } }

abbrev second : Hop
second = record { stream = 0; before = Some link; earliest = 1839000; latest = 1841000; bound = record { least = 0; greatest = 2000 } }

abbrev since_of : ℕ → ℕ
since_of zero = 0
since_of (suc p) = 300000

abbrev hops_of : (port class : ℕ) → List Hop
hops_of zero class = cond (eqb class 5) (first ∷ []) []
hops_of (suc zero) class = cond (eqb class 5) (second ∷ []) []
hops_of (suc (suc p)) class = []

abbrev judged_of : (port class : ℕ) → Bool
judged_of zero class = eqb class 5
judged_of (suc zero) class = eqb class 5
judged_of (suc (suc p)) class = false

abbrev net : Network
net = record {
  ports = λ p. record { ps = 8000; mtu = 1500; room = 8; plan = plan; since = since_of p };
  streams = λ s. record { shortest = 118; longest = 118; period = 100000000; jitter = 0; offset = None };
  hops = hops_of;
  judged = judged_of;
  order = λ p class. p;
  limit = λ p class. None;
  clocks = 1000;
}

-- ---- the gate is always open

always : (m d : ℕ) → may_by plan 5 m d ≡ true
always m d = open_from _ 5 m d (λ n from below. refl)

first_at : (t : ℕ) → IsFirst (may_by plan 5) 1136000 t t
first_at t = record { from = le_refl t; fits = always t 1136000; least = λ m from below. absurd (omega (arith, from, below)) }

slot_at : (n t : ℕ) → IsSlot (may_by plan 5) 1136000 t n (t + n * 1136000)
slot_at zero t = (let same : t ≡ t + 0 * 1136000 = omega arith in subst (λ s. IsFirst (may_by plan 5) 1136000 t s) same (first_at t))
slot_at (suc n) t =
    let same : t + 1136000 + n * 1136000 ≡ t + suc n * 1136000 = omega arith in
    (t, first_at t, subst (λ s. IsSlot (may_by plan 5) 1136000 (t + 1136000) n s) same (slot_at n (t + 1136000)))

no_later : (t s : ℕ) → IsFirst (may_by plan 5) 1136000 t s → s ≤ t
no_later t s h = elim (cases_lt t s) [
  | inr le ↦ le
  | inl less ↦ absurd (both_ways _ (h.least t (le_refl t) less) (always t 1136000))
]

slot_is : (n t s : ℕ) → IsSlot (may_by plan 5) 1136000 t n s → s ≤ t + n * 1136000
slot_is zero t s h = (let le = no_later t s h in omega (arith, le))
slot_is (suc n) t s h =
    let one = no_later t h.0 h.1 in
    let rest = slot_is n (h.0 + 1136000) s h.2 in
    omega (arith, one, rest)

-- ---- bounds

abbrev talker : ℕ → List Sporadic
talker jitter = (record { need = 1136000; period = 100000000; jitter = jitter }) ∷ []

are_flows : (jitter : ℕ) → AreFlows 1136000 (talker jitter)
are_flows jitter zero flow e = subst (λ (x : Sporadic). (0 < x.period) × (x.need ≤ 1136000)) (same_Some _ flow e) (omega arith, omega arith)
are_flows jitter (suc i) flow e = absurd (none_here i flow e)

-- a frame starts when it comes, and none waits behind another
are_least : (jitter : ℕ) → jitter ≤ 2000 → AreLeast plan 5 1136000 (curve_of_all (talker jitter)) 0 1
are_least jitter small = record {
  are = record {
    soon = λ t x. (t + (curve_of_all (talker jitter) x - 1) * 1136000, slot_at (curve_of_all (talker jitter) x - 1) t, omega (arith, small));
    few = λ t x n s slot after. (let late = slot_is n t s slot in omega (arith, late, after, small));
  };
  wait_least = λ w m b. omega arith;
  most_least = λ w m b. (let one = b.few 0 0 0 0 (first_at 0) (omega arith) in omega (arith, one));
}

at_first : IsByCurve net 0 5
at_first = record {
  apart = refl;
  need = 1136000;
  wait = 0;
  most = 1;
  talkers = are_flows 0;
  least = are_least 0 (omega arith);
  room = omega arith;
  bounds = bounds;
}
  where
    bounds : AreByWait net 0 5 0
    bounds zero h e = subst (λ (y : Hop). (y.bound.least ≡ 0) × (y.latest + 0 ≤ y.earliest + y.bound.greatest)) (same_Some first h e)
        (refl, omega arith)
    bounds (suc i) h e = absurd (none_here i h e)

at_second : IsByCurve net 1 5
at_second = record {
  apart = refl;
  need = 1136000;
  wait = 0;
  most = 1;
  talkers = are_flows 2000;
  least = are_least 2000 (omega arith);
  room = omega arith;
  bounds = bounds;
}
  where
    bounds : AreByWait net 1 5 0
    bounds zero h e = subst (λ (y : Hop). (y.bound.least ≡ 0) × (y.latest + 0 ≤ y.earliest + y.bound.greatest)) (same_Some second h e)
        (refl, omega arith)
    bounds (suc i) h e = absurd (none_here i h e)

at_five : (P : ℕ → Type 0) → P 5 → (class : ℕ) → eqb class 5 ≡ true → P class
at_five P x class e = subst P (sym (eqb-true class 5 e)) x

are_judged : (p class : ℕ) → net.judged p class ≡ true → IsJudged net p class
are_judged zero class own = at_five (λ c. IsJudged net 0 c) (inr (inr (inl at_first))) class own
are_judged (suc zero) class own = at_five (λ c. IsJudged net 1 c) (inr (inr (inl at_second))) class own
are_judged (suc (suc p)) class own = absurd (false≢true own)

-- ---- what is told

follows : FollowsFrom net 1 second link first
follows = record { same = refl; begins = omega arith; ends = omega arith }

abbrev IsTalker : ℕ → ℕ → Type 0
IsTalker p class = (i : ℕ) (h : Hop) → slice_get (net.hops p class) i ≡ Some h → h.before ≡ None → h.earliest ≡ (net.ports p).since

of_first : IsTalker 0 5
of_first zero h e none = sym (ap (λ (y : Hop). y.earliest) (same_Some first h e))
of_first (suc i) h e none = absurd (none_here i h e)

of_second : IsTalker 1 5
of_second zero h e none = absurd (none-some link (sym none ∙ sym (ap (λ (y : Hop). y.before) (same_Some second h e))))
of_second (suc i) h e none = absurd (none_here i h e)

by_talker : (p class : ℕ) → net.judged p class ≡ true → IsTalker p class
by_talker zero class own = at_five (IsTalker 0) of_first class own
by_talker (suc zero) class own = at_five (IsTalker 1) of_second class own
by_talker (suc (suc p)) class own = absurd (false≢true own)

abbrev IsLinked : ℕ → ℕ → Type 0
IsLinked p class = (i : ℕ) (h : Hop) (l : Link) → slice_get (net.hops p class) i ≡ Some h → h.before ≡ Some l
    → (net.judged l.port l.class ≡ true) × (net.order l.port l.class < net.order p class)
    × (b : Hop) × (slice_get (net.hops l.port l.class) l.place ≡ Some b) × FollowsFrom net p h l b

to_first : IsLinked 0 5
to_first zero h l e some = absurd (none-some l (ap (λ (y : Hop). y.before) (same_Some first h e) ∙ some))
to_first (suc i) h l e some = absurd (none_here i h e)

to_second : IsLinked 1 5
to_second zero h l e some =
    let same : second ≡ h = same_Some second h e in
    let way : link ≡ l = same_Some link l (ap (λ (y : Hop). y.before) same ∙ some) in
    subst (λ (y : Hop). (net.judged l.port l.class ≡ true) × (net.order l.port l.class < net.order 1 5)
    × (b : Hop) × (slice_get (net.hops l.port l.class) l.place ≡ Some b) × FollowsFrom net 1 y l b) same
    (subst (λ (z : Link). (net.judged z.port z.class ≡ true) × (net.order z.port z.class < net.order 1 5)
    × (b : Hop) × (slice_get (net.hops z.port z.class) z.place ≡ Some b) × FollowsFrom net 1 second z b) way
    (refl, omega arith, first, refl, follows))
to_second (suc i) h l e some = absurd (none_here i h e)

by_link : (p class : ℕ) → net.judged p class ≡ true → IsLinked p class
by_link zero class own = at_five (IsLinked 0) to_first class own
by_link (suc zero) class own = at_five (IsLinked 1) to_second class own
by_link (suc (suc p)) class own = absurd (false≢true own)

told : IsTold net
told = record {
  talkers = λ p class i h own e none. by_talker p class own i h e none;
  links = λ p class i h l own e some. by_link p class own i h l e some;
}

-- ---- a frame

abbrev sent : Frame
sent = record { id = 0; priority = 5; len = 118; tagged = true }

abbrev nominal : (stream n : ℕ) → ℕ
nominal s n = 100000000 * n

takes_first : Takes net 0 5 change first sent
takes_first = record {
  rate = omega arith;
  large = omega arith;
  plan = refl;
  accepted = refl;
  listed = omega arith;
  judged = refl;
  taken = record { frame = sent; leads = refl; sdu = 100; whole = refl; short = omega arith; limited = λ some. absurd (omega (arith, some)); lasts = refl };
  is = refl;
  hop = refl;
  long = (omega arith, omega arith);
}

takes_second : Takes net 1 5 change second sent
takes_second = record {
  rate = omega arith;
  large = omega arith;
  plan = refl;
  accepted = refl;
  listed = omega arith;
  judged = refl;
  taken = record { frame = sent; leads = refl; sdu = 100; whole = refl; short = omega arith; limited = λ some. absurd (omega (arith, some)); lasts = refl };
  is = refl;
  hop = refl;
  long = (omega arith, omega arith);
}

can_pass : CanPass net 5 5 change change first second 500000 500000 sent
can_pass = record {
  only = λ p class own. by p class own;
  limits = λ p class. refl;
  takes = takes_first;
  then = takes_second;
  talker = refl;
  window = omega arith;
  link = refl;
  times = omega arith;
}
  where
    by : (p class : ℕ) → net.judged p class ≡ true → ((p ≡ 0) × (class ≡ 5)) ⊎ ((p ≡ 1) × (class ≡ 5))
    by zero class own = inl (refl, eqb-true class 5 own)
    by (suc zero) class own = inr (refl, eqb-true class 5 own)
    by (suc (suc p)) class own = absurd (false≢true own)

pub met : SharedRunsExist → CurveClaim → PremisesAreMet
met runs curves =
    let r = network_runs_exist runs net 5 5 0 change change first second 500000 500000 sent nominal told
    (curve_promise curves net 0 5 refl at_first) can_pass (λ s k n. omega arith) (omega arith) (omega arith) in
    (net, told, are_judged, omega arith, r.0, nominal, r.1, 1, 5, 0, 0, 0, r.2, second, link, r.3, refl)
