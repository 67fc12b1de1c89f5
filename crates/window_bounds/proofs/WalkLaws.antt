-- How the walk goes from one latest moment to the next, and when the late run is as it was.
use Rattle.std.proofs.Common.{◌≡◌, ◌<◌, ◌≤◌, ◌⊎◌, ℕ, zero, suc, ◌+◌, ◌-◌, ◌*◌, ◌/◌, ◌%◌, ◌^◌, max, Bool, inl, inr, All, List, [], ◌∷◌, length, map, replicate, slice_get, Option, Some, None, true, false, if◌then◌else◌, eqb, eq-eqb, ne_eqb, refl, sym, ap, ◌∙◌, subst, arith}
use Rattle.std.specs.Prelude.{IfSome}
use Rattle.std.proofs.Math.Nat.{div-add-mod}
use Rattle.std.proofs.lemmas.Bool.{cases_lt}
use Rattle.std.proofs.lemmas.List.{get_or-map, length-map, length-replicate}
use Rattle.std.proofs.lemmas.List.Sums.{sum_by-cons}
use Rattle.std.proofs.lemmas.Option.{same_Some}
use Rattle.gates.specs.Gate.{Plan, in_ps}
use Rattle.delay_bounds.specs.Walk.{may_by}
use Rattle.delay_bounds.proofs.GateLaws.{by_repeats}
use Rattle.any_traffic.specs.LateForEver.{AreWhole}
use Rattle.any_traffic.specs.PeriodicWindows.{AreSent, IsFreeFrom, PeriodicFlow, before, must_before, window_of}
use Rattle.any_traffic.proofs.ListLaws.{none_here}
use Rattle.any_traffic.proofs.PeriodicWindowLaws.{before_is, before_of, must_more}
use Rattle.burst_bounds.specs.Reach.{IsCommonTime}
use Rattle.burst_bounds.specs.declared.Talker.{Talker}
use Rattle.window_bounds.specs.Beats.{AreAt, IsBeat, all_before, all_from, beat_at, come_of, early_beat, from_on, late_beat}
use Rattle.window_bounds.specs.Flows.{IsFlow, flows_of, periodic_of, talker_of, talkers_of}
use Rattle.window_bounds.specs.Notes.{jittered_at}
use Rattle.window_bounds.specs.Run.{AreNoted, IsMost}
use Rattle.window_bounds.specs.Walk.{HasCome, HaveBegun, IsAsItWas, IsBelow, IsMarked, IsWalkedTo, marked}
use Rattle.window_bounds.specs.declared.JitteredFlow.{JitteredFlow}
use Rattle.window_bounds.specs.declared.beats.Beat.{Beat}
use Rattle.window_bounds.specs.declared.late_run.Run.{Run}
use Rattle.window_bounds.specs.declared.walk.Mark.{Mark}
use Rattle.window_bounds.proofs.BeatLaws.{HaveBeats, before_idle, before_none, head_of, rest_of}
use Rattle.window_bounds.proofs.NoteLaws.{flow_there, next_at}
use Rattle.window_bounds.proofs.RunLaws.{must_is}
use Rattle.window_bounds.proofs.StepLaws.{aheads_by, fine_early, fine_late, have_period, period_at}

-- the next moment is not before the one that the beat stands at
pub next_from : (o t u : ℕ) → 0 < t → u ≤ o + t * before o t u
next_from o t u above = elim (cases_lt (o + t * before o t u) u) [
  | inr ok ↦ ok
  | inl early ↦ (let z = before_of o t (before o t u) u above early in absurd (omega (arith, z)))
]

-- ---- no frame comes before the soonest moment

pub idle_from : (beats : List Beat) (u t : ℕ) → HaveBeats beats → u ≤ t
    → ((i : ℕ) → i < length beats → t ≤ (from_on u (beat_at beats i)).next) → all_from u beats ≡ all_from t beats
idle_from [] u t all le least = refl
idle_from (b ∷ beats) u t all le least =
    let above = head_of (λ (x : Beat). 0 < x.period) b beats all in
    let same = before_idle b.next b.period u t above le (least 0 (omega arith)) in
    ap (λ n. record { next = b.next + b.period * n; period = b.period } ∷ all_from u beats) (sym same)
    ∙ ap (λ xs. from_on t b ∷ xs)
    (idle_from beats u t (rest_of (λ (x : Beat). 0 < x.period) b beats all) le (λ i less. least (suc i) (omega (arith, less))))

module _ (flows : List JitteredFlow) (all : All IsFlow flows) (u t : ℕ) (le : u ≤ t) (lates : List Beat)
    (are : lates ≡ all_from u (map late_beat flows)) (least : (i : ℕ) → i < length lates → t ≤ (beat_at lates i).next) where
  same_count : length lates ≡ length flows
  same_count = ap length are ∙ (length-map (map late_beat flows) (from_on u) ∙ length-map flows late_beat)

  idle_at : (i : ℕ) → i < length flows → t ≤ (from_on u (late_beat (jittered_at flows i))).next
  idle_at i less =
      let next = next_at flows u lates are i less in
      let same = same_count in
      let low = least i (omega (arith, less, same)) in
      omega (arith, next, low)

  -- of each flow no more have come
  same_before : (i : ℕ) → i < length flows
      → before ((jittered_at flows i).offset + (jittered_at flows i).jitter) (jittered_at flows i).period t
      ≡ before ((jittered_at flows i).offset + (jittered_at flows i).jitter) (jittered_at flows i).period u
  same_before i less =
      before_idle ((jittered_at flows i).offset + (jittered_at flows i).jitter) (jittered_at flows i).period u t (period_at flows all i less) le
      (idle_at i less)

  pub lates_idle : lates ≡ all_from t (map late_beat flows)
  lates_idle =
      let none : JitteredFlow = record { offset = 0; period = 0; jitter = 0; shortest = 0; longest = 0 } in
      are ∙ idle_from (map late_beat flows) u t (λ k d less. (fine_late flows all k d less).above) le
      (λ i less.
      let many = length-map flows late_beat in
      let inside : i < length flows = omega (arith, less, many) in
      let at = get_or-map late_beat flows i none (record { next = 0; period = 0 }) inside in
      subst (λ (b : Beat). t ≤ (from_on u b).next) (sym at) (idle_at i inside))

  pub must_idle : must_before (flows_of flows) t ≡ must_before (flows_of flows) u
  must_idle = sum flows (λ i less. same_before i less)
    where
      sum : (fs : List JitteredFlow) → ((i : ℕ) → i < length fs
          → before ((jittered_at fs i).offset + (jittered_at fs i).jitter) (jittered_at fs i).period t
          ≡ before ((jittered_at fs i).offset + (jittered_at fs i).jitter) (jittered_at fs i).period u)
          → must_before (flows_of fs) t ≡ must_before (flows_of fs) u
      sum [] same = refl
      sum (f ∷ fs) same =
          let here = same 0 (omega arith) in
          let rest = sum fs (λ i less. same (suc i) (omega (arith, less))) in
          let a = must_is (f ∷ fs) t in
          let b = must_is (f ∷ fs) u in
          let x = must_is fs t in
          let y = must_is fs u in
          let p = sum_by-cons (come_of t) (late_beat f) (map late_beat fs) in
          let q = sum_by-cons (come_of u) (late_beat f) (map late_beat fs) in
          omega (arith, here, rest, a, b, x, y, p, q)

  module _ (may : ℕ → ℕ → Bool) (d : ℕ) where
    -- the wire is free from then on
    pub free_idle : (free : ℕ) → IsFreeFrom may d (flows_of flows) u free → IsFreeFrom may d (flows_of flows) t free
    free_idle free h =
        let at : u + (t - u) ≡ t = omega (arith, le) in
        subst (λ v. IsFreeFrom may d (flows_of flows) v free) at (by (t - u) (omega (arith, le)))
      where
        by : (n : ℕ) → u + n ≤ t → IsFreeFrom may d (flows_of flows) (u + n) free
        by zero few = (let e : u ≡ u + 0 = omega arith in subst (λ v. IsFreeFrom may d (flows_of flows) v free) e h)
        by (suc n) few =
            let e : suc (u + n) ≡ u + suc n = omega arith in
            let above = have_period flows all in
            let a = must_more (flows_of flows) u (u + n) above (omega arith) in
            let b = must_more (flows_of flows) (u + n) (suc (u + n)) above (omega arith) in
            let c = must_more (flows_of flows) (suc (u + n)) t above (omega (arith, few)) in
            let same = must_idle in
            let none : 0 ≡ must_before (flows_of flows) (suc (u + n)) - must_before (flows_of flows) (u + n) = omega (arith, a, b, c, same) in
            subst (λ v. IsFreeFrom may d (flows_of flows) v free) e
            (free, by n (omega (arith, few)), subst (λ k. AreSent may d (u + n) k free free) none refl)

    pub noted_idle : (waits : List ℕ) → AreNoted may d (flows_of flows) u waits → AreNoted may d (flows_of flows) t waits
    noted_idle waits h = record {
      count = h.count;
      within = λ i n wait flow place told less.
          let there = flow_there flows i flow place in
          let f : JitteredFlow = jittered_at flows i in
          let mine : (window_of (periodic_of f) n).latest < t = subst (λ g. (window_of g n).latest < t) (sym there.1) less in
          let come = before_of (f.offset + f.jitter) f.period n t (period_at flows all i there.0)
          (let z : f.offset + f.jitter + f.period * n < t = omega (arith, mine) in z) in
          let same = same_before i there.0 in
          let was = before_is (f.offset + f.jitter) f.period n u (period_at flows all i there.0) (omega (arith, come, same)) in
          let early : (window_of (periodic_of f) n).latest < u = omega (arith, was) in
          h.within i n wait flow place told (subst (λ g. (window_of g n).latest < u) there.1 early);
      reached = h.reached;
    }

    pub walked_idle : (limit : ℕ) (earlies aheads : List Beat) (can : ℕ) (run : Run) (waits : List ℕ)
        → IsWalkedTo may d limit flows u lates earlies aheads can run waits → IsWalkedTo may d limit flows t lates earlies aheads can run waits
    walked_idle limit earlies aheads can run waits h =
        let r = h.sent_so in
        let same = must_idle in
        record {
          lates_are = lates_idle;
          earlies_are = aheads_by (map early_beat flows) earlies u t can le h.earlies_are;
          aheads_are = h.aheads_are;
          late = h.late;
          early = h.early;
          ahead = h.ahead;
          sent_so = record {
            sent = (let s = r.sent in omega (arith, s, same));
            few = r.few;
            free = free_idle run.free r.free;
            soon = r.soon;
            most = r.most;
            small = r.small;
          };
          noted_so = noted_idle waits h.noted_so;
        }

-- the soonest moment is no earlier than where the beats stand
pub soonest_from : (flows : List JitteredFlow) → All IsFlow flows → (u t : ℕ) (lates : List Beat) → lates ≡ all_from u (map late_beat flows)
    → (i : ℕ) → i < length lates → t ≡ (beat_at lates i).next → u ≤ t
soonest_from flows all u t lates are i less is =
    let many : length lates ≡ length flows = ap length are ∙ (length-map (map late_beat flows) (from_on u) ∙ length-map flows late_beat) in
    let inside : i < length flows = omega (arith, less, many) in
    let f : JitteredFlow = jittered_at flows i in
    let next = next_at flows u lates are i inside in
    let low = next_from (f.offset + f.jitter) f.period u (period_at flows all i inside) in
    omega (arith, next, low, is)

-- ---- before any frame

pub from_zero : (beats : List Beat) → HaveBeats beats → beats ≡ all_from 0 beats
from_zero [] all = refl
from_zero (b ∷ beats) all =
    let none = before_none b.next b.period 0 (head_of (λ (x : Beat). 0 < x.period) b beats all) (omega arith) in
    let whole = ap (λ n. b.period * n) none in
    let zero_is : b.period * 0 ≡ 0 = omega arith in
    let at : b.next ≡ b.next + b.period * before b.next b.period 0 = omega (arith, whole, zero_is) in
    ap (λ n. record { next = n; period = b.period } ∷ beats) at
    ∙ ap (λ xs. from_on 0 b ∷ xs) (from_zero beats (rest_of (λ (x : Beat). 0 < x.period) b beats all))

pub none_before : (beats : List Beat) → HaveBeats beats → all_before beats 0 ≡ 0
none_before [] all = refl
none_before (b ∷ beats) all =
    let none = before_none b.next b.period 0 (head_of (λ (x : Beat). 0 < x.period) b beats all) (omega arith) in
    let rest = none_before beats (rest_of (λ (x : Beat). 0 < x.period) b beats all) in
    let a = sum_by-cons (come_of 0) b beats in
    omega (arith, none, rest, a)

pub at_zero : (beats now : List Beat) → HaveBeats beats → now ≡ beats → AreAt beats 0 now 0
at_zero beats now all is = record {
  are = is ∙ from_zero beats all;
  come = (let none = none_before beats all in omega (arith, none));
}

pub walked_none : (may : ℕ → ℕ → Bool) (d limit : ℕ) (flows : List JitteredFlow) (lates earlies aheads : List Beat) (waits : List ℕ)
    → All IsFlow flows → lates ≡ map late_beat flows → earlies ≡ map early_beat flows → aheads ≡ map early_beat flows
    → waits ≡ replicate (length flows) 0
    → IsWalkedTo may d limit flows 0 lates earlies aheads 0 (record { sent = 0; free = 0; come = 0; most = 0 }) waits
walked_none may d limit flows lates earlies aheads waits all ls es hs ws =
    let fine = fine_late flows all in
    let fine_e = fine_early flows all in
    let early_all : HaveBeats (map early_beat flows) = λ k x less. (fine_e k x less).above in
    let none = must_is flows 0 in
    let no_beat = none_before (map late_beat flows) (λ k x less. (fine k x less).above) in
    record {
      lates_are = ls ∙ from_zero (map late_beat flows) (λ k x less. (fine k x less).above);
      earlies_are = (0, omega arith, at_zero (map early_beat flows) earlies early_all es);
      aheads_are = (0, omega arith, at_zero (map early_beat flows) aheads early_all hs);
      late = subst (All IsBeat) (sym ls) fine;
      early = subst (All IsBeat) (sym es) fine_e;
      ahead = subst (All IsBeat) (sym hs) fine_e;
      sent_so = record {
        sent = omega (arith, none, no_beat);
        few = omega arith;
        free = refl;
        soon = omega arith;
        most = record { within = λ k less. absurd (omega (arith, less)); reached = inl refl };
        small = omega arith;
      };
      noted_so = record {
        count = ap length ws ∙ (length-replicate (length flows) 0 ∙ sym (length-map flows periodic_of));
        within = λ i n wait flow place told less. absurd (omega (arith, less));
        reached = λ i wait flow place told. inl (zero_in (length flows) i wait (subst (λ xs. slice_get xs i ≡ Some wait) ws told));
      };
    }
  where
    zero_in : (n i wait : ℕ) → slice_get (replicate n 0) i ≡ Some wait → wait ≡ 0
    zero_in zero i wait e = absurd (none_here i wait e)
    zero_in (suc n) zero wait e = sym (same_Some 0 wait e)
    zero_in (suc n) (suc i) wait e = zero_in n i wait e

-- ---- the late run as it was

pub whole_of : (flows : List JitteredFlow) (cycle from every : ℕ) → All IsFlow flows → IsCommonTime (talkers_of flows) cycle every
    → HaveBegun flows from → AreWhole (flows_of flows) from every
whole_of flows cycle from every all is begun i flow place =
    let there = flow_there flows i flow place in
    let f : JitteredFlow = jittered_at flows i in
    let many = length-map flows talker_of in
    let at = get_or-map talker_of flows i (record { offset = 0; period = 0; jitter = 0; shortest = 0; longest = 0 })
    (record { need = 0; period = 0; jitter = 0 }) there.0 in
    let none = is.divides i (let l = there.0 in omega (arith, l, many)) in
    let period = ap (λ (x : Talker). x.period) at in
    let mine : every % f.period ≡ 0 = subst (λ p. every % p ≡ 0) period none in
    let whole = div-add-mod every f.period in
    let turned = ap (λ (g : PeriodicFlow). g.period) there.1 in (
      begun i flow place,
      (every / f.period, subst (λ p. every ≡ p * (every / f.period)) turned (omega (arith, whole, mine))),
    )

pub has_come : (plan : Plan) (class d limit : ℕ) (flows : List JitteredFlow) (t : ℕ) (lates earlies aheads : List Beat) (can : ℕ) (run : Run)
    (waits : List ℕ) (mark : Mark) (time : Option ℕ) (every : ℕ) → 0 < plan.cycle → All IsFlow flows
    → IsWalkedTo (may_by plan class) d limit flows t lates earlies aheads can run waits
    → IsCommonTime (talkers_of flows) (in_ps plan.cycle) every → IsMarked (may_by plan class) d flows mark.at every mark.was
    → IsAsItWas mark time t run.free every → HasCome (may_by plan class) d (flows_of flows) every run.most waits
has_come plan class d limit flows t lates earlies aheads can run waits mark time every above all h common marked_so again =
    let was : ℕ = again.0 in
    let m = subst (IsMarked (may_by plan class) d flows mark.at every) again.2 marked_so in
    let from : ℕ = m.0 in
    let at = m.2 in
    let old = m.5 in
    let now = again.3 in
    let same = again.4 in
    let e : t ≡ from + every = omega (arith, at, now) in
    let r = h.sent_so in
    record {
      from = from;
      recurs = record {
        above = common.lasts;
        gates = subst (λ n. (x need : ℕ) → may_by plan class (x + n) need ≡ may_by plan class x need) (sym common.whole)
            (by_repeats plan above class common.cycles);
        whole = whole_of flows (in_ps plan.cycle) from every all common m.3;
        old = m.1;
        new = run.free;
        was = m.4;
        is = subst (λ u. IsFreeFrom (may_by plan class) d (flows_of flows) u run.free) e r.free;
        alike = omega (arith, e, same, old);
      };
      noted = subst (λ u. AreNoted (may_by plan class) d (flows_of flows) u waits) e h.noted_so;
      sent = subst (λ u. IsMost (may_by plan class) d (flows_of flows) (must_before (flows_of flows) u) run.most) e
          (subst (λ n. IsMost (may_by plan class) d (flows_of flows) n run.most) r.sent r.most);
    }

-- ---- where to look next

cases_eqb : (a b : ℕ) → ((eqb a b ≡ true) × (a ≡ b)) ⊎ (eqb a b ≡ false)
cases_eqb a b = elim (cases_lt a b) [
  | inl less ↦ inr (ne_eqb a b (λ e. (let z : ⊥ = omega (arith, less, e) in z)))
  | inr le ↦ elim (cases_lt b a) [
    | inl more ↦ inr (ne_eqb a b (λ e. (let z : ⊥ = omega (arith, more, e) in z)))
    | inr ge ↦ (let e : a ≡ b = omega (arith, le, ge) in inl (eq-eqb a b e, e))
  ]
]

begun_by : (may : ℕ → ℕ → Bool) (d : ℕ) (flows : List JitteredFlow) (at every : ℕ) (was : Option ℕ) → IsMarked may d flows at every was
    → HaveBegun flows at
begun_by may d flows at every None h = h
begun_by may d flows at every (Some was) h = λ i flow e. (let low = h.3 i flow e in let sum = h.2 in omega (arith, low, sum))

pub marked_next : (may : ℕ → ℕ → Bool) (d : ℕ) (flows : List JitteredFlow) (mark : Mark) (time : Option ℕ) (t free : ℕ)
    → IfSome time (λ every. IsMarked may d flows mark.at every mark.was) → IsFreeFrom may d (flows_of flows) t free
    → IfSome time (λ every. IsMarked may d flows (marked mark time t free).at every (marked mark time t free).was)
marked_next may d flows mark None t free h is = h
marked_next may d flows mark (Some every) t free h is = elim (cases_eqb t mark.at) [
  | inl here ↦ subst (λ b. IsMarked may d flows (if b then record { at = t + every; was = Some (max free t) } else mark).at every
      (if b then record { at = t + every; was = Some (max free t) } else mark).was) (sym here.0)
      (t, free, refl, subst (HaveBegun flows) (sym here.1) (begun_by may d flows mark.at every mark.was h), is, omega arith)
  | inr no_one ↦ subst (λ b. IsMarked may d flows (if b then record { at = t + every; was = Some (max free t) } else mark).at every
      (if b then record { at = t + every; was = Some (max free t) } else mark).was) (sym no_one) h
]

pub small_next : (mark : Mark) (time : Option ℕ) (t free : ℕ) → IsBelow 127 mark.was → t ≤ 2 ^ 81 → free ≤ 2 ^ 80
    → IsBelow 127 (marked mark time t free).was
small_next mark None t free h soon low = h
small_next mark (Some every) t free h soon low = elim (cases_eqb t mark.at) [
  | inl here ↦ subst (λ b. IsBelow 127 (if b then record { at = t + every; was = Some (max free t) } else mark).was) (sym here.0)
      (omega (arith, soon, low))
  | inr no_one ↦ subst (λ b. IsBelow 127 (if b then record { at = t + every; was = Some (max free t) } else mark).was) (sym no_one) h
]

-- at first
pub marked_none : (may : ℕ → ℕ → Bool) (d : ℕ) (flows : List JitteredFlow) (at : ℕ) (time : Option ℕ) → HaveBegun flows at
    → IfSome time (λ every. IsMarked may d flows at every None)
marked_none may d flows at None h = tt
marked_none may d flows at (Some every) h = h

-- the walk stands at its soonest moment
pub walked_soonest : (may : ℕ → ℕ → Bool) (d limit : ℕ) (flows : List JitteredFlow) (t : ℕ) (lates earlies aheads : List Beat) (can : ℕ)
    (run : Run) (waits : List ℕ) → All IsFlow flows → (u : ℕ) → IsWalkedTo may d limit flows u lates earlies aheads can run waits
    → ((i : ℕ) × (i < length lates) × (t ≡ (beat_at lates i).next)) → ((i : ℕ) → i < length lates → t ≤ (beat_at lates i).next)
    → IsWalkedTo may d limit flows t lates earlies aheads can run waits
walked_soonest may d limit flows t lates earlies aheads can run waits all u h one least =
    walked_idle flows all u t (soonest_from flows all u t lates h.lates_are one.0 one.1 one.2) lates h.lates_are least may d limit earlies
    aheads can run waits h
