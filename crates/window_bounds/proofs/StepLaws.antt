-- What is so when the frames of one latest moment are sent.
use Rattle.std.proofs.Common.{◌≡◌, ◌<◌, ◌≤◌, ℕ, zero, suc, ◌+◌, ◌-◌, ◌^◌, max, Bool, inl, inr, All, List, length, map, refl, ap, subst, arith}
use Rattle.std.proofs.lemmas.List.Elements.{All-map}
use Rattle.std.proofs.lemmas.List.Sums.{get_or-le-sum_by}
use Rattle.wire_time.specs.Moment.{greatest_moment}
use Rattle.gates.specs.Gate.{Plan}
use Rattle.delay_bounds.specs.Walk.{may_by}
use Rattle.any_traffic.specs.PeriodicWindows.{IsLateStart, PeriodicFlow, can_by, must_before}
use Rattle.any_traffic.specs.Slots.{IsSlot}
use Rattle.any_traffic.proofs.PeriodicWindowLaws.{HavePeriod}
use Rattle.burst_bounds.proofs.SlotLaws.{slot_from}
use Rattle.window_bounds.specs.Beats.{AreAt, AreAtBy, IsBeat, all_before, all_from, beat_at, capped, come_of, early_beat, late_beat}
use Rattle.window_bounds.specs.Flows.{IsFlow, flows_of}
use Rattle.window_bounds.specs.Notes.{jittered_at}
use Rattle.window_bounds.specs.Run.{IsRun}
use Rattle.window_bounds.specs.Slots.{HasSent, IsFreeBehind, IsUndone, IsUnsent}
use Rattle.window_bounds.specs.Unbound.{IsEnded}
use Rattle.window_bounds.specs.Walk.{IsWalkedTo}
use Rattle.window_bounds.specs.declared.JitteredFlow.{JitteredFlow}
use Rattle.window_bounds.specs.declared.Unbound.{Unbound}
use Rattle.window_bounds.specs.declared.Unbound.TheVariants.{Overloaded, Stuck, Long, Late, Memory}
use Rattle.window_bounds.specs.declared.beats.Beat.{Beat}
use Rattle.window_bounds.specs.declared.late_run.Run.{Run}
use Rattle.window_bounds.proofs.BeatLaws.{before_one, before_twice}
use Rattle.window_bounds.proofs.NoteLaws.{flow_there}
use Rattle.window_bounds.proofs.RunLaws.{behind_both, behind_from, can_is, few_can, frame_at, last_slot, must_can, must_is, run_next, sent_by}
use Rattle.window_bounds.proofs.SendLaws.{at_next}

-- ---- the flows

pub fine_early : (flows : List JitteredFlow) → All IsFlow flows → All IsBeat (map early_beat flows)
fine_early flows all = All-map IsBeat early_beat flows
    (λ k f less. (let is = all k f less in let low = is.offset in record { above = is.above; period = is.period; next = omega (arith, low) }))

pub fine_late : (flows : List JitteredFlow) → All IsFlow flows → All IsBeat (map late_beat flows)
fine_late flows all = All-map IsBeat late_beat flows
    (λ k f less. (let is = all k f less in let low = is.offset in let late = is.jitter in
    record { above = is.above; period = is.period; next = omega (arith, low, late) }))

pub period_at : (flows : List JitteredFlow) → All IsFlow flows → (i : ℕ) → i < length flows → 0 < (jittered_at flows i).period
period_at flows all i less = (all i (record { offset = 0; period = 0; jitter = 0; shortest = 0; longest = 0 }) less).above

pub have_period : (flows : List JitteredFlow) → All IsFlow flows → HavePeriod (flows_of flows)
have_period flows all i flow e =
    let there = flow_there flows i flow e in
    subst (λ (f : PeriodicFlow). 0 < f.period) there.1 (period_at flows all i there.0)

-- ---- how many are due

pub due_is : (flows : List JitteredFlow) (t : ℕ) (lates : List Beat) (due : ℕ) → All IsFlow flows → lates ≡ all_from t (map late_beat flows)
    → due ≡ all_before lates (t + 1) → must_before (flows_of flows) (t + 1) ≡ must_before (flows_of flows) t + due
due_is flows t lates due all are is =
    let seen = ap (λ (xs : List Beat). all_before xs (t + 1)) are in
    let split = before_twice t (t + 1) (map late_beat flows) (λ k d less. (fine_late flows all k d less).above) (omega arith) in
    let a = must_is flows t in
    let b = must_is flows (t + 1) in
    omega (arith, seen, split, a, b, is)

pub due_some : (t : ℕ) (lates : List Beat) (due : ℕ) → All IsBeat lates → due ≡ all_before lates (t + 1)
    → (i : ℕ) → i < length lates → (beat_at lates i).next ≡ t → 0 < due
due_some t lates due fine is i less at =
    let b = beat_at lates i in
    let one = before_one b.next b.period t (fine i (record { next = 0; period = 0 }) less).above at in
    let low = get_or-le-sum_by (come_of (t + 1)) lates i (record { next = 0; period = 0 }) less in
    omega (arith, one, low, is)

-- ---- what has begun

pub record HasBegun (may : ℕ → ℕ → Bool) (d limit : ℕ) (flows : List JitteredFlow) (t : ℕ) (old : Run) (due : ℕ) (begun : Run) : Type 0 where
  pub all : All IsFlow flows
  pub run : IsRun may d (flows_of flows) limit t old
  pub some : 0 < due
  pub count : must_before (flows_of flows) (t + 1) ≡ must_before (flows_of flows) t + due
  pub sent : begun.sent ≡ old.sent
  pub most : begun.most ≡ old.most
  pub from : begun.free ≡ max t old.free

module _ (plan : Plan) (class d limit : ℕ) (flows : List JitteredFlow) (t : ℕ) (old : Run) (due : ℕ) (begun : Run)
    (h : HasBegun (may_by plan class) d limit flows t old due begun) where
  abbrev may : ℕ → ℕ → Bool
  may = may_by plan class

  abbrev periods : HavePeriod (flows_of flows)
  periods = have_period flows h.all

  -- some of those that may have come by then keep the wire until behind the greatest moment
  pub late_by : (n free : ℕ) → n ≤ can_by (flows_of flows) t - must_before (flows_of flows) t → IsFreeBehind may d begun.free n free
      → greatest_moment < free → IsEnded plan class d (flows_of flows) limit Late
  late_by zero free few behind late =
      let from = h.from in
      let at = behind_is begun.free free behind in
      (t, 0, old.free, old.free, (h.run).free, refl, omega arith, omega (arith, at, late, from))
    where
      behind_is : (u v : ℕ) → IsFreeBehind may d u 0 v → v ≡ u
      behind_is u v (inl none) = none.1
      behind_is u v (inr some) = (let z = some.2 in absurd (omega (arith, z)))
  late_by (suc n) free few behind late =
      let at = subst (λ u. IsFreeBehind may d u (suc n) free) h.from behind in
      (t, suc n, old.free, free, (h.run).free, sent_by may d t (suc n) old.free free (omega arith) at, few, omega (arith, late))

  pub undone : (why : Unbound) → IsUndone plan class d begun.free due limit (map early_beat flows) why
      → IsEnded plan class d (flows_of flows) limit why
  undone Stuck is = is
  undone Late is =
      let can = must_can (flows_of flows) t periods in
      let count = h.count in
      let less = is.2 in
      late_by is.0 is.1 (omega (arith, can, count, less)) is.3 is.4
  undone Long is =
      let can = can_is flows is.1 in
      let more = is.4 in
      let sent = h.sent in (
        old.sent + is.0,
        is.1,
        frame_at may d limit flows periods t old h.run due h.some h.count is.0 is.1 is.2
            (subst (λ u. IsSlot may d u is.0 is.1) h.from is.3),
        omega (arith, can, more),
      )
  undone Overloaded is = absurd is
  undone Memory is = absurd is

  module _ (new : Run) (sent : HasSent may d begun.free due limit (map early_beat flows) begun new)
      (free : IsFreeBehind may d begun.free due new.free) (many : new.sent ≡ begun.sent + due) where
    pub can_few : can_by (flows_of flows) t ≤ limit
    can_few = few_can may d limit flows periods t old h.run due h.some h.count begun new h.sent h.most h.from sent

    pub unsent : (why : Unbound) → IsUnsent plan class d new.free (can_by (flows_of flows) t - new.sent) why
        → IsEnded plan class d (flows_of flows) limit why
    unsent Stuck is = is
    unsent Late is =
        let less = is.2 in
        let count = h.count in
        let was = (h.run).sent in
        let same = h.sent in
        late_by (due + is.0) is.1 (omega (arith, less, count, was, same, many))
        (behind_both may d begun.free due is.0 new.free is.1 free is.3) is.4
    unsent Long is = absurd is
    unsent Overloaded is = absurd is
    unsent Memory is = absurd is

    pub late_start : (last : ℕ) → IsFreeBehind may d new.free (can_by (flows_of flows) t - new.sent) last
        → IsLateStart may d (flows_of flows) t (last - d) × (d ≤ last) × (t ≤ last - d)
    late_start last behind =
        let n : ℕ = can_by (flows_of flows) t - must_before (flows_of flows) t in
        let can = must_can (flows_of flows) t periods in
        let count = h.count in
        let some = h.some in
        let was = (h.run).sent in
        let same = h.sent in
        let from = h.from in
        let at : due + (can_by (flows_of flows) t - new.sent) ≡ n = omega (arith, can, count, was, same, many) in
        let both = behind_both may d begun.free due (can_by (flows_of flows) t - new.sent) new.free last free behind in
        let all = subst (λ k. IsFreeBehind may d begun.free k last) at both in
        let slot = last_slot may d begun.free n last (omega (arith, count, can, some)) all in
        let here = subst (λ u. IsSlot may d u (n - 1) (last - d)) h.from slot.0 in
        let low = slot_low begun.free (n - 1) (last - d) slot.0 in
        ((old.free, (h.run).free, here), slot.1, omega (arith, low, from))
      where
        slot_low : (u k s : ℕ) → IsSlot may d u k s → u ≤ s
        slot_low u k s x = slot_from may d u k s x

    pub run_on : new.free ≤ 2 ^ 80 → new.most ≤ limit → IsRun may d (flows_of flows) limit (t + 1) new
    run_on soon small =
        run_next may d limit flows periods t old h.run due h.some h.count begun new h.sent h.most h.from sent free many soon small

-- what has begun, by what is known before
pub begin : (may : ℕ → ℕ → Bool) (d limit : ℕ) (flows : List JitteredFlow) (t : ℕ) (lates earlies aheads : List Beat) (can : ℕ) (old : Run)
    (waits : List ℕ) (due free : ℕ) → All IsFlow flows → IsWalkedTo may d limit flows t lates earlies aheads can old waits
    → ((i : ℕ) × (i < length lates) × ((beat_at lates i).next ≡ t)) → due ≡ all_before lates (t + 1) → free ≡ max old.free t
    → HasBegun may d limit flows t old due (record { sent = old.sent; free = free; come = old.come; most = old.most })
begin may d limit flows t lates earlies aheads can old waits due free all walked one is from = record {
  all = all;
  run = walked.sent_so;
  some = due_some t lates due walked.late is one.0 one.1 one.2;
  count = due_is flows t lates due all walked.lates_are is;
  sent = refl;
  most = refl;
  from = omega (arith, from);
}

-- the beats of the starts stand no later than where the wire is free then
pub aheads_by : (beats now : List Beat) (u v count : ℕ) → u ≤ v → AreAtBy beats u now count → AreAtBy beats v now count
aheads_by beats now u v count le at = (at.0, (let before = at.1 in omega (arith, before, le)), at.2)

-- and those of the earliest moments, past t
pub earlies_on : (flows : List JitteredFlow) (t limit : ℕ) (old new : List Beat) (count passed total : ℕ) → All IsFlow flows
    → AreAtBy (map early_beat flows) t old count → new ≡ all_from (t + 1) old → passed ≡ capped (all_before old (t + 1))
    → total ≡ capped (count + passed) → can_by (flows_of flows) t ≤ limit → limit < 2 ^ 64
    → AreAt (map early_beat flows) (t + 1) new total × (total ≡ can_by (flows_of flows) t)
earlies_on flows t limit old new count passed total all at is many sum few small =
    let next = at_next (map early_beat flows) old new t t count passed total (fine_early flows all) (omega arith) at is many sum in
    let can = can_is flows t in
    let come = next.come in
    (next, omega (arith, can, come, few, small))

-- ---- what has been done

pub record HasDone (plan : Plan) (class d limit : ℕ) (flows : List JitteredFlow) (t : ℕ) (old : Run) (due : ℕ) (begun new : Run) : Type 0 where
  pub begun_so : HasBegun (may_by plan class) d limit flows t old due begun
  pub sent : HasSent (may_by plan class) d begun.free due limit (map early_beat flows) begun new
  pub free : IsFreeBehind (may_by plan class) d begun.free due new.free
  pub many : new.sent ≡ begun.sent + due
  pub soon : new.free ≤ 2 ^ 80
  pub small : new.most ≤ limit

module _ (plan : Plan) (class d limit : ℕ) (flows : List JitteredFlow) (t : ℕ) (old : Run) (due : ℕ) (begun new : Run)
    (h : HasDone plan class d limit flows t old due begun new) where
  pub t_soon : t ≤ 2 ^ 80
  t_soon =
      let low = behind_from (may_by plan class) d begun.free due new.free h.free in
      let from = (h.begun_so).from in
      let soon = h.soon in
      omega (arith, low, from, soon)

  pub can_within : can_by (flows_of flows) t ≤ limit
  can_within = can_few plan class d limit flows t old due begun h.begun_so new h.sent h.free h.many

  pub start_at : (last : ℕ) → IsFreeBehind (may_by plan class) d new.free (can_by (flows_of flows) t - new.sent) last
      → IsLateStart (may_by plan class) d (flows_of flows) t (last - d) × (d ≤ last) × (t ≤ last - d)
  start_at last behind = late_start plan class d limit flows t old due begun h.begun_so new h.sent h.free h.many last behind

  pub unsent_why : (why : Unbound) → IsUnsent plan class d new.free (can_by (flows_of flows) t - new.sent) why
      → IsEnded plan class d (flows_of flows) limit why
  unsent_why why is = unsent plan class d limit flows t old due begun h.begun_so new h.sent h.free h.many why is

  pub run_so : IsRun (may_by plan class) d (flows_of flows) limit (t + 1) new
  run_so = run_on plan class d limit flows t old due begun h.begun_so new h.sent h.free h.many h.soon h.small
