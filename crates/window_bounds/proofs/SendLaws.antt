-- Frames that are sent one behind another.
use Rattle.std.proofs.Common.{◌≡◌, ◌<◌, ◌≤◌, ℕ, zero, suc, ◌+◌, ◌-◌, ◌*◌, max, Bool, true, Some, None, add-mul, le_refl, inl, inr, All, List, refl, sym, ap, ◌∙◌, subst, arith}
use Rattle.std.proofs.Math.Nat.{suc-mul}
use Rattle.std.proofs.lemmas.Bool.{cases_lt}
use Rattle.gates.specs.Gate.{Plan, mask_since}
use Rattle.gates.proofs.OpenLaws.{open_within}
use Rattle.abstract_port.specs.Served.{IsFirst}
use Rattle.delay_bounds.specs.Walk.{may_by}
use Rattle.any_traffic.specs.Slots.{IsSlot}
use Rattle.burst_bounds.proofs.SlotLaws.{slot_then}
use Rattle.window_bounds.specs.Beats.{AreAt, AreAtBy, IsBeat, all_before, all_from, capped}
use Rattle.window_bounds.specs.Slots.{HasSent, IsFreeBehind}
use Rattle.window_bounds.specs.declared.beats.Beat.{Beat}
use Rattle.window_bounds.specs.declared.late_run.Run.{Run}
use Rattle.window_bounds.proofs.BeatLaws.{HaveBeats, before_twice, from_twice}

pub periods_of : (beats : List Beat) → All IsBeat beats → HaveBeats beats
periods_of beats all = λ k d less. (all k d less).above

module _ (may : ℕ → ℕ → Bool) (d from : ℕ) where
  pub none_sent : IsFreeBehind may d from 0 from
  none_sent = inl (refl, refl)

  -- the next slot
  pub slot_of : (n free s : ℕ) → IsFreeBehind may d from n free → IsFirst may d free s → IsSlot may d from n s
  slot_of n free s (inl none) first = subst (λ k. IsSlot may d from k s) (sym none.0) (subst (λ k. IsFirst may d k s) none.1 first)
  slot_of n free s (inr some) first = subst (λ k. IsSlot may d from k s) (sym some.2)
      (slot_then may d from some.0 some.1 s some.3 (subst (λ k. IsFirst may d k s) some.4 first))

  pub one_more : (n free s : ℕ) → IsFreeBehind may d from n free → IsFirst may d free s → IsFreeBehind may d from (n + 1) (s + d)
  one_more n free s h first = inr (n, s, omega arith, slot_of n free s h first, refl)

  -- some more in a row, while the class stays open
  pub row_behind : (n free at k : ℕ) → IsFreeBehind may d from n free → IsFirst may d free at
      → ((j : ℕ) → j < k → may (at + j * d) d ≡ true) → 0 < k → IsFreeBehind may d from (n + k) (at + k * d)
  row_behind n free at zero h first stays some = absurd (omega (arith, some))
  row_behind n free at (suc zero) h first stays some =
      let e : d ≡ 1 * d = omega arith in
      subst (λ u. IsFreeBehind may d from (n + 1) (at + u)) e (one_more n free at h first)
  row_behind n free at (suc (suc k)) h first stays some =
      let rest = row_behind n free at (suc k) h first (λ j less. stays j (omega (arith, less))) (omega arith) in
      let here : IsFirst may d (at + suc k * d) (at + suc k * d) =
      record { from = le_refl (at + suc k * d); fits = stays (suc k) (omega arith); least = λ u low high. absurd (omega (arith, low, high)) } in
      let parts : suc (suc k) * d ≡ suc k * d + d = suc-mul (suc k) d in
      let count : n + suc k + 1 ≡ n + suc (suc k) = omega arith in
      subst (λ m. IsFreeBehind may d from m (at + suc (suc k) * d)) count
      (subst (IsFreeBehind may d from (n + suc k + 1)) (let e : at + suc k * d + d ≡ at + suc (suc k) * d = omega (arith, parts) in e)
      (one_more (n + suc k) (at + suc k * d) (at + suc k * d) rest here))

  -- one more, by what is known of its start
  pub sent_next : (n limit : ℕ) (beats : List Beat) (old mid new : Run) (s : ℕ) → HasSent may d from n limit beats old mid → IsSlot may d from n s
      → mid.sent ≡ old.sent + n
      → new.most ≡ max (all_before beats (s + 1) - mid.sent) mid.most → all_before beats (s + 1) ≤ limit
      → HasSent may d from (n + 1) limit beats old new
  sent_next n limit beats old mid new s h slot sent most all =
      let grown = h.grown in
      record {
        within = λ j less. elim (cases_lt j n) [
          | inl before ↦
              let w = h.within j before in
              let few = w.2 in
              (w.0, w.1, omega (arith, few, most), w.3)
          | inr here ↦
              let e : n ≡ j = omega (arith, here, less) in
              (s, subst (λ k. IsSlot may d from k s) e slot, omega (arith, e, most, sent), all)
        ];
        grown = omega (arith, grown, most);
        reached = elim (cases_lt mid.most (all_before beats (s + 1) - mid.sent)) [
          | inl more ↦ inr (n, s, omega arith, slot, omega (arith, more, most, sent))
          | inr fits ↦
              let same : new.most ≡ mid.most = omega (arith, fits, most) in
              elim h.reached [
                | inl kept ↦ inl (omega (arith, same, kept))
                | inr r ↦
                    let less = r.2 in
                    let is = r.4 in
                    inr (r.0, r.1, omega (arith, less), r.3, omega (arith, is, same))
              ]
        ];
      }

  pub sent_none : (limit : ℕ) (beats : List Beat) (run : Run) → HasSent may d from 0 limit beats run run
  sent_none limit beats run = record { within = λ j less. absurd (omega (arith, less)); grown = omega arith; reached = inl refl }

-- beats that go past a moment which is not before them
pub at_next : (beats now next : List Beat) (t s count passed total : ℕ) → All IsBeat beats → t ≤ s + 1 → AreAtBy beats t now count
    → next ≡ all_from (s + 1) now → passed ≡ capped (all_before now (s + 1)) → total ≡ capped (count + passed) → AreAt beats (s + 1) next total
at_next beats now next t s count passed total fine le at is many sum =
    let u : ℕ = at.0 in
    let before = at.1 in
    let here = at.2 in
    let come = here.come in
    let le' : u ≤ s + 1 = omega (arith, before, le) in
    let all = before_twice u (s + 1) beats (periods_of beats fine) le' in
    let seen = ap (λ (xs : List Beat). all_before xs (s + 1)) here.are in
    record {
      are = is ∙ (ap (all_from (s + 1)) here.are ∙ from_twice u (s + 1) beats (periods_of beats fine) le');
      come = omega (arith, all, seen, many, sum, come);
    }

-- a class that stays open for some frames in a row does so for each of them
pub stays_each : (plan : Plan) (class d at k : ℕ) → may_by plan class at (k * d) ≡ true → (j : ℕ) → j < k → may_by plan class (at + j * d) d ≡ true
stays_each plan class d at k fits j less =
    let whole : suc j + (k - suc j) ≡ k = omega (arith, less) in
    let parts : (suc j + (k - suc j)) * d ≡ suc j * d + (k - suc j) * d = add-mul (suc j) (k - suc j) d in
    let all = ap (λ n. n * d) whole in
    let one : suc j * d ≡ j * d + d = suc-mul j d in
    open_within (mask_since (Some plan) 0 None) class at (k * d) (at + j * d) d fits (omega arith) (omega (arith, parts, all, one))
