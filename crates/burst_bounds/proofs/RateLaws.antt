-- The rate of frames and that of slots, digit by digit.
use Rattle.std.proofs.Common.{◌≡◌, ◌<◌, ◌≤◌, ℕ, zero, suc, ◌+◌, ◌-◌, ◌*◌, ◌/◌, ◌%◌, Bool, List, [], ◌∷◌, length, get_or, refl, sym, ap, ◌∙◌, subst, arith, add-mul, mul_assoc, mul_comm}
use Rattle.std.proofs.Math.Nat.{add-mul-div_left, div-add-mod, le-div_iff_mul-le, div-mul-le_self}
use Rattle.std.proofs.lemmas.List.Sums.{sum_by-cons}
use Rattle.gates.specs.Gate.{Plan, in_ps}
use Rattle.delay_bounds.proofs.GateLaws.{by_repeats}
use Rattle.delay_bounds.specs.ForEver.{Repeats}
use Rattle.delay_bounds.specs.Walk.{may_by}
use Rattle.any_traffic.specs.Slots.{IsSlot}
use Rattle.any_traffic.proofs.SlotLaws.{both_slots, one_slot, slot_later, slots_behind}
use Rattle.burst_bounds.specs.Overload.{IsOverloaded, OverloadLaw, Takes, wholes}
use Rattle.burst_bounds.specs.Talkers.{curve, sporadic_of}
use Rattle.burst_bounds.specs.Unbound.{periods_in}
use Rattle.burst_bounds.specs.Walk.{talker_at}
use Rattle.burst_bounds.specs.declared.Talker.{Talker}
use Rattle.any_traffic.specs.Sporadic.{curve_of}
use Rattle.std.proofs.Common.{map}
use Rattle.burst_bounds.proofs.ArrivalLaws.{total}

-- a time is so many whole periods of each talker, and a rest
abbrev pub AreParts : ℕ → List Talker → List ℕ → List ℕ → Type 0
AreParts time [] [] [] = Unit {0}
AreParts time (t ∷ talkers) (q ∷ counts) (x ∷ times) = (time ≡ t.period * q + x) × AreParts time talkers counts times
AreParts time _ _ _ = ⊥

-- with the same time for each
pub parts_first : (time : ℕ) (talkers : List Talker) (times : List ℕ) → length times ≡ length talkers
    → ((i : ℕ) → i < length talkers → get_or times i 0 ≡ time)
    → (counts : List ℕ) × AreParts time talkers counts times × (total counts ≡ 0)
parts_first time [] [] same each = ([], tt, refl)
parts_first time [] (x ∷ times) same each = absurd (omega (arith, same))
parts_first time (t ∷ talkers) [] same each = absurd (omega (arith, same))
parts_first time (t ∷ talkers) (x ∷ times) same each =
    let rest = parts_first time talkers times (omega (arith, same)) (λ i less. each (suc i) (omega (arith, less))) in
    let here = each 0 (omega arith) in
    let none : t.period * 0 ≡ 0 = omega arith in
    let sum = sum_by-cons (λ (n : ℕ). n) 0 rest.0 in
    let zero_is = rest.2 in
    (0 ∷ rest.0, (omega (arith, here, none), rest.1), omega (arith, sum, zero_is))

-- the whole periods of all
pub parts_whole : (time : ℕ) (talkers : List Talker) (counts times : List ℕ)
    → ((i : ℕ) → i < length talkers → 0 < (talker_at talkers i).period) → AreParts time talkers counts times
    → periods_in time talkers ≡ total counts + wholes talkers times
parts_whole time [] [] [] above h = refl
parts_whole time [] [] (x ∷ times) above h = absurd h
parts_whole time [] (q ∷ counts) times above h = absurd (none time q counts times h)
  where
    none : (time q : ℕ) (counts times : List ℕ) → AreParts time [] (q ∷ counts) times → ⊥
    none time q counts [] h = h
    none time q counts (x ∷ times) h = h
parts_whole time (t ∷ talkers) [] [] above h = absurd h
parts_whole time (t ∷ talkers) [] (x ∷ times) above h = absurd h
parts_whole time (t ∷ talkers) (q ∷ counts) [] above h = absurd h
parts_whole time (t ∷ talkers) (q ∷ counts) (x ∷ times) above h =
    let rest = parts_whole time talkers counts times (λ i less. above (suc i) (omega (arith, less))) h.1 in
    let turn : time ≡ x + t.period * q = (let is = h.0 in omega (arith, is)) in
    let here : time / t.period ≡ x / t.period + q = ap (λ n. n / t.period) turn ∙ add-mul-div_left x q (above 0 (omega arith)) in
    let sum = sum_by-cons (λ (n : ℕ). n) q counts in
    let whole = sum_by-cons (λ (u : Talker). time / u.period) t talkers in
    omega (arith, rest, here, sum, whole)

-- one digit more
pub parts_next : (time b : ℕ) (talkers : List Talker) (counts times new : List ℕ) → AreParts time talkers counts times
    → length new ≡ length talkers
    → ((i : ℕ) → i < length talkers → get_or new i 0 ≡ (get_or times i 0 % (talker_at talkers i).period) * b)
    → (more : List ℕ) × AreParts (time * b) talkers more new × (total more ≡ (total counts + wholes talkers times) * b)
parts_next time b [] [] [] [] h same each = ([], tt, (let z : (0 + 0) * b ≡ 0 = omega arith in sym z))
parts_next time b [] [] [] (y ∷ new) h same each = absurd (omega (arith, same))
parts_next time b [] [] (x ∷ times) new h same each = absurd h
parts_next time b [] (q ∷ counts) [] new h same each = absurd h
parts_next time b [] (q ∷ counts) (x ∷ times) new h same each = absurd h
parts_next time b (t ∷ talkers) [] [] new h same each = absurd h
parts_next time b (t ∷ talkers) [] (x ∷ times) new h same each = absurd h
parts_next time b (t ∷ talkers) (q ∷ counts) [] new h same each = absurd h
parts_next time b (t ∷ talkers) (q ∷ counts) (x ∷ times) [] h same each = absurd (omega (arith, same))
parts_next time b (t ∷ talkers) (q ∷ counts) (x ∷ times) (y ∷ new) h same each =
    let rest = parts_next time b talkers counts times new h.1 (omega (arith, same)) (λ i less. each (suc i) (omega (arith, less))) in
    let p : ℕ = t.period in
    let is = h.0 in
    let y_is = each 0 (omega arith) in
    let x_is = div-add-mod x p in
    let inner : p * (q + x / p) ≡ p * q + p * (x / p) = grind arith in
    let whole : time ≡ p * (q + x / p) + x % p = omega (arith, is, x_is, inner) in
    let times_b : time * b ≡ p * ((q + x / p) * b) + y = ap (λ n. n * b) whole ∙
    (add-mul (p * (q + x / p)) (x % p) b ∙ (let a = mul_assoc p (q + x / p) b in omega (arith, a, y_is))) in
    let sum = sum_by-cons (λ (n : ℕ). n) ((q + x / p) * b) rest.0 in
    let old = sum_by-cons (λ (n : ℕ). n) q counts in
    let rest_is = rest.2 in
    let all : (total (q ∷ counts) + wholes (t ∷ talkers) (x ∷ times)) * b ≡ (q + x / p) * b + (total counts + wholes talkers times) * b =
    (let e : total (q ∷ counts) + wholes (t ∷ talkers) (x ∷ times) ≡ (q + x / p) + (total counts + wholes talkers times) = omega
    (arith, old) in ap (λ n. n * b) e ∙ add-mul (q + x / p) (total counts + wholes talkers times) b)
    in
    ((q + x / p) * b ∷ rest.0, (times_b, rest.1), omega (arith, sum, rest_is, all))

-- Where the walk over the digits stands: in n times the time so many slots are left of all, when each talker has had one for each whole
-- period that is counted so far.
pub record IsDigit (talkers : List Talker) (slots time : ℕ) (left : ℕ) (times : List ℕ) : Type 0 where
  pub n : ℕ
  pub counts : List ℕ
  pub parts : AreParts (time * n) talkers counts times
  pub sum : slots * n ≡ left + total counts

pub digit_first : (talkers : List Talker) (slots time : ℕ) (times : List ℕ) → length times ≡ length talkers
    → ((i : ℕ) → i < length talkers → get_or times i 0 ≡ time) → IsDigit talkers slots time slots times
digit_first talkers slots time times same each =
    let one : time ≡ time * 1 = omega arith in
    let first = parts_first time talkers times same each in
    let none = first.2 in
    record { n = 1; counts = first.0; parts = subst (λ x. AreParts x talkers first.0 times) one first.1; sum = omega (arith, none) }

pub digit_next : (talkers : List Talker) (slots time now left next b : ℕ) (times new : List ℕ) → IsDigit talkers slots time now times
    → left + wholes talkers times ≡ now → next ≡ left * b
    → length new ≡ length talkers → ((i : ℕ) → i < length talkers → get_or new i 0 ≡ (get_or times i 0 % (talker_at talkers i).period) * b)
    → IsDigit talkers slots time next new
digit_next talkers slots time now left next b times new h is next_is same each =
    let more = parts_next (time * h.n) b talkers h.counts times new h.parts same each in
    let sum = h.sum in
    let total_is = more.2 in
    let whole : slots * h.n ≡ left + (total h.counts + wholes talkers times) = omega (arith, sum, is) in
    let times_b : slots * h.n * b ≡ left * b + (total h.counts + wholes talkers times) * b = ap (λ n. n * b) whole ∙ add-mul left
    (total h.counts + wholes talkers times) b in
    record {
      n = h.n * b;
      counts = more.0;
      parts = subst (λ x. AreParts x talkers more.0 new) (mul_assoc time h.n b) more.1;
      sum = (let a = mul_assoc slots h.n b in omega (arith, a, times_b, total_is, next_is));
    }

pub digit_over : (talkers : List Talker) (slots time now : ℕ) (times : List ℕ)
    → ((i : ℕ) → i < length talkers → 0 < (talker_at talkers i).period) → IsDigit talkers slots time now times
    → now < wholes talkers times → (n : ℕ) × (slots * n < periods_in (time * n) talkers)
digit_over talkers slots time now times above h less =
    let whole = parts_whole (time * h.n) talkers h.counts times above h.parts in
    let sum = h.sum in
    (h.n, omega (arith, whole, sum, less))

-- ---- so many slots again and again

module _ (plan : Plan) (class d frames cycles : ℕ) (above : 0 < plan.cycle) (h : Takes plan class d frames cycles) where
  abbrev may : ℕ → ℕ → Bool
  may = may_by plan class

  abbrev span : ℕ
  span = in_ps plan.cycle * cycles

  again : Repeats may span
  again = by_repeats plan above class cycles

  shifted : (k s : ℕ) → IsSlot may d h.from k s → IsSlot may d h.from (k + frames) (s + span)
  shifted zero s slot =
      let same = one_slot may d h.from 0 h.slot s h.first slot in
      subst (λ n. IsSlot may d h.from n (s + span)) (let e : frames ≡ 0 + frames = omega arith in e)
      (subst (λ a. IsSlot may d h.from frames (a + span)) same h.later)
  shifted (suc k) s slot =
      let at : suc (0 + k) ≡ suc k = omega arith in
      let rest = slots_behind may d h.from 0 k h.slot s h.first (subst (λ n. IsSlot may d h.from n s) (sym at) slot) in
      let moved = slot_later may d span (h.slot + d) k s again rest in
      let to : h.slot + d + span ≡ h.slot + span + d = omega arith in
      let all = both_slots may d h.from frames k (h.slot + span) (s + span) h.later (subst (λ a. IsSlot may d a k (s + span)) to moved) in
      subst (λ n. IsSlot may d h.from n (s + span)) (let e : suc (frames + k) ≡ suc k + frames = omega arith in e) all

  rows : (n : ℕ) → IsSlot may d h.from (frames * n) (h.slot + span * n)
  rows zero =
      let a : 0 ≡ frames * 0 = omega arith in
      let b : h.slot ≡ h.slot + span * 0 = omega arith in
      subst (λ k. IsSlot may d h.from k (h.slot + span * 0)) a (subst (λ s. IsSlot may d h.from 0 s) b h.first)
  rows (suc n) =
      let a : frames * n + frames ≡ frames * suc n = grind arith in
      let b : h.slot + span * n + span ≡ h.slot + span * suc n = grind arith in
      subst (λ k. IsSlot may d h.from k (h.slot + span * suc n)) a
      (subst (λ s. IsSlot may d h.from (frames * n + frames) s) b (shifted (frames * n) (h.slot + span * n) (rows n)))

  pub takes_times : (n : ℕ) → Takes plan class d (frames * n) (cycles * n)
  takes_times n = record {
    from = h.from;
    slot = h.slot;
    first = h.first;
    later = subst (λ e. IsSlot may d h.from (frames * n) (h.slot + e)) (mul_assoc (in_ps plan.cycle) cycles n) (rows n);
  }

-- a class is overloaded where more periods pass in some times its share
pub overloaded_by : (plan : Plan) (class d slots time cycles n : ℕ) (talkers : List Talker) → 0 < plan.cycle
    → Takes plan class d slots cycles → time ≡ in_ps plan.cycle * cycles
    → slots * n < periods_in (time * n) talkers → IsOverloaded plan class d talkers
overloaded_by plan class d slots time cycles n talkers above takes whole more = record {
  frames = slots * n;
  cycles = cycles * n;
  takes = takes_times plan class d slots cycles above takes n;
  more = subst (λ x. slots * n < periods_in x talkers) (ap (λ x. x * n) whole ∙ mul_assoc (in_ps plan.cycle) cycles n) more;
}

-- ---- no bounds

times_more : (x n p : ℕ) → 0 < p → x / p * n ≤ (x * n) / p
times_more x n p above =
    let low : x / p * p ≤ x = div-mul-le_self x p in
    let up : x / p * p * n ≤ x * n = (let e : x * n ≡ x / p * p * n + (x - x / p * p) * n =
    (let s : x ≡ x / p * p + (x - x / p * p) = omega (arith, low) in ap (λ m. m * n) s ∙ add-mul (x / p * p) (x - x / p * p) n) in
    omega (arith, e)) in
    let turn : x / p * p * n ≡ x / p * n * p = mul_assoc (x / p) p n ∙ (ap (λ m. x / p * m) (mul_comm p n) ∙ sym (mul_assoc (x / p) n p)) in
    (le-div_iff_mul-le above).1 (omega (arith, up, turn))

-- in n times a time n times as many whole periods pass, and more frames may come
periods_times : (talkers : List Talker) (e n x : ℕ) → ((i : ℕ) → i < length talkers → 0 < (talker_at talkers i).period) → e * n ≤ x
    → periods_in e talkers * n ≤ curve talkers x
periods_times [] e n x above le = omega arith
periods_times (t ∷ talkers) e n x above le =
    let p : ℕ = t.period in
    let some = above 0 (omega arith) in
    let rest = periods_times talkers e n x (λ i less. above (suc i) (omega (arith, less))) le in
    let here = times_more e n p some in
    let within : (e * n) / p * p ≤ e * n = div-mul-le_self (e * n) p in
    let up : (e * n) / p ≤ (x + t.jitter) / p = (le-div_iff_mul-le some).1 (omega (arith, within, le)) in
    let whole = sum_by-cons (λ (u : Talker). e / u.period) t talkers in
    let parts : periods_in e (t ∷ talkers) * n ≡ e / p * n + periods_in e talkers * n = ap (λ m. m * n) whole ∙ add-mul (e / p)
    (periods_in e talkers) n in
    let sum = sum_by-cons (curve_of x) (sporadic_of t) (map sporadic_of talkers) in
    omega (arith, rest, here, up, parts, sum)

pub overload_law : OverloadLaw
overload_law plan class d wait most talkers above periods h bounds =
    let n : ℕ = suc most in
    let takes = h.takes in
    let span : ℕ = in_ps plan.cycle * h.cycles in
    let row = rows plan class d h.frames h.cycles above takes n in
    let from = (takes.first).from in
    let x : ℕ = takes.slot - takes.from + span * n in
    let told = bounds.few takes.from x (h.frames * n) (takes.slot + span * n) row (omega (arith, from)) in
    let low = periods_times talkers span n x periods (omega arith) in
    let more = h.more in
    let up : (h.frames + 1) * n ≤ periods_in span talkers * n =
    (let e : periods_in span talkers * n ≡ (h.frames + 1) * n + (periods_in span talkers - (h.frames + 1)) * n =
    (let s : periods_in span talkers ≡ h.frames + 1 + (periods_in span talkers - (h.frames + 1)) = omega (arith, more) in ap (λ m. m * n) s
    ∙ add-mul (h.frames + 1) (periods_in span talkers - (h.frames + 1)) n) in
    omega (arith, e))
    in
    let parts : (h.frames + 1) * n ≡ h.frames * n + n =
    (let o : 1 * n ≡ n = omega arith in add-mul h.frames 1 n ∙ ap (λ m. h.frames * n + m) o) in
    omega (arith, told, low, up, parts)
