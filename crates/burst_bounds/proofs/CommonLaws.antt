-- Times of whole periods.
use Rattle.std.proofs.Common.{◌≡◌, ◌<◌, ◌≤◌, ℕ, zero, suc, ◌+◌, ◌*◌, ◌/◌, ◌%◌, ◌^◌, List, [], ◌∷◌, length, drop, drop_of_length-le, sym, ap, ◌∙◌, subst, arith, mul_assoc, inl, inr}
use Rattle.std.proofs.Math.Nat.{div-add-mod, mul-mod_right}
use Rattle.std.proofs.lemmas.Bool.{cases_lt}
use Rattle.std.proofs.lemmas.List.Sums.{sum_by-cons}
use Rattle.burst_bounds.specs.Reach.{IsCommonTime, IsMultiple}
use Rattle.burst_bounds.specs.Unbound.{periods_in}
use Rattle.burst_bounds.specs.Walk.{talker_at}
use Rattle.burst_bounds.specs.declared.Talker.{Talker}

-- a number of times that many whole periods is whole periods
still : (t k p : ℕ) → t % p ≡ 0 → (t * k) % p ≡ 0
still t k p none =
    let whole = div-add-mod t p in
    let is : t ≡ p * (t / p) = omega (arith, whole, none) in
    let at : t * k ≡ p * (t / p * k) = ap (λ n. n * k) is ∙ mul_assoc p (t / p) k in
    ap (λ n. n % p) at ∙ mul-mod_right p (t / p * k)

-- so many talkers' periods are whole in a time of whole cycles
pub record IsCommonTo (talkers : List Talker) (n cycle t : ℕ) : Type 0 where
  pub cycles : ℕ
  pub whole : t ≡ cycle * cycles
  pub lasts : 0 < t
  pub small : t < 2 ^ 127
  pub divides : (i : ℕ) → i < n → t % (talker_at talkers i).period ≡ 0

pub common_none : (talkers : List Talker) (cycle : ℕ) → 0 < cycle → cycle < 2 ^ 127 → IsCommonTo talkers 0 cycle cycle
common_none talkers cycle some small = record {
  cycles = 1;
  whole = (let e : cycle ≡ cycle * 1 = omega arith in e);
  lasts = some;
  small = small;
  divides = λ i less. absurd
      (omega (arith, less));
}

pub common_more : (talkers : List Talker) (n cycle t u : ℕ) → IsCommonTo talkers n cycle t → IsMultiple t (talker_at talkers n).period u
    → IsCommonTo talkers (n + 1) cycle u
common_more talkers n cycle t u h m = record {
  cycles = h.cycles * m.times;
  whole = m.whole ∙ (ap (λ k. k * m.times) h.whole ∙ mul_assoc cycle h.cycles m.times);
  lasts = m.lasts;
  small = m.small;
  divides = λ i less. elim (cases_lt i n) [
    | inl before ↦ subst (λ k. k % (talker_at talkers i).period ≡ 0) (sym m.whole)
        (still t m.times (talker_at talkers i).period (h.divides i before))
    | inr here ↦ subst (λ k. u % (talker_at talkers k).period ≡ 0) (let e : n ≡ i = omega (arith, here, less) in e) m.divides
  ];
}

pub common_all : (talkers : List Talker) (n cycle t : ℕ) → length talkers ≤ n → IsCommonTo talkers n cycle t → IsCommonTime talkers cycle t
common_all talkers n cycle t all h = record
    { cycles = h.cycles; whole = h.whole; lasts = h.lasts; small = h.small; divides = λ i less. h.divides i (omega (arith, less, all)) }

-- ---- periods, talker by talker

pub periods_next : (time : ℕ) (ts : List Talker) (n : ℕ) → n < length ts
    → periods_in time (drop n ts) ≡ time / (talker_at ts n).period + periods_in time (drop (n + 1) ts)
periods_next time [] n less = absurd (omega (arith, less))
periods_next time (t ∷ ts) zero less = sum_by-cons (λ (u : Talker). time / u.period) t ts
periods_next time (t ∷ ts) (suc n) less = periods_next time ts n (omega (arith, less)) ∙ ap
    (λ k. time / (talker_at ts n).period + periods_in time k)
    (let e : n + 1 ≡ suc n = omega arith in ap (λ k. drop k ts) e ∙ sym
    (ap (λ k. drop k (t ∷ ts)) (let e : suc n + 1 ≡ suc (suc n) = omega arith in e)))

pub periods_end : (time : ℕ) (ts : List Talker) (n : ℕ) → length ts ≤ n → periods_in time (drop n ts) ≡ 0
periods_end time ts n all = ap (periods_in time) (drop_of_length-le ts all)
