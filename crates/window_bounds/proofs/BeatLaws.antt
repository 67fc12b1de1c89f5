-- How many moments of a beat come before one, and the beat behind them.
use Rattle.std.proofs.Common.{◌≡◌, ◌<◌, ◌≤◌, ℕ, zero, suc, ◌+◌, ◌-◌, ◌*◌, ◌/◌, ◌%◌, ◌^◌, inl, inr, All, List, [], ◌∷◌, refl, ap, ◌∙◌, arith, le_refl, mul-add}
use Rattle.std.proofs.Math.Nat.{div-add-mod, mod-lt}
use Rattle.std.proofs.lemmas.Bool.{cases_lt}
use Rattle.std.proofs.lemmas.List.Elements.{All-map}
use Rattle.std.proofs.lemmas.List.Sums.{sum_by-cons}
use Rattle.any_traffic.specs.PeriodicWindows.{before}
use Rattle.any_traffic.proofs.PeriodicWindowLaws.{before_is, before_more, before_of}
use Rattle.window_bounds.specs.Beats.{IsBeat, all_before, all_from, come_of, from_on}
use Rattle.window_bounds.specs.declared.beats.Beat.{Beat}

-- ---- one beat

pub before_none : (o t u : ℕ) → 0 < t → u ≤ o → before o t u ≡ 0
before_none o t u above soon = by (before o t u) refl
  where
    by : (n : ℕ) → before o t u ≡ n → before o t u ≡ 0
    by zero e = e
    by (suc n) e = (let first = before_is o t 0 u above (omega (arith, e)) in absurd (omega (arith, first, soon)))

pub before_some : (o t u : ℕ) → 0 < t → o ≤ u → before o t (u + 1) ≡ (u - o) / t + 1
before_some o t u above begun =
    let q : ℕ = (u - o) / t in
    let whole = div-add-mod (u - o) t in
    let rest = mod-lt (u - o) above in
    let come = before_of o t q (u + 1) above (omega (arith, whole, begun)) in
    elim (cases_lt (q + 1) (before o t (u + 1))) [
      | inr ok ↦ omega (arith, ok, come)
      | inl more ↦
          let last = before_is o t (q + 1) (u + 1) above more in
          let parts : t * (q + 1) ≡ t * q + t * 1 = mul-add t q 1 in
          absurd (omega (arith, last, parts, whole, rest, begun))
    ]

-- the next one behind those before a moment
pub next_is : (o t u : ℕ) → 0 < t → o ≤ u → o + t * before o t (u + 1) ≡ u + (t - (u - o) % t)
next_is o t u above begun =
    let whole = div-add-mod (u - o) t in
    let rest = mod-lt (u - o) above in
    let many = ap (λ n. t * n) (before_some o t u above begun) in
    let parts : t * ((u - o) / t + 1) ≡ t * ((u - o) / t) + t * 1 = mul-add t ((u - o) / t) 1 in
    omega (arith, whole, rest, many, parts, begun)

-- those before a later one are those before the first, and those from then on
pub before_split : (o t u v : ℕ) → 0 < t → u ≤ v → before (o + t * before o t u) t v + before o t u ≡ before o t v
before_split o t u v above le =
    let p : ℕ = before o t u in
    let q : ℕ = before (o + t * before o t u) t v in
    let rise = before_more o o t u v above (le_refl o) le in
    let low : q ≤ before o t v - p = elim (cases_lt (before o t v - p) q) [
      | inr ok ↦ ok
      | inl more ↦
          let n : ℕ = before o t v - p in
          let come = before_is (o + t * p) t n v above more in
          let parts : t * (p + n) ≡ t * p + t * n = mul-add t p n in
          let here = before_of o t (p + n) v above (omega (arith, come, parts)) in
          absurd (omega (arith, here, rise))
    ] in
    let high : before o t v ≤ p + q = elim (cases_lt (p + q) (before o t v)) [
      | inr ok ↦ ok
      | inl more ↦
          let come = before_is o t (p + q) v above more in
          let parts : t * (p + q) ≡ t * p + t * q = mul-add t p q in
          let here = before_of (o + t * p) t q v above (omega (arith, come, parts)) in
          absurd (omega (arith, here))
    ] in
    omega (arith, low, high, rise)

-- none come before the next one
pub before_idle : (o t u v : ℕ) → 0 < t → u ≤ v → v ≤ o + t * before o t u → before o t v ≡ before o t u
before_idle o t u v above le next =
    let split = before_split o t u v above le in
    let none = before_none (o + t * before o t u) t v above next in
    omega (arith, split, none)

pub from_beat : (t : ℕ) (b : Beat) → IsBeat b → t ≤ 2 ^ 80 → IsBeat (from_on (t + 1) b)
from_beat t b is soon = elim (cases_lt t b.next) [
  | inl early ↦
      let none = before_none b.next b.period (t + 1) is.above (omega (arith, early)) in
      let at = ap (λ n. b.period * n) none in
      let zero_is : b.period * 0 ≡ 0 = omega arith in
      let next = is.next in
      record { above = is.above; period = is.period; next = omega (arith, at, zero_is, next) }
  | inr begun ↦
      let at = next_is b.next b.period t is.above begun in
      let period = is.period in
      record { above = is.above; period = is.period; next = omega (arith, at, period, soon) }
]

-- ---- all beats

abbrev pub HaveBeats : List Beat → Type 0
HaveBeats beats = All (λ (b : Beat). 0 < b.period) beats

pub from_beats : (t : ℕ) (beats : List Beat) → All IsBeat beats → t ≤ 2 ^ 80 → All IsBeat (all_from (t + 1) beats)
from_beats t beats all soon = All-map IsBeat (from_on (t + 1)) beats (λ k d less. from_beat t _ (all k d less) soon)

-- the first of all, and the others
pub head_of : (P : Beat → Type 0) (b : Beat) (beats : List Beat) → All P (b ∷ beats) → P b
head_of P b beats all = all 0 b (omega arith)

pub rest_of : (P : Beat → Type 0) (b : Beat) (beats : List Beat) → All P (b ∷ beats) → All P beats
rest_of P b beats all = λ k d less. all (suc k) d (omega (arith, less))

pub from_twice : (u v : ℕ) (beats : List Beat) → HaveBeats beats → u ≤ v → all_from v (all_from u beats) ≡ all_from v beats
from_twice u v [] all le = refl
from_twice u v (b ∷ beats) all le =
    let split = before_split b.next b.period u v (head_of (λ (x : Beat). 0 < x.period) b beats all) le in
    let parts = mul-add b.period (before b.next b.period u) (come_of v (from_on u b)) in
    let many : before b.next b.period u + come_of v (from_on u b) ≡ before b.next b.period v = omega (arith, split) in
    let whole = ap (λ n. b.period * n) many in
    let at : b.next + b.period * before b.next b.period u + b.period * come_of v (from_on u b) ≡ b.next + b.period * before b.next b.period v
    = omega (arith, parts, whole) in
    ap (λ n. record { next = n; period = b.period } ∷ all_from v (all_from u beats)) at
    ∙ ap (λ xs. from_on v b ∷ xs) (from_twice u v beats (rest_of (λ (x : Beat). 0 < x.period) b beats all) le)

pub before_twice : (u v : ℕ) (beats : List Beat) → HaveBeats beats → u ≤ v
    → all_before (all_from u beats) v + all_before beats u ≡ all_before beats v
before_twice u v [] all le = refl
before_twice u v (b ∷ beats) all le =
    let here = before_split b.next b.period u v (head_of (λ (x : Beat). 0 < x.period) b beats all) le in
    let rest = before_twice u v beats (rest_of (λ (x : Beat). 0 < x.period) b beats all) le in
    let x = sum_by-cons (come_of v) (from_on u b) (all_from u beats) in
    let y = sum_by-cons (come_of u) b beats in
    let z = sum_by-cons (come_of v) b beats in
    omega (arith, here, rest, x, y, z)

-- one comes just then
pub before_one : (o t u : ℕ) → 0 < t → o ≡ u → before o t (u + 1) ≡ 1
before_one o t u above is =
    let some = before_of o t 0 (u + 1) above (let none : t * 0 ≡ 0 = omega arith in omega (arith, is, none)) in
    elim (cases_lt 1 (before o t (u + 1))) [
      | inr ok ↦ omega (arith, ok, some)
      | inl more ↦ (let last = before_is o t 1 (u + 1) above more in let one : t * 1 ≡ t = omega arith in absurd (omega (arith, last, one, is, above)))
    ]
