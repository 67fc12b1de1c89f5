-- The moments of a stream's frames.
use Rattle.std.proofs.Common.{◌≡◌, ◌≤◌, ◌<◌, ◌+◌, ◌-◌, ◌*◌, ◌%◌, ℕ, zero, suc, Option, Some, None, refl, ap, ◌∙◌, arith, max}
use Rattle.std.proofs.Math.Nat.{le-max_left, max-eq_right, max-le, mod-lt, mul-le-mul_left}
use Rattle.wire_time.specs.Moment.{greatest_moment}
use Rattle.traffic.specs.Draws.{draw, value}
use Rattle.traffic.specs.Frames.{late_drawn, length_drawn}
use Rattle.traffic.specs.Words.{Course, IsCourse, late_by, moment_after, reached_by}

-- ---- what is drawn is at most so great

pub draw_within : (seed n most : ℕ) → draw seed n most ≤ most
draw_within seed n most = (let less : value seed n % (most + 1) < most + 1 = mod-lt (value seed n) (omega arith) in omega (arith, less))

late_drawn_within : (seed : Option ℕ) (k jitter : ℕ) → late_drawn seed k jitter ≤ jitter
late_drawn_within None k jitter = omega arith
late_drawn_within (Some seed) k jitter = draw_within seed (k * 2 + 1) jitter

pub length_drawn_within : (seed : Option ℕ) (k shortest len : ℕ) → shortest ≤ len → length_drawn seed k shortest len ≤ len
length_drawn_within None k shortest len le = omega arith
length_drawn_within (Some seed) k shortest len le = (let drawn = draw_within seed (k * 2 + 2) (len - shortest) in omega (arith, drawn, le))

-- ---- one frame after another

pub none_reached : (c : Course) → reached_by c 0 ≡ 0
unfolding reached_by
none_reached c = refl

pub one_reached : (c : Course) (k : ℕ) → reached_by c (suc k) ≡ moment_after c k
unfolding reached_by
one_reached c k = refl

-- no frame comes before the one before it
pub no_earlier : (c : Course) (k : ℕ) → moment_after c k ≤ moment_after c (k + 1)
no_earlier c k =
    let one : reached_by c (k + 1) ≡ moment_after c k = ap (reached_by c) (let n : k + 1 ≡ suc k = omega arith in n) ∙ one_reached c k in
    let after = le-max_left (reached_by c (k + 1)) (c.first + c.period * (k + 1) + late_by c (k + 1)) in
    omega (arith, one, after)

-- all come by a moment by which the last one comes, however late it may be
module _ (most : ℕ) (c : Course) (ends : c.first + c.jitter + c.period * (c.count - 1) ≤ most) where
  by_end : (k : ℕ) → k < c.count → c.first + c.period * k + late_by c k ≤ most
  by_end k less =
      let others : c.period * k ≤ c.period * (c.count - 1) = mul-le-mul_left c.period (omega (arith, less)) in
      let late = late_drawn_within c.seed k c.jitter in
      omega (arith, others, late, ends)

  reached_by_end : (k : ℕ) → k ≤ c.count → reached_by c k ≤ most
  reached_by_end zero le = (let none = none_reached c in omega (arith, none))
  reached_by_end (suc k) le =
      let here = max-le (reached_by_end k (omega (arith, le))) (by_end k (omega (arith, le))) in
      let one = one_reached c k in
      omega (arith, one, here)

  pub moment_by_end : (k : ℕ) → k < c.count → moment_after c k ≤ most
  moment_by_end k less = max-le (reached_by_end k (omega (arith, less))) (by_end k less)

-- so all come by the greatest moment
pub reached_within : (c : Course) (k : ℕ) → IsCourse c → k ≤ c.count → reached_by c k ≤ greatest_moment
reached_within c k is le = reached_by_end greatest_moment c is.ends k le

pub moment_within : (c : Course) (k : ℕ) → IsCourse c → k < c.count → moment_after c k ≤ greatest_moment
moment_within c k is less = moment_by_end greatest_moment c is.ends k less

-- where nothing is drawn each comes at its earliest moment
never_late : (c : Course) (k : ℕ) → c.seed ≡ None → late_by c k ≡ 0
never_late c k none = ap (λ seed. late_drawn seed k c.jitter) none

reached_before : (c : Course) (k : ℕ) → c.seed ≡ None → reached_by c k ≤ c.first + c.period * k
reached_before c zero none = (let first = none_reached c in omega (arith, first))
reached_before c (suc k) none =
    let on : c.period * k ≤ c.period * suc k = mul-le-mul_left c.period (omega arith) in
    let late = never_late c k none in
    let before = reached_before c k none in
    let here = max-le (let l : reached_by c k ≤ c.first + c.period * suc k = omega (arith, before, on) in l) (let l : c.first + c.period * k + late_by c k ≤ c.first + c.period * suc k = omega (arith, late, on) in l) in
    let one = one_reached c k in
    omega (arith, one, here)

pub moment_exact : (c : Course) (k : ℕ) → c.seed ≡ None → c.first + c.period * k ≡ moment_after c k
moment_exact c k none =
    let late = never_late c k none in
    let before = reached_before c k none in
    let last : max (reached_by c k) (c.first + c.period * k + late_by c k) ≡ c.first + c.period * k + late_by c k = max-eq_right (omega (arith, late, before)) in
    omega (arith, last, late)
