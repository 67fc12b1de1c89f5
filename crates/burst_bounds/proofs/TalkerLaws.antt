-- The curve of talkers rises, adds up, and comes again after whole periods.
use Rattle.std.proofs.Common.{◌≡◌, ◌<◌, ◌≤◌, ℕ, zero, suc, ◌+◌, ◌*◌, ◌/◌, ◌%◌, max, List, [], ◌∷◌, map, length, drop, drop_of_length-le, All, refl, ap, ◌∙◌, subst, arith}
use Rattle.std.proofs.Math.Nat.{div-add-mod, add-mul-div_left}
use Rattle.std.proofs.lemmas.List.Sums.{sum_by-cons}
use Rattle.std.proofs.lemmas.Option.{same_Some}
use Rattle.wire_time.specs.Moment.{greatest_moment}
use Rattle.any_traffic.specs.BusyPeriod.{IsSubadditive}
use Rattle.any_traffic.specs.Sporadic.{AreFlows, curve_of}
use Rattle.any_traffic.proofs.CycleLaws.{rising_law, subadditive_law}
use Rattle.burst_bounds.specs.Talkers.{IsTalker, curve, flows_of, longest_need, sporadic_of}
use Rattle.burst_bounds.specs.Unbound.{periods_in}
use Rattle.burst_bounds.specs.Walk.{talker_at}
use Rattle.burst_bounds.specs.declared.Talker.{Talker}

-- those behind the first
behind : (t : Talker) (talkers : List Talker) → All IsTalker (t ∷ talkers) → All IsTalker talkers
behind t talkers all = λ k d less. all (suc k) d (omega (arith, less))

pub are_flows : (d : ℕ) (talkers : List Talker) → All IsTalker talkers → longest_need talkers ≤ d → AreFlows d (flows_of talkers)
are_flows d [] all few i flow is = absurd (cc)
are_flows d (t ∷ talkers) all few zero flow is =
    let same : sporadic_of t ≡ flow = same_Some (sporadic_of t) flow is in
    subst (λ f. (0 < f.period) × (f.need ≤ d)) same ((all 0 t (omega arith)).above, omega (arith, few))
are_flows d (t ∷ talkers) all few (suc i) flow is = are_flows d talkers (behind t talkers all) (omega (arith, few)) i flow is

pub curve_rises : (talkers : List Talker) → All IsTalker talkers → (x y : ℕ) → x ≤ y → curve talkers x ≤ curve talkers y
curve_rises talkers all x y le = rising_law (longest_need talkers) (flows_of talkers)
    (are_flows (longest_need talkers) talkers all (omega arith)) x y le

pub curve_adds : (talkers : List Talker) → All IsTalker talkers → IsSubadditive (curve talkers)
curve_adds talkers all = subadditive_law (longest_need talkers) (flows_of talkers)
    (are_flows (longest_need talkers) talkers all (omega arith))

pub curve_some : (talkers : List Talker) → 0 < length talkers → (x : ℕ) → 0 < curve talkers x
curve_some [] some x = absurd (omega (arith, some))
curve_some (t ∷ talkers) some x = (let whole = sum_by-cons (curve_of x) (sporadic_of t) (map sporadic_of talkers) in omega (arith, whole))

pub need_above : (talkers : List Talker) → 0 < length talkers → All IsTalker talkers → 0 < longest_need talkers
need_above [] some all = absurd (omega (arith, some))
need_above (t ∷ talkers) some all = (let first = (all 0 t (omega arith)).some in omega (arith, first))

pub need_within : (talkers : List Talker) (n : ℕ) → ((i : ℕ) → i < length talkers → (talker_at talkers i).need ≤ n)
    → longest_need talkers ≤ n
need_within [] n each = omega arith
need_within (t ∷ talkers) n each = (let here = each 0 (omega arith) in let rest = need_within talkers n
    (λ i less. each (suc i) (omega (arith, less))) in omega (arith, here, rest))

-- ---- whole periods

one_again : (t : Talker) (x e : ℕ) → 0 < t.period → e % t.period ≡ 0
    → curve_of (x + e) (sporadic_of t) ≡ curve_of x (sporadic_of t) + e / t.period
one_again t x e above none =
    let whole = div-add-mod e t.period in
    let parts : x + e + t.jitter ≡ x + t.jitter + t.period * (e / t.period) = omega (arith, whole, none) in
    let q : (x + e + t.jitter) / t.period ≡ (x + t.jitter) / t.period + e / t.period = ap (λ n. n / t.period) parts ∙ add-mul-div_left
    (x + t.jitter) (e / t.period) above in
    omega (arith, q)

pub curve_again : (talkers : List Talker) (x e : ℕ) → All IsTalker talkers
    → ((i : ℕ) → i < length talkers → e % (talker_at talkers i).period ≡ 0) → curve talkers (x + e) ≡ curve talkers x + periods_in e talkers
curve_again [] x e all divides = omega arith
curve_again (t ∷ talkers) x e all divides =
    let here = one_again t x e (all 0 t (omega arith)).above (divides 0 (omega arith)) in
    let rest = curve_again talkers x e (behind t talkers all) (λ i less. divides (suc i) (omega (arith, less))) in
    let a = sum_by-cons (curve_of (x + e)) (sporadic_of t) (map sporadic_of talkers) in
    let b = sum_by-cons (curve_of x) (sporadic_of t) (map sporadic_of talkers) in
    let c = sum_by-cons (λ (u : Talker). e / u.period) t talkers in
    omega (arith, here, rest, a, b, c)

-- ---- the longest need, talker by talker

drop_more : (ts : List Talker) (n : ℕ) → n < length ts
    → longest_need (drop n ts) ≡ max (talker_at ts n).need (longest_need (drop (suc n) ts))
drop_more [] n less = absurd (omega (arith, less))
drop_more (t ∷ ts) zero less = refl
drop_more (t ∷ ts) (suc n) less = drop_more ts n (omega (arith, less))

pub need_more : (ts : List Talker) (n need next all : ℕ) → n < length ts → max need (longest_need (drop n ts)) ≡ all
    → next ≡ max (talker_at ts n).need need
    → max next (longest_need (drop (n + 1) ts)) ≡ all
need_more ts n need next all less is e =
    let more = drop_more ts n less in
    let at : longest_need (drop (n + 1) ts) ≡ longest_need (drop (suc n) ts) = ap (λ k. longest_need (drop k ts))
    (let s : n + 1 ≡ suc n = omega arith in s) in
    omega (arith, more, at, is, e)

pub need_all : (ts : List Talker) (n need all : ℕ) → length ts ≤ n → max need (longest_need (drop n ts)) ≡ all → need ≡ all
need_all ts n need all le is = (let none : longest_need (drop n ts) ≡ 0 = ap longest_need (drop_of_length-le ts le) in omega
    (arith, none, is))

pub need_small : (talkers : List Talker) → All IsTalker talkers → longest_need talkers ≤ greatest_moment
need_small [] all = omega arith
need_small (t ∷ talkers) all = (let here = (all 0 t (omega arith)).need in let rest = need_small talkers (behind t talkers all) in omega
    (arith, here, rest))
