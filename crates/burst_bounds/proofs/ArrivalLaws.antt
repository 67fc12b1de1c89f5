-- When frames come at the earliest: of all talkers' next frames the first.
use Rattle.std.proofs.Common.{◌≡◌, ◌<◌, ◌≤◌, ℕ, suc, ◌+◌, ◌*◌, ◌/◌, List, [], ◌∷◌, map, length, get_or, set, length-set, inl, inr, refl, sym, ◌∙◌, subst, arith, div-lt_iff_lt-mul}
use Rattle.std.proofs.Math.Nat.{div-mul-le_self, le-div_iff_mul-le}
use Rattle.std.specs.Prelude.{sum_by}
use Rattle.std.proofs.lemmas.Bool.{cases_lt}
use Rattle.std.proofs.lemmas.List.{get_or-set_same, get_or-set_other}
use Rattle.std.proofs.lemmas.List.Sums.{sum_by-cons, sum_by-set}
use Rattle.any_traffic.specs.Sporadic.{curve_of}
use Rattle.burst_bounds.specs.Talkers.{curve, sporadic_of}
use Rattle.burst_bounds.specs.Walk.{IsArrival, comes_at, talker_at}
use Rattle.burst_bounds.specs.declared.Talker.{Talker}

-- ---- one talker

not_yet : (t : Talker) (y c : ℕ) → 0 < t.period → y < comes_at t c → curve_of y (sporadic_of t) ≤ c
not_yet t y c above less =
    let q : (y + t.jitter) / t.period < c = (div-lt_iff_lt-mul above).1 (omega (arith, less)) in
    omega (arith, q)

come_by : (t : Talker) (x c : ℕ) → 0 < t.period → comes_at t c ≤ x → c + 1 ≤ curve_of x (sporadic_of t)
come_by t x c above le =
    let q : c ≤ (x + t.jitter) / t.period = (le-div_iff_mul-le above).1 (omega (arith, le)) in
    omega (arith, q)

rises : (t : Talker) (x y : ℕ) → 0 < t.period → x ≤ y → curve_of x (sporadic_of t) ≤ curve_of y (sporadic_of t)
rises t x y above le =
    let a : ℕ = (x + t.jitter) / t.period in
    let within : a * t.period ≤ x + t.jitter = div-mul-le_self (x + t.jitter) t.period in
    let up : a ≤ (y + t.jitter) / t.period = (le-div_iff_mul-le above).1 (omega (arith, within, le)) in
    omega (arith, up)

-- ---- all of them

abbrev pub total : List ℕ → ℕ
total counts = sum_by (λ n. n) counts

at_next : (t : Talker) (talkers : List Talker) (i : ℕ) → talker_at (t ∷ talkers) (suc i) ≡ talker_at talkers i
at_next t talkers i = refl

pub at_least : (x : ℕ) (talkers : List Talker) (counts : List ℕ) → length counts ≡ length talkers
    → ((i : ℕ) → i < length talkers → get_or counts i 0 ≤ curve_of x (sporadic_of (talker_at talkers i))) → total counts ≤ curve talkers x
at_least x [] [] same each = omega arith
at_least x [] (n ∷ counts) same each = absurd (cc)
at_least x (t ∷ talkers) [] same each = omega arith
at_least x (t ∷ talkers) (n ∷ counts) same each =
    let here = each 0 (omega arith) in
    let rest = at_least x talkers counts (omega (arith, same)) (λ i less. each (suc i) (omega (arith, less))) in
    let whole = sum_by-cons (curve_of x) (sporadic_of t) (map sporadic_of talkers) in
    let parts = sum_by-cons (λ m. m) n counts in
    omega (arith, here, rest, whole, parts)

pub at_most : (x : ℕ) (talkers : List Talker) (counts : List ℕ) → length counts ≡ length talkers
    → ((i : ℕ) → i < length talkers → curve_of x (sporadic_of (talker_at talkers i)) ≤ get_or counts i 0) → curve talkers x ≤ total counts
at_most x [] counts same each = omega arith
at_most x (t ∷ talkers) [] same each = absurd (cc)
at_most x (t ∷ talkers) (n ∷ counts) same each =
    let here = each 0 (omega arith) in
    let rest = at_most x talkers counts (omega (arith, same)) (λ i less. each (suc i) (omega (arith, less))) in
    let whole = sum_by-cons (curve_of x) (sporadic_of t) (map sporadic_of talkers) in
    let parts = sum_by-cons (λ m. m) n counts in
    omega (arith, here, rest, whole, parts)

-- So many frames of each talker have come, the last of them then; there is no further one before.
pub record AreCounted (talkers : List Talker) (counts : List ℕ) (last : ℕ) : Type 0 where
  pub places : length counts ≡ length talkers
  pub come : (i : ℕ) → i < length talkers → get_or counts i 0 ≤ curve_of last (sporadic_of (talker_at talkers i))
  pub ahead : (i : ℕ) → i < length talkers → last ≤ comes_at (talker_at talkers i) (get_or counts i 0)

module _ (talkers : List Talker) (counts : List ℕ) (last place : ℕ) (these : (i : ℕ) → i < length talkers
    → 0 < (talker_at talkers i).period)
    (h : AreCounted talkers counts last) (inside : place < length talkers)
    (first : (i : ℕ) → i < length talkers → comes_at (talker_at talkers place) (get_or counts place 0) ≤ comes_at (talker_at talkers i)
    (get_or counts i 0)) where
  abbrev moment : ℕ
  moment = comes_at (talker_at talkers place) (get_or counts place 0)

  abbrev more : List ℕ
  more = set counts place (get_or counts place 0 + 1)

  listed : place < length counts
  listed = (let same = h.places in omega (arith, same, inside))

  pub one_counted : total more ≡ total counts + 1
  one_counted = (let e = sum_by-set (λ n. n) counts place (get_or counts place 0 + 1) 0 listed in omega (arith, e))

  pub counted_next : AreCounted talkers more moment
  counted_next = record {
    places = length-set counts place _ ∙ h.places;
    come = λ i less. elim (cases_lt i place) [
      | inl before ↦ other_come i less (λ e. (let wrong : ⊥ = omega (arith, e, before) in wrong))
      | inr after ↦ elim (cases_lt place i) [
        | inl behind ↦ other_come i less (λ e. (let wrong : ⊥ = omega (arith, e, behind) in wrong))
        | inr here ↦ subst (λ k. get_or more k 0 ≤ curve_of moment (sporadic_of (talker_at talkers k)))
            (let e : place ≡ i = omega (arith, here, after) in e) own_come
      ]
    ];
    ahead = λ i less. elim (cases_lt i place) [
      | inl before ↦ other_ahead i less (λ e. (let wrong : ⊥ = omega (arith, e, before) in wrong))
      | inr after ↦ elim (cases_lt place i) [
        | inl behind ↦ other_ahead i less (λ e. (let wrong : ⊥ = omega (arith, e, behind) in wrong))
        | inr here ↦ subst (λ k. moment ≤ comes_at (talker_at talkers k) (get_or more k 0))
            (let e : place ≡ i = omega (arith, here, after) in e) own_ahead
      ]
    ];
  }
    where
      own : get_or more place 0 ≡ get_or counts place 0 + 1
      own = get_or-set_same counts place (get_or counts place 0 + 1) 0 listed

      own_come : get_or more place 0 ≤ curve_of moment (sporadic_of (talker_at talkers place))
      own_come = (let up = come_by (talker_at talkers place) moment (get_or counts place 0) (these place inside) (omega arith) in let is =
          own in omega (arith, up, is))

      own_ahead : moment ≤ comes_at (talker_at talkers place) (get_or more place 0)
      own_ahead = subst (λ n. moment ≤ comes_at (talker_at talkers place) n) (sym own)
          (let z : moment ≤ comes_at (talker_at talkers place) (get_or counts place 0 + 1) = omega arith in z)

      other : (i : ℕ) → (i ≡ place → ⊥) → get_or more i 0 ≡ get_or counts i 0
      other i apart = get_or-set_other counts place i (get_or counts place 0 + 1) 0 apart

      other_come : (i : ℕ) → i < length talkers → (i ≡ place → ⊥) → get_or more i 0 ≤ curve_of moment (sporadic_of (talker_at talkers i))
      other_come i less apart =
          let is = other i apart in
          let up = rises (talker_at talkers i) last moment (these i less) (h.ahead place inside) in
          let old = h.come i less in
          omega (arith, is, up, old)

      other_ahead : (i : ℕ) → i < length talkers → (i ≡ place → ⊥) → moment ≤ comes_at (talker_at talkers i) (get_or more i 0)
      other_ahead i less apart = subst (λ n. moment ≤ comes_at (talker_at talkers i) n) (sym (other i apart)) (first i less)

  pub arrives_next : IsArrival (curve talkers) (total counts) moment
  arrives_next = record {
    come =
        let all = counted_next in
        let up = at_least moment talkers more all.places all.come in
        let one = one_counted in
        omega (arith, up, one);
    least = λ y less. at_most y talkers counts h.places
        (λ i listed. not_yet (talker_at talkers i) y (get_or counts i 0) (these i listed)
        (let f = first i listed in omega (arith, f, less)));
  }
