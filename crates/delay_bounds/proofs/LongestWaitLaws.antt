-- The longest wait of a frame that comes to an idle class: it comes just too late for a window that ends where an entry begins.
use Rattle.std.proofs.Common.{◌≡◌, ◌<◌, ◌≤◌, ◌+◌, ◌-◌, ◌*◌, ◌/◌, ◌%◌, ℕ, zero, suc, max, Bool, true, false, List, length, slice_get, Option, Some, None, IsSome, option_map, cond, get_or, inl, inr, refl, sym, ap, ◌∙◌, subst, arith, le_refl, mod-lt, mod-eq_of_lt}
use Rattle.std.specs.Option.{option_map_or}
use Rattle.std.proofs.Math.Nat.{div-add-mod, mul-add-mod_self_left}
use Rattle.std.proofs.lemmas.Bool.{both_ways, cases_Bool, cases_lt}
use Rattle.std.proofs.lemmas.Option.{slice_get-get_or}
use Rattle.gates.specs.Gate.{IsSchedule, IsShownAt, Plan, in_ps, mask_at, mask_since, opens, prefix}
use Rattle.gates.specs.Open.{open_while}
use Rattle.gates.specs.declared.gate_list.Entry.{Entry}
use Rattle.gates.proofs.OpenLaws.{open_at, open_from}
use Rattle.gates.proofs.PhaseLaws.{phase_is}
use Rattle.abstract_port.specs.Served.{IsFirst}
use Rattle.delay_bounds.specs.AnyMoment.{IsLongestWait}
use Rattle.delay_bounds.specs.Bounds.{first_fit}
use Rattle.delay_bounds.specs.ForEver.{Repeats}
use Rattle.delay_bounds.specs.LongestWait.{IsLongestBy, LongestWaitLaw, longest_of, longest_wait, wait_at}
use Rattle.delay_bounds.specs.Walk.{may_by}
use Rattle.delay_bounds.proofs.GateLaws.{by_repeats}
use Rattle.delay_bounds.proofs.NeverLaws.{none_ever}
use Rattle.delay_bounds.proofs.WaitLaws.{first_is, one_first}
use Rattle.delay_bounds.proofs.WalkLaws.{fit_shift}

fit_soon : (may : ℕ → ℕ → Bool) (d t n s : ℕ) → first_fit may d t n ≡ Some s → s < t + n
unfolding first_fit
fit_soon may d t zero s is = absurd (cc)
fit_soon may d t (suc n) s is = by (may t d) is (fit_soon may d (t + 1) n s)
  where
    by : (b : Bool) → cond b (Some t) (first_fit may d (t + 1) n) ≡ Some s → (first_fit may d (t + 1) n ≡ Some s → s < t + 1 + n) → s < t + suc n
    by true e rest = let same : t ≡ s = cc in omega arith
    by false e rest = let less = rest e in omega arith

-- ---- waits that repeat

wait_by : (may : ℕ → ℕ → Bool) (t c : ℕ) (o : Option ℕ) → option_map_or (λ s. s - (t + c)) (option_map (λ m. m + c) o) 0 ≡ option_map_or (λ s. s - t) o 0
wait_by may t c None = refl
wait_by may t c (Some s) = let same : s + c - (t + c) ≡ s - t = omega arith in same

module _ (may : ℕ → ℕ → Bool) (cycle d : ℕ) (above : 0 < cycle) (again : (k : ℕ) → Repeats may (cycle * k)) where
  pub wait_again : (k t : ℕ) → wait_at may cycle d (t + cycle * k) ≡ wait_at may cycle d t
  wait_again k t = ap (λ o. option_map_or (λ s. s - (t + cycle * k)) o 0) (fit_shift may (cycle * k) d t cycle (again k)) ∙ wait_by may t (cycle * k) (first_fit may d t cycle)

  -- one of the first moments of a cycle is like each
  wait_inside : (t : ℕ) → wait_at may cycle d t ≡ wait_at may cycle d (t % cycle)
  wait_inside t =
      let parts : t ≡ t % cycle + cycle * (t / cycle) = grind arith in
      ap (wait_at may cycle d) parts ∙ wait_again (t / cycle) (t % cycle)

  longest_over : (n t : ℕ) → t < n → wait_at may cycle d t ≤ longest_of may cycle d n
  unfolding longest_of
  longest_over zero t less = absurd (omega arith)
  longest_over (suc n) t less = elim (cases_lt t n) [
    | inl before ↦ let rest = longest_over n t before in omega arith
    | inr here ↦
        let same : wait_at may cycle d t ≡ wait_at may cycle d n = ap (wait_at may cycle d) (let e : t ≡ n = omega arith in e) in
        omega arith
  ]

  -- the wait at any moment is no longer than the longest of a cycle
  pub over_all : (t : ℕ) → wait_at may cycle d t ≤ longest_of may cycle d cycle
  over_all t =
      let less : t % cycle < cycle = mod-lt t above in
      let most = longest_over cycle (t % cycle) less in
      subst (λ w. w ≤ longest_of may cycle d cycle) (sym (wait_inside t)) most

  -- the longest is one of them
  pub is_one : (n : ℕ) → 0 < n → (t : ℕ) × (wait_at may cycle d t ≡ longest_of may cycle d n)
  unfolding longest_of
  is_one zero some = absurd (omega arith)
  is_one (suc n) some = elim (cases_lt (longest_of may cycle d n) (wait_at may cycle d n + 1)) [
    | inl here ↦ (n, omega arith)
    | inr before ↦ elim (cases_lt 0 n) [
      | inl more ↦ let rest = is_one n more in (rest.0, let e = rest.1 in omega arith)
      | inr none ↦
          let zero_is : n ≡ 0 = omega arith in
          let nothing : longest_of may cycle d n ≡ 0 = ap (longest_of may cycle d) zero_is ∙ refl in
          (n, omega arith)
    ]
  ]

  -- where each of them is within a time, so is the longest
  pub longest_within : (n most : ℕ) → ((t : ℕ) → t < n → wait_at may cycle d t ≤ most) → longest_of may cycle d n ≤ most
  unfolding longest_of
  longest_within zero most each = omega arith
  longest_within (suc n) most each =
      let rest = longest_within n most (λ t less. each t (omega arith)) in
      let here = each n (omega arith) in
      omega arith

  -- ---- a first moment for each

  module _ (s0 : ℕ) (some : first_fit may d 0 cycle ≡ Some s0) where
    -- from each moment on there is one
    pub found : (t : ℕ) → (s : ℕ) × (first_fit may d t cycle ≡ Some s) × IsFirst may d t s
    found t = by (first_fit may d t cycle) refl
      where
        by : (o : Option ℕ) → first_fit may d t cycle ≡ o → (s : ℕ) × (first_fit may d t cycle ≡ Some s) × IsFirst may d t s
        by (Some s) is = (s, is, first_is may d t cycle s is)
        by None is =
            let shut = none_ever may cycle d t above again is s0 in
            absurd (both_ways _ shut (first_is may d 0 cycle s0 some).fits)

    wait_is : (t s : ℕ) → IsFirst may d t s → wait_at may cycle d t ≡ s - t
    wait_is t s first =
        let it = found t in
        let same = one_first may d t it.0 s it.2 first in
        ap (λ o. option_map_or (λ s. s - t) o 0) it.1 ∙ ap (λ n. n - t) same

    -- the longest wait of a cycle is the longest over all time
    pub is_longest : (n : ℕ) → n ≡ cycle → (t : ℕ) × IsFirst may d t (t + longest_of may cycle d cycle)
    is_longest n e =
        let one = is_one cycle above in
        let it = found one.0 in
        let wait = wait_is one.0 it.0 it.2 in
        let from = (it.2).from in
        let at : it.0 ≡ one.0 + longest_of may cycle d cycle = (let w = one.1 in omega arith) in
        (one.0, subst (IsFirst may d one.0) at it.2)

    pub within_longest : (t : ℕ) → (s : ℕ) × IsFirst may d t s × (s ≤ t + longest_of may cycle d cycle)
    within_longest t =
        let it = found t in
        let wait = wait_is t it.0 it.2 in
        let most = over_all t in
        (it.0, it.2, omega arith)

    -- ---- the last moment before a wait

    abbrev LastFit : ℕ → ℕ → Type 0
    LastFit s k = (u : ℕ) × (s ≤ u) × (u ≤ s + k) × (may u d ≡ true) × ((m : ℕ) → u < m → m ≤ s + k → may m d ≡ false)

    one_more : (s k : ℕ) → LastFit s k → (b : Bool) → may (s + suc k) d ≡ b → LastFit s (suc k)
    one_more s k rest true is = (s + suc k, omega arith, omega arith, is, λ m after most. absurd (omega arith))
    one_more s k rest false is =
        let high = rest.2 in (
          rest.0,
          rest.1,
          omega arith,
          rest.3,
          λ m after most. elim (cases_lt m (s + suc k)) [
            | inl before ↦ rest.4 m after (omega arith)
            | inr here ↦ subst (λ n. may n d ≡ false) (let e : s + suc k ≡ m = omega arith in e) is
          ],
        )

    -- the last of the moments from s on, up to k later, from which the class may have the wire
    last_fit : (s k : ℕ) → may s d ≡ true → LastFit s k
    last_fit s zero fits = (s, omega arith, omega arith, fits, λ m after most. absurd (omega arith))
    last_fit s (suc k) fits = one_more s k (last_fit s k fits) (may (s + suc k) d) refl

    -- A wait of a frame that comes at n is no longer than that of one that comes right behind a moment u from which the class may have the wire.
    pub behind : (n : ℕ) → 0 < wait_at may cycle d n
        → (u : ℕ) × (may u d ≡ true) × (may (u + 1) d ≡ false) × (wait_at may cycle d n ≤ wait_at may cycle d (u + 1))
    behind n waits =
        let it = found n in
        let s : ℕ = it.0 in
        let wait = wait_is n s it.2 in
        let from = (it.2).from in
        let soon = fit_soon may d n cycle s it.1 in
        let one : s + cycle * 1 ≡ s + cycle = omega arith in
        let later : may (s + cycle) d ≡ true = subst (λ m. may m d ≡ true) one (again 1 s d ∙ (it.2).fits) in
        let last = last_fit s (n + cycle - s - 1) (it.2).fits in
        let u : ℕ = last.0 in
        let low = last.1 in
        let high = last.2 in
        let none : (m : ℕ) → u < m → m < s + cycle → may m d ≡ false = λ m after before. elim (cases_lt m (n + cycle)) [
          | inl early ↦ last.4 m after (omega arith)
          | inr late ↦
              let k : ℕ = m - cycle in
              let at : k + cycle * 1 ≡ m = omega arith in
              subst (λ x. may x d ≡ false) at (again 1 k d ∙ (it.2).least k (omega arith) (omega arith))
        ] in
        let first : IsFirst may d (u + 1) (s + cycle) = record { from = omega arith; fits = later; least = λ m after before. none m (omega arith) before } in
        let wait_then = wait_is (u + 1) (s + cycle) first in
        (u, last.3, none (u + 1) (omega arith) (omega arith), omega arith)

-- ---- where a class closes

-- a class that closes at a moment does so where an entry begins
module _ (plan : Plan) (class : ℕ) (above : 0 < plan.cycle) (entries : 0 < length plan.entries) where
  gates_at : (m : ℕ) → mask_since (Some plan) 0 None m ≡ mask_at plan.entries (m % in_ps plan.cycle)
  gates_at m = ap (λ n. mask_at plan.entries (n % in_ps plan.cycle)) (let same : m - 0 ≡ m = omega arith in same)

  pub closes_at : (m : ℕ) → opens (mask_since (Some plan) 0 None m) class ≡ true → opens (mask_since (Some plan) 0 None (m + 1)) class ≡ false
      → (i : ℕ) × (i < length plan.entries) × (prefix plan.entries i ≡ (m + 1) % in_ps plan.cycle)
  closes_at m opened shut =
      let cycle : ℕ = in_ps plan.cycle in
      let some : 0 < cycle = omega arith in
      let p : ℕ = (m + 1) % cycle in
      let shown = (phase_is plan.entries).found p entries in
      let i : ℕ = shown.0 in
      let begun = (shown.1).begun in (
        i,
        (shown.1).within,
        elim (cases_lt (prefix plan.entries i) p) [
          | inr at ↦ omega arith
          | inl before ↦
              let whole : cycle * ((m + 1) / cycle) + p ≡ m + 1 = div-add-mod (m + 1) cycle in
              let inside : p < cycle = mod-lt (m + 1) some in
              let here : m ≡ cycle * ((m + 1) / cycle) + (p - 1) = omega arith in
              let phase : m % cycle ≡ p - 1 = ap (λ n. n % cycle) here ∙ (mul-add-mod_self_left cycle ((m + 1) / cycle) (p - 1) ∙ mod-eq_of_lt (let l : p - 1 < cycle = omega arith in l)) in
              let earlier : IsShownAt plan.entries (p - 1) i = record { within = (shown.1).within; begun = omega arith; before_next = λ more. (let l = (shown.1).before_next more in omega arith) } in
              let same : mask_at plan.entries (p - 1) ≡ mask_at plan.entries p = same_mask i p (p - 1) shown.1 earlier in
              let masks : mask_since (Some plan) 0 None m ≡ mask_since (Some plan) 0 None (m + 1) = gates_at m ∙ (ap (mask_at plan.entries) phase ∙ (same ∙ sym (gates_at (m + 1)))) in
              absurd (both_ways _ shut (subst (λ k. opens k class ≡ true) masks opened))
        ],
      )
    where
      same_mask : (i p q : ℕ) → IsShownAt plan.entries p i → IsShownAt plan.entries q i → mask_at plan.entries q ≡ mask_at plan.entries p
      same_mask i p q a b =
          let e : Entry = get_or plan.entries i (record { mask = 0; interval = 0 }) in
          let is : slice_get plan.entries i ≡ Some e = slice_get-get_or plan.entries i _ a.within in
          (phase_is plan.entries).mask q i e b is ∙ sym ((phase_is plan.entries).mask p i e a is)

-- ---- the moments that are looked at

-- the moment behind the last from which a frame could be sent before entry i begins, a cycle later
abbrev pub late_for : Plan → ℕ → ℕ → ℕ
late_for plan d i = prefix plan.entries i + in_ps plan.cycle + 1 - d

module _ (plan : Plan) (class d s0 : ℕ) (above : 0 < plan.cycle) (entries : 0 < length plan.entries) (some : first_fit (may_by plan class) d 0 (in_ps plan.cycle) ≡ Some s0) where
  abbrev wait : ℕ → ℕ
  wait t = wait_at (may_by plan class) (in_ps plan.cycle) d t

  abbrev mask : ℕ → ℕ
  mask = mask_since (Some plan) 0 None

  mask_again : (m : ℕ) → mask (m + in_ps plan.cycle) ≡ mask m
  mask_again m =
      let cycle : ℕ = in_ps plan.cycle in
      let same : m + cycle ≡ cycle * 1 + m = omega arith in
      gates_at plan class above entries (m + cycle) ∙ (ap (λ n. mask_at plan.entries (n % cycle)) same ∙ (ap (mask_at plan.entries) (mul-add-mod_self_left cycle 1 m) ∙ sym (gates_at plan class above entries m)))

  -- a frame that comes right behind a moment from which the class is open for long enough comes too late before some entry
  late : (u : ℕ) → may_by plan class u d ≡ true → may_by plan class (u + 1) d ≡ false
      → (i : ℕ) × (i < length plan.entries) × (wait (u + 1) ≡ wait (late_for plan d i))
  late u fits shut = elim (cases_lt 0 d) [
    | inr none ↦
        let zero_is : d ≡ 0 = omega arith in
        absurd (both_ways _ shut (open_from mask class (u + 1) d (λ n from below. absurd (omega arith))))
    | inl more ↦
        let cycle : ℕ = in_ps plan.cycle in
        let positive : 0 < cycle = omega arith in
        let e : ℕ = u + d in
        let opened = open_at mask class u d fits (e - 1) (omega arith) (omega arith) in
        let closed : opens (mask e) class ≡ false = closed_at u more fits shut in
        let at : e - 1 + 1 ≡ e = omega arith in
        let edge = closes_at plan class above entries (e - 1) opened (subst (λ m. opens (mask m) class ≡ false) (sym at) closed) in
        let i : ℕ = edge.0 in
        let begins : prefix plan.entries i ≡ e % cycle = edge.2 ∙ ap (λ m. m % cycle) at in
        let short : d ≤ cycle = within_cycle u fits closed in
        let whole : cycle * (e / cycle) + e % cycle ≡ e = div-add-mod e cycle in
        let there : late_for plan d i + cycle * (e / cycle) ≡ u + 1 + cycle * 1 = omega arith in (
          i,
          edge.1,
          sym (wait_again (may_by plan class) cycle d positive (λ k. by_repeats plan above class k) 1 (u + 1))
              ∙ (ap wait (sym there) ∙ wait_again (may_by plan class) cycle d positive (λ k. by_repeats plan above class k) (e / cycle) (late_for plan d i)),
        )
  ]
    where
      closed_at : (u : ℕ) → 0 < d → may_by plan class u d ≡ true → may_by plan class (u + 1) d ≡ false → opens (mask (u + d)) class ≡ false
      closed_at u more fits shut = elim (cases_Bool (opens (mask (u + d)) class)) [
        | inr is ↦ is
        | inl is ↦ absurd (both_ways _ shut (open_from mask class (u + 1) d (λ n from below. elim (cases_lt n (u + d)) [
          | inl before ↦ open_at mask class u d fits n (omega arith) before
          | inr after ↦ subst (λ m. opens (mask m) class ≡ true) (let same : u + d ≡ n = omega arith in same) is
        ])))
      ]

      within_cycle : (u : ℕ) → may_by plan class u d ≡ true → opens (mask (u + d)) class ≡ false → d ≤ in_ps plan.cycle
      within_cycle u fits closed = elim (cases_lt (in_ps plan.cycle) d) [
        | inr less ↦ omega arith
        | inl long ↦
            let cycle : ℕ = in_ps plan.cycle in
            let m : ℕ = u + d - cycle in
            let back : m + cycle ≡ u + d = omega arith in
            let opened = open_at mask class u d fits m (omega arith) (omega arith) in
            let same : mask (u + d) ≡ mask m = ap mask (sym back) ∙ mask_again m in
            absurd (both_ways _ closed (subst (λ k. opens k class ≡ true) (sym same) opened))
      ]

  -- where the waits of all that come too late before an entry are within a time, so is the longest
  pub longest_by_late : (most : ℕ) → ((i : ℕ) → i < length plan.entries → wait (late_for plan d i) ≤ most) → longest_of (may_by plan class) (in_ps plan.cycle) d (in_ps plan.cycle) ≤ most
  longest_by_late most each = longest_within (may_by plan class) (in_ps plan.cycle) d (omega arith) (λ k. by_repeats plan above class k) (in_ps plan.cycle) most (λ t less. elim (cases_lt 0 (wait t)) [
    | inr none ↦ omega arith
    | inl waits ↦
        let found = behind (may_by plan class) (in_ps plan.cycle) d (omega arith) (λ k. by_repeats plan above class k) s0 some t waits in
        let it = late found.0 found.1 found.2 in
        let most_of = each it.0 it.1 in
        let order = found.3 in
        let same = it.2 in
        omega arith
  ])

-- no wait is over the longest
pub late_within : (plan : Plan) (class d : ℕ) → 0 < plan.cycle → (t : ℕ) → wait_at (may_by plan class) (in_ps plan.cycle) d t ≤ longest_of (may_by plan class) (in_ps plan.cycle) d (in_ps plan.cycle)
late_within plan class d above t = over_all (may_by plan class) (in_ps plan.cycle) d (omega arith) (λ k. by_repeats plan above class k) t

-- a time within which all come that come too late before an entry, and which is within the longest, is the longest
pub longest_is : (plan : Plan) (class d most n : ℕ) → IsSchedule plan → IsSome (first_fit (may_by plan class) d 0 (in_ps plan.cycle)) → length plan.entries ≤ n
    → ((i : ℕ) → i < n → wait_at (may_by plan class) (in_ps plan.cycle) d (late_for plan d i) ≤ most) → most ≤ longest_of (may_by plan class) (in_ps plan.cycle) d (in_ps plan.cycle)
    → most ≡ longest_of (may_by plan class) (in_ps plan.cycle) d (in_ps plan.cycle)
longest_is plan class d most n sound some all over within = by (first_fit (may_by plan class) d 0 (in_ps plan.cycle)) refl some
  where
    by : (o : Option ℕ) → first_fit (may_by plan class) d 0 (in_ps plan.cycle) ≡ o → IsSome o → most ≡ longest_of (may_by plan class) (in_ps plan.cycle) d (in_ps plan.cycle)
    by None is none = absurd (let wrong : ⊥ = cc in wrong)
    by (Some s) is found =
        let low = longest_by_late plan class d s sound.plan_is.cycle sound.plan_is.entries is most (λ i less. over i (omega arith)) in
        omega arith

-- ---- the law

pub longest_wait_law : LongestWaitLaw
longest_wait_law plan class d sound = by (first_fit (may_by plan class) d 0 (in_ps plan.cycle)) refl
  where
    by : (o : Option ℕ) → first_fit (may_by plan class) d 0 (in_ps plan.cycle) ≡ o → IsLongestBy plan class d (longest_wait plan class d)
    by None is =
        rw is (λ t. none_ever (may_by plan class) (in_ps plan.cycle) d 0 (let above = sound.plan_is.cycle in omega arith) (λ k. by_repeats plan sound.plan_is.cycle class k) is t)
    by (Some s) is =
        let above : 0 < plan.cycle = sound.plan_is.cycle in
        let may : ℕ → ℕ → Bool = may_by plan class in
        let cycle : ℕ = in_ps plan.cycle in
        let again : (k : ℕ) → Repeats may (cycle * k) = λ k. by_repeats plan above class k in
        rw is (record {
          within = within_longest may cycle d (omega arith) again s is;
          reached = is_longest may cycle d (omega arith) again s is cycle refl;
        })
