-- What blocking is, how it moves, and that it repeats.
use Rattle.std.proofs.Common.{◌≡◌, ◌<◌, ◌≤◌, ◌⊎◌, ℕ, zero, suc, ◌+◌, ◌-◌, ◌*◌, max, true, false, cond, not, ◌&&◌, ◌||◌, eqb, eq-eqb, ne_eqb, inl, inr, Some, None, refl, sym, ap, ◌∙◌, subst, arith, le_refl}
use Rattle.std.proofs.lemmas.Bool.{both_ways, cases_Bool, cases_lt, and_parts, and_from}
use Rattle.gates.specs.Gate.{Plan, in_ps, mask_since, opens}
use Rattle.gates.proofs.OpenLaws.{open_at, open_from, open_within}
use Rattle.delay_bounds.proofs.GateLaws.{by_repeats}
use Rattle.delay_bounds.specs.Walk.{may_by}
use Rattle.any_traffic.specs.SharedSlots.{IsBlocking}
use Rattle.shared_bounds.specs.Blocking.{blocked_by, blocking, most_below, open_for, was_open}
use Rattle.shared_bounds.proofs.OpenForLaws as opens_for

-- ---- the greatest of some values

pub at_most : (f : ℕ → ℕ) (n m : ℕ) → ((i : ℕ) → i < n → f i ≤ m) → most_below f n ≤ m
unfolding most_below
at_most f zero m each = omega arith
at_most f (suc n) m each =
    let here = each n (omega arith) in
    let rest = at_most f n m (λ i less. each i (omega (arith, less))) in
    omega (arith, here, rest)

pub is_among : (f : ℕ → ℕ) (n i : ℕ) → i < n → f i ≤ most_below f n
unfolding most_below
is_among f zero i less = absurd (omega (arith, less))
is_among f (suc n) i less = elim (cases_lt i n) [
  | inl before ↦ (let rest = is_among f n i before in omega (arith, rest))
  | inr last ↦ (let same : i ≡ n = omega (arith, last, less) in let here = ap f same in omega (arith, here))
]

pub below_none : (f : ℕ → ℕ) → most_below f 0 ≡ 0
unfolding most_below
below_none f = refl

below_suc : (f : ℕ → ℕ) (n most here next : ℕ) → most ≡ most_below f n → here ≡ f n → next ≡ max here most → next ≡ most_below f (suc n)
unfolding most_below
below_suc f n most here next old is e = omega (arith, old, is, e)

pub below_next : (f : ℕ → ℕ) (n most here next : ℕ) → most ≡ most_below f n → here ≡ f n → next ≡ max here most → next ≡ most_below f (n + 1)
below_next f n most here next old is e = (let s : suc n ≡ n + 1 = omega arith in below_suc f n most here next old is e ∙ ap (most_below f) s)

-- ---- whether a gate is open just before

pub was_cases : (plan : Plan) (j u : ℕ) → was_open plan j u ≡ true → (u ≡ 0) ⊎ (may_by plan j (u - 1) 1 ≡ true)
was_cases plan j u was = elim (cases_lt 0 u) [
  | inr none ↦ inl (omega (arith, none))
  | inl some ↦
      let not_so : eqb u 0 ≡ false = ne_eqb u 0 (λ e. (let wrong : ⊥ = omega (arith, e, some) in wrong)) in
      inr (sym (ap (λ b. b || may_by plan j (u - 1) 1) not_so) ∙ was)
]

pub was_from : (plan : Plan) (j u : ℕ) → (u ≡ 0) ⊎ (may_by plan j (u - 1) 1 ≡ true) → was_open plan j u ≡ true
was_from plan j u (inl none) = ap (λ b. b || may_by plan j (u - 1) 1) (eq-eqb u 0 none)
was_from plan j u (inr was) = elim (cases_Bool (eqb u 0)) [
  | inl holds ↦ ap (λ b. b || may_by plan j (u - 1) 1) holds
  | inr not_so ↦ ap (λ b. b || may_by plan j (u - 1) 1) not_so ∙ was
]

module _ (plan : Plan) (class : ℕ) (need : ℕ → ℕ) where
  abbrev mask : ℕ → ℕ
  mask = mask_since (Some plan) 0 None

  abbrev blocked : ℕ → ℕ
  blocked u = blocking plan class need u

  pub is_greatest : (u n most : ℕ) → n ≡ 8 → most ≡ most_below (blocked_by plan class need u) n → most ≡ blocked u
  unfolding blocking
  is_greatest u n most all is = is ∙ ap (most_below (blocked_by plan class need u)) all

  -- a frame of another class that began before may have the wire for so long
  pub record MayBlock (u j r : ℕ) : Type 0 where
    pub listed : j < 8
    pub other : j ≡ class → ⊥
    pub short : r < need j
    pub was : was_open plan j u ≡ true
    pub stays : may_by plan j u r ≡ true

  -- blocking is the greatest of these times
  pub no_longer : (u m : ℕ) → ((j r : ℕ) → MayBlock u j r → r ≤ m) → blocked u ≤ m
  unfolding blocking
  no_longer u m each = at_most (blocked_by plan class need u) 8 m one
    where
      one : (j : ℕ) → j < 8 → blocked_by plan class need u j ≤ m
      one j listed = elim (cases_Bool (not (eqb j class) && was_open plan j u)) [
        | inr not_so ↦ (let is = ap (λ b. cond b (open_for (may_by plan j) u (need j - 1)) 0) not_so in omega (arith, is))
        | inl holds ↦
            let is = ap (λ b. cond b (open_for (may_by plan j) u (need j - 1)) 0) holds in
            let parts = and_parts _ _ holds in
            let short = opens_for.within mask j u (need j - 1) in
            elim (cases_lt 0 (need j)) [
              | inr none ↦ omega (arith, is, short, none)
              | inl some ↦
                  let le = each j (open_for (may_by plan j) u (need j - 1)) (record {
                    listed = listed;
                    other = λ e. both_ways _ (ap not (eq-eqb j class e)) parts.0;
                    short = omega (arith, short, some);
                    was = parts.1;
                    stays = opens_for.opened mask j u (need j - 1);
                  }) in
                  omega (arith, is, le)
            ]
      ]

  pub no_shorter : (u j r : ℕ) → MayBlock u j r → r ≤ blocked u
  unfolding blocking
  no_shorter u j r h =
      let among = is_among (blocked_by plan class need u) 8 j h.listed in
      let holds = and_from (not (eqb j class)) (was_open plan j u) (ap not (ne_eqb j class h.other)) h.was in
      let is = ap (λ b. cond b (open_for (may_by plan j) u (need j - 1)) 0) holds in
      let short = h.short in
      let most = opens_for.most mask j u (need j - 1) r (omega (arith, short)) h.stays in
      omega (arith, among, is, most)

  pub shorter_than : (n : ℕ) → 0 < n → ((j : ℕ) → need j < n) → (u : ℕ) → blocked u < n
  shorter_than n some short u =
      let all = no_longer u (n - 1) (λ j r h. (let a = h.short in let b = short j in omega (arith, a, b))) in
      omega (arith, all, some)

  -- it is a blocking of the plan, and the least
  pub is_blocking : ((j : ℕ) → 8 ≤ j → need j ≡ 0) → IsBlocking plan class need blocked
  is_blocking none = record {
    at = λ j u r other short stays was. elim (cases_lt j 8) [
      | inl listed ↦ no_shorter u j r (record { listed = listed; other = other; short = short; was = was_from plan j u was; stays = stays })
      | inr past ↦ (let zero_need = none j past in absurd (omega (arith, zero_need, short)))
    ];
  }

  pub least : (other : ℕ → ℕ) → IsBlocking plan class need other → (u : ℕ) → blocked u ≤ other u
  least other is u = no_longer u (other u) (λ j r h. is.at j u r h.other h.short h.stays (was_cases plan j u h.was))

  -- ---- from moment to moment

  -- what has the wire at one moment has it no longer than up to the same later one
  pub gradual : (u v : ℕ) → u ≤ v → u + blocked u ≤ v + blocked v
  gradual u v le =
      let all = no_longer u (v + blocked v - u) each in
      omega (arith, all, le)
    where
      each : (j r : ℕ) → MayBlock u j r → r ≤ v + blocked v - u
      each j r h = elim (cases_lt v (u + r)) [
        | inr ended ↦ omega (arith, ended)
        | inl on ↦ elim (cases_lt u v) [
          | inr here ↦
              let same : u ≡ v = omega (arith, here, le) in
              let most = no_shorter v j r (subst (λ w. MayBlock w j r) same h) in
              omega (arith, most, same)
          | inl before ↦
              let short = h.short in
              let most = no_shorter v j (r - (v - u)) (record {
                listed = h.listed;
                other = h.other;
                short = omega (arith, short);
                was = was_from plan j v (inr (open_within mask j u r (v - 1) 1 h.stays (omega (arith, before)) (omega (arith, before, on))));
                stays = open_within mask j u r v (r - (v - u)) h.stays le (omega (arith, on, before));
              }) in
              omega (arith, most, on, before)
        ]
      ]

  -- while the gates stay as they were just before it falls
  pub falls : (t end u : ℕ) → ((m : ℕ) → t - 1 ≤ m → m < end → mask m ≡ mask (t - 1)) → t ≤ u → u ≤ end → blocked u ≤ blocked t
  falls t end u same from to = elim (cases_lt t u) [
    | inr here ↦ (let at : u ≡ t = omega (arith, here, from) in let is = ap blocked at in omega (arith, is))
    | inl after ↦ no_longer u (blocked t) (λ j r h. no_shorter t j r (record {
      listed = h.listed;
      other = h.other;
      short = h.short;
      was = was j r h after;
      stays = stays j r h after;
    }))
  ]
    where
      shown : (j r : ℕ) → MayBlock u j r → t < u → opens (mask (t - 1)) j ≡ true
      shown j r h after = elim (was_cases plan j u h.was) [
        | inl none ↦ absurd (omega (arith, none, after))
        | inr was ↦ subst (λ m. opens m j ≡ true) (same (u - 1) (omega (arith, after)) (omega (arith, after, to)))
            (open_at mask j (u - 1) 1 was (u - 1) (le_refl (u - 1)) (omega arith))
      ]

      was : (j r : ℕ) → MayBlock u j r → t < u → was_open plan j t ≡ true
      was j r h after = was_from plan j t (inr (open_from mask j (t - 1) 1 (λ n low high.
          subst (λ m. opens (mask m) j ≡ true) (let e : t - 1 ≡ n = omega (arith, low, high) in e) (shown j r h after))))

      stays : (j r : ℕ) → MayBlock u j r → t < u → may_by plan j t r ≡ true
      stays j r h after = open_from mask j t r (λ n low high. elim (cases_lt n u) [
        | inl before ↦ subst (λ m. opens m j ≡ true) (sym (same n (omega (arith, low)) (omega (arith, before, to)))) (shown j r h after)
        | inr behind ↦ open_at mask j u r h.stays n behind (omega (arith, high, from))
      ])

  -- Up to so many picoseconds before a moment behind `late` as any other class needs whose gate stays open from t to there, nothing has the
  -- wire behind `late`.
  pub ends_by : (t end late reach u : ℕ) → ((m : ℕ) → t - 1 ≤ m → m < end → mask m ≡ mask (t - 1)) → t ≤ u → u ≤ end → u ≤ late
      → ((j : ℕ) → j < 8 → (j ≡ class → ⊥) → was_open plan j t ≡ true → may_by plan j t (late + 1 - t) ≡ true → need j ≤ reach)
      → u + reach ≤ late + 1 → u + blocked u ≤ late
  ends_by t end late reach u same from to on most few =
      let all = no_longer u (late - u) each in
      omega (arith, all, on)
    where
      each : (j r : ℕ) → MayBlock u j r → r ≤ late - u
      each j r h = elim (cases_lt late (u + r)) [
        | inr ended ↦ omega (arith, ended)
        | inl past ↦
            let shown = before j r h in
            let needs = most j h.listed h.other shown.0
            (open_from mask j t (late + 1 - t) (λ n low high. elim (cases_lt n u) [
              | inl early ↦ shown.1 n low early
              | inr late_on ↦ open_at mask j u r h.stays n late_on (omega (arith, high, past, from, on))
            ])) in
            let short = h.short in
            omega (arith, needs, short, few)
      ]
        where
          before : (j r : ℕ) → MayBlock u j r
              → (was_open plan j t ≡ true) × ((n : ℕ) → t ≤ n → n < u → opens (mask n) j ≡ true)
          before j r h = elim (cases_lt t u) [
            | inr here ↦ (
              subst (λ v. was_open plan j v ≡ true) (let e : u ≡ t = omega (arith, here, from) in e) h.was,
              λ n low high. absurd (omega (arith, low, high, here)),
            )
            | inl after ↦
                let shown : opens (mask (t - 1)) j ≡ true = elim (was_cases plan j u h.was) [
                  | inl none ↦ absurd (omega (arith, none, after))
                  | inr was ↦ subst (λ m. opens m j ≡ true) (same (u - 1) (omega (arith, after)) (omega (arith, after, to)))
                      (open_at mask j (u - 1) 1 was (u - 1) (le_refl (u - 1)) (omega arith))
                ] in (
                  was_from plan j t (inr (open_from mask j (t - 1) 1 (λ n low high.
                      subst (λ m. opens (mask m) j ≡ true) (let e : t - 1 ≡ n = omega (arith, low, high) in e) shown))),
                  λ n low high. subst (λ m. opens m j ≡ true) (sym (same n (omega (arith, low)) (omega (arith, high, to)))) shown,
                )
          ]

  -- ---- it repeats with the cycle, but for the moment 0

  module _ (above : 0 < plan.cycle) where
    abbrev cycle : ℕ
    cycle = in_ps plan.cycle

    again : (j u d : ℕ) → may_by plan j (u + cycle) d ≡ may_by plan j u d
    again j u d = (let one : u + cycle * 1 ≡ u + cycle = omega arith in
        ap (λ w. may_by plan j w d) (sym one) ∙ by_repeats plan above j 1 u d)

    block_later : (u j r : ℕ) → 0 < u → MayBlock u j r → MayBlock (u + cycle) j r
    block_later u j r some h = record {
      listed = h.listed;
      other = h.other;
      short = h.short;
      was = was_from plan j (u + cycle) (inr (elim (was_cases plan j u h.was) [
        | inl none ↦ absurd (omega (arith, none, some))
        | inr was ↦
            let at : u + cycle - 1 ≡ u - 1 + cycle = omega (arith, some) in
            ap (λ w. may_by plan j w 1) at ∙ (again j (u - 1) 1 ∙ was)
      ]));
      stays = again j u r ∙ h.stays;
    }

    block_sooner : (u j r : ℕ) → 0 < u → MayBlock (u + cycle) j r → MayBlock u j r
    block_sooner u j r some h = record {
      listed = h.listed;
      other = h.other;
      short = h.short;
      was = was_from plan j u (inr (elim (was_cases plan j (u + cycle) h.was) [
        | inl none ↦ absurd (omega (arith, none, some))
        | inr was ↦
            let at : u + cycle - 1 ≡ u - 1 + cycle = omega (arith, some) in
            sym (again j (u - 1) 1) ∙ (ap (λ w. may_by plan j w 1) (sym at) ∙ was)
      ]));
      stays = sym (again j u r) ∙ h.stays;
    }

    pub repeats : (u : ℕ) → 0 < u → blocked (u + cycle) ≡ blocked u
    repeats u some =
        let up = no_longer (u + cycle) (blocked u) (λ j r h. no_shorter u j r (block_sooner u j r some h)) in
        let down = no_longer u (blocked (u + cycle)) (λ j r h. no_shorter (u + cycle) j r (block_later u j r some h)) in
        omega (arith, up, down)
