-- What a plan that has a cycle gives a class: there is one window, and just one.
use Rattle.std.proofs.Common.{◌≡◌, ◌<◌, ◌≤◌, ℕ, zero, suc, ◌+◌, ◌-◌, ◌*◌, ◌/◌, ◌%◌, max, true, false, ◌⊎◌, inl, inr, refl, sym, ap, ◌∙◌, subst, arith, mod-lt, le_refl}
use Rattle.std.proofs.Math.Nat.{div-add-mod, mul-add-mod_self_left}
use Rattle.std.proofs.lemmas.Bool.{both_ways, cases_Bool, cases_lt}
use Rattle.schedule_check.specs.Words.{occupancy_of, Stay, Lasts, Always, Plan, in_ps, mask_at, opens, open_while, Window, Teller, alone, turned, turned_mask, open_total, IsLongestOpen, IsOpenStay, IsLongestFrame, IsTeller, IsWindow}
use Rattle.gates.proofs.OpenLaws.{open_at, open_from, open_within, shift_while}
use Rattle.schedule_check.specs.declared.windows.Longest.{Longest}
use Rattle.schedule_check.specs.declared.windows.Longest.TheVariants.{NoFrame, Octets, AnyFrame}
use Rattle.schedule_check.proofs.WindowLaws.{can_start, fits_few, frame_fits, reaches_none}

-- ---- no two

same_stay : (mask : ℕ → ℕ) (class : ℕ) (s t : Stay) → IsOpenStay mask class s → IsOpenStay mask class t → s ≡ t
same_stay mask class (Lasts d) (Lasts e) a b =
    let up = b.most a.reached.0 d a.reached.1 in
    let down = a.most b.reached.0 e b.reached.1 in
    ap Lasts (let same : d ≡ e = omega arith in same)
same_stay mask class (Lasts d) Always a b = let over = a.most 0 (d + 1) (b 0 (d + 1)) in absurd (omega arith)
same_stay mask class Always (Lasts e) a b = let over = b.most 0 (e + 1) (a 0 (e + 1)) in absurd (omega arith)
same_stay mask class Always Always a b = refl

same_frame : (ps : ℕ) (mask : ℕ → ℕ) (class : ℕ) (l k : Longest) → IsLongestFrame ps mask class l → IsLongestFrame ps mask class k → l ≡ k
same_frame ps mask class NoFrame NoFrame a b = refl
same_frame ps mask class NoFrame (Octets k) a b = absurd (a k b.0)
same_frame ps mask class NoFrame AnyFrame a b = absurd (a 0 (b 0))
same_frame ps mask class (Octets l) NoFrame a b = absurd (b l a.0)
same_frame ps mask class (Octets l) (Octets k) a b =
    let up = b.1 l a.0 in
    let down = a.1 k b.0 in
    ap Octets (let same : l ≡ k = omega arith in same)
same_frame ps mask class (Octets l) AnyFrame a b = let over = a.1 (l + 1) (b (l + 1)) in absurd (omega arith)
same_frame ps mask class AnyFrame NoFrame a b = absurd (b 0 (a 0))
same_frame ps mask class AnyFrame (Octets k) a b = let over = b.1 (k + 1) (a (k + 1)) in absurd (omega arith)
same_frame ps mask class AnyFrame AnyFrame a b = refl

pub same_window : (ps : ℕ) (plan : Plan) (class : ℕ) (w v : Window) → IsWindow ps plan class w → IsWindow ps plan class v → w ≡ v
same_window ps plan class w v a b =
    let opened = same_stay (alone plan) class w.open_time v.open_time a.open_time b.open_time in
    let closed = same_stay (turned (alone plan)) class w.closed_time v.closed_time a.closed_time b.closed_time in
    let share = a.share ∙ sym b.share in
    let cycle = a.cycle ∙ sym b.cycle in
    let frame = same_frame ps (alone plan) class w.longest_frame v.longest_frame a.longest_frame b.longest_frame in
    let with : Stay → Stay → ℕ → ℕ → Longest → Window = λ o c s t f. record { open_time = o; closed_time = c; share = s; cycle = t; longest_frame = f } in
    ap (λ o. with o w.closed_time w.share w.cycle w.longest_frame) opened
    ∙ (ap (λ c. with v.open_time c w.share w.cycle w.longest_frame) closed
    ∙ (ap (λ s. with v.open_time v.closed_time s w.cycle w.longest_frame) share
    ∙ (ap (λ t. with v.open_time v.closed_time v.share t w.longest_frame) cycle
    ∙ ap (λ f. with v.open_time v.closed_time v.share v.cycle f) frame)))

-- ---- masks that repeat

module _ (mask shown : ℕ → ℕ) (cycle class : ℕ) (above : 0 < cycle) (repeats : (m : ℕ) → mask m ≡ shown (m % cycle)) where
  -- masks that repeat are equal some cycles later
  later : (k m : ℕ) → mask (cycle * k + m) ≡ mask m
  later k m = repeats (cycle * k + m) ∙ (ap shown (mul-add-mod_self_left cycle k m) ∙ sym (repeats m))

  -- masks that repeat are equal at the phase of a moment
  at_phase : (m : ℕ) → mask (m % cycle) ≡ mask m
  at_phase m = sym (later (m / cycle) (m % cycle)) ∙ ap mask (div-add-mod m cycle)

  -- open all through a cycle, and so for ever
  for_ever : open_while mask class 0 cycle ≡ true → (x d : ℕ) → open_while mask class x d ≡ true
  for_ever all x d =
      open_from mask class x d (λ n from below.
      let inside = mod-lt n above in
      subst (λ m. opens m class ≡ true) (at_phase n) (open_at mask class 0 cycle all (n % cycle) (omega arith) (omega arith)))

  -- open for more than two cycles, and so all through one
  all_through : (x e : ℕ) → open_while mask class x e ≡ true → cycle * 2 < e → open_while mask class 0 cycle ≡ true
  all_through x e o long =
      open_from mask class 0 cycle (λ n from below.
      let whole : cycle * (x / cycle) + x % cycle ≡ x = div-add-mod x cycle in
      let inside = mod-lt x above in
      let next : cycle * (x / cycle + 1) ≡ cycle * (x / cycle) + cycle = omega arith in
      subst (λ m. opens m class ≡ true) (later (x / cycle + 1) n) (open_at mask class x e o (cycle * (x / cycle + 1) + n) (omega arith) (omega arith)))

  -- open for so long from a phase on
  from_phase : (x d : ℕ) → open_while mask class x d ≡ true → open_while mask class (x % cycle) d ≡ true
  from_phase x d o =
      let whole : cycle * (x / cycle) + x % cycle ≡ x = div-add-mod x cycle in
      shift_while mask mask class (x % cycle) x d (λ i less.
      let moment : cycle * (x / cycle) + (x % cycle + i) ≡ x + i = omega arith in
      sym (later (x / cycle) (x % cycle + i)) ∙ ap mask moment) ∙ o

  -- one of the first moments from which the class is open for so long, or there is none
  starts : (d n : ℕ) → ((x : ℕ) × (open_while mask class x d ≡ true)) ⊎ ((x : ℕ) → x < n → open_while mask class x d ≡ true → ⊥)
  starts d zero = inr (λ x less o. omega arith)
  starts d (suc n) =
      elim (starts d n) [
        | inl found ↦ inl found
        | inr none ↦ elim (cases_Bool (open_while mask class n d)) [
          | inl here ↦ inl (n, here)
          | inr shut ↦ inr (λ x less o. elim (cases_lt x n) [
            | inl before ↦ none x before o
            | inr at ↦ both_ways _ shut (subst (λ m. open_while mask class m d ≡ true) (let same : x ≡ n = omega arith in same) o)
          ])
        ]
      ]

  -- where none is from a phase on, none is at all
  none_longer : (n : ℕ) → ((x : ℕ) → x < cycle → open_while mask class x (suc n) ≡ true → ⊥) → (x e : ℕ) → open_while mask class x e ≡ true → e ≤ n
  none_longer n none x e o =
      elim (cases_lt e (suc n)) [
        | inl less ↦ omega arith
        | inr long ↦ absurd (none (x % cycle) (mod-lt x above) (from_phase x (suc n) (open_within mask class x e x (suc n) o (le_refl x) (omega arith))))
      ]

  -- the longest time, where none is longer than n
  longest : (n : ℕ) → ((x e : ℕ) → open_while mask class x e ≡ true → e ≤ n) → (d : ℕ) × IsLongestOpen mask class d
  longest zero most = (0, record { reached = reaches_none mask class; most = most })
  longest (suc n) most =
      elim (starts (suc n) cycle) [
        | inl found ↦ (suc n, record { reached = found; most = most })
        | inr none ↦ longest n (none_longer n none)
      ]

  -- how long the class stays open
  a_stay : (s : Stay) × IsOpenStay mask class s
  a_stay = by (cases_Bool (open_while mask class 0 cycle))
    where
      few : open_while mask class 0 cycle ≡ false → (x e : ℕ) → open_while mask class x e ≡ true → e ≤ cycle * 2
      few shut x e o =
          elim (cases_lt (cycle * 2) e) [
            | inl long ↦ absurd (both_ways _ shut (all_through x e o long))
            | inr short ↦ short
          ]

      by : (open_while mask class 0 cycle ≡ true) ⊎ (open_while mask class 0 cycle ≡ false) → (s : Stay) × IsOpenStay mask class s
      by (inl all) = (Always, for_ever all)
      by (inr shut) = let found = longest (cycle * 2) (few shut) in (Lasts found.0, found.1)

-- ---- frames

-- the longest frame of a class that stays open for so long
a_frame : (ps : ℕ) (mask : ℕ → ℕ) (class : ℕ) (s : Stay) → IsOpenStay mask class s → (l : Longest) × IsLongestFrame ps mask class l
a_frame ps mask class Always is = (AnyFrame, λ len. (0, is 0 (occupancy_of ps len)))
a_frame zero mask class (Lasts d) is =
    (AnyFrame, λ len. can_start zero mask class d len is (let none : (max len 60 + 24) * 0 ≡ 0 = omega arith in omega arith))
a_frame (suc p) mask class (Lasts d) is = by (cases_lt (d / suc p) 84)
  where
    some : 0 < suc p
    some = omega arith

    by : (d / suc p < 84) ⊎ (84 ≤ d / suc p) → (l : Longest) × IsLongestFrame (suc p) mask class l
    by (inl few) =
        (NoFrame, λ len start. let fits = fits_few (suc p) d some len (is.most start.0 _ start.1) in omega arith)
    by (inr room) = (
      Octets (d / suc p - 24),
      (
        can_start (suc p) mask class d _ is (frame_fits (suc p) d some _ room (omega arith)),
        λ len start. let fits = fits_few (suc p) d some len (is.most start.0 _ start.1) in omega arith,
      ),
    )

-- ---- one

shown_alone : (plan : Plan) (m : ℕ) → alone plan m ≡ mask_at plan.entries (m % in_ps plan.cycle)
shown_alone plan m = ap (λ n. mask_at plan.entries (n % in_ps plan.cycle)) (let same : m - 0 ≡ m = omega arith in same)

a_window : (ps : ℕ) (plan : Plan) (class : ℕ) → 0 < plan.cycle → (w : Window) × IsWindow ps plan class w
a_window ps plan class above =
    let some : 0 < in_ps plan.cycle = omega arith in
    let opened = a_stay (alone plan) (mask_at plan.entries) (in_ps plan.cycle) class some (shown_alone plan) in
    let closed = a_stay (turned (alone plan)) (λ p. turned_mask (mask_at plan.entries p)) (in_ps plan.cycle) class some (λ m. ap turned_mask (shown_alone plan m)) in
    let frame = a_frame ps (alone plan) class opened.0 opened.1 in (
      record {
        open_time = opened.0;
        closed_time = closed.0;
        share = open_total (alone plan) class (in_ps plan.cycle);
        cycle = in_ps plan.cycle;
        longest_frame = frame.0;
      },
      record { open_time = opened.1; closed_time = closed.1; share = refl; cycle = refl; longest_frame = frame.1 },
    )

-- a window of a class in a plan, and any window where there is no cycle
told : (ps : ℕ) (plan : Plan) (class : ℕ) → (w : Window) × (0 < plan.cycle → IsWindow ps plan class w)
told ps plan class = by (cases_lt 0 plan.cycle)
  where
    by : (0 < plan.cycle) ⊎ (plan.cycle ≤ 0) → (w : Window) × (0 < plan.cycle → IsWindow ps plan class w)
    by (inl above) = let found = a_window ps plan class above in (found.0, λ same. found.1)
    by (inr none) =
        (record { open_time = Always; closed_time = Always; share = 0; cycle = 0; longest_frame = NoFrame }, λ above. absurd (omega arith))

pub a_teller : (tell : Teller) × IsTeller tell
a_teller = (λ ps plan class. (told ps plan class).0, λ ps plan class above. (told ps plan class).1 above)

pub same_tellers : (tell other : Teller) → IsTeller tell → IsTeller other → (ps : ℕ) (plan : Plan) (class : ℕ) → 0 < plan.cycle → tell ps plan class ≡ other ps plan class
same_tellers tell other a b ps plan class above = same_window ps plan class (tell ps plan class) (other ps plan class) (a ps plan class above) (b ps plan class above)
