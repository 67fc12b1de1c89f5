-- The least bounds of a class of a schedule with one window of 600 us in each ms, where a frame of it and of each higher class comes within half
-- a ms at most. Its frames and those need the wire for 1136 ns, any other for 12336 ns at most. In picoseconds, a frame that comes just too late
-- for one behind a long one (at 586528002) waits until the next window (413471998), and for one frame of each higher class.
use Rattle.std.proofs.Common.{◌≡◌, ◌<◌, ◌≤◌, ◌⊎◌, inl, inr, ℕ, zero, suc, ◌+◌, ◌-◌, ◌*◌, ◌%◌, Bool, true, false, not, ◌&&◌, List, refl, sym, ap, ◌∙◌, subst, arith, le_refl}
use Rattle.std.proofs.lemmas.Bool.{both_ways, cases_lt}
use Rattle.gates.specs.Gate.{Plan}
use Rattle.delay_bounds.specs.Walk.{may_by}
use Rattle.any_traffic.specs.SharedBounds.{IsSlotFor, slots_above}
use Rattle.any_traffic.specs.SharedSlots.{IsFirstShared, IsNextShared, IsNextWindow, IsSharedSlot, is_opening, slots_of}
use Rattle.shared_bounds.specs.Least.{AreBusyBounds, AreNoMore}

-- the beginning of the window behind a moment
abbrev next_at : ℕ → ℕ
next_at t = t + (1000000000 - t % 1000000000)

not_both : (a b : Bool) → b ≡ false → (a && b) ≡ false
not_both true b e = e
not_both false b e = refl

module _ (plan : Plan) (class : ℕ) (need blocking : ℕ → ℕ) (pitch : ℕ) (curve : ℕ → ℕ) (curves : ℕ → ℕ → ℕ → ℕ) (higher : List ℕ) (above : ℕ)
    (two : above ≤ 2) (opened : (m d : ℕ) → m % 1000000000 + d ≤ 600000000 → may_by plan class m d ≡ true)
    (shut : (m d : ℕ) → 0 < d → 600000000 < m % 1000000000 + d → may_by plan class m d ≡ false) (own : need class ≡ 1136000)
    (even : pitch ≡ 1136000) (most : (t : ℕ) → blocking t ≤ 12335999) (none : (u : ℕ) → 0 < u → u % 1000000000 ≡ 0 → blocking u ≡ 0)
    (late : 12335999 ≤ blocking 586528002) (one : (x : ℕ) → x < 500000000 → curve x ≡ 1)
    (few : (y : ℕ) → y < 500000000 → slots_above pitch curves higher y ≡ above) where
  abbrev may : ℕ → ℕ → Bool
  may = may_by plan class

  -- ---- windows

  opens_at : (u : ℕ) → 0 < u → u % 1000000000 ≡ 0 → is_opening may (need class) blocking u ≡ true
  opens_at u some whole =
      let before = shut (u - 1) 1 (omega arith) (omega (arith, some, whole)) in
      let block = none u some whole in
      let fits = opened u (blocking u + need class) (omega (arith, whole, block, own)) in
      ap (λ b. not b && may u (blocking u + need class)) before ∙ fits

  opens_not : (v : ℕ) → 0 < v → 0 < v % 1000000000 → is_opening may (need class) blocking v ≡ false
  opens_not v some inside = elim (cases_lt ((v - 1) % 1000000000) 600000000) [
    | inl within ↦
        let before = opened (v - 1) 1 (omega (arith, within)) in
        ap (λ b. not b && may v (blocking v + need class)) before
    | inr past ↦
        let closed = shut v (blocking v + need class) (omega (arith, own)) (omega (arith, past, inside, some, own)) in
        not_both (not (may (v - 1) 1)) (may v (blocking v + need class)) closed
  ]

  next_window : (r : ℕ) → IsNextWindow may (need class) pitch blocking r (next_at r)
  next_window r =
      let block = none (next_at r) (omega arith) (omega arith) in
      record {
        opening = next_at r;
        after = omega arith;
        opens = opens_at (next_at r) (omega arith) (omega arith);
        least = λ u from below. opens_not u (omega (arith, from)) (omega (arith, from, below));
        begins = omega (arith, block);
      }

  -- ---- slots are no later

  abbrev IsInFirst : (t n at : ℕ) → Type 0
  IsInFirst t n at =
      (t ≤ at) × (at % 1000000000 ≡ t % 1000000000 + (at - t)) × (at ≤ t + 12335999 + n * 1136000) × (at % 1000000000 + 1136000 ≤ 600000000)

  -- the slot behind n others is in the window at t, or in the next one
  record IsBy (t n : ℕ) : Type 0 where
    pub at : ℕ
    pub is : IsSharedSlot may (need class) pitch blocking t n at
    pub by : at ≤ t + 413471998 + n * 1136000
    pub place : IsInFirst t n at ⊎ ((m : ℕ) × (m ≤ n) × (at ≡ next_at t + m * 1136000))

  first_by : (t : ℕ) → IsBy t 0
  first_by t =
      let block = most t in
      elim (cases_lt 600000000 (t % 1000000000 + (blocking t + need class))) [
        | inr fits ↦ record {
          at = t + blocking t;
          is = inl (opened t (blocking t + need class) fits, refl);
          by = omega (arith, block);
          place = inl (omega arith, omega (arith, fits, own), omega (arith, block), omega (arith, fits, own));
        }
        | inl over ↦ record {
          at = next_at t;
          is = inr (shut t (blocking t + need class) (omega (arith, own)) over, next_window t);
          by = omega (arith, over, block, own);
          place = inr (0, omega arith, omega arith);
        }
      ]

  next_by : (t n : ℕ) → n < 2 → IsBy t n → IsBy t (suc n)
  next_by t n less k = go k.place
    where
      go : IsInFirst t n k.at ⊎ ((m : ℕ) × (m ≤ n) × (k.at ≡ next_at t + m * 1136000)) → IsBy t (suc n)
      go (inl here) =
          let from = here.0 in
          let same = here.1 in
          let soon = here.2 in
          let inside = here.3 in
          elim (cases_lt 600000000 (k.at % 1000000000 + (pitch + need class))) [
            | inr fits ↦ record {
              at = k.at + pitch;
              is = (k.at, k.is, inl (opened k.at (pitch + need class) fits, refl));
              by = omega (arith, soon, even);
              place = inl (omega (arith, from), omega (arith, from, same, fits, even), omega (arith, soon, even), omega (arith, fits, own, even));
            }
            | inl over ↦ record {
              at = next_at k.at;
              is = (k.at, k.is, inr (shut k.at (pitch + need class) (omega (arith, own)) over, next_window k.at));
              by = omega (arith, over, soon, own, even);
              place = inr (0, omega arith, omega (arith, from, same));
            }
          ]
      go (inr there) =
          let m = there.0 in
          let le = there.1 in
          let is = there.2 in
          let by = k.by in
          let fits = opened k.at (pitch + need class) (omega (arith, is, le, less, own, even)) in
          record {
            at = k.at + pitch;
            is = (k.at, k.is, inl (fits, refl));
            by = omega (arith, by, even);
            place = inr (suc m, omega (arith, le), omega (arith, is, even));
          }

  slot_by : (t n : ℕ) → n ≤ 2 → IsBy t n
  slot_by t zero le = first_by t
  slot_by t (suc n) le = next_by t n (omega (arith, le)) (slot_by t n (omega (arith, le)))

  -- ---- and from one moment on no sooner: just too late for a frame behind a long one

  first_is : (s : ℕ) → IsFirstShared may (need class) pitch blocking 586528002 s → s ≡ 1000000000
  first_is s (inl fits) =
      let block = late in
      absurd (both_ways _ (shut 586528002 (blocking 586528002 + need class) (omega (arith, own)) (omega (arith, block, own))) fits.0)
  first_is s (inr later) =
      let w = later.1 in
      let after = w.after in
      let begins = w.begins in
      elim (cases_lt w.opening 1000000000) [
        | inl before ↦ absurd (both_ways _ (opens_not w.opening (omega (arith, after)) (omega (arith, after, before))) w.opens)
        | inr from ↦ elim (cases_lt 1000000000 w.opening) [
          | inl past ↦ absurd (both_ways _ (w.least 1000000000 (omega arith) past) (opens_at 1000000000 (omega arith) (omega arith)))
          | inr same ↦
              let is : w.opening ≡ 1000000000 = omega (arith, from, same) in
              let block = none 1000000000 (omega arith) (omega arith) in
              let here = ap blocking is in
              omega (arith, begins, is, block, here)
        ]
      ]

  slot_is : (n s : ℕ) → n ≤ 2 → IsSharedSlot may (need class) pitch blocking 586528002 n s → s ≡ 1000000000 + n * 1136000
  slot_is zero s le k = (let is = first_is s k in omega (arith, is))
  slot_is (suc n) s le k = by (slot_is n k.0 (omega (arith, le)) k.1) k.2
    where
      by : k.0 ≡ 1000000000 + n * 1136000 → IsNextShared may (need class) pitch blocking k.0 s → s ≡ 1000000000 + suc n * 1136000
      by is (inl here) = (let at = here.1 in omega (arith, at, is, even))
      by is (inr later) = absurd (both_ways _ later.0 (opened k.0 (pitch + need class) (omega (arith, is, le, own, even))))

  -- slots come one after another
  earlier : (t m n s : ℕ) → m ≤ n → IsSharedSlot may (need class) pitch blocking t n s
      → (r : ℕ) × IsSharedSlot may (need class) pitch blocking t m r × (r ≤ s)
  earlier t zero zero s le k = (s, k, le_refl s)
  earlier t (suc m) zero s le k = absurd (omega (arith, le))
  earlier t m (suc n) s le k = elim (cases_lt m (suc n)) [
    | inr last ↦
        let same : suc n ≡ m = omega (arith, last, le) in
        (s, subst (λ i. IsSharedSlot may (need class) pitch blocking t i s) same k, le_refl s)
    | inl less ↦
        let rest = earlier t m n k.0 (omega (arith, less)) k.1 in
        let up = rest.2 in
        let on = onward k.0 s k.2 in
        (rest.0, rest.1, omega (arith, up, on))
  ]
    where
      onward : (r s : ℕ) → IsNextShared may (need class) pitch blocking r s → r ≤ s
      onward r s (inl here) = (let at = here.1 in omega (arith, at))
      onward r s (inr later) = (let w = later.1 in let after = w.after in let begins = w.begins in omega (arith, after, begins))

  -- ---- the bounds

  abbrev IsFor : ℕ → ℕ → ℕ → Type 0
  IsFor t k s = IsSlotFor plan class need blocking pitch curve curves higher t k s

  for_one : (t : ℕ) → (s : ℕ) × IsFor t 1 s × (s ≤ t + 413471998 + above * 1136000)
  for_one t =
      let slot = slot_by t above two in
      let by = slot.by in
      let count = few (slot.at - t) (omega (arith, by, two)) in
      let own : slots_of (need class) pitch * (1 - 1) ≡ 0 = omega arith in
      (slot.at, record { behind = above; is = slot.is; enough = omega (arith, own, count) }, by)

  no_sooner : (s : ℕ) → IsFor 586528002 1 s → 1000000000 + above * 1136000 ≤ s
  no_sooner s k = elim (cases_lt k.behind above) [
    | inr enough ↦
        let first = earlier 586528002 above k.behind s enough k.is in
        let is = slot_is above first.0 two first.1 in
        let on = first.2 in
        omega (arith, is, on)
    | inl less ↦
        let is = slot_is k.behind s (omega (arith, less, two)) k.is in
        let count = few (s - 586528002) (omega (arith, is, less, two)) in
        let all = k.enough in
        absurd (omega (arith, count, all, less))
  ]

  least_wait : (w : ℕ) → (s : ℕ) × IsFor 586528002 (curve 0) s × (s ≤ 586528002 + 0 + w) → 413471998 + above * 1136000 ≤ w
  least_wait w k =
      let first = subst (λ c. IsFor 586528002 c k.0) (one 0 (omega arith)) k.1 in
      let from = no_sooner k.0 first in
      let by = k.2 in
      omega (arith, from, by)

  least_most : (m : ℕ) → (k : ℕ) × (curve 0 ≤ k + m) × ((k ≡ 0) ⊎ ((s : ℕ) × IsFor 0 k s × (s < 0 + 0))) → 1 ≤ m
  least_most m k = by k.2
    where
      by : (k.0 ≡ 0) ⊎ ((s : ℕ) × IsFor 0 k.0 s × (s < 0 + 0)) → 1 ≤ m
      by (inl no_frame) = (let first = one 0 (omega arith) in let all = k.1 in omega (arith, first, all, no_frame))
      by (inr begun) = (let early = begun.2 in absurd (omega (arith, early)))

  pub busy : AreBusyBounds plan class need blocking pitch curve curves higher (413471998 + above * 1136000) 1
  busy t =
      let first = for_one t in
      let by = first.2 in
      let last : ℕ = 414607997 + above * 1136000 in
      record {
        last = last;
        slot = first.0;
        is = subst (λ c. IsFor t c first.0) (sym (one last (omega (arith, two)))) first.1;
        ends = omega (arith, by, own);
        soon = λ x le. (first.0, subst (λ c. IsFor t c first.0) (sym (one x (omega (arith, le, two)))) first.1, omega (arith, by));
        few = λ x le. (let count = one x (omega (arith, le, two)) in (0, omega (arith, count), inl refl));
      }

  pub window_least : AreNoMore plan class need blocking pitch curve curves higher (413471998 + above * 1136000) 1
  window_least = record {
    busy = λ w m are. (least_wait w ((are 586528002).soon 0 (omega arith)), least_most m ((are 0).few 0 (omega arith)));
    always = λ w m are. (least_wait w (are.soon 586528002 0), least_most m (are.few 0 0));
  }
