-- The starts of a class whose frames keep to a slot curve, and start in time, keep a start curve.
use Rattle.std.proofs.Common.{◌≡◌, ◌<◌, ◌≤◌, ℕ, zero, suc, ◌+◌, ◌-◌, ◌*◌, ◌⊎◌, inl, inr, List, [], ◌∷◌, slice_get, sum_by, take, drop, Some, refl, sym, ap, ◌∙◌, subst, arith, le_refl}
use Rattle.std.proofs.Math.Nat.{mul-le-mul_left}
use Rattle.std.proofs.lemmas.Bool.{cases_lt}
use Rattle.std.proofs.lemmas.List.Sums.{sum_by-cons}
use Rattle.std.proofs.lemmas.Option.{same_Some}
use Rattle.wire_time.specs.Wire.{occupancy_of}
use Rattle.abstract_port.specs.declared.Start.{Start}
use Rattle.abstract_port.specs.AbstractPort.{AbstractPort, new_port}
use Rattle.abstract_port.specs.Traffic.{Came, offered_in, queued_in}
use Rattle.any_traffic.specs.Runs.{started}
use Rattle.any_traffic.specs.SharedRuns.{AtMostWait}
use Rattle.any_traffic.specs.SharedSlots.{slots_by, slots_of}
use Rattle.any_traffic.specs.SlotCurve.{CoverUpTo, slots_for}
use Rattle.any_traffic.specs.StartCurve.{StartCurveLaw}
use Rattle.any_traffic.proofs.ListLaws.{none_here, one_before}
use Rattle.any_traffic.proofs.Offered.{are_part, queued_order}
use Rattle.any_traffic.proofs.OwnStarts.{own_starts_law}
use Rattle.any_traffic.proofs.PartLaws.{ArePart, part_at}
use Rattle.any_traffic.proofs.SharedSlots.{slots_rise}
use Rattle.any_traffic.proofs.Weights.{take_few, take_parts}

-- ---- some of the frames that came

module _ (w : Came → ℕ) where
  -- up to one of some, these weigh no more than all up to it
  part_front : (n : ℕ) (xs ys : List Came) (g : Came) → ArePart xs ys → slice_get xs n ≡ Some g
      → (m : ℕ) × (slice_get ys m ≡ Some g) × (sum_by w (take (suc n) xs) ≤ sum_by w (take (suc m) ys))
  part_front n [] ys g p e = absurd (none_here n g e)
  part_front n (x ∷ xs) [] g p e = absurd p
  part_front zero (x ∷ xs) (y ∷ ys) g (inl p) e =
      let a = sum_by-cons w x [] in
      let b = sum_by-cons w y [] in
      let same = ap w p.0 in
      (0, ap Some (sym p.0) ∙ e, omega (arith, a, b, same))
  part_front (suc n) (x ∷ xs) (y ∷ ys) g (inl p) e =
      let r = part_front n xs ys g p.1 e in
      let le = r.2 in
      let a = sum_by-cons w x (take (suc n) xs) in
      let b = sum_by-cons w y (take (suc r.0) ys) in
      let same = ap w p.0 in
      (suc r.0, r.1, omega (arith, le, a, b, same))
  part_front n (x ∷ xs) (y ∷ ys) g (inr p) e =
      let r = part_front n (x ∷ xs) ys g p e in
      let le = r.2 in
      let b = sum_by-cons w y (take (suc r.0) ys) in
      (suc r.0, r.1, omega (arith, le, b))

  -- and so from one to a later one
  pub record IsWhole (ys : List Came) (weight : ℕ) (f g : Came) : Type 0 where
    pub place : ℕ
    pub more : ℕ
    pub first : slice_get ys place ≡ Some f
    pub second : slice_get ys (place + more) ≡ Some g
    pub within : weight ≤ sum_by w (take (suc more) (drop place ys))

  part_whole : (k n : ℕ) (xs ys : List Came) (f g : Came) → ArePart xs ys → slice_get xs k ≡ Some f → slice_get xs (k + n) ≡ Some g
      → IsWhole ys (sum_by w (take (suc n) (drop k xs))) f g
  part_whole k n [] ys f g p e h = absurd (none_here k f e)
  part_whole k n (x ∷ xs) [] f g p e h = absurd p
  part_whole k n (x ∷ xs) (y ∷ ys) f g (inr p) e h =
      let r = part_whole k n (x ∷ xs) ys f g p e h in
      let at : suc (r.place + r.more) ≡ suc r.place + r.more = omega arith in
      record { place = suc r.place; more = r.more; first = r.first; second = ap (slice_get (y ∷ ys)) (sym at) ∙ r.second; within = r.within }
  part_whole zero n (x ∷ xs) (y ∷ ys) f g (inl p) e h =
      let at : 0 + n ≡ n = omega arith in
      let r = part_front n (x ∷ xs) (y ∷ ys) g (inl p) (ap (slice_get (x ∷ xs)) (sym at) ∙ h) in
      let there : r.0 ≡ 0 + r.0 = omega arith in
      record { place = 0; more = r.0; first = ap Some (sym p.0) ∙ e; second = ap (slice_get (y ∷ ys)) (sym there) ∙ r.1; within = r.2 }
  part_whole (suc k) n (x ∷ xs) (y ∷ ys) f g (inl p) e h =
      let at : suc k + n ≡ suc (k + n) = omega arith in
      let r = part_whole k n xs ys f g p.1 e (ap (slice_get (x ∷ xs)) (sym at) ∙ h) in
      let there : suc (r.place + r.more) ≡ suc r.place + r.more = omega arith in
      record { place = suc r.place; more = r.more; first = r.first; second = ap (slice_get (y ∷ ys)) (sym there) ∙ r.second; within = r.within }

part_cover : (ps pitch : ℕ) (curve : ℕ → ℕ) (xs ys : List Came) → ArePart xs ys → CoverUpTo ps pitch curve ys → CoverUpTo ps pitch curve xs
part_cover ps pitch curve xs ys p c k n f g e h =
    let r = part_whole (slots_for ps pitch) k n xs ys f g p e h in
    let within = r.within in
    let few = c r.place r.more f g r.first r.second in
    omega (arith, within, few)

-- ---- starts cover what their frames do

module _ (ps pitch : ℕ) where
  abbrev AreTheirs : List Start → List Came → Type 0
  AreTheirs starts came = (k : ℕ) (x : Start) → slice_get starts k ≡ Some x
      → (f : Came) × (slice_get came k ≡ Some f) × (slots_by pitch x ≡ slots_for ps pitch f)

  starts_cover : (n k : ℕ) (starts : List Start) (came : List Came) → AreTheirs starts came
      → sum_by (slots_by pitch) (take n (drop k starts)) ≤ sum_by (slots_for ps pitch) (take n (drop k came))
  starts_cover n k (x ∷ starts) [] theirs = (let none = theirs 0 x refl in absurd (none_here 0 none.0 none.1))
  starts_cover zero (suc k) [] came theirs = omega arith
  starts_cover (suc n) (suc k) [] came theirs = omega arith
  starts_cover n (suc k) (x ∷ starts) (f ∷ came) theirs = starts_cover n k starts came (λ i y e. theirs (suc i) y e)
  starts_cover zero zero starts came theirs = omega arith
  starts_cover (suc n) zero [] came theirs = omega arith
  starts_cover (suc n) zero (x ∷ starts) (f ∷ came) theirs =
      let rest = starts_cover n 0 starts came (λ i y e. theirs (suc i) y e) in
      let here = theirs 0 x refl in
      let mine = ap (slots_for ps pitch) (same_Some f here.0 here.1) in
      let own = here.2 in
      let a = sum_by-cons (slots_by pitch) x (take n starts) in
      let b = sum_by-cons (slots_for ps pitch) f (take n came) in
      omega (arith, rest, mine, own, a, b)

-- ---- those that wait, and those that come

module _ (ps pitch longest : ℕ) (came : List Came) (starts : List Start) (curve : ℕ → ℕ) (most : ℕ)
    (frames : (k : ℕ) (x : Start) → slice_get starts k ≡ Some x → (f : Came) × (slice_get came k ≡ Some f) × (f.moment ≤ x.at))
    (each : (k : ℕ) (f : Came) → slice_get came k ≡ Some f → slots_for ps pitch f ≤ longest)
    (few : CoverUpTo ps pitch curve came)
    (order : (k n : ℕ) (f g : Came) → slice_get came k ≡ Some f → slice_get came (k + n) ≡ Some g → f.moment ≤ g.moment)
    (rises : (x y : ℕ) → x ≤ y → curve x ≤ curve y) (waits : AtMostWait most came starts) (p s i : ℕ) (y : Start)
    (there : slice_get starts i ≡ Some y) (from : p ≤ y.at) where
  -- how many slots so many of them cover, from a place on
  abbrev cover : ℕ → ℕ → ℕ
  cover k n = sum_by (slots_for ps pitch) (take n (drop k came))

  -- those up to one that has come by the beginning
  some_wait : (n : ℕ) (f : Came) → slice_get came (i + n) ≡ Some f → f.moment ≤ p → cover i (suc n) ≤ longest * most
  some_wait n f e le =
      let g = frames i y there in
      let many = waits i n p g.0 f g.1 e le (λ x e'. subst (λ (z : Start). p ≤ z.at) (same_Some y x (sym there ∙ e')) from) in
      let all = take_few (slots_for ps pitch) longest (suc n) i came each in
      let up = mul-le-mul_left longest (let l : suc n ≤ most = omega (arith, many) in l) in
      omega (arith, all, up)

  -- those from one on that has not
  some_come : (n m : ℕ) (f g : Came) → n ≤ m → slice_get came (i + n) ≡ Some f → slice_get came (i + m) ≡ Some g → p < f.moment
      → g.moment ≤ s → cover (i + n) (suc (m - n)) ≤ curve (s - p)
  some_come n m f g le e h after by =
      let at : i + m ≡ i + n + (m - n) = omega (arith, le) in
      let count = few (i + n) (m - n) f g e (sym (ap (slice_get came) at) ∙ h) in
      let up = rises (g.moment - f.moment) (s - p) (omega (arith, after, by)) in
      omega (arith, count, up)

  -- all of them
  all_few : (m : ℕ) (g : Came) → slice_get came (i + m) ≡ Some g → g.moment ≤ s → cover i (suc m) ≤ longest * most + curve (s - p)
  all_few m g e by = go m (le_refl m) (inl refl)
    where
      IsAfter : ℕ → Type 0
      IsAfter n = (n ≡ m) ⊎ ((f : Came) × (slice_get came (i + suc n) ≡ Some f) × (p < f.moment))

      frame : (n : ℕ) → n ≤ m → (f : Came) × (slice_get came (i + n) ≡ Some f)
      frame n le = one_before came (i + n) (i + m) g (omega (arith, le)) e

      whole : (n : ℕ) → n ≡ m → (f : Came) → slice_get came (i + n) ≡ Some f → f.moment ≤ p → cover i (suc m) ≤ longest * most + curve (s - p)
      whole n same f at before =
          let wait = some_wait n f at before in
          let all = ap (λ k. cover i (suc k)) same in
          omega (arith, wait, all)

      early : (n : ℕ) → n ≤ m → (f : Came) → slice_get came (i + n) ≡ Some f → f.moment ≤ p → IsAfter n
          → cover i (suc m) ≤ longest * most + curve (s - p)
      early n le f at before (inl same) = whole n same f at before
      early n le f at before (inr next) = elim (cases_lt n m) [
        | inr last ↦ whole n (omega (arith, last, le)) f at before
        | inl less ↦
            let wait = some_wait n f at before in
            let rest = some_come (suc n) m next.0 g less next.1 e next.2 by in
            let parts = take_parts (slots_for ps pitch) (suc n) (suc (m - suc n)) i came in
            let sum : suc n + suc (m - suc n) ≡ suc m = omega (arith, less) in
            let all = ap (cover i) sum in
            omega (arith, wait, rest, parts, all)
      ]

      go : (n : ℕ) → n ≤ m → IsAfter n → cover i (suc m) ≤ longest * most + curve (s - p)
      go zero le after =
          let f = frame zero le in
          elim (cases_lt p (f.0).moment) [
            | inr before ↦ early zero le f.0 f.1 before after
            | inl later ↦
                let all = some_come 0 m f.0 g le f.1 e later by in
                let at : i + 0 ≡ i = omega arith in
                let to : m - 0 ≡ m = omega arith in
                let same = ap (λ k. cover k (suc (m - 0))) at in
                let whole = ap (λ k. cover i (suc k)) to in
                omega (arith, all, same, whole)
          ]
      go (suc n) le after =
          let f = frame (suc n) le in
          elim (cases_lt p (f.0).moment) [
            | inr before ↦ early (suc n) le f.0 f.1 before after
            | inl later ↦ go n (omega (arith, le)) (inr (f.0, f.1, later))
          ]

-- ---- the law

pub start_curve_law : StartCurveLaw
start_curve_law ps mtu room c need pitch wait most curve a plan events r some short keeps rises t =
    record {
      rises = λ x y le.
          let one = rises x y le in
          let two = rises (x + wait) (y + wait) (omega (arith, le)) in
          omega (arith, one, two);
      few = λ k n x y e h.
          let f = frames k x e in
          let g = frames (k + n) y h in
          let come = g.2 in
          let soon = t.soon k f.0 x f.1 e in
          let one = all_few ps pitch longest came mine curve most frames each keep order rises t.few x.at y.at k x e (le_refl x.at) n g.0 g.1 come in
          let count = keep k n f.0 g.0 f.1 g.1 in
          let two = rises (g.0.moment - f.0.moment) (y.at - x.at + wait) (omega (arith, come, soon)) in
          let all = starts_cover ps pitch (suc n) k mine came theirs in
          omega (arith, one, count, two, all);
    }
  where
    p : AbstractPort
    p = new_port ps mtu room

    longest : ℕ
    longest = slots_of need pitch

    came : List Came
    came = queued_in c events p

    mine : List Start
    mine = started ps mtu room c events

    keep : CoverUpTo ps pitch curve came
    keep = part_cover ps pitch curve came (offered_in c events p) (are_part c events p (r.one).large) keeps

    each : (k : ℕ) (f : Came) → slice_get came k ≡ Some f → slots_for ps pitch f ≤ longest
    each k f e =
        let there = part_at came (offered_in c events p) k f (are_part c events p (r.one).large) e in
        slots_rise (occupancy_of ps f.frame.len) need pitch some (short there.0 f there.1)

    order : (k n : ℕ) (f g : Came) → slice_get came k ≡ Some f → slice_get came (k + n) ≡ Some g → f.moment ≤ g.moment
    order = queued_order c events p (r.one).large

    frames : (k : ℕ) (x : Start) → slice_get mine k ≡ Some x → (f : Came) × (slice_get came k ≡ Some f) × (f.moment ≤ x.at)
    frames k x e = (let own = own_starts_law ps mtu room c a plan events r k x e in (own.0, own.1, own.3))

    theirs : AreTheirs ps pitch mine came
    theirs k x e =
        let own = own_starts_law ps mtu room c a plan events r k x e in
        let f = own.0 in
        let ends : x.«end» ≡ x.at + occupancy_of ps f.frame.len = ap (λ (y : Start). y.«end») own.2 in
        let long : x.«end» - x.at ≡ occupancy_of ps f.frame.len = omega (arith, ends) in
        (f, own.1, ap (λ d. slots_of d pitch) long)
