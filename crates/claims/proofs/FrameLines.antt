-- A line of all frames that may have come by a moment, in the order in which they come if one of them is to be delayed the most.
use Rattle.std.proofs.Common.{◌≡◌, ◌<◌, ◌≤◌, ℕ, zero, suc, ◌+◌, min, Bool, true, false, ◌⊎◌, inl, inr, ◌&&◌, eqb, List, [], ◌∷◌, length, get_or, slice_get, Some, refl, sym, ap, ◌∙◌, subst, arith}
use Rattle.std.proofs.lemmas.Bool.{and_parts, cases_lt, eqb-true, eq-eqb}
use Rattle.std.proofs.lemmas.Option.{get_or_from_slice_get, same_Some, slice_get_within}
use Rattle.any_traffic.specs.PeriodicWindows.{PeriodicFlow, before, window_of}
use Rattle.any_traffic.proofs.Counting.{one_if}
use Rattle.any_traffic.proofs.ListLaws.{none_here, one_at}
use Rattle.any_traffic.proofs.PeriodicWindowLaws.{before_is, before_of}

-- ---- lists of numbers of frames

abbrev pub Has : ℕ × ℕ → List (ℕ × ℕ) → Type 0
Has x [] = ⊥
Has x (y ∷ ys) = (x ≡ y) ⊎ Has x ys

-- none is there twice
abbrev pub AreOwn : List (ℕ × ℕ) → Type 0
AreOwn [] = Unit {0}
AreOwn (y ∷ ys) = (Has y ys → ⊥) × AreOwn ys

-- in the order of a key
abbrev pub AreInOrder : (ℕ × ℕ → ℕ) → List (ℕ × ℕ) → Type 0
AreInOrder key [] = Unit {0}
AreInOrder key (y ∷ ys) = ((z : ℕ × ℕ) → Has z ys → key y ≤ key z) × AreInOrder key ys

pub place_of : (xs : List (ℕ × ℕ)) (x : ℕ × ℕ) → Has x xs → (k : ℕ) × (slice_get xs k ≡ Some x)
place_of [] x h = absurd h
place_of (y ∷ ys) x (inl same) = (0, ap Some (sym same))
place_of (y ∷ ys) x (inr h) = (let r = place_of ys x h in (suc r.0, r.1))

pub has_at : (xs : List (ℕ × ℕ)) (k : ℕ) (x : ℕ × ℕ) → slice_get xs k ≡ Some x → Has x xs
has_at [] k x e = absurd (none_here k x e)
has_at (y ∷ ys) zero x e = inl (sym (same_Some y x e))
has_at (y ∷ ys) (suc k) x e = inr (has_at ys k x e)

pub one_place : (xs : List (ℕ × ℕ)) (j k : ℕ) (x : ℕ × ℕ) → AreOwn xs → slice_get xs j ≡ Some x → slice_get xs k ≡ Some x → j ≡ k
one_place [] j k x own e f = absurd (none_here j x e)
one_place (y ∷ ys) zero zero x own e f = refl
one_place (y ∷ ys) zero (suc k) x own e f = absurd (own.0 (subst (λ z. Has z ys) (sym (same_Some y x e)) (has_at ys k x f)))
one_place (y ∷ ys) (suc j) zero x own e f = absurd (own.0 (subst (λ z. Has z ys) (sym (same_Some y x f)) (has_at ys j x e)))
one_place (y ∷ ys) (suc j) (suc k) x own e f = ap suc (one_place ys j k x own.1 e f)

pub in_order : (key : ℕ × ℕ → ℕ) (xs : List (ℕ × ℕ)) (j k : ℕ) (x y : ℕ × ℕ) → AreInOrder key xs → slice_get xs j ≡ Some x
    → slice_get xs k ≡ Some y → j < k → key x ≤ key y
in_order key [] j k x y order e f less = absurd (none_here j x e)
in_order key (z ∷ zs) j zero x y order e f less = absurd (omega (arith, less))
in_order key (z ∷ zs) zero (suc k) x y order e f less = subst (λ w. key w ≤ key y) (same_Some z x e) (order.0 y (has_at zs k y f))
in_order key (z ∷ zs) (suc j) (suc k) x y order e f less = in_order key zs j k x y order.1 e f (omega (arith, less))

-- ---- one more, in its place

module _ (key : ℕ × ℕ → ℕ) where
  record IsWith (xs : List (ℕ × ℕ)) (x : ℕ × ℕ) : Type 0 where
    pub all : List (ℕ × ℕ)
    pub own : AreOwn all
    pub order : AreInOrder key all
    pub only : (z : ℕ × ℕ) → Has z all → (z ≡ x) ⊎ Has z xs
    pub has : (z : ℕ × ℕ) → (z ≡ x) ⊎ Has z xs → Has z all

  put_in : (xs : List (ℕ × ℕ)) (x : ℕ × ℕ) → AreOwn xs → AreInOrder key xs → (Has x xs → ⊥) → IsWith xs x
  put_in [] x own order new = record { all = x ∷ []; own = (λ h. h, tt); order = (λ z h. absurd h, tt); only = λ z h. h; has = λ z h. h }
  put_in (y ∷ ys) x own order new = elim (cases_lt (key y) (key x)) [
    | inr first ↦ record {
      all = x ∷ (y ∷ ys);
      own = (new, own);
      order = (λ z h. before z first h, order);
      only = λ z h. h;
      has = λ z h. h;
    }
    | inl later ↦ behind later (put_in ys x own.1 order.1 (λ h. new (inr h)))
  ]
    where
      before : (z : ℕ × ℕ) → key x ≤ key y → (z ≡ y) ⊎ Has z ys → key x ≤ key z
      before z first (inl same) = subst (λ w. key x ≤ key w) (sym same) first
      before z first (inr h) = (let more = order.0 z h in omega (arith, first, more))

      behind : key y < key x → IsWith ys x → IsWith (y ∷ ys) x
      behind later r = record {
        all = y ∷ r.all;
        own = (λ h. other (r.only y h), r.own);
        order = (λ z h. least z (r.only z h), r.order);
        only = λ z h. turned z h;
        has = λ z h. back z h;
      }
        where
          other : (y ≡ x) ⊎ Has y ys → ⊥
          other (inl same) = new (inl (sym same))
          other (inr h) = own.0 h

          least : (z : ℕ × ℕ) → (z ≡ x) ⊎ Has z ys → key y ≤ key z
          least z (inl same) = subst (λ w. key y ≤ key w) (sym same) (let e : key y ≤ key x = omega (arith, later) in e)
          least z (inr h) = order.0 z h

          turned : (z : ℕ × ℕ) → (z ≡ y) ⊎ Has z r.all → (z ≡ x) ⊎ ((z ≡ y) ⊎ Has z ys)
          turned z (inl same) = inr (inl same)
          turned z (inr h) = elim (r.only z h) [ inl same ↦ inl same | inr there ↦ inr (inr there) ]

          back : (z : ℕ × ℕ) → (z ≡ x) ⊎ ((z ≡ y) ⊎ Has z ys) → (z ≡ y) ⊎ Has z r.all
          back z (inl same) = inr (r.has z (inl same))
          back z (inr (inl same)) = inl same
          back z (inr (inr h)) = inr (r.has z (inr h))

  -- ---- so many of each row

  module _ (count : ℕ → ℕ) where
    -- all of the first rows, and the first of the next one
    abbrev pub IsUpTo : ℕ → ℕ → ℕ × ℕ → Type 0
    IsUpTo i c z = ((z.0 < i) × (z.1 < count z.0)) ⊎ ((z.0 ≡ i) × (z.1 < c))

    pub record IsLine (In : ℕ × ℕ → Type 0) : Type 0 where
      pub line : List (ℕ × ℕ)
      pub own : AreOwn line
      pub order : AreInOrder key line
      pub only : (z : ℕ × ℕ) → Has z line → In z
      pub has : (z : ℕ × ℕ) → In z → Has z line

    in_row : (i c : ℕ) → IsLine (IsUpTo i c) → IsLine (IsUpTo i (suc c))
    in_row i c l =
        let r = put_in l.line (i, c) l.own l.order (λ h. no (l.only (i, c) h)) in
        record { line = r.all; own = r.own; order = r.order; only = λ z h. fits z (r.only z h); has = λ z h. r.has z (splits z h) }
      where
        no : ((i < i) × (c < count i)) ⊎ ((i ≡ i) × (c < c)) → ⊥
        no (inl a) = (let z = a.0 in omega (arith, z))
        no (inr a) = (let z = a.1 in omega (arith, z))

        fits : (z : ℕ × ℕ) → (z ≡ (i, c)) ⊎ Has z l.line → IsUpTo i (suc c) z
        fits z (inl same) = inr (ap (λ (w : ℕ × ℕ). w.0) same, (let e : z.1 ≡ c = ap (λ (w : ℕ × ℕ). w.1) same in omega (arith, e)))
        fits z (inr h) = wider (l.only z h)
          where
            wider : IsUpTo i c z → IsUpTo i (suc c) z
            wider (inl a) = inl a
            wider (inr a) = inr (a.0, (let less = a.1 in omega (arith, less)))

        splits : (z : ℕ × ℕ) → IsUpTo i (suc c) z → (z ≡ (i, c)) ⊎ Has z l.line
        splits z (inl a) = inr (l.has z (inl a))
        splits z (inr a) = elim (cases_lt z.1 c) [
          | inl less ↦ inr (l.has z (inr (a.0, less)))
          | inr here ↦ inl (both z a.0 (let less = a.1 in let e : z.1 ≡ c = omega (arith, here, less) in e))
        ]
          where
            both : (z : ℕ × ℕ) → z.0 ≡ i → z.1 ≡ c → z ≡ (i, c)
            both (x, y) e f = cc

    row : (i c : ℕ) → IsLine (IsUpTo i 0) → IsLine (IsUpTo i c)
    row i zero l = l
    row i (suc c) l = in_row i c (row i c l)

    next_row : (i : ℕ) → IsLine (IsUpTo i (count i)) → IsLine (IsUpTo (suc i) 0)
    next_row i l = record { line = l.line; own = l.own; order = l.order; only = λ z h. wider z (l.only z h); has = λ z h. l.has z (back z h) }
      where
        wider : (z : ℕ × ℕ) → IsUpTo i (count i) z → IsUpTo (suc i) 0 z
        wider z (inl a) = inl ((let less = a.0 in omega (arith, less)), a.1)
        wider z (inr a) = inl ((let same = a.0 in omega (arith, same)), subst (λ j. z.1 < count j) (sym a.0) a.1)

        back : (z : ℕ × ℕ) → IsUpTo (suc i) 0 z → IsUpTo i (count i) z
        back z (inr a) = absurd (let none = a.1 in omega (arith, none))
        back z (inl a) = elim (cases_lt z.0 i) [
          | inl less ↦ inl (less, a.1)
          | inr here ↦
              let within = a.0 in
              let same : z.0 ≡ i = omega (arith, here, within) in
              inr (same, subst (λ j. z.1 < count j) same a.1)
        ]

    -- the rows, one after another
    pub rows : (i : ℕ) → IsLine (IsUpTo i 0)
    rows zero = record { line = []; own = tt; order = tt; only = λ z h. absurd h; has = λ z h. none z h }
      where
        none : (z : ℕ × ℕ) → IsUpTo 0 0 z → Has z []
        none z (inl a) = (let less = a.0 in omega (arith, less))
        none z (inr a) = (let less = a.1 in omega (arith, less))
    rows (suc i) = next_row i (row i (count i) (rows i))

-- ---- the frames of flows that may have come by a moment, the one to be delayed last

abbrev pub no_flow : PeriodicFlow
no_flow = record { offset = 0; period = 0; jitter = 0; shortest = 0; longest = 0 }

module _ (flows : List PeriodicFlow) (above : (i : ℕ) (flow : PeriodicFlow) → slice_get flows i ≡ Some flow → 0 < flow.period)
    (last : ℕ) (aim : ℕ × ℕ) where
  abbrev pub flow_in : ℕ → PeriodicFlow
  flow_in i = get_or flows i no_flow

  -- when a frame comes
  abbrev pub moment_of : ℕ × ℕ → ℕ
  moment_of x = min (window_of (flow_in x.0) x.1).latest last

  abbrev is_aim : ℕ × ℕ → ℕ
  is_aim x = one_if (eqb x.0 aim.0 && eqb x.1 aim.1)

  abbrev key_of : ℕ × ℕ → ℕ
  key_of x = moment_of x + is_aim x

  abbrev count_of : ℕ → ℕ
  count_of i = before (flow_in i).offset (flow_in i).period (last + 1)

  pub record IsDelayLine : Type 0 where
    pub line : List (ℕ × ℕ)
    pub own : AreOwn line
    pub order : AreInOrder moment_of line
    pub each : (x : ℕ × ℕ) → Has x line
        → (flow : PeriodicFlow) × (slice_get flows x.0 ≡ Some flow) × ((window_of flow x.1).earliest ≤ last)
        × (moment_of x ≡ min (window_of flow x.1).latest last)
    pub all : (i n : ℕ) (flow : PeriodicFlow) → slice_get flows i ≡ Some flow → (window_of flow n).earliest ≤ last → Has (i, n) line
    pub behind : (j k : ℕ) (x : ℕ × ℕ) → slice_get line j ≡ Some x → slice_get line k ≡ Some aim → j ≤ k

  -- the frame to be delayed, or another one
  which : (x : ℕ × ℕ) → ((x ≡ aim) × (is_aim x ≡ 1)) ⊎ (is_aim x ≡ 0)
  which x = by x (eqb x.0 aim.0 && eqb x.1 aim.1) refl
    where
      same : (x y : ℕ × ℕ) → x.0 ≡ y.0 → x.1 ≡ y.1 → x ≡ y
      same (i, n) (j, m) e f = cc

      by : (x : ℕ × ℕ) (b : Bool) → (eqb x.0 aim.0 && eqb x.1 aim.1) ≡ b → ((x ≡ aim) × (is_aim x ≡ 1)) ⊎ (is_aim x ≡ 0)
      by x true e = (let both = and_parts _ _ e in inl (same x aim (eqb-true x.0 aim.0 both.0) (eqb-true x.1 aim.1 both.1), ap one_if e))
      by x false e = inr (ap one_if e)

  aim_is : is_aim aim ≡ 1
  aim_is = ap one_if (ap (λ b. b && eqb aim.1 aim.1) (eq-eqb aim.0 aim.0 refl) ∙ eq-eqb aim.1 aim.1 refl)

  reorder : (f g : ℕ × ℕ → ℕ) → ((x y : ℕ × ℕ) → f x ≤ f y → g x ≤ g y) → (xs : List (ℕ × ℕ)) → AreInOrder f xs → AreInOrder g xs
  reorder f g rises [] order = tt
  reorder f g rises (x ∷ xs) order = (λ z h. rises x z (order.0 z h), reorder f g rises xs order.1)

  module _ (late : moment_of aim ≡ last) where
    rises : (x y : ℕ × ℕ) → key_of x ≤ key_of y → moment_of x ≤ moment_of y
    rises x y le = by (moment_of x) (moment_of y) (is_aim x) (is_aim y) (let e : moment_of x ≤ last = omega arith in e) (latest (which y)) le
      where
        latest : ((y ≡ aim) × (is_aim y ≡ 1)) ⊎ (is_aim y ≡ 0) → ((moment_of y ≡ last) × (is_aim y ≡ 1)) ⊎ (is_aim y ≡ 0)
        latest (inl a) = inl (ap moment_of a.0 ∙ late, a.1)
        latest (inr none) = inr none

        by : (m n b c : ℕ) → m ≤ last → ((n ≡ last) × (c ≡ 1)) ⊎ (c ≡ 0) → m + b ≤ n + c → m ≤ n
        by m n b c within (inl a) le = (let is = a.0 in omega (arith, is, within))
        by m n b c within (inr none) le = omega (arith, none, le)

    pub delay_line : IsDelayLine
    delay_line = record {
      line = l.line;
      own = l.own;
      order = reorder key_of moment_of rises l.line l.order;
      each = λ x h. each x (l.only x h);
      all = λ i n flow e early. l.has (i, n) (inl (slice_get_within flows i flow e, counted i n flow e early));
      behind = λ j k x e f. behind j k x e f;
    }
      where
        l : IsLine key_of count_of (IsUpTo key_of count_of (length flows) 0)
        l = rows key_of count_of (length flows)

        each : (x : ℕ × ℕ) → IsUpTo key_of count_of (length flows) 0 x
            → (flow : PeriodicFlow) × (slice_get flows x.0 ≡ Some flow) × ((window_of flow x.1).earliest ≤ last)
            × (moment_of x ≡ min (window_of flow x.1).latest last)
        each x (inr a) = absurd (let none = a.1 in omega (arith, none))
        each x (inl a) =
            let flow = one_at flows x.0 a.0 in
            let same = get_or_from_slice_get flows x.0 flow.0 no_flow flow.1 in
            let come = before_is (flow.0).offset (flow.0).period x.1 (last + 1) (above x.0 flow.0 flow.1)
            (subst (λ (y : PeriodicFlow). x.1 < before y.offset y.period (last + 1)) same a.1) in
            (flow.0, flow.1, omega (arith, come), ap (λ (y : PeriodicFlow). min (window_of y x.1).latest last) same)

        counted : (i n : ℕ) (flow : PeriodicFlow) → slice_get flows i ≡ Some flow → (window_of flow n).earliest ≤ last → n < count_of i
        counted i n flow e early =
            let same = get_or_from_slice_get flows i flow no_flow e in
            let come = before_of flow.offset flow.period n (last + 1) (above i flow e) (omega (arith, early)) in
            subst (λ (y : PeriodicFlow). n < before y.offset y.period (last + 1)) (sym same) come

        behind : (j k : ℕ) (x : ℕ × ℕ) → slice_get l.line j ≡ Some x → slice_get l.line k ≡ Some aim → j ≤ k
        behind j k x e f = elim (cases_lt k j) [
          | inr fits ↦ fits
          | inl after ↦ no (which x) (in_order key_of l.line k j aim x l.order f e after)
        ]
          where
            no : ((x ≡ aim) × (is_aim x ≡ 1)) ⊎ (is_aim x ≡ 0) → key_of aim ≤ key_of x → j ≤ k
            no (inl a) le = (let same = one_place l.line j k aim l.own (e ∙ ap Some a.0) f in omega (arith, same))
            no (inr none) le =
                let one = aim_is in
                let at = late in
                let within : moment_of x ≤ last = omega arith in
                absurd (omega (arith, le, none, one, at, within))
