-- How long a class stays open, by the entries that a schedule shows.
use Rattle.std.proofs.Common.{◌≡◌, ◌<◌, ◌≤◌, ℕ, zero, suc, ◌+◌, ◌-◌, ◌*◌, ◌/◌, ◌%◌, ◌&&◌, max, Bool, true, false, not, List, length, slice_get, All, Some, ◌⊎◌, inl, inr, refl, sym, ap, ◌∙◌, subst, arith, mod-lt, mod-eq_of_lt, le_refl}
use Rattle.std.proofs.Math.Nat.{div-add-mod, add-mod_left, le-div_iff_mul-le, mul-add-mod_self_left}
use Rattle.std.proofs.lemmas.Bool.{both_ways, cases_lt, leb-true, le-leb}
use Rattle.std.proofs.lemmas.Option.{slice_get_within, get_or_from_slice_get}
use Rattle.std.proofs.lemmas.List.Elements.{All-get_or}
use Rattle.schedule_check.specs.Words.{occupancy_of, Entry, Stay, Lasts, Always, Plan, IsShownAt, in_ps, prefix, mask_at, opens, open_while, stay_lasts, alone, IsLengthened, IsLongestOpen, IsOpenStay}
use Rattle.gates.specs.Stay.{TellsOpenTime}
use Rattle.gates.proofs.OpenLaws.{open_at, open_from, open_within, shift_while}
use Rattle.gates.proofs.PhaseLaws.{phase_is}
use Rattle.gates.proofs.RowLaws.{prefix_next}
use Rattle.gates.proofs.TableLaws.{opens_none}
use Rattle.schedule_check.specs.Windows.{CanStart}

-- from some moment on a class is open for as long as a stay
abbrev pub Reaches : (ℕ → ℕ) → ℕ → Stay → Type 0
Reaches mask class (Lasts d) = (x : ℕ) × (open_while mask class x d ≡ true)
Reaches mask class Always = (x d : ℕ) → open_while mask class x d ≡ true

-- from no moment on at which one of the first entries is shown is a class open for longer than a stay
abbrev pub Bounds : Plan → ℕ → ℕ → Stay → Type 0
Bounds plan class n longest =
    (x e i : ℕ) → i < n → IsShownAt plan.entries (x % in_ps plan.cycle) i → open_while (alone plan) class x e ≡ true → stay_lasts longest e ≡ true

pub lasts_none : (s : Stay) → stay_lasts s 0 ≡ true
lasts_none Always = refl
lasts_none (Lasts t) = le-leb 0 t (omega arith)

pub reaches_none : (mask : ℕ → ℕ) (class : ℕ) → Reaches mask class (Lasts 0)
unfolding open_while
reaches_none mask class = (0, refl)

pub bounds_none : (plan : Plan) (class : ℕ) (longest : Stay) → Bounds plan class 0 longest
bounds_none plan class longest x e i less shown o = absurd (omega arith)

pub reaches_either : (mask : ℕ → ℕ) (class : ℕ) (one other longest : Stay) → (longest ≡ one) ⊎ (longest ≡ other) → Reaches mask class one → Reaches mask class other → Reaches mask class longest
reaches_either mask class one other longest (inl e) a b = subst (Reaches mask class) (sym e) a
reaches_either mask class one other longest (inr e) a b = subst (Reaches mask class) (sym e) b

-- ---- one entry

shorter : (s : Stay) (x e : ℕ) → stay_lasts s (x + e) ≡ true → stay_lasts s e ≡ true
shorter Always x e l = refl
shorter (Lasts t) x e l = let m = leb-true (x + e) t l in le-leb e t (omega arith)

-- an entry lasts for some time
is_timed : (es : List Entry) (i : ℕ) (entry : Entry) → slice_get es i ≡ Some entry → All (λ (e : Entry). 0 < e.interval) es → 0 < entry.interval
is_timed es i entry is timed =
    let within = slice_get_within es i entry is in
    subst (λ (e : Entry). 0 < e.interval) (get_or_from_slice_get es i entry entry is) (All-get_or (λ (e : Entry). 0 < e.interval) es i entry within timed)

module _ (plan : Plan) (class i : ℕ) (told : Stay) (above : 0 < plan.cycle) (tells : TellsOpenTime plan i class told) where
  -- what is open from a moment on at which the entry is shown
  pub shown_lasts : (x e : ℕ) → IsShownAt plan.entries (x % in_ps plan.cycle) i → open_while (alone plan) class x e ≡ true → stay_lasts told e ≡ true
  shown_lasts x zero shown o = lasts_none told
  shown_lasts x (suc e) shown o =
      let cycle : ℕ = in_ps plan.cycle in
      let some : 0 < cycle = omega arith in
      let p : ℕ = x % cycle in
      let begun = shown.begun in
      let inside : p < cycle = mod-lt x some in
      let at : prefix plan.entries i + (p - prefix plan.entries i) ≡ p = omega arith in
      let whole : cycle * (x / cycle) + p ≡ x = div-add-mod x cycle in
      let moment : 0 + cycle * (x / cycle) + (prefix plan.entries i + (p - prefix plan.entries i)) ≡ x = omega arith in
      let law = tells 0 (x / cycle) (p - prefix plan.entries i) (suc e) (omega arith) (subst (λ q. IsShownAt plan.entries q i) (sym at) shown) (omega arith) in
      shorter told (p - prefix plan.entries i) (suc e) (sym law ∙ (ap (λ n. open_while (alone plan) class n (suc e)) moment ∙ o))

  pub bounds_more : (longest next : Stay) → Bounds plan class i longest
      → ((d : ℕ) → stay_lasts longest d ≡ true → stay_lasts next d ≡ true) → ((d : ℕ) → stay_lasts told d ≡ true → stay_lasts next d ≡ true)
      → Bounds plan class (i + 1) next
  bounds_more longest next so_far first second x e j less shown o =
      elim (cases_lt j i) [
        | inl before ↦ first e (so_far x e j before shown o)
        | inr here ↦ second e (shown_lasts x e (subst (λ k. IsShownAt plan.entries (x % in_ps plan.cycle) k) (let same : j ≡ i = omega arith in same) shown) o)
      ]

  -- the entry is shown where it begins
  module _ (entry : Entry) (is_entry : slice_get plan.entries i ≡ Some entry) (timed : All (λ e. 0 < e.interval) plan.entries) where
    begins : IsShownAt plan.entries (prefix plan.entries i + 0) i
    begins =
        let next = prefix_next plan.entries i entry is_entry in
        let within = slice_get_within plan.entries i entry is_entry in
        let long = is_timed plan.entries i entry is_entry timed in
        record { within = within; begun = omega arith; before_next = λ more. omega arith }

    from_start : prefix plan.entries i < in_ps plan.cycle → (d : ℕ) → 0 < d → stay_lasts told d ≡ true → open_while (alone plan) class (prefix plan.entries i) d ≡ true
    from_start soon d some lasts =
        let cycle : ℕ = in_ps plan.cycle in
        let law = tells 0 0 0 d (omega arith) begins some in
        let moment : prefix plan.entries i ≡ 0 + cycle * 0 + (prefix plan.entries i + 0) = omega arith in
        let same : 0 + d ≡ d = omega arith in
        ap (λ n. open_while (alone plan) class n d) moment ∙ (law ∙ (ap (stay_lasts told) same ∙ lasts))

-- what is open one cycle later is open now
pub cycle_earlier : (plan : Plan) (class x d : ℕ) → open_while (alone plan) class (in_ps plan.cycle + x) d ≡ true → open_while (alone plan) class x d ≡ true
cycle_earlier plan class x d o =
    let cycle : ℕ = in_ps plan.cycle in
    shift_while (alone plan) (alone plan) class x (cycle + x) d
    (λ n less.
    let now : x + n - 0 ≡ x + n = omega arith in
    let later : cycle + x + n - 0 ≡ cycle + (x + n) = omega arith in
    ap (λ p. mask_at plan.entries (p % cycle)) now ∙ (sym (ap (mask_at plan.entries) (add-mod_left cycle (x + n))) ∙ sym (ap (λ p. mask_at plan.entries (p % cycle)) later)))
    ∙ o

module _ (plan : Plan) (class i : ℕ) (above : 0 < plan.cycle) (entry : Entry) (is_entry : slice_get plan.entries i ≡ Some entry) (timed : All (λ e. 0 < e.interval) plan.entries) where
  shown_reaches : (told : Stay) → TellsOpenTime plan i class told → prefix plan.entries i < in_ps plan.cycle → Reaches (alone plan) class told
  shown_reaches (Lasts zero) tells soon = reaches_none (alone plan) class
  shown_reaches (Lasts (suc d)) tells soon =
      (prefix plan.entries i, from_start plan class i (Lasts (suc d)) above tells entry is_entry timed soon (suc d) (omega arith) (le-leb (suc d) (suc d) (le_refl (suc d))))
  shown_reaches Always tells soon = λ x d.
      let start : ℕ = prefix plan.entries i in
      let cycle : ℕ = in_ps plan.cycle in
      let long : ℕ = cycle + x + d + 1 in
      let all = from_start plan class i Always above tells entry is_entry timed soon long (omega arith) refl in
      cycle_earlier plan class x d (open_within (alone plan) class start long (cycle + x) d all (omega arith) (omega arith))

  pub row_reaches : (told : Stay) → TellsOpenTime plan i class told → (in_ps plan.cycle ≤ prefix plan.entries i → told ≡ Lasts 0) → Reaches (alone plan) class told
  row_reaches told tells unseen =
      elim (cases_lt (prefix plan.entries i) (in_ps plan.cycle)) [
        | inl soon ↦ shown_reaches told tells soon
        | inr late ↦ subst (Reaches (alone plan) class) (sym (unseen late)) (reaches_none (alone plan) class)
      ]

-- ---- an entry at which no stay is looked at

-- the mask at a moment at which an entry is shown
shown_mask : (plan : Plan) (i x : ℕ) (entry : Entry) → slice_get plan.entries i ≡ Some entry → IsShownAt plan.entries (x % in_ps plan.cycle) i → alone plan x ≡ entry.mask
shown_mask plan i x entry is shown =
    ap (λ n. mask_at plan.entries (n % in_ps plan.cycle)) (let same : x - 0 ≡ x = omega arith in same) ∙ (phase_is plan.entries).mask (x % in_ps plan.cycle) i entry shown is

-- one that closes the class
bounds_closed : (plan : Plan) (class i : ℕ) (entry : Entry) (longest : Stay) → slice_get plan.entries i ≡ Some entry → opens entry.mask class ≡ false
    → Bounds plan class i longest → Bounds plan class (i + 1) longest
bounds_closed plan class i entry longest is shut so_far x zero j less shown o = lasts_none longest
bounds_closed plan class i entry longest is shut so_far x (suc e) j less shown o =
    elim (cases_lt j i) [
      | inl before ↦ so_far x (suc e) j before shown o
      | inr here ↦
          let at = subst (λ k. IsShownAt plan.entries (x % in_ps plan.cycle) k) (let same : j ≡ i = omega arith in same) shown in
          let now = open_at (alone plan) class x (suc e) o x (le_refl x) (omega arith) in
          absurd (both_ways _ shut (subst (λ m. opens m class ≡ true) (shown_mask plan i x entry is at) now))
    ]

-- one after an entry that opens the class: what is open from a moment in it on is open from the last moment of the entry before
module _ (plan : Plan) (class i : ℕ) (entry before : Entry) (longest : Stay) (above : 0 < plan.cycle) (timed : All (λ e. 0 < e.interval) plan.entries) (is : slice_get plan.entries (i + 1) ≡ Some entry) (was : slice_get plan.entries i ≡ Some before) (opened : opens before.mask class ≡ true) where
  joined : (x e : ℕ) → IsShownAt plan.entries (x % in_ps plan.cycle) (i + 1) → open_while (alone plan) class x (suc e) ≡ true → Bounds plan class (i + 1) longest → stay_lasts longest (suc e) ≡ true
  joined x e shown o so_far =
      let cycle : ℕ = in_ps plan.cycle in
      let some : 0 < cycle = omega arith in
      let p : ℕ = x % cycle in
      let inside : p < cycle = mod-lt x some in
      let begun = shown.begun in
      let next = prefix_next plan.entries i before was in
      let within = slice_get_within plan.entries i before was in
      let long = is_timed plan.entries i before was timed in
      let q : ℕ = prefix plan.entries (i + 1) - 1 in
      let low : q < p = omega arith in
      let whole : cycle * (x / cycle) + p ≡ x = div-add-mod x cycle in
      let y : ℕ = cycle * (x / cycle) + q in
      let phase : y % cycle ≡ q = mul-add-mod_self_left cycle (x / cycle) q ∙ mod-eq_of_lt (let l : q < cycle = omega arith in l) in
      let there : IsShownAt plan.entries q i = record { within = within; begun = omega arith; before_next = λ more. omega arith } in
      let at = subst (λ n. IsShownAt plan.entries n i) (sym phase) there in
      let here = subst (λ m. opens m class ≡ true) (shown_mask plan (i + 1) x entry is shown) (open_at (alone plan) class x (suc e) o x (le_refl x) (omega arith)) in
      let between : (r : ℕ) → q < r → r ≤ p → opens (alone plan (cycle * (x / cycle) + r)) class ≡ true = λ r after most.
      let same : (cycle * (x / cycle) + r) % cycle ≡ r = mul-add-mod_self_left cycle (x / cycle) r ∙ mod-eq_of_lt (let l : r < cycle = omega arith in l) in
      let shows : IsShownAt plan.entries r (i + 1) = record { within = shown.within; begun = omega arith; before_next = λ more. let l = shown.before_next more in omega arith } in
      subst (λ m. opens m class ≡ true) (sym (shown_mask plan (i + 1) (cycle * (x / cycle) + r) entry is (subst (λ n. IsShownAt plan.entries n (i + 1)) (sym same) shows))) here in
      let all = open_from (alone plan) class y (p - q + suc e) (λ n from below.
      elim (cases_lt n x) [
        | inl early ↦ elim (cases_lt y n) [
          | inl after ↦
              let r : ℕ = n - cycle * (x / cycle) in
              subst (λ m. opens (alone plan m) class ≡ true) (let e : cycle * (x / cycle) + r ≡ n = omega arith in e) (between r (omega arith) (omega arith))
          | inr first ↦
              subst (λ m. opens (alone plan m) class ≡ true) (let e : y ≡ n = omega arith in e)
              (subst (λ m. opens m class ≡ true) (sym (shown_mask plan i y before was at)) opened)
        ]
        | inr late ↦ open_at (alone plan) class x (suc e) o n late (omega arith)
      ]) in
      shorter longest (p - q) (suc e) (so_far y (p - q + suc e) i (omega arith) at all)

  bounds_joined : Bounds plan class (i + 1) longest → Bounds plan class (i + 1 + 1) longest
  bounds_joined so_far x zero j less shown o = lasts_none longest
  bounds_joined so_far x (suc e) j less shown o =
      elim (cases_lt j (i + 1)) [
        | inl before ↦ so_far x (suc e) j before shown o
        | inr here ↦ joined x e (subst (λ k. IsShownAt plan.entries (x % in_ps plan.cycle) k) (let same : j ≡ i + 1 = omega arith in same) shown) o so_far
      ]

-- ---- an entry, whose stay is looked at where it opens a class that the one before it closes

-- the mask of the entry before, and 0 before the first
abbrev pub IsMaskBefore : Plan → ℕ → ℕ → Type 0
IsMaskBefore plan zero mask = mask ≡ 0
IsMaskBefore plan (suc i) mask = (before : Entry) × (slice_get plan.entries i ≡ Some before) × (before.mask ≡ mask)

pub mask_before : (plan : Plan) (i : ℕ) (entry : Entry) → slice_get plan.entries i ≡ Some entry → IsMaskBefore plan (i + 1) entry.mask
mask_before plan i entry is = subst (λ n. IsMaskBefore plan n entry.mask) (let e : suc i ≡ i + 1 = omega arith in e) (entry, is, refl)

module _ (plan : Plan) (class mask : ℕ) (entry : Entry) (above : 0 < plan.cycle) (timed : All (λ e. 0 < e.interval) plan.entries) where
  still_open : (i : ℕ) (longest : Stay) → slice_get plan.entries i ≡ Some entry → IsMaskBefore plan i mask → opens mask class ≡ true → Bounds plan class i longest → Bounds plan class (i + 1) longest
  still_open zero longest is none opened so_far = absurd (both_ways _ (opens_none class) (subst (λ m. opens m class ≡ true) none opened))
  still_open (suc i) longest is before opened so_far =
      let e : i + 1 ≡ suc i = omega arith in
      subst (λ n. Bounds plan class (n + 1) longest) e
      (bounds_joined plan class i entry before.0 longest above timed (subst (λ n. slice_get plan.entries n ≡ Some entry) (sym e) is) before.1 (subst (λ m. opens m class ≡ true) (sym before.2) opened)
      (subst (λ n. Bounds plan class n longest) (sym e) so_far))

  pub bounds_next : (i : ℕ) (old new : Stay) → slice_get plan.entries i ≡ Some entry → IsMaskBefore plan i mask
      → IsLengthened plan i (opens entry.mask class && not (opens mask class)) class old new → Bounds plan class i old → Bounds plan class (i + 1) new
  bounds_next i old new is before = by (opens entry.mask class) refl (opens mask class) refl
    where
      by : (here : Bool) → opens entry.mask class ≡ here → (there : Bool) → opens mask class ≡ there → IsLengthened plan i (here && not there) class old new → Bounds plan class i old → Bounds plan class (i + 1) new
      by false shut there e kept so_far = subst (Bounds plan class (i + 1)) (sym kept) (bounds_closed plan class i entry old is shut so_far)
      by true opened false e told so_far = bounds_more plan class i told.0 above told.1 old new so_far told.3.first told.3.second
      by true opened true e kept so_far = subst (Bounds plan class (i + 1)) (sym kept) (still_open i old is before e so_far)

  pub reaches_next : (i : ℕ) (asked : Bool) (old new : Stay) → slice_get plan.entries i ≡ Some entry → IsLengthened plan i asked class old new → Reaches (alone plan) class old → Reaches (alone plan) class new
  reaches_next i true old new is told reaches =
      reaches_either (alone plan) class old told.0 new told.3.either reaches (row_reaches plan class i above entry is timed told.0 told.1 told.2)
  reaches_next i false old new is kept reaches = subst (Reaches (alone plan) class) (sym kept) reaches

-- ---- all entries

pub open_stay : (plan : Plan) (class n : ℕ) (longest : Stay) → 0 < plan.cycle → 0 < length plan.entries → length plan.entries ≤ n
    → Reaches (alone plan) class longest → Bounds plan class n longest → IsOpenStay (alone plan) class longest
open_stay plan class n Always above some all reaches bounds = reaches
open_stay plan class n (Lasts d) above some all reaches bounds = record {
  reached = reaches;
  most = λ x e o.
      let found = (phase_is plan.entries).found (x % in_ps plan.cycle) some in
      let within = found.1.within in
      leb-true e d (bounds x e found.0 (omega arith) found.1 o);
}

-- ---- frames

module _ (ps lasts : ℕ) (above : 0 < ps) where
  pub frame_fits : (len : ℕ) → 84 ≤ lasts / ps → len ≤ lasts / ps - 24 → occupancy_of ps len ≤ lasts
  frame_fits len some few = (le-div_iff_mul-le above).0 (let least : max len 60 + 24 ≤ lasts / ps = omega arith in least)

  pub fits_few : (len : ℕ) → occupancy_of ps len ≤ lasts → max len 60 + 24 ≤ lasts / ps
  fits_few len fits = (le-div_iff_mul-le above).1 fits

-- a frame that takes no longer than the longest open time can start
pub can_start : (ps : ℕ) (mask : ℕ → ℕ) (class d len : ℕ) → IsLongestOpen mask class d → occupancy_of ps len ≤ d → CanStart ps mask class len
can_start ps mask class d len longest fits =
    (longest.reached.0, open_within mask class longest.reached.0 d longest.reached.0 (occupancy_of ps len) longest.reached.1 (le_refl _) (omega arith))
