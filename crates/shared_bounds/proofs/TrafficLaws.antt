-- What is known of the classes.
use Rattle.std.proofs.Common.{◌≡◌, ◌<◌, ◌≤◌, ℕ, zero, suc, ◌+◌, ◌-◌, ◌*◌, ◌/◌, ◌^◌, min, sum_by, List, [], ◌∷◌, length, drop, drop_of_length-le, get_or, slice_get, All, Some, IfSome, inl, inr, map, refl, sym, ap, ◌∙◌, arith, le_refl}
use Rattle.std.proofs.lemmas.List.Sums.{sum_by-cons}
use Rattle.std.proofs.lemmas.Bool.{cases_lt}
use Rattle.std.proofs.lemmas.Option.{slice_get-get_or}
use Rattle.any_traffic.specs.SharedSlots.{slots_of}
use Rattle.any_traffic.specs.SlotCurve.{slot_curve}
use Rattle.any_traffic.specs.Sporadic.{curve_of}
use Rattle.any_traffic.proofs.SlotCurveLaws.{slot_curve_rises}
use Rattle.burst_bounds.specs.Talkers.{curve, flows_of, longest_need, sporadic_of}
use Rattle.burst_bounds.specs.Walk.{talker_at}
use Rattle.burst_bounds.specs.declared.Talker.{Talker}
use Rattle.shared_bounds.specs.Traffic.{IsTraffic, arrivals_of, covered_by, frames_of, needs, start_curves, starts_of}
use Rattle.shared_bounds.specs.Place.{IsPlace, above_of}
use Rattle.shared_bounds.specs.declared.ClassTraffic.{ClassTraffic}
use Rattle.shared_bounds.specs.declared.place.SharedClass.{SharedClass}
use Rattle.burst_bounds.proofs.TalkerLaws.{are_flows, curve_rises}

-- ---- the slot curve, talker by talker

-- where so many of each frame are counted, a limit on the frames changes nothing below it
capped : (w n limit starts : ℕ) → min (starts + w * min n limit) limit ≡ min (starts + w * n) limit
capped zero n limit starts = (let a : 0 * min n limit ≡ 0 = omega arith in let b : 0 * n ≡ 0 = omega arith in omega (arith, a, b))
capped (suc w) n limit starts = elim (cases_lt limit n) [
  | inr few ↦
      let same : min n limit ≡ n = omega (arith, few) in
      ap (λ k. min (starts + suc w * k) limit) same
  | inl many ↦
      let same : min n limit ≡ limit = omega (arith, many) in
      let all : min (starts + suc w * limit) limit ≡ limit = full limit (le_refl limit) in
      let more : min (starts + suc w * n) limit ≡ limit = full n (omega (arith, many)) in
      ap (λ k. min (starts + suc w * k) limit) same ∙ (all ∙ sym more)
]
  where
    full : (k : ℕ) → limit ≤ k → min (starts + suc w * k) limit ≡ limit
    full k le = (let one : suc w * k ≡ k + w * k = grind arith in omega (arith, one, le))

pub slots_is : (need pitch : ℕ) → (need + (pitch - 1)) / pitch ≡ slots_of need pitch
unfolding slots_of
slots_is need pitch = refl

slots_from : (d pitch : ℕ) (ts : List Talker) (n x : ℕ) → n < length ts
    → slot_curve d pitch (flows_of (drop n ts)) x
    ≡ slots_of (min d (talker_at ts n).need) pitch * curve_of x (sporadic_of (talker_at ts n)) + slot_curve d pitch (flows_of (drop (suc n) ts)) x
slots_from d pitch [] n x less = absurd (omega (arith, less))
slots_from d pitch (t ∷ ts) zero x less =
    sum_by-cons (λ flow. slots_of (min d flow.need) pitch * curve_of x flow) (sporadic_of t) (map sporadic_of ts)
slots_from d pitch (t ∷ ts) (suc n) x less = slots_from d pitch ts n x (omega (arith, less))

-- one more, which needs the wire for so long and of which so many come
pub slots_more : (d pitch : ℕ) (ts : List Talker) (n x limit slots each frames next all : ℕ) → n < length ts
    → min (slots + slot_curve d pitch (flows_of (drop n ts)) x) limit ≡ all → each ≡ slots_of (min d (talker_at ts n).need) pitch
    → frames ≡ min (curve_of x (sporadic_of (talker_at ts n))) limit → next ≡ min (slots + each * frames) limit
    → min (next + slot_curve d pitch (flows_of (drop (n + 1) ts)) x) limit ≡ all
slots_more d pitch ts n x limit slots each frames next all less is its come e =
    let more = slots_from d pitch ts n x less in
    let at : slot_curve d pitch (flows_of (drop (n + 1) ts)) x ≡ slot_curve d pitch (flows_of (drop (suc n) ts)) x
    = ap (λ k. slot_curve d pitch (flows_of (drop k ts)) x) (let s : n + 1 ≡ suc n = omega arith in s) in
    let w : ℕ = slots_of (min d (talker_at ts n).need) pitch in
    let count : ℕ = curve_of x (sporadic_of (talker_at ts n)) in
    let same : next ≡ min (slots + w * count) limit = e ∙ (ap (λ k. min (slots + k * frames) limit) its
    ∙ (ap (λ k. min (slots + w * k) limit) come ∙ capped w count limit slots)) in
    omega (arith, more, at, is, same)

pub slots_all : (d pitch : ℕ) (ts : List Talker) (n x limit slots all : ℕ) → length ts ≤ n → slots ≤ limit
    → min (slots + slot_curve d pitch (flows_of (drop n ts)) x) limit ≡ all → slots ≡ all
slots_all d pitch ts n x limit slots all le few is =
    let none : slot_curve d pitch (flows_of (drop n ts)) x ≡ 0 = ap (λ us. slot_curve d pitch (flows_of us) x) (drop_of_length-le ts le) in
    omega (arith, none, few, is)

-- ---- class by class

behind : (t : ClassTraffic) (ts : List ClassTraffic) → All IsTraffic (t ∷ ts) → All IsTraffic ts
behind t ts all = λ k d less. all (suc k) d (omega (arith, less))

-- of each class that is there it is such
pub all_known : (ts : List ClassTraffic) → All IsTraffic ts → (j : ℕ) → IfSome (slice_get ts j) IsTraffic
all_known [] all zero = tt
all_known [] all (suc j) = tt
all_known (t ∷ ts) all zero = all 0 t (omega arith)
all_known (t ∷ ts) all (suc j) = all_known ts (behind t ts all) j

pub needs_short : (ts : List ClassTraffic) → All IsTraffic ts → (j : ℕ) → needs ts j < 2 ^ 60
needs_short [] all zero = omega arith
needs_short [] all (suc j) = omega arith
needs_short (t ∷ ts) all zero = (all 0 t (omega arith)).need
needs_short (t ∷ ts) all (suc j) = needs_short ts (behind t ts all) j

pub none_past : (ts : List ClassTraffic) (j : ℕ) → length ts ≤ j → needs ts j ≡ 0
none_past [] zero le = refl
none_past [] (suc j) le = refl
none_past (t ∷ ts) zero le = absurd (omega (arith, le))
none_past (t ∷ ts) (suc j) le = none_past ts j (omega (arith, le))

-- ---- the starts of the higher classes

pub starts_at : (ts : List ClassTraffic) (pitch j y : ℕ) (d : ClassTraffic) → j < length ts
    → start_curves ts pitch j y ≡ starts_of (Some (get_or ts j d)) pitch y
starts_at [] pitch j y d less = absurd (omega (arith, less))
starts_at (t ∷ ts) pitch zero y d less = refl
starts_at (t ∷ ts) pitch (suc j) y d less = starts_at ts pitch j y d (omega (arith, less))

pub above_more : (f : ℕ → ℕ) (js : List ℕ) (n j limit starts next all : ℕ) → n < length js → get_or js n 0 ≡ j
    → min (starts + sum_by f (drop n js)) limit ≡ all → next ≡ min (starts + min (f j) limit) limit
    → min (next + sum_by f (drop (n + 1) js)) limit ≡ all
above_more f js n j limit starts next all less here is e =
    let more = sum_from js n less in
    let same = ap f here in
    let at : sum_by f (drop (n + 1) js) ≡ sum_by f (drop (suc n) js) = ap (λ k. sum_by f (drop k js))
    (let s : n + 1 ≡ suc n = omega arith in s) in
    omega (arith, more, same, at, is, e)
  where
    sum_from : (xs : List ℕ) (k : ℕ) → k < length xs → sum_by f (drop k xs) ≡ f (get_or xs k 0) + sum_by f (drop (suc k) xs)
    sum_from [] k less = absurd (omega (arith, less))
    sum_from (x ∷ xs) zero less = sum_by-cons f x xs
    sum_from (x ∷ xs) (suc k) less = sum_from xs k (omega (arith, less))

pub above_all : (f : ℕ → ℕ) (js : List ℕ) (n limit starts all : ℕ) → length js ≤ n → starts ≤ limit
    → min (starts + sum_by f (drop n js)) limit ≡ all → starts ≡ all
above_all f js n limit starts all le few is =
    let none : sum_by f (drop n js) ≡ 0 = ap (sum_by f) (drop_of_length-le js le) in
    omega (arith, none, few, is)

-- ---- they rise with the time

pub slots_go_up : (t : ClassTraffic) → IsTraffic t → (pitch x y : ℕ) → x ≤ y
    → slot_curve t.need pitch (flows_of t.talkers.now) x ≤ slot_curve t.need pitch (flows_of t.talkers.now) y
slots_go_up t is pitch x y le =
    slot_curve_rises t.need pitch (flows_of t.talkers.now)
    (λ i flow e. (are_flows (longest_need t.talkers.now) t.talkers.now is.talkers (le_refl (longest_need t.talkers.now)) i flow e).0) x y le

start_rises : (ts : List ClassTraffic) → All IsTraffic ts → (pitch j x y : ℕ) → x ≤ y → start_curves ts pitch j x ≤ start_curves ts pitch j y
start_rises [] all pitch zero x y le = omega arith
start_rises [] all pitch (suc j) x y le = omega arith
start_rises (t ∷ ts) all pitch zero x y le =
    let is = all 0 t (omega arith) in
    let one = slots_go_up t is pitch x y le in
    let two = slots_go_up t is pitch (x + t.bounds.wait) (y + t.bounds.wait) (omega (arith, le)) in
    omega (arith, one, two)
start_rises (t ∷ ts) all pitch (suc j) x y le = start_rises ts (behind t ts all) pitch j x y le

sum_rises : (f : ℕ → ℕ → ℕ) (x y : ℕ) → ((j : ℕ) → f j x ≤ f j y) → (js : List ℕ) → sum_by (λ j. f j x) js ≤ sum_by (λ j. f j y) js
sum_rises f x y each [] = omega arith
sum_rises f x y each (j ∷ js) =
    let here = each j in
    let rest = sum_rises f x y each js in
    let a = sum_by-cons (λ i. f i x) j js in
    let b = sum_by-cons (λ i. f i y) j js in
    omega (arith, here, rest, a, b)

pub above_rises : (c : SharedClass) → IsPlace c → (x y : ℕ) → x ≤ y → above_of c x ≤ above_of c y
above_rises c place x y le = sum_rises (λ j z. start_curves c.traffic.now c.pitch j z) x y
    (λ j. start_rises c.traffic.now place.traffic c.pitch j x y le) c.higher.now

pub covered_rises : (ts : List ClassTraffic) → All IsTraffic ts → (pitch j x y : ℕ) → x ≤ y → covered_by ts pitch j x ≤ covered_by ts pitch j y
covered_rises [] all pitch zero x y le = omega arith
covered_rises [] all pitch (suc j) x y le = omega arith
covered_rises (t ∷ ts) all pitch zero x y le = slots_go_up t (all 0 t (omega arith)) pitch x y le
covered_rises (t ∷ ts) all pitch (suc j) x y le = covered_rises ts (behind t ts all) pitch j x y le

-- ---- the frames of a class

pub arrivals_rise : (ts : List ClassTraffic) → All IsTraffic ts → (j x y : ℕ) → x ≤ y → arrivals_of ts j x ≤ arrivals_of ts j y
arrivals_rise [] all zero x y le = omega arith
arrivals_rise [] all (suc j) x y le = omega arith
arrivals_rise (t ∷ ts) all zero x y le = curve_rises t.talkers.now (all 0 t (omega arith)).talkers x y le
arrivals_rise (t ∷ ts) all (suc j) x y le = arrivals_rise ts (behind t ts all) j x y le

pub arrivals_at : (ts : List ClassTraffic) (j : ℕ) (d : ClassTraffic) → j < length ts → arrivals_of ts j ≡ curve (get_or ts j d).talkers.now
arrivals_at ts j d less = ap (λ o x. frames_of o x) (slice_get-get_or ts j d less)

no_talkers : (talkers : List Talker) (x : ℕ) → length talkers ≤ 0 → curve talkers x ≡ 0
no_talkers [] x le = refl
no_talkers (t ∷ talkers) x le = absurd (omega (arith, le))

pub some_talkers : (ts : List ClassTraffic) (j : ℕ) (d : ClassTraffic) → j < length ts → 0 < arrivals_of ts j 0
    → 0 < length (get_or ts j d).talkers.now
some_talkers ts j d less some = elim (cases_lt 0 (length (get_or ts j d).talkers.now)) [
  | inl is ↦ is
  | inr none ↦
      let empty = no_talkers (get_or ts j d).talkers.now 0 none in
      let at = ap (λ f. f 0) (arrivals_at ts j d less) in
      absurd (omega (arith, some, empty, at))
]
