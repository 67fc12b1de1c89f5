-- A schedule that opens all gates for 600 us of each ms, and none for the rest. The classes 5, 6 and 7 are judged; a frame of each of the eight
-- comes.
use Rattle.std.proofs.Common.{◌≡◌, ◌<◌, ◌≤◌, ◌⊎◌, inl, inr, ℕ, zero, suc, ◌+◌, ◌-◌, ◌*◌, ◌/◌, ◌%◌, Bool, true, false, cond, ◌&&◌, not, eqb, leb, ltb, List, [], ◌∷◌, All, slice_get, Some, None, refl, sym, ap, ◌∙◌, subst, arith, le_refl}
use Rattle.std.proofs.lemmas.Bool.{and_parts, both_ways, cases_Bool, cases_lt, false≢true, leb-true, ltb-true}
use Rattle.std.proofs.lemmas.List.Sums.{sum_by-cons}
use Rattle.std.proofs.lemmas.Option.{same_Some}
use Rattle.wire_time.specs.Wire.{occupancy_of, sdu_of}
use Rattle.wire_time.specs.declared.Frame.{Frame}
use Rattle.gates.specs.Gate.{Plan, mask_since, opens}
use Rattle.gates.proofs.OpenLaws.{open_at, open_from}
use Rattle.abstract_port.specs.AbstractPort.{AbstractPort, class_for, limit_of, plan_asked}
use Rattle.abstract_port.specs.declared.Change.{Change}
use Rattle.abstract_port.specs.Traffic.{Came}
use Rattle.delay_bounds.specs.Walk.{may_by}
use Rattle.any_traffic.specs.ArrivalCurve.{ConformTo}
use Rattle.any_traffic.specs.SharedBounds.{slots_above}
use Rattle.any_traffic.specs.SharedSlots.{IsBlocking, slots_of}
use Rattle.any_traffic.specs.SlotCurve.{CoverUpTo, slot_curve, slots_for}
use Rattle.any_traffic.specs.StartCurve.{start_curve}
use Rattle.any_traffic.proofs.ListLaws.{none_here}
use Rattle.burst_bounds.specs.Talkers.{IsTalker, curve, flows_of}
use Rattle.burst_bounds.specs.declared.Bounds.{Bounds}
use Rattle.burst_bounds.specs.declared.Talker.{Talker}
use Rattle.shared_bounds.specs.Blocking.{blocking}
use Rattle.shared_bounds.specs.Least.{AreLeastOf, AreNoMoreBy, HoldBy, IsLeastBlocking}
use Rattle.shared_bounds.specs.Sharing.{AreHigher, IsPitch, Share}
use Rattle.shared_bounds.specs.Traffic.{IsTraffic, arrivals_of, covered_by, covered_of, need_of, needs, start_curves}
use Rattle.shared_bounds.specs.declared.ClassTraffic.{ClassTraffic}
use Rattle.shared_bounds.proofs.RunLaws.{blocking_law}
use Rattle.shared_bounds.proofs.TrafficLaws.{none_past}
use Rattle.claims.specs.Runs.{IsTaken, in_force_from, scheduled}
use Rattle.claims.specs.SharedClaim.{AreJudged}
use Rattle.claims.specs.SharedPremises.{CanShare, ComeWithin, PremisesAreMet, frames_to}
use Rattle.claims.proofs.WindowBounds.{busy, window_least}

-- ---- the schedule

abbrev change : Change
change = record {
  map = Some (record { num_tc = 8; classes = 0 ∷ 1 ∷ 2 ∷ 3 ∷ 4 ∷ 5 ∷ 6 ∷ 7 ∷ 0 ∷ 0 ∷ 0 ∷ 0 ∷ 0 ∷ 0 ∷ 0 ∷ 0 ∷ [] });
  queues = None;
  max_sdu = None;
  list = (record { mask = 255; interval = 600000 }) ∷ (record { mask = 0; interval = 400000 }) ∷ [];
  base_ns = 0;
  cycle_ns = 0;
  extension_ns = 0;
}

abbrev plan : Plan
plan = plan_asked change

-- a port of 1 Gb/s behind the command
abbrev base : AbstractPort
base = scheduled 8000 1500 8 change

open_now : (j n : ℕ) → opens 255 j ≡ true → n % 1000000000 < 600000000 → opens (mask_since (Some plan) 0 None n) j ≡ true
open_now j n all within =
    let early : ltb ((n - 0) % 1000000000) 600000000 ≡ true = grind (arith, within) in
    ap (λ b. opens (cond b 255 0) j) early ∙ all

shut_now : (j n : ℕ) → opens 0 j ≡ false → 600000000 ≤ n % 1000000000 → opens (mask_since (Some plan) 0 None n) j ≡ false
shut_now j n no_gate past =
    let after : ltb ((n - 0) % 1000000000) 600000000 ≡ false = grind (arith, past) in
    ap (λ b. opens (cond b 255 0) j) after ∙ no_gate

opened_by : (j m d : ℕ) → opens 255 j ≡ true → m % 1000000000 + d ≤ 600000000 → may_by plan j m d ≡ true
opened_by j m d all within = open_from _ j m d (λ n from below. open_now j n all (omega (arith, from, below, within)))

shut_by : (j m d : ℕ) → opens 0 j ≡ false → 0 < d → 600000000 < m % 1000000000 + d → may_by plan j m d ≡ false
shut_by j m d no_gate some over = elim (cases_Bool (may_by plan j m d)) [
  | inr is ↦ is
  | inl is ↦ absurd (elim (cases_lt (m % 1000000000) 600000000) [
    | inl within ↦
        let n : ℕ = m + (600000000 - m % 1000000000) in
        both_ways _ (shut_now j n no_gate (omega (arith, within))) (open_at _ j m d is n (omega arith) (omega (arith, over, within)))
    | inr past ↦ both_ways _ (shut_now j m no_gate past) (open_at _ j m d is m (le_refl m) (omega (arith, some)))
  ])
]

all_open : (j : ℕ) → j < 8 → opens 255 j ≡ true
all_open zero less = refl
all_open (suc zero) less = refl
all_open (suc (suc zero)) less = refl
all_open (suc (suc (suc zero))) less = refl
all_open (suc (suc (suc (suc zero)))) less = refl
all_open (suc (suc (suc (suc (suc zero))))) less = refl
all_open (suc (suc (suc (suc (suc (suc zero)))))) less = refl
all_open (suc (suc (suc (suc (suc (suc (suc zero))))))) less = refl
all_open (suc (suc (suc (suc (suc (suc (suc (suc j)))))))) less = absurd (omega (arith, less))

all_shut : (j : ℕ) → j < 8 → opens 0 j ≡ false
all_shut zero less = refl
all_shut (suc zero) less = refl
all_shut (suc (suc zero)) less = refl
all_shut (suc (suc (suc zero))) less = refl
all_shut (suc (suc (suc (suc zero)))) less = refl
all_shut (suc (suc (suc (suc (suc zero))))) less = refl
all_shut (suc (suc (suc (suc (suc (suc zero)))))) less = refl
all_shut (suc (suc (suc (suc (suc (suc (suc zero))))))) less = refl
all_shut (suc (suc (suc (suc (suc (suc (suc (suc j)))))))) less = absurd (omega (arith, less))

opened : (j : ℕ) → j < 8 → (m d : ℕ) → m % 1000000000 + d ≤ 600000000 → may_by plan j m d ≡ true
opened j less m d within = opened_by j m d (all_open j less) within

shut : (j : ℕ) → j < 8 → (m d : ℕ) → 0 < d → 600000000 < m % 1000000000 + d → may_by plan j m d ≡ false
shut j less m d some over = shut_by j m d (all_shut j less) some over

share : (i j : ℕ) → i < 8 → j < 8 → Share plan i j
share i j less listed = (0, opened i less 0 1 (omega arith), opened j listed 0 1 (omega arith))

-- ---- what is known of the classes: frames of 118 octets from one talker a class that is judged, and of 1518 from others

abbrev judged : ℕ → Bool
judged j = leb 5 j && ltb j 8

abbrev silent : ℕ → Bool
silent j = false

abbrev short_need : ℕ
short_need = 1136000

abbrev long_need : ℕ
long_need = 12336000

abbrev talkers : List Talker
talkers = (record { need = 1136000; period = 1000000000; jitter = 0 }) ∷ []

abbrev bounds : ℕ → Bounds
bounds j = record { wait = 413471998 + (7 - j) * 1136000; most = 1 }

abbrev entry : ℕ → ℕ → ClassTraffic
entry class j = record {
  need = cond (leb class j) 1136000 12336000;
  talkers = record { ref_ptr = (0, 0); now = cond (leb 5 j) talkers [] };
  bounds = bounds j;
}

abbrev traffic : ℕ → List ClassTraffic
traffic class =
    entry class 0 ∷ entry class 1 ∷ entry class 2 ∷ entry class 3 ∷ entry class 4 ∷ entry class 5 ∷ entry class 6 ∷ entry class 7 ∷ []

at : (class j : ℕ) → j < 8 → slice_get (traffic class) j ≡ Some (entry class j)
at class zero less = refl
at class (suc zero) less = refl
at class (suc (suc zero)) less = refl
at class (suc (suc (suc zero))) less = refl
at class (suc (suc (suc (suc zero)))) less = refl
at class (suc (suc (suc (suc (suc zero))))) less = refl
at class (suc (suc (suc (suc (suc (suc zero)))))) less = refl
at class (suc (suc (suc (suc (suc (suc (suc zero))))))) less = refl
at class (suc (suc (suc (suc (suc (suc (suc (suc j)))))))) less = absurd (omega (arith, less))

is_judged : (j : ℕ) → judged j ≡ true → (5 ≤ j) × (j < 8)
is_judged j e = (let parts = and_parts (leb 5 j) (ltb j 8) e in (leb-true 5 j parts.0, ltb-true j 8 parts.1))

each_judged : (P : ℕ → Type 0) → P 5 → P 6 → P 7 → (j : ℕ) → judged j ≡ true → P j
each_judged P a b c zero e = absurd (false≢true e)
each_judged P a b c (suc zero) e = absurd (false≢true e)
each_judged P a b c (suc (suc zero)) e = absurd (false≢true e)
each_judged P a b c (suc (suc (suc zero))) e = absurd (false≢true e)
each_judged P a b c (suc (suc (suc (suc zero)))) e = absurd (false≢true e)
each_judged P a b c (suc (suc (suc (suc (suc zero))))) e = a
each_judged P a b c (suc (suc (suc (suc (suc (suc zero)))))) e = b
each_judged P a b c (suc (suc (suc (suc (suc (suc (suc zero))))))) e = c
each_judged P a b c (suc (suc (suc (suc (suc (suc (suc (suc j)))))))) e =
    (let listed = (is_judged (suc (suc (suc (suc (suc (suc (suc (suc j)))))))) e).1 in absurd (omega (arith, listed)))

-- ---- needs

need_or : (b : Bool) → (0 < cond b 1136000 12336000) × (cond b 1136000 12336000 ≤ 12336000) × (1136000 ≤ cond b 1136000 12336000)
need_or true = (omega arith, omega arith, omega arith)
need_or false = (omega arith, omega arith, omega arith)

need_is : (class j : ℕ) → j < 8 → needs (traffic class) j ≡ cond (leb class j) 1136000 12336000
need_is class j less = ap need_of (at class j less)

need_most : (class j : ℕ) → needs (traffic class) j ≤ 12336000
need_most class j = elim (cases_lt j 8) [
  | inl less ↦ (let is = need_is class j less in let most = (need_or (leb class j)).1 in omega (arith, is, most))
  | inr past ↦ (let none = none_past (traffic class) j past in omega (arith, none))
]

-- ---- what is known is such

are_talkers : All IsTalker talkers
are_talkers zero d less = record { some = omega arith; need = omega arith; above = omega arith; period = omega arith; jitter = omega arith }
are_talkers (suc k) d less = absurd (omega (arith, less))

talkers_or : (b : Bool) → All IsTalker (cond b talkers [])
talkers_or true = are_talkers
talkers_or false = λ k d less. absurd (omega (arith, less))

is_traffic : (class j : ℕ) → IsTraffic (entry class j)
is_traffic class j = record {
  talkers = talkers_or (leb 5 j);
  need = (let most = (need_or (leb class j)).1 in omega (arith, most));
  wait = omega arith;
}

are_traffic : (class : ℕ) → All IsTraffic (traffic class)
are_traffic class zero d less = is_traffic class 0
are_traffic class (suc zero) d less = is_traffic class 1
are_traffic class (suc (suc zero)) d less = is_traffic class 2
are_traffic class (suc (suc (suc zero))) d less = is_traffic class 3
are_traffic class (suc (suc (suc (suc zero)))) d less = is_traffic class 4
are_traffic class (suc (suc (suc (suc (suc zero))))) d less = is_traffic class 5
are_traffic class (suc (suc (suc (suc (suc (suc zero)))))) d less = is_traffic class 6
are_traffic class (suc (suc (suc (suc (suc (suc (suc zero))))))) d less = is_traffic class 7
are_traffic class (suc (suc (suc (suc (suc (suc (suc (suc j)))))))) d less = absurd (omega (arith, less))

-- ---- the least blocking: by a long frame of class 0 at most, and none where the gates open

abbrev opens_then : ℕ → Bool
opens_then u = not (eqb u 0) && eqb (u % 1000000000) 0

is_blocking : (class : ℕ) → IsBlocking plan class (needs (traffic class)) (λ u. cond (opens_then u) 0 12335999)
is_blocking class = record { at = λ j u r other less gate before. by j u r less before (opens_then u) refl }
  where
    by : (j u r : ℕ) → r < needs (traffic class) j → (u ≡ 0) ⊎ (may_by plan j (u - 1) 1 ≡ true) → (b : Bool) → opens_then u ≡ b
        → r ≤ cond b 0 12335999
    by j u r less before false e = (let most = need_most class j in omega (arith, less, most))
    by j u r less before true e = elim (cases_lt j 8) [
      | inr past ↦ (let none = none_past (traffic class) j past in absurd (omega (arith, less, none)))
      | inl listed ↦
          let some : 0 < u = grind (arith, e) in
          let whole : u % 1000000000 ≡ 0 = grind (arith, e) in
          absurd (elim before [
            | inl first ↦ omega (arith, some, first)
            | inr was ↦ both_ways _ (shut j listed (u - 1) 1 (omega arith) (omega (arith, some, whole))) was
          ])
    ]

law : (class : ℕ) → IsLeastBlocking plan class (needs (traffic class))
law class = blocking_law plan class (needs (traffic class)) (omega arith) (λ j past. none_past (traffic class) j past)

block_most : (class u : ℕ) → blocking plan class (needs (traffic class)) u ≤ 12335999
block_most class u = by (opens_then u) ((law class).least (λ v. cond (opens_then v) 0 12335999) (is_blocking class) u)
  where
    by : (b : Bool) → blocking plan class (needs (traffic class)) u ≤ cond b 0 12335999 → blocking plan class (needs (traffic class)) u ≤ 12335999
    by true le = omega (arith, le)
    by false le = le

block_none : (class u : ℕ) → 0 < u → u % 1000000000 ≡ 0 → blocking plan class (needs (traffic class)) u ≡ 0
block_none class u some whole =
    let is : opens_then u ≡ true = grind (arith, some, whole) in
    let le = subst (λ b. blocking plan class (needs (traffic class)) u ≤ cond b 0 12335999) is
    ((law class).least (λ v. cond (opens_then v) 0 12335999) (is_blocking class) u) in
    omega (arith, le)

block_late : (class : ℕ) → 5 ≤ class → 12335999 ≤ blocking plan class (needs (traffic class)) 586528002
block_late class from =
    let lower : leb class 0 ≡ false = grind (arith, from) in
    let need = need_is class 0 (omega arith) ∙ ap (λ b. cond b 1136000 12336000) lower in
    ((law class).is).at 0 586528002 12335999 (λ same. absurd (omega (arith, from, same))) (omega (arith, need))
    (opened 0 (omega arith) 586528002 12335999 (omega arith))
    (inr (opened 0 (omega arith) 586528001 1 (omega arith)))

-- ---- the least bounds

one_comes : (x : ℕ) → x < 500000000 → curve talkers x ≡ 1
one_comes x less = omega (arith, less)

above_five : AreHigher plan 5 (6 ∷ 7 ∷ [])
above_five = record {
  all = λ j u up listed own other. by j up listed;
  above = λ i j e. by_above i j e;
  listed = λ i j e. by_listed i j e;
  share = λ i j e. share 5 j (omega arith) (by_listed i j e);
  order = λ i k j l less e h. by_order i k j l less e h;
}
  where
    by : (j : ℕ) → 5 < j → j < 8 → (i : ℕ) × (slice_get (let js : List ℕ = 6 ∷ 7 ∷ [] in js) i ≡ Some j)
    by j up listed = elim (cases_lt j 7) [
      | inl less ↦ (0, (let is : 6 ≡ j = omega (arith, up, less) in ap Some is))
      | inr more ↦ (1, (let is : 7 ≡ j = omega (arith, more, listed) in ap Some is))
    ]

    by_above : (i j : ℕ) → slice_get (let js : List ℕ = 6 ∷ 7 ∷ [] in js) i ≡ Some j → 5 < j
    by_above zero j e = (let is = same_Some 6 j e in omega (arith, is))
    by_above (suc zero) j e = (let is = same_Some 7 j e in omega (arith, is))
    by_above (suc (suc i)) j e = absurd (none_here i j e)

    by_listed : (i j : ℕ) → slice_get (let js : List ℕ = 6 ∷ 7 ∷ [] in js) i ≡ Some j → j < 8
    by_listed zero j e = (let is = same_Some 6 j e in omega (arith, is))
    by_listed (suc zero) j e = (let is = same_Some 7 j e in omega (arith, is))
    by_listed (suc (suc i)) j e = absurd (none_here i j e)

    by_order : (i k j l : ℕ) → i < k → slice_get (let js : List ℕ = 6 ∷ 7 ∷ [] in js) i ≡ Some j
        → slice_get (let js : List ℕ = 6 ∷ 7 ∷ [] in js) k ≡ Some l → j < l
    by_order zero zero j l less e h = absurd (omega (arith, less))
    by_order zero (suc zero) j l less e h = (let a = same_Some 6 j e in let b = same_Some 7 l h in omega (arith, a, b))
    by_order zero (suc (suc k)) j l less e h = absurd (none_here k l h)
    by_order (suc zero) zero j l less e h = absurd (omega (arith, less))
    by_order (suc zero) (suc zero) j l less e h = absurd (omega (arith, less))
    by_order (suc zero) (suc (suc k)) j l less e h = absurd (none_here k l h)
    by_order (suc (suc i)) k j l less e h = absurd (none_here i j e)

above_six : AreHigher plan 6 (7 ∷ [])
above_six = record {
  all = λ j u up listed own other. (0, (let is : 7 ≡ j = omega (arith, up, listed) in ap Some is));
  above = λ i j e. (let is = by i j e in omega (arith, is));
  listed = λ i j e. (let is = by i j e in omega (arith, is));
  share = λ i j e. share 6 j (omega arith) (let is = by i j e in omega (arith, is));
  order = λ i k j l less e h. by_order i k j l less e h;
}
  where
    by : (i j : ℕ) → slice_get (let js : List ℕ = 7 ∷ [] in js) i ≡ Some j → 7 ≡ j
    by zero j e = same_Some 7 j e
    by (suc i) j e = absurd (none_here i j e)

    by_order : (i k j l : ℕ) → i < k → slice_get (let js : List ℕ = 7 ∷ [] in js) i ≡ Some j
        → slice_get (let js : List ℕ = 7 ∷ [] in js) k ≡ Some l → j < l
    by_order i zero j l less e h = absurd (omega (arith, less))
    by_order i (suc k) j l less e h = absurd (none_here k l h)

above_seven : AreHigher plan 7 []
above_seven = record {
  all = λ j u up listed own other. absurd (omega (arith, up, listed));
  above = λ i j e. absurd (none_here i j e);
  listed = λ i j e. absurd (none_here i j e);
  share = λ i j e. absurd (none_here i j e);
  order = λ i k j l less e h. absurd (none_here i j e);
}

-- each frame covers one slot of the only pitch
one_slot : slots_of 1136000 1136000 ≡ 1
unfolding slots_of
one_slot = omega arith

-- the start curve of a class, where a frame covers w
abbrev start_of : (w wait : ℕ) → ℕ → ℕ
start_of w wait = start_curve w (λ x. 0 + w * ((x + 0) / 1000000000 + 1)) 1 wait

few_five : (y : ℕ) → y < 500000000 → slots_above 1136000 (start_curves (traffic 5)) (6 ∷ 7 ∷ []) y ≡ 2
few_five y less = ap (λ w. 0 + start_of w (bounds 6).wait y + start_of w (bounds 7).wait y) one_slot ∙
    (let e : 0 + start_of 1 (bounds 6).wait y + start_of 1 (bounds 7).wait y ≡ 2 = omega (arith, less) in e)

few_six : (y : ℕ) → y < 500000000 → slots_above 1136000 (start_curves (traffic 6)) (7 ∷ []) y ≡ 1
few_six y less = ap (λ w. 0 + start_of w (bounds 7).wait y) one_slot ∙ (let e : 0 + start_of 1 (bounds 7).wait y ≡ 1 = omega (arith, less) in e)

-- bounds by that pitch are the least, where no class that shares needs the wire for another time
module _ (class wait : ℕ) (higher : List ℕ) (share : AreHigher plan class higher)
    (hold : HoldBy plan class (traffic class) higher 1136000 wait 1)
    (no_more : AreNoMoreBy plan class (traffic class) higher 1136000 wait 1) (own : needs (traffic class) class ≡ 1136000)
    (same : (i j : ℕ) → slice_get (class ∷ higher) i ≡ Some j → needs (traffic class) j ≡ 1136000) where
  is_pitch : IsPitch (needs (traffic class)) class higher 1136000
  is_pitch = record { some = omega arith; of = (0, class, refl, own) }

  least_by : AreLeastOf plan class (traffic class) 1 wait 1
  least_by = record {
    higher = higher;
    share = share;
    wait_is = (1136000, 1, is_pitch, hold);
    most_is = (1136000, wait, is_pitch, hold);
    least = λ pitch is.
        let at = is.of in
        let even : 1136000 ≡ pitch = sym (same at.0 at.1 at.2) ∙ at.3 in
        inr (subst (λ p. AreNoMoreBy plan class (traffic class) higher p wait 1) even no_more);
  }

least_five : (limit : ℕ) × AreLeastOf plan 5 (traffic 5) limit (bounds 5).wait (bounds 5).most
least_five = (
  1,
  least_by 5 (bounds 5).wait (6 ∷ 7 ∷ []) above_five
      (busy plan 5 (needs (traffic 5)) (blocking plan 5 (needs (traffic 5))) 1136000
      (arrivals_of (traffic 5) 5) (start_curves (traffic 5)) (6 ∷ 7 ∷ []) 2 (omega arith) (opened 5 (omega arith)) (shut 5 (omega arith)) refl refl
      (block_most 5) (block_none 5) (block_late 5 (omega arith)) one_comes few_five)
      (window_least plan 5 (needs (traffic 5)) (blocking plan 5 (needs (traffic 5))) 1136000
      (arrivals_of (traffic 5) 5) (start_curves (traffic 5)) (6 ∷ 7 ∷ []) 2 (omega arith) (opened 5 (omega arith)) (shut 5 (omega arith)) refl refl
      (block_most 5) (block_none 5) (block_late 5 (omega arith)) one_comes few_five)
      refl by,
)
  where
    by : (i j : ℕ) → slice_get (let js : List ℕ = 5 ∷ 6 ∷ 7 ∷ [] in js) i ≡ Some j → needs (traffic 5) j ≡ 1136000
    by zero j e = sym (ap (needs (traffic 5)) (same_Some 5 j e))
    by (suc zero) j e = sym (ap (needs (traffic 5)) (same_Some 6 j e))
    by (suc (suc zero)) j e = sym (ap (needs (traffic 5)) (same_Some 7 j e))
    by (suc (suc (suc i))) j e = absurd (none_here i j e)

least_six : (limit : ℕ) × AreLeastOf plan 6 (traffic 6) limit (bounds 6).wait (bounds 6).most
least_six = (
  1,
  least_by 6 (bounds 6).wait (7 ∷ []) above_six
      (busy plan 6 (needs (traffic 6)) (blocking plan 6 (needs (traffic 6))) 1136000
      (arrivals_of (traffic 6) 6) (start_curves (traffic 6)) (7 ∷ []) 1 (omega arith) (opened 6 (omega arith)) (shut 6 (omega arith)) refl refl
      (block_most 6) (block_none 6) (block_late 6 (omega arith)) one_comes few_six)
      (window_least plan 6 (needs (traffic 6)) (blocking plan 6 (needs (traffic 6))) 1136000
      (arrivals_of (traffic 6) 6) (start_curves (traffic 6)) (7 ∷ []) 1 (omega arith) (opened 6 (omega arith)) (shut 6 (omega arith)) refl refl
      (block_most 6) (block_none 6) (block_late 6 (omega arith)) one_comes few_six)
      refl by,
)
  where
    by : (i j : ℕ) → slice_get (let js : List ℕ = 6 ∷ 7 ∷ [] in js) i ≡ Some j → needs (traffic 6) j ≡ 1136000
    by zero j e = sym (ap (needs (traffic 6)) (same_Some 6 j e))
    by (suc zero) j e = sym (ap (needs (traffic 6)) (same_Some 7 j e))
    by (suc (suc i)) j e = absurd (none_here i j e)

least_seven : (limit : ℕ) × AreLeastOf plan 7 (traffic 7) limit (bounds 7).wait (bounds 7).most
least_seven = (
  1,
  least_by 7 (bounds 7).wait [] above_seven
      (busy plan 7 (needs (traffic 7)) (blocking plan 7 (needs (traffic 7))) 1136000
      (arrivals_of (traffic 7) 7) (start_curves (traffic 7)) [] 0 (omega arith) (opened 7 (omega arith)) (shut 7 (omega arith)) refl refl
      (block_most 7) (block_none 7) (block_late 7 (omega arith)) one_comes (λ y less. refl))
      (window_least plan 7 (needs (traffic 7)) (blocking plan 7 (needs (traffic 7))) 1136000
      (arrivals_of (traffic 7) 7) (start_curves (traffic 7)) [] 0 (omega arith) (opened 7 (omega arith)) (shut 7 (omega arith)) refl refl
      (block_most 7) (block_none 7) (block_late 7 (omega arith)) one_comes (λ y less. refl))
      refl by,
)
  where
    by : (i j : ℕ) → slice_get (let js : List ℕ = 7 ∷ [] in js) i ≡ Some j → needs (traffic 7) j ≡ 1136000
    by zero j e = sym (ap (needs (traffic 7)) (same_Some 7 j e))
    by (suc i) j e = absurd (none_here i j e)

are_judged : AreJudged plan traffic bounds judged silent
are_judged = record {
  eight = λ class j. refl;
  known = λ class j. are_traffic class;
  higher = λ class j e above.
      let from = (is_judged class e).0 in
      let up = above.0 in
      let listed = above.1 in
      inl (grind (arith, from, up, listed));
  come = λ class j pitch x e above own some.
      let up = above.0 in
      let same : leb j j ≡ true = grind arith in
      let below : leb class j ≡ true = grind (arith, up) in
      let a = ap (λ o. covered_of o pitch x) (at class j above.1) in
      let b = ap (λ o. covered_of o pitch x) (at j j above.1) in
      let c = ap (λ k. slot_curve (cond k 1136000 12336000) pitch (flows_of (cond (leb 5 j) talkers [])) x) (below ∙ sym same) in
      omega (arith, a, b, c);
  bound = λ class j t e above own is. ap (λ (u : ClassTraffic). u.bounds) (same_Some t (entry class j) (sym is ∙ at class j above.1));
  need = λ class j e f.
      let listed = (is_judged j f).1 in
      let same : leb j j ≡ true = grind arith in
      let own = need_is j j listed ∙ ap (λ b. cond b 1136000 12336000) same in
      let there = need_is class j listed in
      let least = (need_or (leb class j)).2 in
      omega (arith, own, there, least);
  least = λ class e. each_judged (λ c. (limit : ℕ) × AreLeastOf plan c (traffic c) limit (bounds c).wait (bounds c).most) least_five least_six least_seven class e;
}

-- ---- the frames, one of each class, each a microsecond behind the one before it

abbrev frame_of : ℕ → Frame
frame_of class = record { id = class; priority = class; len = cond (leb 5 class) 118 1518; tagged = true }

abbrev sent : ℕ → ℕ → Came
sent place class = record { moment = 2000000000 + 1000000 * place; frame = frame_of class }

abbrev came : List Came
came = sent 0 0 ∷ sent 1 5 ∷ sent 2 1 ∷ sent 3 6 ∷ sent 4 2 ∷ sent 5 7 ∷ sent 6 3 ∷ sent 7 4 ∷ []

abbrev IsTakenIn : Came → Type 0
IsTakenIn f = (class : ℕ) × (t : IsTaken base class (occupancy_of 8000 f.frame.len)) × (t.frame ≡ f.frame)

takes : (place class sdu : ℕ) → class_for base class ≡ Some class → sdu_of (frame_of class) ≡ Some sdu → sdu ≤ 1500 → limit_of base class ≡ 0
    → (f : Came) → Some (sent place class) ≡ Some f → IsTakenIn f
takes place class sdu leads whole short none f e = subst IsTakenIn (same_Some (sent place class) f e) (
  class,
  record {
    frame = frame_of class;
    leads = leads;
    sdu = sdu;
    whole = whole;
    short = short;
    limited = λ some. absurd (omega (arith, some, none));
    lasts = refl;
  },
  refl,
)

taken : (k : ℕ) (f : Came) → slice_get came k ≡ Some f → IsTakenIn f
taken zero f e = takes 0 0 1500 refl refl (omega arith) refl f e
taken (suc zero) f e = takes 1 5 100 refl refl (omega arith) refl f e
taken (suc (suc zero)) f e = takes 2 1 1500 refl refl (omega arith) refl f e
taken (suc (suc (suc zero))) f e = takes 3 6 100 refl refl (omega arith) refl f e
taken (suc (suc (suc (suc zero)))) f e = takes 4 2 1500 refl refl (omega arith) refl f e
taken (suc (suc (suc (suc (suc zero))))) f e = takes 5 7 100 refl refl (omega arith) refl f e
taken (suc (suc (suc (suc (suc (suc zero)))))) f e = takes 6 3 1500 refl refl (omega arith) refl f e
taken (suc (suc (suc (suc (suc (suc (suc zero))))))) f e = takes 7 4 1500 refl refl (omega arith) refl f e
taken (suc (suc (suc (suc (suc (suc (suc (suc k)))))))) f e = absurd (none_here k f e)

one_conforms : (d : ℕ) (few : ℕ → ℕ) (f : Came) → occupancy_of 8000 f.frame.len ≤ d → ((x : ℕ) → 1 ≤ few x) → ConformTo 8000 d few (f ∷ [])
one_conforms d few f short some = record { short = is_short; few = are_few }
  where
    is_short : (k : ℕ) (g : Came) → slice_get (f ∷ []) k ≡ Some g → occupancy_of 8000 g.frame.len ≤ d
    is_short zero g e = subst (λ (h : Came). occupancy_of 8000 h.frame.len ≤ d) (same_Some f g e) short
    is_short (suc k) g e = absurd (none_here k g e)

    are_few : (k n : ℕ) (g h : Came) → slice_get (f ∷ []) k ≡ Some g → slice_get (f ∷ []) (k + n) ≡ Some h → n + 1 ≤ few (h.moment - g.moment)
    are_few zero zero g h e i = some (h.moment - g.moment)
    are_few zero (suc n) g h e i =
        let next : 0 + suc n ≡ suc n = omega arith in
        absurd (none_here n h (sym (ap (slice_get (f ∷ [])) next) ∙ i))
    are_few (suc k) n g h e i = absurd (none_here k g e)

some_come : (x : ℕ) → 1 ≤ curve talkers x
some_come x = omega arith

conforms : (class : ℕ) → judged class ≡ true
    → ConformTo 8000 (needs (traffic class) class) (arrivals_of (traffic class) class) (frames_to base class came)
conforms = each_judged (λ c. ConformTo 8000 (needs (traffic c) c) (arrivals_of (traffic c) c) (frames_to base c came))
    (one_conforms 1136000 (curve talkers) (sent 1 5) (omega arith) some_come)
    (one_conforms 1136000 (curve talkers) (sent 3 6) (omega arith) some_come)
    (one_conforms 1136000 (curve talkers) (sent 5 7) (omega arith) some_come)

one_covers : (pitch : ℕ) (few : ℕ → ℕ) (f : Came) → ((x : ℕ) → slots_for 8000 pitch f ≤ few x) → CoverUpTo 8000 pitch few (f ∷ [])
one_covers pitch few f some zero zero g h e i =
    let all = sum_by-cons (slots_for 8000 pitch) f [] in
    let most = some (h.moment - g.moment) in
    omega (arith, all, most)
one_covers pitch few f some zero (suc n) g h e i =
    let next : 0 + suc n ≡ suc n = omega arith in
    absurd (none_here n h (sym (ap (slice_get (f ∷ [])) next) ∙ i))
one_covers pitch few f some (suc k) n g h e i = absurd (none_here k g e)

some_covered : (pitch x : ℕ) → slots_of 1136000 pitch ≤ 0 + slots_of 1136000 pitch * ((x + 0) / 1000000000 + 1)
some_covered pitch x =
    let parts : slots_of 1136000 pitch * ((x + 0) / 1000000000 + 1) ≡ slots_of 1136000 pitch * ((x + 0) / 1000000000) + slots_of 1136000 pitch
    = grind arith in
    omega (arith, parts)

covers : (pitch class : ℕ) → judged class ≡ true → CoverUpTo 8000 pitch (covered_by (traffic class) pitch class) (frames_to base class came)
covers pitch = each_judged (λ c. CoverUpTo 8000 pitch (covered_by (traffic c) pitch c) (frames_to base c came))
    (one_covers pitch (covered_by (traffic 5) pitch 5) (sent 1 5) (some_covered pitch))
    (one_covers pitch (covered_by (traffic 6) pitch 6) (sent 3 6) (some_covered pitch))
    (one_covers pitch (covered_by (traffic 7) pitch 7) (sent 5 7) (some_covered pitch))

-- a frame of a class that isn't judged is no longer than is known
is_long : (class j place k : ℕ) (f : Came) → 5 ≤ class → j < 5 → occupancy_of 8000 (sent place j).frame.len ≡ 12336000
    → slice_get (sent place j ∷ []) k ≡ Some f → occupancy_of 8000 f.frame.len ≤ needs (traffic class) j
is_long class j place zero f from below long e =
    let lower : leb class j ≡ false = grind (arith, from, below) in
    let known = need_is class j (omega (arith, below)) ∙ ap (λ b. cond b 1136000 12336000) lower in
    subst (λ (g : Came). occupancy_of 8000 g.frame.len ≤ needs (traffic class) j) (same_Some (sent place j) f e) (omega (arith, long, known))
is_long class j place (suc k) f from below long e = absurd (none_here k f e)

others : (class j k : ℕ) (f : Came) → 5 ≤ class → j < 8 → judged j ≡ false → slice_get (frames_to base j came) k ≡ Some f
    → occupancy_of 8000 f.frame.len ≤ needs (traffic class) j
others class zero k f from less other e = is_long class 0 0 k f from (omega arith) refl e
others class (suc zero) k f from less other e = is_long class 1 2 k f from (omega arith) refl e
others class (suc (suc zero)) k f from less other e = is_long class 2 4 k f from (omega arith) refl e
others class (suc (suc (suc zero))) k f from less other e = is_long class 3 6 k f from (omega arith) refl e
others class (suc (suc (suc (suc zero)))) k f from less other e = is_long class 4 7 k f from (omega arith) refl e
others class (suc (suc (suc (suc (suc zero))))) k f from less other e = absurd (both_ways _ other refl)
others class (suc (suc (suc (suc (suc (suc zero)))))) k f from less other e = absurd (both_ways _ other refl)
others class (suc (suc (suc (suc (suc (suc (suc zero))))))) k f from less other e = absurd (both_ways _ other refl)
others class (suc (suc (suc (suc (suc (suc (suc (suc j)))))))) k f from less other e = absurd (omega (arith, less))

within : ComeWithin (in_force_from 8000 1500 8 change) 3000000000 came
within =
    (omega arith, (omega arith, (omega arith, (omega arith, (omega arith, (omega arith, (omega arith, (omega arith, omega arith))))))))

can_share : CanShare 8000 1500 8 change traffic judged silent came 3000000000
can_share = record {
  rate = omega arith;
  large = omega arith;
  accepted = refl;
  taken = taken;
  within = within;
  clock = omega arith;
  conform = λ class less e. conforms class e;
  cover = λ class pitch less e some. covers pitch class e;
  quiet = λ class less e. absurd (false≢true e);
  others = λ class j k f less e listed other sends there. others class j k f (is_judged class e).0 listed other there;
}

some_frame : (class : ℕ) → class < 8 → (f : Came) × (slice_get (frames_to base class came) 0 ≡ Some f)
some_frame zero less = (sent 0 0, refl)
some_frame (suc zero) less = (sent 2 1, refl)
some_frame (suc (suc zero)) less = (sent 4 2, refl)
some_frame (suc (suc (suc zero))) less = (sent 6 3, refl)
some_frame (suc (suc (suc (suc zero)))) less = (sent 7 4, refl)
some_frame (suc (suc (suc (suc (suc zero))))) less = (sent 1 5, refl)
some_frame (suc (suc (suc (suc (suc (suc zero)))))) less = (sent 3 6, refl)
some_frame (suc (suc (suc (suc (suc (suc (suc zero))))))) less = (sent 5 7, refl)
some_frame (suc (suc (suc (suc (suc (suc (suc (suc class)))))))) less = absurd (omega (arith, less))

pub met : PremisesAreMet
met = (
  8000,
  1500,
  8,
  change,
  traffic,
  bounds,
  judged,
  silent,
  came,
  3000000000,
  are_judged,
  can_share,
  λ class less. (600000000, shut class less 600000000 1 (omega arith) (omega arith)),
  λ class j from up listed.
      let below : class < 8 = omega (arith, up, listed) in
      (grind (arith, from, below), share class j below listed),
  some_frame,
)
