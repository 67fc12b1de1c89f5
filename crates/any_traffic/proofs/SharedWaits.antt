-- What bounds a class that shares its windows, by the chain of its starts.
use Rattle.std.proofs.Common.{◌≡◌, ◌<◌, ◌≤◌, ℕ, zero, suc, ◌+◌, ◌-◌, ◌*◌, max, true, ◌⊎◌, inl, inr, List, [], ◌∷◌, length, slice_get, sum_by, Some, refl, sym, ap, ◌∙◌, subst, arith, le_refl}
use Rattle.std.proofs.Math.Nat.{mul-le-mul_left}
use Rattle.std.proofs.lemmas.Bool.{cases_lt}
use Rattle.std.proofs.lemmas.List.Sums.{sum_by-cons}
use Rattle.std.proofs.lemmas.Option.{same_Some, slice_get_within}
use Rattle.wire_time.specs.Wire.{occupancy_of}
use Rattle.wire_time.proofs.WireLaws.{occupancy_pos}
use Rattle.wire_time.specs.declared.Frame.{Frame}
use Rattle.gates.specs.Gate.{Plan}
use Rattle.gates.proofs.OpenLaws.{open_within}
use Rattle.gates.specs.History.{Accepted, gates, open_through}
use Rattle.abstract_port.specs.declared.Start.{Start}
use Rattle.abstract_port.specs.Traffic.{Came, starts_of_class}
use Rattle.delay_bounds.specs.Walk.{may_by}
use Rattle.any_traffic.specs.ArrivalCurve.{ConformTo}
use Rattle.any_traffic.specs.SharedBounds.{AreFew, IsSharedBusyPeriod, IsSoon, slots_above}
use Rattle.any_traffic.specs.SharedRuns.{AtMostWait}
use Rattle.any_traffic.specs.SharedSlots.{AreAbove, IsBlocking, IsSharedSlot, slots_of}
use Rattle.any_traffic.proofs.ListLaws.{none_here, one_at, one_before}
use Rattle.any_traffic.proofs.SharedSlots.{AreSound, at_load, at_slot, count_of, cover_all, cover_count, cover_of}
use Rattle.any_traffic.proofs.StartLaws.{class_rises, shared_come, start_before, start_frame, class_at, class_of, class_one, count_own, since_at, span}
use Rattle.any_traffic.proofs.Sharing.{AreShared, AreSince, IsSharedStart, IsTaken}

-- ---- since when the class has been waiting

module _ (h : List Accepted) (ps c d : ℕ) (all : List Start) (whole : List Came)
    (short : (k : ℕ) (f : Came) → slice_get whole k ≡ Some f → occupancy_of ps f.frame.len ≤ d) where
  abbrev mine : List Start
  mine = starts_of_class c all

  -- Up to a moment the frame at a place has not started; since one before it came, or it, the wire has been taken whenever a frame of the
  -- class could have had it, and was free of the class when that one came; each up to a place came before the one before it had ended.
  pub record IsFrom (k upto m : ℕ) : Type 0 where
    pub place : ℕ
    pub frame : Came
    pub within : place ≤ k
    pub first : slice_get whole place ≡ Some frame
    pub busy : (t : ℕ) → frame.moment ≤ t → t < m → open_through h c t d ≡ true → IsTaken c all t
    pub clear : (i : ℕ) (y : Start) → slice_get mine i ≡ Some y → i < place → y.«end» ≤ frame.moment
    pub joined : (i : ℕ) (g : Came) (y : Start) → place ≤ i → i < upto → slice_get whole (suc i) ≡ Some g → slice_get mine i ≡ Some y
        → g.moment < y.«end»

  -- the next frame is the one at a place, the one before it has ended by a moment
  record IsGone (k free : ℕ) : Type 0 where
    ended : (i : ℕ) (y : Start) → slice_get mine i ≡ Some y → i < k → y.«end» ≤ free
    closes : (i : ℕ) (y : Start) → slice_get mine i ≡ Some y → suc i ≡ k → free ≤ y.«end»
    before : ((k ≡ 0) × (free ≡ 0)) ⊎ IsFrom k (k - 1) free

  from_here : (k free : ℕ) (f : Came) → slice_get whole k ≡ Some f → IsGone k free → free ≤ f.moment → IsFrom k k (max f.moment free)
  from_here k free f e g le = record {
    place = k;
    frame = f;
    within = le_refl k;
    first = e;
    busy = λ t from below fits. absurd (omega (arith, from, below, le));
    clear = λ i y there less. (let ended = g.ended i y there less in omega (arith, ended, le));
    joined = λ i z y from less e y'. absurd (omega (arith, from, less));
  }

  comes_in : (k free : ℕ) (f : Came) → slice_get whole k ≡ Some f → IsGone k free → IsFrom k k (max f.moment free)
  comes_in k free f e g = by g.before
    where
      by : ((k ≡ 0) × (free ≡ 0)) ⊎ IsFrom k (k - 1) free → IsFrom k k (max f.moment free)
      by (inl none) = (let zero_free = none.1 in from_here k free f e g (omega (arith, zero_free)))
      by (inr b) = elim (cases_lt f.moment free) [
        | inr later ↦ from_here k free f e g later
        | inl before ↦ record {
          place = b.place;
          frame = b.frame;
          within = b.within;
          first = b.first;
          busy = λ t from below fits. b.busy t from (omega (arith, below, before)) fits;
          clear = b.clear;
          joined = λ i z y from less there own. elim (cases_lt (suc i) k) [
            | inl early ↦ b.joined i z y from (omega (arith, early)) there own
            | inr late ↦
                let same_place : suc i ≡ k = omega (arith, late, less) in
                let same = ap (λ (w : Came). w.moment) (same_Some z f (sym there ∙ (ap (slice_get whole) same_place ∙ e))) in
                let closes = g.closes i y own same_place in
                omega (arith, same, before, closes)
          ];
        }
      ]

  -- also while nothing of the class could start
  held_up : (k free m : ℕ) (f : Came) → slice_get whole k ≡ Some f → IsFrom k k (max f.moment free)
      → ((t : ℕ) → max f.moment free ≤ t → t < m → open_through h c t (occupancy_of ps f.frame.len) ≡ true → IsTaken c all t) → IsFrom k k m
  held_up k free m f e b blocked = record {
    place = b.place;
    frame = b.frame;
    within = b.within;
    first = b.first;
    busy = λ t from below fits. elim (cases_lt t (max f.moment free)) [
      | inl early ↦ b.busy t from early fits
      | inr late ↦ (let need = short k f e in blocked t late below
          (open_within (gates h) c t d t (occupancy_of ps f.frame.len) fits (le_refl t) (omega (arith, need))))
    ];
    clear = b.clear;
    joined = b.joined;
  }

  goes : (k free now : ℕ) (f : Came) (x : Start) → slice_get whole k ≡ Some f → slice_get mine k ≡ Some x → IsGone k free
      → IsSharedStart (open_through h c) ps c all free now f x
      → IsFrom k k x.at × IsGone (suc k) x.«end»
  goes k free now f x e there g start =
      let b = held_up k free x.at f e (comes_in k free f e g) start.blocked in
      let from = start.from in
      let ends : x.«end» ≡ x.at + occupancy_of ps f.frame.len = ap (λ (y : Start). y.«end») start.is in
      let class : x.class ≡ c = ap (λ (y : Start). y.class) start.is in
      let among = class_one c all k x there in (
        b,
        record {
          ended = λ i y at less. elim (cases_lt i k) [
            | inl early ↦ (let ended = g.ended i y at early in omega (arith, ended, from, ends))
            | inr late ↦
                let same_place : i ≡ k = omega (arith, late, less) in
                let same : y ≡ x = same_Some y x (sym at ∙ (ap (slice_get mine) same_place ∙ there)) in
                let end = ap (λ (z : Start). z.«end») same in
                omega (arith, end)
          ];
          closes = λ i y at same_place.
              let same : y ≡ x = same_Some y x (sym at ∙ (ap (slice_get mine) (let z : i ≡ k = omega (arith, same_place) in z) ∙ there)) in
              let end = ap (λ (z : Start). z.«end») same in
              omega (arith, end);
          before = inr (record {
            place = b.place;
            frame = b.frame;
            within = (let within = b.within in omega (arith, within));
            first = b.first;
            busy = λ t from below fits. elim (cases_lt t x.at) [
              | inl early ↦ b.busy t from early fits
              | inr late ↦ record {
                place = among.0;
                start = x;
                there = among.1;
                from = late;
                until = below;
                priority = λ here. omega
                    (arith, class);
              }
            ];
            clear = b.clear;
            joined = λ i z y from less there own. b.joined i z y from (omega (arith, less)) there own;
          });
        },
      )

  pub record AreFrom (i now : ℕ) (came : List Came) (starts : List Start) : Type 0 where
    pub begun : (k : ℕ) (f : Came) (x : Start) → slice_get came k ≡ Some f → slice_get starts k ≡ Some x → IsFrom (i + k) (i + k) x.at
    pub waits : (f : Came) → slice_get came (length starts) ≡ Some f → IsFrom (i + length starts) (i + length starts) now

  all_from : (i free now : ℕ) (came : List Came) (starts : List Start) (wire : ℕ) (waiting : List Frame)
      → ((k : ℕ) (f : Came) → slice_get came k ≡ Some f → slice_get whole (i + k) ≡ Some f)
      → ((k : ℕ) (x : Start) → slice_get starts k ≡ Some x → slice_get mine (i + k) ≡ Some x) → IsGone i free
      → AreShared (open_through h c) ps c all free now came starts wire waiting → AreFrom i now came starts
  all_from i free now [] [] wire waiting here there g s = record
      { begun = λ k f x e y. absurd (none_here k f e); waits = λ f e. absurd (none_here 0 f e) }
  all_from i free now (f ∷ came) [] wire waiting here there g s =
      let at : i + 0 ≡ i = omega arith in
      let own = sym (ap (slice_get whole) at) ∙ here 0 f refl in
      let late = held_up i free now f own (comes_in i free f own g) s.waits in
      record { begun = λ k z x e y. absurd (none_here k x y); waits = λ z e. subst (λ k. IsFrom k k now) (sym at) late }
  all_from i free now [] (x ∷ starts) wire waiting here there g s = absurd s
  all_from i free now (f ∷ came) (x ∷ starts) wire waiting here there g s =
      let at : i + 0 ≡ i = omega arith in
      let own = sym (ap (slice_get whole) at) ∙ here 0 f refl in
      let start = goes i free now f x own (sym (ap (slice_get mine) at) ∙ there 0 x refl) g s.0 in
      let rest = all_from (suc i) x.«end» now came starts wire waiting
      (λ k z e. (let on : i + suc k ≡ suc i + k = omega arith in sym (ap (slice_get whole) on) ∙ here (suc k) z e))
      (λ k z e. (let on : i + suc k ≡ suc i + k = omega arith in sym (ap (slice_get mine) on) ∙ there (suc k) z e)) start.1 s.1 in
      record {
        begun = begun start.0 rest;
        waits = λ z e. (let on : suc i + length starts ≡ i + suc (length starts) = omega arith in subst (λ k. IsFrom k k now) on
            (rest.waits z e));
      }
    where
      begun : IsFrom i i x.at → AreFrom (suc i) now came starts → (k : ℕ) (z : Came) (y : Start) → slice_get (f ∷ came) k ≡ Some z
          → slice_get (x ∷ starts) k ≡ Some y → IsFrom (i + k) (i + k) y.at
      begun first rest zero z y e v =
          let at : i ≡ i + 0 = omega arith in
          subst (λ k. IsFrom k k y.at) at (subst (λ (w : Start). IsFrom i i w.at) (same_Some x y v) first)
      begun first rest (suc k) z y e v =
          (let on : suc i + k ≡ i + suc k = omega arith in subst (λ m. IsFrom m m y.at) on (rest.begun k z y e v))

  module _ (now wire : ℕ) (waiting : List Frame) (s : AreShared (open_through h c) ps c all 0 now whole mine wire waiting) where
    whole_from : AreFrom 0 now whole mine
    whole_from =
        all_from 0 0 now whole mine wire waiting (λ k f e. (let at : k ≡ 0 + k = omega arith in sym (ap (slice_get whole) at) ∙ e))
        (λ k x e. (let at : k ≡ 0 + k = omega arith in sym (ap (slice_get mine) at) ∙ e))
        (record {
          ended = λ i y there less. absurd (omega (arith, less));
          closes = λ i y there same. absurd
              (omega (arith, same));
          before = inl (refl, refl);
        }) s

    pub begun_from : (k : ℕ) (f : Came) (x : Start) → slice_get whole k ≡ Some f → slice_get mine k ≡ Some x → IsFrom k k x.at
    begun_from k f x e y = (let at : 0 + k ≡ k = omega arith in subst (λ m. IsFrom m m x.at) at (whole_from.begun k f x e y))

    -- also of one behind the first that waits
    pub waits_from : (k : ℕ) (f : Came) → slice_get whole k ≡ Some f → length mine ≤ k → IsFrom k k now
    waits_from k f e le =
        let at : 0 + length mine ≡ length mine = omega arith in
        let g = one_before whole (length mine) k f le e in
        let b = whole_from.waits g.0 g.1 in
        let within = b.within in
        record {
          place = b.place;
          frame = b.frame;
          within = omega
              (arith, within, le);
          first = b.first;
          busy = b.busy;
          clear = b.clear;
          joined = λ i z y from less there own.
              (let started = slice_get_within mine i y own in b.joined i z y from (omega (arith, started)) there own);
        }

sum_le : (g h : ℕ → ℕ) (higher : List ℕ) → ((i j : ℕ) → slice_get higher i ≡ Some j → g j ≤ h j) → sum_by g higher ≤ sum_by h higher
sum_le g h [] le = omega arith
sum_le g h (j ∷ higher) le =
    let here = le 0 j refl in
    let rest = sum_le g h higher (λ i k e. le (suc i) k e) in
    let a = sum_by-cons g j higher in
    let b = sum_by-cons h j higher in
    omega (arith, here, rest, a, b)

-- ---- a class that is served so

-- the frames that came start in time by the last moment, and few wait
pub record AreInTime (all : List Start) (now c : ℕ) (came : List Came) (wait waiting : ℕ) : Type 0 where
  pub soon : (i : ℕ) (f : Came) (x : Start) → slice_get came i ≡ Some f → slice_get (starts_of_class c all) i ≡ Some x
      → x.at ≤ f.moment + wait
  pub starts : (i : ℕ) (f : Came) → slice_get came i ≡ Some f → f.moment + wait < now → i < length (starts_of_class c all)
  pub few : AtMostWait waiting came (starts_of_class c all)

module _ (ps : ℕ) (a : Accepted) (some_time : 0 < ps) (all : List Start) (now : ℕ) (c : ℕ) (plan : Plan) (is : a.plan ≡ Some plan)
    (above : 0 < plan.cycle) (need blocking : ℕ → ℕ) (pitch : ℕ) (curve : ℕ → ℕ) (curves : ℕ → ℕ → ℕ → ℕ) (higher : List ℕ)
    (blocked : IsBlocking plan c need blocking) (pitched : 0 < pitch) (those : AreAbove plan c higher)
    (sound : AreSound (a ∷ []) need all)
    (above_few : (i j : ℕ) → slice_get higher i ≡ Some j → (p s : ℕ) → cover_of pitch j p (s + 1) all ≤ curves pitch j (s - p))
    (came : List Came) (wire : ℕ) (waiting_now : List Frame)
    (served : AreShared (open_through (a ∷ []) c) ps c all 0 now came (starts_of_class c all) wire waiting_now)
    (come_since : AreSince a.change came)
    (order : (k n : ℕ) (f g : Came) → slice_get came k ≡ Some f → slice_get came (k + n) ≡ Some g → f.moment ≤ g.moment)
    (keep : ConformTo ps (need c) curve came) where
  abbrev begun : List Start
  begun = starts_of_class c all

  rising : (i j : ℕ) (x y : Start) → slice_get begun i ≡ Some x → slice_get begun j ≡ Some y → i ≤ j → x.at ≤ y.at
  rising = class_rises (a ∷ []) need all sound c

  frames : (i : ℕ) (x : Start) → slice_get begun i ≡ Some x → (f : Came) × (slice_get came i ≡ Some f) × (f.moment ≤ x.at)
  frames i x e = start_frame (open_through (a ∷ []) c) ps c all 0 now came begun wire waiting_now served i x e

  -- a moment up to which a frame has not started
  abbrev pub IsUp : ℕ → ℕ → Type 0
  IsUp i m = IsFrom (a ∷ []) ps c (need c) all came keep.short i i m

  -- by a slot with enough before it
  pub main : (i m : ℕ) (f : Came) → slice_get came i ≡ Some f → (b : IsUp i m)
      → ((j : ℕ) (z : Start) → slice_get begun j ≡ Some z → i ≤ j → m ≤ z.at)
      → (n s : ℕ) → IsSharedSlot (may_by plan c) (need c) pitch blocking ((b.frame).moment - a.change) n s
      → slots_of (need c) pitch * (i - b.place) + slots_above pitch curves higher (s - ((b.frame).moment - a.change)) ≤ n
      → m ≤ a.change + s
  main i m f e b later n s slot enough = elim (cases_lt (a.change + s) m) [
    | inr le ↦ le
    | inl less ↦
        let x = at_slot a plan is above c higher need blocking pitch all sound blocked pitched those pos p m busy clear n s slot
        less in
        let count = subst (λ t. suc n ≤ cover_all pitch c higher t (a.change + s + 1) all) at
        (at_load a plan is above c higher need blocking pitch all sound blocked pitched those pos p m busy clear n s x) in
        let counted = cover_count pitch (need c) c (b.frame).moment (a.change + s + 1) all pitched own_short in
        let own = mul-le-mul_left (slots_of (need c) pitch) (own_few less) in
        let others = sum_le (λ j. cover_of pitch j (b.frame).moment (a.change + s + 1) all) (λ j. curves pitch j (s - p)) higher
        (λ i j e.
        let one = above_few i j e (b.frame).moment (a.change + s) in
        let same : a.change + s - (b.frame).moment ≡ s - p = omega (arith, at) in
        subst (λ t. cover_of pitch j (b.frame).moment (a.change + s + 1) all ≤ curves pitch j t) same one) in
        absurd (omega (arith, count, counted, own, others, enough))
  ]
    where
      p : ℕ
      p = (b.frame).moment - a.change

      since : a.change ≤ (b.frame).moment
      since = since_at a.change came b.place b.frame come_since b.first

      at : a.change + p ≡ (b.frame).moment
      at = (let from = since in omega (arith, from))

      pos : 0 < need c
      pos =
          let short = keep.short i f e in
          let some = occupancy_pos ps (f.frame).len some_time in
          omega (arith, short, some)

      busy : (t : ℕ) → a.change + p ≤ t → t < m → open_through (a ∷ []) c t (need c) ≡ true → IsTaken c all t
      busy t from below fits = (let same = at in b.busy t (omega (arith, from, same)) below fits)

      clear : (l : ℕ) (y : Start) → slice_get all l ≡ Some y → y.class ≡ c → y.at < a.change + p → y.«end» ≤ a.change + p
      clear l y e class early =
          let same = at in
          let own = class_at c all l y e class in
          elim (cases_lt own.0 b.place) [
            | inl less ↦ (let ended = b.clear own.0 y own.1 less in omega (arith, ended, same))
            | inr more ↦
                let g = frames own.0 y own.1 in
                let parts : own.0 ≡ b.place + (own.0 - b.place) = omega (arith, more) in
                let order = order b.place (own.0 - b.place) b.frame g.0 b.first
                (sym (ap (slice_get came) parts) ∙ g.1) in
                let come = g.2 in
                absurd (omega (arith, order, come, early, same))
          ]

      own_short : (k : ℕ) (y : Start) → slice_get all k ≡ Some y → y.class ≡ c → y.«end» ≤ y.at + need c
      own_short k y e own =
          let short = sound.short k y e in
          let same = ap need own in
          omega (arith, short, same)

      own_few : a.change + s < m → count_of c (b.frame).moment (a.change + s + 1) all ≤ i - b.place
      own_few less = by (count_of c (b.frame).moment (a.change + s + 1) all) refl
        where
          by : (n : ℕ) → count_of c (b.frame).moment (a.change + s + 1) all ≡ n
              → count_of c (b.frame).moment (a.change + s + 1) all ≤ i - b.place
          by zero e = omega (arith, e)
          by (suc q) e =
              let r = span c (b.frame).moment (a.change + s + 1) begun q (rising)
              (sym (count_own c (b.frame).moment (a.change + s + 1) all) ∙ e) in
              let from = r.from in
              let before = r.before in
              let first : b.place ≤ r.place = elim (cases_lt r.place b.place) [
                | inr le ↦ le
                | inl early ↦
                    let ended = b.clear r.place r.first r.one early in
                    let one = class_one c all r.place r.first r.one in
                    let long = sound.some one.0 r.first one.1 in
                    absurd (omega (arith, ended, long, from))
              ] in
              let last : r.place + q < i = elim (cases_lt (r.place + q) i) [
                | inl le ↦ le
                | inr late ↦ (let after = later (r.place + q) r.last r.other late in absurd (omega (arith, after, before, less)))
              ] in
              omega (arith, first, last, e)

  started_by : (i : ℕ) (x : Start) → slice_get begun i ≡ Some x → x.at ≤ now
  started_by i x e = start_before (open_through (a ∷ []) c) ps c all 0 now came begun wire waiting_now served i x e

  come_by_now : (i : ℕ) (f : Came) → slice_get came i ≡ Some f → f.moment ≤ now
  come_by_now i f e = shared_come (open_through (a ∷ []) c) ps c all 0 now came begun wire waiting_now served i f e

  -- a moment at which the frame at a place starts, or the last moment where it has not
  pub record IsMoment (i m : ℕ) : Type 0 where
    pub later : (j : ℕ) (z : Start) → slice_get begun j ≡ Some z → i ≤ j → m ≤ z.at
    pub earlier : (j : ℕ) (z : Start) → slice_get begun j ≡ Some z → j < i → z.at ≤ m
    pub by_now : m ≤ now
    pub waits : length begun ≤ i → now ≤ m

  pub at_start : (i : ℕ) (x : Start) → slice_get begun i ≡ Some x → IsMoment i x.at
  at_start i x e = record {
    later = λ j z e' le. rising i j x z e e' le;
    earlier = λ j z e' less. rising j i z x e' e (omega (arith, less));
    by_now = started_by i x e;
    waits = λ le. (let within = slice_get_within begun i x e in absurd (omega (arith, within, le)));
  }

  pub at_now : (i : ℕ) → length begun ≤ i → IsMoment i now
  at_now i le = record {
    later = λ j z e' on. (let within = slice_get_within begun j z e' in absurd (omega (arith, within, le, on)));
    earlier = λ j z e' less. started_by j z e';
    by_now = le_refl now;
    waits = λ on. le_refl now;
  }

  -- where the bounds hold of the times from one on up to which the class may have been waiting
  module _ (wait waiting : ℕ) (Within : ℕ → ℕ → Type 0)
      (soon : (t x : ℕ) → Within t x → IsSoon plan c need blocking pitch curve curves higher wait t x)
      (scarce : (t x : ℕ) → Within t x → AreFew plan c need blocking pitch curve curves higher waiting t x)
      (holds : (i m j : ℕ) (f g : Came) (b : IsUp i m) → IsMoment i m → slice_get came i ≡ Some f → i ≤ j → slice_get came j ≡ Some g →
      (j ≡ i) ⊎ (g.moment ≤ m) → Within ((b.frame).moment - a.change) (g.moment - (b.frame).moment)) where
    bound : (i m : ℕ) (f : Came) → slice_get came i ≡ Some f → IsUp i m → IsMoment i m → m ≤ f.moment + wait
    bound i m f e b at =
        let g = b.frame in
        let p : ℕ = g.moment - a.change in
        let from = since_at a.change came b.place g come_since b.first in
        let within = b.within in
        let parts : i ≡ b.place + (i - b.place) = omega (arith, within) in
        let there = sym (ap (slice_get came) parts) ∙ e in
        let order = order b.place (i - b.place) g f b.first there in
        let count = keep.few b.place (i - b.place) g f b.first there in
        let w = soon p (f.moment - g.moment) (holds i m i f f b at e (le_refl i) e (inl refl)) in
        let room = (w.1).enough in
        let early = w.2 in
        let own = mul-le-mul_left (slots_of (need c) pitch)
        (let l : i - b.place ≤ curve (f.moment - g.moment) - 1 = omega (arith, count) in l) in
        let by = main i m f e b at.later (w.1).behind w.0 (w.1).is (omega (arith, room, own)) in
        omega (arith, by, early, from, order)

    few_wait : (i n m : ℕ) (f g : Came) → slice_get came i ≡ Some f → slice_get came (i + n) ≡ Some g → IsUp i m → IsMoment i m
        → g.moment ≤ m → n + 1 ≤ waiting
    few_wait i n m f g e h b at come =
        let o = b.frame in
        let p : ℕ = o.moment - a.change in
        let from = since_at a.change came b.place o come_since b.first in
        let within = b.within in
        let parts : i + n ≡ b.place + (i - b.place + n) = omega (arith, within) in
        let there = sym (ap (slice_get came) parts) ∙ h in
        let order = order b.place (i - b.place + n) o g b.first there in
        let count = keep.few b.place (i - b.place + n) o g b.first there in
        let w = scarce p (g.moment - o.moment) (holds i m (i + n) f g b at e (omega arith) h (inr come)) in
        let all = w.1 in
        elim w.2 [
          | inl none ↦ omega (arith, count, all, none)
          | inr x ↦
              let room = (x.1).enough in
              let before = x.2 in
              elim (cases_lt (i - b.place) w.0) [
                | inr more ↦ omega (arith, count, all, more)
                | inl less ↦
                    let own = mul-le-mul_left (slots_of (need c) pitch) (let l : i - b.place ≤ w.0 - 1 = omega (arith, less) in l) in
                    let by = main i m f e b at.later (x.1).behind x.0 (x.1).is (omega (arith, room, own)) in
                    absurd (omega (arith, by, before, come, from, order))
              ]
        ]

    pub in_time : AreInTime all now c came wait waiting
    in_time = record {
      soon = λ i f x e y. bound i x.at f e
          (begun_from (a ∷ []) ps c (need c) all came keep.short now wire waiting_now served i f x e y) (at_start i x y);
      starts = λ i f e past. elim (cases_lt i (length begun)) [
        | inl less ↦ less
        | inr le ↦
            let late = bound i now f e (waits_from (a ∷ []) ps c (need c) all came keep.short now wire waiting_now served i f e le)
            (at_now i le) in
            absurd (omega (arith, late, past))
      ];
      few = λ i n t f g e h come first. elim (cases_lt i (length begun)) [
        | inl less ↦
            let x = one_at begun i less in
            let after = first x.0 x.1 in
            few_wait i n x.0.at f g e h (begun_from (a ∷ []) ps c (need c) all came keep.short now wire waiting_now served i f x.0 e x.1)
            (at_start i x.0 x.1)
            (omega (arith, after, come))
        | inr le ↦
            few_wait i n now f g e h (waits_from (a ∷ []) ps c (need c) all came keep.short now wire waiting_now served i f e le)
            (at_now i le)
            (come_by_now (i + n) g h)
      ];
    }

  -- ---- up to when the class may have been waiting

  module _ (wait waiting : ℕ) (rises : (x y : ℕ) → x ≤ y → curve x ≤ curve y)
      (times : (t : ℕ) → IsSharedBusyPeriod plan c need blocking pitch curve curves higher wait waiting t) where
    -- the last frame by a moment, and the one behind it
    record IsLastBy (place until j : ℕ) : Type 0 where
      at : ℕ
      from : place ≤ at
      before : at < j
      frame : Came
      next : Came
      one : slice_get came at ≡ Some frame
      two : slice_get came (suc at) ≡ Some next
      by : frame.moment ≤ until
      over : until < next.moment

    last_by : (place until n j : ℕ) (o g : Came) → slice_get came place ≡ Some o → o.moment ≤ until → j ≡ place + n
        → slice_get came j ≡ Some g → until < g.moment → IsLastBy place until j
    last_by place until zero j o g e le is h over =
        let same = ap (λ (z : Came). z.moment)
        (same_Some o g (sym e ∙ (ap (slice_get came) (let z : place ≡ j = omega (arith, is) in z) ∙ h))) in
        absurd (omega (arith, le, over, same))
    last_by place until (suc n) j o g e le is h over =
        let f = one_before came (place + n) j g (omega (arith, is)) h in
        let at : j ≡ suc (place + n) = omega (arith, is) in
        elim (cases_lt until (f.0).moment) [
          | inr by ↦ record {
            at = place + n;
            from = omega arith;
            before = omega (arith, is);
            frame = f.0;
            next = g;
            one = f.1;
            two = sym
                (ap (slice_get came) at) ∙ h;
            by = by;
            over = over;
          }
          | inl later ↦ (let r = last_by place until n
              (place + n) o f.0 e le refl f.1 later in let before = r.before in record {
                at = r.at;
                from = r.from;
                before = omega
                    (arith, before, is);
                frame = r.frame;
                next = r.next;
                one = r.one;
                two = r.two;
                by = r.by;
                over = r.over;
              })
        ]

    within_busy : (i m j : ℕ) (f g : Came) (b : IsUp i m) → IsMoment i m → slice_get came i ≡ Some f → i ≤ j → slice_get came j ≡ Some g
        → (j ≡ i) ⊎ (g.moment ≤ m)
        → g.moment - (b.frame).moment ≤ (times ((b.frame).moment - a.change)).last
    within_busy i m j f g b at e le h come = elim (cases_lt last (g.moment - (b.frame).moment)) [
      | inr within ↦ within
      | inl over ↦ absurd (goes_over (last_by b.place ((b.frame).moment + last) (j - b.place) j b.frame g b.first (omega arith)
          (let w = b.within in omega (arith, w, le)) h (omega (arith, over))))
    ]
      where
        p : ℕ
        p = (b.frame).moment - a.change

        last : ℕ
        last = (times ((b.frame).moment - a.change)).last

        goes_over : IsLastBy b.place ((b.frame).moment + last) j → ⊥
        goes_over r =
            let q = times ((b.frame).moment - a.change) in
            let since = since_at a.change came b.place b.frame come_since b.first in
            let from = r.from in
            let parts : r.at ≡ b.place + (r.at - b.place) = omega (arith, from) in
            let there = sym (ap (slice_get came) parts) ∙ r.one in
            let count = keep.few b.place (r.at - b.place) b.frame r.frame b.first there in
            let by = r.by in
            let up = rises ((r.frame).moment - (b.frame).moment) last (omega (arith, by)) in
            let space = (q.is).enough in
            let ends = q.ends in
            let short = keep.short r.at r.frame r.one in
            let some = occupancy_pos ps ((r.frame).frame).len some_time in
            let over = r.over in
            let next = r.before in
            let own = mul-le-mul_left (slots_of (need c) pitch)
            (let l : r.at - b.place ≤ curve last - 1 = omega (arith, up, count) in l) in
            let enough : slots_of (need c) pitch * (r.at - b.place) + slots_above pitch curves higher (q.slot - p) ≤ (q.is).behind =
            omega (arith, space, own) in
            elim (cases_lt r.at i) [
              | inr behind ↦
                  let sooner = mul-le-mul_left (slots_of (need c) pitch)
                  (let l : i - b.place ≤ r.at - b.place = omega (arith, behind) in l) in
                  let late = main i m f e b at.later (q.is).behind q.slot (q.is).is (omega (arith, enough, sooner)) in
                  let more : suc r.at ≤ j = next in
                  let to : j ≡ suc r.at + (j - suc r.at) = omega (arith, more) in
                  let order = order (suc r.at) (j - suc r.at) r.next g r.two
                  (sym (ap (slice_get came) to) ∙ h) in
                  elim come [
                    | inl same ↦ omega (arith, same, behind, next)
                    | inr in_it ↦ omega (arith, late, order, in_it, over, ends, short, some, since)
                  ]
              | inl early ↦ elim (cases_lt r.at (length begun)) [
                | inl started ↦
                    let y = one_at begun r.at started in
                    let sooner = at.earlier r.at y.0 y.1 early in
                    let own : IsUp r.at y.0.at = record {
                      place = b.place;
                      frame = b.frame;
                      within = from;
                      first = b.first;
                      busy = λ t after below fits. b.busy t after (omega (arith, below, sooner)) fits;
                      clear = b.clear;
                      joined = λ l z x on less there' own'. b.joined l z x on (omega (arith, less, early)) there' own';
                    } in
                    let late = main r.at y.0.at r.frame r.one own (at_start r.at y.0 y.1).later (q.is).behind q.slot (q.is).is enough in
                    let one = class_one c all r.at y.0 y.1 in
                    let need_of = sound.short one.0 y.0 one.1 in
                    let class = class_of c all r.at y.0 y.1 in
                    let needs = ap need class in
                    let joined = b.joined r.at r.next y.0 from early r.two y.1 in
                    omega (arith, late, need_of, needs, joined, over, ends, since)
                | inr unstarted ↦
                    let own : IsUp r.at m = record {
                      place = b.place;
                      frame = b.frame;
                      within = from;
                      first = b.first;
                      busy = b.busy;
                      clear = b.clear;
                      joined = λ l z x on less there' own'. b.joined l z x on (omega (arith, less, early)) there' own';
                    } in
                    let late = main r.at m r.frame r.one own
                    (λ l z there' on. (let within = slice_get_within begun l z there' in absurd
                    (omega (arith, within, on, unstarted)))) (q.is).behind q.slot (q.is).is enough in
                    let end = at.waits (omega (arith, unstarted, early)) in
                    let come_now = come_by_now (suc r.at) r.next r.two in
                    omega (arith, late, end, come_now, over, ends, short, some, since)
              ]
            ]

    pub in_busy_time : AreInTime all now c came wait waiting
    in_busy_time =
        in_time wait waiting (λ t x. x ≤ (times t).last) (λ t x le. (times t).soon x le) (λ t x le. (times t).few x le) within_busy
