-- The bounds, moment by moment.
use Rattle.std.proofs.Common.{◌≡◌, ◌<◌, ◌≤◌, ◌⊎◌, ℕ, ◌+◌, ◌-◌, max, min, List, ◌∷◌, get_or, length, Option, Some, None, Result, Ok, Err, All, inl, inr, sym, ap, ◌∙◌, subst, arith}
use Rattle.std.proofs.lemmas.Bool.{cases_lt}
use Rattle.std.proofs.lemmas.Option.{same_Some, slice_get-get_or, slice_get_within}
use Rattle.gates.specs.Gate.{in_ps}
use Rattle.burst_bounds.specs.Busy.{HasFrames}
use Rattle.burst_bounds.specs.declared.Bounds.{Bounds}
use Rattle.std.specs.Prelude.{IfErr, IfOk}
use Rattle.burst_bounds.specs.Talkers.{IsTalker, curve}
use Rattle.burst_bounds.specs.Walk.{AreArrivals}
use Rattle.burst_bounds.specs.declared.Talker.{Talker}
use Rattle.burst_bounds.proofs.TalkerLaws.{curve_rises, curve_some}
use Rattle.shared_bounds.specs.declared.Unbound.{Unbound}
use Rattle.shared_bounds.specs.declared.Unbound.TheVariants.{Blocked, Long, Memory, Stuck}
use Rattle.any_traffic.proofs.SharedCycleLaws.{shared_cycle_law}
use Rattle.shared_bounds.specs.Best.{AreBest, AreFoundAt, IsBest, IsNoWay, IsNotFound, IsTried, IsUnseenAt, lesser_of, pitch_at, with_told}
use Rattle.shared_bounds.specs.Busy.{AreFound, AreUnder, HoldFrom, IsRead, IsSeen, IsUnseen}
use Rattle.shared_bounds.specs.Least.{AreLeastOf, AreNoMoreBy, HoldBy, IsLongBy, IsUnbound}
use Rattle.shared_bounds.specs.Sharing.{AreHigher, IsPitch}
use Rattle.shared_bounds.specs.Slots.{IsStuck}
use Rattle.shared_bounds.specs.Near.{AreNear, IsNear}
use Rattle.shared_bounds.specs.Place.{IsPlace, blocking_of}
use Rattle.shared_bounds.specs.Traffic.{needs, start_curves}
use Rattle.shared_bounds.specs.declared.place.SharedClass.{SharedClass}
use Rattle.shared_bounds.proofs.BlockingLaws.{repeats}
use Rattle.shared_bounds.proofs.PeriodLaws.{here_always, here_busy, hold, most_under, wait_under}

module _ (c : SharedClass) (curve : ℕ → ℕ) where
  -- bounds that hold hold when they are greater
  pub hold_more : (wait most w m t : ℕ) → wait ≤ w → most ≤ m → HoldFrom c curve wait most t → HoldFrom c curve w m t
  hold_more wait most w m t le few h = record {
    last = h.last;
    slot = h.slot;
    is = h.is;
    ends = h.ends;
    soon = λ x within. (let s = h.soon x within in let by = s.2 in (s.0, s.1, omega (arith, by, le)));
    few = λ x within. (let s = h.few x within in let enough = s.1 in (s.0, omega (arith, enough, few), s.2));
  }

  -- Where the walk stands: before the look at a moment.
  pub record IsWalked (from : ℕ) (b : Bounds) : Type 0 where
    pub hold : (u : ℕ) → u < from → HoldFrom c curve b.wait b.most u
    pub under : AreUnder c curve b

  pub walked_none : (b : Bounds) → b ≡ record { wait = 0; most = 0 } → IsWalked 0 b
  walked_none b is = subst (IsWalked 0) (sym is) (record {
    hold = λ u less. absurd (omega (arith, less));
    under = record { busy = λ w m h. (omega arith, omega arith); always = λ w m h. (omega arith, omega arith) };
  })

module _ (c : SharedClass) (place : IsPlace c) (curve : ℕ → ℕ) where
  pub walked_next : (from next last : ℕ) (moments : List ℕ) (old new : Bounds) → IsRead curve moments → IsWalked c curve from old
      → IsSeen c from moments old new last → AreNear c last from next → IsWalked c curve next new
  walked_next from next last moments old new read h seen near = record {
    hold = λ u less. elim (cases_lt u from) [
      | inl before ↦ hold_more c curve old.wait old.most new.wait new.most u (omega (arith, wait_is)) (omega (arith, most_is)) (h.hold u before)
      | inr behind ↦ hold_more c curve has.wait has.most new.wait new.most u (omega (arith, wait_is)) (omega (arith, most_is))
          (hold c place curve from seen.starts moments read seen.time has.wait has.most has.longest has.greatest u behind
          (subst (λ l. IsNear c l from u) seen.last_is (near.each u behind less)))
    ];
    under = record {
      busy = λ w m given.
          let before = h.under.busy w m given in
          let here = here_busy c place curve from seen.starts moments read seen.time w m (given from) in
          both w m before
          (wait_under c place curve from seen.starts moments read seen.time has.wait w m has.longest here)
          (most_under c place curve from seen.starts moments read seen.time has.most w m has.greatest here);
      always = λ w m given.
          let before = h.under.always w m given in
          let here = here_always c place curve from seen.starts moments read seen.time w m given in
          both w m before
          (wait_under c place curve from seen.starts moments read seen.time has.wait w m has.longest here)
          (most_under c place curve from seen.starts moments read seen.time has.most w m has.greatest here);
    };
  }
    where
      has : HasFrames old from seen.starts moments (length seen.starts) new
      has = seen.has

      wait_is : new.wait ≡ max has.wait old.wait
      wait_is = has.wait_is

      most_is : new.most ≡ max has.most old.most
      most_is = has.most_is

      both : (w m : ℕ) → (old.wait ≤ w) × (old.most ≤ m) → has.wait ≤ w → has.most ≤ m → (new.wait ≤ w) × (new.most ≤ m)
      both w m before one two =
          let a = before.0 in
          let b = before.1 in
          let x = wait_is in
          let y = most_is in
          (omega (arith, a, one, x), omega (arith, b, two, y))

  -- all moments of the first cycle are all
  pub walked_all : (from : ℕ) (b : Bounds) → in_ps c.schedule.now.cycle < from → IsWalked c curve from b → AreFound c curve b
  walked_all from b past h = record {
    hold = shared_cycle_law c.schedule.now c.class c.pitch b.wait b.most (needs c.traffic.now) (blocking_of c) curve
        (start_curves c.traffic.now) c.higher.now place.sound.plan_is.cycle
        (repeats c.schedule.now c.class (needs c.traffic.now) place.sound.plan_is.cycle)
        (λ t within. h.hold t (omega (arith, within, past)));
    under = h.under;
  }

-- ---- what is so for each curve with these arrivals is so for one

pub found_of : (c : SharedClass) (curve : ℕ → ℕ) (moments : List ℕ) (found : Result Bounds Unbound) → IsRead curve moments
    → IfOk found (λ b. (f : ℕ → ℕ) → IsRead f moments → AreFound c f b) → IfOk found (AreFound c curve)
found_of c curve moments (Ok b) read h = h curve read
found_of c curve moments (Err why) read h = tt

pub unseen_of : (c : SharedClass) (curve : ℕ → ℕ) (moments : List ℕ) (found : Result Bounds Unbound) (count : ℕ) → IsRead curve moments
    → length moments - 1 ≡ count
    → IfErr found (λ why. (f : ℕ → ℕ) → IsRead f moments → IsUnseen c f (length moments - 1) why) → IfErr found (IsUnseen c curve count)
unseen_of c curve moments (Ok b) count read is h = tt
unseen_of c curve moments (Err why) count read is h = subst (λ n. IsUnseen c curve n why) is (h curve read)

pub read_of : (talkers : List Talker) (moments items : List ℕ) → 0 < length talkers → All IsTalker talkers → moments ≡ items
    → AreArrivals (curve talkers) items → IsRead (curve talkers) moments
read_of talkers moments items some all is come = record {
  rises = curve_rises talkers all;
  some = curve_some talkers some;
  come = subst (AreArrivals (curve talkers)) (sym is) come;
}

-- ---- by several pitches

module _ (c : SharedClass) (count : ℕ) where
  -- a pitch at one place more is at one of those before it, or at that one
  tried_next : (n pitch : ℕ) → IsTried c (n + 1) pitch → IsTried c n pitch ⊎ (pitch_at c n ≡ pitch)
  tried_next n pitch t =
      let less = t.1 in
      elim (cases_lt t.0 n) [
        | inl before ↦ inl (t.0, before, t.2)
        | inr last ↦ (let same : t.0 ≡ n = omega (arith, last, less) in inr (sym (ap (pitch_at c) same) ∙ t.2))
      ]

  pub best_none : IsBest c count 0 None
  best_none = λ pitch some t. (let less = t.1 in absurd (omega (arith, less)))

  -- one that is tried, or is none, says nothing new
  pub best_same : (n : ℕ) (best : Option Bounds) → (pitch_at c n ≡ 0) ⊎ IsTried c n (pitch_at c n) → IsBest c count n best
      → IsBest c count (n + 1) best
  best_same n None known h = λ pitch some t. h pitch some (old n pitch some known (tried_next n pitch t))
    where
      old : (n pitch : ℕ) → 0 < pitch → (pitch_at c n ≡ 0) ⊎ IsTried c n (pitch_at c n) → IsTried c n pitch ⊎ (pitch_at c n ≡ pitch)
          → IsTried c n pitch
      old n pitch some known (inl before) = before
      old n pitch some (inl none) (inr here) = absurd (omega (arith, some, none, here))
      old n pitch some (inr same) (inr here) = subst (IsTried c n) here same
  best_same n (Some b) known h = record {
    wait_is = h.wait_is;
    most_is = h.most_is;
    least = λ pitch some t. h.least pitch some (old n pitch some known (tried_next n pitch t));
  }
    where
      old : (n pitch : ℕ) → 0 < pitch → (pitch_at c n ≡ 0) ⊎ IsTried c n (pitch_at c n) → IsTried c n pitch ⊎ (pitch_at c n ≡ pitch)
          → IsTried c n pitch
      old n pitch some known (inl before) = before
      old n pitch some (inl none) (inr here) = absurd (omega (arith, some, none, here))
      old n pitch some (inr same) (inr here) = subst (IsTried c n) here same

  abbrev IsLongAt : ℕ → Type 0
  IsLongAt pitch = IsLongBy c.schedule.now c.class c.traffic.now c.higher.now pitch count

  -- bounds that are no less have none less by a pitch
  no_more : (pitch w m wait most : ℕ) → wait ≤ w → most ≤ m → AreNoMoreBy c.schedule.now c.class c.traffic.now c.higher.now pitch w m
      → AreNoMoreBy c.schedule.now c.class c.traffic.now c.higher.now pitch wait most
  no_more pitch w m wait most le few h = record {
    busy = λ x y are. (let a = h.busy x y are in let one = a.0 in let two = a.1 in (omega (arith, one, le), omega (arith, two, few)));
    always = λ x y are. (let a = h.always x y are in let one = a.0 in let two = a.1 in (omega (arith, one, le), omega (arith, two, few)));
  }

  found_no_more : (pitch : ℕ) (b : Bounds) → AreFoundAt c pitch b
      → AreNoMoreBy c.schedule.now c.class c.traffic.now c.higher.now pitch b.wait b.most
  found_no_more pitch b f = record { busy = f.under.busy; always = f.under.always }

  module _ (n : ℕ) (is : IsPitch (needs c.traffic.now) c.class c.higher.now (pitch_at c n)) where
    -- where bounds are found by it
    best_found : (best : Option Bounds) (b : Bounds) → IsBest c count n best → AreFoundAt c (pitch_at c n) b
        → AreBest c count (n + 1) (lesser_of best b)
    best_found None b h f = record {
      wait_is = (pitch_at c n, b.most, is, f.hold);
      most_is = (pitch_at c n, b.wait, is, f.hold);
      least = λ pitch some t. elim (tried_next n pitch t) [
        | inl before ↦ inl (h pitch some before)
        | inr here ↦ inr (subst (λ p. AreNoMoreBy c.schedule.now c.class c.traffic.now c.higher.now p b.wait b.most) here
            (found_no_more (pitch_at c n) b f))
      ];
    }
    best_found (Some a) b h f = record {
      wait_is = wait_of (cases_lt b.wait a.wait);
      most_is = most_of (cases_lt b.most a.most);
      least = λ pitch some t. elim (tried_next n pitch t) [
        | inl before ↦ elim (h.least pitch some before) [
          | inl long ↦ inl long
          | inr none ↦ inr (no_more pitch a.wait a.most (min a.wait b.wait) (min a.most b.most) (omega arith) (omega arith) none)
        ]
        | inr here ↦ inr (no_more pitch b.wait b.most (min a.wait b.wait) (min a.most b.most) (omega arith) (omega arith)
            (subst (λ p. AreNoMoreBy c.schedule.now c.class c.traffic.now c.higher.now p b.wait b.most) here
            (found_no_more (pitch_at c n) b f)))
      ];
    }
      where
        Waits : ℕ → Type 0
        Waits w = (pitch m : ℕ) × IsPitch (needs c.traffic.now) c.class c.higher.now pitch
            × HoldBy c.schedule.now c.class c.traffic.now c.higher.now pitch w m

        Mosts : ℕ → Type 0
        Mosts m = (pitch w : ℕ) × IsPitch (needs c.traffic.now) c.class c.higher.now pitch
            × HoldBy c.schedule.now c.class c.traffic.now c.higher.now pitch w m

        wait_of : (b.wait < a.wait) ⊎ (a.wait ≤ b.wait) → Waits (min a.wait b.wait)
        wait_of (inl less) =
            let e : b.wait ≡ min a.wait b.wait = omega (arith, less) in
            subst Waits e (pitch_at c n, b.most, is, f.hold)
        wait_of (inr le) = (let e : a.wait ≡ min a.wait b.wait = omega (arith, le) in subst Waits e h.wait_is)

        most_of : (b.most < a.most) ⊎ (a.most ≤ b.most) → Mosts (min a.most b.most)
        most_of (inl less) =
            let e : b.most ≡ min a.most b.most = omega (arith, less) in
            subst Mosts e (pitch_at c n, b.wait, is, f.hold)
        most_of (inr le) = (let e : a.most ≡ min a.most b.most = omega (arith, le) in subst Mosts e h.most_is)

    -- where some busy period by it is too long
    best_long : (best : Option Bounds) → IsBest c count n best → IsLongAt (pitch_at c n) → IsBest c count (n + 1) best
    best_long None h long = λ pitch some t. elim (tried_next n pitch t) [
      | inl before ↦ h pitch some before
      | inr here ↦ subst IsLongAt here long
    ]
    best_long (Some b) h long = record {
      wait_is = h.wait_is;
      most_is = h.most_is;
      least = λ pitch some t. elim (tried_next n pitch t) [
        | inl before ↦ h.least pitch some before
        | inr here ↦ inl (subst IsLongAt here long)
      ];
    }

    pub best_more : (best : Option Bounds) (told : Result Bounds Unbound) → IsBest c count n best
        → IfOk told (AreFoundAt c (pitch_at c n)) → IfErr told (IsUnseenAt c (pitch_at c n) count)
        → IfOk (with_told best told) (IsBest c count (n + 1))
    best_more best (Ok b) h found why = best_found best b h found
    best_more best (Err Long) h found why = best_long best h why
    best_more best (Err Stuck) h found why = tt
    best_more best (Err Blocked) h found why = tt
    best_more best (Err Memory) h found why = tt

    pub no_way : (best : Option Bounds) (told : Result Bounds Unbound) → (IsStuck c → ⊥)
        → IfErr told (IsUnseenAt c (pitch_at c n) count) → IfErr (with_told best told) (IsNoWay c)
    no_way best (Ok b) taken why = tt
    no_way best (Err Long) taken why = tt
    no_way best (Err Stuck) taken why = absurd why
    no_way best (Err Blocked) taken why = (why, taken)
    no_way best (Err Memory) taken why = tt

  pub not_found_of : (why : Unbound) → IsNoWay c why → IsNotFound c count why
  not_found_of Blocked h = h
  not_found_of Memory h = tt
  not_found_of Long h = absurd h
  not_found_of Stuck h = absurd h

-- a pitch at a place is one that is tried
pub pitch_is : (c : SharedClass) (n pitch : ℕ) → n ≤ length c.higher.now → 0 < pitch → pitch_at c n ≡ pitch
    → IsPitch (needs c.traffic.now) c.class c.higher.now pitch
pitch_is c n pitch le some is = record {
  some = some;
  of = (
    n,
    get_or (c.class ∷ c.higher.now) n 0,
    slice_get-get_or (c.class ∷ c.higher.now) n 0 (omega (arith, le)),
    is,
  );
}

-- and each of them is at one
tried_of : (c : SharedClass) (pitch : ℕ) → IsPitch (needs c.traffic.now) c.class c.higher.now pitch
    → IsTried c (length c.higher.now + 1) pitch
tried_of c pitch is =
    let at = is.of in
    let within = slice_get_within (c.class ∷ c.higher.now) at.0 at.1 at.2 in
    let same = same_Some (get_or (c.class ∷ c.higher.now) at.0 0) at.1
    (sym (slice_get-get_or (c.class ∷ c.higher.now) at.0 0 within) ∙ at.2) in
    (at.0, omega (arith, within), ap (needs c.traffic.now) same ∙ at.3)

-- ---- by what is known of the class

pub least_of : (c : SharedClass) (limit : ℕ) → AreHigher c.schedule.now c.class c.higher.now → (found : Result Bounds Unbound)
    → IfOk found (AreBest c limit (length c.higher.now + 1))
    → IfOk found (λ b. AreLeastOf c.schedule.now c.class c.traffic.now limit b.wait b.most)
least_of c limit share (Err why) h = tt
least_of c limit share (Ok b) h = record {
  higher = c.higher.now;
  share = share;
  wait_is = h.wait_is;
  most_is = h.most_is;
  least = λ pitch is. h.least pitch is.some (tried_of c pitch is);
}

pub unbound_of : (c : SharedClass) (limit : ℕ) → AreHigher c.schedule.now c.class c.higher.now → (found : Result Bounds Unbound)
    → IfErr found (IsNotFound c limit) → IfErr found (IsUnbound c.schedule.now c.class c.traffic.now limit)
unbound_of c limit share (Ok b) h = tt
unbound_of c limit share (Err Memory) h = tt
unbound_of c limit share (Err Stuck) h = h
unbound_of c limit share (Err Blocked) h = record { taken = h.1; blocked = h.0 }
unbound_of c limit share (Err Long) h = record {
  higher = c.higher.now;
  share = share;
  long = λ pitch is. h pitch is.some (tried_of c pitch is);
}
