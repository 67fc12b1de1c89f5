-- The backlog of a walk: what it says of the frames that have come.
use Rattle.std.proofs.Common.{◌≡◌, ◌<◌, ◌≤◌, ℕ, ◌+◌, ◌-◌, ◌*◌, ◌%◌, ◌/◌, max, Bool, true, false, ◌&&◌, ◌||◌, cond, List, [], ◌∷◌, map, Some, ◌⊎◌, inl, inr, refl, sym, ap, ◌∙◌, arith}
use Rattle.std.proofs.lemmas.Bool.{cases_lt, false≢true, leb-true, ltb-true}
use Rattle.std.proofs.lemmas.Option.{same_Some}
use Rattle.std.specs.Prelude.{nat_lt, nat_le}
use Rattle.gates.specs.Gate.{Plan, in_ps}
use Rattle.delay_bounds.specs.declared.Flow.{Flow}
use Rattle.delay_bounds.specs.declared.look.Backlog.{Backlog}
use Rattle.delay_bounds.specs.declared.look.Look.{Look}
use Rattle.delay_bounds.specs.declared.look.Look.TheVariants as Looks
use Rattle.delay_bounds.specs.Backlog.{beside, followed, from_look, looked, no_backlog, taken_at, with_frame}
use Rattle.delay_bounds.specs.Bounded.{is_from_here}
use Rattle.delay_bounds.specs.Bounds.{Track}
use Rattle.delay_bounds.specs.Claim.{earliest, offsets_of}
use Rattle.delay_bounds.specs.ForEver.{counts_from, counting}
use Rattle.delay_bounds.specs.Overloaded.{IsOverloaded}
use Rattle.delay_bounds.specs.Walk.{after, begun, may_by}
use Rattle.delay_bounds.specs.Walked.{are_later, comes_again, is_later, look}
use Rattle.delay_bounds.proofs.StepLaws.{counting_nexts}
use Rattle.delay_bounds.proofs.WalkedLaws.{later_is}

-- ---- conditions

and_true : (a b : Bool) → (a && b) ≡ true → (a ≡ true) × (b ≡ true)
and_true true true e = (refl, refl)
and_true true false e = absurd (false≢true e)
and_true false true e = absurd (false≢true e)
and_true false false e = absurd (false≢true e)

or_true : (a b : Bool) → (a || b) ≡ true → (a ≡ true) ⊎ (b ≡ true)
or_true true b e = inl refl
or_true false true e = inr refl
or_true false false e = absurd (false≢true e)

-- ---- moments

-- moments that are later by one time and by another
later_twice : (a b n : ℕ) → a + b ≡ n → (ts : List ℕ) → map (λ t. t + b) (map (λ t. t + a) ts) ≡ map (λ t. t + n) ts
later_twice a b n sum [] = refl
later_twice a b n sum (t ∷ ts) =
    let one : t + a + b ≡ t + n = omega (arith, sum) in
    ap (λ k. k ∷ map (λ u. u + b) (map (λ u. u + a) ts)) one ∙ ap (λ ks. (t + n) ∷ ks) (later_twice a b n sum ts)

later_none : (n : ℕ) → n ≡ 0 → (ts : List ℕ) → map (λ t. t + n) ts ≡ ts
later_none n none [] = refl
later_none n none (t ∷ ts) =
    let one : t + n ≡ t = omega (arith, none) in
    ap (λ k. k ∷ map (λ u. u + n) ts) one ∙ ap (λ ks. t ∷ ks) (later_none n none ts)

-- frames that come as they did, whole cycles before
record IsAgain (c since t : ℕ) (new old : Track) : Type 0 where
  sooner : since < t
  whole : t - since ≡ c * ((t - since) / c)
  nexts : new.nexts ≡ map (λ u. u + (t - since)) old.nexts

again_is : (c since t : ℕ) (new old : Track) → 0 < c → comes_again c since t new old ≡ true → IsAgain c since t new old
again_is c since t new old some again =
    let d : ℕ = t - since in
    let less : since < t = grind (arith, again) in
    let none : d % c ≡ 0 = grind (arith, again) in
    let alike : are_later d new.nexts old.nexts ≡ true = grind (arith, again) in
    let parts : d ≡ c * (d / c) = grind (arith, none, some) in
    record { sooner = less; whole = parts; nexts = later_is d new.nexts old.nexts alike }

-- in cycles since a moment
cycles_on : (c k moment since t : ℕ) → since < t → t - since ≡ c * ((t - since) / c) → since ≡ moment + c * k → t ≡ moment + c * (k + (t - since) / c)
cycles_on c k moment since t sooner whole at =
    let q : ℕ = (t - since) / c in
    let parts : c * (k + q) ≡ c * k + c * q = grind arith in
    omega (arith, sooner, whole, at, parts)

-- a backlog that has risen by a cycle, by when the wire is free
rise_free : (c k moment t old now origin taken : ℕ) → 0 < c → origin ≡ max moment old - moment → taken ≡ max t now - t → t ≡ moment + c * k → c ≤ taken - origin → old + c * (k + 1) ≤ now
rise_free c k moment t old now origin taken some origin_is taken_is at more =
    let wider : c * (k + 1) ≡ c * k + c = grind arith in
    omega (arith, some, origin_is, taken_is, at, more, wider)

-- ---- a look

frames_again : (cycle last since t : ℕ) (new old : Track) → look cycle last since t new old ≡ Looks.Frames → comes_again cycle since t new old ≡ true
frames_again cycle last since t new old e = by (comes_again cycle since t new old) refl (is_later (t - since) new old) (nat_lt since last && nat_le last t) e
  where
    by : (b : Bool) → comes_again cycle since t new old ≡ b → (c d : Bool) → cond b (cond c Looks.Again Looks.Frames) (cond d Looks.First Looks.On) ≡ Looks.Frames → comes_again cycle since t new old ≡ true
    by true is c d e = is
    by false is c true e = absurd (let no : ⊥ = cc in no)
    by false is c false e = absurd (let no : ⊥ = cc in no)

-- ---- a walk

-- A backlog that lasts, after so many frames. It was `origin` at a frame; whole cycles later frames came as they did from there on, when the track
-- was `base`; and each frame since then has come while the wire was taken, or just as it became free.
pub record Lasts (plan : Plan) (class room : ℕ) (flows : List Flow) (frames since : ℕ) (base : Track) (origin : ℕ) : Type 0 where
  pub first : ℕ
  pub cycles : ℕ
  pub moment : ℕ
  pub place : ℕ
  pub old : Track
  pub onward : first ≤ frames
  pub was : after (may_by plan class) (in_ps plan.cycle) room flows first (begun (offsets_of flows)) ≡ Some old
  pub next : earliest old.nexts ≡ Some (moment, place)
  pub origin_is : origin ≡ taken_at moment (counting old)
  pub since_is : since ≡ moment + in_ps plan.cycle * cycles
  pub alike : base.nexts ≡ map (λ t. t + in_ps plan.cycle * cycles) old.nexts
  pub busy : (k : ℕ) (z : Track) (e : ℕ × ℕ) → first + k < frames → after (may_by plan class) (in_ps plan.cycle) room flows (first + k) (begun (offsets_of flows)) ≡ Some z → earliest z.nexts ≡ Some e → e.0 ≤ z.free

-- what is known by the backlog of a walk that looks back to a track
pub record IsKept (plan : Plan) (class room : ℕ) (flows : List Flow) (frames since : ℕ) (base : Track) (b : Backlog) : Type 0 where
  pub lasting : b.lasts ≡ true → Lasts plan class room flows frames since base b.origin
  pub growing : b.grows ≡ true → IsOverloaded plan class flows

module _ (plan : Plan) (class room : ℕ) (flows : List Flow) (above : 0 < plan.cycle) where
  abbrev cycle : ℕ
  cycle = in_ps plan.cycle

  abbrev reaches : ℕ → Track → Type 0
  reaches n z = after (may_by plan class) (in_ps plan.cycle) room flows n (begun (offsets_of flows)) ≡ Some z

  some_cycle : 0 < cycle
  some_cycle = omega (arith, above)

  pub kept_none : (since : ℕ) (base : Track) → IsKept plan class room flows 0 since base no_backlog
  kept_none since base = record { lasting = λ no. absurd (false≢true no); growing = λ no. absurd (false≢true no) }

  -- the next frame comes
  module _ (frames : ℕ) (track : Track) (e : ℕ × ℕ) (there : reaches frames track) (comes : earliest track.nexts ≡ Some e) where
    abbrev new : Track
    new = counting track

    abbrev taken : ℕ
    taken = taken_at e.0 new

    new_free : new.free ≡ max e.0 track.free
    new_free = ap (λ o. (counts_from o track).free) comes

    abbrev Since : ℕ → ℕ → Track → ℕ → Type 0
    Since n since base origin = Lasts plan class room flows n since base origin

    -- from here on
    from_here : Since frames e.0 new taken
    from_here =
        let none : cycle * 0 ≡ 0 = grind arith in
        record {
          first = frames;
          cycles = 0;
          moment = e.0;
          place = e.1;
          old = track;
          onward = omega arith;
          was = there;
          next = comes;
          origin_is = refl;
          since_is = omega (arith, none);
          alike = counting_nexts track ∙ sym (later_none (cycle * 0) none track.nexts);
          busy = λ k z d less at next. absurd (omega (arith, less));
        }

    -- frames come as they did at the last look
    looks_on : (since origin : ℕ) (base : Track) → comes_again cycle since e.0 new base ≡ true → Since frames since base origin → Since frames e.0 new origin
    looks_on since origin base again h =
        let is = again_is cycle since e.0 new base some_cycle again in
        let q : ℕ = (e.0 - since) / cycle in
        let whole = is.whole in
        let parts : cycle * (h.cycles + q) ≡ cycle * h.cycles + cycle * q = grind arith in
        let sum : cycle * h.cycles + (e.0 - since) ≡ cycle * (h.cycles + q) = omega (arith, whole, parts) in
        record {
          first = h.first;
          cycles = h.cycles + q;
          moment = h.moment;
          place = h.place;
          old = h.old;
          onward = h.onward;
          was = h.was;
          next = h.next;
          origin_is = h.origin_is;
          since_is = cycles_on cycle h.cycles h.moment since e.0 is.sooner is.whole h.since_is;
          alike = is.nexts ∙ (ap (map (λ t. t + (e.0 - since))) h.alike ∙ later_twice (cycle * h.cycles) (e.0 - since) (cycle * (h.cycles + q)) sum (h.old).nexts);
          busy = h.busy;
        }

    -- it has risen by a cycle
    rises : (origin : ℕ) → Since frames e.0 new origin → cycle ≤ taken - origin → IsOverloaded plan class flows
    rises origin h more =
        let onward = h.onward in
        let count : h.first + (frames - h.first) ≡ frames = omega (arith, onward) in
        let old_free : (counting h.old).free ≡ max h.moment (h.old).free = ap (λ o. (counts_from o h.old).free) h.next in
        record {
          room = room;
          first = h.first;
          frames = frames - h.first;
          cycles = h.cycles;
          old = h.old;
          new = track;
          was = h.was;
          is = ap (λ n. after (may_by plan class) cycle room flows n (begun (offsets_of flows))) count ∙ there;
          alike = sym (counting_nexts track) ∙ h.alike;
          busy = λ k z d less at next. h.busy k z d (omega (arith, less, onward)) at next;
          behind = rise_free cycle h.cycles h.moment e.0 (h.old).free track.free origin taken some_cycle (h.origin_is ∙ ap (λ n. n - h.moment) old_free) (ap (λ n. n - e.0) new_free) h.since_is more;
        }

    -- the frame finds the wire taken
    one_more : (since origin : ℕ) (base : Track) → 0 < taken → Since frames since base origin → Since (frames + 1) since base origin
    one_more since origin base more h =
        let onward = h.onward in
        record {
          first = h.first;
          cycles = h.cycles;
          moment = h.moment;
          place = h.place;
          old = h.old;
          onward = omega (arith, onward);
          was = h.was;
          next = h.next;
          origin_is = h.origin_is;
          since_is = h.since_is;
          alike = h.alike;
          busy = λ k z d less at next. elim (cases_lt (h.first + k) frames) [
            | inl before ↦ h.busy k z d before at next
            | inr over ↦
                let count : h.first + k ≡ frames = omega (arith, less, over) in
                let same : z ≡ track = same_Some z track (sym at ∙ (ap (λ n. after (may_by plan class) cycle room flows n (begun (offsets_of flows))) count ∙ there)) in
                let one : d ≡ e = same_Some d e (sym next ∙ (ap (λ (x : Track). earliest x.nexts) same ∙ comes)) in
                let moment = ap (λ (x : ℕ × ℕ). x.0) one in
                let free = ap (λ (x : Track). x.free) same in
                let counted = new_free in
                omega (arith, more, moment, free, counted)
          ];
        }

    abbrev Kept : ℕ → ℕ → Track → Backlog → Type 0
    Kept n since base b = IsKept plan class room flows n since base b

    -- behind a look at which the frames come as they did
    kept_compared : (since : ℕ) (base : Track) (b : Backlog) → comes_again cycle since e.0 new base ≡ true → Kept frames since base b → (lasts : Bool) → b.lasts ≡ lasts
        → Kept frames e.0 new (cond lasts (beside cycle taken b) (from_look taken b.grows))
    kept_compared since base b again h false is = record { lasting = λ yes. from_here; growing = h.growing }
    kept_compared since base b again h true is =
        let on = looks_on since b.origin base again (h.lasting is) in
        record {
          lasting = λ yes. on;
          growing = λ yes. elim (or_true b.grows (nat_le cycle (taken - b.origin)) yes) [
            | inl before ↦ h.growing before
            | inr now ↦ rises b.origin on (leb-true _ _ now)
          ];
        }

    -- behind a look
    kept_looked : (since last : ℕ) (base : Track) (b : Backlog) (l : Look) → look cycle last since e.0 new base ≡ l → (l ≡ Looks.Again → ⊥) → Kept frames since base b
        → Kept frames (cond (is_from_here l) e.0 since) (cond (is_from_here l) new base) (looked cycle l taken b)
    kept_looked since last base b Looks.Again is other h = absurd (other refl)
    kept_looked since last base b Looks.Frames is other h = kept_compared since base b (frames_again cycle last since e.0 new base is) h b.lasts refl
    kept_looked since last base b Looks.First is other h = record { lasting = λ yes. from_here; growing = h.growing }
    kept_looked since last base b Looks.On is other h = h

    -- behind the frame
    kept_frame : (since : ℕ) (base : Track) (b : Backlog) → Kept frames since base b → Kept (frames + 1) since base (with_frame taken b)
    kept_frame since base b h = record {
      lasting = λ yes. (let both = and_true b.lasts (nat_lt 0 taken) yes in one_more since b.origin base (ltb-true _ _ both.1) (h.lasting both.0));
      growing = h.growing;
    }

    -- behind both
    pub kept_on : (since last : ℕ) (base : Track) (b : Backlog) (l : Look) → look cycle last since e.0 new base ≡ l → (l ≡ Looks.Again → ⊥) → Kept frames since base b
        → Kept (frames + 1) (cond (is_from_here l) e.0 since) (cond (is_from_here l) new base) (followed cycle l taken b)
    kept_on since last base b l is other h =
        kept_frame (cond (is_from_here l) e.0 since) (cond (is_from_here l) new base) (looked cycle l taken b) (kept_looked since last base b l is other h)
