-- A walk over frames, step by step, and when its frames come.
use Rattle.std.proofs.Common.{◌≡◌, ◌<◌, ◌≤◌, ℕ, zero, suc, ◌+◌, Bool, true, false, cond, leb, List, [], ◌∷◌, ◌++◌, length, take, get_or, set, length-set, get_or-set_same, get_or-set_other, Option, Some, None, is_some, IsSome, slice_get, inl, inr, refl, sym, ap, ◌∙◌, subst, arith}
use Rattle.std.specs.Option.{option_map_or}
use Rattle.std.proofs.lemmas.Bool.{cases_eq, leb-true, leb-false, false≢true}
use Rattle.std.proofs.lemmas.Option.{same_Some}
use Rattle.abstract_port.specs.Traffic.{Came}
use Rattle.delay_bounds.specs.Claim.{AreComing, coming, earlier, earliest, flow_at}
use Rattle.delay_bounds.specs.Bounds.{Track, step, told}
use Rattle.delay_bounds.specs.Walk.{after}
use Rattle.delay_bounds.proofs.WaitLaws.{coming_first, has_step, step_is, told_next}
use Rattle.delay_bounds.specs.ForEver.{counts_from, counting}
use Rattle.delay_bounds.proofs.MomentLaws.{some_least}
use Rattle.delay_bounds.proofs.Words.{after_on, coming_on, step_from, told_first}
use Rattle.delay_bounds.specs.declared.Flow.{Flow}
use Rattle.delay_bounds.specs.declared.Told.{Told}

-- ---- after some frames

module _ (may : ℕ → ℕ → Bool) (cycle room : ℕ) (flows : List Flow) where
  pub after_step : (k : ℕ) (s z : Track) → after may cycle room flows (suc k) s ≡ Some z → (r : Told × Track) × (step may cycle room flows s ≡ Some r) × (after may cycle room flows k r.1 ≡ Some z)
  unfolding after
  after_step k s z h = go (step may cycle room flows s) refl h
    where
      go : (o : Option (Told × Track)) → step may cycle room flows s ≡ o → after_on (after may cycle room flows k) o ≡ Some z → (r : Told × Track) × (step may cycle room flows s ≡ Some r) × (after may cycle room flows k r.1 ≡ Some z)
      go None e g = absurd (cc)
      go (Some r) e g = (r, e, g)

  pub after_none : (s z : Track) → after may cycle room flows 0 s ≡ Some z → s ≡ z
  unfolding after
  after_none s z h = cc

  -- after fewer
  pub after_fewer : (j k : ℕ) (s z : Track) → after may cycle room flows (j + suc k) s ≡ Some z → (y : Track) × (after may cycle room flows j s ≡ Some y) × (r : Told × Track) × (step may cycle room flows y ≡ Some r)
  unfolding after
  after_fewer zero k s z h =
      let n : zero + suc k ≡ suc k = omega arith in
      let a = after_step k s z (ap (λ i. after may cycle room flows i s) (sym n) ∙ h) in
      (s, refl, a.0, a.1)
  after_fewer (suc j) k s z h =
      let n : suc j + suc k ≡ suc (j + suc k) = omega arith in
      let a = after_step (j + suc k) s z (ap (λ i. after may cycle room flows i s) (sym n) ∙ h) in
      let b = after_fewer j k a.0.1 z a.2 in
      (b.0, ap (after_on (after may cycle room flows j)) a.1 ∙ b.1, b.2, b.3)

  -- where there is a step there is a next frame
  pub has_next : (s : Track) (r : Told × Track) → step may cycle room flows s ≡ Some r → (e : ℕ × ℕ) × (earliest s.nexts ≡ Some e)
  unfolding step
  has_next s r is = go (earliest s.nexts) refl is
    where
      go : (o : Option (ℕ × ℕ)) → earliest s.nexts ≡ o → step_from may cycle room flows o s ≡ Some r → (e : ℕ × ℕ) × (earliest s.nexts ≡ Some e)
      go None same h = absurd (cc)
      go (Some e) same h = (e, same)

  -- where something is told of every frame there is always a next step
  pub goes_ever : (n : ℕ) (s : Track) → ((m : ℕ) → IsSome (told may cycle room flows m s)) → (z : Track) × (after may cycle room flows n s ≡ Some z) × (r : Told × Track) × (step may cycle room flows z ≡ Some r)
  unfolding after
  goes_ever zero s tells = (let first = has_step may cycle room flows s (tells 0) in (s, refl, first.0, first.1))
  goes_ever (suc n) s tells =
      let first = has_step may cycle room flows s (tells 0) in
      let rest = goes_ever n first.0.1 (λ m. subst IsSome (told_next may cycle room flows s first.0 m first.1) (tells (suc m))) in
      (rest.0, ap (after_on (after may cycle room flows n)) first.1 ∙ rest.1, rest.2, rest.3)

  -- what is told first is what the step tells
  pub first_told : (s : Track) (r : Told × Track) → step may cycle room flows s ≡ Some r → told may cycle room flows 0 s ≡ Some r.0
  unfolding told
  first_told s r e = ap told_first e

-- ---- when frames come

-- the first of moments stands at its place
pub first_of : (xs : List ℕ) (e : ℕ × ℕ) → earliest xs ≡ Some e → (e.1 < length xs) × (get_or xs e.1 0 ≡ e.0)
unfolding earliest
first_of [] e h = absurd (cc)
first_of (x ∷ xs) e h = go (earliest xs) refl h (first_of xs)
  where
    here : (x, 0) ≡ e → (e.1 < suc (length xs)) × (get_or (x ∷ xs) e.1 0 ≡ e.0)
    here is = subst (λ (y : ℕ × ℕ). (y.1 < suc (length xs)) × (get_or (x ∷ xs) y.1 0 ≡ y.0)) is ((let less : 0 < suc (length xs) = omega arith in less), refl)

    behind : (u : ℕ × ℕ) → (u.1 < length xs) × (get_or xs u.1 0 ≡ u.0) → (u.0, u.1 + 1) ≡ e → (e.1 < suc (length xs)) × (get_or (x ∷ xs) e.1 0 ≡ e.0)
    behind u rest same =
        let less = rest.0 in
        let at : suc u.1 ≡ u.1 + 1 = omega arith in
        subst (λ (y : ℕ × ℕ). (y.1 < suc (length xs)) × (get_or (x ∷ xs) y.1 0 ≡ y.0)) same
        ((let within : u.1 + 1 < suc (length xs) = omega arith in within), ap (λ i. get_or (x ∷ xs) i 0) (sym at) ∙ rest.1)

    go : (o : Option (ℕ × ℕ)) → earliest xs ≡ o → Some (earlier x o) ≡ Some e → ((u : ℕ × ℕ) → earliest xs ≡ Some u → (u.1 < length xs) × (get_or xs u.1 0 ≡ u.0))
        → (e.1 < suc (length xs)) × (get_or (x ∷ xs) e.1 0 ≡ e.0)
    go None is same rest = here (same_Some (x, 0) e same)
    go (Some u) is same rest = by (leb x u.0) (same_Some (earlier x (Some u)) e same)
      where
        by : (b : Bool) → cond b (x, 0) (u.0, u.1 + 1) ≡ e → (e.1 < suc (length xs)) × (get_or (x ∷ xs) e.1 0 ≡ e.0)
        by true z = here z
        by false z = behind u (rest u is) z

-- what counts of a track has its frames
pub counting_nexts : (s : Track) → (counting s).nexts ≡ s.nexts
counting_nexts s = go (earliest s.nexts)
  where
    go : (o : Option (ℕ × ℕ)) → (counts_from o s).nexts ≡ s.nexts
    go None = refl
    go (Some e) = refl

-- what comes first of what comes
pub record ComesFirst (flows : List Flow) (n : ℕ) (nexts : List ℕ) (e : ℕ × ℕ) (more : List (ℕ × ℕ)) : Type 0 where
  pub count : ℕ
  pub first : earliest nexts ≡ Some e
  pub behind : more ≡ coming flows count (set nexts e.1 (e.0 + (flow_at flows e.1).period))

pub next_is : (flows : List Flow) (n : ℕ) (nexts : List ℕ) (e : ℕ × ℕ) (more : List (ℕ × ℕ)) → e ∷ more ≡ coming flows n nexts → ComesFirst flows n nexts e more
unfolding coming
next_is flows zero nexts e more is = absurd (cc)
next_is flows (suc n) nexts e more is = go (earliest nexts) refl is
  where
    go : (o : Option (ℕ × ℕ)) → earliest nexts ≡ o → e ∷ more ≡ coming_on (coming flows n) flows nexts o → ComesFirst flows (suc n) nexts e more
    go None f z = absurd (cc)
    go (Some d) f z =
        let same : d ≡ e = cc in
        let rest : more ≡ coming flows n (set nexts d.1 (d.0 + (flow_at flows d.1).period)) = cc in
        record { count = n; first = f ∙ ap Some same; behind = rest ∙ ap (λ (x : ℕ × ℕ). coming flows n (set nexts x.1 (x.0 + (flow_at flows x.1).period))) same }

-- when the next frame of each flow comes, behind one frame and behind so many
abbrev pub next_behind : List Flow → List ℕ → ℕ × ℕ → List ℕ
next_behind flows nexts e = set nexts e.1 (e.0 + (flow_at flows e.1).period)

unfoldable pub nexts_after : List Flow → ℕ → List ℕ → List ℕ
nexts_after flows zero nexts = nexts
nexts_after flows (suc n) nexts = option_map_or (λ e. nexts_after flows n (next_behind flows nexts e)) (earliest nexts) nexts

module _ (flows : List Flow) where
  pub nexts_on : (n : ℕ) (nexts : List ℕ) (e : ℕ × ℕ) → earliest nexts ≡ Some e → nexts_after flows (suc n) nexts ≡ nexts_after flows n (next_behind flows nexts e)
  unfolding nexts_after
  nexts_on n nexts e first = ap (λ o. option_map_or (λ d. nexts_after flows n (next_behind flows nexts d)) o nexts) first

  pub nexts_none : (nexts : List ℕ) → nexts_after flows 0 nexts ≡ nexts
  unfolding nexts_after
  nexts_none nexts = refl

  pub nexts_more : (n : ℕ) (nexts : List ℕ) (e : ℕ × ℕ) (d : ℕ × ℕ) → earliest nexts ≡ Some e → earliest (nexts_after flows n (next_behind flows nexts e)) ≡ Some d → earliest (nexts_after flows (suc n) nexts) ≡ Some d
  nexts_more n nexts e d first is = ap earliest (nexts_on n nexts e first) ∙ is

  -- of those that came
  pub come_at : (came : List Came) (f : Came) (more : List Came) (n : ℕ) (nexts : List ℕ) (ps change : ℕ) → AreComing ps change flows (coming flows n nexts) (came ++ f ∷ more)
      → (e : ℕ × ℕ) × (earliest (nexts_after flows (length came) nexts) ≡ Some e) × (f.moment ≡ change + e.0)
  come_at [] f more n nexts ps change c = (let first = coming_first flows n nexts ps change f more c in (first.1, ap earliest (nexts_none nexts) ∙ first.2, first.3))
  come_at (g ∷ came) f more n nexts ps change c =
      let first = coming_first flows n nexts ps change g (came ++ f ∷ more) c in
      let rest = come_at came f more first.0 (next_behind flows nexts first.1) ps change first.5 in
      (rest.0, nexts_more (length came) nexts first.1 rest.0 first.2 rest.1, rest.2)

  -- of those that are coming
  pub coming_at : (n : ℕ) (nexts : List ℕ) (e : ℕ × ℕ) → earliest (nexts_after flows n nexts) ≡ Some e → slice_get (coming flows (n + 1) nexts) n ≡ Some e
  unfolding nexts_after coming
  coming_at n nexts e is = (let at : suc n ≡ n + 1 = omega arith in ap (λ k. slice_get (coming flows k nexts) n) (sym at) ∙ go n nexts is)
    where
      go : (n : ℕ) (nexts : List ℕ) → earliest (nexts_after flows n nexts) ≡ Some e → slice_get (coming flows (suc n) nexts) n ≡ Some e
      go zero nexts is = ap (λ o. slice_get (coming_on (coming flows zero) flows nexts o) zero) is
      go (suc n) nexts is = by (earliest nexts) refl is (go n)
        where
          by : (o : Option (ℕ × ℕ)) → earliest nexts ≡ o → earliest (option_map_or (λ d. nexts_after flows n (next_behind flows nexts d)) o nexts) ≡ Some e
              → ((xs : List ℕ) → earliest (nexts_after flows n xs) ≡ Some e → slice_get (coming flows (suc n) xs) n ≡ Some e)
              → slice_get (coming_on (coming flows (suc n)) flows nexts o) (suc n) ≡ Some e
          by None none h on = absurd (let no : None ≡ Some e = sym none ∙ h in cc)
          by (Some d) first h on = on (next_behind flows nexts d) h

  -- of a walk
  pub after_nexts : (may : ℕ → ℕ → Bool) (cycle room n : ℕ) (s z : Track) → after may cycle room flows n s ≡ Some z → z.nexts ≡ nexts_after flows n s.nexts
  after_nexts may cycle room zero s z h = ap (λ (x : Track). x.nexts) (sym (after_none may cycle room flows s z h)) ∙ sym (nexts_none s.nexts)
  after_nexts may cycle room (suc n) s z h =
      let stepped = after_step may cycle room flows n s z h in
      let next = has_next may cycle room flows s stepped.0 stepped.1 in
      let is = step_is may cycle room flows s next.0 stepped.0 next.1 stepped.1 in
      after_nexts may cycle room n stepped.0.1 z stepped.2 ∙ (ap (nexts_after flows n) is.nexts ∙ sym (nexts_on n s.nexts next.0 next.1))

  -- behind some and then some more
  pub nexts_add : (m n : ℕ) (nexts : List ℕ) → nexts_after flows (m + n) nexts ≡ nexts_after flows n (nexts_after flows m nexts)
  unfolding nexts_after
  nexts_add zero n nexts = (let at : zero + n ≡ n = omega arith in ap (λ k. nexts_after flows k nexts) at)
  nexts_add (suc m) n nexts =
      (let at : suc m + n ≡ suc (m + n) = omega arith in ap (λ k. nexts_after flows k nexts) at) ∙ by (earliest nexts) refl (nexts_add m n)
    where
      stays : (k : ℕ) → earliest nexts ≡ None → nexts_after flows k nexts ≡ nexts
      stays zero none = refl
      stays (suc k) none = ap (λ o. option_map_or (λ d. nexts_after flows k (next_behind flows nexts d)) o nexts) none

      by : (o : Option (ℕ × ℕ)) → earliest nexts ≡ o → ((xs : List ℕ) → nexts_after flows (m + n) xs ≡ nexts_after flows n (nexts_after flows m xs))
          → option_map_or (λ d. nexts_after flows (m + n) (next_behind flows nexts d)) o nexts ≡ nexts_after flows n (option_map_or (λ d. nexts_after flows m (next_behind flows nexts d)) o nexts)
      by None none on = sym (stays n none)
      by (Some d) first on = on (next_behind flows nexts d)

  -- of those that came the first
  pub first_come : (k n : ℕ) (nexts : List ℕ) (ps change : ℕ) (came : List Came) → AreComing ps change flows (coming flows n nexts) came → (i : ℕ) × AreComing ps change flows (coming flows i nexts) (take k came)
  unfolding coming
  first_come zero n nexts ps change came c = (0, tt)
  first_come (suc k) n nexts ps change [] c = (0, tt)
  first_come (suc k) n nexts ps change (f ∷ came) c =
      let first = coming_first flows n nexts ps change f came c in
      let rest = first_come k first.0 (next_behind flows nexts first.1) ps change came first.5 in
      (suc rest.0, subst (λ o. AreComing ps change flows (coming_on (coming flows rest.0) flows nexts o) (f ∷ take k came)) (sym first.2) (first.3, first.4, rest.1))

  -- ---- moments rise

  -- the first of moments is the least
  pub least_of : (xs : List ℕ) (e : ℕ × ℕ) → earliest xs ≡ Some e → (k : ℕ) → k < length xs → e.0 ≤ get_or xs k 0
  unfolding earliest
  least_of [] e h k less = absurd (omega (arith, less))
  least_of (x ∷ xs) e h k less = go (earliest xs) refl h k less (least_of xs)
    where
      go : (o : Option (ℕ × ℕ)) → earliest xs ≡ o → Some (earlier x o) ≡ Some e → (k : ℕ) → k < suc (length xs) → ((d : ℕ × ℕ) → earliest xs ≡ Some d → (i : ℕ) → i < length xs → d.0 ≤ get_or xs i 0) → e.0 ≤ get_or (x ∷ xs) k 0
      go None none same zero less rest = (let at : x ≡ e.0 = ap (λ (d : ℕ × ℕ). d.0) (same_Some _ _ same) in omega (arith, at))
      go None none same (suc k) less rest =
          let some : 0 < length xs = omega (arith, less) in
          absurd (false≢true (sym (ap is_some none) ∙ some_least xs some))
      go (Some u) first same k less rest = by (leb x u.0) refl (same_Some _ _ same) k less
        where
          by : (b : Bool) → leb x u.0 ≡ b → cond b (x, 0) (u.0, u.1 + 1) ≡ e → (k : ℕ) → k < suc (length xs) → e.0 ≤ get_or (x ∷ xs) k 0
          by true le is zero less = (let at : x ≡ e.0 = ap (λ (d : ℕ × ℕ). d.0) is in omega (arith, at))
          by true le is (suc k) less =
              let at : x ≡ e.0 = ap (λ (d : ℕ × ℕ). d.0) is in
              let behind = rest u first k (omega (arith, less)) in
              let before = leb-true x u.0 le in
              omega (arith, at, behind, before)
          by false gt is zero less =
              let at : u.0 ≡ e.0 = ap (λ (d : ℕ × ℕ). d.0) is in
              let before = leb-false x u.0 gt in
              omega (arith, at, before)
          by false gt is (suc k) less =
              let at : u.0 ≡ e.0 = ap (λ (d : ℕ × ℕ). d.0) is in
              let behind = rest u first k (omega (arith, less)) in
              omega (arith, at, behind)

  pub rises_once : (nexts : List ℕ) (e d : ℕ × ℕ) → earliest nexts ≡ Some e → earliest (next_behind flows nexts e) ≡ Some d → e.0 ≤ d.0
  rises_once nexts e d first second =
      let period : ℕ = (flow_at flows e.1).period in
      let here = first_of nexts e first in
      let there = first_of (next_behind flows nexts e) d second in
      let long = length-set nexts e.1 (e.0 + period) in
      let inside = there.0 in
      elim (cases_eq d.1 e.1) [
        | inl same ↦
            let moved : e.0 + period ≡ d.0 = sym (get_or-set_same nexts e.1 (e.0 + period) 0 here.0) ∙ (ap (λ i. get_or (next_behind flows nexts e) i 0) (sym same) ∙ there.1) in
            omega (arith, moved)
        | inr other ↦
            let still : get_or nexts d.1 0 ≡ d.0 = sym (get_or-set_other nexts e.1 d.1 (e.0 + period) 0 other) ∙ there.1 in
            let least = least_of nexts e first d.1 (omega (arith, inside, long)) in
            omega (arith, still, least)
      ]

  pub rises : (n : ℕ) (nexts : List ℕ) (e d : ℕ × ℕ) → earliest nexts ≡ Some e → earliest (nexts_after flows n nexts) ≡ Some d → e.0 ≤ d.0
  rises zero nexts e d first last =
      let same : e ≡ d = same_Some e d (sym first ∙ (ap earliest (sym (nexts_none nexts)) ∙ last)) in
      let at = ap (λ (x : ℕ × ℕ). x.0) same in
      omega (arith, at)
  rises (suc n) nexts e d first last = go (earliest (next_behind flows nexts e)) refl (λ f h. rises n (next_behind flows nexts e) f d h (ap earliest (sym (nexts_on n nexts e first)) ∙ last))
    where
      go : (o : Option (ℕ × ℕ)) → earliest (next_behind flows nexts e) ≡ o → ((f : ℕ × ℕ) → earliest (next_behind flows nexts e) ≡ Some f → f.0 ≤ d.0) → e.0 ≤ d.0
      go None none on =
          let here = (first_of nexts e first).0 in
          let long = length-set nexts e.1 (e.0 + (flow_at flows e.1).period) in
          absurd (false≢true (sym (ap is_some none) ∙ some_least (next_behind flows nexts e) (omega (arith, here, long))))
      go (Some f) second on =
          let once = rises_once nexts e f first second in
          let more = on f second in
          omega (arith, once, more)
