-- How long the frames of flows wait.
use Rattle.std.proofs.Common.{◌≡◌, ◌<◌, ℕ, zero, suc, ◌+◌, ◌-◌, max, Bool, true, false, cond, leb, List, [], ◌∷◌, ◌++◌, length, set, Option, Some, None, IsSome, ◌⊎◌, inl, inr, refl, sym, ap, ◌∙◌, subst, arith}
use Rattle.std.proofs.lemmas.Bool.{cases_lt, leb-false, false≢true, both_ways}
use Rattle.std.proofs.lemmas.Option.{same_Some}
use Rattle.wire_time.specs.Wire.{occupancy_of}
use Rattle.wire_time.specs.declared.Frame.{Frame}
use Rattle.gates.specs.Gate.{in_ps}
use Rattle.gates.specs.History.{Accepted, open_through}
use Rattle.abstract_port.specs.declared.Start.{Start}
use Rattle.abstract_port.specs.AbstractPort.{new_port}
use Rattle.abstract_port.specs.Answers.{answers_of}
use Rattle.abstract_port.specs.Laws.{starts_in}
use Rattle.abstract_port.proofs.ServiceLaws.{served_law}
use Rattle.abstract_port.specs.Served.{IsFirst, AreServed}
use Rattle.abstract_port.specs.Traffic.{Came, queued_in, starts_of_class}
use Rattle.delay_bounds.proofs.GateLaws.{may_since, same_gates}
use Rattle.delay_bounds.specs.Claim.{coming, AreComing, offsets_of, earliest, flow_at}
use Rattle.delay_bounds.specs.Bounds.{Track, first_fit, from_on, step, told}
use Rattle.delay_bounds.proofs.Words.{coming_on, starts_at, step_from, told_on, told_first}
use Rattle.delay_bounds.specs.Waits.{HaveWaited, BoundsLaw}
use Rattle.delay_bounds.specs.Walk.{begun, after, begun}
use Rattle.delay_bounds.specs.declared.Flow.{Flow}
use Rattle.delay_bounds.specs.declared.Told.{Told}

-- ---- first moments

pub first_is : (may : ℕ → ℕ → Bool) (d t n s : ℕ) → first_fit may d t n ≡ Some s → IsFirst may d t s
unfolding first_fit
first_is may d t zero s e = absurd (cc)
first_is may d t (suc n) s e = go (may t d) refl e (first_is may d (t + 1) n s)
  where
    go : (b : Bool) → may t d ≡ b → cond b (Some t) (first_fit may d (t + 1) n) ≡ Some s → (first_fit may d (t + 1) n ≡ Some s → IsFirst may d (t + 1) s) → IsFirst may d t s
    go true fits e ih =
        let here : t ≡ s = same_Some t s e in
        record { from = omega arith; fits = subst (λ k. may k d ≡ true) here fits; least = λ m from below. absurd (omega arith) }
    go false shut e ih =
        let rest = ih e in
        let from = rest.from in
        record {
          from = omega arith;
          fits = rest.fits;
          least = λ m from below. elim (cases_lt t m) [
            | inl after ↦ rest.least m (omega arith) below
            | inr here ↦ (let same : t ≡ m = omega arith in subst (λ k. may k d ≡ false) same shut)
          ];
        }

pub one_first : (may : ℕ → ℕ → Bool) (d t s u : ℕ) → IsFirst may d t s → IsFirst may d t u → s ≡ u
one_first may d t s u a b =
    elim (cases_lt s u) [
      | inl less ↦ absurd (both_ways _ (b.least s a.from less) a.fits)
      | inr more ↦ elim (cases_lt u s) [
        | inl less ↦ absurd (both_ways _ (a.least u b.from less) b.fits)
        | inr same ↦ omega arith
      ]
    ]

pub first_since : (a : Accepted) (class d t s : ℕ) → IsFirst (may_since a class) d t s → IsFirst (open_through (a ∷ []) class) d (a.change + t) (a.change + s)
first_since a class d t s h =
    let from = h.from in
    record {
      from = omega arith;
      fits = h.fits;
      least = λ m from below.
          let at : a.change + (m - a.change) ≡ m = omega arith in
          subst (λ k. open_through (a ∷ []) class k d ≡ false) at (h.least (m - a.change) (omega arith) (omega arith));
    }

-- ---- frames that start as they are told

-- the wire of a port and that of a track
abbrev pub IsWire : ℕ → ℕ → ℕ → Type 0
IsWire change free own = (free ≡ change + own) ⊎ ((free ≡ 0) × (own ≡ 0))

pub from_when : (change t free own : ℕ) → IsWire change free own → max (change + t) free ≡ change + max t own
from_when change t free own (inl e) = omega arith
from_when change t free own (inr e) = let x = e.0 in let y = e.1 in omega arith

-- what a step that tells something tells
pub record IsStep (may : ℕ → ℕ → Bool) (cycle size : ℕ) (flows : List Flow) (s : Track) (e : ℕ × ℕ) (r : Told × Track) : Type 0 where
  pub at : ℕ
  pub fit : first_fit may (flow_at flows e.1).need (max e.0 s.free) cycle ≡ Some at
  pub wait : (r.0).wait ≡ at - e.0
  pub place : (r.0).place ≡ e.1
  pub nexts : (r.1).nexts ≡ set s.nexts e.1 (e.0 + (flow_at flows e.1).period)
  pub free : (r.1).free ≡ at + (flow_at flows e.1).need
  pub starts : (r.1).starts ≡ from_on e.0 s.starts ++ at ∷ []
  pub room : length (from_on e.0 s.starts) < size

module _ (may : ℕ → ℕ → Bool) (cycle room : ℕ) (flows : List Flow) where
  pub step_is : (s : Track) (e : ℕ × ℕ) (r : Told × Track) → earliest s.nexts ≡ Some e → step may cycle room flows s ≡ Some r → IsStep may cycle room flows s e r
  unfolding step
  step_is s e r first is = by_room (leb room (length waiting)) refl (sym (ap (λ o. step_from may cycle room flows o s) first) ∙ is)
    where
      waiting : List ℕ
      waiting = from_on e.0 s.starts

      by_fit : length waiting < room → (o : Option ℕ) → first_fit may (flow_at flows e.1).need (max e.0 s.free) cycle ≡ o → starts_at o e.0 e.1 (flow_at flows e.1) s.nexts waiting ≡ Some r → IsStep may cycle room flows s e r
      by_fit few None f z = absurd (cc)
      by_fit few (Some at) f z =
          let same = same_Some _ _ z in
          record { at = at; fit = f; wait = ap (λ x. x.0.wait) (sym same); place = ap (λ x. x.0.place) (sym same); nexts = ap (λ x. x.1.nexts) (sym same); free = ap (λ x. x.1.free) (sym same); starts = ap (λ x. x.1.starts) (sym same); room = few }

      by_room : (b : Bool) → leb room (length waiting) ≡ b → cond b None (starts_at (first_fit may (flow_at flows e.1).need (max e.0 s.free) cycle) e.0 e.1 (flow_at flows e.1) s.nexts waiting) ≡ Some r → IsStep may cycle room flows s e r
      by_room true h z = absurd (cc)
      by_room false h z = by_fit (leb-false room (length waiting) h) (first_fit may (flow_at flows e.1).need (max e.0 s.free) cycle) refl z

  -- where something is told of every frame there is a step
  pub has_step : (s : Track) → IsSome (told may cycle room flows 0 s) → (r : Told × Track) × (step may cycle room flows s ≡ Some r)
  unfolding told
  has_step s some = go (step may cycle room flows s) refl some
    where
      go : (o : Option (Told × Track)) → step may cycle room flows s ≡ o → IsSome (told_first o) → (r : Told × Track) × (step may cycle room flows s ≡ Some r)
      go None e h = absurd (false≢true h)
      go (Some r) e h = (r, e)

  pub told_next : (s : Track) (r : Told × Track) (n : ℕ) → step may cycle room flows s ≡ Some r → told may cycle room flows (suc n) s ≡ told may cycle room flows n r.1
  unfolding told
  told_next s r n e = ap (told_on (told may cycle room flows n)) e

-- a list that comes first has a first
pub coming_first : (flows : List Flow) (n : ℕ) (nexts : List ℕ) (ps change : ℕ) (f : Came) (came : List Came) → AreComing ps change flows (coming flows n nexts) (f ∷ came)
    → (m : ℕ) × (e : ℕ × ℕ) × (earliest nexts ≡ Some e) × (f.moment ≡ change + e.0) × (occupancy_of ps f.frame.len ≡ (flow_at flows e.1).need)
    × AreComing ps change flows (coming flows m (set nexts e.1 (e.0 + (flow_at flows e.1).period))) came
unfolding coming
coming_first flows zero nexts ps change f came h = absurd h
coming_first flows (suc n) nexts ps change f came h = go (earliest nexts) refl h
  where
    go : (o : Option (ℕ × ℕ)) → earliest nexts ≡ o → AreComing ps change flows (coming_on (coming flows n) flows nexts o) (f ∷ came)
        → (m : ℕ) × (e : ℕ × ℕ) × (earliest nexts ≡ Some e) × (f.moment ≡ change + e.0) × (occupancy_of ps f.frame.len ≡ (flow_at flows e.1).need)
        × AreComing ps change flows (coming flows m (set nexts e.1 (e.0 + (flow_at flows e.1).period))) came
    go None is h = absurd h
    go (Some e) is h = (n, e, is, h.0, h.1, h.2)

pub have_waited : (ps class : ℕ) (a : Accepted) (cycle room : ℕ) (flows : List Flow) (starts : List Start) (came : List Came) (n : ℕ) (s : Track) (free now wire : ℕ) (waiting : List Frame)
    → IsWire a.change free s.free
    → ((m : ℕ) → IsSome (told (may_since a class) cycle room flows m s))
    → AreComing ps a.change flows (coming flows n s.nexts) came
    → AreServed (open_through (a ∷ []) class) ps class free now came starts wire waiting
    → HaveWaited (step (may_since a class) cycle room flows) s came starts
have_waited ps class a cycle room flows [] came n s free now wire waiting w tells c h = tt
have_waited ps class a cycle room flows (x ∷ starts) [] n s free now wire waiting w tells c h = h
have_waited ps class a cycle room flows (x ∷ starts) (f ∷ came) n s free now wire waiting w tells c h =
    let first = coming_first flows n s.nexts ps a.change f came c in
    let m = first.0 in
    let e = first.1 in
    let here = first.3 in
    let needs = first.4 in
    let stepped = has_step (may_since a class) cycle room flows s (tells 0) in
    let r = stepped.0 in
    let is = step_is (may_since a class) cycle room flows s e r first.2 stepped.1 in
    let fits = first_is (may_since a class) (flow_at flows e.1).need (max e.0 s.free) cycle is.at is.fit in
    let from = fits.from in
    let told_first = first_since a class (flow_at flows e.1).need (max e.0 s.free) is.at fits in
    let start = h.0 in
    let since : max f.moment free ≡ a.change + max e.0 s.free = ap (λ k. max k free) here ∙ from_when a.change e.0 free s.free w in
    let mine = subst (λ k. IsFirst (open_through (a ∷ []) class) k (a.change + max e.0 s.free) x.at) needs
    (subst (λ k. IsFirst (open_through (a ∷ []) class) (occupancy_of ps (f.frame).len) k x.at) since start.first) in
    let same : x.at ≡ a.change + is.at = one_first (open_through (a ∷ []) class) (flow_at flows e.1).need (a.change + max e.0 s.free) x.at (a.change + is.at) mine told_first in
    let wait = is.wait in
    let ends : x.«end» ≡ x.at + occupancy_of ps (f.frame).len = ap (λ (z : Start). z.«end») start.is in
    let freed = is.free in (
      r,
      stepped.1,
      omega arith,
      have_waited ps class a cycle room flows starts came m r.1 x.«end» now wire waiting (inl (omega arith))
          (λ k. subst IsSome (told_next (may_since a class) cycle room flows s r k stepped.1) (tells (suc k)))
          (subst (λ xs. AreComing ps a.change flows (coming flows m xs) came) (sym is.nexts) first.5)
          h.1,
    )

-- ---- the law

-- of the first frames, up to one after which there are more, something is told
pub told_until : (may : ℕ → ℕ → Bool) (cycle room : ℕ) (flows : List Flow) (j m : ℕ) (s y : Track) → m < j → after may cycle room flows j s ≡ Some y → IsSome (told may cycle room flows m s)
unfolding told after
told_until may cycle room flows zero m s y less e = absurd (omega arith)
told_until may cycle room flows (suc j) zero s y less e = go (step may cycle room flows s) e
  where
    go : (o : Option (Told × Track)) → elim o [ None ↦ None | Some r ↦ after may cycle room flows j r.1 ] ≡ Some y → IsSome (told_first o)
    go None e = absurd (cc)
    go (Some r) e = refl
told_until may cycle room flows (suc j) (suc m) s y less e = go (step may cycle room flows s) e (λ r f. told_until may cycle room flows j m r y (omega arith) f)
  where
    go : (o : Option (Told × Track)) → elim o [ None ↦ None | Some r ↦ after may cycle room flows j r.1 ] ≡ Some y → ((r : Track) → after may cycle room flows j r ≡ Some y → IsSome (told may cycle room flows m r)) → IsSome (told_on (told may cycle room flows m) o)
    go None e ih = absurd (cc)
    go (Some r) e ih = ih r.1 e

pub bounds_law : BoundsLaw
bounds_law ps mtu room class a plan events flows n rate large lc is above apart only c tells =
    let h = served_law ps mtu room class a events rate large lc apart only in
    let cycle : ℕ = in_ps plan.cycle in
    let same = same_gates a plan is above class in
    subst (λ may. HaveWaited (step may cycle room flows) (begun (offsets_of flows)) (queued_in class events (new_port ps mtu room)) (starts_of_class class (starts_in (answers_of events (new_port ps mtu room))))) same
    (have_waited ps class a cycle room flows _ _ n (begun (offsets_of flows)) 0 _ h.free _ (inr (refl, refl))
    (subst (λ may. (m : ℕ) → IsSome (told may cycle room flows m (begun (offsets_of flows)))) (sym same) tells) c h.served)
