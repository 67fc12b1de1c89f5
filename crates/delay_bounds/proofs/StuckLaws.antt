-- The first frame that finds no room, where nothing starts any more.
use Rattle.std.proofs.Common.{◌≡◌, ◌<◌, ◌≤◌, ◌^◌, ℕ, zero, suc, ◌+◌, ◌-◌, Bool, true, false, cond, leb, ltb, List, [], ◌∷◌, ◌++◌, length, Option, Some, None, inl, inr, refl, sym, ap, ◌∙◌, subst, arith, append-nil}
use Rattle.std.proofs.lemmas.Bool.{cases_lt, leb-true, leb-false, ltb-false}
use Rattle.std.proofs.lemmas.Option.{same_Some}
use Rattle.wire_time.specs.Moment.{greatest_moment}
use Rattle.wire_time.specs.declared.Frame.{Frame}
use Rattle.gates.specs.Gate.{in_ps}
use Rattle.abstract_port.specs.AbstractPort.{AbstractPort, new_port, queue_of}
use Rattle.abstract_port.specs.Traffic.{Came, offered_in}
use Rattle.gates.specs.History.{Accepted}
use Rattle.delay_bounds.specs.declared.Flow.{Flow}
use Rattle.delay_bounds.specs.declared.Refused.{Refused}
use Rattle.delay_bounds.specs.Bounds.{Track, from_on}
use Rattle.delay_bounds.specs.Claim.{earliest, flow_at, offsets_of}
use Rattle.delay_bounds.specs.ForEver.{counts_from, counting}
use Rattle.delay_bounds.specs.Never.{StuckLaw}
use Rattle.delay_bounds.specs.Walk.{after, begun, may_by}
use Rattle.delay_bounds.specs.Stuck.{refused_at, refused_in, refused_of, staying}
use Rattle.delay_bounds.proofs.GateLaws.{may_since, same_gates}
use Rattle.delay_bounds.proofs.NeverLaws.{shut_since}
use Rattle.delay_bounds.proofs.QueueLaws.{Comes, IsShut, before_track, from_both, from_more, from_most, one_dropped, waits_there}
use Rattle.delay_bounds.proofs.StepLaws.{after_nexts, coming_at, counting_nexts, next_behind, nexts_add, nexts_after, nexts_more, nexts_none, nexts_on, rises}

-- where those of moments that are past are left out, those that are past later are the same
from_less : (e t : ℕ) (xs : List ℕ) → e ≤ t → from_on t (from_on e xs) ≡ from_on t xs
from_less e t xs le = ap (from_on t) (sym (append-nil (from_on e xs))) ∙ (from_both e t xs [] le ∙ ap (from_on t) (append-nil xs))

-- what counts of a track when a frame comes
counting_starts : (s : Track) (e : ℕ × ℕ) → earliest s.nexts ≡ Some e → (counting s).starts ≡ from_on e.0 s.starts
counting_starts s e first = ap (λ o. (counts_from o s).starts) first

-- Behind a track the first frame that finds no room comes after so many others, each of which stays.
record IsRefusal (room : ℕ) (flows : List Flow) (s : Track) (r : Refused) : Type 0 where
  count : ℕ
  next : earliest (nexts_after flows count s.nexts) ≡ Some (r.moment, r.place)
  none : room ≤ length (from_on r.moment s.starts) + count
  some : (j : ℕ) (e : ℕ × ℕ) → j < count → earliest (nexts_after flows j s.nexts) ≡ Some e → (e.0 ≤ greatest_moment) × (length (from_on e.0 s.starts) + j < room)

module _ (room : ℕ) (flows : List Flow) where
  -- one more stays
  one_stays : (s : Track) (r : Refused) (e : ℕ × ℕ) → earliest s.nexts ≡ Some e → length (counting s).starts < room → e.0 ≤ greatest_moment
      → IsRefusal room flows (staying (flow_at flows e.1) e (counting s)) r → IsRefusal room flows s r
  one_stays s r e first few soon k = record {
    count = suc k.count;
    next = next;
    none = none;
    some = some;
  }
    where
      stayed : Track
      stayed = staying (flow_at flows e.1) e (counting s)

      behind : stayed.nexts ≡ next_behind flows s.nexts e
      behind = ap (λ xs. next_behind flows xs e) (counting_nexts s)

      next : earliest (nexts_after flows (suc k.count) s.nexts) ≡ Some (r.moment, r.place)
      next = nexts_more flows k.count s.nexts e (r.moment, r.place) first (ap (λ xs. earliest (nexts_after flows k.count xs)) (sym behind) ∙ k.next)

      -- what waits later
      waits : (t : ℕ) → e.0 ≤ t → from_on t stayed.starts ≡ from_on t (s.starts ++ (2 ^ 128 - 1) ∷ [])
      waits t le = ap (λ xs. from_on t (xs ++ (2 ^ 128 - 1) ∷ [])) (counting_starts s e first) ∙ from_both e.0 t s.starts ((2 ^ 128 - 1) ∷ []) le

      none : room ≤ length (from_on r.moment s.starts) + suc k.count
      none =
          let later = rises flows (suc k.count) s.nexts e (r.moment, r.place) first next in
          let same = ap length (waits r.moment later) in
          let most = from_most r.moment (2 ^ 128 - 1) s.starts in
          let many = k.none in
          omega (arith, same, most, many)

      some : (j : ℕ) (d : ℕ × ℕ) → j < suc k.count → earliest (nexts_after flows j s.nexts) ≡ Some d → (d.0 ≤ greatest_moment) × (length (from_on d.0 s.starts) + j < room)
      some zero d less at =
          let same : e ≡ d = same_Some e d (sym first ∙ (ap earliest (sym (nexts_none flows s.nexts)) ∙ at)) in
          let count = ap length (counting_starts s e first) in
          subst (λ (x : ℕ × ℕ). (x.0 ≤ greatest_moment) × (length (from_on x.0 s.starts) + 0 < room)) same
          (soon, (let below : length (from_on e.0 s.starts) + 0 < room = omega (arith, few, count) in below))
      some (suc j) d less at =
          let later = rises flows (suc j) s.nexts e d first at in
          let rest = k.some j d (omega (arith, less)) (ap (λ xs. earliest (nexts_after flows j xs)) behind ∙ (ap earliest (sym (nexts_on flows j s.nexts e first)) ∙ at)) in
          let by = rest.0 in
          let below = rest.1 in
          let same = ap length (waits d.0 later) in
          let more = from_more d.0 (2 ^ 128 - 1) s.starts (omega (arith, by)) in
          (rest.0, (let fewer : length (from_on d.0 s.starts) + suc j < room = omega (arith, below, same, more) in fewer))

  refusal_of : (n : ℕ) (s : Track) (r : Refused) → refused_in room flows n s ≡ Some r → IsRefusal room flows s r
  unfolding refused_in
  refusal_of zero s r h = absurd (let no : None ≡ Some r = h in cc)
  refusal_of (suc n) s r h = go (earliest s.nexts) refl h (refusal_of n)
    where
      go : (o : Option (ℕ × ℕ)) → earliest s.nexts ≡ o → refused_at room flows (refused_in room flows n) o (counting s) ≡ Some r → ((z : Track) (d : Refused) → refused_in room flows n z ≡ Some d → IsRefusal room flows z d) → IsRefusal room flows s r
      go None first h on = absurd (let no : None ≡ Some r = h in cc)
      go (Some e) first h on = by (leb room (length (counting s).starts)) refl (ltb greatest_moment e.0) refl h
        where
          by : (b : Bool) → leb room (length (counting s).starts) ≡ b → (c : Bool) → ltb greatest_moment e.0 ≡ c
              → cond b (Some (refused_of flows e)) (cond c None (refused_in room flows n (staying (flow_at flows e.1) e (counting s)))) ≡ Some r → IsRefusal room flows s r
          by true full c late h =
              let many = leb-true _ _ full in
              let same = ap length (counting_starts s e first) in
              subst (IsRefusal room flows s) (same_Some (refused_of flows e) r h) (record {
                count = 0;
                next = ap earliest (nexts_none flows s.nexts) ∙ first;
                none = omega (arith, many, same);
                some = λ j d less at. absurd (omega (arith, less));
              })
          by false few true late h = absurd (let no : None ≡ Some r = h in cc)
          by false few false soon h = one_stays s r e first (leb-false _ _ few) (ltb-false _ _ soon) (on (staying (flow_at flows e.1) e (counting s)) r h)

pub stuck_law : StuckLaw
stuck_law plan class room flows m z e r lc above there next none refused =
    let cycle : ℕ = in_ps plan.cycle in
    let begins : Track = begun (offsets_of flows) in
    let ref = refusal_of room flows (room + 1) (counting z) r refused in
    let k : ℕ = m + ref.count in
    let nexts = ap (nexts_after flows ref.count) (counting_nexts z ∙ after_nexts flows (may_by plan class) cycle room m begins z there) ∙ sym (nexts_add flows m ref.count (offsets_of flows)) in
    let last : earliest (nexts_after flows k (offsets_of flows)) ≡ Some (r.moment, r.place) = ap earliest (sym nexts) ∙ ref.next in
    let frame = coming_at flows k (offsets_of flows) (r.moment, r.place) last in (
      k,
      (
        frame,
        λ ps mtu n events run up_to.
            let a : Accepted = run.command in
            let there_since = ap (λ may. after may cycle room flows m begins) (same_gates a plan run.is above class) ∙ there in
            let shut = shut_since a plan class flows z e run.is above next none in
            let total : ℕ = length (offered_in class events (new_port ps mtu room)) in
            one_dropped ps mtu room class a flows (offsets_of flows) events n run.rate run.large lc run.apart run.only run.come k
            (λ p f came x less. finds_room ps a total there_since shut ref p f came x less)
            (λ p f came x here. finds_none ps a total there_since shut ref last p f came x here)
            up_to,
      ),
    )
  where
    -- the frame that comes behind the track
    behind : (j : ℕ) (came : List Came) (d : ℕ × ℕ) → length came ≡ m + j → earliest (nexts_after flows (length came) (offsets_of flows)) ≡ Some d → earliest (nexts_after flows j (counting z).nexts) ≡ Some d
    behind j came d count at =
        ap earliest (ap (nexts_after flows j) (counting_nexts z ∙ after_nexts flows (may_by plan class) (in_ps plan.cycle) room m (begun (offsets_of flows)) z there) ∙ sym (nexts_add flows m j (offsets_of flows)))
        ∙ (ap (λ i. earliest (nexts_after flows i (offsets_of flows))) (sym count) ∙ at)

    -- as many wait by what counts of the track
    counts : (j : ℕ) (d : ℕ × ℕ) → earliest (nexts_after flows j (counting z).nexts) ≡ Some d → length (from_on d.0 (counting z).starts) ≡ length (from_on d.0 z.starts)
    counts j d at =
        let later = rises flows j z.nexts e d next (ap (λ xs. earliest (nexts_after flows j xs)) (sym (counting_nexts z)) ∙ at) in
        ap (λ xs. length (from_on d.0 xs)) (counting_starts z e next) ∙ ap length (from_less e.0 d.0 z.starts later)

    finds_room : (ps : ℕ) (a : Accepted) (total : ℕ) → after (may_since a class) (in_ps plan.cycle) room flows m (begun (offsets_of flows)) ≡ Some z → IsShut (may_since a class) flows z → (ref : IsRefusal room flows (counting z) r)
        → (p : AbstractPort) (f : Frame) (came : List Came) → Comes ps class a room flows (offsets_of flows) lc total p f came → length came < m + ref.count → length (queue_of p class) < p.room
    finds_room ps a total there_since shut ref p f came x less = elim (cases_lt (length came) m) [
      | inl before ↦ before_track ps class a room flows (offsets_of flows) lc (in_ps plan.cycle) total m z p f came x there_since before
      | inr le ↦
          let j : ℕ = length came - m in
          let count : length came ≡ m + j = omega (arith, le) in
          let w = waits_there ps class a room flows (offsets_of flows) lc (in_ps plan.cycle) room total m j z p f came x there_since count (inr shut) in
          let at = behind j came w.0 count w.1 in
          let few = (ref.some j w.0 (omega (arith, less, le)) at).1 in
          let same = counts j w.0 at in
          let all = w.2 in
          let size = x.size in
          omega (arith, few, same, all, size)
    ]

    finds_none : (ps : ℕ) (a : Accepted) (total : ℕ) → after (may_since a class) (in_ps plan.cycle) room flows m (begun (offsets_of flows)) ≡ Some z → IsShut (may_since a class) flows z → (ref : IsRefusal room flows (counting z) r)
        → earliest (nexts_after flows (m + ref.count) (offsets_of flows)) ≡ Some (r.moment, r.place)
        → (p : AbstractPort) (f : Frame) (came : List Came) → Comes ps class a room flows (offsets_of flows) lc total p f came → length came ≡ m + ref.count → p.room ≤ length (queue_of p class)
    finds_none ps a total there_since shut ref last p f came x here =
        let w = waits_there ps class a room flows (offsets_of flows) lc (in_ps plan.cycle) room total m ref.count z p f came x there_since here (inr shut) in
        let d : ℕ × ℕ = (r.moment, r.place) in
        let this : d ≡ w.0 = same_Some d w.0 (sym last ∙ (ap (λ i. earliest (nexts_after flows i (offsets_of flows))) (sym here) ∙ w.1)) in
        let same = counts ref.count d ref.next in
        let moved = ap (λ (y : ℕ × ℕ). length (from_on y.0 z.starts)) this in
        let many = ref.none in
        let all = w.2 in
        let size = x.size in
        omega (arith, many, same, moved, all, size)
