use Rattle.std.proofs.Common.{◌≡◌, ◌<◌, ◌≤◌, ◌+◌, ◌^◌, ℕ, List, ◌++◌, ◌∷◌, [], length, get_or, set, inl, inr, refl, sym, ◌∙◌, subst, arith}
use Rattle.std.proofs.lemmas.List.{get_or_default, length-append, get_or-set_same, get_or-set_other}
use Rattle.std.proofs.lemmas.List.Elements.{All-get_or}
use Rattle.std.proofs.lemmas.Bool.{cases_lt}
use Rattle.burst_bounds.specs.Talkers.{curve, IsTalker}
use Rattle.burst_bounds.specs.Walk.{AreArrivals, AreBelow, IsArrival, comes_at, talker_at}
use Rattle.burst_bounds.specs.declared.Talker.{Talker}
use Rattle.burst_bounds.proofs.ArrivalLaws.{AreCounted, arrives_next, counted_next, one_counted, total}
use Rattle.burst_bounds.proofs.SlotLaws.{one_more}
use Rattle.burst_bounds.proofs.arrivals.arrivals.Goals as goal

-- one count more
few_more : (counts : List ℕ) (place n : ℕ) → place < length counts → ((i : ℕ) → get_or counts i 0 ≤ n) → (i : ℕ)
    → get_or (set counts place (get_or counts place 0 + 1)) i 0 ≤ n + 1
few_more counts place n listed few i = elim (cases_lt i place) [
  | inl before ↦ other (λ e. (let wrong : ⊥ = omega (arith, e, before) in wrong))
  | inr after ↦ elim (cases_lt place i) [
    | inl behind ↦ other (λ e. (let wrong : ⊥ = omega (arith, e, behind) in wrong))
    | inr here ↦
        let e : place ≡ i = omega (arith, here, after) in
        let own = get_or-set_same counts place (get_or counts place 0 + 1) 0 listed in
        let f = few place in
        subst (λ k. get_or (set counts place (get_or counts place 0 + 1)) k 0 ≤ n + 1) e (omega (arith, own, f))
  ]
]
  where
    other : (i ≡ place → ⊥) → get_or (set counts place (get_or counts place 0 + 1)) i 0 ≤ n + 1
    other apart = (let is = get_or-set_other counts place i (get_or counts place 0 + 1) 0 apart in let f = few i in omega (arith, is, f))

-- what is kept, with the moment and the counts by what they are
record IsKept (talkers : List Talker) (moments counts : List ℕ) (n : ℕ) : Type 0 where
  pub count : length moments ≡ n
  pub moments_are : AreArrivals (curve talkers) moments
  pub below : AreBelow 120 moments
  pub sum : total counts ≡ n
  pub few : (i : ℕ) → get_or counts i 0 ≤ n
  pub counted : (last : ℕ) × AreCounted talkers counts last

kept_next : (talkers : List Talker) (moments counts : List ℕ) (n place moment : ℕ)
    → ((i : ℕ) → i < length talkers → 0 < (talker_at talkers i).period)
    → IsKept talkers moments counts n → place < length talkers → moment ≡ comes_at (talker_at talkers place) (get_or counts place 0)
    → ((i : ℕ) → i < length talkers → moment ≤ comes_at (talker_at talkers i) (get_or counts i 0)) → moment < 2 ^ 120
    → IsKept talkers (moments ++ moment ∷ []) (set counts place (get_or counts place 0 + 1)) (n + 1)
kept_next talkers moments counts n place moment these h inside is first below =
    let last : ℕ = h.counted.0 in
    let old = h.counted.1 in
    let firsts : (i : ℕ) → i < length talkers → comes_at (talker_at talkers place) (get_or counts place 0) ≤ comes_at (talker_at talkers i)
    (get_or counts i 0) =
    λ i less. subst (λ k. k ≤ comes_at (talker_at talkers i) (get_or counts i 0)) is (first i less)
    in
    let arrives = arrives_next talkers counts last place these old inside firsts in
    let here : IsArrival (curve talkers) (length moments) moment =
    subst (λ k. IsArrival (curve talkers) k moment) (h.sum ∙ sym h.count)
    (subst (IsArrival (curve talkers) (total counts)) (sym is) arrives)
    in
    let all = length-append moments (moment ∷ []) in
    let one : length (moment ∷ []) ≡ 1 = refl in
    let listed : place < length counts = (let same = old.places in omega (arith, same, inside)) in
    record {
      count = (let c = h.count in omega (arith, all, one, c));
      moments_are = record { each = one_more (IsArrival (curve talkers)) moments moment h.moments_are.each here };
      below = record { each = one_more (λ i x. x < 2 ^ 120) moments moment h.below.each below };
      sum = (let s = one_counted talkers counts last place these old inside firsts in let sum = h.sum in omega (arith, s, sum));
      few = few_more counts place n listed h.few;
      counted = (
        comes_at (talker_at talkers place) (get_or counts place 0),
        counted_next talkers counts last place these old inside
            firsts,
      );
    }

pub loop-i-preserved : goal.loop-i-preserved
loop-i-preserved g c =
    let inv = c.loop-i.invariant in
    let talkers : List Talker = c.args.talkers.now in
    let counts : List ℕ = c.loop-i.counts.items in
    let told = c.next_of-moment.ensures in
    let place : ℕ = c.next_of-moment.result.1 in
    let moment : ℕ = c.next_of-moment.result.0 in
    let seen : c.deref.result.now ≡ counts = c.deref.ensures.value in
    let these : (i : ℕ) → i < length talkers → 0 < (talker_at talkers i).period =
    λ i less. (All-get_or IsTalker talkers i (record { need = 0; period = 0; jitter = 0 }) less c.requires.talkers).above
    in
    let is : moment ≡ comes_at (talker_at talkers place) (get_or counts place 0) = subst
    (λ xs. moment ≡ comes_at (talker_at talkers place) (get_or xs place 0)) seen told.moment in
    let first : (i : ℕ) → i < length talkers → moment ≤ comes_at (talker_at talkers i) (get_or counts i 0) =
    λ i less. subst (λ xs. moment ≤ comes_at (talker_at talkers i) (get_or xs i 0)) seen (told.first i less)
    in
    let old : IsKept talkers c.loop-i.moments.items counts c.loop-i._i =
    record { count = inv.count; moments_are = inv.moments; below = inv.below; sum = inv.sum; few = inv.few; counted = inv.counted }
    in
    let next = kept_next talkers c.loop-i.moments.items counts c.loop-i._i place moment these old told.within is first told.below in
    let listed : place < length counts = (let same = (inv.counted.1).places in let inside = told.within in omega (arith, same, inside)) in
    let value : c.index_mut.result.now ≡ get_or counts place 0 = c.index_mut.ensures.value ∙ get_or_default counts place
    c.index_mut.result.now 0 listed in
    let pushed = c.in_ok-push.ensures.items in
    let all : IsKept talkers c.push.new.self.items (set counts place (c.index_mut.result.now + 1)) (c.loop-i._i + 1) =
    subst (λ xs. IsKept talkers xs (set counts place (c.index_mut.result.now + 1)) (c.loop-i._i + 1)) (sym pushed)
    (subst (λ n. IsKept talkers (c.loop-i.moments.items ++ moment ∷ []) (set counts place (n + 1)) (c.loop-i._i + 1)) (sym value) next)
    in
    record { count = all.count; moments = all.moments_are; below = all.below; sum = all.sum; few = all.few; counted = all.counted }
