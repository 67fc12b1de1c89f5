-- Steps, one after another, and that they come to an end.
use Rattle.std.proofs.Common.{◌≡◌, All, ◌<◌, ◌≤◌, ℕ, zero, suc, ◌+◌, ◌*◌, Bool, true, false, List, [], ◌∷◌, ◌++◌, length, replicate, Option, Some, None, slice_get, slice_set, ◌⊎◌, inl, inr, true≢false, refl, sym, ap, ◌∙◌, subst, append_assoc, append-nil, arith, if◌then◌else◌}
use Rattle.std.proofs.lemmas.Bool.{cases_lt}
use Rattle.std.proofs.lemmas.List.{length-set}
use Rattle.std.proofs.lemmas.List.Elements.{All-get_or}
use Rattle.std.proofs.lemmas.Option.{get_or_from_slice_get, slice_get_within}
use Rattle.path_bounds.specs.Answers.{pair_of, verdict_at}
use Rattle.path_bounds.specs.Hops.{IsPort}
use Rattle.path_bounds.specs.Judged.{AreJudged, AreLooked, AreNoMore, AreSteps, IsNext, IsStep, Known, class_in, open_count, port_in, unjudged}
use Rattle.path_bounds.specs.declared.hop.Hop.{Hop}
use Rattle.path_bounds.specs.declared.hop.PathPort.{PathPort}
use Rattle.path_bounds.specs.declared.standings.PairVerdict.{PairVerdict}

-- what is known, by its parts
abbrev pub known_of : List Hop → List (Option PairVerdict) → List ℕ → Known
known_of hops verdicts order = record { hops = hops; verdicts = verdicts; order = order }

-- one verdict more
one_fewer : (verdicts : List (Option PairVerdict)) (i : ℕ) (v : PairVerdict) → i < length verdicts → verdict_at verdicts i ≡ None
    → open_count (slice_set verdicts i (Some v)) + 1 ≤ open_count verdicts
one_fewer [] i v less free = absurd (omega (arith, less))
one_fewer (None ∷ verdicts) zero v less free = omega arith
one_fewer (Some w ∷ verdicts) zero v less free = absurd (let taken : Some w ≡ None = free in cc)
one_fewer (None ∷ verdicts) (suc i) v less free =
    let within : i < length verdicts = omega (arith, less) in
    omega (arith, one_fewer verdicts i v within free)
one_fewer (Some w ∷ verdicts) (suc i) v less free =
    let within : i < length verdicts = omega (arith, less) in
    one_fewer verdicts i v within free

weaker : (any : Bool) (m n : ℕ) → m + (if any then 1 else 0) ≤ n → m ≤ n
weaker true m n less = omega (arith, less)
weaker false m n less = omega (arith, less)

-- the verdict about a class of a port is one of eight for each
pub place_within : (pair count : ℕ) → pair < 8 * count → pair_of (port_in pair) (class_in pair) < 8 * count
place_within pair count less = omega (arith, less)

-- each port of a list is one
pub port_of_all : (ports : List PathPort) (i : ℕ) (port : PathPort) → All IsPort ports → slice_get ports i ≡ Some port → IsPort port
port_of_all ports i port all is =
    let within : i < length ports = slice_get_within ports i port is in
    subst IsPort (get_or_from_slice_get ports i port port is) (All-get_or IsPort ports i port within all)

module _ (ports : List PathPort) (clocks : ℕ) where
  -- steps behind others
  pub joined : (first more : List ℕ) (old between new : Known) → AreSteps ports clocks first old between
      → AreSteps ports clocks more between new → AreSteps ports clocks (first ++ more) old new
  joined [] more old between new same steps = subst (λ (k : Known). AreSteps ports clocks more k new) (sym same) steps
  joined (pair ∷ first) more old between new (next, step, rest) steps =
      (next, step, joined first more next between new rest steps)

  -- none is looked at yet
  pub none_looked : (known : Known) → AreLooked ports clocks 0 known known false
  none_looked known = record {
    pairs = [];
    steps = refl;
    order = sym (append-nil known.order);
    long = refl;
    fewer = omega arith;
    none = λ (not_any : false ≡ false) (pair : ℕ) (less : pair < 0). absurd (omega (arith, less));
  }

  -- a class more is looked at, and judged
  pub judged_more : (pair count : ℕ) (old now new : Known) (any : Bool) → pair < 8 * count → length old.verdicts ≡ 8 * count
      → AreLooked ports clocks pair old now any → IsStep ports clocks pair now new → AreLooked ports clocks (pair + 1) old new true
  judged_more pair count old now new any less long so_far step =
      let known : pair_of (port_in pair) (class_in pair) < 8 * count = place_within pair count less in
      let within : pair_of (port_in pair) (class_in pair) < length now.verdicts = omega (arith, known, long, so_far.long) in
      let lesser : open_count (slice_set now.verdicts (pair_of (port_in pair) (class_in pair)) (Some step.verdict)) + 1 ≤ open_count now.verdicts
      = one_fewer now.verdicts (pair_of (port_in pair) (class_in pair)) step.verdict within step.free in
      let is : open_count new.verdicts ≡ open_count (slice_set now.verdicts (pair_of (port_in pair) (class_in pair)) (Some step.verdict))
      = ap open_count step.verdicts in
      let before : open_count now.verdicts ≤ open_count old.verdicts
      = weaker any (open_count now.verdicts) (open_count old.verdicts) so_far.fewer in
      record {
        pairs = so_far.pairs ++ pair ∷ [];
        steps = joined so_far.pairs (pair ∷ []) old now new so_far.steps (new, step, refl);
        order = step.order ∙ (ap (λ (ps : List ℕ). ps ++ pair ∷ []) so_far.order ∙ append_assoc old.order so_far.pairs (pair ∷ []));
        long = ap length step.verdicts
            ∙ (length-set now.verdicts (pair_of (port_in pair) (class_in pair)) (Some step.verdict) ∙ so_far.long);
        fewer = omega (arith, before, lesser, is);
        none = λ (not_any : true ≡ false). absurd (true≢false not_any);
      }

  -- a class more is looked at, which can't be judged
  pub none_more : (pair : ℕ) (old now : Known) (any : Bool) → AreLooked ports clocks pair old now any → IsNext ports clocks pair now None
      → AreLooked ports clocks (pair + 1) old now any
  none_more pair old now any so_far held_up = record {
    pairs = so_far.pairs;
    steps = so_far.steps;
    order = so_far.order;
    long = so_far.long;
    fewer = so_far.fewer;
    none = λ (not_any : any ≡ false) (other : ℕ) (less : other < pair + 1). up_to not_any other less (cases_lt other pair);
  }
    where
      up_to : any ≡ false → (other : ℕ) → other < pair + 1 → (other < pair) ⊎ (pair ≤ other) → IsNext ports clocks other now None
      up_to not_any other less (inl sooner) = so_far.none not_any other sooner
      up_to not_any other less (inr late) =
          let same : pair ≡ other = omega (arith, less, late) in
          subst (λ (q : ℕ). IsNext ports clocks q now None) same held_up

  -- where no class of all can be judged, none of the ports has one that can be
  pub no_more : (now : Known) → ((pair : ℕ) → pair < 8 * length ports → IsNext ports clocks pair now None) → AreNoMore ports clocks now
  no_more now held_up = λ (pair : ℕ) (port : PathPort) is. held_up pair (below pair port is) port is
    where
      below : (pair : ℕ) (port : PathPort) → slice_get ports (port_in pair) ≡ Some port → pair < 8 * length ports
      below pair port is =
          let less : port_in pair < length ports = slice_get_within ports (port_in pair) port is in
          omega (arith, less)

  -- before any is judged
  pub begins : (hops : List Hop) (verdicts : List (Option PairVerdict)) (order : List ℕ) → verdicts ≡ replicate (8 * length ports) None
      → order ≡ [] → AreSteps ports clocks order (unjudged ports hops) (known_of hops verdicts order)
  begins hops verdicts order is empty =
      subst (λ (ps : List ℕ). AreSteps ports clocks ps (unjudged ports hops) (known_of hops verdicts ps)) (sym empty)
      (ap (λ (vs : List (Option PairVerdict)). known_of hops vs []) (sym is))

  -- a round of looks goes on from what was judged
  pub steps_on : (count : ℕ) (start old new : Known) (any : Bool) → AreSteps ports clocks old.order start old
      → AreLooked ports clocks count old new any → AreSteps ports clocks new.order start new
  steps_on count start old new any steps looked =
      subst (λ (ps : List ℕ). AreSteps ports clocks ps start new) (sym looked.order)
      (joined old.order looked.pairs start old new steps looked.steps)

  -- where a round judged one, fewer are left
  pub fewer_left : (count : ℕ) (old new : Known) → AreLooked ports clocks count old new true
      → open_count new.verdicts < open_count old.verdicts
  fewer_left count old new looked = omega (arith, looked.fewer)

  -- where it judged none, all are judged that can be
  pub all_judged : (start old new : Known) → AreSteps ports clocks old.order start old
      → AreLooked ports clocks (8 * length ports) old new false → AreJudged ports clocks start new
  all_judged start old new steps looked = record {
    steps = steps_on (8 * length ports) start old new false steps looked;
    done = no_more new (looked.none refl);
  }
