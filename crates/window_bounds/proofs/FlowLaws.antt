-- Flows as talkers, and their longest need.
use Rattle.std.proofs.Common.{◌≡◌, ◌<◌, ◌≤◌, ℕ, zero, suc, ◌+◌, ◌%◌, max, All, List, [], ◌∷◌, length, drop, refl, sym, ap, ◌∙◌, subst, arith, drop_of_length-le}
use Rattle.std.proofs.Math.Nat.{mul-mod_right}
use Rattle.std.proofs.lemmas.List.{get_or-map, length-map}
use Rattle.std.proofs.lemmas.List.Elements.{All-map}
use Rattle.wire_time.specs.Moment.{greatest_moment}
use Rattle.any_traffic.specs.PeriodicWindows.{ArePeriodic, PeriodicFlow}
use Rattle.burst_bounds.specs.Reach.{IsCommonTime}
use Rattle.burst_bounds.specs.Talkers.{IsTalker}
use Rattle.burst_bounds.specs.declared.Talker.{Talker}
use Rattle.window_bounds.specs.Flows.{IsFlow, flows_of, longest_need, talker_of, talkers_of}
use Rattle.window_bounds.specs.Least.{IsRepeat}
use Rattle.window_bounds.specs.Notes.{jittered_at}
use Rattle.window_bounds.specs.declared.JitteredFlow.{JitteredFlow}
use Rattle.window_bounds.proofs.NoteLaws.{flow_there}

pub are_talkers : (flows : List JitteredFlow) → All IsFlow flows → All IsTalker (talkers_of flows)
are_talkers flows all = All-map IsTalker talker_of flows
    (λ k f less.
    let is = all k f less in
    let some = is.some in
    let order = is.order in
    record { some = omega (arith, some, order); need = is.longest; above = is.above; period = is.period; jitter = is.jitter })

-- ---- the longest need

pub need_small : (flows : List JitteredFlow) → All IsFlow flows → longest_need flows ≤ greatest_moment
need_small [] all = omega arith
need_small (f ∷ flows) all =
    let here = (all 0 f (omega arith)).longest in
    let rest = need_small flows (λ k d less. all (suc k) d (omega (arith, less))) in
    omega (arith, here, rest)

pub need_at : (flows : List JitteredFlow) (i : ℕ) → i < length flows → (jittered_at flows i).longest ≤ longest_need flows
need_at [] i less = absurd (omega (arith, less))
need_at (f ∷ flows) zero less = omega arith
need_at (f ∷ flows) (suc i) less = (let rest = need_at flows i (omega (arith, less)) in omega (arith, rest))

pub need_above : (flows : List JitteredFlow) → 0 < length flows → All IsFlow flows → 0 < longest_need flows
need_above flows some all =
    let f = all 0 (record { offset = 0; period = 0; jitter = 0; shortest = 0; longest = 0 }) some in
    let low = need_at flows 0 some in
    let above = f.some in
    let order = f.order in
    omega (arith, low, above, order)

-- of those from a place on
pub need_more : (flows : List JitteredFlow) (i : ℕ) (need next total : ℕ) → i < length flows
    → max need (longest_need (drop i flows)) ≡ total → next ≡ max (jittered_at flows i).longest need
    → max next (longest_need (drop (i + 1) flows)) ≡ total
need_more flows i need next total less h is = (let step = need_next flows i less in omega (arith, h, is, step))
  where
    need_next : (fs : List JitteredFlow) (k : ℕ) → k < length fs
        → longest_need (drop k fs) ≡ max (jittered_at fs k).longest (longest_need (drop (k + 1) fs))
    need_next [] k less = absurd (omega (arith, less))
    need_next (f ∷ fs) zero less = refl
    need_next (f ∷ fs) (suc k) less =
        need_next fs k (omega (arith, less)) ∙ ap (λ xs. max (jittered_at fs k).longest (longest_need xs))
        ((let e : k + 1 ≡ suc k = omega arith in ap (λ n. drop n fs) e)
        ∙ sym (ap (λ n. drop n (f ∷ fs)) (let e : suc k + 1 ≡ suc (suc k) = omega arith in e)))

pub need_all : (flows : List JitteredFlow) (i : ℕ) (need total : ℕ) → length flows ≤ i
    → max need (longest_need (drop i flows)) ≡ total → need ≡ total
need_all flows i need total done h = (let none = ap longest_need (drop_of_length-le flows done) in omega (arith, h, none))

pub are_periodic : (flows : List JitteredFlow) → All IsFlow flows → ArePeriodic (longest_need flows) (flows_of flows)
are_periodic flows all i flow e =
    let there = flow_there flows i flow e in
    let f = all i (record { offset = 0; period = 0; jitter = 0; shortest = 0; longest = 0 }) there.0 in (
      subst (λ (g : PeriodicFlow). 0 < g.period) there.1 f.above,
      subst (λ (g : PeriodicFlow). g.longest ≤ longest_need flows) there.1 (need_at flows i there.0),
    )

-- ---- a time of whole cycles and periods

pub repeat_at : (flows : List JitteredFlow) (cycle every i : ℕ) → 0 < cycle → IsCommonTime (talkers_of flows) cycle every → i < length flows
    → IsRepeat cycle (jittered_at flows i).period every
repeat_at flows cycle every i above is less =
    let many = length-map flows talker_of in
    let at = get_or-map talker_of flows i (record { offset = 0; period = 0; jitter = 0; shortest = 0; longest = 0 })
    (record { need = 0; period = 0; jitter = 0 }) less in
    record {
      above = above;
      cycles = ap (λ k. k % cycle) is.whole ∙ mul-mod_right cycle is.cycles;
      periods = subst (λ (x : Talker). every % x.period ≡ 0) at (is.divides i (omega (arith, less, many)));
      lasts = is.lasts;
    }
