-- No bound of a hop is cut off: where one of an answer may be, it is as if nothing were known of the class.
use Rattle.std.specs.List.{list_any}
use Rattle.std.proofs.Common.{◌≡◌, ◌<◌, ℕ, zero, suc, ◌+◌, ◌-◌, ◌^◌, ◌&&◌, not, Bool, true, false, List, [], ◌∷◌, Option, Some, None, slice_get, if◌then◌else◌, refl, sym, ap, ◌∙◌, subst}
use Rattle.std.proofs.lemmas.Bool.{ltb-true, not-false, or_parts}
use Rattle.std.proofs.lemmas.Option.{none-some, same_Some}
use Rattle.delay_bounds.specs.declared.Bound.{Bound}
use Rattle.any_traffic.proofs.ListLaws.{none_here}
use Rattle.stream_bounds.specs.Verdicts.{ClassAnswer, unbounded}
use Rattle.stream_bounds.specs.declared.verdicts.Verdict.TheVariants as Verdicts
use Rattle.path_bounds.specs.Answers.{IsJudgedAs, IsUsed, is_cut, is_lacking}
use Rattle.path_bounds.specs.Hops.{arrived, coming_at, is_awaited, is_own, leaving_of, passed_by, passed_on}
use Rattle.path_bounds.specs.Judged.{AreSteps, IsStep, Known, class_in, port_in, unjudged}
use Rattle.path_bounds.specs.Start.{hop_of, never_behind, start_hops, with_port}
use Rattle.path_bounds.specs.declared.hop.Hop.{Hop}
use Rattle.path_bounds.specs.declared.hop.PathPort.{PathPort}
use Rattle.path_bounds.specs.declared.pass.Leaving.{Leaving}
use Rattle.path_bounds.specs.declared.pass.Leaving.TheVariants as Leavings
use Rattle.path_bounds.specs.declared.standings.PairVerdict.{PairVerdict}
use Rattle.path_bounds.specs.declared.start.WayHop.{WayHop}
use Rattle.path_claim.specs.Built.{WholeLaw}

-- ---- bounds of an answer

abbrev AreBelow : List Bound → Type 0
AreBelow left = (i : ℕ) (b : Bound) → slice_get left i ≡ Some b → b.greatest < 2 ^ 128 - 1

none_cut : (left : List Bound) → list_any is_cut left ≡ false → AreBelow left
none_cut [] none i b e = absurd (none_here i b e)
none_cut (x ∷ left) none zero b e =
    let parts = or_parts (is_cut x) (list_any is_cut left) none in
    subst (λ (y : Bound). y.greatest < 2 ^ 128 - 1) (same_Some x b e) (ltb-true x.greatest (2 ^ 128 - 1) (not-false _ parts.0))
none_cut (x ∷ left) none (suc i) b e =
    none_cut left (or_parts (is_cut x) (list_any is_cut left) none).1 i b e

-- an answer without bounds
none_left : (answer : ClassAnswer) → answer ≡ unbounded Verdicts.Idle → AreBelow answer.left
none_left answer none i b e = absurd (none_here i b (sym (ap (λ (y : ClassAnswer). slice_get y.left i) none) ∙ e))

used_below : (found answer : ClassAnswer) (verdict : PairVerdict) (cut : Bool) → list_any is_cut found.left ≡ cut
    → IsUsed cut found answer verdict → AreBelow answer.left
used_below found answer verdict true is used = none_left answer used.0
used_below found answer verdict false is used =
    none_cut answer.left (ap (λ (y : ClassAnswer). list_any is_cut y.left) used.0 ∙ is)

-- ---- hops

abbrev IsWhole : Hop → Type 0
IsWhole h = (b : Bound) → h.bound ≡ Some b → b.greatest < 2 ^ 128 - 1

abbrev AreWholeIn : List Hop → Type 0
AreWholeIn [] = Unit {0}
AreWholeIn (h ∷ hops) = IsWhole h × AreWholeIn hops

whole_at : (hops : List Hop) (k : ℕ) (h : Hop) → AreWholeIn hops → slice_get hops k ≡ Some h → IsWhole h
whole_at [] k h are e = absurd (none_here k h e)
whole_at (x ∷ hops) zero h are e = subst (λ (y : Hop). IsWhole y) (same_Some x h e) are.0
whole_at (x ∷ hops) (suc k) h are e = whole_at hops k h are.1 e

module _ (ports : List PathPort) (clocks : ℕ) where
  begin_whole : (ways : List WayHop) (never : Bool) → AreWholeIn (start_hops ports never ways)
  unfolding start_hops
  begin_whole [] never = tt
  begin_whole (h ∷ ways) never = by (slice_get ports h.port) (begin_whole ways)
    where
      by : (o : Option PathPort) → ((next : Bool) → AreWholeIn (start_hops ports next ways))
          → AreWholeIn (with_port o h never (λ next. start_hops ports next ways))
      by None rest = rest never
      by (Some p) rest = (
        λ (b : Bound) e. absurd (none-some b e),
        rest (never_behind (never && not h.first) (hop_of p h (never && not h.first))),
      )

  -- ---- one step

  module _ (from : PathPort) (port class : ℕ) (left : List Bound) (below : AreBelow left) where
    abbrev passed : (place : ℕ) → Leaving → List Hop → List Hop
    passed = passed_on ports from clocks port class left

    same_bound : (leaving : Leaving) (h : Hop) (awaited : Bool)
        → (if awaited then record h { coming = coming_at from (slice_get ports h.port) clocks leaving h } else h).bound ≡ h.bound
    same_bound leaving h true = refl
    same_bound leaving h false = refl

    whole_on : (hops : List Hop) (place : ℕ) (leaving : Leaving) → AreWholeIn hops → AreWholeIn (passed place leaving hops)
    unfolding passed_on
    whole_on [] place leaving whole = tt
    whole_on (h ∷ hops) place leaving whole =
        by (arrived ports from clocks leaving h) (same_bound leaving h (is_awaited h.coming))
        (is_own port class (arrived ports from clocks leaving h)) (λ (next : ℕ) (behind : Leaving). whole_on hops next behind whole.1)
      where
        by : (k : Hop) → k.bound ≡ h.bound → (own : Bool)
            → ((next : ℕ) (behind : Leaving) → AreWholeIn (passed next behind hops))
            → AreWholeIn (passed_by ports from clocks port class left own place k (λ next behind. passed next behind hops))
        by k same true rest = (λ (b : Bound) e. below place b e, rest (place + 1) (leaving_of k.coming (slice_get left place)))
        by k same false rest = (λ (b : Bound) e. whole.0 b (sym same ∙ e), rest place Leavings.Other)

  step_below : (pair : ℕ) (old new : Known) (step : IsStep ports clocks pair old new) → AreBelow (step.answer).left
  step_below pair old new step =
      by (is_lacking step.port (port_in pair) (class_in pair) old.hops old.verdicts step.shares) step.judged
    where
      by : (lacking : Bool)
          → IsJudgedAs step.port (port_in pair) (class_in pair) old.hops old.verdicts step.shares lacking step.answer step.verdict
          → AreBelow (step.answer).left
      by true judged = none_left step.answer judged.0
      by false (found, answered, used) = used_below found step.answer step.verdict (list_any is_cut found.left) refl used

  step_whole : (pair : ℕ) (old new : Known) → AreWholeIn old.hops → IsStep ports clocks pair old new → AreWholeIn new.hops
  step_whole pair old new whole step =
      subst (λ (hs : List Hop). AreWholeIn hs) (sym step.hops)
      (whole_on step.port (port_in pair) (class_in pair) (step.answer).left (step_below pair old new step) old.hops 0 Leavings.Other whole)

  -- ---- all steps

  steps_whole : (pairs : List ℕ) (old new : Known) → AreWholeIn old.hops → AreSteps ports clocks pairs old new → AreWholeIn new.hops
  steps_whole [] old new whole steps = subst (λ (k : Known). AreWholeIn k.hops) steps whole
  steps_whole (pair ∷ pairs) old new whole steps =
      steps_whole pairs steps.0 new (step_whole pair old steps.0 whole steps.1) steps.2

pub whole_law : WholeLaw
whole_law ports clocks ways known judged k h b e bounded =
    whole_at known.hops k h
    (steps_whole ports clocks known.order (unjudged ports (start_hops ports false ways)) known (begin_whole ports clocks ways false) judged.steps)
    e b bounded
