-- The bounds that a walk over the moments finds are the least.
use Rattle.std.proofs.Common.{◌≡◌, ◌<◌, ℕ, ◌+◌, List, length, Option, Some, None, IfSome, All, refl, sym, ap, ◌∙◌, subst, arith}
use Rattle.std.proofs.lemmas.Bool.{both_ways}
use Rattle.gates.specs.Gate.{IsSchedule, Plan, in_ps}
use Rattle.abstract_port.specs.Served.{IsFirst}
use Rattle.delay_bounds.specs.Bounds.{first_fit}
use Rattle.delay_bounds.specs.Walk.{may_by}
use Rattle.delay_bounds.proofs.GateLaws.{by_repeats}
use Rattle.delay_bounds.proofs.LongestWaitLaws.{found}
use Rattle.delay_bounds.proofs.NeverLaws.{none_ever}
use Rattle.any_traffic.specs.AnyTraffic.{AreCurveBounds}
use Rattle.burst_bounds.specs.Busy.{HasFrames}
use Rattle.burst_bounds.specs.Good.{IsGood}
use Rattle.burst_bounds.specs.Least.{AreLeast}
use Rattle.burst_bounds.specs.Reach.{AreUnder, AreWindowsSeen, IsCommon, IsRead, IsSeen, MayComeAgain, frames_of}
use Rattle.burst_bounds.specs.Talkers.{IsTalker, curve, longest_need}
use Rattle.burst_bounds.specs.Walk.{AreArrivals, AreSlots}
use Rattle.burst_bounds.specs.declared.Bounds.{Bounds}
use Rattle.burst_bounds.specs.declared.Talker.{Talker}
use Rattle.burst_bounds.specs.declared.repeats.Repeat.{Repeat}
use Rattle.burst_bounds.specs.declared.moments.Reach.{Reach}
use Rattle.burst_bounds.proofs.CoverLaws.{moments_law}
use Rattle.burst_bounds.proofs.SeenLaws.{good_more, good_of, reached, under}
use Rattle.burst_bounds.proofs.TalkerLaws.{curve_adds, curve_again, curve_rises, curve_some, need_above}

-- where one frame fits, one does from each moment on
pub each_fits : (plan : Plan) (class d s : ℕ) → 0 < plan.cycle → IsFirst (may_by plan class) d 0 s → (t : ℕ)
    → (u : ℕ) × IsFirst (may_by plan class) d t u
each_fits plan class d s above first t = by (first_fit (may_by plan class) d 0 (in_ps plan.cycle)) refl
  where
    by : (o : Option ℕ) → first_fit (may_by plan class) d 0 (in_ps plan.cycle) ≡ o → (u : ℕ) × IsFirst (may_by plan class) d t u
    by None is = absurd (both_ways _ (none_ever (may_by plan class) (in_ps plan.cycle) d 0 (omega (arith, above))
        (λ k. by_repeats plan above class k) is s) first.fits)
    by (Some s0) is = (let it = found (may_by plan class) (in_ps plan.cycle) d (omega (arith, above)) (λ k. by_repeats plan above class k)
        s0 is t in (it.0, it.2))

module _ (plan : Plan) (class : ℕ) (talkers : List Talker) (sound : IsSchedule plan) (some : 0 < length talkers)
    (all : All IsTalker talkers) (d : ℕ) (need_is : d ≡ longest_need talkers) where
  comes_again : (repeat : Option Repeat) → IfSome repeat (IsCommon talkers (in_ps plan.cycle))
      → MayComeAgain plan class (curve talkers) repeat
  comes_again None h = tt
  comes_again (Some r) h = record {
    lasts = h.lasts;
    gates = subst (λ e. (m need : ℕ) → may_by plan class (m + e) need ≡ may_by plan class m need) (sym h.whole) (by_repeats plan
        sound.plan_is.cycle class h.cycles);
    come = λ x. curve_again talkers x r.time all h.divides ∙ ap (λ n. curve talkers x + n) (sym h.frames);
  }

  pub read_of : (moments : List ℕ) (repeat : Option Repeat) → AreArrivals (curve talkers) moments
      → IfSome repeat (IsCommon talkers (in_ps plan.cycle)) → IsRead plan class d (curve talkers) moments repeat
  read_of moments repeat come again = record {
    above = (let n = need_above talkers some all in omega (arith, n, need_is));
    rises = curve_rises talkers all;
    some = curve_some talkers some;
    come = come;
    again = comes_again repeat again;
  }

  module _ (moments slots : List ℕ) (repeat : Option Repeat) (read : IsRead plan class d (curve talkers) moments repeat)
      (rows : AreSlots (may_by plan class) d 0 slots) (listed : 0 < length slots)
      (none first last : Bounds) (none_is : none ≡ record { wait = 0; most = 0 }) (reach : Reach)
      (seen : IsSeen d 0 slots moments repeat reach)
      (has : HasFrames none 0 slots moments (frames_of reach) first)
      (windows : AreWindowsSeen plan class d moments repeat (length plan.entries) first last) where
    origin : IsGood plan class d (curve talkers) last.wait last.most 0
    origin = good_more plan class d (curve talkers) first.wait first.most last.wait last.most windows.grown.0 windows.grown.1 0
        (good_of plan class d (curve talkers) 0 slots moments repeat read rows none first reach
        (reached plan class d (curve talkers) 0 slots moments repeat read rows none first reach seen has))

    bounds : AreCurveBounds plan class d (curve talkers) last.wait last.most
    bounds = moments_law plan class d (curve talkers) last.wait last.most sound read.above (curve_adds talkers all) read.rises read.some
        (each_fits plan class d _ sound.plan_is.cycle (rows.each 0 listed)) origin (windows.good (curve talkers) read)

    least : AreUnder plan class d (curve talkers) last
    least = windows.under (curve talkers) read
        (under plan class d (curve talkers) 0 slots moments repeat read rows none first reach seen has
        (subst (AreUnder plan class d (curve talkers)) (sym none_is) (λ w m given. (omega arith, omega arith))))

    pub are_least : AreLeast plan class d (curve talkers) last.wait last.most
    are_least = record {
      are = bounds;
      wait_least = λ w m given. (least w m given).0;
      most_least = λ w m given. (least w m given).1;
    }
