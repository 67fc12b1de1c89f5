use Rattle.std.proofs.Common.{◌≡◌, ◌<◌, ◌&&◌, ℕ, not, zero, suc, arith, refl, subst, sym}
use Rattle.std.specs.Prelude.{replicate, slice_index_or}
use Rattle.schedule_check.specs.Words.{CLASSES, IsLengthened, Lasts, alone, opens}
use Rattle.schedule_check.proofs.WindowLaws.{Reaches, reaches_none, bounds_none, bounds_next, mask_before, open_stay, reaches_next}
use Rattle.schedule_check.proofs.windows.longest_open.Goals as goal

-- eight stays of no time
no_time : (k : ℕ) → slice_index_or (replicate 8 (Lasts 0)) k (Lasts 0) ≡ Lasts 0
no_time zero = refl
no_time (suc zero) = refl
no_time (suc (suc zero)) = refl
no_time (suc (suc (suc zero))) = refl
no_time (suc (suc (suc (suc zero)))) = refl
no_time (suc (suc (suc (suc (suc zero))))) = refl
no_time (suc (suc (suc (suc (suc (suc zero)))))) = refl
no_time (suc (suc (suc (suc (suc (suc (suc zero))))))) = refl
no_time (suc (suc (suc (suc (suc (suc (suc (suc k)))))))) = refl

pub loop-i-init : goal.loop-i-init
loop-i-init c = record {
  reaches = λ class low. subst (Reaches (alone c.args.schedule.now) class) (sym (no_time class)) (reaches_none (alone c.args.schedule.now) class);
  bounds = λ class low. bounds_none c.args.schedule.now class _;
  before = refl;
}

pub loop-i-preserved : goal.loop-i-preserved
loop-i-preserved c =
    let plan = c.args.schedule.now in
    let plan_is = c.len-i-end.ensures.sound.plan_is in
    let entry = c.entry-mask.result in
    let there = c.entry-mask.ensures.entry in
    let asked : (class : ℕ) → class < CLASSES → opens c.newly_open.result class ≡ (opens entry.mask class && not (opens c.loop-i.before class)) = λ class low. c.newly_open.ensures class low in
    record {
      reaches = λ class low. reaches_next plan class c.loop-i.before entry plan_is.cycle plan_is.intervals c.loop-i.i (opens c.newly_open.result class) _ _ there (c.lengthen.ensures class low) (c.loop-i.invariant.reaches class low);
      bounds = λ class low. bounds_next plan class c.loop-i.before entry plan_is.cycle plan_is.intervals c.loop-i.i _ _ there c.loop-i.invariant.before
          (subst (λ b. IsLengthened plan c.loop-i.i b class (slice_index_or c.loop-i.longest class (Lasts 0)) (slice_index_or c.lengthen.new.longest class (Lasts 0))) (asked class low) (c.lengthen.ensures class low))
          (c.loop-i.invariant.bounds class low);
      before = mask_before plan c.loop-i.i entry there;
    }

pub returns-clause-longest : goal.returns-clause-longest
returns-clause-longest c =
    let sound = c.len-i-end.ensures.sound in
    let plan_is = sound.plan_is in
    let over = c.loop-i-test.false in λ class low.
    open_stay c.args.schedule.now class c.loop-i.i _ plan_is.cycle plan_is.entries (omega arith) (c.loop-i.invariant.reaches class low) (c.loop-i.invariant.bounds class low)
