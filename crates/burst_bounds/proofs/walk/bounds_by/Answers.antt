use Rattle.std.proofs.Common.{◌≡◌, ◌<◌, ◌≤◌, ℕ, List, All, length, refl, sym, ap, ◌∙◌, subst, arith}
use Rattle.wire_time.specs.Moment.{greatest_moment}
use Rattle.delay_bounds.specs.Walk.{may_by}
use Rattle.burst_bounds.specs.Busy.{Rises}
use Rattle.burst_bounds.specs.Reach.{IsUnseen}
use Rattle.burst_bounds.specs.Talkers.{IsTalker, curve, longest_need}
use Rattle.burst_bounds.specs.Walk.{AreArrivals, AreSlots}
use Rattle.burst_bounds.specs.declared.Talker.{Talker}
use Rattle.burst_bounds.proofs.BusyTimeLaws.{arrivals_rise}
use Rattle.burst_bounds.proofs.TalkerLaws.{need_above, need_small}
use Rattle.burst_bounds.proofs.UnseenLaws.{by_end, by_slot}
use Rattle.burst_bounds.proofs.WalkLaws.{are_least, read_of}
use Rattle.burst_bounds.proofs.walk.bounds_by.Goals as goal

small : (talkers : List Talker) (need : ℕ) → All IsTalker talkers → need ≡ longest_need talkers → need ≤ greatest_moment
small talkers need all is = (let n = need_small talkers all in omega (arith, n, is))

some_need : (talkers : List Talker) (need : ℕ) → 0 < length talkers → All IsTalker talkers → need ≡ longest_need talkers → 0 < need
some_need talkers need some all is = (let n = need_above talkers some all in omega (arith, n, is))

rise : (talkers : List Talker) (xs items : List ℕ) → xs ≡ items → AreArrivals (curve talkers) items → Rises xs
rise talkers xs items is come = subst Rises (sym is) (arrivals_rise (curve talkers) items come)

pub slots_from-requires-clause-need : goal.slots_from-requires-clause-need
slots_from-requires-clause-need g c = small c.args.talkers.now c.args.need c.requires.talkers c.requires.need

pub returns-in-Err-clause-why : goal.returns-in-Err-clause-why
returns-in-Err-clause-why g c = by_slot c.args.schedule.now c.args.class c.args.need 0 c.args.frames (curve c.args.talkers.now)
    c.in-Err.why c.in-Err.ensures.why

pub with_moment-requires-clause-rises : goal.with_moment-requires-clause-rises
with_moment-requires-clause-rises g c = rise c.args.talkers.now c.as_slice-moments.result.now c.in-Ok.moments.items
    c.as_slice-moments.ensures.value c.in-Ok.ensures.moments

pub with_moment-requires-clause-need : goal.with_moment-requires-clause-need
with_moment-requires-clause-need g c = small c.args.talkers.now c.args.need c.requires.talkers c.requires.need

pub returns-in-Err-with_moment-clause-why : goal.returns-in-Err-with_moment-clause-why
returns-in-Err-with_moment-clause-why g c =
    let plan = c.args.schedule.now in
    let talkers : List Talker = c.args.talkers.now in
    let xs : List ℕ = c.as_slice-moments.result.now in
    let ys : List ℕ = c.as_slice.result.now in
    let come : AreArrivals (curve talkers) xs = subst (AreArrivals (curve talkers)) (sym c.as_slice-moments.ensures.value)
    c.in-Ok.ensures.moments in
    let rows : AreSlots (may_by plan c.args.class) c.args.need 0 ys = subst (AreSlots (may_by plan c.args.class) c.args.need 0)
    (sym c.as_slice.ensures.value) c.in-Ok-slots_from.ensures.slots in
    let count : length xs ≡ c.args.frames = ap length c.as_slice-moments.ensures.value ∙ c.in-Ok.ensures.count in
    let many : length ys ≡ c.args.frames = ap length c.as_slice.ensures.value ∙ c.in-Ok-slots_from.ensures.count in
    let read = read_of plan c.args.class talkers c.requires.sound c.requires.some c.requires.talkers c.args.need c.requires.need xs
    c.args.repeat come c.requires.repeat in
    let told = c.in-Err-with_moment.ensures.why in
    subst (λ n. IsUnseen plan c.args.class c.args.need (curve talkers) n c.in-Err-with_moment.why) count
    (by_end plan c.args.class c.args.need 0 ys xs c.args.repeat (curve talkers) c.in-Err-with_moment.why read rows
    (omega (arith, count, many)) told.0 told.1)

pub with_windows-requires-clause-need : goal.with_windows-requires-clause-need
with_windows-requires-clause-need g c = (
  some_need c.args.talkers.now c.args.need c.requires.some c.requires.talkers c.requires.need,
  small c.args.talkers.now c.args.need
      c.requires.talkers c.requires.need,
)

pub with_windows-requires-clause-rises : goal.with_windows-requires-clause-rises
with_windows-requires-clause-rises g c = rise c.args.talkers.now c.as_slice-moments.result.now c.in-Ok.moments.items
    c.as_slice-moments.ensures.value c.in-Ok.ensures.moments

pub returns-in-Ok-with_windows-clause-least : goal.returns-in-Ok-with_windows-clause-least
returns-in-Ok-with_windows-clause-least g c =
    let plan = c.args.schedule.now in
    let talkers : List Talker = c.args.talkers.now in
    let xs : List ℕ = c.as_slice-moments.result.now in
    let ys : List ℕ = c.as_slice.result.now in
    let come : AreArrivals (curve talkers) xs = subst (AreArrivals (curve talkers)) (sym c.as_slice-moments.ensures.value)
    c.in-Ok.ensures.moments in
    let rows : AreSlots (may_by plan c.args.class) c.args.need 0 ys = subst (AreSlots (may_by plan c.args.class) c.args.need 0)
    (sym c.as_slice.ensures.value) c.in-Ok-slots_from.ensures.slots in
    let many : length ys ≡ c.args.frames = ap length c.as_slice.ensures.value ∙ c.in-Ok-slots_from.ensures.count in
    let some = c.requires.frames in
    let read = read_of plan c.args.class talkers c.requires.sound c.requires.some c.requires.talkers c.args.need c.requires.need xs
    c.args.repeat come c.requires.repeat in
    are_least plan c.args.class talkers c.requires.sound c.requires.some c.requires.talkers c.args.need c.requires.need xs ys c.args.repeat
    read rows (omega (arith, many, some))
    (record { wait = 0; most = 0 }) c.with_moment.new.bounds c.with_windows.new.bounds refl c.in-Ok-with_moment.reach
    c.in-Ok-with_moment.ensures.seen c.in-Ok-with_moment.ensures.bounds c.in-Ok-with_windows.ensures.seen

pub returns-clause-why : goal.returns-clause-why
returns-clause-why g c =
    let plan = c.args.schedule.now in
    let talkers : List Talker = c.args.talkers.now in
    let xs : List ℕ = c.as_slice-moments.result.now in
    let come : AreArrivals (curve talkers) xs = subst (AreArrivals (curve talkers)) (sym c.as_slice-moments.ensures.value)
    c.in-Ok.ensures.moments in
    let count : length xs ≡ c.args.frames = ap length c.as_slice-moments.ensures.value ∙ c.in-Ok.ensures.count in
    let read = read_of plan c.args.class talkers c.requires.sound c.requires.some c.requires.talkers c.args.need c.requires.need xs
    c.args.repeat come c.requires.repeat in
    subst (λ n. IsUnseen plan c.args.class c.args.need (curve talkers) n c.in-Err-with_windows.why) count
    (c.in-Err-with_windows.ensures.why (curve talkers) read)
