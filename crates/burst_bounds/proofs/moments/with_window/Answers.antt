use Rattle.std.proofs.Common.{◌+◌, ◌-◌, ℕ, List, length, sym, subst, arith}
use Rattle.burst_bounds.specs.Busy.{HasFrames, IsBusyUntil}
use Rattle.burst_bounds.specs.Reach.{IsSeen, frames_of}
use Rattle.burst_bounds.proofs.UnseenLaws.{by_end, by_slot}
use Rattle.burst_bounds.proofs.WindowSeenLaws.{IsInWindow, ends_full, ends_idle, frames_within, goes_on}
use Rattle.burst_bounds.proofs.moments.with_window.Goals as goal

pub returns-in-Err-clause-why : goal.returns-in-Err-clause-why
returns-in-Err-clause-why g c = λ curve read. by_slot c.args.schedule.now c.args.class c.args.need (c.args.end + 1 - c.args.need)
    (length c.args.moments.now) curve c.in-Err.why c.in-Err.ensures.why

pub returns-in-Err-with_moment-clause-why : goal.returns-in-Err-with_moment-clause-why
returns-in-Err-with_moment-clause-why g c = λ curve read.
    let inv = c.frames.invariant in
    let told = c.in-Err-with_moment.ensures.why in
    by_end c.args.schedule.now c.args.class c.args.need c.frames.from c.frames.slots.items c.args.moments.now c.args.repeat curve
    c.in-Err-with_moment.why read inv.rows inv.many told.0
    (subst (λ xs. IsBusyUntil c.args.need c.frames.from xs c.args.moments.now) c.as_slice.ensures.value told.1)

pub returns-then-is_idle_before-clause-seen : goal.returns-then-is_idle_before-clause-seen
returns-then-is_idle_before-clause-seen g c =
    let inv = c.frames.invariant in
    let d : ℕ = c.args.need in
    let from : ℕ = c.frames.from in
    let slots : List ℕ = c.frames.slots.items in
    let reach = c.in-Ok-with_moment.reach in
    let same = c.as_slice.ensures.value in
    let seen : IsSeen d from slots c.args.moments.now c.args.repeat reach = subst
    (λ xs. IsSeen d from xs c.args.moments.now c.args.repeat reach) same c.in-Ok-with_moment.ensures.seen in
    let has : HasFrames c.frames.bounds from slots c.args.moments.now (frames_of reach) c.with_moment.new.bounds = subst
    (λ xs. HasFrames c.frames.bounds from xs c.args.moments.now (frames_of reach) c.with_moment.new.bounds) same
    c.in-Ok-with_moment.ensures.bounds in
    let idle = c.is_idle_before.ensures c.if-is_idle_before.true in
    ends_idle c.args.schedule.now c.args.class d c.args.end c.args.moments.now c.args.repeat c.args.bounds.now c.requires.need.0 from
    c.frames.frames slots c.frames.bounds c.with_moment.new.bounds inv reach seen has idle.0 idle.1 idle.2

pub returns-then-not-fits_more-2-clause-seen : goal.returns-then-not-fits_more-2-clause-seen
returns-then-not-fits_more-2-clause-seen g c =
    let inv = c.frames.invariant in
    let d : ℕ = c.args.need in
    let from : ℕ = c.frames.from in
    let slots : List ℕ = c.frames.slots.items in
    let reach = c.in-Ok-with_moment.reach in
    let same = c.as_slice.ensures.value in
    let seen : IsSeen d from slots c.args.moments.now c.args.repeat reach = subst
    (λ xs. IsSeen d from xs c.args.moments.now c.args.repeat reach) same c.in-Ok-with_moment.ensures.seen in
    let has : HasFrames c.frames.bounds from slots c.args.moments.now (frames_of reach) c.with_moment.new.bounds = subst
    (λ xs. HasFrames c.frames.bounds from xs c.args.moments.now (frames_of reach) c.with_moment.new.bounds) same
    c.in-Ok-with_moment.ensures.bounds in
    ends_full c.args.schedule.now c.args.class d c.args.end c.args.moments.now c.args.repeat c.args.bounds.now c.requires.need.0 from
    c.frames.frames slots c.frames.bounds c.with_moment.new.bounds inv reach seen has
    (c.fits_more-in-frames.ensures.no c.if-not-fits_more-2.true)

pub overflow_add-frames : goal.overflow_add-frames
overflow_add-frames g c =
    let end = c.requires.end in
    let within = frames_within c.args.schedule.now c.args.class c.args.need c.args.end c.args.moments.now c.args.repeat c.args.bounds.now
    c.frames.from c.frames.frames c.frames.slots.items c.frames.bounds c.requires.need.0 c.frames.invariant in
    omega (arith, end, within)

pub frames-preserved : goal.frames-preserved
frames-preserved g c =
    let inv = c.frames.invariant in
    let d : ℕ = c.args.need in
    let from : ℕ = c.frames.from in
    let slots : List ℕ = c.frames.slots.items in
    let reach = c.in-Ok-with_moment.reach in
    let same = c.as_slice.ensures.value in
    let seen : IsSeen d from slots c.args.moments.now c.args.repeat reach = subst
    (λ xs. IsSeen d from xs c.args.moments.now c.args.repeat reach) same c.in-Ok-with_moment.ensures.seen in
    let has : HasFrames c.frames.bounds from slots c.args.moments.now (frames_of reach) c.with_moment.new.bounds = subst
    (λ xs. HasFrames c.frames.bounds from xs c.args.moments.now (frames_of reach) c.with_moment.new.bounds) same
    c.in-Ok-with_moment.ensures.bounds in
    let yes = c.fits_more-in-frames.ensures.yes c.if-not-fits_more-2.false in
    let at = inv.at in
    let end = c.requires.end in
    subst (λ xs. IsInWindow c.args.schedule.now c.args.class d c.args.end c.args.moments.now c.args.repeat c.args.bounds.now (from - d)
    (c.frames.frames + 1) xs c.with_moment.new.bounds)
    (sym c.in-Ok-insert.ensures.items)
    (goes_on c.args.schedule.now c.args.class d c.args.end c.args.moments.now c.args.repeat c.args.bounds.now c.requires.need.0 from
    c.frames.frames slots c.frames.bounds c.with_moment.new.bounds inv reach seen has yes.0 yes.1 (omega (arith, at, end)))
