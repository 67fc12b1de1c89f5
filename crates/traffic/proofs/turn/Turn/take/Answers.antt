use Rattle.std.proofs.Common.{◌≡◌, ◌<◌, ◌+◌, ◌-◌, ◌∷◌, suc, arith, sym, ap, ◌∙◌}
use Rattle.traffic.specs.Words.{frames_after, reached_by, Coming}
use Rattle.traffic.proofs.CourseLaws.{one_reached}
use Rattle.traffic.proofs.FrameLaws.{more_left, nothing_left}
use Rattle.traffic.proofs.turn.Turn.take.Goals as goal

pub returns-then-self-clause-left : goal.returns-then-self-clause-left
returns-then-self-clause-left c =
    let t = c.args.self.now in
    let come : t.come ≡ t.course.count = cc in
    nothing_left t.course t.come (t.course.count - t.come) (omega (arith, come))

pub invariant_of-self-clause-last : goal.invariant_of-self-clause-last
invariant_of-self-clause-last c =
    let t = c.args.self.now in
    let next : suc t.come ≡ t.come + 1 = omega arith in
    ap (λ (f : Coming). f.moment) c.frame_after-coming.ensures.frame ∙ sym (one_reached t.course t.come) ∙ ap (reached_by t.course) next

pub returns-clause-left : goal.returns-clause-left
returns-clause-left c =
    let t = c.args.self.now in
    let less : t.come < t.course.count = omega (arith, t.few, c.if-self.false) in
    more_left t.course t.come (t.course.count - t.come) (t.course.count - (t.come + 1)) (omega (arith, less))
    ∙ ap (λ (f : Coming). f ∷ frames_after t.course (t.come + 1) (t.course.count - (t.come + 1))) (sym c.frame_after-coming.ensures.frame)
