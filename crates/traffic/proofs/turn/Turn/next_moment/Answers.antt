use Rattle.std.proofs.Common.{◌≡◌, ◌<◌, ◌-◌, Some, arith, sym, ap, ◌∙◌}
use Rattle.std.specs.Prelude.{option_map}
use Rattle.traffic.specs.Words.{Coming}
use Rattle.traffic.proofs.FrameLaws.{first_left, none_left}
use Rattle.traffic.proofs.turn.Turn.next_moment.Goals as goal

pub returns-then-self-clause-moment : goal.returns-then-self-clause-moment
returns-then-self-clause-moment c =
    let t = c.args.self.now in
    let come : t.come ≡ t.course.count = cc in
    ap (option_map (λ (f : Coming). f.moment)) (sym (none_left t.course t.come (t.course.count - t.come) (omega (arith, come))))

pub returns-clause-moment : goal.returns-clause-moment
returns-clause-moment c =
    let t = c.args.self.now in
    let less : t.come < t.course.count = omega (arith, t.few, c.if-self.false) in
    ap (λ m. Some m) c.moment_after.ensures.moment ∙ ap (option_map (λ (f : Coming). f.moment)) (sym (first_left t.course t.come (t.course.count - t.come) (omega (arith, less))))
