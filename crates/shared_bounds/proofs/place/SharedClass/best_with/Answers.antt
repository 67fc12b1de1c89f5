use Rattle.std.proofs.Common.{◌+◌, inl, inr, refl, sym, ◌∙◌, subst, arith}
use Rattle.std.specs.Prelude.{IfErr, IfOk}
use Rattle.shared_bounds.specs.Best.{AreFoundAt, IsBest, IsTried, IsUnseenAt, pitch_at}
use Rattle.shared_bounds.proofs.WalkLaws.{best_more, best_same, pitch_is}
use Rattle.shared_bounds.proofs.place.SharedClass.best_with.Goals as goal
use Rattle.shared_bounds.proofs.place.SharedClass.best_with.Goals.{then-pitch-eq0-via-then-pitch-eq0, then-pitch-eq0-via-else-pitch-eq0+then-is_tried}

pub returns-then-pitch-eq0-clause-best : goal.returns-then-pitch-eq0-clause-best
returns-then-pitch-eq0-clause-best g c =
    let it = c.args.self.now in
    let same = c.pitch_at-pitch.ensures.pitch in
    elim c.then-pitch-eq0.branch [
      | then-pitch-eq0-via-then-pitch-eq0 w ↦
          best_same it c.args.most c.args.place c.args.best (inl (sym same ∙ w.if-pitch-eq0.true)) c.requires.best
      | then-pitch-eq0-via-else-pitch-eq0+then-is_tried w ↦
          best_same it c.args.most c.args.place c.args.best
          (inr (subst (IsTried it c.args.place) same (w.is_tried.ensures.0 w.if-is_tried.true))) c.requires.best
    ]

pub returns-clause-best : goal.returns-clause-best
returns-clause-best g c =
    let it = c.args.self.now in
    let same = c.pitch_at-pitch.ensures.pitch in
    let no = c.if-pitch-eq0.false in
    let is = pitch_is it c.args.place (pitch_at it c.args.place) c.requires.listed (omega (arith, no, same)) refl in
    subst (λ r. IfOk r (IsBest it c.args.most (c.args.place + 1))) (sym c.with_told.ensures)
    (best_more it c.args.most c.args.place is c.args.best c.bounds_by_pitch.result c.requires.best
    (subst (λ p. IfOk c.bounds_by_pitch.result (AreFoundAt it p)) same c.bounds_by_pitch.ensures.found)
    (subst (λ p. IfErr c.bounds_by_pitch.result (IsUnseenAt it p c.args.most)) same c.bounds_by_pitch.ensures.why))
