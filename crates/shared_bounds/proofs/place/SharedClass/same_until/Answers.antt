use Rattle.std.proofs.Common.{◌≡◌, ◌<◌, ◌≤◌, ℕ, Some, None, subst}
use Rattle.gates.specs.Gate.{mask_since}
use Rattle.shared_bounds.proofs.FlatLaws.{flat_on}
use Rattle.shared_bounds.proofs.place.SharedClass.same_until.Goals as goal

pub returns-in-Some-clause-same : goal.returns-in-Some-clause-same
returns-in-Some-clause-same c =
    let mask = mask_since (Some c.args.self.now.schedule.now) 0 None in
    subst (λ n. (m : ℕ) → n ≤ m → m < c.in-Some.end → mask m ≡ mask n) c.saturating_sub.ensures
    (flat_on mask c.saturating_sub.result c.in-Some.end
    (c.in-Some.ensures.flat c.args.self.now.schedule.now 0 c.saturating_sub.result c.requires.place.sound c.jump_to.ensures.placed))
