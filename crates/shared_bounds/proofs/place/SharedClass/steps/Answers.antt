use Rattle.std.proofs.Common.{◌≡◌, ◌<◌, ◌≤◌, ◌+◌, ◌-◌, ◌*◌, ◌/◌, ◌^◌, ℕ, min, true, false, sym, ap, ◌∙◌, subst}
use Rattle.shared_bounds.specs.Blocking.{open_for}
use Rattle.shared_bounds.specs.Place.{may_of, own_of}
use Rattle.shared_bounds.proofs.StepLaws.{few, near, none, opened}
use Rattle.shared_bounds.proofs.place.SharedClass.steps.Goals as goal

pub returns-clause-most : goal.returns-clause-most
returns-clause-most c =
    let it = c.args.self.now in
    let need = c.need_of-need.ensures.need in
    let lasts : ℕ = c.open_for-lasts.result in
    subst (λ x. x / it.pitch ≤ c.args.most) (sym (c.saturating_sub.ensures ∙ ap (λ d. lasts - d) need))
    (few it c.requires.place c.args.at c.args.most c.min-time.result lasts
    (c.min-time.ensures ∙ ap (λ k. min (k * it.pitch) (2 ^ 61)) c.min-few.ensures)
    (c.open_for-lasts.ensures ∙ ap (λ d. open_for (may_of it) c.args.at (c.min-time.result + d)) need))

pub returns-clause-opened : goal.returns-clause-opened
returns-clause-opened c =
    let it = c.args.self.now in
    let need = c.need_of-need.ensures.need in
    let lasts : ℕ = c.open_for-lasts.result in
    subst (λ x. 0 < x / it.pitch → may_of it c.args.at (x / it.pitch * it.pitch + own_of it) ≡ true)
    (sym (c.saturating_sub.ensures ∙ ap (λ d. lasts - d) need))
    (opened it c.requires.place c.args.at c.args.most c.min-time.result lasts
    (c.min-time.ensures ∙ ap (λ k. min (k * it.pitch) (2 ^ 61)) c.min-few.ensures)
    (c.open_for-lasts.ensures ∙ ap (λ d. open_for (may_of it) c.args.at (c.min-time.result + d)) need))

pub returns-clause-none : goal.returns-clause-none
returns-clause-none c =
    let it = c.args.self.now in
    let need = c.need_of-need.ensures.need in
    let lasts : ℕ = c.open_for-lasts.result in
    subst (λ x. x / it.pitch ≡ 0 → 0 < c.args.most → may_of it c.args.at (it.pitch + own_of it) ≡ false)
    (sym (c.saturating_sub.ensures ∙ ap (λ d. lasts - d) need))
    (none it c.requires.place c.args.at c.args.most c.min-time.result lasts
    (c.min-time.ensures ∙ ap (λ k. min (k * it.pitch) (2 ^ 61)) c.min-few.ensures)
    (c.open_for-lasts.ensures ∙ ap (λ d. open_for (may_of it) c.args.at (c.min-time.result + d)) need))

pub returns-clause-near : goal.returns-clause-near
returns-clause-near c =
    let it = c.args.self.now in
    let need = c.need_of-need.ensures.need in
    let lasts : ℕ = c.open_for-lasts.result in
    subst (λ x. x / it.pitch * it.pitch ≤ 2 ^ 61) (sym (c.saturating_sub.ensures ∙ ap (λ d. lasts - d) need))
    (near it c.requires.place c.args.at c.args.most c.min-time.result lasts
    (c.min-time.ensures ∙ ap (λ k. min (k * it.pitch) (2 ^ 61)) c.min-few.ensures)
    (c.open_for-lasts.ensures ∙ ap (λ d. open_for (may_of it) c.args.at (c.min-time.result + d)) need))
