use Rattle.std.proofs.Common.{◌≡◌, ◌+◌, ◌-◌, ℕ, ap, ◌∙◌, arith}
use Rattle.shared_bounds.specs.Place.{may_of, own_of}
use Rattle.shared_bounds.proofs.NextLaws.{all_near, first_may, has_room, part_near}
use Rattle.shared_bounds.proofs.place.SharedClass.next_in_window.Goals as goal

pub last_in_window-at-requires-clause-takes : goal.last_in_window-at-requires-clause-takes
last_in_window-at-requires-clause-takes c =
    let it = c.args.self.now in
    ap (λ k. may_of it (c.args.from + k) (own_of it)) c.blocking.ensures.blocking
    ∙ first_may it c.requires.place c.args.from c.requires.takes

pub overflow_sub-room : goal.overflow_sub-room
overflow_sub-room c =
    let it = c.args.self.now in
    let is = c.need_of-need.ensures.need in
    let room = has_room it c.requires.place c.args.from (c.args.from + c.blocking.result) c.args.last c.last_in_window-at.result
    (c.need_of-need.result + (c.same_until-end.result - c.args.from)) c.open_for.result c.last_in_window-at.ensures.last
    (omega (arith, is)) c.open_for.ensures in
    omega (arith, is, room)

pub returns-then-room-end-clause-near : goal.returns-then-room-end-clause-near
returns-then-room-end-clause-near c =
    let it = c.args.self.now in
    let is = c.need_of-need.ensures.need in
    let first : ℕ = c.args.from + c.blocking.result in
    let limit : ℕ = c.need_of-need.result + (c.same_until-end.result - c.args.from) in
    let blocked = c.blocking.ensures.blocking in
    let enough = has_room it c.requires.place c.args.from first c.args.last c.last_in_window-at.result limit c.open_for.result
    c.last_in_window-at.ensures.last (omega (arith, is)) c.open_for.ensures in
    let sum : own_of it + (c.open_for.result - c.need_of-need.result) ≡ c.open_for.result = omega (arith, is, enough) in
    all_near it c.requires.place c.args.from c.same_until-end.result first c.args.last c.last_in_window-at.result limit
    (c.open_for.result - c.need_of-need.result) c.requires.takes c.same_until-end.ensures.same (omega (arith, blocked))
    c.last_in_window-at.ensures.last (sum ∙ c.open_for.ensures) c.if-room-end.true c.same_until-end.ensures.later

pub returns-clause-near : goal.returns-clause-near
returns-clause-near c =
    let it = c.args.self.now in
    let is = c.need_of-need.ensures.need in
    let first : ℕ = c.args.from + c.blocking.result in
    let limit : ℕ = c.need_of-need.result + (c.same_until-end.result - c.args.from) in
    let room : ℕ = c.open_for.result - c.need_of-need.result in
    let blocked = c.blocking.ensures.blocking in
    let enough = has_room it c.requires.place c.args.from first c.args.last c.last_in_window-at.result limit c.open_for.result
    c.last_in_window-at.ensures.last (omega (arith, is)) c.open_for.ensures in
    let sum : own_of it + room ≡ c.open_for.result = omega (arith, is, enough) in
    let a = c.saturating_sub.ensures in
    let b = c.max.ensures in
    let e = c.min.ensures in
    let later = c.same_until-end.ensures.later in
    part_near it c.requires.place c.args.from c.same_until-end.result first c.args.last c.last_in_window-at.result limit
    room c.requires.takes c.same_until-end.ensures.same (omega (arith, blocked))
    c.last_in_window-at.ensures.last (sum ∙ c.open_for.ensures) c.reach-reach.result c.min.result c.reach-reach.ensures.some
    (omega (arith, a, b, e, later)) (omega (arith, e))
    (λ u after before. omega (arith, after, before, a, b, e))
    c.reach-reach.ensures.reach
