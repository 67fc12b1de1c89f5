use Rattle.std.proofs.Common.{◌≡◌, ◌<◌, ◌≤◌, ℕ, Option, None, MatchOption, IsSome, length, inl, sym, ◌∙◌, subst, lt_of_lt_of_le}
use Rattle.gates.specs.Choice.{first_choice}
use Rattle.gates.specs.Current.{IsSteady}
use Rattle.gates.proofs.IdleLaws.{none_starts, some_starts}
use Rattle.test_support.proofs.reference.plain.PlainGates.quiet.Goals as goal

pub returns-then-stays_open-clause-onward : goal.returns-then-stays_open-clause-onward
returns-then-stays_open-clause-onward c = λ before.
    let now = c.args.self.now in
    let starts = some_starts now.history now.moment c.list-needs.result c.loop-class.class c.in-Some.need c.loop-class-test.true c.in-Some.is (sym c.stays_open.ensures.stays ∙ c.if-stays_open.true) in
    inl (subst (λ m. IsSome (first_choice now.history m c.args.heads.now)) (sym c.now.ensures) (subst (λ needs. IsSome (first_choice now.history now.moment needs)) c.list-needs.ensures.value starts))

pub returns-in-Some-next_boundary-clause-quiet : goal.returns-in-Some-next_boundary-clause-quiet
returns-in-Some-next_boundary-clause-quiet c =
    let now = c.args.self.now in
    let steady = subst (λ (r : Option ℕ). MatchOption r (IsSteady now.history now.moment c.args.before) (λ u. IsSteady now.history now.moment u)) c.in-Some-next_boundary.is c.next_boundary.ensures.none in
    subst (λ needs. (m : ℕ) → now.moment ≤ m → m < c.in-Some-next_boundary.event → first_choice now.history m needs ≡ None) c.list-needs.ensures.value
    (none_starts now.history now.moment c.in-Some-next_boundary.event c.list-needs.result (subst (λ needs. length needs ≡ 8) (sym c.list-needs.ensures.value) c.waits.ensures.count) steady (λ k d low there. c.loop-class.invariant.none k d (lt_of_lt_of_le low c.loop-class-test.false) there))

pub returns-in-None-clause-quiet : goal.returns-in-None-clause-quiet
returns-in-None-clause-quiet c =
    let now = c.args.self.now in
    let steady = subst (λ (r : Option ℕ). MatchOption r (IsSteady now.history now.moment c.args.before) (λ u. IsSteady now.history now.moment u)) c.in-None.is c.next_boundary.ensures.none in
    subst (λ needs. (m : ℕ) → now.moment ≤ m → m < c.args.before → first_choice now.history m needs ≡ None) c.list-needs.ensures.value
    (none_starts now.history now.moment c.args.before c.list-needs.result (subst (λ needs. length needs ≡ 8) (sym c.list-needs.ensures.value) c.waits.ensures.count) steady (λ k d low there. c.loop-class.invariant.none k d (lt_of_lt_of_le low c.loop-class-test.false) there))
