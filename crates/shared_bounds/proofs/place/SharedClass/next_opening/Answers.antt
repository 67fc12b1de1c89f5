use Rattle.std.proofs.Common.{◌≡◌, false, Some, None, inl, inr, sym, ◌∙◌, subst, arith}
use Rattle.std.proofs.lemmas.Bool.{cases_lt}
use Rattle.gates.specs.Gate.{mask_since}
use Rattle.delay_bounds.proofs.FitLaws.{later_than}
use Rattle.shared_bounds.specs.Place.{blocking_of, opening_of, own_of}
use Rattle.shared_bounds.proofs.FlatLaws.{flat_on, none_opens}
use Rattle.shared_bounds.proofs.OpeningLaws.{none_ever}
use Rattle.shared_bounds.proofs.place.SharedClass.next_opening.Goals as goal

pub returns-then-stop-end-clause-opening : goal.returns-then-stop-end-clause-opening
returns-then-stop-end-clause-opening c =
    let it = c.args.self.now in
    let inv = c.loop-at.invariant in
    let mask = mask_since (Some it.schedule.now) 0 None in
    let flat = c.in_ok-end.ensures.flat it.schedule.now 0 c.loop-at.at c.requires.place.sound inv.2 in
    let past = c.if-stop-end.true in
    let wide = c.from.ensures in
    let value = c.cycle_ns.ensures.value in
    none_ever it c.requires.place c.args.from (λ u after within. elim (cases_lt c.loop-at.at u) [
      | inr before ↦ inv.3 u after before
      | inl behind ↦ none_opens mask it.class (own_of it) (blocking_of it) c.requires.place.some c.loop-at.at c.in_ok-end.end
          (flat_on mask c.loop-at.at c.in_ok-end.end flat) u behind (omega (arith, within, past, wide, value))
    ])

pub returns-then-is_opening-clause-opening : goal.returns-then-is_opening-clause-opening
returns-then-is_opening-clause-opening c =
    let it = c.args.self.now in
    let inv = c.loop-at.invariant in
    let mask = mask_since (Some it.schedule.now) 0 None in
    let from = inv.0 in
    let flat = c.in_ok-end.ensures.flat it.schedule.now 0 c.loop-at.at c.requires.place.sound inv.2 in
    let later = later_than mask c.loop-at.at c.in_ok-end.end flat in
    record {
      after = omega (arith, from, later);
      opens = sym c.is_opening.ensures ∙ c.if-is_opening.true;
      least = λ u after before. elim (cases_lt c.loop-at.at u) [
        | inr early ↦ inv.3 u after early
        | inl behind ↦ none_opens mask it.class (own_of it) (blocking_of it) c.requires.place.some c.loop-at.at c.in_ok-end.end
            (flat_on mask c.loop-at.at c.in_ok-end.end flat) u behind before
      ];
    }

pub loop-at-preserved : goal.loop-at-preserved
loop-at-preserved c =
    let it = c.args.self.now in
    let inv = c.loop-at.invariant in
    let mask = mask_since (Some it.schedule.now) 0 None in
    let from = inv.0 in
    let flat = c.in_ok-end.ensures.flat it.schedule.now 0 c.loop-at.at c.requires.place.sound inv.2 in
    let later = later_than mask c.loop-at.at c.in_ok-end.end flat in (
      omega (arith, from, later),
      c.if-stop-end.false,
      c.go_on.ensures.placed,
      λ u after within. elim (cases_lt c.loop-at.at u) [
        | inr early ↦ inv.3 u after early
        | inl behind ↦ elim (cases_lt u c.in_ok-end.end) [
          | inl before ↦ none_opens mask it.class (own_of it) (blocking_of it) c.requires.place.some c.loop-at.at c.in_ok-end.end
              (flat_on mask c.loop-at.at c.in_ok-end.end flat) u behind before
          | inr here ↦
              let same : c.in_ok-end.end ≡ u = omega (arith, here, within) in
              subst (λ v. opening_of it v ≡ false) same (sym c.is_opening.ensures ∙ c.if-is_opening.false)
        ]
      ],
    )

pub returns-clause-opening : goal.returns-clause-opening
returns-clause-opening c =
    let it = c.args.self.now in
    let inv = c.loop-at.invariant in
    let all = c.loop-at-test.false in
    let wide = c.from.ensures in
    let value = c.cycle_ns.ensures.value in
    none_ever it c.requires.place c.args.from (λ u after within. inv.3 u after (omega (arith, within, all, wide, value)))
