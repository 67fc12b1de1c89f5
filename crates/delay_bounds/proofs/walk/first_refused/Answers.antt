use Rattle.std.proofs.Common.{◌≡◌, ◌+◌, ◌-◌, true, false, Some, sym, ap, ◌∙◌, arith, length, length-set}
use Rattle.std.specs.Prelude.{nat_lt}
use Rattle.wire_time.specs.Moment.{greatest_moment}
use Rattle.delay_bounds.specs.Claim.{flow_at}
use Rattle.delay_bounds.specs.Line.{Standing}
use Rattle.delay_bounds.specs.Stuck.{refused_in, staying}
use Rattle.delay_bounds.proofs.WalkedLaws.{counting_long, full_here, last_here, late_here, stays_here}
use Rattle.delay_bounds.proofs.walk.first_refused.Goals.{then-t-gt-MAX_MOMENT-via-then-t-gt-MAX_MOMENT, then-t-gt-MAX_MOMENT-via-else-t-gt-MAX_MOMENT+then-left-eq0}
use Rattle.delay_bounds.proofs.walk.first_refused.Goals as goal

pub returns-then-is_full : goal.returns-then-is_full
returns-then-is_full g c =
    ap Some c.refused_at.ensures
    ∙ (sym (full_here c.args.flows.now c.frames.left c.frames.line c.next-t.new.self c.next-t.result c.next-t.ensures.frame c.next-t.ensures.come (sym c.is_full.ensures ∙ c.if-is_full.true)) ∙ c.frames.invariant.found)

pub returns-then-t-gt-MAX_MOMENT : goal.returns-then-t-gt-MAX_MOMENT
returns-then-t-gt-MAX_MOMENT g c =
    let some = sym c.is_full.ensures ∙ c.if-is_full.false in
    elim c.then-t-gt-MAX_MOMENT.branch [
      | then-t-gt-MAX_MOMENT-via-then-t-gt-MAX_MOMENT w ↦
          let late : nat_lt greatest_moment c.next-t.result.0 ≡ true = grind (arith, w.if-t-gt-MAX_MOMENT.true) in
          sym (late_here c.args.flows.now c.frames.left c.frames.line c.next-t.new.self c.next-t.result c.next-t.ensures.frame c.next-t.ensures.come some late) ∙ c.frames.invariant.found
      | then-t-gt-MAX_MOMENT-via-else-t-gt-MAX_MOMENT+then-left-eq0 w ↦
          let soon : nat_lt greatest_moment c.next-t.result.0 ≡ false = grind (arith, w.if-t-gt-MAX_MOMENT.false) in
          let none : c.frames.left ≡ 0 = omega (arith, w.if-left-eq0.true) in
          sym (last_here c.args.flows.now c.frames.left c.frames.line c.next-t.new.self c.next-t.result c.next-t.ensures.frame c.next-t.ensures.come some soon none) ∙ c.frames.invariant.found
    ]

pub frames-preserved : goal.frames-preserved
frames-preserved g c =
    let some = sym c.is_full.ensures ∙ c.if-is_full.false in
    let soon : nat_lt greatest_moment c.next-t.result.0 ≡ false = grind (arith, c.if-t-gt-MAX_MOMENT.false) in
    let left : c.frames.left - 1 + 1 ≡ c.frames.left = omega (arith, c.if-left-eq0.false) in
    let stays = stays_here c.args.flows.now c.frames.left c.frames.line c.next-t.new.self c.next-t.result c.next-t.ensures.frame c.next-t.ensures.come some soon in
    let now : c.stay.new.self ≡ record { track = staying (flow_at c.args.flows.now c.next-t.result.1) c.next-t.result c.next-t.new.self.track; room = c.next-t.new.self.room } =
    c.stay.ensures ∙ ap (λ f. (let l : Standing = record { track = staying f c.next-t.result c.next-t.new.self.track; room = c.next-t.new.self.room } in l)) c.flow_at.ensures.flow in
    let come_room = ap (λ (l : Standing). l.room) c.next-t.ensures.come in
    let nexts = counting_long c.frames.line c.next-t.new.self c.next-t.ensures.come in
    record {
      found =
          ap (λ (l : Standing). refused_in l.room c.args.flows.now (c.frames.left - 1 + 1) l.track) now
          ∙ (ap (λ n. refused_in c.next-t.new.self.room c.args.flows.now n (staying (flow_at c.args.flows.now c.next-t.result.1) c.next-t.result c.next-t.new.self.track)) left
          ∙ (sym stays ∙ c.frames.invariant.found));
      room = ap (λ (l : Standing). l.room) now ∙ (come_room ∙ c.frames.invariant.room);
      places = ap (λ (l : Standing). length l.track.nexts) now ∙ (length-set c.next-t.new.self.track.nexts c.next-t.result.1 _ ∙ (nexts ∙ c.frames.invariant.places));
    }
