use Rattle.std.proofs.Common.{length, map, sym, ap, ◌∙◌, subst, arith}
use Rattle.std.proofs.Common.{List}
use Rattle.test_support.specs.declared.reference.accepted.RecordedCommand.{RecordedCommand}
use Rattle.test_support.specs.Plain.{AreSound, accepted_in, counts}
use Rattle.test_support.proofs.PlainLaws.{first_of, told_less, told_more}
use Rattle.test_support.proofs.reference.history.kept.Goals as goal

pub loop-first-preserved-then-counts : goal.loop-first-preserved-then-counts
loop-first-preserved-then-counts c =
    let is = first_of c.loop-first.history.items c.in-Some.first c.pop_at.new.self.items (sym c.in-Some.ensures.value) c.in-Some.ensures.items in
    let sound = subst (λ (h : List RecordedCommand). AreSound (map accepted_in h)) is c.loop-first.invariant.sound in
    let counted = ap (λ (r : List RecordedCommand). counts (accepted_in c.in-Some.first) (map accepted_in r) c.args.m) (sym c.as_slice.ensures.value) ∙ (sym c.counts.ensures ∙ c.if-counts.true) in
    let size = ap (λ (h : List RecordedCommand). length h) is in
    let grown = c.push.ensures.len in
    let few = c.loop-first.invariant.room in
    record {
      told = told_more c.args.m c.loop-first.kept.items c.in-Some.first c.pop_at.new.self.items c.loop-first.history.items is sound counted _ c.loop-first.invariant.told c.push.new.self.items c.push.ensures.items;
      sound = sound.1;
      room = omega (arith, size, grown, few);
    }

pub loop-first-preserved : goal.loop-first-preserved
loop-first-preserved c =
    let is = first_of c.loop-first.history.items c.in-Some.first c.pop_at.new.self.items (sym c.in-Some.ensures.value) c.in-Some.ensures.items in
    let sound = subst (λ (h : List RecordedCommand). AreSound (map accepted_in h)) is c.loop-first.invariant.sound in
    let counted = ap (λ (r : List RecordedCommand). counts (accepted_in c.in-Some.first) (map accepted_in r) c.args.m) (sym c.as_slice.ensures.value) ∙ (sym c.counts.ensures ∙ c.if-counts.false) in
    let size = ap (λ (h : List RecordedCommand). length h) is in
    let few = c.loop-first.invariant.room in
    record {
      told = told_less c.args.m c.loop-first.kept.items c.in-Some.first c.pop_at.new.self.items c.loop-first.history.items is sound counted _ c.loop-first.invariant.told;
      sound = sound.1;
      room = omega (arith, size, few);
    }
