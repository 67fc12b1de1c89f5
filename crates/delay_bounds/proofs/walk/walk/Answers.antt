use Rattle.std.proofs.Common.{Err, ◌≡◌, ◌≤◌, ◌+◌, length, length-set, refl, sym, ap, ◌∙◌, subst, arith}
use Rattle.delay_bounds.specs.Backlog.{taken_at}
use Rattle.delay_bounds.specs.Bounded.{is_from_here, unbound_by}
use Rattle.delay_bounds.specs.Line.{Standing}
use Rattle.delay_bounds.specs.declared.look.Mark.{Mark}
use Rattle.delay_bounds.specs.Stuck.{first_refused}
use Rattle.delay_bounds.specs.Walked.{frame_of, last_offset}
use Rattle.delay_bounds.proofs.WalkedLaws.{all_unseen, arrives_is, at, back_here, counting_long, earlier_of, ends_here, followed_said, goes_here, long_offsets, look_said, one_of, starts_at, stops_here}
use Rattle.delay_bounds.proofs.walk.walk.Goals as goal

pub loop-frames-init : goal.loop-frames-init
loop-frames-init g c = record {
  places = ap (λ (l : Standing). length l.track.nexts) c.requires.line ∙ long_offsets c.args.flows.now;
  base_places =
      counting_long c.args.base.now c.next-since.new.self c.next-since.ensures.come
      ∙ (ap (λ (l : Standing). length l.track.nexts) c.requires.base ∙ long_offsets c.args.flows.now);
  room = refl;
  base_room = ap (λ (l : Standing). l.room) c.next-since.ensures.come ∙ ap (λ (l : Standing). l.room) c.requires.base;
  count = (c.requires.bounds).0;
  earlier = omega arith;
  answer = starts_at c.args.schedule.now c.args.class c.args.line.now.room c.args.flows.now c.args.limit c.args.line.now c.args.base.now c.next-since.new.self c.next-since.result.0 c.next-since.result.1 c.args.bounds.now c.no_backlog-backlog.result c.requires.line c.requires.base c.next-since.ensures.come c.next-since.ensures.frame
      (all_unseen c.args.bounds.now c.args.flows.now (c.requires.bounds).0 (c.requires.bounds).1) c.no_backlog-backlog.ensures;
}

pub next-t-requires : goal.next-t-requires
next-t-requires g c =
    let long = c.loop-frames.invariant.places in
    let some = c.requires.some in
    record { some = omega (arith, long, some) }

pub look_from-mark-requires-clause-places : goal.look_from-mark-requires-clause-places
look_from-mark-requires-clause-places g c =
    c.loop-frames.invariant.base_places ∙ sym (counting_long c.loop-frames.line c.next-t.new.self c.next-t.ensures.come ∙ c.loop-frames.invariant.places)

pub look_from-mark-requires-clause-room : goal.look_from-mark-requires-clause-room
look_from-mark-requires-clause-room g c =
    c.loop-frames.invariant.base_room ∙ sym (ap (λ (l : Standing). l.room) c.next-t.ensures.come ∙ c.loop-frames.invariant.room)

pub flow_at-flow-requires : goal.flow_at-flow-requires
flow_at-flow-requires g c =
    let long = c.loop-frames.invariant.places in
    let within = c.next-t.ensures.within in
    omega (arith, long, within)

pub returns-in-Again-clause-count : goal.returns-in-Again-clause-count
returns-in-Again-clause-count g c = c.loop-frames.invariant.count

pub note-requires : goal.note-requires
note-requires g c =
    let at = (arrives_is _ _ _ _ _ c.flow_at-flow.result _ _ _ _ c.in-Ok.ensures.told).0 in
    let long = c.loop-frames.invariant.places in
    let within = c.next-t.ensures.within in
    let count = c.loop-frames.invariant.count in
    omega (arith, at, long, within, count)

pub loop-frames-preserved : goal.loop-frames-preserved
loop-frames-preserved g c =
    let value = c.cycle_ns.ensures.value in
    let looked = look_said c.last_offset-last.result (last_offset c.args.flows.now) c.from-cycle.result c.args.schedule.now.cycle c.loop-frames.mark.since c.next-t.result.0 c.next-t.new.self.track c.loop-frames.base.track c.look_back-look.result c.look_back-look.ensures c.last_offset-last.ensures (c.from-cycle.ensures ∙ value) in
    let come_room = ap (λ (l : Standing). l.room) c.next-t.ensures.come in
    let nexts = counting_long c.loop-frames.line c.next-t.new.self c.next-t.ensures.come in
    record {
      places = (arrives_is _ _ _ _ _ c.flow_at-flow.result _ _ _ _ c.in-Ok.ensures.told).1 ∙ (nexts ∙ c.loop-frames.invariant.places);
      base_places =
          ap (λ (l : Standing). length l.track.nexts) c.look_from-mark.ensures.base
          ∙ one_of (λ (l : Standing). length l.track.nexts) (is_from_here c.look_back-look.result) c.next-t.new.self c.loop-frames.base (nexts ∙ c.loop-frames.invariant.places) c.loop-frames.invariant.base_places;
      room = c.in-Ok.ensures.room ∙ (come_room ∙ c.loop-frames.invariant.room);
      base_room =
          ap (λ (l : Standing). l.room) c.look_from-mark.ensures.base
          ∙ one_of (λ (l : Standing). l.room) (is_from_here c.look_back-look.result) c.next-t.new.self c.loop-frames.base (come_room ∙ c.loop-frames.invariant.room) c.loop-frames.invariant.base_room;
      earlier =
          let before = c.loop-frames.invariant.earlier in
          subst (λ (m : Mark). m.earlier ≤ c.loop-frames.frames + 1) (sym c.look_from-mark.ensures.mark)
          (earlier_of (is_from_here c.look_back-look.result) c.loop-frames.frames (record { since = c.next-t.result.0; earlier = c.loop-frames.frames }) c.loop-frames.mark refl before);
      count = ap length c.note.ensures ∙ (length-set c.loop-frames.bounds _ _ ∙ c.loop-frames.invariant.count);
      answer =
          sym (goes_here c.args.schedule.now c.args.class c.args.line.now.room c.args.flows.now c.args.limit c.loop-frames.frames c.next-t.result.0 c.next-t.result.1 c.loop-frames.line c.loop-frames.base c.next-t.new.self c.loop-frames.mark c.loop-frames.bounds c.loop-frames.most c.loop-frames.backlog c.look_back-look.result
          c.loop-frames-test.true c.next-t.ensures.frame c.next-t.ensures.come c.loop-frames.invariant.room looked
          c.flow_at-flow.result c.in-Ok.told c.start.new.self c.look_from-mark.new.base c.look_from-mark.result (record { since = c.next-t.result.0; earlier = c.loop-frames.frames }) c.note.new.bounds c.max-most.result c.followed-backlog.result
          c.in_default.not-Again c.flow_at-flow.ensures.flow c.in-Ok.ensures.stop c.in-Ok.ensures.told refl c.look_from-mark.ensures.mark c.look_from-mark.ensures.base c.note.ensures c.max-most.ensures
          (followed_said c.from-cycle.result c.args.schedule.now.cycle c.taken.result (taken_at c.next-t.result.0 c.next-t.new.self.track) c.look_back-look.result c.loop-frames.backlog c.followed-backlog.result c.followed-backlog.ensures (c.from-cycle.ensures ∙ value) c.taken.ensures))
          ∙ c.loop-frames.invariant.answer;
    }

pub returns-in-Again-clause-answer : goal.returns-in-Again-clause-answer
returns-in-Again-clause-answer g c =
    let value = c.cycle_ns.ensures.value in
    let looked = look_said c.last_offset-last.result (last_offset c.args.flows.now) c.from-cycle.result c.args.schedule.now.cycle c.loop-frames.mark.since c.next-t.result.0 c.next-t.new.self.track c.loop-frames.base.track c.look_back-look.result c.look_back-look.ensures c.last_offset-last.ensures (c.from-cycle.ensures ∙ value) in
    sym c.loop-frames.invariant.answer ∙ back_here c.args.schedule.now c.args.class c.args.line.now.room c.args.flows.now c.args.limit c.loop-frames.frames c.next-t.result.0 c.next-t.result.1 c.loop-frames.line c.loop-frames.base c.next-t.new.self c.loop-frames.mark c.loop-frames.bounds c.loop-frames.most c.loop-frames.backlog c.look_back-look.result c.loop-frames-test.true c.next-t.ensures.frame c.next-t.ensures.come c.loop-frames.invariant.room looked c.in-Again.is

pub returns-in-Err-clause-answer : goal.returns-in-Err-clause-answer
returns-in-Err-clause-answer g c =
    let value = c.cycle_ns.ensures.value in
    let looked = look_said c.last_offset-last.result (last_offset c.args.flows.now) c.from-cycle.result c.args.schedule.now.cycle c.loop-frames.mark.since c.next-t.result.0 c.next-t.new.self.track c.loop-frames.base.track c.look_back-look.result c.look_back-look.ensures c.last_offset-last.ensures (c.from-cycle.ensures ∙ value) in
    let same = c.in-Err.ensures.same in
    let why : c.unbound.result ≡ unbound_by c.in-Err.stop (frame_of c.args.flows.now (c.next-t.result.0, c.next-t.result.1) c.loop-frames.frames) (first_refused c.next-t.new.self.room c.args.flows.now c.next-t.new.self.track) =
    c.unbound.ensures
    ∙ (ap (λ f. unbound_by c.in-Err.stop f (first_refused c.start.new.self.room c.args.flows.now c.start.new.self.track)) c.frame_at-frame.ensures
    ∙ ap (λ (l : Standing). unbound_by c.in-Err.stop (frame_of c.args.flows.now (c.next-t.result.0, c.next-t.result.1) c.loop-frames.frames) (first_refused l.room c.args.flows.now l.track)) same) in
    sym c.loop-frames.invariant.answer
    ∙ (stops_here c.args.schedule.now c.args.class c.args.line.now.room c.args.flows.now c.args.limit c.loop-frames.frames c.next-t.result.0 c.next-t.result.1 c.loop-frames.line c.loop-frames.base c.next-t.new.self c.loop-frames.mark c.loop-frames.bounds c.loop-frames.most c.loop-frames.backlog c.look_back-look.result c.loop-frames-test.true c.next-t.ensures.frame c.next-t.ensures.come c.loop-frames.invariant.room looked
    c.flow_at-flow.result c.in-Err.stop c.in_default.not-Again c.flow_at-flow.ensures.flow c.in-Err.ensures.stop
    ∙ ap Err (sym why))

pub returns-clause-answer : goal.returns-clause-answer
returns-clause-answer g c = sym c.loop-frames.invariant.answer ∙ ends_here c.args.schedule.now c.args.class c.args.line.now.room c.args.flows.now c.args.limit c.loop-frames.frames (at c.loop-frames.frames c.loop-frames.line c.loop-frames.base c.loop-frames.mark c.loop-frames.bounds c.loop-frames.most c.loop-frames.backlog) c.loop-frames-test.false ∙ ap Err (sym c.unended.ensures)

pub unbound-requires : goal.unbound-requires
unbound-requires g c = record {
  some = c.requires.some;
  flows = c.requires.flows;
  places = ap (λ (l : Standing). length l.track.nexts) c.in-Err.ensures.same ∙ (counting_long c.loop-frames.line c.next-t.new.self c.next-t.ensures.come ∙ c.loop-frames.invariant.places);
}
