use Rattle.std.proofs.Common.{◌≡◌, Err, map, refl, rules, sym, ap, ◌∙◌, subst}
use Rattle.std.proofs.lemmas.Result.{err_from_is_err_and}
use Rattle.replay.specs.Words.{AbstractPort, PortState, starts_until, last_end, noted_all, IsSoundPort, State, state}
use Rattle.abstract_port.specs.declared.Answer.TheVariants as Answered
use Rattle.replay.specs.declared.faults.Stop.TheVariants as Stops
use Rattle.replay.specs.Sends.{both_all, both_exit, both_more, both_none, never, of_error}
use Rattle.replay.proofs.StartLaws.{early, fewer, has_first, idle_queues, idle_room, keeps-after, leaves, no-starts-end, no-starts-last, no-starts-out, no-starts-seen, onward, same-end, starts-kept, starts-last, starts-seen, still_keeps, still_together, together-after}
use Rattle.replay.proofs.sender.put_each_start.Goals as goal

pub loop-start-init : goal.loop-start-init
loop-start-init g c = record { later = c.requires.later; together = c.requires.together; same_end = refl; same_seen = ap (λ n. noted_all n (map Answered.Start (starts_until c.args.sending.now.port.port c.args.until).0) c.args.sending.now.summary) c.now-now.ensures.now; same_last = refl; keeps = λ es k. k; sent = λ es k. both_none _ _ }

pub put_start-requires : goal.put_start-requires
put_start-requires g c =
    let i = c.loop-start.invariant in
    let s = state c.loop-start.sending (g.V.Write.contents c.loop-start.report) (g.W.Write.contents c.loop-start.departures) in
    let q = c.step.new.self.port in
    let x = c.in-Some.start in
    let e = sym c.step.ensures.start ∙ c.in-Some.is in
    let is = leaves s.port q c.args.until i.later c.step.ensures.port i.together.sound x e in
    let before = early s.port q c.args.until i.later c.step.ensures.port i.together.sound x e in
    (search, (is.class, (has_first s q x is i.together, search (rules, before, c.requires.within))))

pub loop-start-smaller : goal.loop-start-smaller
loop-start-smaller g c =
    let i = c.loop-start.invariant in
    let p = c.loop-start.sending.port.port in
    let q = c.put_start.new.sending.port.port in
    let after = ap (λ (x : PortState). x.port) c.in_ok-put_start-in-Some.ensures.port ∙ c.step.ensures.port in
    fewer p q c.args.until i.later after i.together.sound c.in-Some.start (sym c.step.ensures.start ∙ c.in-Some.is)

pub loop-start-preserved : goal.loop-start-preserved
loop-start-preserved g c =
    let i = c.loop-start.invariant in
    let s = state c.loop-start.sending (g.V.Write.contents c.loop-start.report) (g.W.Write.contents c.loop-start.departures) in
    let t = state c.put_start.new.sending (g.V.Write.contents c.put_start.new.report) (g.W.Write.contents c.put_start.new.departures) in
    let x = c.in-Some.start in
    let upto = c.args.until in
    let e = sym c.step.ensures.start ∙ c.in-Some.is in
    let done = c.in_ok-put_start-in-Some.ensures in
    let moved = ap (λ (x : PortState). x.port) done.port in
    let after = moved ∙ c.step.ensures.port in
    let P : AbstractPort → Type 0 = λ p. IsSoundPort p in
    let sound = subst P (sym moved) c.step.ensures.sound in
    let is = leaves s.port t.port upto i.later after i.together.sound x e in
    record {
      later = onward s.port t.port upto i.later after i.together.sound;
      together = together-after s t x is done.store sound i.together;
      same_end = same-end s.port t.port upto i.later after i.together.sound x e ∙ i.same_end;
      same_seen =
          ap (λ o. noted_all c.now-now.result (map Answered.Start (starts_until t.port upto).0) o) done.seen
          ∙ sym (starts-seen s.port t.port upto i.later after i.together.sound x e c.now-now.result s.seen) ∙ i.same_seen;
      same_last =
          ap (λ m. last_end m (starts_until t.port upto).0) done.last
          ∙ sym (starts-last s.port t.port upto i.later after i.together.sound x e c.loop-start.sending.leaving.last) ∙ i.same_last;
      keeps = λ es k. keeps-after s t x is done.store es done.stamping (i.keeps es k);
      sent = λ es k. both_more _ _ _ (i.sent es k) (starts-kept s t.port upto i.later after i.together.sound x e es (i.keeps es k)) done.out;
    }

pub returns-in_err-put_start-in-Some-clause-starts : goal.returns-in_err-put_start-in-Some-clause-starts
returns-in_err-put_start-in-Some-clause-starts g c = λ es k.
    let r = err_from_is_err_and c.from_residual.result c.from_residual.ensures.1 in
    let i = c.loop-start.invariant in
    let s = state c.loop-start.sending (g.V.Write.contents c.loop-start.report) (g.W.Write.contents c.loop-start.departures) in
    let t = state c.put_start.new.sending (g.V.Write.contents c.put_start.new.report) (g.W.Write.contents c.put_start.new.departures) in
    let x = c.in-Some.start in
    let e = sym c.step.ensures.start ∙ c.in-Some.is in
    record {
      port = never _ r.1;
      keeps = never _ r.1;
      seen = never _ r.1;
      out = both_exit c.from_residual.result _ _ _ (r.1 ∙ ap Err r.2) (i.sent es k)
          (starts-kept s c.step.new.self.port c.args.until i.later c.step.ensures.port i.together.sound x e es (i.keeps es k)) c.in_err-put_start-in-Some.ensures.out;
    }

pub returns-in-None-clause-together : goal.returns-in-None-clause-together
returns-in-None-clause-together g c =
    let i = c.loop-start.invariant in
    let s = state c.loop-start.sending (g.V.Write.contents c.loop-start.report) (g.W.Write.contents c.loop-start.departures) in
    let t : State = record { port = c.step.new.self.port; store = s.store; seen = s.seen; stamping = s.stamping; got = s.got } in
    let e = sym c.step.ensures.start ∙ c.in-None.is in
    still_together s t (idle_queues s.port t.port c.args.until i.later c.step.ensures.port i.together.sound e) (idle_room s.port t.port c.args.until i.later c.step.ensures.port i.together.sound e) refl c.step.ensures.sound i.together

pub returns-in-None-clause-starts : goal.returns-in-None-clause-starts
returns-in-None-clause-starts g c = λ es k.
    let i = c.loop-start.invariant in
    let s = state c.loop-start.sending (g.V.Write.contents c.loop-start.report) (g.W.Write.contents c.loop-start.departures) in
    let t : State = record { port = c.step.new.self.port; store = s.store; seen = s.seen; stamping = s.stamping; got = s.got } in
    let e = sym c.step.ensures.start ∙ c.in-None.is in
    record {
      port = no-starts-end s.port t.port c.args.until i.later c.step.ensures.port i.together.sound e ∙ i.same_end;
      keeps = still_keeps es s t (idle_queues s.port t.port c.args.until i.later c.step.ensures.port i.together.sound e) refl refl (i.keeps es k);
      seen = sym (no-starts-seen s.port t.port c.args.until i.later c.step.ensures.port i.together.sound e c.now-now.result s.seen) ∙ i.same_seen;
      out = both_all tt (i.sent es k) (no-starts-out s.port t.port c.args.until i.later c.step.ensures.port i.together.sound e es);
    }

pub returns-in_err-put_start-in-Some-clause-together : goal.returns-in_err-put_start-in-Some-clause-together
returns-in_err-put_start-in-Some-clause-together g c = never _ (err_from_is_err_and c.from_residual.result c.from_residual.ensures.1).1

pub returns-in_err-put_start-in-Some-clause-fault : goal.returns-in_err-put_start-in-Some-clause-fault
returns-in_err-put_start-in-Some-clause-fault g c =
    let p = err_from_is_err_and c.from_residual.result c.from_residual.ensures.1 in
    of_error c.from_residual.result Stops.Write (λ fault. fault ≡ Stops.Write) (p.1 ∙ ap Err (p.2 ∙ c.in_err-put_start-in-Some.ensures.fault)) refl

pub returns-in-None-clause-fault : goal.returns-in-None-clause-fault
returns-in-None-clause-fault g c = tt

pub step-requires : goal.step-requires
step-requires g c = (search rules, (c.loop-start.invariant.later, search (rules, c.requires.within)))

pub returns-in_err-put_start-in-Some-clause-last : goal.returns-in_err-put_start-in-Some-clause-last
returns-in_err-put_start-in-Some-clause-last g c = never _ (err_from_is_err_and c.from_residual.result c.from_residual.ensures.1).1

pub returns-in-None-clause-last : goal.returns-in-None-clause-last
returns-in-None-clause-last g c =
    let i = c.loop-start.invariant in
    let e = sym c.step.ensures.start ∙ c.in-None.is in
    sym (no-starts-last c.loop-start.sending.port.port c.step.new.self.port c.args.until i.later c.step.ensures.port i.together.sound e c.loop-start.sending.leaving.last) ∙ i.same_last
