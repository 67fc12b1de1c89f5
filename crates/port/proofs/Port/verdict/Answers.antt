use Rattle.std.proofs.Common.{get_or, ◌≡◌, ◌<◌, ◌≤◌, length, sym, ap, ◌∙◌, subst, arith, rules}
use Rattle.port.specs.Words.{sdu_of, judged, queue_of, no_queue}
use Rattle.abstract_port.proofs.ArrivalLaws.{verdict_is, fits_on}
use Rattle.port.proofs.HeadLaws.{frames_of-at, ok_along, on_ok, on_ok_of}
use Rattle.port.proofs.Port.verdict.Goals as goal

waits : (g : _) (c : goal.After-judge g) → c.waiting_in-waiting.result ≡ length (queue_of c.args.self.now.port c.in-Some.class)
waits g c =
    let less = c.requires.within _ c.in-Some.is in
    let within : c.in-Some.class < length c.self.inside.queues = let e = c.self.invariant.1.eight in omega arith in
    rw (← c.self.view_is) (c.waiting_in-waiting.ensures ∙ ap length (sym (frames_of-at c.self.inside.queues c.in-Some.class no_queue within)))

pub returns-clause-verdict : goal.returns-clause-verdict
returns-clause-verdict g c =
    let w = waits g c in
    verdict_is c.args.self.now.port c.args.frame.now c.in-Some.class c.judge.result (sym c.requires.class ∙ c.in-Some.is)
    (rw (← c.self.view_is)
    (c.judge.ensures.verdict
    ∙ ap (λ n. judged c.self.inside.mtu (get_or c.self.inside.limits c.in-Some.class 0) c.self.inside.room n c.in-Some.class (sdu_of c.args.frame.now)) (rw (← c.self.view_is) at w)))

pub returns-clause-within : goal.returns-clause-within
returns-clause-within g c = ok_along c.judge.result c.in-Some.class (λ k. k < 8) c.judge.ensures.class (on_ok_of _ _ (c.requires.within _ c.in-Some.is))

pub returns-clause-room : goal.returns-clause-room
returns-clause-room g c =
    ok_along c.judge.result c.in-Some.class (λ k. length (queue_of c.args.self.now.port k) < c.args.self.now.port.room) c.judge.ensures.class
    (on_ok c.judge.result _ _ c.judge.ensures.room (λ less. let room = ap (λ p. p.port.room) c.self.view_is in let w = waits g c in subst (λ n. n < c.args.self.now.port.room) w (subst (λ n. c.waiting_in-waiting.result < n) room less)))

pub returns-clause-fits : goal.returns-clause-fits
returns-clause-fits g c =
    let mtu : 68 ≤ c.args.self.now.port.mtu = rw (← c.self.view_is) c.self.invariant.1.mtu_within.0 in
    fits_on c.judge.result c.args.self.now.port c.args.frame.now (omega (arith, mtu)) (returns-clause-verdict g c)

pub waiting_in-waiting-requires : goal.waiting_in-waiting-requires
waiting_in-waiting-requires g c = (search rules, c.requires.within _ c.in-Some.is)
