use Rattle.std.proofs.Common.{◌++◌, List, [], length, Result, Ok, Err, refl, sym, ap, ◌∙◌, append-nil, subst}
use Rattle.std.proofs.lemmas.Result.{err_from_is_err_and}
use Rattle.replay.specs.Words.{Ends, Fault, Outcome, PutsBoth, ReplayInput, Request, came_from, end_fault, got, kept_requests, merged, state_of, timed_from, told_to_end}
use Rattle.replay.proofs.EndLaws.{ends_by, ends_stop, told_fail, told_then}
use Rattle.replay.proofs.replay_run.run.Goals as goal

pub returns-in_err-broken : goal.returns-in_err-broken
returns-in_err-broken g c = λ read is es last comes k.
    let r = c.from_residual.result in
    let p = err_from_is_err_and r c.from_residual.ensures.1 in
    let y = c.in_err-broken.field-0.0 in
    let s = state_of g.V.Write.contents g.W.Write.contents c.args.sending.now c.args.outputs.now in
    let t = state_of g.V.Write.contents g.W.Write.contents c.walk_both.new.taker c.walk_both.new.out in
    let xs = merged (timed_from 0 (kept_requests read c.args.script.now.octets.items c.args.script.now.lines.items)) (came_from 0 0 es.entries) in
    let o : Outcome = record { output = told_to_end es xs c.args.until s.port s.seen; fault = end_fault (length es.entries) last } in
    let a = (c.in_err-broken.ensures.taken read is es.entries last comes).taken c.requires.together es refl k in
    ends_stop {U = Unit {0}} r y s.got t.got o (p.1 ∙ ap Err p.2) (told_fail {T = Unit {0}} (Err y) es c.args.until xs s t refl a)

pub returns-in_err-run_on : goal.returns-in_err-run_on
returns-in_err-run_on g c = λ read is es last comes k.
    let r = c.from_residual-in_err-run_on.result in
    let p = err_from_is_err_and r c.from_residual-in_err-run_on.ensures.1 in
    let y = c.in_err-run_on.field-0.0 in
    let s = state_of g.V.Write.contents g.W.Write.contents c.args.sending.now c.args.outputs.now in
    let t = state_of g.V.Write.contents g.W.Write.contents c.walk_both.new.taker c.walk_both.new.out in
    let v = got (g.V.Write.contents c.run_on.new.outputs.report) (g.W.Write.contents c.run_on.new.outputs.departures) in
    let xs = merged (timed_from 0 (kept_requests read c.args.script.now.octets.items c.args.script.now.lines.items)) (came_from 0 0 es.entries) in
    let o : Outcome = record { output = told_to_end es xs c.args.until s.port s.seen; fault = end_fault (length es.entries) last } in
    let a = ((c.in_ok-broken.ensures.taken read is es.entries last comes).taken c.requires.together).1 es refl k in
    let P : List Request → Type 0 = λ rs. PutsBoth {T = Unit {0}} (Err y) s.got v (told_to_end es rs c.args.until s.port s.seen) in
    ends_stop {U = Unit {0}} r y s.got v o (p.1 ∙ ap Err p.2) (subst P (append-nil xs) (told_then {T = Unit {0}} (Err y) es c.args.until xs [] s t v c.requires.together.sound a (c.in_err-run_on.ensures es a.keeps)))

pub returns : goal.returns
returns g c = λ read is es last comes k.
    let s = state_of g.V.Write.contents g.W.Write.contents c.args.sending.now c.args.outputs.now in
    let t = state_of g.V.Write.contents g.W.Write.contents c.walk_both.new.taker c.walk_both.new.out in
    let v = got (g.V.Write.contents c.run_on.new.outputs.report) (g.W.Write.contents c.run_on.new.outputs.departures) in
    let xs = merged (timed_from 0 (kept_requests read c.args.script.now.octets.items c.args.script.now.lines.items)) (came_from 0 0 es.entries) in
    let o : Outcome = record { output = told_to_end es xs c.args.until s.port s.seen; fault = end_fault (length es.entries) last } in
    let taken = c.in_ok-broken.ensures.taken read is es.entries last comes in
    let a = (taken.taken c.requires.together).1 es refl k in
    let P : List Request → Type 0 = λ rs. PutsBoth {T = Unit {0}} (Ok tt) s.got v (told_to_end es rs c.args.until s.port s.seen) in
    let whole = subst P (append-nil xs) (told_then {T = Unit {0}} (Ok tt) es c.args.until xs [] s t v c.requires.together.sound a (c.in_ok-run_on.ensures es a.keeps)) in
    let Q : Result (Unit {0}) (Fault ReplayInput) → Type 0 = λ r. Ends r s.got v o in
    subst Q (sym c.ended_by.ensures) (ends_by c.in_ok-broken.broken es.entries last s.got v o refl taken.ending whole)
