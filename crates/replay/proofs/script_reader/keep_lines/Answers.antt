use Rattle.std.proofs.Common.{◌≡◌, [], None, Ok, Err, Some, ap, ◌∙◌}
use Rattle.std.proofs.lemmas.Result.{err_from_is_err_and}
use Rattle.replay.specs.Words.{words_of, line_in, line_request, request_in, kept_requests, bad_line}
use Rattle.replay.specs.Lines.{request_if}
use Rattle.job.specs.declared.fault.Fault.TheVariants as Faults
use Rattle.replay.specs.declared.faults.ReplayInput.TheVariants as Inputs
use Rattle.replay.proofs.KeepLaws.{begins, ends, goes_on, goes_past, goes_wrong, stops}
use Rattle.replay.proofs.script_reader.keep_lines.Goals as goal

pub lines-init : goal.lines-init
lines-init g c = record { kept = λ read is. begins read _ _; alerts = g.met.P.Watch.nothing c.args.watch.now }

pub lines-preserved : goal.lines-preserved
lines-preserved g c = record {
  kept = λ read is.
      let octets = c.advance.new.self.line.items in
      let line = c.in-Ok-Some.line in
      let said : line_in octets ≡ Ok (Some line) = cc in
      let e : request_in read octets ≡ Ok (Some (line_request (read (words_of octets)) line)) = ap (request_if (read (words_of octets))) said in
      let a = rw c.if-branch.true at c.in_ok-advance.ensures.line in
      goes_on read _ _ _ _ _ _ _ (line_request (read (words_of octets)) line) _ (c.lines.invariant.kept read is) a e (rw c.line-octets.ensures at (c.in_ok-keep-in-Ok-Some.ensures read));
  alerts = c.lines.invariant.alerts;
}

pub returns-in_err-advance-clause-rest : goal.returns-in_err-advance-clause-rest
returns-in_err-advance-clause-rest g c = λ read is.
    let p = err_from_is_err_and c.from_residual.result c.from_residual.ensures.1 in
    stops read c.from_residual.result _ _ _ _ _ _ _ _ _ (c.lines.invariant.kept read is) c.in_err-advance.ensures.line (p.1 ∙ ap Err p.2)

pub returns-in-Err-clause-rest : goal.returns-in-Err-clause-rest
returns-in-Err-clause-rest g c = λ read is.
    let octets = c.advance.new.self.line.items in
    let said : line_in octets ≡ Err c.in-Err.fault = cc in
    let e : request_in read octets ≡ Err c.in-Err.fault = ap (request_if (read (words_of octets))) said in
    let a = rw c.if-branch.true at c.in_ok-advance.ensures.line in
    goes_wrong read {T = Unit {0}} (Err (Faults.Input (Inputs.Script c.new.result))) _ _ _ (kept_requests read c.lines.script.octets.items c.lines.script.lines.items) _ _ _ _ c.in-Err.fault (c.lines.invariant.kept read is) a e (ap (λ b. Err (Faults.Input (Inputs.Script b))) c.new.ensures ∙ ap (λ n. Err (Faults.Input (Inputs.Script (bad_line n c.in-Err.fault)))) c.line_number-in-Err.ensures)

pub returns-clause-rest : goal.returns-clause-rest
returns-clause-rest g c = λ read is.
    let a = rw c.if-branch.false at c.in_ok-advance.ensures.line in
    ends read {T = Unit {0}} tt _ _ _ _ _ _ _ (c.lines.invariant.kept read is) a

pub lines-preserved-in-Ok-None : goal.lines-preserved-in-Ok-None
lines-preserved-in-Ok-None g c = record {
  kept = λ read is.
      let octets = c.advance.new.self.line.items in
      let said : line_in octets ≡ Ok None = cc in
      let e : request_in read octets ≡ Ok None = ap (request_if (read (words_of octets))) said in
      let a = rw c.if-branch.true at c.in_ok-advance.ensures.line in
      goes_past read _ _ _ _ _ _ _ (c.lines.invariant.kept read is) a e;
  alerts = g.met.P.Watch.both [] [] c.args.watch.now c.lines.watch c.line_skipped.new.self c.lines.invariant.alerts c.line_skipped.ensures;
}

pub returns-in-Err-clause-alerts : goal.returns-in-Err-clause-alerts
returns-in-Err-clause-alerts g c = g.met.P.Watch.both [] [] c.args.watch.now c.lines.watch c.line_failed.new.self c.lines.invariant.alerts c.line_failed.ensures
