use Rattle.std.proofs.Common.{◌≡◌, ℕ, Bool, true, List, Option, Ok, Err, None, Some, refl, sym, ap, ◌∙◌, drop, length, take, subst, ◌+◌, ◌-◌, arith}
use Rattle.std.proofs.lemmas.List.{length-drop}
use Rattle.std.proofs.lemmas.Result.{err_from_is_err_and}
use Rattle.job.specs.declared.fault.Fault.TheVariants as Faults
use Rattle.script.specs.Requests.{request_said}
use Rattle.script.specs.Words.{Advances, Asks, Script, bad_line, request_of, said_in, script_left, tc_request, words_of}
use Rattle.script.specs.declared.script_line.Said.TheVariants as Says
use Rattle.script.proofs.LineSteps.{command_next, end_behind, end_whole, end_within, next_in_hand}
use Rattle.script.proofs.WalkSteps.{begins_in_hand, ends, goes_no_further, goes_on, goes_past, goes_quietly, goes_wrong, is_begun, past_taken, stops}
use Rattle.script.proofs.script_walk.walk.Goals.{then-not-rests+in_ok-take_event, else-not-rests}
use Rattle.script.proofs.script_walk.walk.Goals as goal

-- the answer of a step
advanced : {b d : Bool} (s : Option Script) (number : ℕ) (line : List ℕ) (new : Option Script) → b ≡ d → Advances s (Ok b) number line new → Advances s (Ok d) number line new
advanced s number line new = subst (λ b. Advances s (Ok b) number line new)

pub lines-init : goal.lines-init
lines-init g c = λ read is. is_begun read g.T.EventTaker.took g.T.EventTaker.cut g.met.T.EventTaker.nothing _ _ _ _

pub plain-init : goal.plain-init
plain-init g c = record {
  running = λ read is lines all count i. begins_in_hand read g.T.EventTaker.took g.T.EventTaker.cut g.R.Read.remaining lines _ _ _ _ _ _ _ _ _ all i;
  front = end_whole _;
  few = omega arith;
  paid = omega arith;
}

pub plain-preserved : goal.plain-preserved
plain-preserved g c =
    let line = c.in-Some.ensures.line in
    record {
      running = λ read is lines all count i.
          let e = ap (request_said (read (words_of (take c.in-Some.length c.plain.rest.now)))) line.says in
          let a = next_in_hand g.R.Read.remaining lines _ _ _ _ _ _ c.plain.invariant.front all count c.plain.invariant.few c.in-Some.ensures.some line.ends (omega (arith, c.in-Some.ensures.short)) in
          let run = c.plain.invariant.running read is lines all count i in
          rw c.split_at.ensures.back (elim c.if-not-rests.branch [
            | then-not-rests+in_ok-take_event w ↦ rw (w.taker-is, w.out-is, w.watch-is) (goes_on read g.T.EventTaker.took g.T.EventTaker.cut _ _ _ _ _ _ g.met.T.EventTaker.both _ _ _ _ _ (Asks c.in-Some.event) _ _ _ run a e (rw (c.rests.ensures.kept w.if-not-rests.true) at w.in_ok-take_event.ensures))
            | else-not-rests w ↦ rw (w.taker-is, w.out-is, w.watch-is) (goes_on read g.T.EventTaker.took g.T.EventTaker.cut _ _ _ _ _ _ g.met.T.EventTaker.both _ _ _ _ _ (Asks c.in-Some.event) _ _ _ run a e (c.rests.ensures.rests _ _ w.if-not-rests.false))
          ]);
      front = c.split_at.ensures.back ∙ end_behind _ _ _ (omega (arith, line.ends.within)) c.plain.invariant.front ∙ ap (λ octets. drop (length c.hand-hand.result.now - length octets) c.hand-hand.result.now) (sym c.split_at.ensures.back);
      few = omega arith;
      paid = omega (arith, c.plain.invariant.paid, c.plain.invariant.few, line.ends.within, end_within _ _ c.plain.invariant.front, ap length c.split_at.ensures.back, length-drop (c.in-Some.length + 1) c.plain.rest.now);
    }

pub returns-in_err-take_event : goal.returns-in_err-take_event
returns-in_err-take_event g c = λ read is.
    let p = err_from_is_err_and c.from_residual.result c.from_residual.ensures.1 in
    let line = c.in-Some.ensures.line in
    let e = ap (request_said (read (words_of (take c.in-Some.length c.plain.rest.now)))) line.says in
    let a = next_in_hand g.R.Read.remaining c.lines.lines _ _ _ _ _ _ c.plain.invariant.front c.hand-hand.ensures c.lines_left-most.ensures c.plain.invariant.few c.in-Some.ensures.some line.ends (omega (arith, c.in-Some.ensures.short)) in
    let done = rw (c.rests.ensures.kept c.if-not-rests.true) at c.in_err-take_event.ensures in
    goes_no_further read g.T.EventTaker.took g.T.EventTaker.cut _ _ _ _ _ _ g.met.T.EventTaker.cut_later _ _ _ _ _ (Asks c.in-Some.event) _ _ _ _ (c.plain.invariant.running read is c.lines.lines c.hand-hand.ensures c.lines_left-most.ensures (c.lines.invariant read is)) a e done (p.1 ∙ ap Err p.2)

pub overflow_sub-octets : goal.overflow_sub-octets
overflow_sub-octets g c = end_within _ _ c.plain.invariant.front

pub overflow_sub-most : goal.overflow_sub-most
overflow_sub-most g c = omega (arith, c.plain.invariant.few)

pub go_past-requires-clause-ended : goal.go_past-requires-clause-ended
go_past-requires-clause-ended g c = omega (arith, c.plain.invariant.paid)

pub lines-preserved-in-Ok-None : goal.lines-preserved-in-Ok-None
lines-preserved-in-Ok-None g c = λ read is.
    let said : said_in c.next_line.new.lines.line.items ≡ Ok None = ap said_in (sym c.line-line.ensures) ∙ sym c.read_line.ensures ∙ c.in-Ok-None.is ∙ ap Ok c.in-Ok-None.field-0-is in
    let e : request_of read c.next_line.new.lines.line.items ≡ Ok None = ap (request_said (read (words_of c.next_line.new.lines.line.items))) said in
    let past = past_taken read g.T.EventTaker.took g.T.EventTaker.cut g.R.Read.remaining _ _ _ _ _ _ _ _ _ _ _ _ _ (c.plain.invariant.running read is c.lines.lines c.hand-hand.ensures c.lines_left-most.ensures (c.lines.invariant read is)) c.plain.invariant.front c.hand-hand.ensures c.go_past.ensures.script in
    let i = goes_quietly read g.T.EventTaker.took g.T.EventTaker.cut _ _ _ _ _ _ g.met.T.EventTaker.both _ _ _ _ _ past (c.in_ok-next_line.ensures.step _).1 in
    let a = advanced _ _ _ _ c.if-not-branch.false (c.in_ok-next_line.ensures.step c.plain.watch).0 in
    let gone = goes_past read g.T.EventTaker.took g.T.EventTaker.cut _ _ _ _ _ _ _ _ _ _ _ i a e in
    goes_quietly read g.T.EventTaker.took g.T.EventTaker.cut _ _ _ _ _ _ g.met.T.EventTaker.both _ _ _ _ _ gone (g.met.T.EventTaker.untold _ _ _ _ c.line_skipped.ensures)

pub lines-preserved-in_ok-take_event-in-Ok-Some-Asked : goal.lines-preserved-in_ok-take_event-in-Ok-Some-Asked
lines-preserved-in_ok-take_event-in-Ok-Some-Asked g c = λ read is.
    let said : said_in c.next_line.new.lines.line.items ≡ Ok (Some (Says.Asked c.in-Ok-Some-Asked.event)) = ap said_in (sym c.line-line.ensures) ∙ sym c.read_line.ensures ∙ c.in-Ok-Some-Asked.is ∙ ap Ok (c.in-Ok-Some-Asked.field-0-is ∙ ap Some c.in-Ok-Some-Asked.field-0-0-is) in
    let e : request_of read c.next_line.new.lines.line.items ≡ Ok (Some (Asks c.in-Ok-Some-Asked.event)) = ap (request_said (read (words_of c.next_line.new.lines.line.items))) said in
    let past = past_taken read g.T.EventTaker.took g.T.EventTaker.cut g.R.Read.remaining _ _ _ _ _ _ _ _ _ _ _ _ _ (c.plain.invariant.running read is c.lines.lines c.hand-hand.ensures c.lines_left-most.ensures (c.lines.invariant read is)) c.plain.invariant.front c.hand-hand.ensures c.go_past.ensures.script in
    let i = goes_quietly read g.T.EventTaker.took g.T.EventTaker.cut _ _ _ _ _ _ g.met.T.EventTaker.both _ _ _ _ _ past (c.in_ok-next_line.ensures.step _).1 in
    let a = advanced _ _ _ _ c.if-not-branch.false (c.in_ok-next_line.ensures.step c.plain.watch).0 in
    goes_on read g.T.EventTaker.took g.T.EventTaker.cut _ _ _ _ _ _ g.met.T.EventTaker.both _ _ _ _ _ (Asks c.in-Ok-Some-Asked.event) _ _ _ i a e c.in_ok-take_event-in-Ok-Some-Asked.ensures

pub lines-preserved : goal.lines-preserved
lines-preserved g c = λ read is.
    let said : said_in c.next_line.new.lines.line.items ≡ Ok (Some Says.Tc) = ap said_in (sym c.line-line.ensures) ∙ sym c.read_line.ensures ∙ c.in-Ok-Some-Tc.is ∙ ap Ok (c.in-Ok-Some-Tc.field-0-is ∙ ap Some c.in-Ok-Some-Tc.field-0-0-is) in
    let e : request_of read c.next_line.new.lines.line.items ≡ Ok (Some (tc_request (read (words_of c.next_line.new.lines.line.items)))) = ap (request_said (read (words_of c.next_line.new.lines.line.items))) said in
    let past = past_taken read g.T.EventTaker.took g.T.EventTaker.cut g.R.Read.remaining _ _ _ _ _ _ _ _ _ _ _ _ _ (c.plain.invariant.running read is c.lines.lines c.hand-hand.ensures c.lines_left-most.ensures (c.lines.invariant read is)) c.plain.invariant.front c.hand-hand.ensures c.go_past.ensures.script in
    let i = goes_quietly read g.T.EventTaker.took g.T.EventTaker.cut _ _ _ _ _ _ g.met.T.EventTaker.both _ _ _ _ _ past (c.in_ok-next_line.ensures.step _).1 in
    let a = advanced _ _ _ _ c.if-not-branch.false (c.in_ok-next_line.ensures.step c.plain.watch).0 in
    goes_on read g.T.EventTaker.took g.T.EventTaker.cut _ _ _ _ _ _ g.met.T.EventTaker.both _ _ _ _ _ (tc_request (read (words_of c.next_line.new.lines.line.items))) _ _ _ i a e (rw c.line-line.ensures at c.in_ok-take_tc-in-Ok-Some-Tc.ensures read is)

pub returns-in_err-next_line : goal.returns-in_err-next_line
returns-in_err-next_line g c = λ read is.
    let p = err_from_is_err_and c.from_residual-in_err-next_line.result c.from_residual-in_err-next_line.ensures.1 in
    let past = past_taken read g.T.EventTaker.took g.T.EventTaker.cut g.R.Read.remaining _ _ _ _ _ _ _ _ _ _ _ _ _ (c.plain.invariant.running read is c.lines.lines c.hand-hand.ensures c.lines_left-most.ensures (c.lines.invariant read is)) c.plain.invariant.front c.hand-hand.ensures c.go_past.ensures.script in
    stops read g.T.EventTaker.took g.T.EventTaker.cut _ _ _ _ _ _ g.met.T.EventTaker.both g.met.T.EventTaker.cut_later _ _ _ _ _ _ _ _ _ past (c.in_err-next_line.ensures.step _) (p.1 ∙ ap Err p.2)

pub returns-in_err-take_event-in-Ok-Some-Asked : goal.returns-in_err-take_event-in-Ok-Some-Asked
returns-in_err-take_event-in-Ok-Some-Asked g c = λ read is.
    let p = err_from_is_err_and c.from_residual-in_err-take_event-in-Ok-Some-Asked.result c.from_residual-in_err-take_event-in-Ok-Some-Asked.ensures.1 in
    let said : said_in c.next_line.new.lines.line.items ≡ Ok (Some (Says.Asked c.in-Ok-Some-Asked.event)) = ap said_in (sym c.line-line.ensures) ∙ sym c.read_line.ensures ∙ c.in-Ok-Some-Asked.is ∙ ap Ok (c.in-Ok-Some-Asked.field-0-is ∙ ap Some c.in-Ok-Some-Asked.field-0-0-is) in
    let e : request_of read c.next_line.new.lines.line.items ≡ Ok (Some (Asks c.in-Ok-Some-Asked.event)) = ap (request_said (read (words_of c.next_line.new.lines.line.items))) said in
    let past = past_taken read g.T.EventTaker.took g.T.EventTaker.cut g.R.Read.remaining _ _ _ _ _ _ _ _ _ _ _ _ _ (c.plain.invariant.running read is c.lines.lines c.hand-hand.ensures c.lines_left-most.ensures (c.lines.invariant read is)) c.plain.invariant.front c.hand-hand.ensures c.go_past.ensures.script in
    let i = goes_quietly read g.T.EventTaker.took g.T.EventTaker.cut _ _ _ _ _ _ g.met.T.EventTaker.both _ _ _ _ _ past (c.in_ok-next_line.ensures.step _).1 in
    let a = advanced _ _ _ _ c.if-not-branch.false (c.in_ok-next_line.ensures.step c.plain.watch).0 in
    goes_no_further read g.T.EventTaker.took g.T.EventTaker.cut _ _ _ _ _ _ g.met.T.EventTaker.cut_later _ _ _ _ _ (Asks c.in-Ok-Some-Asked.event) _ _ _ _ i a e c.in_err-take_event-in-Ok-Some-Asked.ensures (p.1 ∙ ap Err p.2)

pub returns-in_err-take_tc-in-Ok-Some-Tc : goal.returns-in_err-take_tc-in-Ok-Some-Tc
returns-in_err-take_tc-in-Ok-Some-Tc g c = λ read is.
    let p = err_from_is_err_and c.from_residual-in_err-take_tc-in-Ok-Some-Tc.result c.from_residual-in_err-take_tc-in-Ok-Some-Tc.ensures.1 in
    let said : said_in c.next_line.new.lines.line.items ≡ Ok (Some Says.Tc) = ap said_in (sym c.line-line.ensures) ∙ sym c.read_line.ensures ∙ c.in-Ok-Some-Tc.is ∙ ap Ok (c.in-Ok-Some-Tc.field-0-is ∙ ap Some c.in-Ok-Some-Tc.field-0-0-is) in
    let e : request_of read c.next_line.new.lines.line.items ≡ Ok (Some (tc_request (read (words_of c.next_line.new.lines.line.items)))) = ap (request_said (read (words_of c.next_line.new.lines.line.items))) said in
    let past = past_taken read g.T.EventTaker.took g.T.EventTaker.cut g.R.Read.remaining _ _ _ _ _ _ _ _ _ _ _ _ _ (c.plain.invariant.running read is c.lines.lines c.hand-hand.ensures c.lines_left-most.ensures (c.lines.invariant read is)) c.plain.invariant.front c.hand-hand.ensures c.go_past.ensures.script in
    let i = goes_quietly read g.T.EventTaker.took g.T.EventTaker.cut _ _ _ _ _ _ g.met.T.EventTaker.both _ _ _ _ _ past (c.in_ok-next_line.ensures.step _).1 in
    let a = advanced _ _ _ _ c.if-not-branch.false (c.in_ok-next_line.ensures.step c.plain.watch).0 in
    goes_no_further read g.T.EventTaker.took g.T.EventTaker.cut _ _ _ _ _ _ g.met.T.EventTaker.cut_later _ _ _ _ _ (tc_request (read (words_of c.next_line.new.lines.line.items))) _ _ _ _ i a e (rw c.line-line.ensures at c.in_err-take_tc-in-Ok-Some-Tc.ensures read is) (p.1 ∙ ap Err p.2)

pub returns-in-Err : goal.returns-in-Err
returns-in-Err g c = λ read is.
    let said : said_in c.next_line.new.lines.line.items ≡ Err c.in-Err.fault = ap said_in (sym c.line-line.ensures) ∙ sym c.read_line.ensures ∙ c.in-Err.is in
    let e : request_of read c.next_line.new.lines.line.items ≡ Err c.in-Err.fault = ap (request_said (read (words_of c.next_line.new.lines.line.items))) said in
    let past = past_taken read g.T.EventTaker.took g.T.EventTaker.cut g.R.Read.remaining _ _ _ _ _ _ _ _ _ _ _ _ _ (c.plain.invariant.running read is c.lines.lines c.hand-hand.ensures c.lines_left-most.ensures (c.lines.invariant read is)) c.plain.invariant.front c.hand-hand.ensures c.go_past.ensures.script in
    let i = goes_quietly read g.T.EventTaker.took g.T.EventTaker.cut _ _ _ _ _ _ g.met.T.EventTaker.both _ _ _ _ _ past (c.in_ok-next_line.ensures.step _).1 in
    let a = advanced _ _ _ _ c.if-not-branch.false (c.in_ok-next_line.ensures.step c.plain.watch).0 in
    let told = goes_quietly read g.T.EventTaker.took g.T.EventTaker.cut _ _ _ _ _ _ g.met.T.EventTaker.both _ _ _ _ _ i (g.met.T.EventTaker.untold _ _ _ _ c.line_failed.ensures) in
    goes_wrong read g.T.EventTaker.took g.T.EventTaker.cut _ _ _ _ _ _ {T = Unit {0}} _ _ _ _ _ c.in-Err.fault told a e (ap (λ b. Err (Faults.Input b)) c.new.ensures ∙ ap (λ n. Err (Faults.Input (bad_line n c.in-Err.fault))) c.line_number-in-Err.ensures)

pub returns : goal.returns
returns g c = λ read is.
    let past = past_taken read g.T.EventTaker.took g.T.EventTaker.cut g.R.Read.remaining _ _ _ _ _ _ _ _ _ _ _ _ _ (c.plain.invariant.running read is c.lines.lines c.hand-hand.ensures c.lines_left-most.ensures (c.lines.invariant read is)) c.plain.invariant.front c.hand-hand.ensures c.go_past.ensures.script in
    let i = goes_quietly read g.T.EventTaker.took g.T.EventTaker.cut _ _ _ _ _ _ g.met.T.EventTaker.both _ _ _ _ _ past (c.in_ok-next_line.ensures.step _).1 in
    let a = advanced _ _ _ _ c.if-not-branch.true (c.in_ok-next_line.ensures.step c.plain.watch).0 in
    ends read g.T.EventTaker.took g.T.EventTaker.cut _ _ _ _ _ _ {T = Unit {0}} _ _ _ _ _ tt i a refl

pub returns-in_err-take_tc : goal.returns-in_err-take_tc
returns-in_err-take_tc g c = λ read is.
    let p = err_from_is_err_and c.from_residual-in_err-take_tc.result c.from_residual-in_err-take_tc.ensures.1 in
    let line = c.in-Some-command_in_hand.line.now in
    let here = c.in-Some-command_in_hand.ensures in
    let e : request_of read line ≡ Ok (Some (tc_request (read (words_of line)))) = ap (request_said (read (words_of line))) here.says in
    let past = past_taken read g.T.EventTaker.took g.T.EventTaker.cut g.R.Read.remaining _ _ _ _ _ _ _ _ _ _ _ _ _ (c.plain.invariant.running read is c.lines.lines c.hand-hand.ensures c.lines_left-most.ensures (c.lines.invariant read is)) c.plain.invariant.front c.hand-hand.ensures c.go_past.ensures.script in
    goes_no_further read g.T.EventTaker.took g.T.EventTaker.cut _ _ _ _ _ _ g.met.T.EventTaker.cut_later _ _ _ _ _ (tc_request (read (words_of line))) _ _ _ _ past (command_next g.R.Read.remaining c.go_past.new.self line here) e (c.in_err-take_tc.ensures read is) (p.1 ∙ ap Err p.2)

pub lines-preserved-in-Some-command_in_hand : goal.lines-preserved-in-Some-command_in_hand
lines-preserved-in-Some-command_in_hand g c = λ read is.
    let line = c.in-Some-command_in_hand.line.now in
    let here = c.in-Some-command_in_hand.ensures in
    let e : request_of read line ≡ Ok (Some (tc_request (read (words_of line)))) = ap (request_said (read (words_of line))) here.says in
    let past = past_taken read g.T.EventTaker.took g.T.EventTaker.cut g.R.Read.remaining _ _ _ _ _ _ _ _ _ _ _ _ _ (c.plain.invariant.running read is c.lines.lines c.hand-hand.ensures c.lines_left-most.ensures (c.lines.invariant read is)) c.plain.invariant.front c.hand-hand.ensures c.go_past.ensures.script in
    let a = subst (λ t. Advances (script_left g.R.Read.remaining c.go_past.new.self) (Ok true) (c.go_past.new.self.breaks + 0 + 1) line t) (sym c.go_past-in-Some-command_in_hand.ensures.script) (command_next g.R.Read.remaining c.go_past.new.self line here) in
    goes_on read g.T.EventTaker.took g.T.EventTaker.cut _ _ _ _ _ _ g.met.T.EventTaker.both _ _ _ _ _ (tc_request (read (words_of line))) _ _ _ past a e (c.in_ok-take_tc.ensures read is)
