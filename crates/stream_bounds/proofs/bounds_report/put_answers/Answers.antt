use Rattle.std.proofs.Common.{[], Option, None, true, append-nil, ap, ◌∙◌, refl, sym}
use Rattle.std.proofs.lemmas.Result.{err_from_is_err_and}
use Rattle.text.proofs.Fronts.{sent_all, sent_exit, sent_more, sent_none}
use Rattle.stream_bounds.specs.BoundLines.{bound_lines, change_lines, class_lines, finding_in, first_of, premise_lines}
use Rattle.stream_bounds.specs.declared.faults.Answered.{Answered}
use Rattle.stream_bounds.specs.declared.faults.Finding.{Finding}
use Rattle.stream_bounds.proofs.bounds_report.put_answers.Goals as goal

pub returns-in_err-put_premises-clause-lines : goal.returns-in_err-put_premises-clause-lines
returns-in_err-put_premises-clause-lines g c =
    let p = err_from_is_err_and c.from_residual.result c.from_residual.ensures.1 in
    let s = c.args.settings.now in
    let ch = c.args.change.now in
    sent_exit _ (premise_lines s ch c.args.streams.now) _ p.1 (sent_none _ (change_lines None s ch c.args.streams.now c.args.answers.now)) refl c.in_err-put_premises.ensures

pub returns-in_err-put_classes-clause-lines : goal.returns-in_err-put_classes-clause-lines
returns-in_err-put_classes-clause-lines g c =
    let p = err_from_is_err_and c.from_residual-in_err-put_classes.result c.from_residual-in_err-put_classes.ensures.1 in
    let s = c.args.settings.now in
    let ch = c.args.change.now in
    let first = sent_more _ (premise_lines s ch c.args.streams.now) _ (sent_none _ (change_lines None s ch c.args.streams.now c.args.answers.now)) refl c.in_ok-put_premises.ensures in
    sent_exit _ (class_lines s.port.room c.args.answers.now 8 0) _ p.1 first refl (rw c.room.ensures.value at c.in_err-put_classes.ensures)

pub returns-in_err-of_streams-clause-lines : goal.returns-in_err-of_streams-clause-lines
returns-in_err-of_streams-clause-lines g c =
    let p = err_from_is_err_and c.from_residual-in_err-of_streams.result c.from_residual-in_err-of_streams.ensures.1 in
    let s = c.args.settings.now in
    let ch = c.args.change.now in
    let streams = c.args.streams.now in
    let first = sent_more _ (premise_lines s ch c.args.streams.now) _ (sent_none _ (change_lines None s ch streams c.args.answers.now)) refl c.in_ok-put_premises.ensures in
    let second = sent_more _ (class_lines s.port.room c.args.answers.now 8 0) _ first refl (rw c.room.ensures.value at c.in_ok-put_classes.ensures) in
    sent_exit _ (bound_lines s ch c.args.answers.now streams) [] p.1 second (sym (append-nil _)) c.in_err-of_streams.ensures.lines

pub returns-clause-lines : goal.returns-clause-lines
returns-clause-lines g c =
    let s = c.args.settings.now in
    let ch = c.args.change.now in
    let streams = c.args.streams.now in
    let first = sent_more _ (premise_lines s ch c.args.streams.now) _ (sent_none _ (change_lines None s ch streams c.args.answers.now)) refl c.in_ok-put_premises.ensures in
    let second = sent_more _ (class_lines s.port.room c.args.answers.now 8 0) _ first refl (rw c.room.ensures.value at c.in_ok-put_classes.ensures) in
    sent_all (sent_more _ (bound_lines s ch c.args.answers.now streams) [] second (sym (append-nil _)) c.in_ok-of_streams.ensures.lines) refl

pub returns-clause-answered : goal.returns-clause-answered
returns-clause-answered g c =
    let whole : Option Finding → Answered = λ f. record { finding = f; judged = true } in
    let of_streams = c.in_ok-of_streams.ensures.finding in
    let of_classes = c.find_class-of_classes.ensures in
    ap whole (c.first_of.ensures ∙ (ap (λ (f : Option Finding). first_of f c.find_class-of_classes.result) of_streams ∙ ap (first_of (finding_in c.args.settings.now c.args.change.now c.args.answers.now c.args.streams.now)) of_classes))
