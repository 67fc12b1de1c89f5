use Rattle.std.proofs.Common.{rules, List, ℕ, subst}
use Rattle.std.proofs.lemmas.Result.{err_from_is_err_and}
use Rattle.text.proofs.Fronts.{sent_none, sent_more, sent_exit, sent_last}
use Rattle.text.specs.Writes.{Sent}
use Rattle.script.specs.Words.{AbstractPort}
use Rattle.script.proofs.LeftLaws.{summary-class, summary-over}
use Rattle.summary.specs.Lines.{summary_lines, wire_text}
use Rattle.script.proofs.summary_lines.put_summary.Goals as goal

pub loop-class-init : goal.loop-class-init
loop-class-init g c = sent_none _ _

pub returns-in_err-put_class : goal.returns-in_err-put_class
returns-in_err-put_class g c =
    let exit = err_from_is_err_and c.from_residual.result c.from_residual.ensures.1 in
    let p : AbstractPort = record c.args.port.now.port { now = c.args.moment } in
    sent_exit _ _ _ exit.1 c.loop-class.invariant (summary-class c.loop-class.class p c.args.summary.now c.loop-class-test.true) c.in_err-put_class.ensures

pub loop-class-preserved : goal.loop-class-preserved
loop-class-preserved g c =
    let p : AbstractPort = record c.args.port.now.port { now = c.args.moment } in
    sent_more _ _ _ c.loop-class.invariant (summary-class c.loop-class.class p c.args.summary.now c.loop-class-test.true) c.in_ok-put_class.ensures

pub put_wire-requires : goal.put_wire-requires
put_wire-requires g c = (search rules, c.requires)

pub returns : goal.returns
returns g c =
    let p : AbstractPort = record c.args.port.now.port { now = c.args.moment } in
    let o = c.args.summary.now in
    let P : List ℕ → Type 0 = λ left. Sent (g.W.Write.contents c.args.writer.now) (g.W.Write.contents c.loop-class.writer) (summary_lines p o) left in
    let rest : P (wire_text c.args.moment o) = subst P (summary-over c.loop-class.class p o c.loop-class-test.false) c.loop-class.invariant in
    sent_last _ _ rest c.put_wire.ensures
