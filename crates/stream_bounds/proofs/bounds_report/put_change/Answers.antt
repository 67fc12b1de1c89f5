use Rattle.std.proofs.Common.{◌≡◌, ℕ, Option, Some, sym, subst}
use Rattle.abstract_port.specs.declared.Refused.{Refused}
use Rattle.schedule_check.specs.Refusals.{early_refusal, port_with}
use Rattle.stream_bounds.specs.Classes.{port_before}
use Rattle.stream_bounds.specs.TableRead.{TellsChange}
use Rattle.stream_bounds.proofs.RefusalLaws.{refused_early}
use Rattle.stream_bounds.proofs.bounds_report.put_change.Goals as goal

pub returns-in-Some : goal.returns-in-Some
returns-in-Some g c =
    let s = c.args.settings.now in
    let ch = c.args.change.now in
    let early : early_refusal (port_before s) ch ≡ Some c.in-Some.why = sym (subst (λ (mtu : ℕ). Some c.in-Some.why ≡ early_refusal (port_with s.port.rate mtu s.port.room s.map) ch) c.mtu.ensures.value (c.in-Some.ensures s.port.rate s.port.room)) in
    subst (λ (o : Option Refused). TellsChange c.put_refusal.result c.args.line o s ch c.args.streams.now (g.W.Write.contents c.args.writer.now) (g.W.Write.contents c.put_refusal.new.writer)) (sym (refused_early s ch c.in-Some.why early)) (c.put_refusal.ensures s ch c.args.streams.now)
