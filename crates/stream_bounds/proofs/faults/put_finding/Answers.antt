use Rattle.std.proofs.Common.{subst, sym}
use Rattle.text.specs.Writes.{Writes}
use Rattle.stream_bounds.specs.Faults.{found_text}
use Rattle.stream_bounds.specs.declared.faults.Finding.{Finding}
use Rattle.stream_bounds.proofs.faults.put_finding.Goals as goal

pub returns-in-TcFault : goal.returns-in-TcFault
returns-in-TcFault g c =
    let told = rw c.from.ensures at c.put_found.ensures in
    subst (λ (f : Finding). Writes c.put_found.result (g.W.Write.contents c.args.writer.now) (g.W.Write.contents c.put_found.new.writer) (found_text f)) (sym c.in-TcFault.is) told

pub returns-in-Refused : goal.returns-in-Refused
returns-in-Refused g c =
    let told = rw c.from-in-Refused.ensures at c.put_found-in-Refused.ensures in
    subst (λ (f : Finding). Writes c.put_found-in-Refused.result (g.W.Write.contents c.args.writer.now) (g.W.Write.contents c.put_found-in-Refused.new.writer) (found_text f)) (sym c.in-Refused.is) told

pub returns-in-Full : goal.returns-in-Full
returns-in-Full g c =
    let told = rw c.from-in-Full.ensures at c.put_found-in-Full.ensures in
    subst (λ (f : Finding). Writes c.put_found-in-Full.result (g.W.Write.contents c.args.writer.now) (g.W.Write.contents c.put_found-in-Full.new.writer) (found_text f)) (sym c.in-Full.is) told

pub returns-in-Stuck : goal.returns-in-Stuck
returns-in-Stuck g c =
    let told = rw c.from-in-Stuck.ensures at c.put_found-in-Stuck.ensures in
    subst (λ (f : Finding). Writes c.put_found-in-Stuck.result (g.W.Write.contents c.args.writer.now) (g.W.Write.contents c.put_found-in-Stuck.new.writer) (found_text f)) (sym c.in-Stuck.is) told

pub returns-in-Overloaded : goal.returns-in-Overloaded
returns-in-Overloaded g c =
    let told = rw c.from-in-Overloaded.ensures at c.put_found-in-Overloaded.ensures in
    subst (λ (f : Finding). Writes c.put_found-in-Overloaded.result (g.W.Write.contents c.args.writer.now) (g.W.Write.contents c.put_found-in-Overloaded.new.writer) (found_text f)) (sym c.in-Overloaded.is) told
