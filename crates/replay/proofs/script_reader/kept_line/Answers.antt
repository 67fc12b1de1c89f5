use Rattle.std.specs.Prelude.{OnOk}
use Rattle.std.proofs.Common.{ℕ, List, Result, Ok, Err, ap, ◌∙◌}
use Rattle.replay.specs.Words.{kept_requests}
use Rattle.replay.proofs.KeepLaws.{same-requests}
use Rattle.replay.proofs.script_reader.kept_line.Goals as goal

mapped : {T E P Q : Type 0} (r : Result T E) → (P → Q) → OnOk r P → OnOk r Q
mapped (Ok x) f p = f p
mapped (Err e) f p = tt

pub returns-in-Tc-clause-others : goal.returns-in-Tc-clause-others
returns-in-Tc-clause-others g c = λ read.
    let script = c.args.script.now in
    mapped c.keep_octets.result (λ e. ap (λ (o : List ℕ). kept_requests read o script.lines.items) e ∙ same-requests read script.octets.items c.args.octets.now script.lines.items script.kept) c.keep_octets.ensures.kept
