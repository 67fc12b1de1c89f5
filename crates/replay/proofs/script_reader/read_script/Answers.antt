use Rattle.std.proofs.Common.{Err, List, ap, ◌∙◌}
use Rattle.std.proofs.lemmas.Result.{err_from_is_err_and}
use Rattle.replay.specs.Words.{kept_requests, KeptLine}
use Rattle.replay.proofs.KeepLaws.{given_fault, given_script}
use Rattle.replay.proofs.script_reader.read_script.Goals as goal

pub returns-in_err-keep_lines-clause-script : goal.returns-in_err-keep_lines-clause-script
returns-in_err-keep_lines-clause-script g c = λ read is.
    let r = c.from_residual-in_err-keep_lines.result in
    let p = err_from_is_err_and r c.from_residual-in_err-keep_lines.ensures.1 in
    given_fault read r (g.R.Read.remaining c.args.reader) _ (p.1 ∙ ap Err p.2) c.in_ok-lines.ensures.left (c.in_err-keep_lines.ensures.rest read is)

pub returns-clause-script : goal.returns-clause-script
returns-clause-script g c = λ read is.
    given_script read {T = Unit {0}} tt c.keep_lines.new.script (g.R.Read.remaining c.args.reader) _ _ (ap (λ (ls : List KeptLine). kept_requests read c.new-3.result.items ls) c.new-2.ensures.items) c.in_ok-lines.ensures.left (c.in_ok-keep_lines.ensures.rest read is)
