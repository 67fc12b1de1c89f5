use Rattle.std.proofs.Common.{◌≡◌, ◌++◌, ◌+◌, ◌<◌, ◌≤◌, ℕ, List, [], take, drop, length, cond, sym, ap, ◌∙◌, rules, arith}
use Rattle.std.proofs.lemmas.List.{take-append-drop}
use Rattle.text.specs.Source.{ahead}
use Rattle.text.specs.declared.line_reader.lines.TheConstants.{MAX_LINE_OCTETS, MAX_LINES}
use Rattle.text.proofs.LineRunLaws.{after_run}
use Rattle.text.proofs.line_reader.lines.LineReader.take_unbroken.Goals as goal

pub returns-clause-script : goal.returns-clause-script
returns-clause-script g c =
    let old = c.args.self.now in
    let run = c.unbroken_front-run.result.now in
    let front = ahead old.source in
    let fits : length old.line.items + length run ≤ MAX_LINE_OCTETS = search (rules, arith) in
    let few : old.breaks < MAX_LINES = search (rules, arith) in
    let first : front ≡ run ++ drop (length run) front = sym (take-append-drop (length run) front) ∙ ap (λ t. t ++ drop (length run) front) (sym (c.unbroken_front-run.ensures.front ∙ ap (take (length run)) c.buffer.ensures.octets)) in
    let line : c.extend_from_slice.new.self.items ≡ old.line.items ++ run = search rules in
    let rest : ahead c.consume.new.self ≡ drop (length run) front = search rules in
    let law = after_run (g.R.Read.remaining old.source.reader) (λ (xs : List ℕ). cond old.source.ended [] xs) old.line.items run (drop (length run) front) front old.first old.breaks first c.unbroken_front-run.ensures.unbroken fits few in
    rw (line, rest, c.consume.ensures.reader, c.consume.ensures.ended) law
