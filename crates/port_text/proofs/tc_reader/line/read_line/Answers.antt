use Rattle.std.proofs.Common.{◌≡◌, true, length, sym, ap, subst, ◌∙◌, arith}
use Rattle.port_text.specs.Words.{words_of, words_left, total, ReadsOptions}
use Rattle.port_text.proofs.LineLaws.{usual_line}
use Rattle.port_text.proofs.tc_reader.line.read_line.Goals as goal

pub returns-then-skip_usual_heads : goal.returns-then-skip_usual_heads
returns-then-skip_usual_heads c =
    let heads = c.skip_usual_heads.ensures.heads c.if-skip_usual_heads.true in
    let rest = words_left c.skip_usual_heads.new.words in
    let answer = c.read_replacement.new.answer in
    let count : total c.skip_usual_heads.new.words ≡ length (words_of c.args.line.now) = omega (arith, c.skip_usual_heads.ensures.moves.0, c.new-words.ensures.taken, ap length c.new-words.ensures.left) in
    usual_line heads.0 (words_of c.args.line.now) rest answer (sym c.new-words.ensures.left ∙ heads.1) (subst (λ n. ReadsOptions n true true rest answer) count c.read_replacement.ensures)
