use Rattle.std.proofs.Common.{[], ap, sym, ◌∙◌}
use Rattle.std.proofs.Math.Path.{ap₂}
use Rattle.pasted.specs.Notes.{with_word}
use Rattle.pasted.specs.Plain.{words_apart}
use Rattle.pasted.proofs.WordLaws.{marks_more, marks_with}
use Rattle.pasted.proofs.line_words.marks_of_words.Goals as goal

pub words-preserved : goal.words-preserved
words-preserved c =
    let left = words_apart [] [] c.in-Some.behind.now in
    let marks = c.words.marks in
    c.words.invariant
    ∙ ap (marks_with marks c.words.role) c.in-Some.ensures.word
    ∙ marks_more marks c.words.role (c.in-Some.field-0-0.now, c.in-Some.word.now) left
    ∙ ap₂ (λ q r. marks_with (with_word marks q r) r left) (sym c.is_quoted.ensures) (sym c.role_before-role.ensures)
    ∙ ap (λ m. marks_with m c.role_before-role.result left) (sym c.with_word-marks.ensures)
