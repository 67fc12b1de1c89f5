use Rattle.std.proofs.Common.{ℕ, List, Option, Result, Ok, Err}
use Rattle.std.specs.Prelude.{is_ok}
use Rattle.text.specs.Writes.{Writes}
use Rattle.job.specs.Texts.{IsTold}
use Rattle.program.proofs.replay_call.say_over_input.Goals as goal

-- whether a write is done says whether its text is told
told_where_done : {T E : Type 0} (r : Result T E) (old new : Option (List ℕ)) (text : List ℕ) → Writes r old new text → IsTold (is_ok r) old new text
told_where_done (Ok x) old new text w = w
told_where_done (Err e) old new text w = w

pub returns-clause-told : goal.returns-clause-told
returns-clause-told g c =
    let wrote = rw c.as_bytes.ensures.value at c.put_parts.ensures in
    rw c.is_ok-told.ensures.value (told_where_done c.put_parts.result _ _ _ wrote)
