-- A text that is written and let out.
use Rattle.std.proofs.Common.{◌≡◌, Bool, true, false, ℕ, List, [], Option, Result, Ok, Err}
use Rattle.std.specs.Prelude.{is_err}
use Rattle.std.specs.Io.KnownBytes.{Keeps}
use Rattle.text.specs.Writes.{Writes}
use Rattle.job.proofs.RunEndLaws.{appends_kept, sent_whole}
use Rattle.program.specs.Jobs.{Tells}

-- a text that was written whole is told, whether letting it out failed or not
pub told : {T E : Type 0} (b : Bool) (r : Result T E) (old mid new : Option (List ℕ)) (text : List ℕ) → is_err r ≡ false → Writes r old mid text → Keeps mid new → Tells b old new text
told true (Ok x) old mid new text e w k = appends_kept old mid new text w k
told false (Ok x) old mid new text e w k = ([], sent_whole old new text (appends_kept old mid new text w k))
told b (Err f) old mid new text e w k = absurd (cc)

-- a text that was not written whole
pub untold : {T E : Type 0} (r : Result T E) (old new : Option (List ℕ)) (text : List ℕ) → is_err r ≡ true → Writes r old new text → Tells false old new text
untold (Ok x) old new text e w = absurd (cc)
untold (Err f) old new text e w = (w.0, w.2)
