use Rattle.std.proofs.Common.{◌≡◌, ℕ, List, [], ◌++◌, Result, Ok, Err, OnOk, length, take, drop, sym, ap, ◌∙◌, le_of_eq, drop_of_length-le, take-append-drop}
use Rattle.std.proofs.KnownBytes.{append_known-moved}
use Rattle.text.proofs.octet_writer.buffered.BufWriter.let_out.Goals as goal

-- where all was written, nothing is left
none_left : {X E : Type 0} (r : Result X E) (xs left : List ℕ) (n : ℕ) → left ≡ drop n xs → OnOk r (n ≡ length xs) → OnOk r (left ≡ [])
none_left (Ok x) xs left n e all = e ∙ ap (λ k. drop k xs) all ∙ drop_of_length-le xs (le_of_eq (sym all ∙ all))
none_left (Err e) xs left n is all = tt

pub returns-clause-empty : goal.returns-clause-empty
returns-clause-empty g c =
    let n = c.write_out-written.result.0 in
    none_left c.write_out-written.result.1 c.as_slice.result.now _ n (c.drop_front.ensures.held ∙ ap (drop n) (sym c.as_slice.ensures)) c.write_out-written.ensures.all

pub returns-clause-bytes : goal.returns-clause-bytes
returns-clause-bytes g c =
    let n = c.write_out-written.result.0 in
    let held = c.as_slice.result.now in
    let rest = c.drop_front.ensures.held ∙ ap (drop n) (sym c.as_slice.ensures) in
    append_known-moved _ _ _ _ _ c.write_out-written.ensures.bytes (sym c.as_slice.ensures ∙ sym (take-append-drop n held) ∙ ap (λ l. take n held ++ l) (sym rest))
