use Rattle.std.proofs.Common.{List, ℕ, Some, ap, sym, ◌∙◌}
use Rattle.std.specs.Fmt.{option_append}
use Rattle.compare.specs.Frames.{begins_capture}
use Rattle.compare.proofs.InputLaws.{capture_in, table_in}
use Rattle.compare.proofs.input.read_input.Goals as goal

pub returns-then-begins_capture : goal.returns-then-begins_capture
returns-then-begins_capture g c = λ seen are.
    let after = g.R.Read.remaining c.read_front.new.reader in
    let joined = c.chain-whole.ensures.bytes ∙ ap (λ (front : List ℕ). option_append (Some front) after) c.as_slice.ensures.value in
    let begins = sym (c.begins_capture.ensures ∙ ap begins_capture c.deref.ensures.value) ∙ c.if-begins_capture.true in
    capture_in c.args.by seen c.args.frames.now.items _ _ c.read_capture.result _ after _ c.in-Ok.front.items c.in-Ok.ensures.front joined begins (c.read_capture.ensures seen are)

pub returns : goal.returns
returns g c = λ seen are.
    let after = g.R.Read.remaining c.read_front.new.reader in
    let joined = c.chain-whole.ensures.bytes ∙ ap (λ (front : List ℕ). option_append (Some front) after) c.as_slice.ensures.value in
    let begins = sym (c.begins_capture.ensures ∙ ap begins_capture c.deref.ensures.value) ∙ c.if-begins_capture.false in
    table_in c.args.by seen c.args.frames.now.items _ _ c.read_table.result _ after _ c.in-Ok.front.items c.in-Ok.ensures.front joined begins are c.read_table.ensures
