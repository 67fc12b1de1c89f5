use Rattle.std.proofs.Common.{◌≡◌, ◌≤◌, ◌+◌, ◌-◌, length, take, drop, ap, ◌∙◌, sym, arith, rules, length-drop}
use Rattle.std.proofs.Math.Seq.{paste}
use Rattle.std.proofs.lemmas.List.{with_items_is, places, drop-take}
use Rattle.std.proofs.lemmas.List.Edits.{take-paste}
use Rattle.text.proofs.octet_writer.held.Held.drop_front.Goals as goal

pub returns-clause-held : goal.returns-clause-held
returns-clause-held g c =
    let held = c.args.self.now in
    let count = c.args.count in
    let all = c.as_mut_slice.result.now in
    let left = held.filled - count in
    let fits : held.filled ≤ length all = search rules in
    let same : left ≡ 0 + left = omega arith in
    let whole : held.filled ≡ count + left = omega (arith, c.requires) in
    ap (take left) (with_items_is held.octets c.copy_within.new.self (search (rules, places)) ∙ c.copy_within.ensures.after)
    ∙ ap (λ k. take k (paste all 0 (drop count all) left)) same ∙ take-paste all 0 (drop count all) left (omega arith) (omega (arith, length-drop count all))
    ∙ sym (drop-take count left all) ∙ ap (λ k. drop count (take k all)) (sym whole) ∙ ap (λ l. drop count (take held.filled l)) c.as_mut_slice.ensures.value
