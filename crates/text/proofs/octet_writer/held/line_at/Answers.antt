use Rattle.std.proofs.Common.{◌≡◌, ℕ, List, ◌+◌, ◌≤◌, ◌++◌, length, take, sym, ap, ◌∙◌, arith, rules, length-take-le}
use Rattle.std.proofs.Math.Seq.{take-append-add, take-take}
use Rattle.std.proofs.lemmas.Slice.{take-put_mid}
use Rattle.text.specs.declared.octet_writer.line_writer.TheConstants.{LINE_ROOM}
use Rattle.text.proofs.octet_writer.held.line_at.Goals as goal

-- of a front and a room that stand in a list, the front and the front of the room
front_of : (at n whole : ℕ) (old new room : List ℕ) → at ≤ length old → n ≤ whole
    → take (at + whole) new ≡ take at old ++ room → take (at + n) new ≡ take at old ++ take n room
front_of at n whole old new room fits short is =
    let front = take at old in
    let long : length front ≡ at = length-take-le at old fits in
    sym (take-take (at + n) (at + whole) new (omega arith)) ∙ ap (take (at + n)) is
    ∙ ap (λ k. take (k + n) (front ++ room)) (sym long) ∙ take-append-add front room n

pub returns-clause-line : goal.returns-clause-line
returns-clause-line g c =
    let at = c.args.at in let octets = c.args.octets.now in
    front_of at c.line_over.result LINE_ROOM octets _ c.line_over.new.room (omega (arith, c.requires)) c.line_over.ensures.short
    (take-put_mid at _ octets c.line_over.new.room (at + LINE_ROOM) (search rules) (omega (arith, c.requires)))
    ∙ ap (λ l. take at octets ++ l) c.line_over.ensures.line
