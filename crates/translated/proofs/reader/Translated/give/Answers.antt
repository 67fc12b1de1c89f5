use Rattle.std.proofs.Common.{◌≡◌, ◌+◌, ◌-◌, ◌≤◌, ◌++◌, length, take, drop, sym, ap, ◌∙◌, arith, length-take, length-drop, take-append-drop}
use Rattle.std.proofs.lemmas.List.{take_all, take_at, drop-drop}
use Rattle.translated.proofs.reader.Translated.give.Goals as goal

pub returns-clause-octets : goal.returns-clause-octets
returns-clause-octets g c =
    let n = c.min-count.result in
    let t = c.args.self.now in
    let all = c.as_slice-all.result.now in
    let ready = drop t.given all in
    let copied = c.copy_from_slice.new.self in
    let fits : length ready ≤ length all - t.given = omega (arith, length-drop t.given all) in
    let same : copied ≡ take n ready = c.copy_from_slice.ensures.after ∙ ap (take n) (take_all (length all - t.given) ready fits) in
    let len : length copied ≡ n = omega (arith, c.copy_from_slice.ensures.len, length-take n c.args.buf.now, c.min-count.ensures) in
    let front : take n (copied ++ drop n c.args.buf.now) ≡ take n ready = take_at copied _ n len ∙ same in
    let behind : drop (t.given + n) all ≡ drop n ready = sym (drop-drop n t.given all) in
    rw (← c.as_slice-all.ensures.value) (rw (front, behind) (sym (take-append-drop n ready)))
