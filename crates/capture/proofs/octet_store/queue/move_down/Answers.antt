use Rattle.std.proofs.Common.{◌≡◌, ◌+◌, ◌-◌, ◌++◌, length, take, drop, ap, sym, ◌∙◌, arith, rules, append_assoc}
use Rattle.std.proofs.Math.Seq.{take-append_seam}
use Rattle.std.proofs.lemmas.List.{drop-take}
use Rattle.capture.proofs.octet_store.queue.move_down.Goals as goal

pub returns-clause-front : goal.returns-clause-front
returns-clause-front c =
    let octets = c.args.octets.now in
    let count = c.args.end - c.args.head in
    let copied = c.copy_from_slice.new.self in
    let is : copied ≡ take count (drop c.args.head octets) = search rules in
    let long : count ≡ length copied = search rules in
    let whole : c.args.head + count ≡ c.args.end = omega (arith, c.requires.ordered) in
    let stays = drop count c.split_at_mut-front.result.0.now in
    let behind = c.split_at_mut-front.result.1.now in
    let rest = stays ++ behind in
    ap (take count) (append_assoc copied stays behind) ∙ ap (λ n. take n (copied ++ rest)) long ∙ take-append_seam copied rest ∙ is ∙ sym (drop-take c.args.head count octets) ∙ ap (λ n. drop c.args.head (take n octets)) whole
