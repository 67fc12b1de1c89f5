use Rattle.std.proofs.Common.{◌≤◌, length, take, drop, ap, ◌∙◌, rules}
use Rattle.std.proofs.lemmas.List.{drop-append-le}
use Rattle.capture.proofs.octet_store.queue.OctetQueue.put.Goals as goal

pub returns : goal.returns
returns g c =
    let q = c.args.self.now in
    let octets = take q.end q.octets.items in
    let behind : q.head ≤ length octets = search rules in
    ap (drop q.head) c.put_at.ensures.new ∙ drop-append-le q.head octets c.args.new.now behind
