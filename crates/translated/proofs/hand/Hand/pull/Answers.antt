use Rattle.std.proofs.Common.{◌≡◌, ◌-◌, length, take, drop, sym, ap, ◌∙◌, arith, length-drop, length-take}
use Rattle.std.proofs.lemmas.List.{take_at}
use Rattle.translated.proofs.HandLaws.{part}
use Rattle.translated.proofs.hand.Hand.pull.Goals as goal

pub returns-clause-held : goal.returns-clause-held
returns-clause-held g c =
    let s = c.args.self.now in
    let n = s.«end» - s.start in
    let front = take n (drop s.start s.octets.items) in
    let long = length-take n (drop s.start s.octets.items) in
    let more = length-drop s.start s.octets.items in
    let fits : length front ≡ n = omega (arith, s.within.0, s.within.1) in
    ap (take n) c.copy_within.ensures.items ∙ take_at front _ n fits ∙ sym (part s.octets.items s.start s.«end» s.within.0)
