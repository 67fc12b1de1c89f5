use Rattle.std.proofs.Common.{◌≡◌, ◌∷◌, [], nat_lt, true, false, refl, sym, ap, arith}
use Rattle.abstract_port.specs.declared.Answer.TheVariants as Answered
use Rattle.port.proofs.Port.count.Goals as goal

pub returns-then-class : goal.returns-then-class
returns-then-class g c =
    let less = c.if-class.true in
    let t : nat_lt c.args.class 8 ≡ true = grind (arith, less) in
    rw t (ap (λ n. Answered.Counters c.args.class n ∷ []) (sym c.counters.ensures))

pub returns-else-class : goal.returns-else-class
returns-else-class g c =
    let most = c.if-class.false in
    let f : nat_lt c.args.class 8 ≡ false = grind (arith, most) in
    rw f refl
