use Rattle.std.proofs.Common.{◌≡◌, List, [], ◌∷◌, ℕ, length, refl, sym, subst, arith}
use Rattle.std.specs.Prelude.{IfOk}
use Rattle.pcapng.specs.Classic.{step}
use Rattle.pcapng.specs.Steps.{IsOver}
use Rattle.pcapng.specs.Reader.{reading}
use Rattle.pcapng.proofs.to_classic.PcapngToClassic.take_next.Goals as goal

none_long : (xs : List ℕ) → length xs ≡ 0 → xs ≡ []
none_long [] e = refl
none_long (x ∷ xs) e = absurd (omega (arith, e))

pub returns-then-is_empty-clause-done : goal.returns-then-is_empty-clause-done
returns-then-is_empty-clause-done g c =
    let none : c.args.octets.now ≡ [] = none_long c.args.octets.now (grind (arith, c.is_empty.ensures, c.if-is_empty.true)) in
    subst (λ (l : List ℕ). IfOk c.take_end.result (λ n. IsOver step (reading c.take_end.new.self) l c.args.is_last n c.args.out.now.items c.take_end.new.out.items))
    (sym none) c.take_end.ensures.done
