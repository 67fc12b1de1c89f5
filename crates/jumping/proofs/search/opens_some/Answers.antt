use Rattle.std.proofs.Common.{rules, ◌≡◌, Bool, true, false, ◌&&◌, Some, None, is_some, refl, sym, ap, ◌∙◌, arith}
use Rattle.std.proofs.lemmas.Bool.{false≢true}
use Rattle.std.proofs.lemmas.Option.{get_or_from_slice_get}
use Rattle.std.specs.Int.Bits.{bit_and}
use Rattle.gates.proofs.TableLaws.{opens_both, opens_none}
use Rattle.jumping.specs.Words.{opens}
use Rattle.jumping.proofs.AloneLaws.{need_inside}
use Rattle.jumping.proofs.search.opens_some.Goals as goal

-- the other mask shuts what this one opens, where they share nothing
shuts : (a b : Bool) → (a && b) ≡ false → b ≡ true → a ≡ false
shuts true b none on = absurd (false≢true (sym none ∙ on))
shuts false b none on = refl

pub returns : goal.returns
returns c = λ no class d there.
    let zero : bit_and c.args.mask c.waits.result ≡ 0 = search (rules, no) in
    let needs = c.args.needs.now in
    let kept = get_or_from_slice_get needs class (Some d) None there in
    let inside = need_inside needs class (Some d) there in
    let count = c.waits.ensures.count in
    let waits = c.waits.ensures.marks class (omega (arith, inside, count)) ∙ ap is_some kept in
    let none = sym (opens_both c.args.mask c.waits.result class) ∙ (ap (λ m. opens m class) zero ∙ opens_none class) in
    (c.waits.ensures.some class d kept, shuts (opens c.args.mask class) (opens c.waits.result class) none waits)
