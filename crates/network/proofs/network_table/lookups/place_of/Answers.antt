use Rattle.std.proofs.Common.{◌≡◌, ◌+◌, List, ℕ, Bool, true, false, sym, ap, ◌∙◌, arith}
use Rattle.std.specs.Str.{bytes_eq}
use Rattle.network.proofs.FirstLaws.{place_here, place_more, place_none}
use Rattle.network.proofs.network_table.lookups.place_of.Goals as goal

pub returns-then-eq : goal.returns-then-eq
returns-then-eq c =
    let is : bytes_eq c.other-item.result c.args.name.now ≡ true =
    ap (λ (x : List ℕ). bytes_eq x c.args.name.now) (sym c.as_slice.ensures) ∙ (sym c.eq.ensures ∙ c.if-eq.true) in
    place_here c.args.names.now c.loop-other.other-index c.loop-other.place c.other-item.result c.args.name.now _ c.loop-other-test.true
    (ap (λ (x : List ℕ). bytes_eq x c.args.name.now) (sym c.other-item.is) ∙ is) c.loop-other.invariant.found

pub loop-other-preserved : goal.loop-other-preserved
loop-other-preserved c =
    let is : bytes_eq c.other-item.result c.args.name.now ≡ false =
    ap (λ (x : List ℕ). bytes_eq x c.args.name.now) (sym c.as_slice.ensures) ∙ (sym c.eq.ensures ∙ c.if-eq.false) in
    record {
      place = ap (λ (n : ℕ). n + 1) c.loop-other.invariant.place;
      found = place_more c.args.names.now c.loop-other.other-index c.loop-other.place c.other-item.result c.args.name.now _ c.loop-other-test.true
          (ap (λ (x : List ℕ). bytes_eq x c.args.name.now) (sym c.other-item.is) ∙ is) c.loop-other.invariant.found;
    }

pub returns : goal.returns
returns c = place_none c.args.names.now c.loop-other.other-index c.loop-other.place c.args.name.now _ c.loop-other-test.false c.loop-other.invariant.found
