use Rattle.std.proofs.Common.{◌≡◌, ◌<◌, ◌≤◌, ℕ, ◌+◌, List, length, get_or, set, drop, ap, ◌∙◌, arith, drop_of_length-le}
use Rattle.std.proofs.lemmas.List.{drop-set-lt}
use Rattle.std.proofs.lemmas.List.Edits.{map_over_more}
use Rattle.std.proofs.lemmas.List.Elements.{All-set}
use Rattle.std.proofs.lemmas.List.{get_or_default}
use Rattle.std.proofs.lemmas.List.Sums.{sum_by-drop_more}
use Rattle.window_bounds.specs.Beats.{IsBeat, all_before, come_of, from_on}
use Rattle.window_bounds.specs.declared.beats.Beat.{Beat}
use Rattle.window_bounds.proofs.beats.pass.Goals as goal

pub loop-i-preserved : goal.loop-i-preserved
loop-i-preserved c =
    let t : ℕ = c.args.t in
    let i : ℕ = c.loop-i.i in
    let old : List Beat = c.args.beats.now in
    let xs : List Beat = c.loop-i.beats in
    let inv = c.loop-i.invariant in
    let none : Beat = record { next = 0; period = 0 } in
    let same = c.loop-i.auto.beats in
    let listed = c.loop-i-test.true in
    let inside : i < length xs = omega (arith, same, listed) in
    let here : Beat = get_or xs i none in
    let rest : drop (i + 1) (set xs i c.passed.result) ≡ drop (i + 1) xs =
    drop-set-lt (i + 1) xs i c.passed.result (omega arith) in
    let after = ap (λ (ys : List Beat). all_before ys (t + 1)) rest in
    let whole = sum_by-drop_more (come_of (t + 1)) xs i none inside in
    let added = c.saturating_add-count.ensures in
    let passes = c.passes.ensures in
    let kept = inv.count in
    record {
      beats = ap (set xs i) c.passed.ensures.beat
          ∙ map_over_more (from_on (t + 1)) old xs i here listed inv.beats (get_or_default xs i none here inside);
      fine = All-set IsBeat xs i c.passed.result c.passed.ensures.is inv.fine;
      most = c.saturating_add-count.type_inv;
      count = omega (arith, after, whole, added, passes, kept);
    }

pub returns-clause-count : goal.returns-clause-count
returns-clause-count c =
    let inv = c.loop-i.invariant in
    let same = c.loop-i.auto.beats in
    let done = c.loop-i-test.false in
    let none = ap (λ (ys : List Beat). all_before ys (c.args.t + 1))
    (drop_of_length-le c.loop-i.beats (let e : length c.loop-i.beats ≤ c.loop-i.i = omega (arith, same, done) in e)) in
    let kept = inv.count in
    let most = inv.most in
    omega (arith, none, kept, most)
