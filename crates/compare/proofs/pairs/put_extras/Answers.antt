use Rattle.std.proofs.Common.{◌≡◌, ◌+◌, ◌++◌, ◌∷◌, List, Option, Some, None, cond, map, filter, drop, get_or, ap, sym, ◌∙◌, append-nil, subst, arith}
use Rattle.std.proofs.lemmas.List.{at_drop_all, at_drop_more}
use Rattle.std.specs.Prelude.{is_none}
use Rattle.std.specs.declared.vec.Vec.{Vec}
use Rattle.compare.specs.Pairs.{extra_of, is_extra, partner}
use Rattle.compare.specs.declared.counted.NthFrame.{NthFrame}
use Rattle.compare.specs.declared.pairs.Comparison.{Comparison}
use Rattle.compare.proofs.CountLaws.{past_end}
use Rattle.compare.proofs.PutLaws.{put_more, put_none}
use Rattle.compare.proofs.pairs.put_extras.Goals as goal
use Rattle.compare.proofs.pairs.put_extras.Goals.{in-None+in_ok-push-in-None, in-Some}

pub loop-counted-preserved : goal.loop-counted-preserved
loop-counted-preserved g c = λ others at.
    let F : List NthFrame → List Comparison = λ xs. map extra_of (filter (is_extra others) xs) in
    let second = c.args.second.now in
    let i = c.loop-counted.counted-index in
    let here = get_or second i past_end in
    let rest = drop (i + 1) second in
    let G : Option NthFrame → List Comparison = λ o. map extra_of (cond (is_none o) (here ∷ filter (is_extra others) rest) (filter (is_extra others) rest)) in
    let left : F (drop i second) ≡ G (partner others here) = at_drop_more F second i past_end c.loop-counted-test.true in
    let P : List Comparison → Type 0 = λ items. items ++ F rest ≡ c.args.all.now.items ++ F second in
    let Q : Vec Comparison _ → Type 0 = λ v. v.items ++ F rest ≡ c.args.all.now.items ++ F second in
    let whole = c.args.all.now.items ++ F second in
    elim c.match-partner.branch [
      | in-None+in_ok-push-in-None w ↦
          let none : partner others here ≡ None = sym (c.partner.ensures others at) ∙ w.in-None.is in
          subst Q (sym w.all-is) (subst P (sym w.in_ok-push-in-None.ensures.items) (put_more whole c.loop-counted.all.items (extra_of here) (F (drop i second)) (F rest) (c.loop-counted.invariant others at) (left ∙ ap G none)))
      | in-Some w ↦
          let some : partner others here ≡ Some _ = sym (c.partner.ensures others at) ∙ w.in-Some.is in
          subst Q (sym w.all-is) (put_none whole c.loop-counted.all.items (F (drop i second)) (F rest) (c.loop-counted.invariant others at) (left ∙ ap G some))
    ]

pub returns : goal.returns
returns g c = λ others at.
    let F : List NthFrame → List Comparison = λ xs. map extra_of (filter (is_extra others) xs) in
    sym (append-nil _) ∙ ap (λ (l : List Comparison). c.loop-counted.all.items ++ l) (sym (at_drop_all F c.args.second.now c.loop-counted.counted-index (omega (arith, c.loop-counted-test.false))))
    ∙ c.loop-counted.invariant others at
