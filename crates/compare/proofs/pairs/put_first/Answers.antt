use Rattle.std.proofs.Common.{◌≡◌, get_or, ◌++◌, ◌∷◌, [], List, map, ap, sym, ◌∙◌, append-nil, drop, subst, ◌+◌, arith}
use Rattle.std.proofs.lemmas.List.{at_drop_all, at_drop_more}
use Rattle.compare.specs.Pairs.{beside, partner}
use Rattle.compare.specs.declared.counted.NthFrame.{NthFrame}
use Rattle.compare.specs.declared.pairs.Comparison.{Comparison}
use Rattle.compare.proofs.CountLaws.{past_end}
use Rattle.compare.proofs.PutLaws.{put_more}
use Rattle.compare.proofs.pairs.put_first.Goals as goal

pub loop-counted-preserved : goal.loop-counted-preserved
loop-counted-preserved g c = λ others at.
    let F : NthFrame → Comparison = λ d. beside d (partner others d) in
    let here = get_or c.args.first.now c.loop-counted.counted-index past_end in
    let is = c.beside.ensures ∙ ap (beside here) (c.partner.ensures others at) in
    let P : List Comparison → Type 0 = λ items. items ++ map F (drop (c.loop-counted.counted-index + 1) c.args.first.now) ≡ c.args.all.now.items ++ map F c.args.first.now in
    let put : c.push.new.self.items ≡ c.loop-counted.all.items ++ F here ∷ [] = c.in_ok-push.ensures.items ∙ ap (λ (x : Comparison). c.loop-counted.all.items ++ x ∷ []) is in
    subst P (sym put)
    (put_more (c.args.all.now.items ++ map F c.args.first.now) c.loop-counted.all.items (F here) (map F (drop c.loop-counted.counted-index c.args.first.now)) (map F (drop (c.loop-counted.counted-index + 1) c.args.first.now)) (c.loop-counted.invariant others at) (at_drop_more (map F) c.args.first.now c.loop-counted.counted-index past_end c.loop-counted-test.true))

pub returns : goal.returns
returns g c = λ others at.
    let F : NthFrame → Comparison = λ d. beside d (partner others d) in
    sym (append-nil _) ∙ ap (λ (l : List Comparison). c.loop-counted.all.items ++ l) (sym (at_drop_all (map F) c.args.first.now c.loop-counted.counted-index (omega (arith, c.loop-counted-test.false))))
    ∙ c.loop-counted.invariant others at
