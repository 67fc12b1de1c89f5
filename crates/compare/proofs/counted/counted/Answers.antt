use Rattle.std.proofs.Common.{Option, ℕ, get_or, ap, ◌∙◌, unwrap_or}
use Rattle.compare.proofs.CountLaws.{past_end, counted_on, counts_on}
use Rattle.compare.proofs.counted.counted.Goals as goal

pub loop-frame-preserved : goal.loop-frame-preserved
loop-frame-preserved g c =
    let nth = c.unwrap_or-nth.ensures ∙ ap (λ (o : Option ℕ). unwrap_or o 0) (c.copied.ensures ∙ c.get.ensures.value) ∙ c.loop-frame.invariant.counts (get_or c.args.frames.now c.loop-frame.frame-index past_end.frame).key in
    record {
      all = counted_on c.args.frames.now c.loop-frame.frame-index past_end.frame c.loop-frame-test.true c.unwrap_or-nth.result c.loop-frame.all.items _ c.loop-frame.invariant.all nth c.in_ok-push.ensures.items;
      counts = λ q. counts_on c.args.frames.now c.loop-frame.frame-index past_end.frame c.loop-frame-test.true q c.unwrap_or-nth.result _ _ nth (c.loop-frame.invariant.counts q) (c.in_ok-insert.ensures.updates.0 q);
    }
