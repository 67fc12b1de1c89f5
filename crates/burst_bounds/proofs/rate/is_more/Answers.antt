use Rattle.std.proofs.Common.{◌<◌, ◌*◌, ◌^◌, ℕ, List, All, length, refl}
use Rattle.std.proofs.lemmas.List.Elements.{All-get_or}
use Rattle.burst_bounds.specs.Talkers.{IsTalker}
use Rattle.burst_bounds.specs.Walk.{talker_at}
use Rattle.burst_bounds.specs.declared.Talker.{Talker}
use Rattle.burst_bounds.proofs.RateLaws.{digit_first, digit_next, digit_over}
use Rattle.burst_bounds.proofs.rate.is_more.Goals as goal

periods : (talkers : List Talker) → All IsTalker talkers → (i : ℕ) → i < length talkers → 0 < (talker_at talkers i).period
periods talkers all i less = (All-get_or IsTalker talkers i (record { need = 0; period = 0; jitter = 0 }) less all).above

pub loop-i-init : goal.loop-i-init
loop-i-init c = record {
  count = c.requires.times;
  digit = digit_first c.args.talkers.now c.args.share.slots c.args.share.time c.args.times.now c.requires.times c.requires.same;
}

pub returns-in_default : goal.returns-in_default
returns-in_default c = λ yes.
    digit_over c.args.talkers.now c.args.share.slots c.args.share.time c.loop-i.slots c.loop-i.times
    (periods c.args.talkers.now c.requires.talkers) c.loop-i.invariant.digit c.in_default.ensures

pub loop-i-preserved : goal.loop-i-preserved
loop-i-preserved c = record {
  count = c.lengthen.ensures.count;
  digit = digit_next c.args.talkers.now c.args.share.slots c.args.share.time c.loop-i.slots c.in-Some.left (c.in-Some.left * 2 ^ 32)
      (2 ^ 32) c.loop-i.times c.lengthen.new.times
      c.loop-i.invariant.digit c.in-Some.ensures refl c.lengthen.ensures.count c.lengthen.ensures.rests;
}
