use Rattle.std.proofs.Common.{◌≡◌, ◌+◌, ◌++◌, take, drop, sym, ap, subst, ◌∙◌, rules}
use Rattle.std.specs.Io.KnownBytes.{Consumes}
use Rattle.std.proofs.KnownBytes.{Consumes-trans}
use Rattle.std.proofs.Math.Seq.{take-add}
use Rattle.capture.proofs.header.fill_whole.Goals as goal

pub loop-at-preserved : goal.loop-at-preserved
loop-at-preserved g c =
    let left = g.R.Read.remaining in
    let at = c.loop-at.at in
    let n = c.in_ok-n.n in
    let new = c.read_behind.new.buffer in
    let joined : take at c.loop-at.into ++ take n (drop at new) ≡ take (at + n) new =
    ap (λ l. l ++ take n (drop at new)) (sym c.in_ok-n.ensures.front) ∙ sym (take-add at n new) in
    record {
      octets = subst (Consumes (left c.args.reader.now) (left c.read_behind.new.reader)) joined
          (Consumes-trans (left c.args.reader.now) (left c.loop-at.reader) (left c.read_behind.new.reader) (take at c.loop-at.into) (take n (drop at new)) c.loop-at.invariant.octets c.in_ok-n.ensures.octets);
      bound = search rules;
    }
