use Rattle.std.proofs.Common.{ap, sym, ◌∙◌, arith}
use Rattle.picture.specs.Words.{kept}
use Rattle.picture.proofs.DrawLaws.{kept_on}
use Rattle.picture.proofs.LookLaws.{all_mixed, kept_longest, next_mixed, none_mixed}
use Rattle.picture.proofs.PieceLaws.{begun, ended, piece_drawn}
use Rattle.picture.proofs.bands.mix_to.Goals as goal

pub loop-now-init : goal.loop-now-init
loop-now-init g c = record {
  sound = c.requires.sound;
  here = sym c.now-now.ensures;
  onward = omega (arith, c.now-now.ensures);
  within = omega (arith, c.now-now.ensures);
  history = sym (ap (kept c.args.own.now.history) c.now-now.ensures ∙ c.requires.sound.kept_whole);
  looked = none_mixed _ _ _ _ _ _ c.now-now.ensures;
  goes = begun _ _ _ _ _ _ _ c.now-now.ensures;
}

pub loop-now-preserved : goal.loop-now-preserved
loop-now-preserved g c =
    let i = c.loop-now.invariant in
    let piece = rw i.here at c.piece_end-next.ensures in
    record {
      sound = c.move_to.ensures.sound;
      here = c.move_to.ensures.moment;
      onward = omega (arith, i.onward, piece.onward);
      within = omega (arith, piece.within);
      history = c.move_to.ensures.history ∙ kept_on c.args.own.now.history c.args.own.now.moment c.requires.sound c.loop-now.now c.piece_end-next.result c.loop-now.own.history i.onward (omega (arith, piece.onward)) i.history;
      looked = next_mixed c.args.own.now.history c.args.piece c.args.own.now.moment c.args.upto c.loop-now.now c.piece_end-next.result c.args.visits.now c.loop-now.visits c.move_to.new.visits c.loop-now-test.true piece.within piece.long
          (let less = kept_longest c.args.own.now.history c.loop-now.own.history c.loop-now.now i.history in omega (arith, c.mixed_all.ensures.few, c.move_to.ensures.visits, less)) i.looked;
      goes = piece_drawn c.args.own.now.history c.args.own.now.moment c.requires.sound c.loop-now.now c.piece_end-next.result c.loop-now.own.history i.onward i.history _ _ _ _ _ _ _ _ _ piece
          (rw i.here at c.whole_all.ensures) (rw i.here at c.mixed_all.ensures.mixed) i.goes;
    }

pub returns : goal.returns
returns g c =
    let i = c.loop-now.invariant in
    record {
      sound = i.sound;
      moment = omega (arith, i.here, i.onward, i.within, c.loop-now-test.false);
      history = i.history ∙ ap (kept c.args.own.now.history) (sym i.here);
      few = all_mixed _ _ _ _ _ _ _ i.looked;
      drawn = ended _ _ _ _ _ _ _ _ _ (omega (arith, c.loop-now-test.false)) i.goes;
    }
