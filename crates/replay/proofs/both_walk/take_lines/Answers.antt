use Rattle.std.proofs.Common.{[], ◌∷◌, Err, refl, sym, ap, ◌∙◌}
use Rattle.std.proofs.lemmas.Result.{err_from_is_err_and}
use Rattle.replay.specs.Words.{kept_request, lines_by, lines_left, requests_of}
use Rattle.replay.proofs.TakerLaws.{has_all, has_cut, has_more, has_none, stops}
use Rattle.replay.proofs.both_walk.take_lines.Goals as goal

pub loop-line-init : goal.loop-line-init
loop-line-init g c = record {
  ready = c.requires;
  left = λ read is. refl;
  taken = λ read is es. has_none g.T.Taker.took g.T.Taker.cut g.met.T.Taker.nothing es _ _ _ _;
}

pub loop-line-preserved : goal.loop-line-preserved
loop-line-preserved g c = record {
  ready = c.in_ok-take_line.ensures.ready;
  left = λ read is. sym (c.in-Some.ensures.line read is).1 ∙ c.loop-line.invariant.left read is;
  taken = λ read is es.
      has_more g.T.Taker.took g.T.Taker.cut g.met.T.Taker.both _ _ _ (kept_request read c.args.script.now.octets.items c.in-Some.line ∷ []) (requests_of (lines_by c.args.upto (lines_left read c.args.script.now c.line_by.new.cursor)))
      (c.loop-line.invariant.taken read is es) (c.in-Some.ensures.line read is).0 (rw c.deref.ensures.value at (c.in_ok-take_line.ensures.taken read is es));
}

pub returns-clause-left : goal.returns-clause-left
returns-clause-left g c = λ read is.
    let none = c.in_default.ensures.line read is in
    ap (λ cursor. lines_left read c.args.script.now cursor) none.0 ∙ sym none.2 ∙ c.loop-line.invariant.left read is

pub returns-clause-taken : goal.returns-clause-taken
returns-clause-taken g c = λ read is es. has_all g.T.Taker.took g.T.Taker.cut (c.in_default.ensures.line read is).1 (c.loop-line.invariant.taken read is es)

pub returns-in_err-take_line-clause-taken : goal.returns-in_err-take_line-clause-taken
returns-in_err-take_line-clause-taken g c = λ read is es.
    let p = err_from_is_err_and c.from_residual.result c.from_residual.ensures.1 in
    stops g.T.Taker.took g.T.Taker.cut es _ c.from_residual.result _ _ _ _ _ _ _ (p.1 ∙ ap Err p.2)
    (has_cut g.T.Taker.took g.T.Taker.cut g.met.T.Taker.cut_later g.met.T.Taker.cut_sooner _ _ _ _ (kept_request read c.args.script.now.octets.items c.in-Some.line ∷ []) (requests_of (lines_by c.args.upto (lines_left read c.args.script.now c.line_by.new.cursor)))
    (c.loop-line.invariant.taken read is es) (c.in-Some.ensures.line read is).0 (rw c.deref.ensures.value at (c.in_err-take_line.ensures.taken read is es)))
