use Rattle.std.proofs.lemmas.Bool.{both_ways}
use Rattle.shared_bounds.proofs.WalkLaws.{best_none, not_found_of}
use Rattle.shared_bounds.proofs.place.SharedClass.bounds.Goals as goal

pub loop-place-init : goal.loop-place-init
loop-place-init g c = best_none c.args.self.now c.args.most

pub best_with-requires-clause-taken : goal.best_with-requires-clause-taken
best_with-requires-clause-taken g c = λ stuck. both_ways _ (stuck c.in-Some._taken) c.in-Some.ensures

pub returns-in-Err-clause-why : goal.returns-in-Err-clause-why
returns-in-Err-clause-why g c = not_found_of c.args.self.now c.args.most c.in-Err.why c.in-Err.ensures.why
