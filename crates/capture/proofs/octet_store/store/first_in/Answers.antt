use Rattle.std.proofs.Common.{◌<◌, length, ap, ◌∙◌, subst}
use Rattle.std.specs.Prelude.{slice_get}
use Rattle.capture.specs.ClassOctets.{Waiting}
use Rattle.capture.proofs.ClassLaws.{at_index}
use Rattle.capture.proofs.octet_store.store.first_in.Goals as goal

pub first-requires : goal.first-requires
first-requires g c =
    let there = at_index c.args.classes.now c.args.class c.index-classes-class.result c.type_inv.classes c.requires.class in
    subst (λ (w : Waiting). 0 < length w.frames) there c.requires.waits

pub returns-clause-first : goal.returns-clause-first
returns-clause-first g c =
    let there = at_index c.args.classes.now c.args.class c.index-classes-class.result c.type_inv.classes c.requires.class in
    ap (λ (w : Waiting). slice_get w.frames 0) there ∙ c.first.ensures.first

pub returns-clause-within : goal.returns-clause-within
returns-clause-within g c = c.first.ensures.within
