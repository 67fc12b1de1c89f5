use Rattle.std.proofs.Common.{rules, sym, ap, ◌∙◌}
use Rattle.std.specs.Prelude.{slice_get}
use Rattle.capture.proofs.ClassLaws.{frames_at}
use Rattle.capture.proofs.octet_store.store.OctetStore.first.Goals as goal

pub first_in-requires : goal.first_in-requires
first_in-requires g c = (search rules, (c.requires.class, rw (frames_at c.self.inside.classes c.args.class) (rw (← c.self.view_is) at c.requires.waits)))

pub returns-clause-first : goal.returns-clause-first
returns-clause-first g c = rw (← c.self.view_is) (ap (λ ks. slice_get ks 0) (sym (frames_at c.self.inside.classes c.args.class)) ∙ c.first_in.ensures.first)
