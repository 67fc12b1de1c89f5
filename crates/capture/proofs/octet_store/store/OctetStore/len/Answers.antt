use Rattle.std.proofs.Common.{length, rules, ap, ◌∙◌}
use Rattle.capture.proofs.ClassLaws.{frames_at}
use Rattle.capture.proofs.octet_store.store.OctetStore.len.Goals as goal

pub len_in-requires : goal.len_in-requires
len_in-requires g c = (search rules, c.requires)

pub returns : goal.returns
returns g c = rw (← c.self.view_is) (c.len_in.ensures ∙ ap length (frames_at c.self.inside.classes c.args.class))
