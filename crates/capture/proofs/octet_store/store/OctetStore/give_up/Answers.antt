use Rattle.std.proofs.Common.{drop, rules}
use Rattle.capture.proofs.ClassLaws.{frames_at, still_room, changed_view}
use Rattle.capture.proofs.octet_store.store.OctetStore.give_up.Goals as goal

pub invariant_of-self : goal.invariant_of-self
invariant_of-self g c = still_room _ _ c.args.class (λ ks. drop 1 ks) c.requires.class c.self.invariant c.give_up_in.ensures

pub returns : goal.returns
returns g c = changed_view _ _ c.args.class (λ ks. drop 1 ks) c.requires.class c.self.invariant c.give_up_in.ensures c.args.self.now c.self.view_is

pub give_up_in-requires : goal.give_up_in-requires
give_up_in-requires g c = (search rules, (c.requires.class, rw (frames_at c.self.inside.classes c.args.class) (rw (← c.self.view_is) at c.requires.waits)))
