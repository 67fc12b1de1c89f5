use Rattle.std.proofs.Common.{◌++◌, ◌∷◌, []}
use Rattle.capture.specs.Stored.{kept}
use Rattle.capture.proofs.ClassLaws.{still_room, changed_view}
use Rattle.capture.proofs.octet_store.store.OctetStore.put.Goals as goal

pub invariant_of-self-2 : goal.invariant_of-self-2
invariant_of-self-2 g c = still_room _ _ c.args.class (λ ks. ks ++ kept c.args.original c.args.octets.now ∷ []) c.requires.class c.self.invariant c.in_ok-put_in.ensures.ok

pub returns-clause-ok : goal.returns-clause-ok
returns-clause-ok g c = changed_view _ _ c.args.class (λ ks. ks ++ kept c.args.original c.args.octets.now ∷ []) c.requires.class c.self.invariant c.in_ok-put_in.ensures.ok c.args.self.now c.self.view_is
