use Rattle.std.proofs.Common.{◌<◌, ◌++◌, length, refl, sym, ap, ◌∙◌, subst}
use Rattle.capture.specs.ClassOctets.{Waiting}
use Rattle.capture.proofs.RingLaws.{length-kept_of, put_laid, put_kept, put_view}
use Rattle.capture.proofs.octet_store.class_octets.ClassOctets.put.Goals as goal

pub unwrap-requires : goal.unwrap-requires
unwrap-requires g c =
    let P : Waiting → Type 0 = λ w. length w.frames < w.room in
    let room = subst P (sym c.self.view_is) c.requires.room in
    c.try_push_back.ensures.variant.1 (rw length-kept_of at room)

pub invariant_of-self-2 : goal.invariant_of-self-2
invariant_of-self-2 g c =
    let pushed = rw c.unwrap.ensures at c.try_push_back.ensures.ok in
    let put = c.put.ensures ∙ ap (λ os. os ++ c.args.octets.now) c.make_room.ensures.held in
    put_laid _ _ _ _ _ _ (ap (λ b. b.items) pushed) put c.self.invariant refl c.requires.size

pub returns-clause-ok : goal.returns-clause-ok
returns-clause-ok g c =
    let pushed = rw c.unwrap.ensures at c.try_push_back.ensures.ok in
    let put = c.put.ensures ∙ ap (λ os. os ++ c.args.octets.now) c.make_room.ensures.held in
    let frames = put_kept _ _ _ _ _ _ (ap (λ b. b.items) pushed) put c.self.invariant refl in
    put_view _ _ _ _ _ _ c.self.view_is frames (ap (λ b. b.capacity) pushed)
