use Rattle.std.proofs.Common.{◌≡◌, ◌<◌, ◌≤◌, Some, length, sym, ap, ◌∙◌, subst}
use Rattle.std.specs.Prelude.{IsSome, slice_get}
use Rattle.std.proofs.lemmas.List.{length-take-le}
use Rattle.capture.specs.Stored.{kept}
use Rattle.capture.specs.declared.octet_store.TheConstants.{MAX_OCTETS}
use Rattle.capture.specs.ClassOctets.{Waiting}
use Rattle.capture.proofs.RingLaws.{has_first, first_fits, first_kept}
use Rattle.capture.proofs.octet_store.class_octets.ClassOctets.first.Goals as goal

pub unwrap-lengths-requires : goal.unwrap-lengths-requires
unwrap-lengths-requires g c =
    let waits = subst (λ (w : Waiting). 0 < length w.frames) (sym c.self.view_is) c.requires in
    subst (λ o. IsSome o) (sym (c.copied.ensures ∙ c.front.ensures)) (has_first _ _ waits)

pub front-requires-2 : goal.front-requires-2
front-requires-2 g c = (first_fits _ _ _ c.self.invariant (sym (c.copied.ensures ∙ c.front.ensures) ∙ c.unwrap-lengths.ensures)).0

pub returns-clause-first : goal.returns-clause-first
returns-clause-first g c =
    let there = sym (c.copied.ensures ∙ c.front.ensures) ∙ c.unwrap-lengths.ensures in
    sym (ap (λ (w : Waiting). slice_get w.frames 0) c.self.view_is)
    ∙ first_kept _ _ _ there
    ∙ sym (ap (λ os. Some (kept c.unwrap-lengths.result.original os)) c.front-2.ensures)

pub returns-clause-within : goal.returns-clause-within
returns-clause-within g c =
    let there = sym (c.copied.ensures ∙ c.front.ensures) ∙ c.unwrap-lengths.ensures in
    let fits = first_fits _ _ _ c.self.invariant there in
    let size : length c.front-2.result.now ≡ c.unwrap-lengths.result.captured = ap length c.front-2.ensures ∙ length-take-le _ _ fits.0 in
    subst (λ n. n ≤ MAX_OCTETS) (sym size) fits.1
