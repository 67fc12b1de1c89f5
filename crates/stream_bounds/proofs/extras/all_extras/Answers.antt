use Rattle.std.proofs.Common.{◌≡◌, ℕ, ◌+◌, List, [], ◌∷◌, Some, length, slice_get, ap, sym, ◌∙◌, subst}
use Rattle.std.proofs.lemmas.List.{length-append}
use Rattle.stream_bounds.specs.Answers.{IsExtra}
use Rattle.stream_bounds.specs.declared.extras.Extra.{Extra}
use Rattle.stream_bounds.proofs.ExtraLaws.{one_more}
use Rattle.traffic.specs.declared.table.Stream.{Stream}
use Rattle.stream_bounds.proofs.extras.all_extras.Goals as goal

pub loop-place-preserved : goal.loop-place-preserved
loop-place-preserved c =
    let P : ℕ → Stream → Extra → Type 0 = λ k y e. IsExtra c.args.case.now.settings.now c.args.case.now.change.now c.args.case.now.table.now c.args.case.now.above.now c.args.streams.now c.args.case.now.class c.args.own.now k y e in
    let items : List Extra = c.loop-place.extras.items in
    let extra : Extra = c.in_ok-extra.extra in
    let new = subst (λ (n : ℕ). (y : Stream) → slice_get c.args.streams.now n ≡ Some y → P n y extra) (sym c.loop-place.invariant.count) c.in_ok-extra.ensures.extra in
    record {
      count = ap length c.in-Ok.ensures.items ∙ (length-append items (extra ∷ []) ∙ ap (λ (n : ℕ). n + 1) c.loop-place.invariant.count);
      each = λ place x e at has.
          one_more P c.args.streams.now items extra new c.loop-place.invariant.each place x e at
          (subst (λ (es : List Extra). slice_get es place ≡ Some e) c.in-Ok.ensures.items has);
    }
