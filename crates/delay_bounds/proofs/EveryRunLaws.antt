-- Bounds of flows hold in every run.
use Rattle.std.proofs.Common.{IsSome, ◌≡◌, ℕ, suc, Bool, List, [], ◌∷◌, Some, refl, sym, ap, ◌∙◌, subst}
use Rattle.std.proofs.lemmas.Option.{same_Some}
use Rattle.gates.specs.Gate.{in_ps}
use Rattle.abstract_port.specs.declared.Start.{Start}
use Rattle.abstract_port.specs.Traffic.{Came}
use Rattle.delay_bounds.proofs.DropLaws.{drops_law}
use Rattle.delay_bounds.proofs.StepLaws.{first_told, next_is}
use Rattle.delay_bounds.proofs.WaitLaws.{step_is, told_next, bounds_law}
use Rattle.delay_bounds.specs.Claim.{coming, AreComing, bound_at, offsets_of}
use Rattle.delay_bounds.specs.Bounds.{IsWithin, AllWithin, EveryRunLaw, Track, step, told}
use Rattle.delay_bounds.specs.Waits.{AreAllTold, HaveWaited}
use Rattle.delay_bounds.specs.Walk.{may_by, begun}
use Rattle.delay_bounds.specs.declared.Bound.{Bound}
use Rattle.delay_bounds.specs.declared.Flow.{Flow}
use Rattle.delay_bounds.specs.declared.Told.{Told}

-- frames that have waited so have waited within bounds
all_within : (ps change : ℕ) (may : ℕ → ℕ → Bool) (cycle room : ℕ) (flows : List Flow) (bounds : List Bound) (starts : List Start) (came : List Came) (more : List (ℕ × ℕ)) (n : ℕ) (s : Track)
    → ((m : ℕ) (t : Told) → told may cycle room flows m s ≡ Some t → IsWithin (bound_at bounds t.place) t.wait)
    → more ≡ coming flows n s.nexts → AreComing ps change flows more came → HaveWaited (step may cycle room flows) s came starts → AllWithin bounds more came starts
all_within ps change may cycle room flows bounds [] came more n s tells is c h = tt
all_within ps change may cycle room flows bounds (x ∷ starts) [] more n s tells is c h = absurd h
all_within ps change may cycle room flows bounds (x ∷ starts) (f ∷ came) [] n s tells is c h = c
all_within ps change may cycle room flows bounds (x ∷ starts) (f ∷ came) (e ∷ more) n s tells is c h =
    let next = next_is flows n s.nexts e more is in
    let r = h.0 in
    let at = step_is may cycle room flows s e r next.first h.1 in
    let mine = subst (λ k. IsWithin (bound_at bounds k) (r.0).wait) at.place (tells 0 r.0 (first_told may cycle room flows s r h.1)) in (
      ((r.0).wait, h.2, mine),
      all_within ps change may cycle room flows bounds starts came more next.count r.1
          (λ m t told_later. tells (suc m) t (told_next may cycle room flows s r m h.1 ∙ told_later))
          (next.behind ∙ ap (coming flows next.count) (sym at.nexts)) c.2 h.3,
    )

pub every_run_law : EveryRunLaw
every_run_law ps mtu room class a plan events flows bounds n rate large lc is above apart only c b =
    let cycle : ℕ = in_ps plan.cycle in
    let tells : AreAllTold plan class room flows = λ m. (let t = b.always m in subst IsSome (sym t.1) refl) in
    let all = drops_law ps mtu room class a plan events flows n rate large lc is above apart only c tells in
    let c' = subst (λ xs. AreComing ps a.change flows (coming flows n (offsets_of flows)) xs) (sym all) c in
    let waited = bounds_law ps mtu room class a plan events flows n rate large lc is above apart only c' tells in
    record {
      queued = all;
      within = all_within ps a.change (may_by plan class) cycle room flows bounds _ _ (coming flows n (offsets_of flows)) n (begun (offsets_of flows))
          (λ m t e. (let u = b.always m in subst (λ (x : Told). IsWithin (bound_at bounds x.place) x.wait) (same_Some u.0 t (sym u.1 ∙ e)) u.2)) refl c' waited;
    }
