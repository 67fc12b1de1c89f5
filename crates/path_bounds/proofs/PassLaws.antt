-- What is known of hops behind a class that is judged, one hop after another.
use Rattle.std.proofs.Common.{◌≡◌, ◌<◌, ◌≤◌, ℕ, ◌+◌, List, [], ◌∷◌, ◌++◌, length, drop, get_or, sym, ap, ◌∙◌, append_assoc, append-nil}
use Rattle.std.proofs.lemmas.List.{at_drop_all, at_drop_more}
use Rattle.delay_bounds.specs.declared.Bound.{Bound}
use Rattle.path_bounds.specs.Hops.{passed_at, passed_on}
use Rattle.path_bounds.specs.declared.hop.Hop.{Hop}
use Rattle.path_bounds.specs.declared.hop.PathPort.{PathPort}
use Rattle.path_bounds.specs.declared.pass.Leaving.{Leaving}

module _ (ports : List PathPort) (from : PathPort) (clocks port class : ℕ) (left : List Bound) where
  abbrev Rest : ℕ → Leaving → List Hop → List Hop
  Rest = passed_on ports from clocks port class left

  -- one more is passed
  pub passed_more : (hops : List Hop) (i : ℕ) (d : Hop) (place next : ℕ) (leaving behind : Leaving) (kept all : List Hop) (h : Hop) → i < length hops
      → ((on : ℕ → Leaving → List Hop) → passed_at ports from clocks port class left place leaving (get_or hops i d) on ≡ h ∷ on next behind)
      → kept ++ passed_on ports from clocks port class left place leaving (drop i hops) ≡ all
      → (kept ++ h ∷ []) ++ passed_on ports from clocks port class left next behind (drop (i + 1) hops) ≡ all
  unfolding passed_on
  passed_more hops i d place next leaving behind kept all h less is so_far =
      append_assoc kept (h ∷ []) (Rest next behind (drop (i + 1) hops))
      ∙ (sym (ap (λ ys. kept ++ ys) (at_drop_more (Rest place leaving) hops i d less ∙ is (λ p l. Rest p l (drop (i + 1) hops)))) ∙ so_far)

  -- all are
  pub all_passed : (hops : List Hop) (i place : ℕ) (leaving : Leaving) (kept all : List Hop) → length hops ≤ i
      → kept ++ passed_on ports from clocks port class left place leaving (drop i hops) ≡ all → kept ≡ all
  unfolding passed_on
  all_passed hops i place leaving kept all over so_far =
      sym (append-nil kept) ∙ (sym (ap (λ ys. kept ++ ys) (at_drop_all (Rest place leaving) hops i over)) ∙ so_far)
