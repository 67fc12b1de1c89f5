-- The ways of streams, and what becomes of a network that is read.
use Rattle.std.proofs.Common.{◌≡◌, ◌<◌, ◌≤◌, ℕ, ◌+◌, List, [], ◌∷◌, length, drop, get_or, Option, Some, None, Result, Ok, Err, refl, sym, ap, ◌∙◌}
use Rattle.std.proofs.lemmas.List.{at_drop_all, at_drop_more}
use Rattle.network.specs.Network.{Net, hop_fault, option_or_else, way_fault}
use Rattle.network.specs.declared.network_table.faults.NetworkFault.{NetworkFault}

module _ (net : Net) where
  no_more : (before : Option ℕ) → way_fault net before [] ≡ None
  unfolding way_fault
  no_more before = refl

  one_more : (before : Option ℕ) (hop : ℕ) (hops : List ℕ) → way_fault net before (hop ∷ hops) ≡ option_or_else (hop_fault net before hop) (way_fault net (Some hop) hops)
  unfolding way_fault
  one_more before hop hops = refl

  module _ (before : Option ℕ) (way : List ℕ) (i : ℕ) (all : Option NetworkFault) where
    at_hop : (found : Option NetworkFault) → i < length way → hop_fault net before (get_or way i 0) ≡ found
        → way_fault net before (drop i way) ≡ option_or_else found (way_fault net (Some (get_or way i 0)) (drop (i + 1) way))
    at_hop found less is =
        at_drop_more (way_fault net before) way i 0 less ∙ one_more before (get_or way i 0) (drop (i + 1) way)
        ∙ ap (λ (o : Option NetworkFault). option_or_else o (way_fault net (Some (get_or way i 0)) (drop (i + 1) way))) is

    -- one port more is reached, or not; and the last one is
    pub hop_gone : i < length way → hop_fault net before (get_or way i 0) ≡ None → way_fault net before (drop i way) ≡ all → way_fault net (Some (get_or way i 0)) (drop (i + 1) way) ≡ all
    hop_gone less none so_far = sym (at_hop None less none) ∙ so_far

    pub hop_wrong : (fault : NetworkFault) → i < length way → hop_fault net before (get_or way i 0) ≡ Some fault → way_fault net before (drop i way) ≡ all → Some fault ≡ all
    hop_wrong fault less some so_far = sym (at_hop (Some fault) less some) ∙ so_far

    pub way_gone : length way ≤ i → way_fault net before (drop i way) ≡ all → None ≡ all
    way_gone over so_far = sym (at_drop_all (way_fault net before) way i over ∙ no_more before) ∙ so_far
