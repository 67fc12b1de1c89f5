-- The ports of a way, and ways, one after another.
use Rattle.std.proofs.Common.{◌≡◌, ◌<◌, ◌≤◌, ℕ, ◌+◌, List, [], ◌∷◌, ◌++◌, Option, Some, None, length, drop, get_or, refl, sym, ap, ◌∙◌}
use Rattle.std.proofs.lemmas.List.{at_drop_all, at_drop_more}
use Rattle.network.specs.Network.{Net}
use Rattle.network.specs.declared.network_table.contents.NetworkLink.{NetworkLink}
use Rattle.network.specs.declared.network_table.contents.NetworkStream.{NetworkStream}
use Rattle.path_bounds.specs.declared.start.WayHop.{WayHop}
use Rattle.traffic.specs.declared.table.Stream.{Stream}
use Rattle.paths.specs.Ways.{is_periodic, short, times_by, way_from, way_hop, ways_from, ways_with}

module _ (links : List NetworkLink) (x : Stream) (number : ℕ) where
  one_hop : (before : Option ℕ) (kept : List WayHop) (port : ℕ) (ports : List ℕ) → way_from links x number before kept (port ∷ ports)
      ≡ way_from links x number (Some port) (kept ++ way_hop x number before port (times_by links before port) ∷ []) ports
  unfolding way_from
  one_hop before kept port ports = refl

  no_hop : (before : Option ℕ) (kept : List WayHop) → way_from links x number before kept [] ≡ kept
  unfolding way_from
  no_hop before kept = refl

  pub hop_more : (ports : List ℕ) (i d : ℕ) (before : Option ℕ) (kept all : List WayHop) (hop : WayHop) → i < length ports
      → hop ≡ way_hop x number before (get_or ports i d) (times_by links before (get_or ports i d))
      → way_from links x number before kept (drop i ports) ≡ all
      → way_from links x number (Some (get_or ports i d)) (kept ++ hop ∷ []) (drop (i + 1) ports) ≡ all
  hop_more ports i d before kept all hop less is so_far =
      ap (λ (h : WayHop). way_from links x number (Some (get_or ports i d)) (kept ++ h ∷ []) (drop (i + 1) ports)) is
      ∙ (sym (at_drop_more (way_from links x number before kept) ports i d less ∙ one_hop before kept (get_or ports i d) (drop (i + 1) ports)) ∙ so_far)

  pub hop_end : (ports : List ℕ) (i : ℕ) (before : Option ℕ) (kept all : List WayHop) → length ports ≤ i
      → way_from links x number before kept (drop i ports) ≡ all → kept ≡ all
  hop_end ports i before kept all over so_far =
      sym (at_drop_all (way_from links x number before kept) ports i over ∙ no_hop before kept) ∙ so_far

module _ (net : Net) where
  one_way : (number : ℕ) (kept : List WayHop) (s : NetworkStream) (streams : List NetworkStream) → ways_from net number kept (s ∷ streams)
      ≡ ways_from net (short (number + 1)) (ways_with net (is_periodic s.stream) s number kept) streams
  unfolding ways_from
  one_way number kept s streams = refl

  no_way : (number : ℕ) (kept : List WayHop) → ways_from net number kept [] ≡ kept
  unfolding ways_from
  no_way number kept = refl

  pub way_more : (streams : List NetworkStream) (i : ℕ) (d : NetworkStream) (number next : ℕ) (kept now all : List WayHop) → i < length streams
      → next ≡ short (number + 1)
      → now ≡ ways_with net (is_periodic (get_or streams i d).stream) (get_or streams i d) number kept
      → ways_from net number kept (drop i streams) ≡ all → ways_from net next now (drop (i + 1) streams) ≡ all
  way_more streams i d number next kept now all less on is so_far =
      ap (λ (n : ℕ). ways_from net n now (drop (i + 1) streams)) on
      ∙ (ap (λ (k : List WayHop). ways_from net (short (number + 1)) k (drop (i + 1) streams)) is
      ∙ (sym (at_drop_more (ways_from net number kept) streams i d less ∙ one_way number kept (get_or streams i d) (drop (i + 1) streams)) ∙ so_far))

  pub way_end : (streams : List NetworkStream) (i number : ℕ) (kept all : List WayHop) → length streams ≤ i
      → ways_from net number kept (drop i streams) ≡ all → kept ≡ all
  way_end streams i number kept all over so_far =
      sym (at_drop_all (ways_from net number kept) streams i over ∙ no_way number kept) ∙ so_far
