-- The lines and findings of ways, one hop after another.
use Rattle.std.proofs.Common.{◌≡◌, ◌<◌, ◌≤◌, ℕ, ◌+◌, Bool, List, [], ◌∷◌, ◌++◌, Option, None, length, drop, get_or, refl, sym, ap, ◌∙◌}
use Rattle.std.proofs.lemmas.List.{at_drop_all, at_drop_more}
use Rattle.path_bounds.specs.declared.hop.Hop.{Hop}
use Rattle.path_bounds.specs.declared.hop.PathPort.{PathPort}
use Rattle.path_bounds.specs.declared.standings.PairVerdict.{PairVerdict}
use Rattle.paths.specs.PathLines.{first_of, hop_finding, hop_lines, is_last, over_at, over_behind, paths_finding, paths_lines}
use Rattle.paths.specs.declared.faults.PathsFinding.{PathsFinding}
use Rattle.paths.proofs.LineLaws.{first_of_three, none_later}

module _ (ports : List PathPort) (verdicts : List (Option PairVerdict)) where
  module _ (names : List (List ℕ)) where
    one_hop : (over : Bool) (h : Hop) (hops : List Hop) → paths_lines ports verdicts names over (h ∷ hops)
        ≡ hop_lines ports verdicts names (over_at over h) (is_last hops) h ++ paths_lines ports verdicts names (over_behind ports over h) hops
    unfolding paths_lines
    one_hop over h hops = refl

    no_hop : (over : Bool) → paths_lines ports verdicts names over [] ≡ []
    unfolding paths_lines
    no_hop over = refl

    -- the lines of one hop more
    pub hop_more : (hops : List Hop) (i : ℕ) (d : Hop) (over ended last behind : Bool) → i < length hops
        → ended ≡ over_at over (get_or hops i d) → last ≡ is_last (drop (i + 1) hops) → behind ≡ over_behind ports over (get_or hops i d)
        → paths_lines ports verdicts names over (drop i hops)
        ≡ hop_lines ports verdicts names ended last (get_or hops i d) ++ paths_lines ports verdicts names behind (drop (i + 1) hops)
    hop_more hops i d over ended last behind less a b c =
        let h : Hop = get_or hops i d in
        let rest : List Hop = drop (i + 1) hops in
        at_drop_more (paths_lines ports verdicts names over) hops i d less ∙ (one_hop over h rest
        ∙ (ap (λ (e : Bool). hop_lines ports verdicts names e (is_last rest) h ++ paths_lines ports verdicts names (over_behind ports over h) rest) (sym a)
        ∙ (ap (λ (l : Bool). hop_lines ports verdicts names ended l h ++ paths_lines ports verdicts names (over_behind ports over h) rest) (sym b)
        ∙ ap (λ (o : Bool). hop_lines ports verdicts names ended last h ++ paths_lines ports verdicts names o rest) (sym c))))

    pub hop_end : (hops : List Hop) (i : ℕ) (over : Bool) → length hops ≤ i → paths_lines ports verdicts names over (drop i hops) ≡ []
    hop_end hops i over past = at_drop_all (paths_lines ports verdicts names over) hops i past ∙ no_hop over

  one_found : (over : Bool) (h : Hop) (hops : List Hop) → paths_finding ports verdicts over (h ∷ hops)
      ≡ first_of (hop_finding ports verdicts (over_at over h) (is_last hops) h) (paths_finding ports verdicts (over_behind ports over h) hops)
  unfolding paths_finding
  one_found over h hops = refl

  none_found : (over : Bool) → paths_finding ports verdicts over [] ≡ None
  unfolding paths_finding
  none_found over = refl

  -- the finding about one hop more
  pub found_more : (hops : List Hop) (i : ℕ) (d : Hop) (over ended last behind : Bool) (first found now all : Option PathsFinding) → i < length hops
      → ended ≡ over_at over (get_or hops i d) → last ≡ is_last (drop (i + 1) hops) → behind ≡ over_behind ports over (get_or hops i d)
      → found ≡ hop_finding ports verdicts ended last (get_or hops i d) → now ≡ first_of first found
      → first_of first (paths_finding ports verdicts over (drop i hops)) ≡ all
      → first_of now (paths_finding ports verdicts behind (drop (i + 1) hops)) ≡ all
  found_more hops i d over ended last behind first found now all less a b c is on so_far =
      let h : Hop = get_or hops i d in
      let rest : List Hop = drop (i + 1) hops in
      let of_hop : Option PathsFinding = hop_finding ports verdicts (over_at over h) (is_last rest) h in
      let whole = at_drop_more (paths_finding ports verdicts over) hops i d less ∙ one_found over h rest in
      let same : found ≡ of_hop = is ∙ (ap (λ (e : Bool). hop_finding ports verdicts e last h) a ∙ ap (λ (l : Bool). hop_finding ports verdicts (over_at over h) l h) b) in
      ap (λ (o : Bool). first_of now (paths_finding ports verdicts o rest)) c
      ∙ (ap (λ (f : Option PathsFinding). first_of f (paths_finding ports verdicts (over_behind ports over h) rest)) (on ∙ ap (first_of first) same)
      ∙ (first_of_three first of_hop (paths_finding ports verdicts (over_behind ports over h) rest)
      ∙ (sym (ap (first_of first) whole) ∙ so_far)))

  pub found_end : (hops : List Hop) (i : ℕ) (over : Bool) (first all : Option PathsFinding) → length hops ≤ i
      → first_of first (paths_finding ports verdicts over (drop i hops)) ≡ all → first ≡ all
  found_end hops i over first all past so_far =
      sym (none_later first) ∙ (sym (ap (first_of first) (at_drop_all (paths_finding ports verdicts over) hops i past ∙ none_found over)) ∙ so_far)
