-- The lines of ports, of classes and of a table, one after another.
use Rattle.std.proofs.Common.{◌≡◌, ◌<◌, ◌≤◌, ℕ, suc, ◌+◌, ◌-◌, Bool, true, false, ◌||◌, List, [], ◌∷◌, ◌++◌, Option, Some, None, length, drop, get_or, slice_get, refl, sym, ap, ◌∙◌, arith}
use Rattle.std.proofs.lemmas.List.{at_drop_all, at_drop_more}
use Rattle.path_bounds.specs.Answers.{has_own, pair_of, verdict_at}
use Rattle.path_bounds.specs.Hops.{is_at}
use Rattle.path_bounds.specs.Judged.{Known}
use Rattle.path_bounds.specs.declared.hop.Hop.{Hop}
use Rattle.path_bounds.specs.declared.hop.PathPort.{PathPort}
use Rattle.path_bounds.specs.declared.standings.PairVerdict.{PairVerdict}
use Rattle.paths.specs.Findings.{pair_finding, pairs_finding}
use Rattle.paths.specs.NextLines.{next_line, next_lines}
use Rattle.paths.specs.PathLines.{first_of}
use Rattle.paths.specs.PortLines.{cyclic_names, has_cyclic, is_cyclic, lines_by, pair_line, pair_lines, pair_name, ports_lines}
use Rattle.paths.specs.declared.faults.PathsFinding.{PathsFinding}

module _ (k : Known) where
  -- the line of one class more
  pub pair_more : (room port class : ℕ) (has : Bool) (v : Option PairVerdict) → class < 8
      → has ≡ has_own port class k.hops → v ≡ verdict_at k.verdicts (pair_of port class)
      → pair_lines k room port (8 - class) class ≡ pair_line has room class v ++ pair_lines k room port (8 - (class + 1)) (class + 1)
  unfolding pair_lines
  pair_more room port class has v less own is =
      let step : 8 - class ≡ suc (8 - (class + 1)) = omega (arith, less) in
      ap (λ (n : ℕ). pair_lines k room port n class) step
      ∙ (ap (λ (b : Bool). pair_line b room class (verdict_at k.verdicts (pair_of port class)) ++ pair_lines k room port (8 - (class + 1)) (class + 1)) (sym own)
      ∙ ap (λ (w : Option PairVerdict). pair_line has room class w ++ pair_lines k room port (8 - (class + 1)) (class + 1)) (sym is))

  pub pair_end : (room port class : ℕ) → 8 ≤ class → pair_lines k room port (8 - class) class ≡ []
  unfolding pair_lines
  pair_end room port class over =
      ap (λ (n : ℕ). pair_lines k room port n class) (let none : 8 - class ≡ 0 = omega (arith, over) in none)

  module _ (names : List (List ℕ)) (ports : List PathPort) where
    one_port : (port : ℕ) (order : List ℕ) → ports_lines k names ports (port ∷ order) ≡ lines_by k names port (slice_get ports port) ++ ports_lines k names ports order
    unfolding ports_lines
    one_port port order = refl

    no_port : ports_lines k names ports [] ≡ []
    unfolding ports_lines
    no_port = refl

    -- the lines of one port more
    pub port_more : (order : List ℕ) (i d : ℕ) → i < length order
        → ports_lines k names ports (drop i order) ≡ lines_by k names (get_or order i d) (slice_get ports (get_or order i d)) ++ ports_lines k names ports (drop (i + 1) order)
    port_more order i d less = at_drop_more (ports_lines k names ports) order i d less ∙ one_port (get_or order i d) (drop (i + 1) order)

    pub port_end : (order : List ℕ) (i : ℕ) → length order ≤ i → ports_lines k names ports (drop i order) ≡ []
    port_end order i over = at_drop_all (ports_lines k names ports) order i over ∙ no_port

  -- ---- circles

  one_cyclic : (n pair : ℕ) → has_cyclic k (suc n) pair ≡ (is_cyclic k pair || has_cyclic k n (pair + 1))
  unfolding has_cyclic
  one_cyclic n pair = refl

  no_cyclic : (pair : ℕ) → has_cyclic k 0 pair ≡ false
  unfolding has_cyclic
  no_cyclic pair = refl

  at_cyclic : (count i : ℕ) (b : Bool) → i < count → is_cyclic k i ≡ b → has_cyclic k (count - i) i ≡ (b || has_cyclic k (count - (i + 1)) (i + 1))
  at_cyclic count i b less is =
      let step : count - i ≡ suc (count - (i + 1)) = omega (arith, less) in
      ap (λ (n : ℕ). has_cyclic k n i) step ∙ (one_cyclic (count - (i + 1)) i ∙ ap (λ (c : Bool). c || has_cyclic k (count - (i + 1)) (i + 1)) is)

  pub cyclic_here : (count i : ℕ) (all : Bool) → i < count → is_cyclic k i ≡ true → has_cyclic k (count - i) i ≡ all → true ≡ all
  cyclic_here count i all less is so_far = sym (at_cyclic count i true less is) ∙ so_far

  pub cyclic_more : (count i : ℕ) (all : Bool) → i < count → is_cyclic k i ≡ false → has_cyclic k (count - i) i ≡ all
      → has_cyclic k (count - (i + 1)) (i + 1) ≡ all
  cyclic_more count i all less is so_far = sym (at_cyclic count i false less is) ∙ so_far

  pub cyclic_end : (count i : ℕ) (all : Bool) → count ≤ i → has_cyclic k (count - i) i ≡ all → false ≡ all
  cyclic_end count i all over so_far =
      let none : count - i ≡ 0 = omega (arith, over) in
      sym (ap (λ (n : ℕ). has_cyclic k n i) none ∙ no_cyclic i) ∙ so_far

  module _ (names : List (List ℕ)) where
    one_name : (n pair : ℕ) → cyclic_names k names (suc n) pair ≡ pair_name names (is_cyclic k pair) pair ++ cyclic_names k names n (pair + 1)
    unfolding cyclic_names
    one_name n pair = refl

    no_name : (pair : ℕ) → cyclic_names k names 0 pair ≡ []
    unfolding cyclic_names
    no_name pair = refl

    -- one name more
    pub name_more : (count i : ℕ) (b : Bool) → i < count → b ≡ is_cyclic k i
        → cyclic_names k names (count - i) i ≡ pair_name names b i ++ cyclic_names k names (count - (i + 1)) (i + 1)
    name_more count i b less is =
        let step : count - i ≡ suc (count - (i + 1)) = omega (arith, less) in
        ap (λ (n : ℕ). cyclic_names k names n i) step ∙ (one_name (count - (i + 1)) i
        ∙ ap (λ (c : Bool). pair_name names c i ++ cyclic_names k names (count - (i + 1)) (i + 1)) (sym is))

    pub name_end : (count i : ℕ) → count ≤ i → cyclic_names k names (count - i) i ≡ []
    name_end count i over =
        let none : count - i ≡ 0 = omega (arith, over) in
        ap (λ (n : ℕ). cyclic_names k names n i) none ∙ no_name i

-- ---- a table

one_entry : (port : ℕ) (h : Hop) (hops : List Hop) → next_lines port (h ∷ hops) ≡ next_line (is_at port h) h ++ next_lines port hops
unfolding next_lines
one_entry port h hops = refl

no_entry : (port : ℕ) → next_lines port [] ≡ []
unfolding next_lines
no_entry port = refl

pub entry_more : (port : ℕ) (hops : List Hop) (i : ℕ) (d : Hop) (at : Bool) → i < length hops → at ≡ is_at port (get_or hops i d)
    → next_lines port (drop i hops) ≡ next_line at (get_or hops i d) ++ next_lines port (drop (i + 1) hops)
entry_more port hops i d at less is =
    at_drop_more (next_lines port) hops i d less ∙ (one_entry port (get_or hops i d) (drop (i + 1) hops)
    ∙ ap (λ (b : Bool). next_line b (get_or hops i d) ++ next_lines port (drop (i + 1) hops)) (sym is))

pub entry_end : (port : ℕ) (hops : List Hop) (i : ℕ) → length hops ≤ i → next_lines port (drop i hops) ≡ []
entry_end port hops i over = at_drop_all (next_lines port) hops i over ∙ no_entry port

-- ---- findings

pub first_of_three : (a b c : Option PathsFinding) → first_of (first_of a b) c ≡ first_of a (first_of b c)
first_of_three (Some x) b c = refl
first_of_three None b c = refl

pub none_later : (a : Option PathsFinding) → first_of a None ≡ a
none_later (Some x) = refl
none_later None = refl

module _ (names : List (List ℕ)) (verdicts : List (Option PairVerdict)) where
  one_found : (n pair : ℕ) → pairs_finding names verdicts (suc n) pair ≡ first_of (pair_finding names verdicts pair) (pairs_finding names verdicts n (pair + 1))
  unfolding pairs_finding
  one_found n pair = refl

  none_found : (pair : ℕ) → pairs_finding names verdicts 0 pair ≡ None
  unfolding pairs_finding
  none_found pair = refl

  -- the finding about one class more
  pub found_more : (count i : ℕ) (first found now all : Option PathsFinding) → i < count → found ≡ pair_finding names verdicts i → now ≡ first_of first found
      → first_of first (pairs_finding names verdicts (count - i) i) ≡ all → first_of now (pairs_finding names verdicts (count - (i + 1)) (i + 1)) ≡ all
  found_more count i first found now all less is on so_far =
      let rest : Option PathsFinding = pairs_finding names verdicts (count - (i + 1)) (i + 1) in
      let step : count - i ≡ suc (count - (i + 1)) = omega (arith, less) in
      let whole = ap (λ (n : ℕ). pairs_finding names verdicts n i) step ∙ one_found (count - (i + 1)) i in
      ap (λ (f : Option PathsFinding). first_of f rest) (on ∙ ap (first_of first) is)
      ∙ (first_of_three first (pair_finding names verdicts i) rest ∙ (sym (ap (first_of first) whole) ∙ so_far))

  pub found_end : (count i : ℕ) (first all : Option PathsFinding) → count ≤ i → first_of first (pairs_finding names verdicts (count - i) i) ≡ all → first ≡ all
  found_end count i first all over so_far =
      let none : count - i ≡ 0 = omega (arith, over) in
      sym (none_later first) ∙ (sym (ap (first_of first) (ap (λ (n : ℕ). pairs_finding names verdicts n i) none ∙ none_found i)) ∙ so_far)
