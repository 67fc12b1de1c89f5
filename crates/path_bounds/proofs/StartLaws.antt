-- What is known of hops before any class is judged, one hop after another; and how the classes above one stand, one class after another.
use Rattle.std.proofs.Common.{◌≡◌, ◌<◌, ◌≤◌, ℕ, zero, suc, ◌+◌, ◌-◌, Bool, List, [], ◌∷◌, ◌++◌, Option, length, drop, get_or, slice_get, option_to_list, sym, ap, ◌∙◌, arith, append_assoc, append-nil}
use Rattle.std.proofs.lemmas.List.{at_drop_all, at_drop_more}
use Rattle.stream_bounds.specs.declared.standing.Standing.{Standing}
use Rattle.path_bounds.specs.Answers.{standing_at, standings_from}
use Rattle.path_bounds.specs.Start.{start_hops, with_port}
use Rattle.path_bounds.specs.declared.hop.Hop.{Hop}
use Rattle.path_bounds.specs.declared.hop.PathPort.{PathPort}
use Rattle.path_bounds.specs.declared.standings.PairVerdict.{PairVerdict}
use Rattle.path_bounds.specs.declared.start.WayHop.{WayHop}

module _ (ports : List PathPort) where
  -- one more begins
  pub begun_more : (ways : List WayHop) (i : ℕ) (d : WayHop) (never next : Bool) (kept all : List Hop) (o : Option Hop) → i < length ways
      → ((on : Bool → List Hop) → with_port (slice_get ports (get_or ways i d).port) (get_or ways i d) never on ≡ option_to_list o ++ on next)
      → kept ++ start_hops ports never (drop i ways) ≡ all
      → (kept ++ option_to_list o) ++ start_hops ports next (drop (i + 1) ways) ≡ all
  unfolding start_hops
  begun_more ways i d never next kept all o less is so_far =
      append_assoc kept (option_to_list o) (start_hops ports next (drop (i + 1) ways))
      ∙ (sym (ap (λ ys. kept ++ ys) (at_drop_more (start_hops ports never) ways i d less ∙ is (λ n. start_hops ports n (drop (i + 1) ways)))) ∙ so_far)

  -- all have
  pub all_begun : (ways : List WayHop) (i : ℕ) (never : Bool) (kept all : List Hop) → length ways ≤ i
      → kept ++ start_hops ports never (drop i ways) ≡ all → kept ≡ all
  unfolding start_hops
  all_begun ways i never kept all over so_far =
      sym (append-nil kept) ∙ (sym (ap (λ ys. kept ++ ys) (at_drop_all (start_hops ports never) ways i over)) ∙ so_far)

module _ (p : PathPort) (port : ℕ) (hops : List Hop) (verdicts : List (Option PairVerdict)) (shares : List Bool) where
  one_stands : (count class : ℕ) → 0 < count
      → standings_from p port hops verdicts shares count class ≡ standing_at p port hops verdicts shares class ∷ standings_from p port hops verdicts shares (count - 1) (class + 1)
  unfolding standings_from
  one_stands zero class some = absurd (omega (arith, some))
  one_stands (suc count) class some =
      let same : count ≡ suc count - 1 = omega arith in
      ap (λ n. standing_at p port hops verdicts shares class ∷ standings_from p port hops verdicts shares n (class + 1)) same

  -- one more class stands
  pub standings_more : (class : ℕ) (kept all : List Standing) → class < 8
      → kept ++ standings_from p port hops verdicts shares (8 - class) class ≡ all
      → (kept ++ standing_at p port hops verdicts shares class ∷ []) ++ standings_from p port hops verdicts shares (8 - (class + 1)) (class + 1) ≡ all
  standings_more class kept all less so_far =
      let some : 0 < 8 - class = omega (arith, less) in
      let same : 8 - class - 1 ≡ 8 - (class + 1) = omega arith in
      append_assoc kept (standing_at p port hops verdicts shares class ∷ []) (standings_from p port hops verdicts shares (8 - (class + 1)) (class + 1))
      ∙ (ap (λ n. kept ++ standing_at p port hops verdicts shares class ∷ standings_from p port hops verdicts shares n (class + 1)) (sym same)
      ∙ (sym (ap (λ ys. kept ++ ys) (one_stands (8 - class) class some)) ∙ so_far))

  -- all do
  pub all_stand : (class : ℕ) (kept all : List Standing) → 8 ≤ class → kept ++ standings_from p port hops verdicts shares (8 - class) class ≡ all → kept ≡ all
  unfolding standings_from
  all_stand class kept all over so_far =
      let none : 8 - class ≡ 0 = omega (arith, over) in
      sym (append-nil kept) ∙ (ap (λ n. kept ++ standings_from p port hops verdicts shares n class) (sym none) ∙ so_far)
