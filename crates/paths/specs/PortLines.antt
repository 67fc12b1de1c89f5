-- What is told of ports: the name, what is taken for granted, and the verdict about each class that has streams; and of circles.
use Rattle.std.specs.Prelude.{ℕ, zero, suc, ◌+◌, ◌&&◌, ◌||◌, not, Bool, false, List, [], ◌∷◌, ◌++◌, slice_get, slice_index_or, Option, Some, None, is_some, decimal, codes, if◌then◌else◌}
use Rattle.std.specs.List.{concat}
use Rattle.network.specs.Network.{name_at}
use Rattle.stream_bounds.specs.BoundLines.{class_line, premise_lines, word_line}
use Rattle.path_bounds.specs.Answers.{has_own, pair_of, verdict_at}
use Rattle.path_bounds.specs.Judged.{Known, class_in, port_in}
use Rattle.path_bounds.specs.declared.hop.Hop.{Hop}
use Rattle.path_bounds.specs.declared.hop.PathPort.{PathPort}
use Rattle.path_bounds.specs.declared.standings.PairVerdict.{PairVerdict}
use Rattle.path_bounds.specs.declared.standings.PairVerdict.TheVariants as Verdicts

-- 1. A port

-- the line of its name, where it has one
abbrev pub head_by : Option (List ℕ) → List ℕ
head_by None = []
head_by (Some name) = concat (codes "port " ∷ name ∷ codes "\n" ∷ [])

-- the line of a class: without verdict it depends on itself, in a circle, or on such a class
abbrev pub verdict_line : (room class : ℕ) → Option PairVerdict → List ℕ
verdict_line room class None = word_line class (codes " cyclic")
verdict_line room class (Some Verdicts.Unheard) = word_line class (codes " unknown")
verdict_line room class (Some (Verdicts.Known v)) = class_line class room v

abbrev pub pair_line : Bool → (room class : ℕ) → Option PairVerdict → List ℕ
pair_line has room class verdict = if has then verdict_line room class verdict else []

-- of each class whether it is taken for granted that it sends nothing: so it is said, and it has no streams at the port
module _ (port : ℕ) (hops : List Hop) (silent : List Bool) where
  abbrev pub is_quiet : (class : ℕ) → Bool
  is_quiet class = slice_index_or silent class false && not (has_own port class hops)

  abbrev pub quiet_classes : List Bool
  quiet_classes = is_quiet 0 ∷ is_quiet 1 ∷ is_quiet 2 ∷ is_quiet 3 ∷ is_quiet 4 ∷ is_quiet 5 ∷ is_quiet 6 ∷ is_quiet 7 ∷ []

-- the classes that the schedule keeps apart, and those that send nothing
abbrev pub premises_at : (port : ℕ) → List Hop → PathPort → List ℕ
premises_at port hops p = premise_lines (record p.settings { silent = quiet_classes port hops p.settings.silent }) p.change []

module _ (k : Known) where
  -- the lines of so many classes of a port from one on
  unfoldable pub pair_lines : (room port count class : ℕ) → List ℕ
  pair_lines room port zero class = []
  pair_lines room port (suc count) class =
      pair_line (has_own port class k.hops) room class (verdict_at k.verdicts (pair_of port class)) ++ pair_lines room port count (class + 1)

  module _ (names : List (List ℕ)) where
    abbrev pub lines_by : (port : ℕ) → Option PathPort → List ℕ
    lines_by port None = []
    lines_by port (Some p) =
        head_by (slice_get names port) ++ (premises_at port k.hops p ++ pair_lines p.settings.port.room port 8 0)

    unfoldable pub ports_lines : List PathPort → (order : List ℕ) → List ℕ
    ports_lines ports [] = []
    ports_lines ports (port ∷ order) = lines_by port (slice_get ports port) ++ ports_lines ports order

-- 2. Circles

abbrev pub pair_name : List (List ℕ) → Bool → (pair : ℕ) → List ℕ
pair_name names is pair =
    if is then concat (codes " " ∷ name_at names (port_in pair) ∷ codes "/" ∷ decimal (class_in pair) ∷ []) else []

module _ (k : Known) where
  -- a class has streams, and no verdict
  abbrev pub is_cyclic : (pair : ℕ) → Bool
  is_cyclic pair =
      has_own (port_in pair) (class_in pair) k.hops && not (is_some (verdict_at k.verdicts (pair_of (port_in pair) (class_in pair))))

  unfoldable pub has_cyclic : (count pair : ℕ) → Bool
  has_cyclic zero pair = false
  has_cyclic (suc count) pair = is_cyclic pair || has_cyclic count (pair + 1)

  module _ (names : List (List ℕ)) where
    unfoldable pub cyclic_names : (count pair : ℕ) → List ℕ
    cyclic_names zero pair = []
    cyclic_names (suc count) pair = pair_name names (is_cyclic pair) pair ++ cyclic_names count (pair + 1)

    -- the line of so many classes
    abbrev pub circles_line : (count : ℕ) → List ℕ
    circles_line count = codes "cyclic" ++ (cyclic_names count 0 ++ codes "\n")

    -- where there are any
    abbrev pub cyclic_line : (count : ℕ) → List ℕ
    cyclic_line count = if has_cyclic count 0 then circles_line count else []
