-- In what order ports are told: as their first class was judged, and then those of which none was.
use Rattle.std.specs.Prelude.{ℕ, zero, suc, ◌+◌, ◌==◌, List, [], ◌∷◌, ◌++◌, if◌then◌else◌}
use Rattle.std.specs.List.{list_any}
use Rattle.path_bounds.specs.Judged.{port_in}

-- a port behind others, if it isn't among them
abbrev pub with_port : List ℕ → ℕ → List ℕ
with_port kept port = if list_any (λ other. other == port) kept then kept else kept ++ port ∷ []

-- the ports of classes, one after another
unfoldable pub with_judged : List ℕ → (order : List ℕ) → List ℕ
with_judged kept [] = kept
with_judged kept (pair ∷ order) = with_judged (with_port kept (port_in pair)) order

-- so many ports from one on
unfoldable pub with_rest : List ℕ → (count port : ℕ) → List ℕ
with_rest kept zero port = kept
with_rest kept (suc count) port = with_rest (with_port kept port) count (port + 1)

abbrev pub port_order : (order : List ℕ) → (ports : ℕ) → List ℕ
port_order order ports = with_rest (with_judged [] order) ports 0
