-- What the keys of octets are worth: the law.
use Rattle.std.specs.Prelude.{◌≡◌, ◌↔◌, List, ℕ, [], ◌∷◌}
use Rattle.compare.specs.Frames.{payload_key, seen_after}

-- the different octets that came, as these come behind them
abbrev pub seen_behind : List (List ℕ) → List (List ℕ) → List (List ℕ)
seen_behind seen [] = seen
seen_behind seen (octets ∷ more) = seen_behind (seen_after seen octets) more

-- Of octets that come one after another, whatever comes before and between them, two get the same key just where they are the same.
abbrev pub TellsApart : Type 0
TellsApart = (before between : List (List ℕ)) (a b : List ℕ) →
    let first = seen_behind [] before in
    (payload_key first a ≡ payload_key (seen_behind (seen_after first a) between) b) ↔ (a ≡ b)
