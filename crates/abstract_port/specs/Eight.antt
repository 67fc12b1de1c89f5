-- Eight alike, one for each traffic class (IEEE Std 802.1Q-2018, 8.6.6).
use Rattle.std.specs.Prelude.{List, [], ◌∷◌}

-- eight times the same
abbrev pub eight : {T : Type 0} → T → List T
eight x = x ∷ x ∷ x ∷ x ∷ x ∷ x ∷ x ∷ x ∷ []
