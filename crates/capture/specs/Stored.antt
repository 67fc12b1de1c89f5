-- What is kept of the frames that wait in eight classes.
use Rattle.std.specs.Prelude.{ℕ, List, [], ◌∷◌, slice_index_or}

-- the octets that are kept of a frame, and how many octets the frame had
pub record Kept : Type 0 where
  pub original : ℕ
  pub octets : List ℕ

-- these octets, of a frame that had so many
abbrev pub kept : ℕ → List ℕ → Kept
kept original octets = record { original = original; octets = octets }

-- the frames of each class, the first to go first, and for how many frames of a class there is room
pub record Stored : Type 0 where
  pub kept : List (List Kept)
  pub room : ℕ

-- the frames of a class
abbrev pub kept_at : List (List Kept) → ℕ → List Kept
kept_at kept class = slice_index_or kept class []

-- eight classes without frames
abbrev pub new_store : ℕ → Stored
new_store room = record {
  kept = [] ∷ [] ∷ [] ∷ [] ∷ [] ∷ [] ∷ [] ∷ [] ∷ [];
  room = room;
}
