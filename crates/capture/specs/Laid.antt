-- How frames lie in a class, their octets one after another and cut by their lengths.
use Rattle.std.specs.Prelude.{◌≡◌, ◌≤◌, ℕ, List, [], ◌∷◌, length, take, drop}
use Rattle.capture.specs.Stored.{Kept, kept}
use Rattle.capture.specs.declared.octet_store.TheConstants.{MAX_OCTETS}
use Rattle.capture.specs.declared.octet_store.class_octets.Lengths.{Lengths}

-- the frames of these lengths, whose octets are these
abbrev pub kept_of : List Lengths → List ℕ → List Kept
kept_of [] octets = []
kept_of (l ∷ ls) octets = kept l.original (take l.captured octets) ∷ kept_of ls (drop l.captured octets)

-- the lengths are those of all the octets, and none is too long
abbrev pub AreLaid : List Lengths → List ℕ → Type 0
AreLaid [] octets = octets ≡ []
AreLaid (l ∷ ls) octets = (l.captured ≤ length octets) × (l.captured ≤ MAX_OCTETS) × AreLaid ls (drop l.captured octets)
