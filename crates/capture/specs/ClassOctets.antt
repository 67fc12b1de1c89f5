-- What is kept of the frames of one class.
use Rattle.std.specs.Prelude.{◌≡◌, ℕ, List, [], All, length, map, slice_index_or}
use Rattle.abstract_port.specs.Eight.{eight}
use Rattle.capture.specs.Stored.{Kept}

-- the frames, the first to go first, and for how many there is room
pub record Waiting : Type 0 where
  pub frames : List Kept
  pub room : ℕ

-- a class without frames
abbrev pub empty_class : ℕ → Waiting
empty_class room = record { frames = []; room = room }

-- eight classes without frames, each with so much room
abbrev pub empty_classes : ℕ → List Waiting
empty_classes room = eight (empty_class room)

-- a class with other frames
abbrev pub with_frames : Waiting → List Kept → Waiting
with_frames c frames = record c { frames = frames }

-- what is kept of the frames of a class
abbrev pub class_at : List Waiting → ℕ → Waiting
class_at classes class = slice_index_or classes class (empty_class 0)

-- the frames of each class
abbrev pub frames_of : List Waiting → List (List Kept)
frames_of classes = map (λ c. c.frames) classes

-- eight classes, each with so much room
pub record HaveRoom (room : ℕ) (classes : List Waiting) : Type 0 where
  pub eight : length classes ≡ 8
  pub rooms : All (λ c. c.room ≡ room) classes
