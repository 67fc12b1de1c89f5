-- When a run ends, and up to which moment it counts.
use Rattle.std.specs.Prelude.{ℕ, min, List, [], ◌∷◌, Option, Some, None, unwrap_or}
use Rattle.abstract_port.specs.AbstractPort.{AbstractPort, starts_until}
use Rattle.abstract_port.specs.declared.Start.{Start}
use Rattle.capture.specs.declared.writer.TheConstants.{CAPTURE_END}

-- the moment to run to after both inputs: the one that is given, or else the last that a capture can say
abbrev pub run_end : Option ℕ → ℕ
run_end until = unwrap_or until CAPTURE_END

-- the end of the last of some starts, or this moment where there is none
abbrev pub last_end : ℕ → List Start → ℕ
last_end moment [] = moment
last_end moment (s ∷ rest) = last_end s.«end» rest

-- the end of the last frame that ever starts of a port, before the last moment that a capture can say; or the port's moment, where none starts
abbrev pub rest_moment : AbstractPort → ℕ
rest_moment p = last_end p.now (starts_until p CAPTURE_END).0

-- The moment up to which a summary counts: the port's at the end of the run, where a moment to run to is given, and else the one at which no frame
-- starts any more.
abbrev pub counted_to : Option ℕ → ℕ → ℕ → ℕ
counted_to (Some moment) rest now = now
counted_to None rest now = min rest CAPTURE_END
