-- A sound port keeps nothing that is past.
use Rattle.std.proofs.Common.{◌≡◌, ap}
use Rattle.script.specs.Words.{AbstractPort, settled, IsSoundPort}

pub settled-sound : (p : AbstractPort) → IsSoundPort p → settled p ≡ p
settled-sound p sound = ap (λ h. record p { history = h }) sound.current.kept_whole
