use Rattle.std.proofs.Common.{refl}
use Rattle.port.proofs.SoundLaws.{sound_by}
use Rattle.port.proofs.Port.now.Goals as goal

pub returns-clause-sound : goal.returns-clause-sound
returns-clause-sound g c = rw (← c.self.view_is) (sound_by _ _ c.self.invariant.0 c.self.invariant.1 c.self.invariant.2 refl)
