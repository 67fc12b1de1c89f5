use Rattle.picture.proofs.CommandLaws.{same_drawing}
use Rattle.picture.proofs.bands.Bands.delete.Goals as goal

pub delete-requires : goal.delete-requires
delete-requires g c = record { sound = c.self.invariant; ahead = rw (← c.self.view_is) at c.requires.ahead; within = c.requires.within }

pub returns-clause-drawing : goal.returns-clause-drawing
returns-clause-drawing g c = rw (← c.self.view_is) (same_drawing _ _ _ _ c.self.inside.from c.self.inside.to c.self.inside.classes c.self.inside.mixed c.self.inside.left c.delete.ensures.history c.delete.ensures.moment)

pub returns-clause-hindsight : goal.returns-clause-hindsight
returns-clause-hindsight g c = rw (← c.self.view_is) c.delete.ensures.hindsight
