use Rattle.picture.proofs.PieceLaws.{grey_short, piece_pixel}
use Rattle.picture.proofs.laws.grey_law.Goals as goal

pub returns-clause-short : goal.returns-clause-short
returns-clause-short c = grey_short

pub returns-clause-pixel : goal.returns-clause-pixel
returns-clause-pixel c = piece_pixel
