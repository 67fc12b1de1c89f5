use Rattle.text.proofs.LaneLaws.{others}
use Rattle.text.proofs.words.numbers.others_in.Goals as goal

pub returns : goal.returns
returns c = others c.args.octets c.fits-octets.0 c.fits-octets.1
