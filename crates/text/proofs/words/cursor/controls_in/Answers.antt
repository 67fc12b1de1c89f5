use Rattle.text.proofs.LaneLaws.{controls}
use Rattle.text.proofs.words.cursor.controls_in.Goals as goal

pub returns : goal.returns
returns c = controls c.args.octets c.fits-octets.0 c.fits-octets.1
