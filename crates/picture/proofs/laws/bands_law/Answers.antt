use Rattle.picture.proofs.LongestLaws.{no_bands_yet, bands_on}
use Rattle.picture.proofs.laws.bands_law.Goals as goal

pub returns-clause-begin : goal.returns-clause-begin
returns-clause-begin c = no_bands_yet

pub returns-clause-onward : goal.returns-clause-onward
returns-clause-onward c = bands_on
