use Rattle.abstract_port.proofs.Separates as Separates
use Rattle.abstract_port.proofs.separation.separation.Goals as goal

pub returns-clause-noting : goal.returns-clause-noting
returns-clause-noting c = Separates.noting

pub returns-clause-law : goal.returns-clause-law
returns-clause-law c = Separates.separation
