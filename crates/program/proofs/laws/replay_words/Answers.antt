use Rattle.std.proofs.Common.{refl}
use Rattle.clap.proofs.OnLiterals.{clap_on_literals}
use Rattle.program.proofs.laws.replay_words.Goals as goal

pub returns-clause-taken : goal.returns-clause-taken
unfolding clap_on_literals
returns-clause-taken c = refl

pub returns-clause-refused : goal.returns-clause-refused
unfolding clap_on_literals
returns-clause-refused c = refl

pub returns-clause-named : goal.returns-clause-named
unfolding clap_on_literals
returns-clause-named c = refl

pub returns-clause-given : goal.returns-clause-given
unfolding clap_on_literals
returns-clause-given c = refl
