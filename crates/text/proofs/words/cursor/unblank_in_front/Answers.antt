use Rattle.std.proofs.Common.{rules, arith}
use Rattle.std.specs.Prelude.{nat_lt}
use Rattle.text.proofs.LaneLaws.{are_wanted, within}
use Rattle.text.proofs.words.cursor.unblank_in_front.Goals as goal

pub returns-else-controls-eq0-clause-within : goal.returns-else-controls-eq0-clause-within
returns-else-controls-eq0-clause-within c = within (λ octet. nat_lt 32 octet) c.args.octets.now _ (search rules) c.controls_in-controls.ensures (omega (arith, c.if-controls-eq0.false))

pub returns-else-controls-eq0-clause-above : goal.returns-else-controls-eq0-clause-above
returns-else-controls-eq0-clause-above c = are_wanted (λ octet. nat_lt 32 octet) c.args.octets.now _ (search rules) c.controls_in-controls.ensures (omega (arith, c.if-controls-eq0.false))
