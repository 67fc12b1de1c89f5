use Rattle.std.proofs.Common.{◌≡◌, ◌+◌, false, sym, ap, ◌∙◌}
use Rattle.gates.specs.Gate.{opens}
use Rattle.gates.specs.History.{gates}
use Rattle.gates.specs.Current.{Clocked}
use Rattle.test_support.proofs.PlainLaws.{open_stops}
use Rattle.test_support.proofs.reference.plain.PlainGates.stays_open.Goals as goal

pub returns-then-not-is_open-clause-stays : goal.returns-then-not-is_open-clause-stays
returns-then-not-is_open-clause-stays c =
    let at = ap (λ (v : Clocked). gates c.args.self.now.history (v.moment + c.loop-i.i)) c.self.view_is in
    let shown : c.mask_later.result ≡ gates c.args.self.now.history (c.args.self.now.moment + c.loop-i.i) = c.mask_later.ensures ∙ at in
    let shut : opens (gates c.args.self.now.history (c.args.self.now.moment + c.loop-i.i)) c.args.class ≡ false = ap (λ g. opens g c.args.class) (sym shown) ∙ (sym c.is_open.ensures ∙ c.if-not-is_open.true) in
    sym (open_stops (gates c.args.self.now.history) c.args.class c.args.self.now.moment c.loop-i.i c.args.for_ps c.loop-i-test.true shut)
