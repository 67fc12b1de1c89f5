use Rattle.std.proofs.Common.{sym, ap, ◌∙◌}
use Rattle.network.proofs.FirstLaws.{first_here, first_more, first_none}
use Rattle.paths.specs.Ports.{values_of}
use Rattle.paths.proofs.ports.values_at.Goals as goal

pub returns-in-Some : goal.returns-in-Some
returns-in-Some c = first_here (values_of c.args.port) c.args.settings.now c.loop-setting.setting-index _ c.in-Some.values _ c.loop-setting-test.true (ap (values_of c.args.port) (sym c.setting-item.is) ∙ (sym c.values_of.ensures ∙ c.in-Some.is)) c.loop-setting.invariant

pub loop-setting-preserved : goal.loop-setting-preserved
loop-setting-preserved c = first_more (values_of c.args.port) c.args.settings.now c.loop-setting.setting-index _ _ c.loop-setting-test.true (ap (values_of c.args.port) (sym c.setting-item.is) ∙ (sym c.values_of.ensures ∙ c.in_default.is)) c.loop-setting.invariant

pub returns : goal.returns
returns c = first_none (values_of c.args.port) c.args.settings.now c.loop-setting.setting-index _ c.loop-setting-test.false c.loop-setting.invariant
