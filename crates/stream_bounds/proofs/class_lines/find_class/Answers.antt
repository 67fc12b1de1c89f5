use Rattle.stream_bounds.proofs.LineLaws.{class_found_end, class_found_more}
use Rattle.stream_bounds.proofs.class_lines.find_class.Goals as goal

pub loop-class-preserved : goal.loop-class-preserved
loop-class-preserved c =
    class_found_more c.args.answers.now c.loop-class.class c.verdict.result c.loop-class.first c.class_finding.result c.first_of-first.result _ c.loop-class-test.true c.verdict.ensures c.class_finding.ensures c.first_of-first.ensures c.loop-class.invariant

pub returns : goal.returns
returns c = class_found_end c.args.answers.now c.loop-class.class c.loop-class.first _ c.loop-class-test.false c.loop-class.invariant
