use Rattle.std.proofs.Common.{true, false, sym, ◌∙◌}
use Rattle.frame_table.proofs.TableLaws.{no_more, one_more}
use Rattle.frame_table.proofs.streams.stream_in.Goals as goal

pub returns-then-has_frame : goal.returns-then-has_frame
returns-then-has_frame c =
    sym (c.loop-stream.invariant ∙ one_more c.args.id c.args.streams.now c.loop-stream.stream-index _ true c.loop-stream-test.true (sym c.has_frame.ensures ∙ c.if-has_frame.true))

pub loop-stream-preserved : goal.loop-stream-preserved
loop-stream-preserved c =
    c.loop-stream.invariant ∙ one_more c.args.id c.args.streams.now c.loop-stream.stream-index _ false c.loop-stream-test.true (sym c.has_frame.ensures ∙ c.if-has_frame.false)

pub returns : goal.returns
returns c = sym (c.loop-stream.invariant ∙ no_more c.args.id c.args.streams.now c.loop-stream.stream-index c.loop-stream-test.false)
