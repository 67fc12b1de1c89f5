use Rattle.std.proofs.Common.{refl}
use Rattle.text.specs.Words.{words_of}
use Rattle.drawing.specs.Words.{tc_request}
use Rattle.drawing.proofs.WalkLaws.{draws_one}
use Rattle.drawing.proofs.drawn.DrawnEventTaker.take_tc.Goals as goal

pub returns : goal.returns
returns g c = λ read is.
    let t = c.take_tc.ensures in
    draws_one (tc_request (read (words_of c.args.line.now))) _ _ (record {
      port = t.port read is;
      course = t.course read is;
      bands = t.bands read is c.args.self.now.options;
      sound = t.sound;
    }) refl refl
