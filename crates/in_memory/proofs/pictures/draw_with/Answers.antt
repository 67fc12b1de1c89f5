use Rattle.std.proofs.Common.{[], Some, rules}
use Rattle.drawing.specs.PictureEnd.{BandsOf, ForSomeBands, IsDrawn, WhereDrawn, picture_of}
use Rattle.drawing.proofs.EndLaws.{map_bands, runs_of}
use Rattle.in_memory.proofs.PictureLaws.{theirs}
use Rattle.in_memory.proofs.pictures.draw_with.Goals as goal

pub returns : goal.returns
returns c = λ read is.
    let written = c.as_slice.result.now in
    let s = c.args.settings in
    let o = c.args.options in
    let script = c.args.script.now in
    let drawn : ForSomeBands (λ bands. WhereDrawn c.draw-run.result (BandsOf read s o script bands) × IsDrawn c.draw-run.result (Some []) (Some written) (picture_of read s o script bands)) = search rules in
    map_bands (λ bands d. (
      theirs c.draw-run.result written (picture_of read s o script bands) (BandsOf read s o script bands) _ _ _ d.0 d.1 c.end_in_memory.ensures.told,
      c.end_in_memory.ensures.told (picture_of read s o script bands) (runs_of c.draw-run.result (Some []) (Some written) (picture_of read s o script bands) d.1),
    )) drawn
