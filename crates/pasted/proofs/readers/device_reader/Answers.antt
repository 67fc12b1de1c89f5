use Rattle.std.proofs.Common.{◌∙◌, List, ℕ, ap}
use Rattle.std.specs.Prelude.{option_map}
use Rattle.pasted.specs.Device.{lines_of_device}
use Rattle.pasted.proofs.readers.device_reader.Goals as goal

pub returns : goal.returns
returns g c =
    let known = g.R.Read.remaining c.args.source in
    c.new-3.ensures ∙ ap (λ (f : List ℕ → List ℕ). option_map f known) c.new-2.ensures.meaning
    ∙ ap (λ (name : List ℕ). option_map (lines_of_device name) known) c.new.ensures.name
