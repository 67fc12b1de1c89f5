-- What a drawing over memory reports, and what it leaves in its two slices.
use Rattle.std.specs.Prelude.{◌≡◌, ◌⊎◌, List, ℕ, Some, Result, Ok, Err, decimal, is_some, option_map, true}
use Rattle.abstract_port.specs.declared.Command.{Command}
use Rattle.drawing.specs.PictureEnd.{BandsOf, ForSomeBands, picture_of}
use Rattle.drawing.specs.Options.{options_of}
use Rattle.drawing.specs.declared.options.DrawOptions.{DrawOptions}
use Rattle.script.specs.Setup.{Setup}
use Rattle.script.specs.declared.settings.BadValue.{BadValue}
use Rattle.script.specs.Texts.{script_telling}
use Rattle.port_text.specs.Reader.{IsReader}
use Rattle.port_text.specs.declared.tc_reader.fault.TcFault.{TcFault}
use Rattle.in_memory.specs.Slices.{Answers, Slices, refused, told_of}
use Rattle.in_memory.specs.declared.jobs.Ran.{Ran}
use Rattle.in_memory.specs.declared.pictures.PictureValues.{PictureValues}

-- the options of numbers: those of the words that spell them in decimal
abbrev pub options_at : PictureValues → Result DrawOptions BadValue
options_at v = options_of (record { from = option_map decimal v.from; to = option_map decimal v.to; width = Some (decimal v.width) })

-- The picture of a script is reported, or the script's first fault. The bands are those of the run, unless memory was out or the script has a fault.
abbrev pub Draws : Setup → DrawOptions → List ℕ → Ran → Slices → Slices → Type 0
Draws settings options script ran old new =
    (read : List (List ℕ) → Result Command TcFault) → IsReader read
    → ForSomeBands (λ bands. ((ran.status ≡ 4) ⊎ ((is_some (picture_of read settings options script bands).fault ≡ true) ⊎ BandsOf read settings options script bands))
    × Answers (told_of script_telling (picture_of read settings options script bands)) ran old new)

-- by the settings and the options: the first bad value is reported, and nothing is drawn
abbrev pub DrawsWith : Result Setup BadValue → Result DrawOptions BadValue → List ℕ → Ran → Slices → Slices → Type 0
DrawsWith (Err value) options script ran old new = Answers (refused value) ran old new
DrawsWith (Ok settings) (Err value) script ran old new = Answers (refused value) ran old new
DrawsWith (Ok settings) (Ok options) script ran old new = Draws settings options script ran old new
