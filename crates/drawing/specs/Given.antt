-- The words that stand as the values of a picture's options.
use Rattle.std.specs.Prelude.{List, ℕ, Option}
use Rattle.script.specs.Given.{octets_of}
use Rattle.drawing.specs.declared.options.DrawValues.{DrawValues}

-- what is given to the options of a picture: the octets of each word, where there is one
pub record DrawWords : Type 0 where
  pub from : Option (List ℕ)
  pub to : Option (List ℕ)
  pub width : Option (List ℕ)

-- what values hold
abbrev pub words_of_draws : DrawValues → DrawWords
words_of_draws values = record { from = octets_of values.from; to = octets_of values.to; width = octets_of values.width }
