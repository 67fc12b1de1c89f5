-- The words that stand as the values of options.
use denote.Bor.{Bor}
use Rattle.std.specs.Prelude.{List, ℕ, Bool, Option, option_map}
use Rattle.script.specs.declared.script_job.Values.{Values}

-- what is given to the options of a port: the octets of each word, where there is one, and whether a summary is asked for
pub record GivenWords : Type 0 where
  pub rate : Option (List ℕ)
  pub mtu : Option (List ℕ)
  pub room : Option (List ℕ)
  pub until : Option (List ℕ)
  pub summary : Bool

-- the octets of a word, where there is one
abbrev pub octets_of : Option (Bor (List ℕ)) → Option (List ℕ)
octets_of word = option_map (λ text. text.now) word

-- what values hold
abbrev pub words_of_values : Values → GivenWords
words_of_values values =
    record { rate = octets_of values.rate; mtu = octets_of values.mtu; room = octets_of values.room; until = octets_of values.until; summary = values.summary }
