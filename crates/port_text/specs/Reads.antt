-- What a whole list of words after `taprio` is, from the left.
use Rattle.std.specs.Prelude.{◌≡◌, ℕ, ◌-◌, List, [], ◌∷◌, ◌++◌, length, fold, Option, Some, None, Ok, Err}
use Rattle.port_text.specs.declared.tc_reader.fault.TcFault.{TcFault}
use Rattle.port_text.specs.Capped.{capped}
use Rattle.port_text.specs.Cursor.{Word}
use Rattle.port_text.specs.Options.{Item, Options, no_options, with_item, item_at}

-- an option stands in front, of a line of so many words, and leaves the rest
abbrev pub OptionInFront : Options → ℕ → List Word → Item → List Word → Type 0
OptionInFront g count [] i rest = ⊥
OptionInFront g count (w ∷ ws) i rest = item_at g (count - length (w ∷ ws)) w ws ≡ Ok (i, rest)

-- the line ends, or goes on with a fault
abbrev pub Ends : Options → ℕ → List Word → Option TcFault → Type 0
Ends g count [] end = end ≡ None
Ends g count (w ∷ ws) end = (f : TcFault) × (end ≡ Some f) × (item_at g (count - length (w ∷ ws)) w ws ≡ Err f)

-- these options stand there, and then the line ends or goes on with the first fault
abbrev pub Reads : Options → ℕ → List Word → List Item → Option TcFault → Type 0
Reads g count ws [] end = Ends g count ws end
Reads g count ws (i ∷ is) end = (rest : List Word) × OptionInFront g count ws i rest × Reads (with_item g i) count rest is end

-- what options give together
abbrev pub given_by : List Item → Options
given_by items = fold with_item no_options items

-- options of a line of so many words were read from the first list of words to the second, and only so much of them is kept
pub record SoFar (count : ℕ) (start now : List Word) (have : Options) : Type 0 where
  pub items : List Item
  pub have_is : have ≡ capped (given_by items)
  pub rest_reads : (more : List Item) (end : Option TcFault) → Reads (given_by items) count now more end → Reads no_options count start (items ++ more) end
