-- Functions that read lines of words.
use Rattle.std.specs.Prelude.{List, Result, MatchResult}
use Rattle.abstract_port.specs.declared.Command.{Command}
use Rattle.port_text.specs.Cursor.{Word}
use Rattle.port_text.specs.declared.tc_reader.fault.TcFault.{TcFault}
use Rattle.port_text.specs.Grammar.{IsCommand}
use Rattle.port_text.specs.TcLines.{HasFault}

-- To each line the command that the grammar has, or the first fault. There is one such function, since a line has just one of
-- them (`one_reader`).
abbrev pub IsReader : (List Word → Result Command TcFault) → Type 0
IsReader read = (line : List Word) → MatchResult (read line) (IsCommand line) (HasFault line)
