-- Which stream of a table a frame is of, by its ID. A stream is named by its first ID.
use Rattle.std.specs.Prelude.{ℕ, ◌+◌, nat_le, nat_lt, ◌&&◌, Bool, List, [], ◌∷◌, Option, Some, None, Result, Ok, Err, if◌then◌else◌}
use Rattle.text.specs.Script.{Script}
use Rattle.script.specs.declared.faults.ScriptFault.{ScriptFault}
use Rattle.script.specs.declared.faults.ScriptFault.TheVariants.{BadNumber}
use Rattle.traffic.specs.Table.{Table, has_ids, table_by}
use Rattle.traffic.specs.declared.table.Stream.{Stream}

-- a stream whose frames have IDs; when they come is no matter
abbrev pub with_ids : Stream → Result Stream ScriptFault
with_ids s = if has_ids s then Ok s else Err BadNumber

-- the table that lines are
abbrev pub ids_table : Script → Table
ids_table script = table_by with_ids script

-- whether a stream has a frame of this ID
abbrev pub has_frame : ℕ → Stream → Bool
has_frame id s = nat_le s.first_id id && nat_lt id (s.first_id + s.count)

-- the stream that a frame of this ID is of: the first that has it
abbrev pub stream_in : ℕ → List Stream → Option Stream
stream_in id [] = None
stream_in id (s ∷ rest) = if has_frame id s then Some s else stream_in id rest

-- where there is a table of streams
abbrev pub stream_by : Option (List Stream) → ℕ → Option Stream
stream_by None id = None
stream_by (Some streams) id = stream_in id streams
