-- What may stand at the end of a stream's line: tagged, and then the parts that have a value.
use Rattle.std.specs.Prelude.{◌^◌, ◌-◌, List, ℕ, Bool, true, false, ◌&&◌, ◌||◌, [], ◌∷◌, Option, Some, None, is_none, Result, Ok, Err, codes, if◌then◌else◌}
use Rattle.std.specs.Str.{bytes_eq}
use Rattle.wire_time.specs.Moment.{greatest_moment}
use Rattle.text.specs.Numbers.{number_in}
use Rattle.text.specs.Times.{time_in}
use Rattle.script.specs.declared.faults.ScriptFault.{ScriptFault}
use Rattle.script.specs.declared.faults.ScriptFault.TheVariants.{BadNumber, WordCount}
use Rattle.traffic.specs.declared.parts.Ends.{Ends}

-- the names of the parts
abbrev pub is_part : List ℕ → Bool
is_part w = bytes_eq w (codes "shortest") || bytes_eq w (codes "jitter") || bytes_eq w (codes "deadline")

-- the value of the part of a name: the word behind it
unfoldable pub value_of : List ℕ → List (List ℕ) → Option (List ℕ)
value_of name [] = None
value_of name (w ∷ []) = None
value_of name (w ∷ value ∷ ws) = if bytes_eq w name then Some value else value_of name ws

-- whether words are parts, in any order: each has a name and a value, and none is said again
unfoldable pub are_parts : List (List ℕ) → Bool
are_parts [] = true
are_parts (w ∷ []) = false
are_parts (w ∷ value ∷ ws) = is_part w && is_none (value_of w ws) && are_parts ws

-- what the value of a part says, where there is one
abbrev pub said_as : Option ℕ → Result (Option ℕ) ScriptFault
said_as (Some n) = Ok (Some n)
said_as None = Err BadNumber

abbrev pub said_by : (List ℕ → Option ℕ) → Option (List ℕ) → Result (Option ℕ) ScriptFault
said_by read None = Ok None
said_by read (Some value) = said_as (read value)

-- octets, and a time
abbrev pub length_of : List ℕ → List (List ℕ) → Result (Option ℕ) ScriptFault
length_of name ws = said_by (number_in 10 (2 ^ 32 - 1)) (value_of name ws)

abbrev pub time_of : List ℕ → List (List ℕ) → Result (Option ℕ) ScriptFault
time_of name ws = said_by (time_in greatest_moment) (value_of name ws)

-- by what a part says
abbrev pub by_part : Result (Option ℕ) ScriptFault → (Option ℕ → Result Ends ScriptFault) → Result Ends ScriptFault
by_part (Ok said) f = f said
by_part (Err fault) f = Err fault

-- what parts say
abbrev pub values_in : Bool → List (List ℕ) → Result Ends ScriptFault
values_in tagged ws =
    by_part (length_of (codes "shortest") ws) (λ shortest.
    by_part (time_of (codes "jitter") ws) (λ jitter.
    by_part (time_of (codes "deadline") ws) (λ deadline.
    Ok (record { tagged = tagged; shortest = shortest; jitter = jitter; deadline = deadline }))))

-- whether the first word is tagged, and the words behind it
abbrev pub tagged_in : List (List ℕ) → Bool × List (List ℕ)
tagged_in [] = (false, [])
tagged_in (w ∷ ws) = if bytes_eq w (codes "tagged") then (true, ws) else (false, w ∷ ws)

-- what the last words say: tagged or nothing, and then parts
abbrev pub ends_in : List (List ℕ) → Result Ends ScriptFault
ends_in ws = if are_parts (tagged_in ws).1 then values_in (tagged_in ws).0 (tagged_in ws).1 else Err WordCount
