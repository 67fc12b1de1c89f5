-- The heads that the code has read.
use Rattle.std.specs.Prelude.{◌≡◌, Bool, true, false, List, [], ◌∷◌, Option, Some, None, Result, Ok, Err, if◌then◌else◌, codes}
use Rattle.std.specs.List.{list_any}
use Rattle.std.specs.Str.{bytes_eq}
use Rattle.port_text.specs.Cursor.{Word}
use Rattle.port_text.specs.declared.tc_reader.fault.Opt.{Opt}
use Rattle.port_text.specs.declared.tc_reader.fault.Opt.TheVariants.{Dev, Parent, Handle}
use Rattle.port_text.specs.declared.tc_reader.fault.TcFault.{TcFault}
use Rattle.port_text.specs.declared.tc_reader.fault.TcFault.TheVariants as faults
use Rattle.port_text.specs.declared.tc_reader.heads.Seen.{Seen}
use Rattle.port_text.specs.Heads.{Head, is_dev, is_parent, is_handle}

-- what was seen of these heads
abbrev pub seen_of : List Head → Seen
seen_of heads = record { dev = list_any is_dev heads; parent = list_any is_parent heads; handle = list_any is_handle heads }

-- an option that takes one word of its own
abbrev pub head_word : Opt → Seen → List Word → Result (Seen × List Word) TcFault
head_word opt seen [] = Err (faults.MissingWord opt)
head_word opt seen (w ∷ ws) = Ok (seen, ws)

-- one word of the heads, by what was seen before it alone
abbrev pub seen_at : Seen → Word → List Word → Result (Seen × List Word) TcFault
seen_at s w ws =
    if bytes_eq w (codes "dev") then (if s.dev then Err (faults.Repeated Dev) else head_word Dev (record s { dev = true }) ws)
    else if bytes_eq w (codes "root") then (if s.parent then Err (faults.Repeated Parent) else Ok (record s { parent = true }, ws))
    else if bytes_eq w (codes "parent") then (if s.parent then Err (faults.Repeated Parent) else head_word Parent (record s { parent = true }) ws)
    else if bytes_eq w (codes "handle") then (if s.handle then Err (faults.Repeated Handle) else head_word Handle (record s { handle = true }) ws)
    else Err faults.NotTaprio

-- what is seen after a word and the words that belong to it
abbrev pub HeadTakes : {X : Type 0} → Seen → Word → List Word → Result X TcFault → Seen → List Word → Type 0
HeadTakes old w ws (Ok _) new rest = seen_at old w ws ≡ Ok (new, rest)
HeadTakes old w ws (Err f) new rest = seen_at old w ws ≡ Err f

-- what comes after the heads, where `taprio` ends them or the line does
abbrev pub behind_heads : Bool → List Word → Option (List Word)
behind_heads true ws = Some ws
behind_heads false ws = None
