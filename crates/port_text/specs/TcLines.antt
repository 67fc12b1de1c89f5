-- A whole line, read from the left: its first words, its heads, its options, and what is looked at in the end.
use Rattle.std.specs.Prelude.{◌≡◌, ℕ, Bool, ◌-◌, List, [], ◌∷◌, length, Option, Some, None, Result, Ok, Err, ◌||◌, ◌&&◌, if◌then◌else◌, MatchOption, codes}
use Rattle.std.specs.List.{list_any}
use Rattle.std.specs.Str.{bytes_eq}
use Rattle.abstract_port.specs.declared.Command.{Command}
use Rattle.abstract_port.specs.declared.Command.TheVariants as commands
use Rattle.port_text.specs.Cursor.{Word}
use Rattle.port_text.specs.declared.tc_reader.line.Verb.{Verb}
use Rattle.port_text.specs.declared.tc_reader.line.Verb.TheVariants.{Replace, Delete}
use Rattle.port_text.specs.declared.tc_reader.fault.TcFault.{TcFault}
use Rattle.port_text.specs.declared.tc_reader.fault.TcFault.TheVariants as faults
use Rattle.port_text.specs.Options.{◌>>=◌, Item, Options, no_options}
use Rattle.port_text.specs.Reads.{Reads, given_by}
use Rattle.port_text.specs.Heads.{Head, is_dev, is_parent, ReadsHeads}
use Rattle.port_text.specs.Ends.{change_given, heads_missing}

-- what a verb does
abbrev pub verb_of : Word → Option Verb
verb_of w =
    if bytes_eq w (codes "add") || bytes_eq w (codes "replace") || bytes_eq w (codes "change") then Some Replace
    else if bytes_eq w (codes "del") then Some Delete
    else None

-- a verb, if there is one, with the words after it
abbrev pub verb_with_rest : Option Verb → List Word → Option (Verb × List Word)
verb_with_rest None ws = None
verb_with_rest (Some v) ws = Some (v, ws)

-- the verb, and the words after it
abbrev pub verb_at : List Word → Option (Verb × List Word)
verb_at (a ∷ b ∷ verb ∷ ws) = if bytes_eq a (codes "tc") && bytes_eq b (codes "qdisc") then verb_with_rest (verb_of verb) ws else None
verb_at _ = None

-- the command of options, of a line that has a device and a parent or not
abbrev pub replacement_of : Bool → Bool → Options → Result Command TcFault
replacement_of has_dev has_parent g = heads_missing has_dev has_parent >>= λ _. change_given g >>= λ change. Ok (commands.Replace change)

-- the deletion that a line asks for, if a device and a parent are named
abbrev pub deletion_of : Bool → Bool → Result Command TcFault
deletion_of has_dev has_parent = heads_missing has_dev has_parent >>= λ _. Ok commands.Delete

-- what the words after `taprio` make of a line of so many words
abbrev pub ReadsOptions : ℕ → Bool → Bool → List Word → Result Command TcFault → Type 0
ReadsOptions count has_dev has_parent ws result =
    (items : List Item) × (last : Option TcFault) × Reads no_options count ws items last
    × MatchOption last (result ≡ replacement_of has_dev has_parent (given_by items)) (λ fault. result ≡ Err fault)

-- a deletion has no options
abbrev pub deletion_before : ℕ → Bool → Bool → Option (List Word) → Result Command TcFault
deletion_before count has_dev has_parent None = deletion_of has_dev has_parent
deletion_before count has_dev has_parent (Some []) = deletion_of has_dev has_parent
deletion_before count has_dev has_parent (Some (w ∷ ws)) = Err (faults.UnknownOption (count - length (w ∷ ws)))

-- what the line is, of which the heads are read
abbrev pub ReadsRest : ℕ → Verb → List Head → Result (Option (List Word)) TcFault → Result Command TcFault → Type 0
ReadsRest count verb heads (Err fault) result = result ≡ Err fault
ReadsRest count Replace heads (Ok None) result = result ≡ Err faults.NotTaprio
ReadsRest count Replace heads (Ok (Some ws)) result = ReadsOptions count (list_any is_dev heads) (list_any is_parent heads) ws result
ReadsRest count Delete heads (Ok rest) result = result ≡ deletion_before count (list_any is_dev heads) (list_any is_parent heads) rest

-- what a line is, read from the left: a command, or the first fault
abbrev pub ReadsLine : List Word → Result Command TcFault → Type 0
ReadsLine line result =
    MatchOption (verb_at line) (result ≡ Err faults.NotTaprio)
    (λ x. (heads : List Head) × (end : Result (Option (List Word)) TcFault) × ReadsHeads [] x.1 heads end × ReadsRest (length line) x.0 heads end result)

-- the fault of a line without a command: the first one, from the left
abbrev pub HasFault : List Word → TcFault → Type 0
HasFault line fault = ReadsLine line (Err fault)
