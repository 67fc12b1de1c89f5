-- What stands between the verb and `taprio` (tc(8)): a device, a parent, and a handle.
use Rattle.std.specs.Prelude.{◌≡◌, Bool, true, false, List, [], ◌∷◌, ◌++◌, Option, Some, None, Result, Ok, Err, if◌then◌else◌, MatchBool, codes}
use Rattle.std.specs.List.{list_any}
use Rattle.std.specs.Str.{bytes_eq}
use Rattle.port_text.specs.Cursor.{Word}
use Rattle.port_text.specs.declared.tc_reader.fault.Opt.{Opt}
use Rattle.port_text.specs.declared.tc_reader.fault.Opt.TheVariants.{Dev, Parent, Handle}
use Rattle.port_text.specs.declared.tc_reader.fault.TcFault.{TcFault}
use Rattle.port_text.specs.declared.tc_reader.fault.TcFault.TheVariants as faults

-- what may stand between the verb and `taprio`: a device, `root`, a parent, a handle
pub data Head : Type 0 where
  dev : Word → Head
  root : Head
  parent : Word → Head
  handle : Word → Head

-- a device is named
abbrev pub is_dev : Head → Bool
is_dev (dev w) = true
is_dev root = false
is_dev (parent w) = false
is_dev (handle w) = false

-- root and parent are one kind
abbrev pub is_parent : Head → Bool
is_parent (dev w) = false
is_parent root = true
is_parent (parent w) = true
is_parent (handle w) = false

-- a handle is given
abbrev pub is_handle : Head → Bool
is_handle (dev w) = false
is_handle root = false
is_handle (parent w) = false
is_handle (handle w) = true

-- a word that must follow
abbrev pub named : (Word → Head) → Opt → List Word → Result (Head × List Word) TcFault
named make opt [] = Err (faults.MissingWord opt)
named make opt (w ∷ ws) = Ok (make w, ws)

-- a head, where these came before
abbrev pub head_at : List Head → Word → List Word → Result (Head × List Word) TcFault
head_at before w ws =
    if bytes_eq w (codes "dev") then (if list_any is_dev before then Err (faults.Repeated Dev) else named dev Dev ws)
    else if bytes_eq w (codes "root") then (if list_any is_parent before then Err (faults.Repeated Parent) else Ok (root, ws))
    else if bytes_eq w (codes "parent") then (if list_any is_parent before then Err (faults.Repeated Parent) else named parent Parent ws)
    else if bytes_eq w (codes "handle") then (if list_any is_handle before then Err (faults.Repeated Handle) else named handle Handle ws)
    else Err faults.NotTaprio

-- These heads stand there, and then the line ends, or goes on with `taprio` and the words after it, or has its first fault.
abbrev pub ReadsHeads : List Head → List Word → List Head → Result (Option (List Word)) TcFault → Type 0
ReadsHeads before [] [] end = end ≡ Ok None
ReadsHeads before (w ∷ ws) [] end = MatchBool (bytes_eq w (codes "taprio")) (end ≡ Ok (Some ws)) ((f : TcFault) × (head_at before w ws ≡ Err f) × (end ≡ Err f))
ReadsHeads before [] (h ∷ hs) end = ⊥
ReadsHeads before (w ∷ ws) (h ∷ hs) end = (bytes_eq w (codes "taprio") ≡ false) × (rest : List Word) × (head_at before w ws ≡ Ok (h, rest)) × ReadsHeads (before ++ h ∷ []) rest hs end

-- the words of most lines up to `taprio`, and those after it: they name a device and `root`
abbrev pub usual_heads : Word → List Word → List Word
usual_heads name rest = codes "tc" ∷ codes "qdisc" ∷ codes "replace" ∷ codes "dev" ∷ name ∷ codes "root" ∷ codes "taprio" ∷ rest
