-- The device that a line of tc names (tc(8)), and the lines of one device.
use Rattle.std.specs.Prelude.{◌==◌, ◌&&◌, ◌||◌, not, ℕ, List, [], ◌∷◌, Bool, true, false, Option, Some, None, codes, if◌then◌else◌}
use Rattle.std.specs.List.{filter}
use Rattle.std.specs.Str.{bytes_eq}
use Rattle.text.specs.Numbers.{behind_first}
use Rattle.text.specs.Words.{words_of}
use Rattle.pasted.specs.Lines.{Rule, each_line}
use Rattle.pasted.specs.declared.place.Place.TheVariants.{First}

-- whether another word belongs to a word: that of a parent, or of a handle
abbrev pub takes_word : List ℕ → Bool
takes_word w = bytes_eq w (codes "parent") || bytes_eq w (codes "handle")

abbrev pub past_own : Bool → List (List ℕ) → List (List ℕ)
past_own takes ws = if takes then behind_first ws else ws

-- the device is the word behind dev
unfoldable pub device_from : List (List ℕ) → Option (List ℕ)
device_from [] = None
device_from (w ∷ []) = None
device_from (w ∷ v ∷ ws) = if bytes_eq w (codes "dev") then Some v else if takes_word w then device_from ws else device_from (v ∷ ws)

-- behind tc, qdisc and a verb
abbrev pub device_in : List (List ℕ) → Option (List ℕ)
device_in [] = None
device_in (a ∷ []) = None
device_in (a ∷ b ∷ []) = None
device_in (a ∷ b ∷ verb ∷ ws) = device_from ws

-- whether the words of a line begin with tc and qdisc
abbrev pub begins_tc : List (List ℕ) → Bool
begins_tc [] = false
begins_tc (a ∷ []) = false
begins_tc (a ∷ b ∷ ws) = bytes_eq a (codes "tc") && bytes_eq b (codes "qdisc")

-- whether a line names another device than this one
abbrev pub names_other : List ℕ → Option (List ℕ) → Bool
names_other name None = false
names_other name (Some device) = not (bytes_eq device name)

-- whether a line, with those that it joins, is one of another device
abbrev pub is_of_other : List ℕ → List ℕ → Bool
is_of_other name line = begins_tc (words_of line) && names_other name (device_in (words_of line))

-- its line feeds alone: each physical line is empty
abbrev pub line_feeds : List ℕ → List ℕ
line_feeds line = filter (λ b. b == 10) line

-- what a line comes out as
abbrev pub device_line : List ℕ → List ℕ → List ℕ
device_line name line = if is_of_other name line then line_feeds line else line

-- each line, with those that it joins, by itself
abbrev pub device_rule : List ℕ → Rule
device_rule name = record { is_whole = true; turned = λ place line. device_line name line; next = λ place line. place }

-- the lines of an input, of which those of other devices are empty
abbrev pub lines_of_device : List ℕ → List ℕ → List ℕ
lines_of_device name octets = each_line (device_rule name) First [] octets
