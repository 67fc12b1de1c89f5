-- Words that say how inputs are compared.
use Rattle.std.specs.Prelude.{ℕ, List, Option, Some, None, codes, if◌then◌else◌}
use Rattle.std.specs.Str.{bytes_eq}
use Rattle.compare.specs.declared.settings.By.{By}
use Rattle.compare.specs.declared.settings.By.TheVariants.{Order, Id, Payload}

-- which frames are compared
abbrev pub by_said : List ℕ → Option By
by_said word =
    if bytes_eq word (codes "order") then Some Order
    else if bytes_eq word (codes "id") then Some Id
    else if bytes_eq word (codes "payload") then Some Payload
    else None
