-- The lines of frames that are queued.
use Rattle.std.specs.Prelude.{ℕ, zero, suc, List, ◌++◌, codes, decimal}

-- what the lines of ten frames begin with, by their number without its last digit
abbrev pub queued_front : ℕ → List ℕ
queued_front zero = codes "queued "
queued_front (suc n) = codes "queued " ++ decimal (suc n)
