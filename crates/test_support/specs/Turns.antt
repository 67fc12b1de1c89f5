-- What a reader or a writer does at a call, of the four runs that each call has.
use Rattle.std.specs.Prelude.{ℕ, ◌==◌, if◌then◌else◌}
use Rattle.test_support.specs.declared.test_streams.turns.Turn.{Turn}
use Rattle.test_support.specs.declared.test_streams.turns.Turn.TheVariants.{Fails, FailsOnce, OneOctet, Nothing}

-- of the run with this number among the four
abbrev pub turn_of : ℕ → Turn
turn_of n =
    if n == 0 then Fails
    else if n == 1 then FailsOnce
    else if n == 2 then OneOctet
    else Nothing
