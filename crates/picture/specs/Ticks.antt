-- The steps of a time axis, and their units.
use Rattle.std.specs.Prelude.{◌≡◌, ◌<◌, ◌≤◌, ℕ, zero, suc, ◌*◌, ◌%◌, ◌==◌, if◌then◌else◌, List, codes}
use Rattle.picture.specs.declared.ticks.Unit.{Unit}
use Rattle.picture.specs.declared.ticks.Unit.TheVariants.{Ps, Ns, Us, Ms, S}

-- 1, 2, 5, and ten times those, and so on
unfoldable pub tick : ℕ → ℕ
tick zero = 1
tick (suc zero) = 2
tick (suc (suc zero)) = 5
tick (suc (suc (suc n))) = 10 * tick n

-- the first of them of which so many are at least as long
pub record IsTickStep (length most step : ℕ) : Type 0 where
  pub place : ℕ
  pub is : step ≡ tick place
  pub enough : length ≤ step * most
  pub least : (i : ℕ) → i < place → tick i * most < length

-- how long a unit is, in picoseconds
abbrev pub ps_of : Unit → ℕ
ps_of Ps = 1
ps_of Ns = 1000
ps_of Us = 1000000
ps_of Ms = 1000000000
ps_of S = 1000000000000

-- how it is written
abbrev pub name_of : Unit → List ℕ
name_of Ps = codes "ps"
name_of Ns = codes "ns"
name_of Us = codes "us"
name_of Ms = codes "ms"
name_of S = codes "s"

-- the greatest unit that divides a time
abbrev pub unit_of : ℕ → Unit
unit_of time =
    if time % ps_of S == 0 then S
    else if time % ps_of Ms == 0 then Ms
    else if time % ps_of Us == 0 then Us
    else if time % ps_of Ns == 0 then Ns
    else Ps
