-- A stream of a tournament, as it is kept: its moment and its place in one number, whose order is that of moments, and at one moment that of places.
use Rattle.std.specs.Prelude.{◌≡◌, ◌+◌, ◌*◌, ◌/◌, ◌%◌, ℕ, ◌==◌, Bool, true, false, Option, Some, None, if◌then◌else◌}
use Rattle.std.proofs.Common.{arith, refl, sym}
use Rattle.std.proofs.lemmas.Bool.{eqb-true}
use Rattle.traffic.specs.declared.tournament.Head.{Head}
use Rattle.traffic.specs.declared.tournament.TheConstants.{NEVER, PLACES}

-- what is kept: at NEVER the stream has no next frame
abbrev pub head_kept : ℕ → Option Head
head_kept key = if key == NEVER then None else Some (record { moment = key / PLACES; place = key % PLACES })

-- the number that is kept
abbrev pub key_kept : Option Head → ℕ
key_kept None = NEVER
key_kept (Some head) = head.moment * PLACES + head.place

-- what is kept gives the number back
key_by : (key : ℕ) (never : Bool) → (key == NEVER) ≡ never → key_kept (if never then None else Some (record { moment = key / PLACES; place = key % PLACES })) ≡ key
key_by key true is = sym (eqb-true key NEVER is)
key_by key false is = omega arith

pub key_back : (key : ℕ) → key_kept (head_kept key) ≡ key
key_back key = key_by key (key == NEVER) refl
