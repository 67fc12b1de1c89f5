-- Frames that are sent one behind another.
use Rattle.std.specs.Prelude.{◌≡◌, ◌<◌, ◌≤◌, ◌⊎◌, ℕ, suc, ◌+◌, Bool, List}
use Rattle.wire_time.specs.Moment.{greatest_moment}
use Rattle.gates.specs.Gate.{Plan}
use Rattle.delay_bounds.specs.Walk.{may_by}
use Rattle.any_traffic.specs.Slots.{IsSlot}
use Rattle.burst_bounds.specs.Unbound.{IsStuck}
use Rattle.window_bounds.specs.Beats.{all_before}
use Rattle.window_bounds.specs.declared.Unbound.{Unbound}
use Rattle.window_bounds.specs.declared.Unbound.TheVariants.{Stuck, Long, Late}
use Rattle.window_bounds.specs.declared.beats.Beat.{Beat}
use Rattle.window_bounds.specs.declared.late_run.Run.{Run}

-- behind n frames, of which the first is sent from a moment on, the wire is free from another one on
abbrev pub IsFreeBehind : (may : ℕ → ℕ → Bool) (d from n free : ℕ) → Type 0
IsFreeBehind may d from n free = ((n ≡ 0) × (free ≡ from)) ⊎ ((k r : ℕ) × (n ≡ suc k) × IsSlot may d from k r × (free ≡ r + d))

-- why a frame can't be sent from a moment on
abbrev pub IsNoStart : Plan → (class d from : ℕ) → Unbound → Type 0
IsNoStart plan class d from Stuck = IsStuck plan class d
IsNoStart plan class d from Late = greatest_moment < from
IsNoStart plan class d from why = ⊥

-- why n frames can't be sent from a moment on: one of them can't
abbrev pub IsUnsent : Plan → (class d from n : ℕ) → Unbound → Type 0
IsUnsent plan class d from n Stuck = IsStuck plan class d
IsUnsent plan class d from n Late = (j free : ℕ) × (j < n) × IsFreeBehind (may_by plan class) d from j free × (greatest_moment < free)
IsUnsent plan class d from n why = ⊥

-- or more than so many may have come by the start of one of them
abbrev pub IsUndone : Plan → (class d from n limit : ℕ) → List Beat → Unbound → Type 0
IsUndone plan class d from n limit beats Long =
    (j s : ℕ) × (j < n) × IsSlot (may_by plan class) d from j s × (limit < all_before beats (s + 1))
IsUndone plan class d from n limit beats why = IsUnsent plan class d from n why

-- Of n frames, sent from a moment on, each starts with no more than `most` waiting, and one with so many, or so it was before. No more than
-- a limit have come by then.
pub record HasSent (may : ℕ → ℕ → Bool) (d from n limit : ℕ) (beats : List Beat) (old new : Run) : Type 0 where
  pub within : (j : ℕ) → j < n → (s : ℕ) × IsSlot may d from j s × (all_before beats (s + 1) ≤ old.sent + j + new.most)
      × (all_before beats (s + 1) ≤ limit)
  pub grown : old.most ≤ new.most
  pub reached : (new.most ≡ old.most)
      ⊎ ((j s : ℕ) × (j < n) × IsSlot may d from j s × (all_before beats (s + 1) ≡ old.sent + j + new.most))
