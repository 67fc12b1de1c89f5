-- Worked cases, computed.
use Rattle.std.proofs.Common.{◌≡◌, ℕ, List, [], ◌∷◌, Some, None, refl, map}
use Rattle.gates.specs.declared.gate_list.Entry.{Entry}
use Rattle.gates.specs.Gate.{Plan, in_ps, change_of}
use Rattle.gates.specs.History.{Accepted, in_force, pending, announced, gates, kept}
use Rattle.gates.specs.Stretch.{stretches}
use Rattle.gates.specs.Stay.{slots, stay}

abbrev at : ℕ → ℕ → Entry
at mask interval = record { mask = mask; interval = interval }

abbrev three_entries : Plan
three_entries = record { entries = at 1 300000 ∷ at 2 300000 ∷ at 4 400000 ∷ []; base = 0; cycle = 1000000; extension = 0 }

abbrev given : Plan → ℕ → Accepted
given plan e = record { lead = e; change = change_of plan e; plan = Some plan }

abbrev deletion : ℕ → Accepted
deletion e = record { lead = e; change = e; plan = None }

abbrev changes : List Accepted → ℕ → List ℕ
changes h m = map (λ a. a.change) (kept h m)

first_schedule : change_of three_entries 12336000 ≡ 1000000000
first_schedule = refl

first_schedule_masks : map (gates (given three_entries 12336000 ∷ [])) (0 ∷ 999999999 ∷ 1000000000 ∷ []) ≡ 255 ∷ 255 ∷ 1 ∷ []
first_schedule_masks = refl

first_schedule_announced : announced (given three_entries 12336000 ∷ []) 0 ≡ Some (given three_entries 12336000)
first_schedule_announced = refl

first_schedule_pending : pending (given three_entries 12336000 ∷ []) 999999999 ≡ Some (given three_entries 12336000)
first_schedule_pending = refl

abbrev one_entry : ℕ → Plan
one_entry base = record { entries = at 1 1000000 ∷ []; base = base; cycle = 1000000; extension = 0 }

base_at_lead : change_of (one_entry 12336) 12336000 ≡ 12336000
base_at_lead = refl

base_at_lead_late : change_of (one_entry 12335) 12336000 ≡ 1012335000
base_at_lead_late = refl

abbrev two_entries : ℕ → Plan
two_entries extension = record { entries = at 1 600000 ∷ at 2 400000 ∷ []; base = 1000000; cycle = 1000000; extension = extension }

abbrev other : Plan
other = record { entries = at 4 1000000 ∷ []; base = 5150000; cycle = 1000000; extension = 0 }

abbrev changed : ℕ → ℕ → List Accepted
changed extension e = given (two_entries extension) 12336000 ∷ given other e ∷ []

held : map (gates (changed 200000 2012336000)) (4999999999 ∷ 5000000000 ∷ 5149999999 ∷ 5150000000 ∷ []) ≡ 2 ∷ 2 ∷ 2 ∷ 4 ∷ []
held = refl

held_short : map (gates (changed 100000 2012336000)) (4999999999 ∷ 5000000000 ∷ 5149999999 ∷ 5150000000 ∷ []) ≡ 2 ∷ 1 ∷ 1 ∷ 4 ∷ []
held_short = refl

not_held : map (gates (changed 200000 5062336000)) (5050000000 ∷ 5062336000 ∷ 5149999999 ∷ 5150000000 ∷ []) ≡ 1 ∷ 1 ∷ 1 ∷ 4 ∷ []
not_held = refl

held_stretches : stretches (changed 200000 2012336000) 2000000000 ≡ record { plan = Some (two_entries 200000); start = 1000000000; held_from = Some 5000000000; until = Some 5150000000 } ∷ record { plan = Some other; start = 5150000000; held_from = None; until = None } ∷ []
held_stretches = refl

abbrev shorter : Plan
shorter = record { entries = at 1 300000 ∷ []; base = 0; cycle = 300000; extension = 0 }

abbrev replaced : List Accepted
replaced = given three_entries 12336000 ∷ given shorter 24672000 ∷ []

replaced_early : map (gates replaced) (299999999 ∷ 300000000 ∷ 1300000000 ∷ []) ≡ 255 ∷ 1 ∷ 1 ∷ []
replaced_early = refl

replaced_early_in_force : in_force replaced 1300000000 ≡ Some (given shorter 24672000)
replaced_early_in_force = refl

replaced_early_kept : map (changes replaced) (12336000 ∷ 24672000 ∷ []) ≡ (1000000000 ∷ 300000000 ∷ []) ∷ (300000000 ∷ []) ∷ []
replaced_early_kept = refl

deleted : map (gates (given three_entries 12336000 ∷ deletion 1012336000 ∷ [])) (1012335999 ∷ 1012336000 ∷ []) ≡ 1 ∷ 255 ∷ []
deleted = refl

-- class 3 stays open over an entry boundary, from the first and from the second entry
slots_of_plan : map (λ i. stay (slots (at 8 1000 ∷ at 24 11304 ∷ at 0 100000 ∷ []) (in_ps 112304)) i 3) (0 ∷ 1 ∷ 2 ∷ []) ≡ Some 12304000 ∷ Some 11304000 ∷ Some 0 ∷ []
slots_of_plan = refl

-- a cycle that is shorter than the list, and one that is longer: the cut entry goes on into the next cycle's first
cut : stay (slots (at 1 300000 ∷ at 2 300000 ∷ at 1 400000 ∷ []) (in_ps 700000)) 2 0 ≡ Some 400000000
cut = refl

stretched : stay (slots (at 1 300000 ∷ at 2 300000 ∷ at 1 400000 ∷ []) (in_ps 1500000)) 2 0 ≡ Some 1200000000
stretched = refl

for_ever : stay (slots (at 1 300000 ∷ at 3 300000 ∷ []) (in_ps 600000)) 1 0 ≡ None
for_ever = refl

-- A hold that ends at a follower's lead moment: the list goes on in the middle of its cycle, and is held once more.
abbrev cut_hold : List Accepted
cut_hold =
    record { lead = 12336000; change = 1000000000; plan = Some (two_entries 400000) }
    ∷ record { lead = 2012336000; change = 5300000000; plan = Some other }
    ∷ record { lead = 5100000000; change = 6200000000; plan = Some other }
    ∷ []

cut_hold_masks : map (gates cut_hold) (5000000000 ∷ 5099999999 ∷ 5100000000 ∷ 5600000000 ∷ 6000000000 ∷ 6199999999 ∷ 6200000000 ∷ []) ≡ 2 ∷ 2 ∷ 1 ∷ 2 ∷ 2 ∷ 2 ∷ 4 ∷ []
cut_hold_masks = refl

cut_hold_stretches : stretches cut_hold 5090000000 ≡ record { plan = Some (two_entries 400000); start = 1000000000; held_from = Some 5000000000; until = Some 5100000000 } ∷ record { plan = Some (two_entries 400000); start = 1000000000; held_from = Some 6000000000; until = Some 6200000000 } ∷ record { plan = Some other; start = 6200000000; held_from = None; until = None } ∷ []
cut_hold_stretches = refl
