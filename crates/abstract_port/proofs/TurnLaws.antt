-- What a start is: a frame that waits, at a moment at which the wire is free, by an open gate.
use Rattle.std.proofs.Common.{◌≡◌, ◌<◌, ◌≤◌, ℕ, zero, suc, ◌+◌, ◌-◌, ◌&&◌, leb, Bool, true, false, List, [], ◌∷◌, Option, Some, None, refl, sym, ap, ◌∙◌, subst, arith, le_refl, le_trans}
use Rattle.std.specs.Prelude.{slice_set}
use Rattle.wire_time.specs.declared.Frame.{Frame}
use Rattle.wire_time.specs.Wire.{occupancy_of}
use Rattle.gates.specs.History.{open_through}
use Rattle.gates.specs.Choice.{may_start}
use Rattle.gates.proofs.ChoiceLaws.{greatest_below-passes}
use Rattle.abstract_port.specs.declared.Start.{Start}
use Rattle.abstract_port.specs.FrameCounts.{count_sent}
use Rattle.abstract_port.specs.AbstractPort.{AbstractPort, queue_of, counts_at, head_need, is_available, choice, start_head, start_or, scan, next_start}
use Rattle.abstract_port.proofs.ScanLaws.{choice-less}

-- a start from m on, and the port after it
pub record Started (p : AbstractPort) (m : ℕ) (s : Start) (q : AbstractPort) : Type 0 where
  pub frame : Frame
  pub rest : List Frame
  pub waits : queue_of p s.class ≡ frame ∷ rest
  pub less : s.class < 8
  pub onward : m ≤ s.at
  pub free : p.free ≤ s.at
  pub opens : open_through p.history s.class s.at (s.«end» - s.at) ≡ true
  pub port : q ≡ record p { now = s.at; free = s.«end»; queues = slice_set p.queues s.class rest; counts = slice_set p.counts s.class (count_sent frame (counts_at p s.class)) }

-- each half of a conjunction that holds
pub both : (a b : Bool) → (a && b) ≡ true → (a ≡ true) × (b ≡ true)
both true b h = (refl, h)
both false b h = absurd (cc)

passes : (p : AbstractPort) (m class : ℕ) → choice p m ≡ Some class → is_available p m class ≡ true
unfolding choice
passes p m class e = greatest_below-passes 8 (is_available p m) class e

started_head : (p : AbstractPort) (m class : ℕ) (s : Start) (q : List Frame) → choice p m ≡ Some class → queue_of p class ≡ q → (start_head p m class q).0 ≡ Some s → Started p m s (start_head p m class q).1
started_head p m class s [] chosen is e = absurd (cc)
started_head p m class s (f ∷ rest) chosen is e =
    let first : Start = record { id = f.id; class = class; at = m; «end» = m + occupancy_of p.ps f.len } in
    let same : first ≡ s = (cc) in
    let available = both (leb p.free m) (may_start p.history m class (head_need p.ps (queue_of p class))) (passes p m class chosen) in
    let open_for : open_through p.history class m (occupancy_of p.ps f.len) ≡ true = ap (λ x. may_start p.history m class (head_need p.ps x)) (sym is) ∙ available.1 in
    let lasts : occupancy_of p.ps f.len ≡ m + occupancy_of p.ps f.len - m = omega arith in
    let by_then = available.0 in
    subst (λ x. Started p m x (start_head p m class (f ∷ rest)).1) same (record {
      frame = f;
      rest = rest;
      waits = is;
      less = choice-less p m class chosen;
      onward = le_refl m;
      free = grind (arith, by_then);
      opens = subst (λ n. open_through p.history class m n ≡ true) lasts open_for;
      port = refl;
    })

started_later : (p : AbstractPort) (m n : ℕ) (s : Start) (q : AbstractPort) → m ≤ n → Started p n s q → Started p m s q
started_later p m n s q l t =
    record { frame = t.frame; rest = t.rest; waits = t.waits; less = t.less; onward = le_trans l t.onward; free = t.free; opens = t.opens; port = t.port }

started_or : (p : AbstractPort) (m : ℕ) (s : Start) (o : Option ℕ) (later : Option Start × AbstractPort) → choice p m ≡ o → (later.0 ≡ Some s → Started p (m + 1) s later.1)
    → (start_or p m o later).0 ≡ Some s → Started p m s (start_or p m o later).1
started_or p m s None later chosen next e = started_later p m (m + 1) s later.1 (omega arith) (next e)
started_or p m s (Some class) later chosen next e = started_head p m class s (queue_of p class) chosen refl e

-- A start that a scan finds is as the abstract port says, by a gate that is open up to its end.
pub scan-started : (p : AbstractPort) (m left : ℕ) (s : Start) → (scan p m left).0 ≡ Some s → Started p m s (scan p m left).1
unfolding scan
scan-started p m zero s e = absurd (cc)
scan-started p m (suc left) s e = started_or p m s (choice p m) (scan p (m + 1) left) refl (scan-started p (m + 1) left s) e

-- The next start is when the wire is free, by a gate that is open up to its end.
pub next_start-started : (p : AbstractPort) (upto : ℕ) (s : Start) → (next_start p upto).0 ≡ Some s → Started p p.now s (next_start p upto).1
next_start-started p upto s e = scan-started p p.now (upto - p.now) s e

-- where nothing starts, all but the moment stays
none_or : (p : AbstractPort) (m : ℕ) (o : Option ℕ) (later : Option Start × AbstractPort) → choice p m ≡ o → (later.0 ≡ None → later.1 ≡ record p { now = later.1.now })
    → (start_or p m o later).0 ≡ None → (start_or p m o later).1 ≡ record p { now = (start_or p m o later).1.now }
none_or p m None later chosen next e = next e
none_or p m (Some class) later chosen next e = go (queue_of p class) refl e
  where
    go : (q : List Frame) → queue_of p class ≡ q → (start_head p m class q).0 ≡ None → (start_head p m class q).1 ≡ record p { now = (start_head p m class q).1.now }
    go [] is e = refl
    go (f ∷ rest) is e = absurd (cc)

-- A scan that finds no start changes the moment alone.
pub scan-none_started : (p : AbstractPort) (m left : ℕ) → (scan p m left).0 ≡ None → (scan p m left).1 ≡ record p { now = (scan p m left).1.now }
unfolding scan
scan-none_started p m zero e = refl
scan-none_started p m (suc left) e = none_or p m (choice p m) (scan p (m + 1) left) refl (scan-none_started p (m + 1) left) e
