-- What is told of streams: how long their frames wait at each port of their way, and when they have passed all of it.
--
-- The end of a frame counts from its nominal moment at the first port, or where that isn't known from its arrival there; by the clock of the
-- last port; with the gap behind the frame. Times are in picoseconds.
use Rattle.std.specs.Prelude.{ℕ, ◌-◌, nat_le, nat_lt, ◌&&◌, ◌||◌, not, Bool, true, false, List, [], ◌∷◌, ◌++◌, slice_get, Option, Some, None, is_some, decimal, codes, if◌then◌else◌}
use Rattle.std.specs.List.{concat}
use Rattle.delay_bounds.specs.declared.Bound.{Bound}
use Rattle.stream_bounds.specs.BoundLines.{met_word}
use Rattle.stream_bounds.specs.Classes.{dropped_of}
use Rattle.stream_bounds.specs.Verdicts.{needs_of, plus}
use Rattle.stream_bounds.specs.declared.verdicts.Met.{Met}
use Rattle.stream_bounds.specs.declared.verdicts.Met.TheVariants as Mets
use Rattle.stream_bounds.specs.declared.verdicts.Verdict.TheVariants as Words
use Rattle.path_bounds.specs.Answers.{pair_of, verdict_at}
use Rattle.path_bounds.specs.Hops.{greatest_of}
use Rattle.path_bounds.specs.declared.hop.Coming.{Coming}
use Rattle.path_bounds.specs.declared.hop.Coming.TheVariants as Comings
use Rattle.path_bounds.specs.declared.hop.Hop.{Hop}
use Rattle.path_bounds.specs.declared.hop.PathPort.{PathPort}
use Rattle.path_bounds.specs.declared.standings.PairVerdict.{PairVerdict}
use Rattle.path_bounds.specs.declared.standings.PairVerdict.TheVariants as Verdicts
use Rattle.traffic.specs.declared.table.Stream.{Stream}
use Rattle.paths.specs.declared.faults.PathsFinding.{PathsFinding}
use Rattle.paths.specs.declared.faults.PathsFinding.TheVariants as Findings
use Rattle.paths.specs.declared.path_lines.EndOfWay.{EndOfWay}
use Rattle.paths.specs.declared.path_lines.HeldHop.{HeldHop}
use Rattle.paths.specs.declared.path_lines.Passage.{Passage}
use Rattle.paths.specs.declared.path_lines.Passage.TheVariants as Passages

-- 1. A port of a way

-- a hop whose frames are of a class, come within a span, and wait within bounds
abbrev pub held_by : Option ℕ → Coming → Option Bound → Passage
held_by (Some class) (Comings.Within s) (Some b) = Passages.Held (record { class = class; span = s; bound = b })
held_by _ _ _ = Passages.Unknown

-- what becomes of the frames of a hop at its port: some are dropped, or each waits within bounds, or nothing is known
abbrev pub passage_by : Option PathPort → Hop → Passage
passage_by None h = Passages.Unknown
passage_by (Some p) h = if is_some (dropped_of p.settings p.change h.stream) then Passages.Dropped else held_by h.class h.coming h.bound

-- frames go on behind it
abbrev pub goes_on : Passage → Bool
goes_on (Passages.Held k) = true
goes_on _ = false

-- 2. The end of a way

-- from the nominal moment to the end at this port, which has been in force for so long at moment zero
abbrev pub end_of : PathPort → Stream → HeldHop → EndOfWay
end_of p x k = record {
  least = plus (plus k.span.earliest k.bound.least) (needs_of p.settings.port.rate x).shortest - p.since;
  greatest = plus (plus k.span.earliest (greatest_of x k.span k.bound)) (needs_of p.settings.port.rate x).longest - p.since;
}

-- some frame waits for as long as is told: that is known of the first port alone
abbrev pub is_reached : Option PairVerdict → Bool
is_reached (Some (Verdicts.Known (Words.Within most reached))) = reached
is_reached _ = false

abbrev pub reached_at : List (Option PairVerdict) → Hop → (class : ℕ) → Bool
reached_at verdicts h class = h.first && is_reached (verdict_at verdicts (pair_of h.port class))

-- A deadline is met where the end is by then at the latest. It is missed where that is later at the earliest, or where some frame takes so long.
abbrev pub met_of : EndOfWay → (reached : Bool) → (deadline : ℕ) → Met
met_of e reached deadline =
    if nat_le e.greatest deadline then Mets.Met else if reached || nat_lt deadline e.least then Mets.Missed else Mets.Unknown

-- 3. Lines

-- the name of a port, behind some word, where it has one
abbrev pub named : (word : List ℕ) → Option (List ℕ) → List ℕ
named word None = []
named word (Some name) = word ++ name

abbrev pub hop_head : (id : ℕ) → List ℕ
hop_head id = concat (codes "hop " ∷ decimal id ∷ [])

abbrev pub hop_bounds : HeldHop → List ℕ
hop_bounds k = concat (
    codes " class " ∷ decimal k.class
    ∷ codes " within " ∷ decimal k.bound.least
    ∷ codes " to " ∷ decimal k.bound.greatest
    ∷ codes "\n" ∷ [])

abbrev pub hop_line : Option (List ℕ) → (id : ℕ) → HeldHop → List ℕ
hop_line name id k = hop_head id ++ (named (codes " ") name ++ hop_bounds k)

abbrev pub deadline_text : EndOfWay → (reached : Bool) → Option ℕ → List ℕ
deadline_text e reached None = codes "\n"
deadline_text e reached (Some deadline) = concat (codes " deadline " ∷ decimal deadline ∷ met_word (met_of e reached deadline) ∷ [])

abbrev pub end_head : (id : ℕ) → EndOfWay → List ℕ
end_head id e =
    concat (codes "path " ∷ decimal id ∷ codes " end " ∷ decimal e.least ∷ codes " to " ∷ decimal e.greatest ∷ [])

abbrev pub end_line : (id : ℕ) → EndOfWay → (reached : Bool) → Option ℕ → List ℕ
end_line id e reached deadline = end_head id e ++ deadline_text e reached deadline

-- the line of a way that ends before its end
abbrev pub stop_head : (id : ℕ) → (word : List ℕ) → List ℕ
stop_head id word = concat (codes "path " ∷ decimal id ∷ word ∷ [])

abbrev pub stop_line : Option (List ℕ) → (id : ℕ) → (word : List ℕ) → List ℕ
stop_line name id word = stop_head id word ++ (named (codes " at ") name ++ codes "\n")

-- 4. All ways, one hop after another

-- the line of a way's end, at this port
abbrev pub end_by : List (Option PairVerdict) → Option PathPort → Hop → HeldHop → List ℕ
end_by verdicts None h k = []
end_by verdicts (Some p) h k = end_line h.stream.first_id (end_of p h.stream k) (reached_at verdicts h k.class) h.stream.deadline

-- a way's last hop is in front of another way, or of nothing
abbrev pub is_last : List Hop → Bool
is_last [] = true
is_last (h ∷ hops) = h.first

-- a way that has ended before this hop; one that begins here hasn't
abbrev pub over_at : Bool → Hop → Bool
over_at over h = over && not h.first

module _ (ports : List PathPort) where
  abbrev pub passage_at : Hop → Passage
  passage_at h = passage_by (slice_get ports h.port) h

  abbrev pub over_behind : Bool → Hop → Bool
  over_behind over h = over_at over h || not (goes_on (passage_at h))

  module _ (verdicts : List (Option PairVerdict)) where
    -- the line of a way's end, behind its last hop
    abbrev pub last_line : (last : Bool) → Hop → HeldHop → List ℕ
    last_line last h k = if last then end_by verdicts (slice_get ports h.port) h k else []

    module _ (names : List (List ℕ)) where
      -- the line of a hop whose frames go on, and that of the end
      abbrev pub held_lines : (last : Bool) → Hop → HeldHop → List ℕ
      held_lines last h k = hop_line (slice_get names h.port) h.stream.first_id k ++ last_line last h k

      -- the lines of a hop
      abbrev pub passage_lines : (last : Bool) → Hop → Passage → List ℕ
      passage_lines last h Passages.Dropped = stop_line (slice_get names h.port) h.stream.first_id (codes " none")
      passage_lines last h Passages.Unknown = stop_line (slice_get names h.port) h.stream.first_id (codes " unknown")
      passage_lines last h (Passages.Held k) = held_lines last h k

      -- where the way has ended before, there are none
      abbrev pub hop_lines : (over last : Bool) → Hop → List ℕ
      hop_lines over last h = if over then [] else passage_lines last h (passage_at h)

      unfoldable pub paths_lines : (over : Bool) → List Hop → List ℕ
      paths_lines over [] = []
      paths_lines over (h ∷ hops) = hop_lines (over_at over h) (is_last hops) h ++ paths_lines (over_behind over h) hops

-- 5. What a strict run finds

-- the first of two findings
abbrev pub first_of : Option PathsFinding → Option PathsFinding → Option PathsFinding
first_of (Some finding) later = Some finding
first_of None later = later

abbrev pub unmet : (id : ℕ) → Met → Option PathsFinding
unmet id Mets.Met = None
unmet id Mets.Missed = Some (Findings.Missed id)
unmet id Mets.Unknown = Some (Findings.Unknown id)

abbrev pub finding_dropped : (id : ℕ) → Option ℕ → Option PathsFinding
finding_dropped id None = Some (Findings.Dropped id)
finding_dropped id (Some deadline) = Some (Findings.Missed id)

abbrev pub finding_unknown : (id : ℕ) → Option ℕ → Option PathsFinding
finding_unknown id None = None
finding_unknown id (Some deadline) = Some (Findings.Unknown id)

abbrev pub finding_end : (id : ℕ) → EndOfWay → (reached : Bool) → Option ℕ → Option PathsFinding
finding_end id e reached None = None
finding_end id e reached (Some deadline) = unmet id (met_of e reached deadline)

abbrev pub finding_by : List (Option PairVerdict) → Option PathPort → Hop → HeldHop → Option PathsFinding
finding_by verdicts None h k = None
finding_by verdicts (Some p) h k = finding_end h.stream.first_id (end_of p h.stream k) (reached_at verdicts h k.class) h.stream.deadline

module _ (ports : List PathPort) (verdicts : List (Option PairVerdict)) where
  abbrev pub finding_last : (last : Bool) → Hop → HeldHop → Option PathsFinding
  finding_last last h k = if last then finding_by verdicts (slice_get ports h.port) h k else None

  abbrev pub passage_finding : (last : Bool) → Hop → Passage → Option PathsFinding
  passage_finding last h Passages.Dropped = finding_dropped h.stream.first_id h.stream.deadline
  passage_finding last h Passages.Unknown = finding_unknown h.stream.first_id h.stream.deadline
  passage_finding last h (Passages.Held k) = finding_last last h k

  abbrev pub hop_finding : (over last : Bool) → Hop → Option PathsFinding
  hop_finding over last h = if over then None else passage_finding last h (passage_at ports h)

  unfoldable pub paths_finding : (over : Bool) → List Hop → Option PathsFinding
  paths_finding over [] = None
  paths_finding over (h ∷ hops) = first_of (hop_finding (over_at over h) (is_last hops) h) (paths_finding (over_behind ports over h) hops)
