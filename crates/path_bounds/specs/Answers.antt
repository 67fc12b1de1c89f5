-- The answer about a class of a port, by what is known so far of the streams that come there.
--
-- Whatever comes of a class that shares no window, or of a lower one, makes no difference but by how long its frames are. So a stream of which
-- nothing is known yet may stand in the table as its talker sends it.
use Rattle.std.specs.Prelude.{◌≡◌, ℕ, ◌+◌, ◌-◌, ◌*◌, ◌^◌, zero, suc, ◌&&◌, ◌||◌, nat_lt, not, Bool, true, false, List, [], ◌∷◌, filter, length, map, Option, Some, None, is_some, slice_get, slice_index_or, unwrap_or, if◌then◌else◌}
use Rattle.std.specs.List.{list_any}
use Rattle.abstract_port.specs.AbstractPort.{plan_asked}
use Rattle.delay_bounds.specs.declared.Bound.{Bound}
use Rattle.gates.specs.Gate.{Plan, keeps_apart}
use Rattle.shared_bounds.specs.Sharing.{Share}
use Rattle.stream_bounds.specs.Classes.{has_any}
use Rattle.stream_bounds.specs.Standing.{standing_of}
use Rattle.stream_bounds.specs.Verdicts.{ClassAnswer, IsApartAnswer, IsSharedAnswer, unbounded}
use Rattle.stream_bounds.specs.declared.standing.Standing.{Standing}
use Rattle.stream_bounds.specs.declared.standing.Standing.TheVariants as Standings
use Rattle.stream_bounds.specs.declared.verdicts.Verdict.{Verdict}
use Rattle.stream_bounds.specs.declared.verdicts.Verdict.TheVariants as Verdicts
use Rattle.traffic.specs.declared.table.Stream.{Stream}
use Rattle.path_bounds.specs.Hops.{entry_of, is_at, is_awaited, is_own, is_unknown}
use Rattle.path_bounds.specs.declared.hop.Hop.{Hop}
use Rattle.path_bounds.specs.declared.hop.PathPort.{PathPort}
use Rattle.path_bounds.specs.declared.standings.PairVerdict.{PairVerdict}
use Rattle.path_bounds.specs.declared.standings.PairVerdict.TheVariants as PairVerdicts

-- 1. The streams of a port

-- those that come there, in the order of the table
abbrev pub table_of : (port : ℕ) → List Hop → List Stream
table_of port hops = map entry_of (filter (is_at port) hops)

-- those of a class
abbrev pub own_of : (port class : ℕ) → List Hop → List Stream
own_of port class hops = map entry_of (filter (is_own port class) hops)

abbrev pub has_own : (port class : ℕ) → List Hop → Bool
has_own port class hops = list_any (is_own port class) hops

-- 2. The classes that share windows

module _ (plan : Plan) (class : ℕ) where
  -- of each class from one on whether it shares windows with this one
  abbrev pub AreSharingFrom : ℕ → List Bool → Type 0
  AreSharingFrom other [] = Unit {0}
  AreSharingFrom other (is ∷ rest) =
      (is ≡ true → Share plan class other) × (Share plan class other → is ≡ true) × AreSharingFrom (other + 1) rest

  -- of all eight
  abbrev pub AreSharing : List Bool → Type 0
  AreSharing shares = (length shares ≡ 8) × AreSharingFrom 0 shares

-- the verdicts about the classes of all ports follow one another, eight for each port
abbrev pub pair_of : (port class : ℕ) → ℕ
pair_of port class = 8 * port + class

abbrev pub verdict_at : List (Option PairVerdict) → ℕ → Option PairVerdict
verdict_at verdicts pair = unwrap_or (slice_get verdicts pair) None

-- a verdict as one about a port alone: without bounds, where nothing is known of a stream
abbrev pub verdict_in : Option PairVerdict → Verdict
verdict_in (Some (PairVerdicts.Known v)) = v
verdict_in (Some PairVerdicts.Unheard) = Verdicts.Idle
verdict_in None = Verdicts.Idle

module _ (p : PathPort) (port : ℕ) (hops : List Hop) (verdicts : List (Option PairVerdict)) (shares : List Bool) where
  -- how a class stands for one with which it shares windows; else it is as if it sent nothing
  abbrev pub standing_at : ℕ → Standing
  standing_at j =
      if slice_index_or shares j false
      then standing_of p.settings p.change j (own_of port j hops) (verdict_in (verdict_at verdicts (pair_of port j)))
      else Standings.Silent

  -- of so many classes from one on
  unfoldable pub standings_from : (count class : ℕ) → List Standing
  standings_from zero class = []
  standings_from (suc count) class = standing_at class ∷ standings_from count (class + 1)

-- 3. The answer

-- By whether the class is kept apart. Frames may come anywhere in their windows, and some may be missing.
abbrev pub IsAnswerBy : Bool → PathPort → (table : List Stream) → (above : List Standing) → List Stream → (class : ℕ) → ClassAnswer → Type 0
IsAnswerBy apart p table above [] class answer = answer ≡ unbounded Verdicts.Idle
IsAnswerBy true p table above (x ∷ streams) class answer =
    IsApartAnswer (has_any (x ∷ streams)) true p.settings p.change (x ∷ streams) class answer
IsAnswerBy false p table above (x ∷ streams) class answer =
    IsSharedAnswer p.settings p.change table above (x ∷ streams) class answer

-- a bound is what 128 bits hold at most: so it may be cut off there
abbrev pub is_cut : Bound → Bool
is_cut b = not (nat_lt b.greatest (2 ^ 128 - 1))

-- An answer that is found is used as it is, with its verdict. Where one of its bounds may be cut off it is as if nothing were known.
abbrev pub IsUsed : (cut : Bool) → (found answer : ClassAnswer) → PairVerdict → Type 0
IsUsed true found answer verdict = (answer ≡ unbounded Verdicts.Idle) × (verdict ≡ PairVerdicts.Unheard)
IsUsed false found answer verdict = (answer ≡ found) × (verdict ≡ PairVerdicts.Known answer.verdict)

module _ (p : PathPort) (port class : ℕ) (hops : List Hop) (verdicts : List (Option PairVerdict)) (shares : List Bool) where
  abbrev pub IsPairAnswer : ClassAnswer → Type 0
  IsPairAnswer answer =
      IsAnswerBy (keeps_apart (plan_asked p.change).entries class) p (table_of port hops)
      (standings_from p port hops verdicts shares (7 - class) (class + 1)) (own_of port class hops) class answer

  -- of some stream of the class it is not known, and won't be, when its frames come
  abbrev pub is_lacking : Bool
  is_lacking = list_any (λ (h : Hop). is_own port class h && is_unknown h.coming) hops

  -- the answer, and the verdict
  abbrev pub IsJudgedAs : Bool → ClassAnswer → PairVerdict → Type 0
  IsJudgedAs true answer verdict = (answer ≡ unbounded Verdicts.Idle) × (verdict ≡ PairVerdicts.Unheard)
  IsJudgedAs false answer verdict =
      (found : ClassAnswer) × IsPairAnswer found × IsUsed (list_any is_cut found.left) found answer verdict

  -- 4. When it can be judged

  -- a class is higher, shares windows with it, and isn't judged
  abbrev pub awaits_class : Option ℕ → Bool
  awaits_class (Some j) =
      nat_lt class j && (slice_index_or shares j false && not (is_some (verdict_at verdicts (pair_of port j))))
  awaits_class None = false

  -- it waits for a hop: that is of the class, and nothing is known of it yet; or of a class that is awaited
  abbrev pub awaits : Hop → Bool
  awaits h = (is_own port class h && is_awaited h.coming) || (is_at port h && awaits_class h.class)

  abbrev pub is_waiting : Bool
  is_waiting = list_any awaits hops
