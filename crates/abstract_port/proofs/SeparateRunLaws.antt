-- What every run of a new port keeps.
use Rattle.std.proofs.Common.{◌≡◌, ◌<◌, ◌≤◌, ℕ, Bool, true, false, ltb, ◌||◌, List, [], ◌∷◌, ◌++◌, length, map, Result, Ok, Err, refl, sym, ap, ◌∙◌, subst, append-nil, arith}
use Rattle.std.proofs.lemmas.Bool.{lt-ltb}
use Rattle.std.proofs.lemmas.List.Elements.{All-from_recursion}
use Rattle.std.specs.Prelude.{All, if◌then◌else◌}
use Rattle.std.specs.List.{AllByRecursion as Each}
use Rattle.wire_time.specs.Moment.{greatest_moment}
use Rattle.wire_time.specs.declared.Frame.{Frame}
use Rattle.gates.specs.History.{Accepted}
use Rattle.abstract_port.specs.declared.Answer.TheVariants as Answered
use Rattle.abstract_port.specs.declared.Dropped.{Dropped}
use Rattle.abstract_port.specs.declared.Event.{Event}
use Rattle.abstract_port.specs.declared.Event.TheVariants.{Arrive, Install, Clock, Query, Count}
use Rattle.abstract_port.specs.declared.Refused.{Refused}
use Rattle.abstract_port.specs.declared.Start.{Start}
use Rattle.abstract_port.specs.AbstractPort.{AbstractPort, counters_of, counts_at, installs, new_port, queue_of, starts_until, verdict}
use Rattle.abstract_port.specs.Answers.{answers_to, answers_of, arrival_answer, command_answer, port_after}
use Rattle.abstract_port.specs.FrameCounts.{no_counts}
use Rattle.abstract_port.specs.Laws.{AreInTurn}
use Rattle.abstract_port.specs.Tally.{Counter, value_of}
use Rattle.gates.specs.Visits.{greatest_count}
use Rattle.abstract_port.specs.Tally as Tallied
use Rattle.abstract_port.proofs.RunLaws.{answers_of-append, clock_by}
use Rattle.abstract_port.proofs.RunTurns.{turns, wires, telling}
use Rattle.abstract_port.proofs.TallyLaws.{counting}
use Rattle.abstract_port.proofs.UnclassedLaws.{unclassing}
use Rattle.abstract_port.specs.Sound.{FitsLead}
use Rattle.abstract_port.specs.Hindsight.{IsFit, IsOpenBy}
use Rattle.abstract_port.specs.Promises.{AreOpenThen, IsKeepingPromises, count_after, counters_after}
use Rattle.abstract_port.proofs.Separates.{index_replicate, no_queue}
use Rattle.abstract_port.proofs.GateLaws.{hindsight}

-- ---- open by the history of the time

open_turns : (h : List Accepted) (free : ℕ) (starts : List Start) → AreInTurn h free starts → Each (IsOpenBy h) (map Answered.Start starts)
open_turns h free [] t = tt
open_turns h free (s ∷ rest) t = (t.1, open_turns h s.«end» rest t.2)

open_arrival : (h : List Accepted) (f : Frame) (v : Result ℕ Dropped) → Each (IsOpenBy h) (arrival_answer f v ∷ [])
open_arrival h f (Ok class) = (tt, tt)
open_arrival h f (Err why) = (tt, tt)

open_command : (h : List Accepted) (r : Result ℕ Refused) → Each (IsOpenBy h) (command_answer r ∷ [])
open_command h (Ok change) = (tt, tt)
open_command h (Err why) = (tt, tt)

open_clock : (b : Bool) (m : ℕ) (p : AbstractPort) → Each (IsOpenBy p.history) (clock_by b m p).0
open_clock true m p = (tt, tt)
open_clock false m p = open_turns p.history p.free (starts_until p m).0 (turns p m).in_turn

open_count : (b : Bool) (h : List Accepted) (class : ℕ) (p : AbstractPort) → Each (IsOpenBy h) (if b then Answered.Counters class (counters_of p class) ∷ [] else Answered.BadClass ∷ [])
open_count true h class p = (tt, tt)
open_count false h class p = (tt, tt)

open_event : (event : Event) (p : AbstractPort) → Each (IsOpenBy p.history) (answers_to event p).0
open_event (Arrive f) p = open_arrival p.history f (verdict p f)
open_event (Install c) p = open_command p.history (installs p c.now).0
open_event (Clock m) p = open_clock (ltb m p.now || ltb greatest_moment m) m p
open_event Query p = (tt, tt)
open_event (Count class) p = open_count (ltb class 8) p.history class p

open_then : (events : List Event) (p : AbstractPort) → AreOpenThen events p
open_then [] p = tt
open_then (event ∷ rest) p = (All-from_recursion (IsOpenBy p.history) (answers_to event p).0 (open_event event p), open_then rest (answers_to event p).1)

-- ---- counters

module _ (p : AbstractPort) (eight : length p.counts ≡ 8) (least : (counter : Counter) (class : ℕ) → value_of counter (counts_at p class) ≤ greatest_count) where
  counts_by : (counter : Counter) (class : ℕ) (events : List Event) → class < 8 → value_of counter (counts_at (port_after events p) class) ≡ count_after counter class events p
  counts_by counter class events within = counting counter class p events (omega (arith, eight)) (least counter class)

  counters_by : (class : ℕ) (before : List Event) → class < 8 → counters_of (port_after before p) class ≡ counters_after class before p
  counters_by class before within =
      let a = counts_by Tallied.Accepted class before within in
      let b = counts_by Tallied.Sent class before within in
      let c = counts_by Tallied.SentOctets class before within in
      let d = counts_by Tallied.Runts class before within in
      let e = counts_by Tallied.TooLongs class before within in
      let f = counts_by Tallied.OverSdus class before within in
      let g = counts_by Tallied.Fulls class before within in
      λ i. record {
        accepted = a i;
        sent = b i;
        sent_octets = c i;
        waiting = length (queue_of (port_after before p) class);
        dropped = d i ∷ e i ∷ f i ∷ g i ∷ [];
      }

  counted : (before after : List Event) (class : ℕ) → class < 8
      → answers_of (before ++ Count class ∷ after) p ≡ answers_of before p ++ Answered.Counters class (counters_after class before p) ∷ answers_of after (port_after before p)
  counted before after class within =
      answers_of-append before (Count class ∷ after) p
      ∙ (ap (λ b. answers_of before p ++ ((if b then Answered.Counters class (counters_of (port_after before p) class) ∷ [] else Answered.BadClass ∷ []) ++ answers_of after (port_after before p))) (lt-ltb class 8 within)
      ∙ ap (λ n. answers_of before p ++ Answered.Counters class n ∷ answers_of after (port_after before p)) (counters_by class before within))

-- ---- the law

none_is_least : (counter : Counter) → value_of counter no_counts ≤ greatest_count
none_is_least Tallied.Accepted = omega arith
none_is_least Tallied.Sent = omega arith
none_is_least Tallied.SentOctets = omega arith
none_is_least Tallied.Runts = omega arith
none_is_least Tallied.TooLongs = omega arith
none_is_least Tallied.OverSdus = omega arith
none_is_least Tallied.Fulls = omega arith

zero_counts : (ps mtu room : ℕ) (counter : Counter) (class : ℕ) → value_of counter (counts_at (new_port ps mtu room) class) ≤ greatest_count
zero_counts ps mtu room counter class = subst (λ c. value_of counter c ≤ greatest_count) (sym (index_replicate no_counts 8 class)) (none_is_least counter)

new_fit : (ps mtu room : ℕ) → 80 ≤ ps → 68 ≤ mtu → IsFit (new_port ps mtu room)
new_fit ps mtu room rate fits = record { rate = rate; mtu = fits; fits = λ class. subst (All (FitsLead ps mtu)) (sym (no_queue class)) (All-from_recursion (FitsLead ps mtu) [] tt) }

pub keeping : IsKeepingPromises
keeping ps mtu room rate fits events =
    let p = new_port ps mtu room in
    let h = (port_after events p).history in
    record {
      open_then = open_then events p;
      open_by_end = subst (λ k. All (IsOpenBy k) (answers_of events p)) (append-nil h) (hindsight p (new_fit ps mtu room rate fits) events [] tt);
      apart = wires p events;
      counted = λ before after class is within. ap (λ es. answers_of es p) is ∙ counted p refl (zero_counts ps mtu room) before after class within;
      unclassed_counted = unclassing p events (omega arith);
      told_all = telling p events;
    }
