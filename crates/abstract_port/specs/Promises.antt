-- What holds of every run of a new port, and so of whatever reports its answers.
use Rattle.std.specs.Prelude.{◌≡◌, ◌<◌, ◌≤◌, ℕ, List, [], ◌∷◌, ◌++◌, All, length, map, filter, sum_by}
use Rattle.wire_time.specs.declared.TheConstants.{MIN_PS_PER_OCTET, MIN_MTU}
use Rattle.abstract_port.specs.declared.Counters.{Counters}
use Rattle.abstract_port.specs.declared.Event.{Event}
use Rattle.abstract_port.specs.declared.Event.TheVariants as Events
use Rattle.abstract_port.specs.declared.Answer.TheVariants as Answered
use Rattle.abstract_port.specs.AbstractPort.{AbstractPort, counts_at, new_port, queue_of}
use Rattle.abstract_port.specs.Answers.{answers_to, answers_of, port_after}
use Rattle.abstract_port.specs.FrameCounts.{add_capped}
use Rattle.abstract_port.specs.Laws.{AreApart, starts_in}
use Rattle.abstract_port.specs.Tally.{Counter, value_of, growth, unclassed, happenings, told, is_told}
use Rattle.abstract_port.specs.Tally as Tallied
use Rattle.abstract_port.specs.Hindsight.{IsOpenBy}

-- each start finds its gate open up to its end, by the history of its time
abbrev pub AreOpenThen : List Event → AbstractPort → Type 0
AreOpenThen [] p = Unit {0}
AreOpenThen (event ∷ rest) p = All (IsOpenBy p.history) (answers_to event p).0 × AreOpenThen rest (answers_to event p).1

-- what a counter of a class shows after a run: the number before it, and the count over what happens, at most the greatest u64
abbrev pub count_after : Counter → ℕ → List Event → AbstractPort → ℕ
count_after counter class events p = add_capped (value_of counter (counts_at p class)) (sum_by (growth counter class) (happenings events p))

-- all that the counters of a class show after a run
abbrev pub counters_after : ℕ → List Event → AbstractPort → Counters
counters_after class events p = record {
  accepted = count_after Tallied.Accepted class events p;
  sent = count_after Tallied.Sent class events p;
  sent_octets = count_after Tallied.SentOctets class events p;
  waiting = length (queue_of (port_after events p) class);
  dropped =
      count_after Tallied.Runts class events p
      ∷ count_after Tallied.TooLongs class events p
      ∷ count_after Tallied.OverSdus class events p
      ∷ count_after Tallied.Fulls class events p
      ∷ [];
}

-- Of a run: each start finds its gate open up to its end, by the history of its time and by that at the end; no start is
-- before the wire is free; counters that are asked for are the counts over the events before, as is that of frames without a
-- class; and what is counted is what is answered to arrivals, and the starts.
pub record KeepsPromises (p : AbstractPort) (events : List Event) : Type 0 where
  pub open_then : AreOpenThen events p
  pub open_by_end : All (IsOpenBy (port_after events p).history) (answers_of events p)
  pub apart : AreApart p.free (starts_in (answers_of events p))
  pub counted : (before after : List Event) (class : ℕ) → events ≡ before ++ Events.Count class ∷ after → class < 8
      → answers_of events p ≡ answers_of before p ++ Answered.Counters class (counters_after class before p) ∷ answers_of after (port_after before p)
  pub unclassed_counted : (port_after events p).no_class ≡ add_capped p.no_class (sum_by unclassed (happenings events p))
  pub told_all : map told (happenings events p) ≡ filter is_told (answers_of events p)

-- the law: every run of a new port of a rate and an mtu that there are keeps them
abbrev pub IsKeepingPromises : Type 0
IsKeepingPromises = (ps mtu room : ℕ) → MIN_PS_PER_OCTET ≤ ps → MIN_MTU ≤ mtu → (events : List Event) → KeepsPromises (new_port ps mtu room) events
