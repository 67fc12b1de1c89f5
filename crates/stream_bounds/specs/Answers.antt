-- The answers about all classes, and what is told of a stream beside its bounds, where it is asked: the jitter that it may have, and what its
-- greatest wait is made of.
use Rattle.std.specs.List.{list_any}
use Rattle.std.specs.Prelude.{ℕ, ◌+◌, ◌-◌, ◌%◌, ◌⊎◌, ◌≡◌, ◌<◌, length, min, max, nat_lt, not, ◌&&◌, ◌||◌, Bool, true, false, List, [], ◌∷◌, slice_get, slice_set, Option, Some, None, unwrap_or}
use Rattle.wire_time.specs.Moment.{greatest_moment}
use Rattle.abstract_port.specs.declared.Change.{Change}
use Rattle.script.specs.declared.watch.Shares.{Shares}
use Rattle.stream_bounds.specs.Classes.{class_of, dropped_of, is_class, streams_of}
use Rattle.stream_bounds.specs.Standing.{is_said, standing_of}
use Rattle.stream_bounds.specs.Verdicts.{ClassAnswer, IsOwnAnswer, delay_by, met_by, needs_of, unless_dropped}
use Rattle.stream_bounds.specs.declared.extras.Extra.{Extra}
use Rattle.stream_bounds.specs.declared.settings.BoundsSettings.{BoundsSettings}
use Rattle.stream_bounds.specs.declared.standing.Standing.{Standing}
use Rattle.stream_bounds.specs.declared.verdicts.Delay.{Delay}
use Rattle.stream_bounds.specs.declared.verdicts.Delay.TheVariants as Delays
use Rattle.stream_bounds.specs.declared.verdicts.Met.{Met}
use Rattle.stream_bounds.specs.declared.verdicts.Met.TheVariants as Mets
use Rattle.traffic.specs.declared.table.Stream.{Stream}

-- 1. Classes that send nothing

-- whether a stream of a table is of a class
abbrev pub has_stream : BoundsSettings → Change → List Stream → ℕ → Bool
has_stream s c streams class = list_any (λ x. is_class class (class_of s c x)) streams

-- whether it is taken for granted that a class sends nothing: so it is said, and it has no streams
abbrev pub is_silent : BoundsSettings → Change → List Stream → ℕ → Bool
is_silent s c streams class = is_said s class && not (has_stream s c streams class)

-- 2. The jitter that a stream may have

-- the stream with another jitter
abbrev pub jittered : Stream → ℕ → Stream
jittered x j = record x { jitter = j }

-- what is told of the stream at a place of its class, by the class's answer
abbrev pub delay_at : BoundsSettings → Change → Stream → ℕ → ClassAnswer → ℕ → Delay
delay_at s c x class a place =
    unless_dropped (dropped_of s c x) (delay_by class a.verdict (unwrap_or (slice_get a.left place) (record { least = 0; greatest = 0 })))

abbrev pub is_met : Met → Bool
is_met Mets.Met = true
is_met _ = false

-- The stream at a place of its class has this jitter, and all else is as it is: whether its deadline is met by a right answer.
pub record IsMetWith (s : BoundsSettings) (c : Change) (table : List Stream) (above : List Standing) (streams : List Stream) (class place : ℕ) (x : Stream) (deadline jitter : ℕ) (met : Bool)
    : Type 0 where
  pub answer : ClassAnswer
  pub right : IsOwnAnswer s c table above (slice_set streams place (jittered x jitter)) class answer
  pub so : met ≡ is_met (met_by (needs_of s.port.rate x) (delay_at s c x class answer place) deadline)

-- it isn't met, or the jitter is no moment
abbrev pub IsOver : BoundsSettings → Change → (table : List Stream) → (above : List Standing) → List Stream → (class place : ℕ) → Stream → (deadline jitter : ℕ) → Type 0
IsOver s c table above streams class place x deadline jitter = IsMetWith s c table above streams class place x deadline jitter false ⊎ (greatest_moment < jitter)

-- A jitter in whole nanoseconds with which the deadline is met, and with one nanosecond more it isn't; or it isn't with none.
abbrev pub IsSlack : BoundsSettings → Change → (table : List Stream) → (above : List Standing) → List Stream → (class place : ℕ) → Stream → (deadline : ℕ) → Option ℕ → Type 0
IsSlack s c table above streams class place x deadline None = IsMetWith s c table above streams class place x deadline 0 false
IsSlack s c table above streams class place x deadline (Some jitter) =
    IsMetWith s c table above streams class place x deadline jitter true × IsOver s c table above streams class place x deadline (jitter + 1000) × (jitter % 1000 ≡ 0)

-- of a stream without a deadline none is told
abbrev pub IsSlackOf : BoundsSettings → Change → (table : List Stream) → (above : List Standing) → List Stream → (class place : ℕ) → Stream → Option ℕ → Option ℕ → Type 0
IsSlackOf s c table above streams class place x None slack = slack ≡ None
IsSlackOf s c table above streams class place x (Some deadline) slack = IsSlack s c table above streams class place x deadline slack

-- where it is asked
abbrev pub IsAskedSlack : Bool → BoundsSettings → Change → (table : List Stream) → (above : List Standing) → List Stream → (class place : ℕ) → Stream → Option ℕ → Type 0
IsAskedSlack false s c table above streams class place x slack = slack ≡ None
IsAskedSlack true s c table above streams class place x slack = IsSlackOf s c table above streams class place x x.deadline slack

-- 3. What the greatest wait of a stream is made of

-- the greatest wait that is told of a stream, if one is
abbrev pub greatest_of : Delay → Option ℕ
greatest_of (Delays.Exact class b) = Some b.greatest
greatest_of (Delays.Within class b reached) = Some b.greatest
greatest_of _ = None

-- it is said of all classes that they send nothing
abbrev pub none_sends : BoundsSettings → BoundsSettings
none_sends s = record s { silent = true ∷ true ∷ true ∷ true ∷ true ∷ true ∷ true ∷ true ∷ [] }

-- of those above one, and of those that are silent by a table
abbrev pub is_none_above : BoundsSettings → Change → List Stream → (class j : ℕ) → Bool
is_none_above s c table class j = nat_lt class j || is_silent s c table j

abbrev pub none_above : BoundsSettings → Change → List Stream → ℕ → BoundsSettings
none_above s c table class = record s {
  silent =
      is_none_above s c table class 0 ∷ is_none_above s c table class 1 ∷ is_none_above s c table class 2 ∷ is_none_above s c table class 3
      ∷ is_none_above s c table class 4 ∷ is_none_above s c table class 5 ∷ is_none_above s c table class 6 ∷ is_none_above s c table class 7 ∷ [];
}

-- The greatest wait of a stream if its class had no other, by a right answer, beside the streams of a table and below classes that stand so.
pub record IsWaitAlone (s : BoundsSettings) (c : Change) (table : List Stream) (above : List Standing) (class : ℕ) (x : Stream) (wait : Option ℕ)
    : Type 0 where
  pub answer : ClassAnswer
  pub right : IsOwnAnswer s c table above (x ∷ []) class answer
  pub is : wait ≡ greatest_of (delay_at s c x class answer 0)

-- a greatest wait that is no longer than the whole one
abbrev pub up_to : (whole : ℕ) → Option ℕ → ℕ
up_to whole wait = min (unwrap_or wait whole) whole

-- The shares of a greatest wait, by what it is if nothing else is sent (`gates`), if classes below may send, too (`blocked`), and if those above do
-- (`behind`). What is then left to the whole is the stream's class's own queue.
abbrev pub shares_of : (gates blocked behind whole : ℕ) → Shares
shares_of gates blocked behind whole = record {
  gates = gates;
  blocking = max blocked gates - gates;
  higher = max behind (max blocked gates) - max blocked gates;
  queue = whole - max behind (max blocked gates);
}

pub record IsDivided (s : BoundsSettings) (c : Change) (table : List Stream) (above : List Standing) (class : ℕ) (x : Stream) (whole : ℕ)
    (shares : Option Shares) : Type 0 where
  pub gates : Option ℕ
  pub blocked : Option ℕ
  pub behind : Option ℕ
  pub alone : IsWaitAlone (none_sends s) c [] [] class x gates
  pub below : IsWaitAlone (none_above s c table class) c [] [] class x blocked
  pub beside : IsWaitAlone s c table above class x behind
  pub are : shares ≡ Some (shares_of (up_to whole gates) (up_to whole blocked) (up_to whole behind) whole)

-- a stream without a greatest wait has none
abbrev pub AreSharesOf : BoundsSettings → Change → (table : List Stream) → (above : List Standing) → (class : ℕ) → Stream → Option ℕ → Option Shares → Type 0
AreSharesOf s c table above class x None shares = shares ≡ None
AreSharesOf s c table above class x (Some whole) shares = IsDivided s c table above class x whole shares

-- where they are asked
abbrev pub AreAskedShares : Bool → BoundsSettings → Change → (table : List Stream) → (above : List Standing) → (class : ℕ) → Stream → Option ℕ → Option Shares → Type 0
AreAskedShares false s c table above class x whole shares = shares ≡ None
AreAskedShares true s c table above class x whole shares = AreSharesOf s c table above class x whole shares

-- 4. Both

-- what else is told of the stream at a place of its class, whose bounds are these
pub record IsExtra (s : BoundsSettings) (c : Change) (table : List Stream) (above : List Standing) (streams : List Stream) (class : ℕ) (own : ClassAnswer) (place : ℕ)
    (x : Stream) (extra : Extra) : Type 0 where
  pub slack : IsAskedSlack s.slack s c table above streams class place x extra.slack
  pub shares : AreAskedShares s.why s c table above class x (greatest_of (delay_at s c x class own place)) extra.shares

-- each stream of a class has the one at its place
pub record AreExtras (s : BoundsSettings) (c : Change) (table : List Stream) (above : List Standing) (streams : List Stream) (class : ℕ) (own : ClassAnswer)
    (extras : List Extra) : Type 0 where
  pub count : length extras ≡ length streams
  pub each : (place : ℕ) (x : Stream) (extra : Extra) → slice_get streams place ≡ Some x → slice_get extras place ≡ Some extra
      → IsExtra s c table above streams class own place x extra

-- where any are asked
abbrev pub AreAskedExtras : Bool → BoundsSettings → Change → (table : List Stream) → (above : List Standing) → List Stream → ℕ → ClassAnswer → List Extra → Type 0
AreAskedExtras false s c table above streams class own extras = extras ≡ []
AreAskedExtras true s c table above streams class own extras = AreExtras s c table above streams class own extras

-- 5. All classes

abbrev pub with_extras : ClassAnswer → List Extra → ClassAnswer
with_extras a extras = record { verdict = a.verdict; left = a.left; extras = extras }

-- the answer about a class, by its streams in a table, below classes that stand so
pub record IsClassAnswer (s : BoundsSettings) (c : Change) (table : List Stream) (above : List Standing) (class : ℕ) (answer : ClassAnswer) : Type 0 where
  pub own : ClassAnswer
  pub right : IsOwnAnswer s c table above (streams_of s c class table) class own
  pub extras : AreAskedExtras (s.slack || s.why) s c table above (streams_of s c class table) class own answer.extras
  pub answered : answer ≡ with_extras own answer.extras

-- how classes from one on stand, by the answers about them
abbrev pub standings_of : BoundsSettings → Change → List Stream → ℕ → List ClassAnswer → List Standing
standings_of s c table class [] = []
standings_of s c table class (answer ∷ answers) =
    standing_of s c class (streams_of s c class table) answer.verdict ∷ standings_of s c table (class + 1) answers

-- the answers about classes from one on
abbrev pub AreAnswersFrom : BoundsSettings → Change → List Stream → ℕ → List ClassAnswer → Type 0
AreAnswersFrom s c table class [] = Unit {0}
AreAnswersFrom s c table class (answer ∷ answers) =
    IsClassAnswer s c table (standings_of s c table (class + 1) answers) class answer × AreAnswersFrom s c table (class + 1) answers

-- the answers about all eight classes
abbrev pub AreClassAnswers : BoundsSettings → Change → List Stream → List ClassAnswer → Type 0
AreClassAnswers s c table answers = (length answers ≡ 8) × AreAnswersFrom s c table 0 answers
