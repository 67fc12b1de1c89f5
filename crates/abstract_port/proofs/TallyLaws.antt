-- How counters grow over a run.
use Rattle.std.proofs.Common.{◌≡◌, ◌<◌, ◌≤◌, ℕ, zero, suc, ◌+◌, ◌-◌, ◌==◌, ◌||◌, ltb, Bool, true, false, List, [], ◌∷◌, ◌++◌, length, get_or, Option, Some, None, Result, Ok, Err, refl, sym, ap, ◌∙◌, subst, arith, inl, inr, add-zero}
use Rattle.std.specs.Prelude.{slice_set, sum_by, if◌then◌else◌}
use Rattle.std.proofs.lemmas.Bool.{cases_eq}
use Rattle.std.proofs.lemmas.List.{get_or-set_same, get_or-set_other, length-set}
use Rattle.std.proofs.lemmas.List.Sums.{sum_by-append, sum_by-cons}
use Rattle.wire_time.specs.Moment.{greatest_moment}
use Rattle.wire_time.specs.declared.Frame.{Frame}
use Rattle.abstract_port.specs.declared.Dropped.{Dropped}
use Rattle.abstract_port.specs.declared.Dropped.TheVariants.{NoClass, Runt, TooLong, OverSdu, Full}
use Rattle.abstract_port.specs.declared.Start.{Start}
use Rattle.abstract_port.specs.declared.Counts.{Counts}
use Rattle.abstract_port.specs.declared.Command.{Command}
use Rattle.abstract_port.specs.declared.Command.TheVariants.{Replace, Delete}
use Rattle.abstract_port.specs.declared.Refused.{Refused}
use Rattle.abstract_port.specs.declared.Event.{Event}
use Rattle.abstract_port.specs.declared.Event.TheVariants.{Arrive, Install, Clock, Query, Count}
use Rattle.abstract_port.specs.AbstractPort.{AbstractPort, counts_at, class_for, verdict, waiting, next_start, starts_until, drop_in, after_arrival, refusal, installs, installs_by}
use Rattle.abstract_port.specs.Answers.{answers_to, port_after}
use Rattle.abstract_port.specs.FrameCounts.{add_capped, count_sent, count_dropped, no_counts}
use Rattle.abstract_port.specs.Tally.{Happening, Arrived, Started, Counter, Accepted, Sent, SentOctets, Runts, TooLongs, OverSdus, Fulls, value_of, by_accepted, by_start, by_drop, only_in, growth, started, first_of_class, departures, happened, happenings, CountingLaw}
use Rattle.gates.specs.Visits.{greatest_count}
use Rattle.abstract_port.proofs.TurnLaws as turn
use Rattle.abstract_port.proofs.RunLaws.{clock_by}
use Rattle.abstract_port.proofs.StartsLaws.{starts_until-some, starts_until-none, waiting-next_start}

pub same_capped : (n : ℕ) → n ≤ greatest_count → n ≡ add_capped n 0
same_capped n l = omega arith

-- Two counts that are added one after another are added at once.
pub add_twice : (n a b : ℕ) → add_capped (add_capped n a) b ≡ add_capped n (a + b)
add_twice n a b = omega arith

-- A count is at most the greatest u64.
pub capped_within : (n a : ℕ) → add_capped n a ≤ greatest_count
capped_within n a = omega arith

-- one frame more
accept_more : (k : Counter) (c : Counts) → value_of k c ≤ greatest_count → value_of k (record c { accepted = add_capped c.accepted 1 }) ≡ add_capped (value_of k c) (by_accepted k)
accept_more Accepted c l = refl
accept_more Sent c l = same_capped c.sent l
accept_more SentOctets c l = same_capped c.sent_octets l
accept_more Runts c l = same_capped c.runt l
accept_more TooLongs c l = same_capped c.too_long l
accept_more OverSdus c l = same_capped c.over_sdu l
accept_more Fulls c l = same_capped c.full l

send_more : (k : Counter) (f : Frame) (c : Counts) → value_of k c ≤ greatest_count → value_of k (count_sent f c) ≡ add_capped (value_of k c) (by_start k f)
send_more Accepted f c l = same_capped c.accepted l
send_more Sent f c l = refl
send_more SentOctets f c l = refl
send_more Runts f c l = same_capped c.runt l
send_more TooLongs f c l = same_capped c.too_long l
send_more OverSdus f c l = same_capped c.over_sdu l
send_more Fulls f c l = same_capped c.full l

drop_more : (k : Counter) (why : Dropped) (c : Counts) → value_of k c ≤ greatest_count → value_of k (count_dropped why c) ≡ add_capped (value_of k c) (by_drop k why)
drop_more Accepted NoClass c l = same_capped c.accepted l
drop_more Accepted Runt c l = same_capped c.accepted l
drop_more Accepted TooLong c l = same_capped c.accepted l
drop_more Accepted OverSdu c l = same_capped c.accepted l
drop_more Accepted Full c l = same_capped c.accepted l
drop_more Sent NoClass c l = same_capped c.sent l
drop_more Sent Runt c l = same_capped c.sent l
drop_more Sent TooLong c l = same_capped c.sent l
drop_more Sent OverSdu c l = same_capped c.sent l
drop_more Sent Full c l = same_capped c.sent l
drop_more SentOctets NoClass c l = same_capped c.sent_octets l
drop_more SentOctets Runt c l = same_capped c.sent_octets l
drop_more SentOctets TooLong c l = same_capped c.sent_octets l
drop_more SentOctets OverSdu c l = same_capped c.sent_octets l
drop_more SentOctets Full c l = same_capped c.sent_octets l
drop_more Runts NoClass c l = same_capped c.runt l
drop_more Runts Runt c l = refl
drop_more Runts TooLong c l = same_capped c.runt l
drop_more Runts OverSdu c l = same_capped c.runt l
drop_more Runts Full c l = same_capped c.runt l
drop_more TooLongs NoClass c l = same_capped c.too_long l
drop_more TooLongs Runt c l = same_capped c.too_long l
drop_more TooLongs TooLong c l = refl
drop_more TooLongs OverSdu c l = same_capped c.too_long l
drop_more TooLongs Full c l = same_capped c.too_long l
drop_more OverSdus NoClass c l = same_capped c.over_sdu l
drop_more OverSdus Runt c l = same_capped c.over_sdu l
drop_more OverSdus TooLong c l = same_capped c.over_sdu l
drop_more OverSdus OverSdu c l = refl
drop_more OverSdus Full c l = same_capped c.over_sdu l
drop_more Fulls NoClass c l = same_capped c.full l
drop_more Fulls Runt c l = same_capped c.full l
drop_more Fulls TooLong c l = same_capped c.full l
drop_more Fulls OverSdu c l = same_capped c.full l
drop_more Fulls Full c l = refl

-- the counts of one class are written
module _ (k : Counter) (class : ℕ) (counts : List Counts) (within : class < length counts) (least : value_of k (get_or counts class no_counts) ≤ greatest_count) where
  written : (d n : ℕ) (c : Counts) → (d ≡ class → value_of k c ≡ add_capped (value_of k (get_or counts d no_counts)) n)
      → value_of k (get_or (slice_set counts d c) class no_counts) ≡ add_capped (value_of k (get_or counts class no_counts)) (only_in class d n)
  written d n c grows =
      elim (cases_eq d class) [
        | inl e ↦
            let here : d == class ≡ true = grind (arith, e) in
            let less : d < length counts = omega arith in
            rw here
            (ap (λ i. value_of k (get_or (slice_set counts d c) i no_counts)) (sym e)
            ∙ (ap (value_of k) (get_or-set_same counts d c no_counts less)
            ∙ (grows e ∙ ap (λ i. add_capped (value_of k (get_or counts i no_counts)) n) e)))
        | inr ne ↦
            let there : d == class ≡ false = grind (arith, ne) in
            rw there (ap (value_of k) (get_or-set_other counts d class c no_counts (λ x. ne (sym x))) ∙ same_capped (value_of k (get_or counts class no_counts)) least)
      ]

-- the starts before a moment
pub departed : (n upto : ℕ) (p : AbstractPort) (o : Option Start) (q : AbstractPort) → (next_start p upto).0 ≡ o → (next_start p upto).1 ≡ q
    → departures (suc n) upto p ≡ started o (first_of_class p o) (departures n upto q)
unfolding departures
departed n upto p o q is_start is_port = ap (λ x. started x (first_of_class p x) (departures n upto (next_start p upto).1)) is_start ∙ ap (λ y. started o (first_of_class p o) (departures n upto y)) is_port

-- a counter grows from one port to another by what happens between
pub record Grows (k : Counter) (class : ℕ) (p q : AbstractPort) (hs : List Happening) : Type 0 where
  pub long : length q.counts ≡ length p.counts
  pub value : value_of k (counts_at q class) ≡ add_capped (value_of k (counts_at p class)) (sum_by (growth k class) hs)

module _ (k : Counter) (class : ℕ) where
  grows_none : (p q : AbstractPort) → q.counts ≡ p.counts → value_of k (counts_at p class) ≤ greatest_count → Grows k class p q []
  grows_none p q same l = record {
    long = ap (λ cs. length cs) same;
    value = ap (λ cs. value_of k (get_or cs class no_counts)) same ∙ same_capped (value_of k (counts_at p class)) l;
  }

  grows_on : (p q r : AbstractPort) (hs js : List Happening) → Grows k class p q hs → Grows k class q r js → Grows k class p r (hs ++ js)
  grows_on p q r hs js a b = record {
    long = b.long ∙ a.long;
    value =
        b.value
        ∙ (ap (λ n. add_capped n (sum_by (growth k class) js)) a.value
        ∙ (add_twice (value_of k (counts_at p class)) (sum_by (growth k class) hs) (sum_by (growth k class) js)
        ∙ ap (add_capped (value_of k (counts_at p class))) (sym (sum_by-append (growth k class) hs js))));
  }

  grows_within : (p q : AbstractPort) (hs : List Happening) → Grows k class p q hs → value_of k (counts_at q class) ≤ greatest_count
  grows_within p q hs g = let e = g.value in let w = capped_within (value_of k (counts_at p class)) (sum_by (growth k class) hs) in subst (λ n. n ≤ greatest_count) (sym e) w

  one : (h : Happening) → sum_by (growth k class) (h ∷ []) ≡ growth k class h
  one h = sum_by-cons (growth k class) h [] ∙ add-zero (growth k class h)

  -- one thing happens, and the counts of one class are written
  grows_one : (p q : AbstractPort) (h : Happening) (d n : ℕ) (c : Counts) → class < length p.counts → value_of k (counts_at p class) ≤ greatest_count
      → q.counts ≡ slice_set p.counts d c → growth k class h ≡ only_in class d n → (d ≡ class → value_of k c ≡ add_capped (value_of k (counts_at p d)) n) → Grows k class p q (h ∷ [])
  grows_one p q h d n c within least is grown grows = record {
    long = ap (λ cs. length cs) is ∙ length-set p.counts d c;
    value =
        ap (λ cs. value_of k (get_or cs class no_counts)) is
        ∙ (written k class p.counts within least d n c grows
        ∙ ap (add_capped (value_of k (counts_at p class))) (sym grown ∙ sym (one h)));
  }

  module _ (p : AbstractPort) (within : class < length p.counts) (least : value_of k (counts_at p class) ≤ greatest_count) where
    here : (d : ℕ) → d ≡ class → value_of k (counts_at p d) ≤ greatest_count
    here d e = subst (λ i. value_of k (counts_at p i) ≤ greatest_count) (sym e) least

    grows_arrival : (f : Frame) (o : Option ℕ) (v : Result ℕ Dropped) → class_for p f.priority ≡ o → Grows k class p (after_arrival p f v) (Arrived f o v ∷ [])
    grows_arrival f o (Ok d) is =
        grows_one p (after_arrival p f (Ok d)) (Arrived f o (Ok d)) d (by_accepted k) (record (counts_at p d) { accepted = add_capped (counts_at p d).accepted 1 }) within least refl refl
        (λ e. accept_more k (counts_at p d) (here d e))
    grows_arrival f (Some d) (Err why) is =
        grows_one p (after_arrival p f (Err why)) (Arrived f (Some d) (Err why)) d (by_drop k why) (count_dropped why (counts_at p d)) within least
        (ap (λ x. (drop_in p why x).counts) is) refl
        (λ e. drop_more k why (counts_at p d) (here d e))
    grows_arrival f None (Err why) is =
        record {
          long = ap (λ x. length (drop_in p why x).counts) is;
          value =
              ap (λ x. value_of k (counts_at (drop_in p why x) class)) is
              ∙ (same_capped (value_of k (counts_at p class)) least
              ∙ ap (add_capped (value_of k (counts_at p class))) (sym (one (Arrived f None (Err why)))));
        }

  -- a start
  grows_start : (p q : AbstractPort) (m : ℕ) (s : Start) → class < length p.counts → value_of k (counts_at p class) ≤ greatest_count → (t : turn.Started p m s q) → Grows k class p q (Started s t.frame ∷ [])
  grows_start p q m s within least t =
      grows_one p q (Started s t.frame) s.class (by_start k t.frame) (count_sent t.frame (counts_at p s.class)) within least (ap (λ x. x.counts) t.port) refl
      (λ e. send_more k t.frame (counts_at p s.class) (subst (λ i. value_of k (counts_at p i) ≤ greatest_count) (sym e) least))

  start_of_none : (p : AbstractPort) (upto : ℕ) → (next_start p upto).0 ≡ None → (next_start p upto).1.counts ≡ p.counts
  start_of_none p upto e = ap (λ x. x.counts) (turn.scan-none_started p p.now (upto - p.now) e)

  grows_starts : (n upto : ℕ) (p : AbstractPort) → waiting p < n → class < length p.counts → value_of k (counts_at p class) ≤ greatest_count
      → Grows k class p (starts_until p upto).1 (departures n upto p)
  grows_starts zero upto p few within least = absurd (omega arith)
  grows_starts (suc n) upto p few within least = go (next_start p upto).0 refl (grows_starts n upto (next_start p upto).1)
    where
      q : AbstractPort
      q = (next_start p upto).1

      go : (o : Option Start) → (next_start p upto).0 ≡ o
          → (waiting q < n → class < length q.counts → value_of k (counts_at q class) ≤ greatest_count → Grows k class q (starts_until q upto).1 (departures n upto q))
          → Grows k class p (starts_until p upto).1 (departures (suc n) upto p)
      go None e later =
          subst (λ hs. Grows k class p (starts_until p upto).1 hs) (sym (departed n upto p None q e refl))
          (subst (λ r. Grows k class p r []) (ap (λ x. x.1) (sym (starts_until-none p upto e)))
          (grows_none p q (start_of_none p upto e) least))
      go (Some s) e rest =
          let t = turn.next_start-started p upto s e in
          let first = grows_start p q p.now s within least t in
          let fewer : waiting q + 1 ≡ waiting p = waiting-next_start p upto s e in
          let longer = first.long in
          let later = rest (omega (arith, fewer)) (omega (arith, longer)) (grows_within p q (Started s t.frame ∷ []) first) in
          subst (λ hs. Grows k class p (starts_until p upto).1 hs)
          (sym (departed n upto p (Some s) q e refl ∙ ap (λ queue. started (Some s) queue (departures n upto q)) t.waits))
          (subst (λ r. Grows k class p r (Started s t.frame ∷ departures n upto q)) (ap (λ x. x.1) (sym (starts_until-some p upto s e)))
          (grows_on p q (starts_until q upto).1 (Started s t.frame ∷ []) (departures n upto q) first later))

  -- a command
  install_counts : (p : AbstractPort) (command : Command) (r : Option Refused) → (installs_by r p command).1.counts ≡ p.counts
  install_counts p Delete None = refl
  install_counts p (Replace c) None = refl
  install_counts p command (Some r) = refl

  -- a clock event, by the test whether it is refused
  grows_clock : (b : Bool) (m : ℕ) (p : AbstractPort) → class < length p.counts → value_of k (counts_at p class) ≤ greatest_count → Grows k class p (clock_by b m p).1 (if b then [] else departures (waiting p + 1) m p)
  grows_clock true m p within least = grows_none p p refl least
  grows_clock false m p within least = grows_starts (waiting p + 1) m p (omega arith) within least

  grows_event : (event : Event) (p : AbstractPort) → class < length p.counts → value_of k (counts_at p class) ≤ greatest_count → Grows k class p (answers_to event p).1 (happened event p)
  grows_event (Arrive f) p within least = grows_arrival p within least f (class_for p f.priority) (verdict p f) refl
  grows_event (Install c) p within least = grows_none p (installs p c.now).1 (install_counts p c.now (refusal p c.now)) least
  grows_event (Clock m) p within least = grows_clock (ltb m p.now || ltb greatest_moment m) m p within least
  grows_event Query p within least = grows_none p p refl least
  grows_event (Count d) p within least = grows_none p p refl least

  grows_run : (events : List Event) (p : AbstractPort) → class < length p.counts → value_of k (counts_at p class) ≤ greatest_count → Grows k class p (port_after events p) (happenings events p)
  grows_run [] p within least = grows_none p p refl least
  grows_run (event ∷ rest) p within least =
      let first = grows_event event p within least in
      let longer = first.long in
      grows_on p (answers_to event p).1 (port_after rest (answers_to event p).1) (happened event p) (happenings rest (answers_to event p).1) first
      (grows_run rest (answers_to event p).1 (omega (arith, longer)) (grows_within p (answers_to event p).1 (happened event p) first))

-- the law of the counters of a class
pub counting : CountingLaw
counting k class p events within least = (grows_run k class events p within least).value
