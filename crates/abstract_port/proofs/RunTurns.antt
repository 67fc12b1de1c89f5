-- The starts of a run come in turn, and what happens is what is answered.
use Rattle.std.proofs.Common.{◌≡◌, ◌<◌, ℕ, zero, suc, ◌+◌, ◌-◌, ◌||◌, ltb, Bool, true, false, List, [], ◌∷◌, ◌++◌, map, Option, Some, None, Result, Ok, Err, refl, sym, ap, ◌∙◌, subst, arith}
use Rattle.std.specs.Prelude.{filter, if◌then◌else◌}
use Rattle.std.proofs.lemmas.List.{map-append}
use Rattle.std.proofs.lemmas.List.Elements.{filter-append}
use Rattle.wire_time.specs.Moment.{greatest_moment}
use Rattle.wire_time.specs.declared.Frame.{Frame}
use Rattle.gates.specs.History.{Accepted}
use Rattle.abstract_port.specs.declared.Dropped.{Dropped}
use Rattle.abstract_port.specs.declared.Refused.{Refused}
use Rattle.abstract_port.specs.declared.Command.{Command}
use Rattle.abstract_port.specs.declared.Command.TheVariants.{Replace, Delete}
use Rattle.abstract_port.specs.declared.Start.{Start}
use Rattle.abstract_port.specs.declared.Event.{Event}
use Rattle.abstract_port.specs.declared.Event.TheVariants.{Arrive, Install, Clock, Query, Count}
use Rattle.abstract_port.specs.declared.Answer.{Answer}
use Rattle.abstract_port.specs.declared.Answer.TheVariants as Answered
use Rattle.abstract_port.specs.AbstractPort.{AbstractPort, class_for, verdict, waiting, next_start, starts_until, drop_in, after_arrival, counters_of, refusal, installs, installs_by}
use Rattle.abstract_port.specs.Answers.{arrival_answer, command_answer, answers_to, answers_of}
use Rattle.abstract_port.specs.Laws.{AreInTurn, wire_after, StartInTurn, TurnLaw, starts_in, AreApart, WireLaw}
use Rattle.abstract_port.specs.Tally.{started, departures, happened, happenings, told, is_told, ToldLaw}
use Rattle.abstract_port.proofs.TurnLaws as turn
use Rattle.abstract_port.proofs.TallyLaws.{departed}
use Rattle.abstract_port.proofs.RunLaws.{clock_by}
use Rattle.abstract_port.proofs.StartsLaws.{starts_until-some, starts_until-none, waiting-next_start}

-- ---- in turn

turns_by : (n upto : ℕ) (p : AbstractPort) → waiting p < n → StartInTurn p upto
turns_by zero upto p few = absurd (omega arith)
turns_by (suc n) upto p few = go (next_start p upto).0 refl (turns_by n upto (next_start p upto).1)
  where
    q : AbstractPort
    q = (next_start p upto).1

    go : (o : Option Start) → (next_start p upto).0 ≡ o → (waiting q < n → StartInTurn q upto) → StartInTurn p upto
    go None e later =
        let is = starts_until-none p upto e in
        record {
          in_turn = subst (λ x. AreInTurn p.history p.free x.0) (sym is) tt;
          wire = ap (λ x. x.1.free) is ∙ (ap (λ x. x.free) (turn.scan-none_started p p.now (upto - p.now) e) ∙ ap (λ x. wire_after p.free x.0) (sym is));
        }
    go (Some s) e later =
        let t = turn.next_start-started p upto s e in
        let fewer : waiting q + 1 ≡ waiting p = waiting-next_start p upto s e in
        let rest = later (omega (arith, fewer)) in
        let is = starts_until-some p upto s e in
        let history : q.history ≡ p.history = ap (λ x. x.history) t.port in
        let free : q.free ≡ s.«end» = ap (λ x. x.free) t.port in
        let turns : AreInTurn p.history s.«end» (starts_until q upto).0 =
        subst (λ f. AreInTurn p.history f (starts_until q upto).0) free (subst (λ h. AreInTurn h q.free (starts_until q upto).0) history rest.in_turn) in
        record {
          in_turn = subst (λ x. AreInTurn p.history p.free x.0) (sym is) (t.free, t.opens, turns);
          wire = ap (λ x. x.1.free) is ∙ (rest.wire ∙ (ap (λ f. wire_after f (starts_until q upto).0) free ∙ ap (λ x. wire_after p.free x.0) (sym is)));
        }

-- the law of the starts of a clock event
pub turns : TurnLaw
turns p upto = turns_by (waiting p + 1) upto p (omega arith)

apart_of : (history : List Accepted) (free : ℕ) (starts : List Start) → AreInTurn history free starts → AreApart free starts
apart_of history free [] h = tt
apart_of history free (s ∷ rest) h = (h.0, apart_of history s.«end» rest h.2)

apart-append : (free : ℕ) (xs ys : List Start) → AreApart free xs → AreApart (wire_after free xs) ys → AreApart free (xs ++ ys)
apart-append free [] ys a b = b
apart-append free (s ∷ xs) ys a b = (a.0, apart-append s.«end» xs ys a.1 b)

pub starts_in-append : (xs ys : List Answer) → starts_in (xs ++ ys) ≡ starts_in xs ++ starts_in ys
starts_in-append [] ys = refl
starts_in-append (Answered.Queued i c ∷ xs) ys = starts_in-append xs ys
starts_in-append (Answered.Dropped i w ∷ xs) ys = starts_in-append xs ys
starts_in-append (Answered.Installed m ∷ xs) ys = starts_in-append xs ys
starts_in-append (Answered.Refused r ∷ xs) ys = starts_in-append xs ys
starts_in-append (Answered.Start s ∷ xs) ys = ap (λ z. s ∷ z) (starts_in-append xs ys)
starts_in-append (Answered.Backward ∷ xs) ys = starts_in-append xs ys
starts_in-append (Answered.Report r ∷ xs) ys = starts_in-append xs ys
starts_in-append (Answered.Counters c n ∷ xs) ys = starts_in-append xs ys
starts_in-append (Answered.BadClass ∷ xs) ys = starts_in-append xs ys

pub starts_in-starts : (xs : List Start) → starts_in (map Answered.Start xs) ≡ xs
starts_in-starts [] = refl
starts_in-starts (s ∷ xs) = ap (λ z. s ∷ z) (starts_in-starts xs)

-- what an event does to the wire
record Wired (event : Event) (p : AbstractPort) : Type 0 where
  apart : AreApart p.free (starts_in (answers_to event p).0)
  wire : (answers_to event p).1.free ≡ wire_after p.free (starts_in (answers_to event p).0)

quiet : (event : Event) (p : AbstractPort) → starts_in (answers_to event p).0 ≡ [] → (answers_to event p).1.free ≡ p.free → Wired event p
quiet event p none same = record {
  apart = subst (AreApart p.free) (sym none) tt;
  wire = same ∙ ap (wire_after p.free) (sym none);
}

arrival_starts : (f : Frame) (v : Result ℕ Dropped) → starts_in (arrival_answer f v ∷ []) ≡ []
arrival_starts f (Ok class) = refl
arrival_starts f (Err why) = refl

drop_free : (p : AbstractPort) (why : Dropped) (o : Option ℕ) → (drop_in p why o).free ≡ p.free
drop_free p why None = refl
drop_free p why (Some class) = refl

arrival_free : (p : AbstractPort) (f : Frame) (v : Result ℕ Dropped) → (after_arrival p f v).free ≡ p.free
arrival_free p f (Ok class) = refl
arrival_free p f (Err why) = drop_free p why (class_for p f.priority)

command_starts : (r : Result ℕ Refused) → starts_in (command_answer r ∷ []) ≡ []
command_starts (Ok change) = refl
command_starts (Err why) = refl

install_free : (p : AbstractPort) (command : Command) (r : Option Refused) → (installs_by r p command).1.free ≡ p.free
install_free p Delete None = refl
install_free p (Replace c) None = refl
install_free p command (Some r) = refl

count_starts : (b : Bool) (class : ℕ) (p : AbstractPort) → starts_in (if b then Answered.Counters class (counters_of p class) ∷ [] else Answered.BadClass ∷ []) ≡ []
count_starts true class p = refl
count_starts false class p = refl

clock_apart : (b : Bool) (m : ℕ) (p : AbstractPort) → AreApart p.free (starts_in (clock_by b m p).0)
clock_apart true m p = tt
clock_apart false m p =
    subst (AreApart p.free) (sym (starts_in-starts (starts_until p m).0)) (apart_of p.history p.free (starts_until p m).0 (turns p m).in_turn)

clock_wire : (b : Bool) (m : ℕ) (p : AbstractPort) → (clock_by b m p).1.free ≡ wire_after p.free (starts_in (clock_by b m p).0)
clock_wire true m p = refl
clock_wire false m p = (turns p m).wire ∙ ap (wire_after p.free) (sym (starts_in-starts (starts_until p m).0))

wired : (event : Event) (p : AbstractPort) → Wired event p
wired (Arrive f) p = quiet (Arrive f) p (arrival_starts f (verdict p f)) (arrival_free p f (verdict p f))
wired (Install c) p = quiet (Install c) p (command_starts (installs p c.now).0) (install_free p c.now (refusal p c.now))
wired (Clock m) p = record { apart = clock_apart (ltb m p.now || ltb greatest_moment m) m p; wire = clock_wire (ltb m p.now || ltb greatest_moment m) m p }
wired Query p = quiet Query p refl refl
wired (Count class) p = quiet (Count class) p (count_starts (ltb class 8) class p) refl

-- the law of the wire in a run
pub wires : WireLaw
wires p [] = tt
wires p (event ∷ rest) =
    let w = wired event p in
    subst (AreApart p.free) (sym (starts_in-append (answers_to event p).0 (answers_of rest (answers_to event p).1)))
    (apart-append p.free (starts_in (answers_to event p).0) (starts_in (answers_of rest (answers_to event p).1)) w.apart
    (subst (λ f. AreApart f (starts_in (answers_of rest (answers_to event p).1))) w.wire (wires (answers_to event p).1 rest)))

-- ---- what is answered

told_starts : (n upto : ℕ) (p : AbstractPort) → waiting p < n → map told (departures n upto p) ≡ map Answered.Start (starts_until p upto).0
told_starts zero upto p few = absurd (omega arith)
told_starts (suc n) upto p few = go (next_start p upto).0 refl (told_starts n upto (next_start p upto).1)
  where
    q : AbstractPort
    q = (next_start p upto).1

    go : (o : Option Start) → (next_start p upto).0 ≡ o → (waiting q < n → map told (departures n upto q) ≡ map Answered.Start (starts_until q upto).0)
        → map told (departures (suc n) upto p) ≡ map Answered.Start (starts_until p upto).0
    go None e later = ap (map told) (departed n upto p None q e refl) ∙ ap (λ x. map Answered.Start x.0) (sym (starts_until-none p upto e))
    go (Some s) e later =
        let t = turn.next_start-started p upto s e in
        let fewer : waiting q + 1 ≡ waiting p = waiting-next_start p upto s e in
        ap (map told) (departed n upto p (Some s) q e refl ∙ ap (λ queue. started (Some s) queue (departures n upto q)) t.waits)
        ∙ (ap (λ x. Answered.Start s ∷ x) (later (omega (arith, fewer)))
        ∙ ap (λ x. map Answered.Start x.0) (sym (starts_until-some p upto s e)))

told_all : (xs : List Start) → filter is_told (map Answered.Start xs) ≡ map Answered.Start xs
told_all [] = refl
told_all (s ∷ xs) = ap (λ z. Answered.Start s ∷ z) (told_all xs)

told_arrival : (f : Frame) (v : Result ℕ Dropped) → arrival_answer f v ∷ [] ≡ filter is_told (arrival_answer f v ∷ [])
told_arrival f (Ok class) = refl
told_arrival f (Err why) = refl

told_command : (r : Result ℕ Refused) → [] ≡ filter is_told (command_answer r ∷ [])
told_command (Ok change) = refl
told_command (Err why) = refl

told_count : (b : Bool) (class : ℕ) (p : AbstractPort) → [] ≡ filter is_told (if b then Answered.Counters class (counters_of p class) ∷ [] else Answered.BadClass ∷ [])
told_count true class p = refl
told_count false class p = refl

told_clock : (b : Bool) (m : ℕ) (p : AbstractPort) → map told (if b then [] else departures (waiting p + 1) m p) ≡ filter is_told (clock_by b m p).0
told_clock true m p = refl
told_clock false m p = told_starts (waiting p + 1) m p (omega arith) ∙ sym (told_all (starts_until p m).0)

told_event : (event : Event) (p : AbstractPort) → map told (happened event p) ≡ filter is_told (answers_to event p).0
told_event (Arrive f) p = told_arrival f (verdict p f)
told_event (Install c) p = told_command (installs p c.now).0
told_event (Clock m) p = told_clock (ltb m p.now || ltb greatest_moment m) m p
told_event Query p = refl
told_event (Count class) p = told_count (ltb class 8) class p

-- the law of what is counted and what is answered
pub telling : ToldLaw
telling p [] = refl
telling p (event ∷ rest) =
    map-append told (happened event p) (happenings rest (answers_to event p).1)
    ∙ (ap (λ x. x ++ map told (happenings rest (answers_to event p).1)) (told_event event p)
    ∙ (ap (λ x. filter is_told (answers_to event p).0 ++ x) (telling (answers_to event p).1 rest)
    ∙ sym (filter-append is_told (answers_to event p).0 (answers_of rest (answers_to event p).1))))
