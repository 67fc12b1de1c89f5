-- As many arrivals are kept as frames wait.
use Rattle.std.proofs.Common.{◌≡◌, ◌<◌, ◌≤◌, ℕ, zero, suc, ◌+◌, ◌-◌, ◌&&◌, ◌||◌, not, ◌==◌, leb, ltb, Bool, true, false, cond, List, [], ◌∷◌, ◌++◌, length, map, get_or, Option, Some, None, Result, Ok, Err, refl, sym, ap, ◌∙◌, subst, arith, ◌⊎◌, inl, inr}
use Rattle.std.specs.List.{AllByRecursion}
use Rattle.std.specs.Prelude.{max}
use Rattle.std.proofs.Math.ListN.{set}
use Rattle.std.proofs.lemmas.Bool.{cases_eq, cases_lt, lt-ltb}
use Rattle.std.proofs.lemmas.List.{get_or-set_same, get_or-set_other, length-set, length-append}
use Rattle.std.proofs.lemmas.List.Elements.{All-from_recursion}
use Rattle.wire_time.specs.Moment.{greatest_moment}
use Rattle.wire_time.specs.Wire.{sdu_of}
use Rattle.wire_time.specs.declared.Frame.{Frame}
use Rattle.abstract_port.specs.declared.Answer.TheVariants as Answered
use Rattle.abstract_port.specs.declared.Command.{Command}
use Rattle.abstract_port.specs.declared.Command.TheVariants.{Replace, Delete}
use Rattle.abstract_port.specs.declared.Dropped.{Dropped}
use Rattle.abstract_port.specs.declared.Dropped.TheVariants.{NoClass, TooLong, OverSdu, Full}
use Rattle.abstract_port.specs.declared.Event.{Event}
use Rattle.abstract_port.specs.declared.Event.TheVariants.{Arrive, Install, Clock, Query, Count}
use Rattle.abstract_port.specs.declared.Refused.{Refused}
use Rattle.abstract_port.specs.declared.Start.{Start}
use Rattle.abstract_port.specs.AbstractPort.{AbstractPort, after_arrival, class_for, counters_of, drop_in, installs_by, judged, limit_of, new_port, next_start, queue_in, queue_of, refusal, starts_until, verdict, verdict_in, waiting}
use Rattle.abstract_port.specs.Answers.{answers_to, arrival_answer, command_answer, port_after}
use Rattle.abstract_port.proofs.RunLaws.{clock_by}
use Rattle.abstract_port.proofs.StartsLaws.{starts_until-some, starts_until-none, waiting-next_start}
use Rattle.abstract_port.proofs.TurnLaws.{Started, next_start-started, scan-none_started}
use Rattle.summary.specs.Observed.{ClassSeen, Observed, class_at, in_class, no_frames, nothing_seen, observed_after, seen, seen_all, starts_first, with_arrival, with_start}
use Rattle.summary.specs.Pace.{PaceLaw}

-- what is kept from one answer to the next
pub record InPace (p : AbstractPort) (o : Observed) : Type 0 where
  pub queues : length p.queues ≡ 8
  pub classes : length o.classes ≡ 8
  pub pace : (class : ℕ) → class < 8 → length (class_at o.classes class).arrivals ≡ length (queue_of p class)
  pub rooms : (class : ℕ) → class < 8 → (class_at o.classes class).room ≡ p.room

-- a port with the same queues and the same room
same_queues : (p q : AbstractPort) (o : Observed) → q.queues ≡ p.queues → q.room ≡ p.room → InPace p o → InPace q o
same_queues p q o queues room i = record {
  queues = ap (λ xs. length xs) queues ∙ i.queues;
  classes = i.classes;
  pace = λ class less. i.pace class less ∙ ap (λ (xs : List (List Frame)). length (get_or xs class [])) (sym queues);
  rooms = λ class less. i.rooms class less ∙ sym room;
}

-- one class changes, in the queues and in what is seen
module _ (p : AbstractPort) (o : Observed) (d : ℕ) (queue : List Frame) (c : ClassSeen) (i : InPace p o) (same : length c.arrivals ≡ length queue) (room : c.room ≡ p.room) where
  changed_pace : (class : ℕ) → class < 8 → length (class_at (set o.classes d c) class).arrivals ≡ length (get_or (set p.queues d queue) class [])
  changed_pace class less =
      elim (cases_eq class d) [
        | inl e ↦
            let seen_there : d < length o.classes = let n = i.classes in omega arith in
            let waits_there : d < length p.queues = let n = i.queues in omega arith in
            ap (λ k. length (class_at (set o.classes d c) k).arrivals) e
            ∙ ap (λ (x : ClassSeen). length x.arrivals) (get_or-set_same o.classes d c (no_frames 0) seen_there)
            ∙ same
            ∙ ap (λ (x : List Frame). length x) (sym (get_or-set_same p.queues d queue [] waits_there))
            ∙ ap (λ k. length (get_or (set p.queues d queue) k [])) (sym e)
        | inr ne ↦
            ap (λ (x : ClassSeen). length x.arrivals) (get_or-set_other o.classes d class c (no_frames 0) ne)
            ∙ i.pace class less
            ∙ ap (λ (x : List Frame). length x) (sym (get_or-set_other p.queues d class queue [] ne))
      ]

  changed_rooms : (class : ℕ) → class < 8 → (class_at (set o.classes d c) class).room ≡ p.room
  changed_rooms class less =
      elim (cases_eq class d) [
        | inl e ↦
            let seen_there : d < length o.classes = let n = i.classes in omega arith in
            ap (λ k. (class_at (set o.classes d c) k).room) e ∙ ap (λ (x : ClassSeen). x.room) (get_or-set_same o.classes d c (no_frames 0) seen_there) ∙ room
        | inr ne ↦ ap (λ (x : ClassSeen). x.room) (get_or-set_other o.classes d class c (no_frames 0) ne) ∙ i.rooms class less
      ]

  changed : InPace (record p { queues = set p.queues d queue }) (record o { classes = set o.classes d c })
  changed = record {
    queues = length-set p.queues d queue ∙ i.queues;
    classes = length-set o.classes d c ∙ i.classes;
    pace = changed_pace;
    rooms = changed_rooms;
  }

-- a class that is none changes no queue of a class
beyond : (p : AbstractPort) (o : Observed) (d : ℕ) (queue : List Frame) → 8 ≤ d → InPace p o → InPace (record p { queues = set p.queues d queue }) o
beyond p o d queue more i = record {
  queues = length-set p.queues d queue ∙ i.queues;
  classes = i.classes;
  pace = λ class less. i.pace class less ∙ ap (λ (x : List Frame). length x) (sym (get_or-set_other p.queues d class queue [] (λ e. omega arith)));
  rooms = i.rooms;
}

-- ---- arrivals

judged_by : (a b e : Bool) (class d : ℕ) → ◌≡◌ {A = Result ℕ Dropped} (cond a (Err TooLong) (cond b (Err OverSdu) (cond e (Err Full) (Ok class)))) (Ok d) → (e ≡ false) × (class ≡ d)
judged_by true b e class d h = absurd (cc)
judged_by false true e class d h = absurd (cc)
judged_by false false true class d h = absurd (cc)
judged_by false false false class d h = (refl, cc)

-- a frame that is queued has room
judged_room : (mtu limit room waits class d : ℕ) (sdu : Option ℕ) → judged mtu limit room waits class sdu ≡ Ok d → (waits < room) × (class ≡ d)
judged_room mtu limit room waits class d None h = absurd (cc)
judged_room mtu limit room waits class d (Some sdu) h =
    let k = judged_by (ltb mtu sdu) (not (limit == 0) && ltb limit sdu) (leb room waits) class d h in
    let full = k.0 in
    (grind (arith, full), k.1)

abbrev by_class : AbstractPort → Frame → Option ℕ → Result ℕ Dropped
by_class p f o = elim o [ Some class ↦ verdict_in p class (sdu_of f) | None ↦ Err NoClass ]

by_room : (p : AbstractPort) (f : Frame) (o : Option ℕ) (d : ℕ) → by_class p f o ≡ Ok d → length (queue_of p d) < p.room
by_room p f None d h = absurd (cc)
by_room p f (Some class) d h =
    let k = judged_room p.mtu (limit_of p class) p.room (length (queue_of p class)) class d (sdu_of f) h in
    subst (λ n. length (queue_of p n) < p.room) k.1 k.0

abbrev one_more : ℕ → ClassSeen → ClassSeen
one_more now c = record c { arrivals = c.arrivals ++ now ∷ []; most = max c.most (length c.arrivals + 1) }

arrival_room : (b : Bool) (now : ℕ) (c : ClassSeen) → (cond b (one_more now c) c).room ≡ c.room
arrival_room true now c = refl
arrival_room false now c = refl

arrival_length : (now : ℕ) (c : ClassSeen) → length c.arrivals < c.room → length (with_arrival now c).arrivals ≡ length c.arrivals + 1
arrival_length now c less = ap (λ b. length (cond b (one_more now c) c).arrivals) (lt-ltb (length c.arrivals) c.room less) ∙ length-append c.arrivals (now ∷ [])

-- a class that is one changes
abbrev changed_by : Bool → ℕ → ClassSeen → Observed → Observed
changed_by b d c o = cond b (record o { classes = set o.classes d c }) o

queued : (p : AbstractPort) (o : Observed) (f : Frame) (d : ℕ) → length (queue_of p d) < p.room → InPace p o → (d < 8) ⊎ (8 ≤ d) → InPace (queue_in p d f) (in_class d (with_arrival p.now) o)
queued p o f d fits i (inl less) =
    let c = class_at o.classes d in
    let paced = i.pace d less in
    let rooms = i.rooms d less in
    let within : length c.arrivals < c.room = omega (arith, fits, paced, rooms) in
    let same : length (with_arrival p.now c).arrivals ≡ length (queue_of p d ++ f ∷ []) =
    arrival_length p.now c within ∙ ap (λ n. n + 1) paced ∙ sym (length-append (queue_of p d) (f ∷ [])) in
    let after = changed p o d (queue_of p d ++ f ∷ []) (with_arrival p.now c) i same (arrival_room (ltb (length c.arrivals) c.room) p.now c ∙ rooms) in
    subst (λ b. InPace (queue_in p d f) (changed_by b d (with_arrival p.now c) o)) (sym (lt-ltb d 8 less))
    (same_queues (record p { queues = set p.queues d (queue_of p d ++ f ∷ []) }) (queue_in p d f) (record o { classes = set o.classes d (with_arrival p.now c) }) refl refl after)
queued p o f d fits i (inr more) =
    let no : ltb d 8 ≡ false = grind (arith, more) in
    subst (λ b. InPace (queue_in p d f) (changed_by b d (with_arrival p.now (class_at o.classes d)) o)) (sym no)
    (same_queues (record p { queues = set p.queues d (queue_of p d ++ f ∷ []) }) (queue_in p d f) o refl refl (beyond p o d (queue_of p d ++ f ∷ []) more i))

drop_queues : (p : AbstractPort) (why : Dropped) (o : Option ℕ) → (drop_in p why o).queues ≡ p.queues
drop_queues p why (Some class) = refl
drop_queues p why None = refl

drop_room : (p : AbstractPort) (why : Dropped) (o : Option ℕ) → (drop_in p why o).room ≡ p.room
drop_room p why (Some class) = refl
drop_room p why None = refl

arrives : (p : AbstractPort) (o : Observed) (f : Frame) (v : Result ℕ Dropped) → verdict p f ≡ v → InPace p o → InPace (after_arrival p f v) (seen p.now (arrival_answer f v) o)
arrives p o f (Ok d) h i =
    let after = queued p o f d (by_room p f (class_for p f.priority) d h) i (cases_lt d 8) in
    record { queues = after.queues; classes = after.classes; pace = after.pace; rooms = after.rooms }
arrives p o f (Err why) h i = same_queues p (after_arrival p f (Err why)) o (drop_queues p why (class_for p f.priority)) (drop_room p why (class_for p f.priority)) i

-- ---- starts

start_length : (at n : ℕ) (arrivals : List ℕ) (c : ClassSeen) → length arrivals ≡ suc n → length (starts_first at arrivals c).arrivals ≡ n
start_length at n [] c e = absurd (cc)
start_length at n (came ∷ rest) c e = cc

start_room : (at : ℕ) (arrivals : List ℕ) (c : ClassSeen) → (starts_first at arrivals c).room ≡ c.room
start_room at [] c = refl
start_room at (came ∷ rest) c = refl

starts_one : (p : AbstractPort) (o : Observed) (m now : ℕ) (s : Start) (q : AbstractPort) → Started p m s q → InPace p o → InPace q (seen now (Answered.Start s) o)
starts_one p o m now s q t i =
    let c = class_at o.classes s.class in
    let here : length c.arrivals ≡ suc (length t.rest) = i.pace s.class t.less ∙ ap (λ (x : List Frame). length x) t.waits in
    let after = changed p o s.class t.rest (with_start s.at c) i (start_length s.at (length t.rest) c.arrivals c here) (start_room s.at c.arrivals c ∙ i.rooms s.class t.less) in
    let there = subst (λ b. InPace (record p { queues = set p.queues s.class t.rest }) (changed_by b s.class (with_start s.at c) o)) (sym (lt-ltb s.class 8 t.less)) after in
    let wired : InPace (record p { queues = set p.queues s.class t.rest }) (seen now (Answered.Start s) o) = record { queues = there.queues; classes = there.classes; pace = there.pace; rooms = there.rooms } in
    same_queues (record p { queues = set p.queues s.class t.rest }) q (seen now (Answered.Start s) o) (ap (λ (x : AbstractPort). x.queues) t.port) (ap (λ (x : AbstractPort). x.room) t.port) wired

-- starts are in pace, with the port after them
abbrev Paced : ℕ → Observed → List Start × AbstractPort → Type 0
Paced now o r = InPace r.1 (seen_all now (map Answered.Start r.0) o)

starts : (n upto now : ℕ) (p : AbstractPort) (o : Observed) → waiting p < n → InPace p o → InPace (starts_until p upto).1 (seen_all now (map Answered.Start (starts_until p upto).0) o)
starts zero upto now p o few i = absurd (omega arith)
starts (suc n) upto now p o few i = go (next_start p upto).0 refl (starts n upto now (next_start p upto).1)
  where
    q : AbstractPort
    q = (next_start p upto).1

    go : (first : Option Start) → (next_start p upto).0 ≡ first → ((x : Observed) → waiting q < n → InPace q x → InPace (starts_until q upto).1 (seen_all now (map Answered.Start (starts_until q upto).0) x)) → Paced now o (starts_until p upto)
    go None e later =
        let stays = scan-none_started p p.now (upto - p.now) e in
        subst (Paced now o) (sym (starts_until-none p upto e)) (same_queues p q o (ap (λ (x : AbstractPort). x.queues) stays) (ap (λ (x : AbstractPort). x.room) stays) i)
    go (Some s) e later =
        let fewer : waiting q + 1 ≡ waiting p = waiting-next_start p upto s e in
        subst (Paced now o) (sym (starts_until-some p upto s e)) (later (seen now (Answered.Start s) o) (omega (arith, fewer)) (starts_one p o p.now now s q (next_start-started p upto s e) i))

-- ---- events

-- a command that comes into force changes nothing of what is seen of the classes
same_classes : (p : AbstractPort) (o x : Observed) → x.classes ≡ o.classes → InPace p o → InPace p x
same_classes p o x classes i = record {
  queues = i.queues;
  classes = ap (λ cs. length cs) classes ∙ i.classes;
  pace = λ class less. ap (λ cs. length (class_at cs class).arrivals) classes ∙ i.pace class less;
  rooms = λ class less. ap (λ cs. (class_at cs class).room) classes ∙ i.rooms class less;
}

commanded : (p : AbstractPort) (o : Observed) (command : Command) (r : Option Refused) → InPace p o → InPace (installs_by r p command).1 (seen_all p.now (command_answer (installs_by r p command).0 ∷ []) o)
commanded p o Delete None i = let q = (installs_by None p Delete).1 in same_classes q o _ refl (same_queues p q o refl refl i)
commanded p o (Replace c) None i = let q = (installs_by None p (Replace c)).1 in same_classes q o _ refl (same_queues p q o refl refl i)
commanded p o command (Some r) i = i

clocked : (b : Bool) (m : ℕ) (p : AbstractPort) (o : Observed) → InPace p o → InPace (clock_by b m p).1 (seen_all p.now (clock_by b m p).0 o)
clocked true m p o i = i
clocked false m p o i = starts (waiting p + 1) m p.now p o (omega arith) i

counted : (b : Bool) (p : AbstractPort) (o : Observed) (class : ℕ) → InPace p o → InPace p (seen_all p.now (cond b (Answered.Counters class (counters_of p class) ∷ []) (Answered.BadClass ∷ [])) o)
counted true p o class i = i
counted false p o class i = i

event_pace : (event : Event) (p : AbstractPort) (o : Observed) → InPace p o → InPace (answers_to event p).1 (seen_all p.now (answers_to event p).0 o)
event_pace (Arrive f) p o i = arrives p o f (verdict p f) refl i
event_pace (Install c) p o i = commanded p o c.now (refusal p c.now) i
event_pace (Clock m) p o i = clocked (ltb m p.now || ltb greatest_moment m) m p o i
event_pace Query p o i = i
event_pace (Count class) p o i = counted (ltb class 8) p o class i

run_pace : (events : List Event) (p : AbstractPort) (o : Observed) → InPace p o → InPace (port_after events p) (observed_after events p o)
run_pace [] p o i = i
run_pace (event ∷ rest) p o i = run_pace rest (answers_to event p).1 (seen_all p.now (answers_to event p).0 o) (event_pace event p o i)

-- ---- a new port

new_pace : (ps mtu room : ℕ) → InPace (new_port ps mtu room) (nothing_seen room)
new_pace ps mtu room =
    let P : ClassSeen → Type 0 = λ c. c.arrivals ≡ [] in
    let Q : List Frame → Type 0 = λ queue. queue ≡ [] in
    let R : ClassSeen → Type 0 = λ c. c.room ≡ room in
    let p = new_port ps mtu room in
    let o = nothing_seen room in
    let none : AllByRecursion P o.classes = (refl, (refl, (refl, (refl, (refl, (refl, (refl, (refl, tt)))))))) in
    let empty : AllByRecursion Q p.queues = (refl, (refl, (refl, (refl, (refl, (refl, (refl, (refl, tt)))))))) in
    let rooms : AllByRecursion R o.classes = (refl, (refl, (refl, (refl, (refl, (refl, (refl, (refl, tt)))))))) in
    record {
      queues = refl;
      classes = refl;
      pace = λ class less. ap (λ (x : List ℕ). length x) (All-from_recursion P o.classes none class (no_frames 0) less) ∙ ap (λ (x : List Frame). length x) (sym (All-from_recursion Q p.queues empty class [] less));
      rooms = λ class less. All-from_recursion R o.classes rooms class (no_frames 0) less;
    }

pub keeping_pace : PaceLaw
keeping_pace ps mtu room events = (run_pace events (new_port ps mtu room) (nothing_seen room) (new_pace ps mtu room)).pace
