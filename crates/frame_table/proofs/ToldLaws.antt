-- Each start of a run is told by one row of its table, and by that of the frame that starts.
use Rattle.std.proofs.Common.{◌≡◌, ◌<◌, ◌≤◌, ℕ, zero, suc, ◌+◌, ◌-◌, Bool, true, false, cond, ltb, ◌||◌, List, [], ◌∷◌, ◌++◌, length, map, drop, get_or, Option, Some, None, Result, Ok, Err, ◌⊎◌, inl, inr, refl, sym, ap, ◌∙◌, subst, append-nil, arith, le_refl, le_trans}
use Rattle.std.proofs.Math.ListN.{set, get_or-map}
use Rattle.std.proofs.lemmas.Bool.{cases_lt, lt-ltb}
use Rattle.std.proofs.lemmas.Grind.{flat_map-append}
use Rattle.std.proofs.lemmas.List.{length-map, length-set, map-append, map-set}
use Rattle.std.specs.List.{slice_get}
use Rattle.wire_time.specs.declared.Frame.{Frame}
use Rattle.wire_time.specs.Moment.{greatest_moment}
use Rattle.wire_time.specs.Wire.{occupancy_of}
use Rattle.abstract_port.specs.AbstractPort.{AbstractPort, after_arrival, after_command, choice, class_for, counters_of, drop_in, installs_by, new_port, next_start, queue_in, queue_of, refusal, scan, start_head, start_or, starts_until, verdict, waiting}
use Rattle.abstract_port.specs.Answers.{answers_of, answers_to, arrival_answer, command_answer}
use Rattle.abstract_port.specs.Laws.{starts_in}
use Rattle.abstract_port.specs.declared.Answer.{Answer}
use Rattle.abstract_port.specs.declared.Answer.TheVariants as Answered
use Rattle.abstract_port.specs.declared.Command.{Command}
use Rattle.abstract_port.specs.declared.Command.TheVariants.{Delete, Replace}
use Rattle.abstract_port.specs.declared.Dropped.{Dropped}
use Rattle.abstract_port.specs.declared.Event.{Event}
use Rattle.abstract_port.specs.declared.Event.TheVariants.{Arrive, Clock, Count, Install, Query}
use Rattle.abstract_port.specs.declared.Refused.{Refused}
use Rattle.abstract_port.specs.declared.Start.{Start}
use Rattle.abstract_port.proofs.TurnLaws.{next_start-started, scan-none_started}
use Rattle.abstract_port.proofs.StartsLaws.{next_start-onward, starts_until-none, starts_until-some, waiting-next_start}
use Rattle.abstract_port.proofs.RunLaws.{clock_back, clock_on}
use Rattle.frame_table.specs.Rows.{arrival_at, arrives, departs, left_from, left_row, left_rows, rows_at, rows_of, sent_row}
use Rattle.frame_table.specs.Told.{AllTellOwn, ToldLaw, starts_told}
use Rattle.frame_table.specs.Waits.{comes, first_came, goes, none_wait, waiting_in}
use Rattle.frame_table.specs.declared.rows.Arrival.{Arrival}
use Rattle.frame_table.specs.declared.rows.FrameRow.{FrameRow}

told-append : (xs ys : List FrameRow) → starts_told (xs ++ ys) ≡ starts_told xs ++ starts_told ys
told-append xs ys = flat_map-append _ xs ys

own-append : (xs ys : List FrameRow) → AllTellOwn xs → AllTellOwn ys → AllTellOwn (xs ++ ys)
own-append [] ys a b = b
own-append (r ∷ rest) ys a b = (a.0, own-append rest ys a.1 b)

-- ---- the frame that starts

-- a start has the ID of the first frame of its class
abbrev HasName : AbstractPort → Start → Type 0
HasName p s = (f : Frame) (rest : List Frame) → queue_of p s.class ≡ f ∷ rest → s.id ≡ f.id

named_head : (p : AbstractPort) (m class : ℕ) (s : Start) (q : List Frame) → queue_of p class ≡ q → (start_head p m class q).0 ≡ Some s → HasName p s
named_head p m class s [] is e = absurd (cc)
named_head p m class s (f ∷ rest) is e =
    let first : Start = record { id = f.id; class = class; at = m; «end» = m + occupancy_of p.ps f.len } in
    let same : first ≡ s = (cc) in
    subst (λ x. HasName p x) same (λ g more w. (let both : f ∷ rest ≡ g ∷ more = sym is ∙ w in cc))

named_or : (p : AbstractPort) (m : ℕ) (s : Start) (o : Option ℕ) (later : Option Start × AbstractPort) → (later.0 ≡ Some s → HasName p s) → (start_or p m o later).0 ≡ Some s → HasName p s
named_or p m s None later next e = next e
named_or p m s (Some class) later next e = named_head p m class s (queue_of p class) refl e

named_scan : (p : AbstractPort) (m left : ℕ) (s : Start) → (scan p m left).0 ≡ Some s → HasName p s
unfolding scan
named_scan p m zero s e = absurd (cc)
named_scan p m (suc left) s e = named_or p m s (choice p m) (scan p (m + 1) left) (named_scan p (m + 1) left s) e

-- ---- what waits on a port

-- the IDs of arrivals and of frames
abbrev came_ids : List Arrival → List ℕ
came_ids xs = map (λ (a : Arrival). a.id) xs

abbrev frame_ids : List Frame → List ℕ
frame_ids fs = map (λ (f : Frame). f.id) fs

-- they came by a moment
abbrev AllBy : ℕ → List Arrival → Type 0
AllBy now [] = Unit {0}
AllBy now (a ∷ rest) = (a.at ≤ now) × AllBy now rest

by-later : (now later : ℕ) (xs : List Arrival) → now ≤ later → AllBy now xs → AllBy later xs
by-later now later [] less all = tt
by-later now later (a ∷ rest) less all = (le_trans all.0 less, by-later now later rest less all.1)

by-more : (now : ℕ) (xs : List Arrival) (a : Arrival) → a.at ≤ now → AllBy now xs → AllBy now (xs ++ a ∷ [])
by-more now [] a less all = (less, tt)
by-more now (x ∷ rest) a less all = (all.0, by-more now rest a less all.1)

by-rest : (now : ℕ) (xs : List Arrival) → AllBy now xs → AllBy now (drop 1 xs)
by-rest now [] all = tt
by-rest now (x ∷ rest) all = all.1

-- The frames that wait are those of the port's queues, by their IDs, and came by now.
record Fits (p : AbstractPort) (w : List (List Arrival)) : Type 0 where
  pub same : map came_ids w ≡ map frame_ids p.queues
  pub eight : length w ≡ 8
  pub come : (class : ℕ) → AllBy p.now (waiting_in w class)

-- a port with the same queues, at this moment or later
fits-later : (p q : AbstractPort) (w : List (List Arrival)) → Fits p w → q.queues ≡ p.queues → p.now ≤ q.now → Fits q w
fits-later p q w fits same later = record {
  same = fits.same ∙ ap (map frame_ids) (sym same);
  eight = fits.eight;
  come = λ class. by-later p.now q.now (waiting_in w class) later (fits.come class);
}

-- the IDs of a class
ids-at : (p : AbstractPort) (w : List (List Arrival)) (class : ℕ) → Fits p w → came_ids (waiting_in w class) ≡ frame_ids (queue_of p class)
ids-at p w class fits = sym (get_or-map came_ids w class []) ∙ (ap (λ xs. get_or xs class []) fits.same ∙ get_or-map frame_ids p.queues class [])

-- ---- starts

record Departed (starts : List Start) (w : List (List Arrival)) (q : AbstractPort) : Type 0 where
  pub told : starts_told (departs starts w).0 ≡ starts
  pub own : AllTellOwn (departs starts w).0
  pub fits : Fits q (departs starts w).1

-- another class is as it was; this one has less
come-set : (now class : ℕ) (w : List (List Arrival)) (xs : List Arrival) → ((other : ℕ) → AllBy now (waiting_in w other)) → AllBy now xs → (other : ℕ) → AllBy now (waiting_in (set w class xs) other)
come-set now class [] xs all new other = all other
come-set now zero (y ∷ w) xs all new zero = new
come-set now zero (y ∷ w) xs all new (suc other) = all (suc other)
come-set now (suc class) (y ∷ w) xs all new zero = all zero
come-set now (suc class) (y ∷ w) xs all new (suc other) = come-set now class w xs (λ i. all (suc i)) new other

module _ (p q : AbstractPort) (s : Start) (f : Frame) (rest : List Frame) (waits : queue_of p s.class ≡ f ∷ rest) (name : s.id ≡ f.id) (less : s.class < 8) (onward : p.now ≤ s.at)
    (queues : q.queues ≡ set p.queues s.class rest) (now : q.now ≡ s.at) where
  -- the first of the class, and what waits then
  record Gone (w : List (List Arrival)) : Type 0 where
    pub told : starts_told (sent_row s (first_came s.class w)) ≡ s ∷ []
    pub own : AllTellOwn (sent_row s (first_came s.class w))
    pub fits : Fits q (goes s.class w)

  gone-by : (w : List (List Arrival)) (xs : List Arrival) → Fits p w → waiting_in w s.class ≡ xs → came_ids xs ≡ f.id ∷ frame_ids rest → Gone w
  gone-by w [] fits is ids = absurd (cc)
  gone-by w (a ∷ xs) fits is ids =
      let here : AllBy p.now (a ∷ xs) = subst (λ ys. AllBy p.now ys) is (fits.come s.class) in
      let first : first_came s.class w ≡ Some a = ap (λ b. cond b (slice_get (waiting_in w s.class) 0) None) (lt-ltb s.class 8 less) ∙ ap (λ ys. slice_get ys 0) is in
      let left : goes s.class w ≡ set w s.class xs = ap (λ b. cond b (set w s.class (drop 1 (waiting_in w s.class))) w) (lt-ltb s.class 8 less) ∙ ap (λ ys. set w s.class (drop 1 ys)) is in
      let both : (a.id ≡ f.id) × (came_ids xs ≡ frame_ids rest) = (cc, cc) in
      record {
        told = ap (λ o. starts_told (sent_row s o)) first;
        own = subst (λ o. AllTellOwn (sent_row s o)) (sym first) (record { id = both.0 ∙ sym name; class = refl; later = le_trans here.0 onward }, tt);
        fits = subst (λ v. Fits q v) (sym left) (record {
          same =
              map-set came_ids w s.class xs
              ∙ (ap (λ ys. set (map came_ids w) s.class ys) both.1
              ∙ (ap (λ yss. set yss s.class (frame_ids rest)) fits.same
              ∙ (sym (map-set frame_ids p.queues s.class rest) ∙ ap (map frame_ids) (sym queues))));
          eight = length-set w s.class xs ∙ fits.eight;
          come = come-set q.now s.class w xs (λ other. by-later p.now q.now (waiting_in w other) (subst (λ n. p.now ≤ n) (sym now) onward) (fits.come other))
              (by-later p.now q.now xs (subst (λ n. p.now ≤ n) (sym now) onward) here.1);
        });
      }

  gone : (w : List (List Arrival)) → Fits p w → Gone w
  gone w fits = gone-by w (waiting_in w s.class) fits refl (ids-at p w s.class fits ∙ ap frame_ids waits)

-- one start and those after it
departed-more : (s : Start) (rest : List Start) (w : List (List Arrival)) (q : AbstractPort) → starts_told (sent_row s (first_came s.class w)) ≡ s ∷ [] → AllTellOwn (sent_row s (first_came s.class w))
    → Departed rest (goes s.class w) q → Departed (s ∷ rest) w q
departed-more s rest w q told own d =
    let x = sent_row s (first_came s.class w) in
    let later = departs rest (goes s.class w) in
    record {
      told = told-append x later.0 ∙ (ap (λ ys. ys ++ starts_told later.0) told ∙ ap (λ ys. s ∷ ys) d.told);
      own = own-append x later.0 own d.own;
      fits = d.fits;
    }

-- all starts before a moment
abbrev Departs : ℕ → ℕ → Type 0
Departs n upto = (p : AbstractPort) (w : List (List Arrival)) → waiting p < n → Fits p w → Departed (starts_until p upto).0 w (starts_until p upto).1

departed_by : (n upto : ℕ) → Departs n upto → (p : AbstractPort) (w : List (List Arrival)) (o : Option Start) → (next_start p upto).0 ≡ o → waiting p < suc n → Fits p w → Departed (starts_until p upto).0 w (starts_until p upto).1
departed_by n upto next p w None e fuel fits =
    let all = starts_until-none p upto e in
    let q = (next_start p upto).1 in
    let kept = scan-none_started p p.now (upto - p.now) e in
    let still : Fits q w = fits-later p q w fits (ap (λ (x : AbstractPort). x.queues) kept) (next_start-onward p upto) in
    subst (λ (x : List Start × AbstractPort). Departed x.0 w x.1) (sym all) (record { told = refl; own = tt; fits = still })
departed_by n upto next p w (Some s) e fuel fits =
    let all = starts_until-some p upto s e in
    let q = (next_start p upto).1 in
    let one = next_start-started p upto s e in
    let fewer = waiting-next_start p upto s e in
    let g = gone p q s one.frame one.rest one.waits (named_scan p p.now (upto - p.now) s e one.frame one.rest one.waits) one.less one.onward (ap (λ (x : AbstractPort). x.queues) one.port) (ap (λ (x : AbstractPort). x.now) one.port) w fits in
    let later = next q (goes s.class w) (omega (arith, fewer, fuel)) g.fits in
    subst (λ (x : List Start × AbstractPort). Departed x.0 w x.1) (sym all) (departed-more s (starts_until q upto).0 w (starts_until q upto).1 g.told g.own later)

departed : (n upto : ℕ) → Departs n upto
departed zero upto p w fuel fits = absurd (omega (arith, fuel))
departed (suc n) upto p w fuel fits = departed_by n upto (departed n upto) p w (next_start p upto).0 refl fuel fits

-- ---- events

-- the rows of an event tell its starts
record Told (starts : List Start) (rows : List FrameRow × List (List Arrival)) (q : AbstractPort) : Type 0 where
  pub told : starts_told rows.0 ≡ starts
  pub own : AllTellOwn rows.0
  pub fits : Fits q rows.1

-- a frame that joins a class
ids-more : (xs : List Arrival) (fs : List Frame) (a : Arrival) (f : Frame) → came_ids xs ≡ frame_ids fs → a.id ≡ f.id → came_ids (xs ++ a ∷ []) ≡ frame_ids (fs ++ f ∷ [])
ids-more xs fs a f e id =
    map-append (λ (x : Arrival). x.id) xs (a ∷ [])
    ∙ (ap (λ ys. ys ++ a.id ∷ []) e ∙ ap (λ n. frame_ids fs ++ n ∷ []) id ∙ sym (map-append (λ (x : Frame). x.id) fs (f ∷ [])))

-- a place past the end
set_past_end : {X : Type 0} (xs : List X) (i : ℕ) (x : X) → length xs ≤ i → set xs i x ≡ xs
set_past_end [] i x more = refl
set_past_end (y ∷ xs) zero x more = absurd (omega (arith, more))
set_past_end (y ∷ xs) (suc i) x more = ap (λ ys. y ∷ ys) (set_past_end xs i x (omega (arith, more)))

joined : (p : AbstractPort) (f : Frame) (d : ℕ) (w : List (List Arrival)) → Fits p w → (d < 8) ⊎ (8 ≤ d) → Fits (queue_in p d f) (comes d (arrival_at p.now f) w)
joined p f d w fits (inl below) =
    let a = arrival_at p.now f in
    let xs = waiting_in w d in
    let to : comes d a w ≡ set w d (xs ++ a ∷ []) = ap (λ b. cond b (set w d (xs ++ a ∷ [])) w) (lt-ltb d 8 below) in
    subst (λ v. Fits (queue_in p d f) v) (sym to) (record {
      same =
          map-set came_ids w d (xs ++ a ∷ [])
          ∙ (ap (λ ys. set (map came_ids w) d ys) (ids-more xs (queue_of p d) a f (ids-at p w d fits) refl)
          ∙ (ap (λ yss. set yss d (frame_ids (queue_of p d ++ f ∷ []))) fits.same ∙ sym (map-set frame_ids p.queues d (queue_of p d ++ f ∷ []))));
      eight = length-set w d (xs ++ a ∷ []) ∙ fits.eight;
      come = come-set p.now d w (xs ++ a ∷ []) fits.come (by-more p.now xs a (le_refl p.now) (fits.come d));
    })
joined p f d w fits (inr above) =
    let a = arrival_at p.now f in
    let to : comes d a w ≡ w = ap (λ b. cond b (set w d (waiting_in w d ++ a ∷ [])) w) (let no : ltb d 8 ≡ false = grind (arith, above) in no) in
    let many : length p.queues ≡ 8 = sym (length-map p.queues frame_ids) ∙ (ap length (sym fits.same) ∙ (length-map w came_ids ∙ fits.eight)) in
    let past : set p.queues d (queue_of p d ++ f ∷ []) ≡ p.queues = set_past_end p.queues d (queue_of p d ++ f ∷ []) (omega (arith, many, above)) in
    subst (λ v. Fits (queue_in p d f) v) (sym to) (fits-later p (queue_in p d f) w fits past (le_refl p.now))

dropped : (p : AbstractPort) (why : Dropped) (o : Option ℕ) (w : List (List Arrival)) → Fits p w → Fits (drop_in p why o) w
dropped p why None w fits = fits-later p (drop_in p why None) w fits refl (le_refl p.now)
dropped p why (Some class) w fits = fits-later p (drop_in p why (Some class)) w fits refl (le_refl p.now)

arrived : (p : AbstractPort) (f : Frame) (w : List (List Arrival)) (v : Result ℕ Dropped) → Fits p w
    → Told (starts_in (arrival_answer f v ∷ [])) (arrives (arrival_at p.now f) (class_for p f.priority) v w) (after_arrival p f v)
arrived p f w (Ok d) fits = record { told = refl; own = tt; fits = joined p f d w fits (cases_lt d 8) }
arrived p f w (Err why) fits = record { told = refl; own = (tt, tt); fits = dropped p why (class_for p f.priority) w fits }

-- a command
accepted : (p : AbstractPort) (c : Command) (w : List (List Arrival)) → Fits p w → Fits (after_command p c) w
accepted p Delete w fits = fits-later p (after_command p Delete) w fits refl (le_refl p.now)
accepted p (Replace c) w fits = fits-later p (after_command p (Replace c)) w fits refl (le_refl p.now)

installed : (p : AbstractPort) (c : Command) (w : List (List Arrival)) (r : Option Refused) → Fits p w → Told (starts_in (command_answer (installs_by r p c).0 ∷ [])) ([], w) (installs_by r p c).1
installed p c w (Some r) fits = record { told = refl; own = tt; fits = fits }
installed p c w None fits = record { told = refl; own = tt; fits = accepted p c w fits }

-- a moment
starts-map : (xs : List Start) → starts_in (map Answered.Start xs) ≡ xs
starts-map [] = refl
starts-map (s ∷ xs) = ap (λ ys. s ∷ ys) (starts-map xs)

abbrev TellsAll : List (List Arrival) → List Answer × AbstractPort → Type 0
TellsAll w a = Told (starts_in a.0) (departs (starts_in a.0) w) a.1

clocked : (m : ℕ) (p : AbstractPort) (w : List (List Arrival)) (back : Bool) → (ltb m p.now || ltb greatest_moment m) ≡ back → Fits p w → TellsAll w (answers_to (Clock m) p)
clocked m p w true is fits = subst (λ a. TellsAll w a) (sym (clock_back m p is)) (record { told = refl; own = tt; fits = fits })
clocked m p w false is fits =
    let s = starts_until p m in
    let d = departed (waiting p + 1) m p w (omega arith) fits in
    let told : Told s.0 (departs s.0 w) s.1 = record { told = d.told; own = d.own; fits = d.fits } in
    subst (λ a. TellsAll w a) (sym (clock_on m p is)) (subst (λ xs. Told xs (departs xs w) s.1) (sym (starts-map s.0)) told)

counted : (p : AbstractPort) (w : List (List Arrival)) (class : ℕ) (b : Bool) → Fits p w → Told (starts_in (cond b (Answered.Counters class (counters_of p class) ∷ []) (Answered.BadClass ∷ []))) ([], w) p
counted p w class true fits = record { told = refl; own = tt; fits = fits }
counted p w class false fits = record { told = refl; own = tt; fits = fits }

told_at : (event : Event) (p : AbstractPort) (w : List (List Arrival)) → Fits p w → Told (starts_in (answers_to event p).0) (rows_at event p w) (answers_to event p).1
told_at (Arrive f) p w fits = arrived p f w (verdict p f) fits
told_at (Install c) p w fits = installed p c.now w (refusal p c.now) fits
told_at (Clock m) p w fits = clocked m p w (ltb m p.now || ltb greatest_moment m) refl fits
told_at Query p w fits = record { told = refl; own = tt; fits = fits }
told_at (Count class) p w fits = counted p w class (ltb class 8) fits

-- ---- a run

starts-append : (xs ys : List Answer) → starts_in (xs ++ ys) ≡ starts_in xs ++ starts_in ys
starts-append [] ys = refl
starts-append (Answered.Start s ∷ rest) ys = ap (λ zs. s ∷ zs) (starts-append rest ys)
starts-append (Answered.Queued id class ∷ rest) ys = starts-append rest ys
starts-append (Answered.Dropped id why ∷ rest) ys = starts-append rest ys
starts-append (Answered.Installed change ∷ rest) ys = starts-append rest ys
starts-append (Answered.Refused why ∷ rest) ys = starts-append rest ys
starts-append (Answered.Backward ∷ rest) ys = starts-append rest ys
starts-append (Answered.Report r ∷ rest) ys = starts-append rest ys
starts-append (Answered.Counters class c ∷ rest) ys = starts-append rest ys
starts-append (Answered.BadClass ∷ rest) ys = starts-append rest ys

record RunTold (events : List Event) (p : AbstractPort) (w : List (List Arrival)) : Type 0 where
  pub told : starts_told (rows_of events p w).0 ≡ starts_in (answers_of events p)
  pub own : AllTellOwn (rows_of events p w).0

run_told : (events : List Event) (p : AbstractPort) (w : List (List Arrival)) → Fits p w → RunTold events p w
run_told [] p w fits = record { told = refl; own = tt }
run_told (event ∷ rest) p w fits =
    let here = told_at event p w fits in
    let answers = answers_to event p in
    let rows = rows_at event p w in
    let later = run_told rest answers.1 rows.1 here.fits in
    let rest_rows = (rows_of rest answers.1 rows.1).0 in
    record {
      told =
          told-append rows.0 rest_rows
          ∙ (ap (λ xs. xs ++ starts_told rest_rows) here.told
          ∙ (ap (λ xs. starts_in answers.0 ++ xs) later.told ∙ sym (starts-append answers.0 (answers_of rest answers.1))));
      own = own-append rows.0 rest_rows here.own later.own;
    }

-- what is left tells none
left-none : (class : ℕ) (xs : List Arrival) → (starts_told (map (left_row class) xs) ≡ []) × AllTellOwn (map (left_row class) xs)
left-none class [] = (refl, tt)
left-none class (x ∷ xs) = let rest = left-none class xs in (rest.0, (tt, rest.1))

left-told : (n class : ℕ) (w : List (List Arrival)) → (starts_told (left_from n class w) ≡ []) × AllTellOwn (left_from n class w)
unfolding left_from
left-told zero class w = (refl, tt)
left-told (suc n) class w =
    let here = left-none class (waiting_in w class) in
    let later = left-told n (class + 1) w in
    let xs = map (left_row class) (waiting_in w class) in
    let ys = left_from n (class + 1) w in
    (told-append xs ys ∙ (ap (λ zs. zs ++ starts_told ys) here.0 ∙ later.0), own-append xs ys here.1 later.1)

none-come : (now class : ℕ) → AllBy now (waiting_in none_wait class)
none-come now zero = tt
none-come now (suc zero) = tt
none-come now (suc (suc zero)) = tt
none-come now (suc (suc (suc zero))) = tt
none-come now (suc (suc (suc (suc zero)))) = tt
none-come now (suc (suc (suc (suc (suc zero))))) = tt
none-come now (suc (suc (suc (suc (suc (suc zero)))))) = tt
none-come now (suc (suc (suc (suc (suc (suc (suc zero))))))) = tt
none-come now (suc (suc (suc (suc (suc (suc (suc (suc class)))))))) = tt

pub is_told : ToldLaw
is_told events ps mtu room =
    let p = new_port ps mtu room in
    let rows = rows_of events p none_wait in
    let run = run_told events p none_wait (record { same = refl; eight = refl; come = none-come 0 }) in
    let left = left-told 8 0 rows.1 in
    record {
      starts = told-append rows.0 (left_rows rows.1) ∙ (ap (λ xs. starts_told rows.0 ++ xs) left.0 ∙ (append-nil (starts_told rows.0) ∙ run.told));
      own = own-append rows.0 (left_rows rows.1) run.own left.1;
    }
