-- A run that delays a frame the most: the command, for each frame a clock event to its moment and the frame, and the clock's last moment.
use Rattle.std.proofs.Common.{◌≡◌, ◌<◌, ◌≤◌, ℕ, zero, suc, ◌+◌, ◌-◌, max, min, Bool, true, false, cond, ◌&&◌, ◌||◌, not, eqb, leb, ltb, List, [], ◌∷◌, ◌++◌, length, map, slice_get, Option, Some, None, Result, Ok, Err, is_some, inl, inr, refl, sym, ap, ◌∙◌, subst, arith}
use Rattle.std.specs.Prelude.{slice_index_or, option_map}
use Rattle.std.proofs.lemmas.Bool.{eq-eqb, le-leb}
use Rattle.std.proofs.lemmas.List.{length-map}
use Rattle.std.proofs.lemmas.Option.{get_or_from_slice_get, same_Some, slice_get-map, slice_get_within}
use Rattle.wire_time.specs.Moment.{greatest_moment}
use Rattle.wire_time.specs.Wire.{occupancy_of, sdu_of}
use Rattle.wire_time.specs.declared.Frame.{Frame}
use Rattle.abstract_port.specs.declared.class_map.ClassMap.{ClassMap}
use Rattle.abstract_port.specs.declared.class_map.Queues.{Queues}
use Rattle.gates.specs.History.{Accepted, in_force}
use Rattle.abstract_port.specs.AbstractPort.{AbstractPort, after_arrival, class_for, drop_in, installs_by, limit_of, new_command, new_port, next_start, plan_asked, queue_of, verdict, verdict_in, waiting}
use Rattle.abstract_port.specs.Answers.{answers_to, port_after}
use Rattle.abstract_port.specs.declared.Change.{Change}
use Rattle.abstract_port.specs.declared.Command.TheVariants.{Replace}
use Rattle.abstract_port.specs.declared.Dropped.{Dropped}
use Rattle.abstract_port.specs.declared.Dropped.TheVariants.{OverSdu, Full, TooLong}
use Rattle.abstract_port.specs.declared.Event.{Event}
use Rattle.abstract_port.specs.declared.Start.{Start}
use Rattle.abstract_port.specs.declared.Event.TheVariants.{Arrive, Clock, Install}
use Rattle.abstract_port.proofs.ArrivalLaws.{verdict_with}
use Rattle.abstract_port.proofs.RunLaws.{accepted_plan, arrival-keeps, clock_on, has_cycle}
use Rattle.abstract_port.proofs.StartsLaws.{IsUnmoved, next_start-unmoved, starts_from-unmoved}
use Rattle.abstract_port.specs.Separation.{IsKeptApart, is_class}
use Rattle.abstract_port.specs.Traffic.{Came, IsOnly, offered_as, offered_by, offered_in}
use Rattle.abstract_port.proofs.Lives.{starts_until_live}
use Rattle.abstract_port.proofs.Lockstep.{live, tick, with_moment}
use Rattle.delay_bounds.specs.Walk.{may_by}
use Rattle.delay_bounds.specs.declared.Bound.{Bound}
use Rattle.delay_bounds.specs.declared.Flow.{Flow}
use Rattle.any_traffic.specs.ExactWindows.{at_earliest}
use Rattle.any_traffic.specs.ArrivalWindows.{IsIn}
use Rattle.any_traffic.specs.PeriodicWindows.{ArePeriodic, ComeByFlows, IsLateStart, PeriodicFlow, can_by, must_before, window_of}
use Rattle.any_traffic.specs.Runs.{IsApartRun, end_of_run, offered, queued, started}
use Rattle.any_traffic.proofs.ListLaws.{none_here, one_at}
use Rattle.any_traffic.proofs.OwnStarts.{apart_run_law, own_starts_law}
use Rattle.any_traffic.proofs.SlotLaws.{slot_before}
use Rattle.window_bounds.specs.Least.{AreLeast as AreLeastWindows}
use Rattle.claims.proofs.FrameEvents.{goes_on, offered_own, setup-arrival, setup_of}
use Rattle.claims.specs.Runs.{IsTaken, in_force_from, scheduled}
use Rattle.claims.specs.LateClaim.{IsWindowRun}
use Rattle.claims.specs.WindowsReached.{AreEven, CanBegin, GreatestRunsExist, IsDelayedMost, IsWaitInRun}
use Rattle.claims.proofs.LateClaimLaws.{windows}
use Rattle.claims.proofs.FrameLines.{AreInOrder, Has, IsDelayLine, delay_line, has_at, moment_of, no_flow, one_place, place_of}
use Rattle.claims.proofs.ReachedLaws.{windows_reached_law}

-- ---- frames that came are those of a line

module _ (ps change d : ℕ) (at : ℕ × ℕ → ℕ) where
  abbrev AreThese : List (ℕ × ℕ) → List Came → Type 0
  AreThese [] [] = Unit {0}
  AreThese (x ∷ xs) (f ∷ came) = (f.moment ≡ change + at x) × (occupancy_of ps f.frame.len ≡ d) × AreThese xs came
  AreThese _ _ = ⊥

  this_frame : (xs : List (ℕ × ℕ)) (came : List Came) (k : ℕ) (f : Came) → AreThese xs came → slice_get came k ≡ Some f
      → (x : ℕ × ℕ) × (slice_get xs k ≡ Some x) × (f.moment ≡ change + at x) × (occupancy_of ps f.frame.len ≡ d)
  this_frame [] [] k f these e = absurd (none_here k f e)
  this_frame [] (g ∷ came) k f these e = absurd these
  this_frame (x ∷ xs) [] k f these e = absurd these
  this_frame (x ∷ xs) (g ∷ came) zero f these e =
      let same = same_Some g f e in (
        x,
        refl,
        subst (λ (h : Came). h.moment ≡ change + at x) same these.0,
        subst (λ (h : Came). occupancy_of ps h.frame.len ≡ d) same these.1,
      )
  this_frame (x ∷ xs) (g ∷ came) (suc k) f these e = this_frame xs came k f these.2 e

  frame_there : (xs : List (ℕ × ℕ)) (came : List Came) (k : ℕ) (x : ℕ × ℕ) → AreThese xs came → slice_get xs k ≡ Some x
      → (f : Came) × (slice_get came k ≡ Some f) × (f.moment ≡ change + at x)
  frame_there [] came k x these e = absurd (none_here k x e)
  frame_there (y ∷ xs) [] k x these e = absurd these
  frame_there (y ∷ xs) (g ∷ came) zero x these e = (g, refl, subst (λ z. g.moment ≡ change + at z) (same_Some y x e) these.0)
  frame_there (y ∷ xs) (g ∷ came) (suc k) x these e = frame_there xs came k x these.2 e

-- ---- events in which they come

-- On a port whose one command has been accepted, and which takes a frame into the class that needs the wire for d.
module _ (base : AbstractPort) (a : Accepted) (class d : ℕ) (some : 0 < base.ps) (history : base.history ≡ a ∷ [])
    (sent : IsTaken base class d) (at : ℕ × ℕ → ℕ) (end : ℕ) (possible : end ≤ greatest_moment) where
  record Comes (xs : List (ℕ × ℕ)) (p : AbstractPort) : Type 0 where
    pub events : List Event
    pub only : IsOnly a events p
    pub apart : IsKeptApart class events p
    pub come : AreThese base.ps a.change d at xs (offered_in class events p)
    pub ends : (port_after events p).now ≡ end

  clock_of : (p : AbstractPort) → setup_of p ≡ setup_of base → 0 < p.ps
  clock_of p same = subst (λ n. 0 < n) (sym (ap (λ s. s.0) same)) some

  none_comes : (p : AbstractPort) → setup_of p ≡ setup_of base → p.now ≤ end → Comes [] p
  none_comes p same from =
      record { events = Clock end ∷ []; only = (tt, tt); apart = (tt, tt); come = tt; ends = (goes_on p end (clock_of p same) from possible).now }

  forced : (m : ℕ) → a.change ≤ m → is_some (in_force (a ∷ []) m) ≡ true
  forced m from = ap (λ b. is_some (cond (b && true) (Some a) None)) (le-leb a.change m from)

  one_comes : (xs : List (ℕ × ℕ)) (p : AbstractPort) (x : ℕ × ℕ) → setup_of p ≡ setup_of base → p.now ≤ a.change + at x
      → a.change + at x ≤ end
      → ((r : AbstractPort) → setup_of r ≡ setup_of base → r.now ≡ a.change + at x → Comes xs r) → Comes (x ∷ xs) p
  one_comes xs p x same from within behind =
      let m : ℕ = a.change + at x in
      let f : Frame = sent.frame in
      let later = goes_on p m (clock_of p same) from (let z = possible in omega (arith, within, z)) in
      let q : AbstractPort = (answers_to (Clock m) p).1 in
      let here : setup_of q ≡ setup_of base = later.setup ∙ same in
      let leads : class_for q f.priority ≡ Some class = ap (λ s. class_for (record base { classes = s.3 }) f.priority) here ∙ sent.leads in
      let short : sent.sdu ≤ q.mtu = subst (λ n. sent.sdu ≤ n) (sym (ap (λ s. s.1) here)) sent.short in
      let limited : 0 < limit_of q class → sent.sdu ≤ limit_of q class =
      subst (λ xs. 0 < slice_index_or xs class 0 → sent.sdu ≤ slice_index_or xs class 0) (sym (ap (λ s. s.4) here)) sent.limited in
      let offers = offered_own class q f sent.sdu leads sent.whole short limited in
      let v : Result ℕ Dropped = verdict q f in
      let r : AbstractPort = after_arrival q f v in
      let rest = behind r (setup-arrival q f v ∙ here) ((arrival-keeps q f v).1 ∙ later.now) in
      let begun : a.change ≤ q.now = subst (λ n. a.change ≤ n) (sym later.now) (omega arith) in
      let force : is_some (in_force q.history q.now) ≡ true =
      subst (λ h. is_some (in_force h q.now) ≡ true) (sym (ap (λ s. s.2) here ∙ history)) (forced q.now begun) in
      record {
        events = Clock m ∷ Arrive f ∷ rest.events;
        only = (tt, (tt, rest.only));
        apart = (tt, (λ own. force, rest.apart));
        come = subst (λ ys. AreThese base.ps a.change d at (x ∷ xs) (ys ++ offered_in class rest.events r)) (sym offers)
            (later.now, sent.lasts, rest.come);
        ends = rest.ends;
      }

  comes : (xs : List (ℕ × ℕ)) (p : AbstractPort) → setup_of p ≡ setup_of base → AreInOrder at xs
      → ((x : ℕ × ℕ) → Has x xs → (p.now ≤ a.change + at x) × (a.change + at x ≤ end)) → p.now ≤ end → Comes xs p
  comes [] p same order between from = none_comes p same from
  comes (x ∷ xs) p same order between from =
      let mine = between x (inl refl) in
      one_comes xs p x same mine.0 mine.1
      (λ r setup now. comes xs r setup order.1
      (λ y h.
      let later = order.0 y h in
      let upto = (between y (inr h)).1 in
      (omega (arith, now, later), upto)) (let upto = mine.1 in omega (arith, now, upto)))

-- ---- from a new port on

module _ (ps mtu room class d : ℕ) (change : Change) (flows : List PeriodicFlow) (lc : class < 8) (even : AreEven d flows)
    (can : CanBegin ps mtu room class change flows) where
  abbrev base : AbstractPort
  base = scheduled ps mtu room change

  abbrev a : Accepted
  a = new_command (new_port ps mtu room) (Replace change)

  some : 0 < ps
  some = (let rate = can.rate in omega (arith, rate))

  periodic : ArePeriodic d flows
  periodic i flow e = (let f = even i flow e in let is = f.2 in (f.0, omega (arith, is)))

  above : (i : ℕ) (flow : PeriodicFlow) → slice_get flows i ≡ Some flow → 0 < flow.period
  above i flow e = (even i flow e).0

  -- a frame that needs the wire for d
  sent : (i : ℕ) (flow : PeriodicFlow) → slice_get flows i ≡ Some flow → IsTaken (scheduled ps mtu room change) class d
  sent i flow e =
      let none : Flow = record { need = 0; period = 0; offset = 0 } in
      let within = slice_get_within flows i flow e in
      let long = length-map flows at_earliest in
      let there : slice_get (map at_earliest flows) i ≡ Some (at_earliest flow) =
      slice_get-map at_earliest flows i ∙ ap (λ o. option_map at_earliest o) e in
      let is = get_or_from_slice_get (map at_earliest flows) i (at_earliest flow) none there in
      subst (IsTaken (scheduled ps mtu room change) class) (ap (λ (g : Flow). g.need) is ∙ (even i flow e).2)
      (can.taken i none (omega (arith, within, long)))

  -- frame n of a flow, delayed the most
  module _ (i n wait : ℕ) (flow : PeriodicFlow) (place : slice_get flows i ≡ Some flow) where
    abbrev pub last : ℕ
    last = (window_of flow n).latest

    abbrev pub start : ℕ
    start = (window_of flow n).earliest + wait

    abbrev at : ℕ × ℕ → ℕ
    at = moment_of flows above last (i, n)

    -- it comes at its latest moment
    late : at (i, n) ≡ last
    late =
        let same = get_or_from_slice_get flows i flow no_flow place in
        let is = ap (λ (y : PeriodicFlow). min (window_of y n).latest last) same in
        omega (arith, is)

    frames : IsDelayLine flows above last (i, n)
    frames = delay_line flows above last (i, n) late

    module _ (slot : IsLateStart (may_by (plan_asked change) class) d flows last start)
        (clock : in_force_from ps mtu room change + start < greatest_moment) where
      -- the clock's last moment
      abbrev end : ℕ
      end = a.change + start + 1

      possible : end ≤ greatest_moment
      possible = omega (arith, clock)

      -- no frame comes behind the late start
      not_behind : last ≤ start
      not_behind =
          let n : ℕ = can_by flows last - must_before flows last - 1 in
          let first = slot_before (may_by (plan_asked change) class) d (max last slot.0) 0 n n start (omega arith) slot.2 in
          let from = (first.1).from in
          let le = first.2 in
          omega (arith, from, le)

      between : (x : ℕ × ℕ) → Has x frames.line → (base.now ≤ a.change + at x) × (a.change + at x ≤ end)
      between x h = (omega arith, (let by = not_behind in omega (arith, by)))

      behind : Comes base a class d some refl (sent i flow place) at end possible frames.line base
      behind = comes base a class d some refl (sent i flow place) at end possible frames.line base refl frames.order between (omega arith)

      abbrev first : Event
      first = Install (record { ref_ptr = (0, 0); now = Replace change })

      abbrev events : List Event
      events = first ∷ behind.events

      accepts : (answers_to first (new_port ps mtu room)).1 ≡ base
      accepts = ap (λ o. (installs_by o (new_port ps mtu room) (Replace change)).1) can.accepted

      apart : IsApartRun ps mtu room class events a (plan_asked change)
      apart = record {
        one = record {
          rate = can.rate;
          large = can.large;
          listed = lc;
          is = refl;
          above = has_cycle ps (plan_asked change) can.rate (accepted_plan (new_port ps mtu room) change can.accepted);
          only = (λ none. (refl, refl), subst (IsOnly a behind.events) (sym accepts) behind.only);
        };
        apart = (λ none. can.apart, subst (IsKeptApart class behind.events) (sym accepts) behind.apart);
      }

      these : AreThese ps a.change d at frames.line (offered ps mtu room class events)
      these = subst (λ q. AreThese ps a.change d at frames.line (offered_in class behind.events q)) (sym accepts) behind.come

      come : ComeByFlows ps a.change flows frames.line (offered ps mtu room class events)
      come = record {
        each = λ k f e.
            let x = this_frame ps a.change d at frames.line (offered ps mtu room class events) k f these e in
            let w = frames.each x.0 (has_at frames.line k x.0 x.1) in
            let of = even (x.0).0 w.0 w.1 in
            one f x.0 w.0 k x.1 w.1 w.2 w.3 x.2 x.3 of.1 of.2;
        own = λ j k x e f. one_place frames.line j k x frames.own e f;
      }
        where
          one : (f : Came) (x : ℕ × ℕ) (y : PeriodicFlow) (k : ℕ) → slice_get frames.line k ≡ Some x → slice_get flows x.0 ≡ Some y
              → (window_of y x.1).earliest ≤ last → at x ≡ min (window_of y x.1).latest last → f.moment ≡ a.change + at x
              → occupancy_of ps f.frame.len ≡ d → y.shortest ≤ y.longest → y.longest ≡ d
              → (j m : ℕ) × (z : PeriodicFlow) × (slice_get frames.line k ≡ Some (j, m)) × (slice_get flows j ≡ Some z)
              × IsIn a.change (window_of z m) f.moment
              × (z.shortest ≤ occupancy_of ps f.frame.len) × (occupancy_of ps f.frame.len ≤ z.longest)
          one f x y k e g early is moment need order longest = (
            x.0,
            x.1,
            y,
            e,
            g,
            (omega (arith, early, is, moment), omega (arith, is, moment)),
            omega (arith, need, order, longest),
            omega (arith, need, longest),
          )

      abbrev run : IsWindowRun ps mtu room class (plan_asked change) flows events
      run = record { command = a; apart = apart; numbers = frames.line; come = come }

      module _ (most : ℕ) (bounds : List Bound) (least : AreLeastWindows (may_by (plan_asked change) class) d flows bounds most)
          (fits : most ≤ room) where
        taken : queued ps mtu room class events ≡ offered ps mtu room class events
        taken = (windows (plan_asked change) class d most flows bounds periodic least ps mtu room events fits run).all

        delayed : (k : ℕ) → slice_get frames.line k ≡ Some (i, n)
            → IsDelayedMost ps a.change d flows frames.line (queued ps mtu room class events) k last
        delayed k e = record {
          all = λ j m y g early.
              let there = place_of frames.line (j, m) (frames.all j m y g early) in
              let f = frame_there ps a.change d at frames.line (offered ps mtu room class events) there.0 (j, m) these there.1 in
              let same = get_or_from_slice_get flows j y no_flow g in (
                there.0,
                f.0,
                there.1,
                ap (λ xs. slice_get xs there.0) taken ∙ f.1,
                frames.behind there.0 k (j, m) there.1 e,
                f.2 ∙ ap (λ (z : PeriodicFlow). a.change + min (window_of z m).latest last) same,
              );
          even = λ j f e.
              (this_frame ps a.change d at frames.line (offered ps mtu room class events) j f these (sym (ap (λ xs. slice_get xs j) taken) ∙ e)).3;
        }

        ends : end_of_run ps mtu room events ≡ end
        ends = ap (λ q. (port_after behind.events q).now) accepts ∙ behind.ends

        -- what starts takes the wire for as long as its flow's longest frame
        lasts : (k : ℕ) → slice_get frames.line k ≡ Some (i, n) → (x : Start) → slice_get (started ps mtu room class events) k ≡ Some x
            → x.«end» ≡ x.at + flow.longest
        lasts k e x y =
            let own = own_starts_law ps mtu room class a (plan_asked change) events
            (apart_run_law ps mtu room class a (plan_asked change) events apart) k x y in
            let need = (delayed k e).even k own.0 own.1 in
            let is : x.«end» ≡ x.at + occupancy_of ps (own.0).frame.len = ap (λ (z : Start). z.«end») own.2 in
            let longest = (even i flow place).2 in
            omega (arith, is, need, longest)

        pub waits : IsWaitInRun ps mtu room class (plan_asked change) flows i n flow wait
        waits =
            let there = place_of frames.line (i, n) (frames.all i n flow place (omega arith)) in
            let f = frame_there ps a.change d at frames.line (offered ps mtu room class events) there.0 (i, n) these there.1 in
            let starts = windows_reached_law ps mtu room class d a (plan_asked change) events flows frames.line apart periodic
            (subst (ComeByFlows ps a.change flows frames.line) (sym taken) come) there.0 i n start f.0 flow
            (ap (λ xs. slice_get xs there.0) taken ∙ f.1) there.1 place (delayed there.0 there.1) slot in
            let all = ends in
            let x = one_at (started ps mtu room class events) there.0 (starts.1 (omega (arith, all))) in
            record {
              events = events;
              run = run;
              place = there.0;
              frame = there.1;
              start = x.0;
              starts = x.1;
              exactly = starts.0 x.0 x.1;
              ends = lasts there.0 there.1 x.0 x.1;
            }

pub greatest_runs_exist : GreatestRunsExist
greatest_runs_exist ps mtu room class d most change flows bounds lc even can least fits i flow b place bound = (
  least.reached i flow b place bound,
  λ n late clock. waits ps mtu room class d change flows lc even can i n b.greatest flow place late clock most bounds least fits,
)
