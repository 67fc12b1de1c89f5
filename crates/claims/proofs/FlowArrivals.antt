-- The frames of one flow as they come to a port, event by event.
use Rattle.std.proofs.Common.{◌≡◌, ◌<◌, ◌≤◌, ℕ, zero, suc, ◌+◌, ◌-◌, ◌^◌, Bool, true, false, ◌&&◌, ◌||◌, ltb, List, [], ◌∷◌, ◌++◌, length, drop, get_or, Option, Some, None, Result, Ok, Err, IsTrue, ◌⊎◌, inl, inr, refl, sym, ap, ◌∙◌, subst, drop_of_length-le, arith}
use Rattle.std.specs.Prelude.{◌↔◌, IfNone}
use Rattle.std.proofs.Math.Seq.{drop-cons}
use Rattle.std.proofs.lemmas.Bool.{cases_lt}
use Rattle.wire_time.specs.Moment.{greatest_moment}
use Rattle.wire_time.specs.declared.Frame.{Frame}
use Rattle.wire_time.specs.declared.TheConstants.{MIN_PS_PER_OCTET, MIN_MTU}
use Rattle.gates.specs.History.{Accepted}
use denote.Bor.{Bor}
use Rattle.abstract_port.specs.declared.Command.{Command}
use Rattle.abstract_port.specs.declared.Command.TheVariants.{Replace, Delete}
use Rattle.abstract_port.specs.declared.Dropped.{Dropped}
use Rattle.abstract_port.specs.declared.Refused.{Refused}
use Rattle.abstract_port.specs.declared.Event.{Event}
use Rattle.abstract_port.specs.declared.Event.TheVariants.{Arrive, Install, Clock, Query, Count}
use Rattle.abstract_port.specs.AbstractPort.{AbstractPort, installs, installs_by, new_command, new_port, next_start, refusal, settled, verdict, waiting}
use Rattle.abstract_port.specs.Answers.{answers_to}
use Rattle.abstract_port.specs.Sound.{IsSoundPort}
use Rattle.abstract_port.proofs.RunLaws.{IsTimely, after_command-keeps, arrival-keeps, clock_by, refusal-settled, same-event, timely-settled, timely-sound}
use Rattle.abstract_port.proofs.StartsLaws.{next_start-history, starts_from-keeps}
use Rattle.abstract_port.specs.Separation.{IsApart, IsKeptApart}
use Rattle.abstract_port.specs.Traffic.{Came, IsOnly, IsOnlyAt, offered_as, offered_by, offered_in}
use Rattle.delay_bounds.specs.Claim.{AreComing, coming, earliest}
use Rattle.delay_bounds.specs.declared.Flow.{Flow}
use Rattle.claims.proofs.Kept.{both-hold}
use Rattle.claims.specs.FlowArrivals.{AreNext, AreRefused, IsDue, IsNextAt, IsOtherAt, IsRefused, IsFlowIn, IsRunOf, came_now, capped}

-- ---- what a port keeps decides what is offered, and what is accepted

offered-settled : (class : ℕ) (event : Event) (p : AbstractPort) → offered_by class event (settled p) ≡ offered_by class event p
offered-settled class (Arrive f) p = go (verdict p f)
  where
    go : (v : Result ℕ Dropped) → offered_as class (settled p) f v ≡ offered_as class p f v
    go (Ok d) = refl
    go (Err why) = refl
offered-settled class (Install c) p = refl
offered-settled class (Clock m) p = refl
offered-settled class Query p = refl
offered-settled class (Count k) p = refl

refused-settled : (event : Event) (p : AbstractPort) → IsTimely p → IsRefused event (settled p) ↔ IsRefused event p
refused-settled (Arrive f) p fit = (λ r. r, λ r. r)
refused-settled (Install c) p fit = (let same = refusal-settled c.now p fit in (λ r none. r (same ∙ none), λ r none. r (sym same ∙ none)))
refused-settled (Clock m) p fit = (λ r. r, λ r. r)
refused-settled Query p fit = (λ r. r, λ r. r)
refused-settled (Count k) p fit = (λ r. r, λ r. r)

all_offered-settled : (class : ℕ) (events : List Event) (p : AbstractPort) → IsTimely p → offered_in class events (settled p) ≡ offered_in class events p
all_offered-settled class [] p fit = refl
all_offered-settled class (event ∷ rest) p fit =
    let same = same-event event p fit in
    let q : AbstractPort = (answers_to event p).1 in
    let r : AbstractPort = (answers_to event (settled p)).1 in
    let there : IsTimely r = (same-event event (settled p) (timely-settled p fit)).fit in
    ap (λ xs. xs ++ offered_in class rest r) (offered-settled class event p)
    ∙ ap (λ xs. offered_by class event p ++ xs)
    (sym (all_offered-settled class rest r there) ∙ (ap (offered_in class rest) same.port ∙ all_offered-settled class rest q same.fit))

all_refused-settled : (events : List Event) (p : AbstractPort) → IsTimely p → AreRefused events (settled p) ↔ AreRefused events p
all_refused-settled [] p fit = (λ r. r, λ r. r)
all_refused-settled (event ∷ rest) p fit =
    let same = same-event event p fit in
    let there = (same-event event (settled p) (timely-settled p fit)).fit in
    let here = refused-settled event p fit in
    let of_kept = all_refused-settled rest (answers_to event (settled p)).1 there in
    let of_all = all_refused-settled rest (answers_to event p).1 same.fit in (
      λ r. (here.0 r.0, of_all.0 (subst (AreRefused rest) same.port (of_kept.1 r.1))),
      λ r. (here.1 r.0, of_kept.0 (subst (AreRefused rest) (sym same.port) (of_all.1 r.1))),
    )

-- ---- where one command is accepted, no other is

history-on : (event : Event) (p : AbstractPort) → IsRefused event p → (answers_to event p).1.history ≡ p.history
history-on (Arrive f) p refused = (arrival-keeps p f (verdict p f)).0
history-on (Install c) p refused = go (refusal p c.now) refused
  where
    go : (o : Option Refused) → (o ≡ None → ⊥) → (installs_by o p c.now).1.history ≡ p.history
    go None some = absurd (some refl)
    go (Some why) some = refl
history-on (Clock m) p refused = go (ltb m p.now || ltb greatest_moment m)
  where
    go : (b : Bool) → (clock_by b m p).1.history ≡ p.history
    go true = refl
    go false = (starts_from-keeps (waiting p + 1) m (next_start p m).0 (next_start p m).1).0 ∙ next_start-history p m
history-on Query p refused = refl
history-on (Count k) p refused = refl

refused-only : (a : Accepted) (event : Event) (p : AbstractPort) → IsRefused event p → IsOnlyAt a event p
refused-only a (Arrive f) p refused = tt
refused-only a (Install c) p refused = λ none. absurd (refused none)
refused-only a (Clock m) p refused = tt
refused-only a Query p refused = tt
refused-only a (Count k) p refused = tt

all_refused-only : (a : Accepted) (events : List Event) (p : AbstractPort) → AreRefused events p → IsOnly a events p
all_refused-only a [] p refused = tt
all_refused-only a (event ∷ rest) p refused = (refused-only a event p refused.0, all_refused-only a rest (answers_to event p).1 refused.1)

only-refused : (a : Accepted) (event : Event) (p : AbstractPort) → (p.history ≡ [] → ⊥) → IsOnlyAt a event p → IsRefused event p
only-refused a (Arrive f) p some only = tt
only-refused a (Install c) p some only = λ none. some (only none).0
only-refused a (Clock m) p some only = tt
only-refused a Query p some only = tt
only-refused a (Count k) p some only = tt

all_only-refused : (a : Accepted) (events : List Event) (p : AbstractPort) → (p.history ≡ [] → ⊥) → IsOnly a events p → AreRefused events p
all_only-refused a [] p some only = tt
all_only-refused a (event ∷ rest) p some only =
    let here = only-refused a event p some only.0 in (
      here,
      all_only-refused a rest (answers_to event p).1 (λ none. some (sym (history-on event p here) ∙ none)) only.1,
    )

-- ---- the next frame of one flow

one_coming : (flow : Flow) (n next : ℕ) → coming (flow ∷ []) (suc n) (next ∷ []) ≡ (next, 0) ∷ coming (flow ∷ []) n ((next + flow.period) ∷ [])
unfolding coming earliest
one_coming flow n next = refl

none_coming : (flow : Flow) (next : ℕ) → coming (flow ∷ []) 0 (next ∷ []) ≡ []
unfolding coming
none_coming flow next = refl

module _ (ps class change : ℕ) (flow : Flow) where
  -- so many frames of the flow come, the first of them at `next`
  abbrev Come : ℕ → ℕ → List Came → Type 0
  Come count next came = AreComing ps change (flow ∷ []) (coming (flow ∷ []) count (next ∷ [])) came

  first_come : (count next : ℕ) (f : Came) (came : List Came) → Come count next (f ∷ came)
      → (n : ℕ) × IsDue ps change flow next f.moment f.frame.len × Come n (next + flow.period) came
  first_come zero next f came come = absurd (subst (λ es. AreComing ps change (flow ∷ []) es (f ∷ came)) (none_coming flow next) come)
  first_come (suc n) next f came come =
      let all = subst (λ es. AreComing ps change (flow ∷ []) es (f ∷ came)) (one_coming flow n next) come in (n, (all.0, all.1), all.2)

  next-settled : (next : ℕ) (events : List Event) (p : AbstractPort) → IsTimely p → AreNext ps class change flow next events (settled p) ↔ AreNext ps class change flow next events p
  next-settled next events p fit =
      let refused = all_refused-settled events p fit in
      let offered = all_offered-settled class events p fit in (
        λ n. record { refused = refused.0 n.refused; count = n.count; come = subst (Come n.count next) offered n.come },
        λ n. record { refused = refused.1 n.refused; count = n.count; come = subst (Come n.count next) (sym offered) n.come },
      )

  next-none : (next : ℕ) (p : AbstractPort) → AreNext ps class change flow next [] p
  next-none next p = record { refused = tt; count = 0; come = subst (λ es. AreComing ps change (flow ∷ []) es []) (sym (none_coming flow next)) tt }

  module _ (event : Event) (rest : List Event) (p : AbstractPort) where
    behind : List Came
    behind = offered_in class rest (answers_to event p).1

    -- at an event by which no frame is offered
    on-nothing : (next : ℕ) → IsRefused event p → offered_by class event p ≡ [] → AreNext ps class change flow next (event ∷ rest) p ↔ AreNext ps class change flow next rest (answers_to event p).1
    unfolding behind
    on-nothing next refused none =
        let offered : offered_by class event p ++ behind ≡ behind = ap (λ xs. xs ++ behind) none in (
          λ n. record { refused = n.refused.1; count = n.count; come = subst (Come n.count next) offered n.come },
          λ n. record { refused = (refused, n.refused); count = n.count; come = subst (Come n.count next) (sym offered) n.come },
        )

    -- at the flow's next frame
    on-next : (next : ℕ) (f : Frame) → IsRefused event p → offered_by class event p ≡ came_now p f ∷ [] → IsDue ps change flow next p.now f.len
        → AreNext ps class change flow next (event ∷ rest) p ↔ AreNext ps class change flow (next + flow.period) rest (answers_to event p).1
    unfolding behind
    on-next next f refused one due =
        let offered : offered_by class event p ++ behind ≡ came_now p f ∷ behind = ap (λ xs. xs ++ behind) one in (
          λ n. let first = first_come n.count next (came_now p f) behind (subst (Come n.count next) offered n.come) in
              record { refused = n.refused.1; count = first.0; come = first.2 },
          λ n. record {
            refused = (refused, n.refused);
            count = suc n.count;
            come =
                subst (Come (suc n.count) next) (sym offered)
                (subst (λ es. AreComing ps change (flow ∷ []) es (came_now p f ∷ behind)) (sym (one_coming flow n.count next)) (due.0, due.1, n.come));
          },
        )

    -- at another event
    on-other : (next : ℕ) → IsOtherAt ps class change flow event p next → AreNext ps class change flow next (event ∷ rest) p → ⊥
    unfolding behind
    on-other next (inl accepted) n = accepted n.refused.0
    on-other next (inr other) n =
        let f = other.0 in
        let offered : offered_by class event p ++ behind ≡ came_now p f ∷ behind = ap (λ xs. xs ++ behind) other.1 in
        other.2 (first_come n.count next (came_now p f) behind (subst (Come n.count next) offered n.come)).1

  -- ---- a run

  -- a time as it is kept: no port's clock comes to one that is not kept
  abbrev IsKept : ℕ → ℕ → Type 0
  IsKept next due = (next ≡ due) ⊎ ((greatest_moment < next) × (greatest_moment < due))

  due-kept : (next due now len : ℕ) → now ≤ greatest_moment → IsKept next due → IsDue ps change flow next now len ↔ IsDue ps change flow due now len
  due-kept next due now len within (inl same) = (λ d. (d.0 ∙ ap (λ n. change + n) same, d.1), λ d. (d.0 ∙ ap (λ n. change + n) (sym same), d.1))
  due-kept next due now len within (inr past) =
      let a = past.0 in
      let b = past.1 in (
        λ d. absurd (let h = d.0 in omega (arith, a, h, within)),
        λ d. absurd (let h = d.0 in omega (arith, b, h, within)),
      )

  kept-on : (next due : ℕ) → IsKept next due → IsKept (capped (next + flow.period)) (due + flow.period)
  kept-on next due (inl same) = elim (cases_lt (2 ^ 128 - 1) (due + flow.period)) [
    | inl over ↦ inr (omega (arith, over, same), omega (arith, over))
    | inr within ↦ inl (omega (arith, within, same))
  ]
  kept-on next due (inr past) = (let a = past.0 in let b = past.1 in inr (omega (arith, a), omega (arith, b)))

  -- A run of so many events, so far: of the frames to come it is known from when on they are the flow's, just where they all are.
  pub record RunsNext (taken : ℕ) (events : List Event) (p q : AbstractPort) (next : ℕ) : Type 0 where
    pub due : ℕ
    pub kept : IsKept next due
    pub same : AreNext ps class change flow due (drop taken events) q ↔ AreNext ps class change flow flow.offset events p

  -- before any event
  pub next-first : (events : List Event) (p : AbstractPort) → RunsNext 0 events p p flow.offset
  next-first events p = record { due = flow.offset; kept = inl refl; same = (λ n. n, λ n. n) }

  module _ (taken : ℕ) (events : List Event) (p q : AbstractPort) (next : ℕ) (so_far : RunsNext taken events p q next) where
    -- behind all events
    pub next-end : length events ≤ taken → AreNext ps class change flow flow.offset events p
    next-end all = so_far.same.0 (subst (λ es. AreNext ps class change flow so_far.due es q) (sym (drop_of_length-le events all)) (next-none so_far.due q))

    module _ (event : Event) (sound : IsSoundPort q) (within : taken < length events) (is_event : event ≡ get_or events taken event) where
      rest : List Event
      rest = drop (taken + 1) events

      split : drop taken events ≡ event ∷ rest
      unfolding rest
      split =
          let more : suc taken ≡ taken + 1 = omega arith in
          drop-cons events taken event within ∙ (ap (λ e. e ∷ drop (suc taken) events) (sym is_event) ∙ ap (λ k. event ∷ drop k events) more)

      -- what is asked of the events from this one on is asked of those behind it
      record Goes (then : ℕ) : Type 0 where
        pub due : ℕ
        pub kept : IsKept then due
        pub same : AreNext ps class change flow so_far.due (event ∷ rest) q ↔ AreNext ps class change flow due rest (answers_to event q).1

      goes : (then : ℕ) → IsRefused event q → IsNextAt ps class change flow event q next then → Goes then
      goes then refused (inl nothing) = record { due = so_far.due; kept = subst (λ n. IsKept n so_far.due) (sym nothing.1) so_far.kept; same = on-nothing event rest q so_far.due refused nothing.0 }
      goes then refused (inr one) = record {
        due = so_far.due + flow.period;
        kept = subst (λ n. IsKept n (so_far.due + flow.period)) (sym one.3) (kept-on next so_far.due so_far.kept);
        same = on-next event rest q so_far.due one.0 refused one.1 ((due-kept next so_far.due q.now (one.0).len sound.current.within so_far.kept).0 one.2);
      }

      -- one more
      pub next-on : (then : ℕ) (r : AbstractPort) → IsRefused event q → IsNextAt ps class change flow event q next then → r ≡ settled (answers_to event q).1 → RunsNext (taken + 1) events p r then
      unfolding rest
      next-on then r refused at after =
          let g = goes then refused at in
          let fit = (same-event event q (timely-sound q sound)).fit in
          let settles = next-settled g.due rest (answers_to event q).1 fit in
          record {
            due = g.due;
            kept = g.kept;
            same = (
              λ n. so_far.same.0 (subst (λ es. AreNext ps class change flow so_far.due es q) (sym split) (g.same.1 (settles.0 (subst (AreNext ps class change flow g.due rest) after n)))),
              λ n. subst (AreNext ps class change flow g.due rest) (sym after) (settles.1 (g.same.0 (subst (λ es. AreNext ps class change flow so_far.due es q) split (so_far.same.1 n)))),
            );
          }

      -- none more
      pub next-other : IsOtherAt ps class change flow event q next → AreNext ps class change flow flow.offset events p → ⊥
      next-other other n = on-other event rest q so_far.due (go other) (subst (λ es. AreNext ps class change flow so_far.due es q) split (so_far.same.1 n))
        where
          go : IsOtherAt ps class change flow event q next → IsOtherAt ps class change flow event q so_far.due
          go (inl accepted) = inl accepted
          go (inr frame) = inr (frame.0, frame.1, λ due. frame.2 ((due-kept next so_far.due q.now (frame.0).len sound.current.within so_far.kept).1 due))

-- ---- the whole run

-- its change moment
pub change-is : (p : AbstractPort) (command : Command) (r : Option Refused) (change : ℕ) → Ok change ≡ (installs_by r p command).0 → (r ≡ None) × (change ≡ (new_command p command).change)
change-is p command None change is = (refl, (let same : Ok change ≡ Ok (new_command p command).change = is in cc))
change-is p command (Some r) change is = absurd (let no : Ok change ≡ Err r = is in cc)

pub refusal-is : (p : AbstractPort) (command : Command) (r : Option Refused) (why : Refused) → Err why ≡ (installs_by r p command).0 → r ≡ None → ⊥
refusal-is p command None why is none = (let no : Err why ≡ Ok (new_command p command).change = is in cc)
refusal-is p command (Some r) why is none = cc

-- another frame is offered
pub other-frame : (ps class change : ℕ) (flow : Flow) (next : ℕ) (event : Event) (p : AbstractPort) (f : Frame) (now : ℕ) (o : Option ℕ) → offered_by class event p ≡ came_now p f ∷ [] → now ≡ p.now
    → IfNone o (IsDue ps change flow next now f.len → ⊥) → IfNone o (IsOtherAt ps class change flow event p next)
other-frame ps class change flow next event p f now None offered is other = inr (f, offered, λ due. other (subst (λ n. IsDue ps change flow next n f.len) (sym is) due))
other-frame ps class change flow next event p f now (Some later) offered is other = tt

-- behind a command that is accepted
pub flow_in : (ps class : ℕ) (flow : Flow) (command : Bor Command) (events : List Event) (p q : AbstractPort) (change : ℕ) (held : Bool) → Ok change ≡ (installs p command.now).0 → q ≡ (installs p command.now).1
    → IsTrue held ↔ AreNext ps class change flow flow.offset events q → IsTrue held ↔ IsFlowIn ps class flow command events p
flow_in ps class flow command events p q change held is port next =
    let at = change-is p command.now (refusal p command.now) change is in
    let here : ℕ → AbstractPort → Type 0 = λ k r. AreNext ps class k flow flow.offset events r in (
      λ t. (at.0, subst (λ k. here k (installs p command.now).1) at.1 (subst (here change) port (next.0 t))),
      λ f. next.1 (subst (here change) (sym port) (subst (λ k. here k (installs p command.now).1) (sym at.1) f.1)),
    )

module _ (ps mtu room class : ℕ) (flow : Flow) (command : Bor Command) (events : List Event) where
  abbrev pub Runs : Type 0
  Runs = IsRunOf ps mtu room class command.now flow (Install command ∷ events)

  abbrev IsApartIn : Type 0
  IsApartIn = IsKeptApart class (Install command ∷ events) (new_port ps mtu room)

  abbrev IsFlowRun : Type 0
  IsFlowRun = IsFlowIn ps class flow command events (new_port ps mtu room)

  pub is_run_of : MIN_PS_PER_OCTET ≤ ps → MIN_MTU ≤ mtu → IsApartIn → IsFlowRun → Runs
  is_run_of rate large apart flows = go command.now refl (apart.0 flows.0)
    where
      go : (d : Command) → command.now ≡ d → IsApart class d → Runs
      go Delete is asked = absurd asked
      go (Replace c) is asked =
          let next = flows.1 in
          let a : Accepted = new_command (new_port ps mtu room) command.now in
          record {
            change = c;
            given = is;
            accepted = flows.0;
            count = next.count;
            run = record {
              rate = rate;
              large = large;
              command = a;
              is = ap (λ d. (new_command (new_port ps mtu room) d).plan) is;
              only = (λ none. (refl, refl), all_refused-only a events (answers_to (Install command) (new_port ps mtu room)).1 next.refused);
              apart = apart;
              come = next.come;
            };
          }

  pub run_apart : Runs → IsApartIn
  run_apart r = r.run.apart

  pub run_flow : Runs → IsFlowRun
  run_flow r =
      let new : AbstractPort = new_port ps mtu room in
      let q : AbstractPort = (answers_to (Install command) new).1 in
      let same = (r.run.only.0 r.accepted).1 in
      let history : q.history ≡ new_command new command.now ∷ [] = ap (λ o. (installs_by o new command.now).1.history) r.accepted ∙ (after_command-keeps command.now new).0 in (
        r.accepted,
        record {
          refused = all_only-refused r.run.command events q (λ none. let no : new_command new command.now ∷ [] ≡ [] = sym history ∙ none in cc) r.run.only.1;
          count = r.count;
          come =
              subst (λ (a : Accepted). AreComing ps a.change (flow ∷ []) (coming (flow ∷ []) r.count (flow.offset ∷ [])) (offered_in class events q)) (sym same) r.run.come;
        },
      )

  -- two tests, on two new ports
  pub runs_by : (p q : AbstractPort) (apart flows : Bool) → MIN_PS_PER_OCTET ≤ ps → MIN_MTU ≤ mtu → p ≡ new_port ps mtu room → q ≡ new_port ps mtu room
      → IsTrue apart ↔ IsKeptApart class (Install command ∷ events) p → IsTrue flows ↔ IsFlowIn ps class flow command events q → IsTrue (apart && flows) ↔ Runs
  runs_by p q apart flows rate large first second kept comes =
      let both = both-hold apart flows kept comes in (
        λ held. let parts = both.0 held in is_run_of rate large (subst (λ r. IsKeptApart class (Install command ∷ events) r) first parts.0) (subst (λ r. IsFlowIn ps class flow command events r) second parts.1),
        λ run. both.1 (subst (λ r. IsKeptApart class (Install command ∷ events) r) (sym first) (run_apart run), subst (λ r. IsFlowIn ps class flow command events r) (sym second) (run_flow run)),
      )
