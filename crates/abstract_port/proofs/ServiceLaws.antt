-- What a class that is kept apart is served, event by event.
use Rattle.std.proofs.Common.{◌≡◌, ◌<◌, ◌≤◌, ℕ, zero, suc, ◌+◌, ◌-◌, Bool, true, false, cond, ◌||◌, ltb, eqb, List, [], ◌∷◌, ◌++◌, length, map, get_or, set, Option, Some, None, is_some, Result, Ok, Err, ◌⊎◌, inl, inr, refl, sym, ap, ◌∙◌, Bor, subst, arith, le_trans, append-nil, append_assoc, get_or-set_same, get_or-set_other}
use Rattle.std.proofs.lemmas.Bool.{cases_Bool, cases_eq, cases_lt, ltb-false, or_parts, false≢true, eqb-true, eq-eqb, ne_eqb}
use Rattle.std.proofs.lemmas.List.Elements.{filter-append}
use Rattle.wire_time.specs.Wire.{lead_of, sdu_of}
use Rattle.wire_time.specs.Moment.{greatest_moment}
use Rattle.wire_time.specs.declared.Frame.{Frame}
use Rattle.gates.specs.History.{Accepted, in_force}
use Rattle.gates.proofs.HistoryLaws.{push_force}
use Rattle.gates.proofs.CommandLaws.{change-of_timely}
use Rattle.abstract_port.specs.declared.Dropped.{Dropped}
use Rattle.abstract_port.specs.declared.Refused.{Refused}
use Rattle.abstract_port.specs.declared.Command.{Command}
use Rattle.abstract_port.specs.declared.Command.TheVariants.{Replace, Delete}
use Rattle.abstract_port.specs.declared.Start.{Start}
use Rattle.abstract_port.specs.declared.Event.{Event}
use Rattle.abstract_port.specs.declared.Event.TheVariants.{Arrive, Install, Clock, Query, Count}
use Rattle.abstract_port.specs.declared.Answer.{Answer}
use Rattle.abstract_port.specs.declared.Answer.TheVariants as Answered
use Rattle.abstract_port.specs.AbstractPort.{AbstractPort, new_port, queue_of, class_for, verdict, verdict_in, after_arrival, drop_in, refusal, new_command, after_command, plan_asked, counters_of}
use Rattle.abstract_port.specs.Answers.{arrival_answer, answers_to, answers_of, port_after}
use Rattle.abstract_port.specs.Laws.{starts_in}
use Rattle.abstract_port.proofs.RunLaws.{accepted_plan, has_cycle, clock_back, clock_on, arrival-keeps}
use Rattle.abstract_port.proofs.ArrivalLaws.{verdict_with}
use Rattle.abstract_port.specs.Separation.{IsApartAt, IsApart, IsKeptApart, is_other}
use Rattle.abstract_port.proofs.Histories.{push_open}
use Rattle.abstract_port.proofs.Lockstep.{rest_of, live, IsLawful, IsSameWire}
use Rattle.abstract_port.proofs.Lives.{starts_until_live}
use Rattle.abstract_port.proofs.Steps.{AreHeld, Judged, judged, queued, dropped, install_with}
use Rattle.abstract_port.proofs.RunTurns.{starts_in-append, starts_in-starts}
use Rattle.abstract_port.proofs.Separates.{step, skip, new_lawful, no_queue}
use Rattle.abstract_port.specs.Traffic.{Came, queued_as, queued_by, queued_in, starts_of_class, IsOnlyAt, IsOnly}
use Rattle.abstract_port.specs.Served.{frames_of, AreServed, ServedLaw}
use Rattle.abstract_port.proofs.Alone.{serve, may_in, serves}
use Rattle.abstract_port.proofs.Chains.{comes, served}

-- ---- what holds at each place of a list

pub record Holds (c : ℕ) (a : Accepted) (pace : ℕ) (p : AbstractPort) (came : List Came) (starts : List Start) : Type 0 where
  pub free : ℕ
  pub rate : p.ps ≡ pace
  pub lawful : IsLawful c p
  pub wire : IsSameWire c p.history p.now p.free free
  pub served : AreServed (may_in (a ∷ []) c) p.ps c 0 p.now came starts free (queue_of p c)
  pub phase : (p.history ≡ a ∷ []) ⊎ ((p.history ≡ []) × (came ≡ []) × (starts ≡ []))

-- where an event changes nothing that counts
holds_same : (c : ℕ) (a : Accepted) (pace : ℕ) (p q : AbstractPort) (came : List Came) (starts : List Start) (given : List Answer) → q ≡ p → starts_in given ≡ [] → Holds c a pace p came starts → Holds c a pace q (came ++ []) (starts ++ starts_of_class c (starts_in given))
holds_same c a pace p q came starts given e none h =
    subst (λ xs. Holds c a pace q xs (starts ++ starts_of_class c (starts_in given))) (sym (append-nil came))
    (subst (λ xs. Holds c a pace q came (starts ++ starts_of_class c xs)) (sym none)
    (subst (λ xs. Holds c a pace q came xs) (sym (append-nil starts))
    (subst (λ x. Holds c a pace x came starts) (sym e) h)))

-- ---- arrivals

lawful_after : (c : ℕ) (event : Event) (p : AbstractPort) → c < 8 → IsLawful c p → IsApartAt c event p → IsLawful c (answers_to event p).1
lawful_after c event p lc l k =
    elim (cases_Bool (is_other c event p)) [
      | inl t ↦ (let w = skip c event p (rest_of p) held t in subst (λ z. IsLawful c z.1) (sym w.one) (w.held).lawful)
      | inr f ↦ (let w = step c event p (rest_of p) lc held k f in subst (λ z. IsLawful c z.1) (sym w.one) (w.held).lawful)
    ]
  where
    held : AreHeld c p (rest_of p)
    held = record { lawful = l; lawful_other = l; alike = record { queue = refl; counts = refl; wire = λ m le f o. (λ x. x, λ x. x) } }

drop_free : (p : AbstractPort) (why : Dropped) (o : Option ℕ) → (drop_in p why o).free ≡ p.free
drop_free p why None = refl
drop_free p why (Some class) = refl

pub drop_queues : (p : AbstractPort) (why : Dropped) (o : Option ℕ) → (drop_in p why o).queues ≡ p.queues
drop_queues p why None = refl
drop_queues p why (Some class) = refl

pub arrival_free : (p : AbstractPort) (f : Frame) (v : Result ℕ Dropped) → (after_arrival p f v).free ≡ p.free
arrival_free p f (Ok class) = refl
arrival_free p f (Err why) = drop_free p why (class_for p f.priority)

pub arrival_starts : (f : Frame) (v : Result ℕ Dropped) → starts_in (arrival_answer f v ∷ []) ≡ []
arrival_starts f (Ok class) = refl
arrival_starts f (Err why) = refl

pub arrival_queue : (c : ℕ) (p : AbstractPort) (f : Frame) (v : Result ℕ Dropped) → c < length p.queues → queue_of (after_arrival p f v) c ≡ queue_of p c ++ frames_of (queued_as c p f v)
arrival_queue c p f (Ok d) listed =
    elim (cases_eq d c) [
      | inl e ↦ subst (λ k. get_or (set p.queues k (queue_of p k ++ f ∷ [])) c [] ≡ queue_of p c ++ frames_of (cond (eqb k c) (record { moment = p.now; frame = f } ∷ []) [])) (sym e)
          (get_or-set_same p.queues c (queue_of p c ++ f ∷ []) [] listed ∙ ap (λ b. queue_of p c ++ frames_of (cond b (record { moment = p.now; frame = f } ∷ []) [])) (sym (eq-eqb c c refl)))
      | inr ne ↦
          get_or-set_other p.queues d c (queue_of p d ++ f ∷ []) [] (λ q. ne (sym q))
          ∙ (sym (append-nil (queue_of p c)) ∙ ap (λ b. queue_of p c ++ frames_of (cond b (record { moment = p.now; frame = f } ∷ []) [])) (sym (ne_eqb d c ne)))
    ]
arrival_queue c p f (Err why) listed = ap (λ qs. get_or qs c []) (drop_queues p why (class_for p f.priority)) ∙ sym (append-nil (queue_of p c))

-- a frame is queued in the class that its priority has
pub verdict_class : (p : AbstractPort) (f : Frame) (d : ℕ) → 68 ≤ p.mtu → verdict p f ≡ Ok d → class_for p f.priority ≡ Some d
verdict_class p f d large e = go (class_for p f.priority) refl e
  where
    go : (o : Option ℕ) → class_for p f.priority ≡ o → verdict_with p f o ≡ Ok d → class_for p f.priority ≡ Some d
    go None is v = absurd (cc)
    go (Some k) is v = is ∙ by (judged p k f large)
      where
        by : Judged p k f (verdict_in p k (sdu_of f)) → Some k ≡ Some d
        by (queued w fit) = let same : k ≡ d = (let z : Ok k ≡ Ok d = sym w ∙ v in cc) in ap Some same
        by (dropped why w) = absurd (let z : Err why ≡ Ok d = sym w ∙ v in cc)

-- before a schedule is in force none is
pub none_queued : (c : ℕ) (p : AbstractPort) (f : Frame) → 68 ≤ p.mtu → p.history ≡ [] → IsApartAt c (Arrive f) p → queued_as c p f (verdict p f) ≡ []
none_queued c p f large empty k = go (verdict p f) refl
  where
    go : (v : Result ℕ Dropped) → verdict p f ≡ v → queued_as c p f v ≡ []
    go (Err why) e = refl
    go (Ok d) e = elim (cases_Bool (eqb d c)) [
      | inr other ↦ ap (λ b. cond b (record { moment = p.now; frame = f } ∷ []) []) other
      | inl t ↦ absurd (
          let same : d ≡ c = eqb-true d c t in
          let forced : is_some (in_force p.history p.now) ≡ true = k (verdict_class p f d large e ∙ ap Some same) in
          false≢true (ap (λ h. is_some (in_force h p.now)) (sym empty) ∙ forced))
    ]

-- one more is served, or none
queued_served : (may : ℕ → ℕ → Bool) (c : ℕ) (p : AbstractPort) (f : Frame) (v : Result ℕ Dropped) (came : List Came) (starts : List Start) (free : ℕ)
    → AreServed may p.ps c 0 p.now came starts free (queue_of p c)
    → AreServed may p.ps c 0 p.now (came ++ queued_as c p f v) starts free (queue_of p c ++ frames_of (queued_as c p f v))
queued_served may c p f (Err why) came starts free h =
    subst (λ xs. AreServed may p.ps c 0 p.now xs starts free (queue_of p c ++ [])) (sym (append-nil came))
    (subst (λ xs. AreServed may p.ps c 0 p.now came starts free xs) (sym (append-nil (queue_of p c))) h)
queued_served may c p f (Ok d) came starts free h = go (eqb d c)
  where
    go : (b : Bool) → AreServed may p.ps c 0 p.now (came ++ cond b (record { moment = p.now; frame = f } ∷ []) []) starts free (queue_of p c ++ frames_of (cond b (record { moment = p.now; frame = f } ∷ []) []))
    go true = comes may p.ps c 0 p.now came starts free (queue_of p c) f h
    go false =
        subst (λ xs. AreServed may p.ps c 0 p.now xs starts free (queue_of p c ++ [])) (sym (append-nil came))
        (subst (λ xs. AreServed may p.ps c 0 p.now came starts free xs) (sym (append-nil (queue_of p c))) h)

module _ (c : ℕ) (a : Accepted) (pace : ℕ) (lc : c < 8) where
  arrives : (f : Frame) (p : AbstractPort) (came : List Came) (starts : List Start) → Holds c a pace p came starts → IsApartAt c (Arrive f) p
      → Holds c a pace (answers_to (Arrive f) p).1 (came ++ queued_by c (Arrive f) p) (starts ++ starts_of_class c (starts_in (answers_to (Arrive f) p).0))
  arrives f p came starts h k =
      let v = verdict p f in
      let q = after_arrival p f v in
      let keeps = arrival-keeps p f v in
      subst (λ xs. Holds c a pace q (came ++ queued_as c p f v) xs) (sym (ap (λ xs. starts ++ starts_of_class c xs) (arrival_starts f v) ∙ append-nil starts))
      (record {
        free = h.free;
        rate = keeps.2 ∙ h.rate;
        lawful = lawful_after c (Arrive f) p lc h.lawful k;
        wire =
            subst (λ y. IsSameWire c q.history q.now y h.free) (sym (arrival_free p f v))
            (subst (λ y. IsSameWire c y q.now p.free h.free) (sym keeps.0)
            (subst (λ y. IsSameWire c p.history y p.free h.free) (sym keeps.1) h.wire));
        served =
            subst (λ y. AreServed (may_in (a ∷ []) c) y c 0 q.now (came ++ queued_as c p f v) starts h.free (queue_of q c)) (sym keeps.2)
            (subst (λ y. AreServed (may_in (a ∷ []) c) p.ps c 0 y (came ++ queued_as c p f v) starts h.free (queue_of q c)) (sym keeps.1)
            (subst (λ y. AreServed (may_in (a ∷ []) c) p.ps c 0 p.now (came ++ queued_as c p f v) starts h.free y) (sym (arrival_queue c p f v (h.lawful).queued))
            (queued_served (may_in (a ∷ []) c) c p f v came starts h.free h.served)));
        phase = elim h.phase [
          | inl e ↦ inl (keeps.0 ∙ e)
          | inr e ↦ inr (keeps.0 ∙ e.0, ap (λ xs. xs ++ queued_as c p f v) e.1 ∙ none_queued c p f (h.lawful).mtu e.0 k, e.2)
        ];
      })

  -- ---- commands

  wire_installed : (h : List Accepted) (now : ℕ) (x : Accepted) (f g : ℕ) → x.lead ≤ x.change → f ≤ x.lead → g ≤ x.lead → IsSameWire c h now f g → IsSameWire c (h ++ x ∷ []) now f g
  wire_installed h now x f g timely lf lg w m le forced opened =
      elim (cases_lt m x.lead) [
        | inl ahead ↦ w m le (sym (ap is_some (push_force x m ahead timely h)) ∙ forced) (sym (push_open x m ahead timely h c) ∙ opened)
        | inr come ↦ (λ z. le_trans lg come, λ z. le_trans lf come)
      ]

  -- what nothing that came is served
  nothing_served : (may : ℕ → ℕ → Bool) (ps now free : ℕ) (q : List Frame) → AreServed may ps c 0 now [] [] free q → (free ≡ 0) × (q ≡ [])
  nothing_served may ps now free q h = (h.unused, h.frames)

  accepted : (command : Command) (p : AbstractPort) (came : List Came) (starts : List Start) → refusal p command ≡ None → IsApart c command
      → IsLawful c (after_command p command) → p.history ≡ [] → new_command p command ≡ a → Holds c a pace p came starts → Holds c a pace (after_command p command) came starts
  accepted Delete p came starts e u l empty is h = absurd u
  accepted (Replace ch) p came starts e u l empty is h =
      let pos = has_cycle p.ps (plan_asked ch) (h.lawful).rate (accepted_plan p ch e) in
      let timely = change-of_timely (plan_asked ch) (p.now + lead_of p.ps p.mtu) pos in
      record {
        free = h.free;
        rate = h.rate;
        lawful = l;
        wire = wire_installed p.history p.now (new_command p (Replace ch)) p.free h.free timely (h.lawful).wire unused h.wire;
        served = h.served;
        phase = inl (ap (λ xs. xs ++ new_command p (Replace ch) ∷ []) empty ∙ ap (λ x. x ∷ []) is);
      }
    where
      free_none : (came : List Came) (starts : List Start) → (p.history ≡ a ∷ []) ⊎ ((p.history ≡ []) × (came ≡ []) × (starts ≡ [])) → AreServed (may_in (a ∷ []) c) p.ps c 0 p.now came starts h.free (queue_of p c) → h.free ≡ 0
      free_none came starts (inl full) s = absurd (let z : [] ≡ a ∷ [] = sym empty ∙ full in cc)
      free_none came starts (inr none) s =
          (nothing_served (may_in (a ∷ []) c) p.ps p.now h.free (queue_of p c)
          (subst (λ xs. AreServed (may_in (a ∷ []) c) p.ps c 0 p.now [] xs h.free (queue_of p c)) none.2
          (subst (λ xs. AreServed (may_in (a ∷ []) c) p.ps c 0 p.now xs starts h.free (queue_of p c)) none.1 s))).0

      unused : h.free ≤ p.now + lead_of p.ps p.mtu
      unused = let none = free_none came starts h.phase h.served in omega arith

  installs_one : (b : Bor Command) (p : AbstractPort) (came : List Came) (starts : List Start) → Holds c a pace p came starts → IsApartAt c (Install b) p → IsOnlyAt a (Install b) p
      → Holds c a pace (answers_to (Install b) p).1 (came ++ []) (starts ++ starts_of_class c (starts_in (answers_to (Install b) p).0))
  installs_one b p came starts h k only = go (refusal p b.now) refl
    where
      go : (o : Option Refused) → refusal p b.now ≡ o → Holds c a pace (answers_to (Install b) p).1 (came ++ []) (starts ++ starts_of_class c (starts_in (answers_to (Install b) p).0))
      go (Some r) e =
          let is : answers_to (Install b) p ≡ (Answered.Refused r ∷ [], p) = ap (install_with p b.now) e in
          holds_same c a pace p (answers_to (Install b) p).1 came starts (answers_to (Install b) p).0 (ap (λ z. z.1) is) (ap (λ z. starts_in z.0) is) h
      go None e =
          let is : answers_to (Install b) p ≡ (Answered.Installed (new_command p b.now).change ∷ [], after_command p b.now) = ap (install_with p b.now) e in
          let l = subst (λ z. IsLawful c z.1) is (lawful_after c (Install b) p lc h.lawful k) in
          holds_same c a pace (after_command p b.now) (answers_to (Install b) p).1 came starts (answers_to (Install b) p).0 (ap (λ z. z.1) is) (ap (λ z. starts_in z.0) is)
          (accepted b.now p came starts e (k e) l (only e).0 (only e).1 h)

  -- ---- the clock

  serve_none : (may : ℕ → ℕ → Bool) (ps n m free : ℕ) → serve may ps c n m free [] ≡ ([], free, [])
  unfolding serve
  serve_none may ps zero m free = refl
  serve_none may ps (suc n) m free = serve_none may ps n (m + 1) free

  ticks : (m : ℕ) (p : AbstractPort) (came : List Came) (starts : List Start) → Holds c a pace p came starts
      → Holds c a pace (answers_to (Clock m) p).1 (came ++ []) (starts ++ starts_of_class c (starts_in (answers_to (Clock m) p).0))
  ticks m p came starts h =
      elim (cases_Bool (ltb m p.now || ltb greatest_moment m)) [ inl t ↦ back t | inr f ↦ on f ]
    where
      back : (ltb m p.now || ltb greatest_moment m) ≡ true → Holds c a pace (answers_to (Clock m) p).1 (came ++ []) (starts ++ starts_of_class c (starts_in (answers_to (Clock m) p).0))
      back t =
          let is = clock_back m p t in
          holds_same c a pace p (answers_to (Clock m) p).1 came starts (answers_to (Clock m) p).0 (ap (λ z. z.1) is) (ap (λ z. starts_in z.0) is) h

      on : (ltb m p.now || ltb greatest_moment m) ≡ false → Holds c a pace (answers_to (Clock m) p).1 (came ++ []) (starts ++ starts_of_class c (starts_in (answers_to (Clock m) p).0))
      on f =
          let le = ltb-false m p.now (or_parts _ _ f).0 in
          let rate = (h.lawful).rate in
          let pos : 0 < p.ps = omega arith in
          let n : ℕ = m - p.now in
          let x = starts_until_live p m pos le in
          let w = serves c n p h.free (queue_of p c) lc h.lawful refl h.wire in
          let is : answers_to (Clock m) p ≡ (map Answered.Start (live n p).0, (live n p).1) = clock_on m p f ∙ ap (λ z. (map Answered.Start z.0, z.1)) x in
          let told : starts_in (answers_to (Clock m) p).0 ≡ (live n p).0 = ap (λ z. starts_in z.0) is ∙ starts_in-starts (live n p).0 in
          let port : (answers_to (Clock m) p).1 ≡ w.port = ap (λ z. z.1) is ∙ w.lived in
          subst (λ xs. Holds c a pace (answers_to (Clock m) p).1 xs (starts ++ starts_of_class c (starts_in (answers_to (Clock m) p).0))) (sym (append-nil came))
          (subst (λ xs. Holds c a pace (answers_to (Clock m) p).1 came (starts ++ xs)) (sym (ap (starts_of_class c) told ∙ w.starts))
          (subst (λ z. Holds c a pace z came (starts ++ (serve (may_in p.history c) p.ps c n p.now h.free (queue_of p c)).0)) (sym port)
          (record {
            free = (serve (may_in p.history c) p.ps c n p.now h.free (queue_of p c)).1;
            rate = w.rate ∙ h.rate;
            lawful = w.lawful;
            wire = w.wire;
            served =
                subst (λ y. AreServed (may_in (a ∷ []) c) y c 0 (w.port).now came (starts ++ (serve (may_in p.history c) p.ps c n p.now h.free (queue_of p c)).0) (serve (may_in p.history c) p.ps c n p.now h.free (queue_of p c)).1 (queue_of w.port c)) (sym w.rate)
                (subst (λ y. AreServed (may_in (a ∷ []) c) p.ps c 0 y came (starts ++ (serve (may_in p.history c) p.ps c n p.now h.free (queue_of p c)).0) (serve (may_in p.history c) p.ps c n p.now h.free (queue_of p c)).1 (queue_of w.port c)) (sym w.moment)
                (subst (λ y. AreServed (may_in (a ∷ []) c) p.ps c 0 (p.now + n) came (starts ++ (serve (may_in p.history c) p.ps c n p.now h.free (queue_of p c)).0) (serve (may_in p.history c) p.ps c n p.now h.free (queue_of p c)).1 y) (sym w.queue)
                (by_phase came starts h.phase h.served pos)));
            phase = elim h.phase [
              | inl e ↦ inl (w.history ∙ e)
              | inr e ↦ inr (w.history ∙ e.0, e.1, ap (λ xs. xs ++ (serve (may_in p.history c) p.ps c n p.now h.free (queue_of p c)).0) e.2 ∙ ap (λ z. z.0) (idle came starts e h.served n))
            ];
          })))
        where
          idle : (came : List Came) (starts : List Start) → (p.history ≡ []) × (came ≡ []) × (starts ≡ []) → AreServed (may_in (a ∷ []) c) p.ps c 0 p.now came starts h.free (queue_of p c)
              → (n : ℕ) → serve (may_in p.history c) p.ps c n p.now h.free (queue_of p c) ≡ ([], h.free, [])
          idle came starts e s n =
              let none = nothing_served (may_in (a ∷ []) c) p.ps p.now h.free (queue_of p c)
              (subst (λ xs. AreServed (may_in (a ∷ []) c) p.ps c 0 p.now [] xs h.free (queue_of p c)) e.2
              (subst (λ xs. AreServed (may_in (a ∷ []) c) p.ps c 0 p.now xs starts h.free (queue_of p c)) e.1 s)) in
              ap (λ q. serve (may_in p.history c) p.ps c n p.now h.free q) none.1 ∙ serve_none (may_in p.history c) p.ps n p.now h.free

          -- before the command the gates are other ones, and nothing is served by either
          by_phase : (came : List Came) (starts : List Start) → (p.history ≡ a ∷ []) ⊎ ((p.history ≡ []) × (came ≡ []) × (starts ≡ []))
              → AreServed (may_in (a ∷ []) c) p.ps c 0 p.now came starts h.free (queue_of p c) → 0 < p.ps
              → AreServed (may_in (a ∷ []) c) p.ps c 0 (p.now + (m - p.now)) came (starts ++ (serve (may_in p.history c) p.ps c (m - p.now) p.now h.free (queue_of p c)).0)
              (serve (may_in p.history c) p.ps c (m - p.now) p.now h.free (queue_of p c)).1 (serve (may_in p.history c) p.ps c (m - p.now) p.now h.free (queue_of p c)).2
          by_phase came starts (inl e) s pos =
              subst (λ k. AreServed (may_in (a ∷ []) c) p.ps c 0 (p.now + (m - p.now)) came (starts ++ (serve (may_in k c) p.ps c (m - p.now) p.now h.free (queue_of p c)).0)
              (serve (may_in k c) p.ps c (m - p.now) p.now h.free (queue_of p c)).1 (serve (may_in k c) p.ps c (m - p.now) p.now h.free (queue_of p c)).2) (sym e)
              (served (m - p.now) (may_in (a ∷ []) c) p.ps c 0 p.now came starts h.free (queue_of p c) pos s)
          by_phase came starts (inr e) s pos =
              let none = idle came starts e s (m - p.now) in
              let other = idle_any came starts e s (m - p.now) in
              subst (λ z. AreServed (may_in (a ∷ []) c) p.ps c 0 (p.now + (m - p.now)) came (starts ++ z.0) z.1 z.2) (other ∙ sym none)
              (served (m - p.now) (may_in (a ∷ []) c) p.ps c 0 p.now came starts h.free (queue_of p c) pos s)
            where
              idle_any : (came : List Came) (starts : List Start) → (p.history ≡ []) × (came ≡ []) × (starts ≡ []) → AreServed (may_in (a ∷ []) c) p.ps c 0 p.now came starts h.free (queue_of p c)
                  → (n : ℕ) → serve (may_in (a ∷ []) c) p.ps c n p.now h.free (queue_of p c) ≡ ([], h.free, [])
              idle_any came starts e s n =
                  let none = nothing_served (may_in (a ∷ []) c) p.ps p.now h.free (queue_of p c)
                  (subst (λ xs. AreServed (may_in (a ∷ []) c) p.ps c 0 p.now [] xs h.free (queue_of p c)) e.2
                  (subst (λ xs. AreServed (may_in (a ∷ []) c) p.ps c 0 p.now xs starts h.free (queue_of p c)) e.1 s)) in
                  ap (λ q. serve (may_in (a ∷ []) c) p.ps c n p.now h.free q) none.1 ∙ serve_none (may_in (a ∷ []) c) p.ps n p.now h.free

  -- ---- any event

  pub count_starts : (b : Bool) (class : ℕ) (p : AbstractPort) → starts_in (cond b (Answered.Counters class (counters_of p class) ∷ []) (Answered.BadClass ∷ [])) ≡ []
  count_starts true class p = refl
  count_starts false class p = refl

  pub takes : (event : Event) (p : AbstractPort) (came : List Came) (starts : List Start) → Holds c a pace p came starts → IsApartAt c event p → IsOnlyAt a event p
      → Holds c a pace (answers_to event p).1 (came ++ queued_by c event p) (starts ++ starts_of_class c (starts_in (answers_to event p).0))
  takes (Arrive f) p came starts h k only = arrives f p came starts h k
  takes (Install b) p came starts h k only = installs_one b p came starts h k only
  takes (Clock m) p came starts h k only = ticks m p came starts h
  takes Query p came starts h k only = holds_same c a pace p p came starts (answers_to Query p).0 refl refl h
  takes (Count n) p came starts h k only = holds_same c a pace p p came starts (answers_to (Count n) p).0 refl (count_starts (ltb n 8) n p) h

  runs : (events : List Event) (p : AbstractPort) (came : List Came) (starts : List Start) → Holds c a pace p came starts → IsKeptApart c events p → IsOnly a events p
      → Holds c a pace (port_after events p) (came ++ queued_in c events p) (starts ++ starts_of_class c (starts_in (answers_of events p)))
  runs [] p came starts h k only =
      subst (λ xs. Holds c a pace p xs (starts ++ [])) (sym (append-nil came)) (subst (λ xs. Holds c a pace p came xs) (sym (append-nil starts)) h)
  runs (event ∷ rest) p came starts h k only =
      let q = (answers_to event p).1 in
      let given = (answers_to event p).0 in
      let later = runs rest q (came ++ queued_by c event p) (starts ++ starts_of_class c (starts_in given)) (takes event p came starts h k.0 only.0) k.1 only.1 in
      subst (λ xs. Holds c a pace (port_after rest q) xs (starts ++ starts_of_class c (starts_in (given ++ answers_of rest q)))) (append_assoc came (queued_by c event p) (queued_in c rest q))
      (subst (λ xs. Holds c a pace (port_after rest q) ((came ++ queued_by c event p) ++ queued_in c rest q) xs)
      (append_assoc starts (starts_of_class c (starts_in given)) (starts_of_class c (starts_in (answers_of rest q)))
      ∙ ap (λ xs. starts ++ xs) (sym (ap (starts_of_class c) (starts_in-append given (answers_of rest q)) ∙ filter-append (λ (s : Start). eqb s.class c) (starts_in given) (starts_in (answers_of rest q)))))
      later)

-- ---- a new port

pub new_holds : (ps mtu room c : ℕ) (a : Accepted) → 80 ≤ ps → 68 ≤ mtu → c < 8 → Holds c a ps (new_port ps mtu room) [] []
new_holds ps mtu room c a rate large lc = record {
  free = 0;
  rate = refl;
  lawful = new_lawful ps mtu room c rate large lc;
  wire = λ m le f o. (λ x. x, λ x. x);
  served = record { unused = refl; frames = no_queue c; come = tt; waits = tt };
  phase = inr (refl, refl, refl);
}

pub served_law : ServedLaw
served_law ps mtu room c a events rate large lc k only =
    let end = runs c a ps lc events (new_port ps mtu room) [] [] (new_holds ps mtu room c a rate large lc) k only in
    record {
      free = end.free;
      served = subst (λ y. AreServed (may_in (a ∷ []) c) y c 0 (port_after events (new_port ps mtu room)).now (queued_in c events (new_port ps mtu room)) (starts_of_class c (starts_in (answers_of events (new_port ps mtu room)))) end.free (queue_of (port_after events (new_port ps mtu room)) c)) end.rate end.served;
    }
