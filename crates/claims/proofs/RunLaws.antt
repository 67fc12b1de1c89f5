-- A run in which frames of all classes come: the command, for each frame a clock event to its moment and the frame, and the clock at last.
use Rattle.std.proofs.Common.{◌≡◌, ◌<◌, ◌≤◌, ℕ, suc, ◌+◌, Bool, true, false, cond, ◌&&◌, ◌||◌, eqb, List, [], ◌∷◌, ◌++◌, slice_get, Some, None, is_some, refl, sym, ap, ◌∙◌, subst, arith, le_refl}
use Rattle.std.specs.Prelude.{slice_index_or}
use Rattle.std.proofs.lemmas.Bool.{le-leb, or_parts}
use Rattle.wire_time.specs.Moment.{greatest_moment}
use Rattle.wire_time.specs.Wire.{occupancy_of, sdu_of}
use Rattle.wire_time.specs.declared.Frame.{Frame}
use Rattle.gates.specs.History.{Accepted, in_force}
use Rattle.abstract_port.specs.AbstractPort.{AbstractPort, after_arrival, class_for, installs_by, new_command, new_port, plan_asked, verdict}
use Rattle.abstract_port.specs.Answers.{answers_of, answers_to, port_after}
use Rattle.abstract_port.specs.Laws.{starts_in}
use Rattle.abstract_port.specs.declared.Change.{Change}
use Rattle.abstract_port.specs.declared.Command.TheVariants.{Replace}
use Rattle.abstract_port.specs.declared.Event.{Event}
use Rattle.abstract_port.specs.declared.Event.TheVariants.{Arrive, Clock, Install}
use Rattle.abstract_port.specs.declared.Start.{Start}
use Rattle.abstract_port.proofs.RunLaws.{accepted_plan, arrival-keeps, has_cycle}
use Rattle.abstract_port.specs.Separation.{is_class}
use Rattle.abstract_port.specs.Traffic.{Came, IsOnly, offered_by, offered_in, queued_in}
use Rattle.any_traffic.specs.ArrivalCurve.{ConformTo}
use Rattle.any_traffic.specs.SlotCurve.{CoverUpTo}
use Rattle.any_traffic.specs.Runs.{AreScheduled, IsOnePlan, end_of_run, offered}
use Rattle.any_traffic.proofs.Offered.{are_part}
use Rattle.any_traffic.proofs.PartLaws.{part_at}
use Rattle.shared_bounds.specs.Traffic.{arrivals_of, covered_by, needs}
use Rattle.shared_bounds.specs.declared.ClassTraffic.{ClassTraffic}
use Rattle.claims.proofs.FrameEvents.{IsThen, goes_on, offered_one, setup-arrival, setup_of}
use Rattle.claims.specs.Runs.{IsTaken, in_force_from, scheduled}
use Rattle.claims.specs.OtherClasses.{TakesUpTo}
use Rattle.claims.specs.SharedClaim.{IsSharingRun}
use Rattle.claims.specs.SharedPremises.{CanShare, ComeWithin, SharedRunsExist, frames_to}
use Rattle.claims.proofs.OtherLaws.{others_law}

one_more : (b : Bool) (f : Came) (rest : List Came) → cond b (f ∷ []) [] ++ rest ≡ cond b (f ∷ rest) rest
one_more true f rest = refl
one_more false f rest = refl

-- ---- the frames, one after another, on a port whose one command has been accepted

module _ (base : AbstractPort) (a : Accepted) (until : ℕ) (some : 0 < base.ps) (history : base.history ≡ a ∷ [])
    (clock : until ≤ greatest_moment) where
  -- a frame that the port takes into a class
  abbrev IsTakenIn : Came → Type 0
  IsTakenIn f = (class : ℕ) × (t : IsTaken base class (occupancy_of base.ps f.frame.len)) × (t.frame ≡ f.frame)

  -- events in which these frames come, and no others, up to the last moment
  record Comes (came : List Came) (p : AbstractPort) : Type 0 where
    pub events : List Event
    pub only : IsOnly a events p
    pub scheduled : (class : ℕ) → AreScheduled class events p
    pub come : (class : ℕ) → offered_in class events p ≡ frames_to base class came
    pub ends : (port_after events p).now ≡ until

  forced : (m : ℕ) → a.change ≤ m → is_some (in_force (a ∷ []) m) ≡ true
  forced m from = ap (λ b. is_some (cond (b && true) (Some a) None)) (le-leb a.change m from)

  none_comes : (p : AbstractPort) → setup_of p ≡ setup_of base → p.now ≤ until → Comes [] p
  none_comes p same from =
      let later = goes_on p until (subst (λ n. 0 < n) (sym (ap (λ s. s.0) same)) some) from clock in
      record { events = Clock until ∷ []; only = (tt, tt); scheduled = λ class. (tt, tt); come = λ class. refl; ends = later.now }

  one_comes : (f : Came) (came : List Came) (p : AbstractPort) → IsTakenIn f → setup_of p ≡ setup_of base → p.now ≤ f.moment
      → a.change ≤ f.moment → f.moment ≤ greatest_moment
      → ((r : AbstractPort) → setup_of r ≡ setup_of base → r.now ≡ f.moment → Comes came r) → Comes (f ∷ came) p
  one_comes f came p taken same from begun within behind =
      record {
        events = Clock f.moment ∷ Arrive f.frame ∷ rest.events;
        only = (tt, (tt, rest.only));
        scheduled = λ class. (tt, (λ own. force, rest.scheduled class));
        come = λ class.
            ap (λ xs. xs ++ offered_in class rest.events r) (offers class)
            ∙ (ap (λ ys. cond (eqb own class) (f ∷ []) [] ++ ys) (rest.come class)
            ∙ (one_more (eqb own class) f (frames_to base class came)
            ∙ sym (ap (λ o. cond (is_class class o) (f ∷ frames_to base class came) (frames_to base class came)) leads)));
        ends = rest.ends;
      }
    where
      own : ℕ
      own = taken.0

      sent : IsTaken base taken.0 (occupancy_of base.ps f.frame.len)
      sent = taken.1

      leads : class_for base f.frame.priority ≡ Some taken.0
      leads = subst (λ (g : Frame). class_for base g.priority ≡ Some taken.0) taken.2 (taken.1).leads

      later : IsThen p f.moment (answers_to (Clock f.moment) p).1
      later = goes_on p f.moment (subst (λ n. 0 < n) (sym (ap (λ s. s.0) same)) some) from within

      q : AbstractPort
      q = (answers_to (Clock f.moment) p).1

      here : setup_of q ≡ setup_of base
      here = later.setup ∙ same

      offers : (class : ℕ) → offered_by class (Arrive f.frame) q ≡ cond (eqb own class) (f ∷ []) []
      offers class =
          offered_one class taken.0 q f.frame (taken.1).sdu
          (ap (λ s. class_for (record base { classes = s.3 }) f.frame.priority) here ∙ leads)
          (subst (λ (g : Frame). sdu_of g ≡ Some (taken.1).sdu) taken.2 (taken.1).whole)
          (subst (λ n. (taken.1).sdu ≤ n) (sym (ap (λ s. s.1) here)) (taken.1).short)
          (subst (λ xs. 0 < slice_index_or xs taken.0 0 → (taken.1).sdu ≤ slice_index_or xs taken.0 0) (sym (ap (λ s. s.4) here))
          (taken.1).limited)
          ∙ ap (λ m. cond (eqb taken.0 class) (record { moment = m; frame = f.frame } ∷ []) []) later.now

      r : AbstractPort
      r = after_arrival q f.frame (verdict q f.frame)

      rest : Comes came r
      rest = behind r (setup-arrival q f.frame (verdict q f.frame) ∙ here) ((arrival-keeps q f.frame (verdict q f.frame)).1 ∙ later.now)

      force : is_some (in_force q.history q.now) ≡ true
      force =
          subst (λ h. is_some (in_force h q.now) ≡ true) (sym (ap (λ s. s.2) here ∙ history))
          (forced q.now (subst (λ n. a.change ≤ n) (sym later.now) begun))

  by_end : (from : ℕ) (came : List Came) → ComeWithin from until came → from ≤ until
  by_end from [] within = within
  by_end from (f ∷ came) within = (let first = within.0 in let rest = by_end f.moment came within.1 in omega (arith, first, rest))

  comes : (from : ℕ) (came : List Came) (p : AbstractPort) → setup_of p ≡ setup_of base → p.now ≤ from → a.change ≤ from
      → ComeWithin from until came → ((k : ℕ) (f : Came) → slice_get came k ≡ Some f → IsTakenIn f) → Comes came p
  comes from [] p same before begun within taken = none_comes p same (omega (arith, before, within))
  comes from (f ∷ came) p same before begun within taken =
      let first = within.0 in
      let rest = by_end f.moment came within.1 in
      one_comes f came p (taken 0 f refl) same (omega (arith, before, first)) (omega (arith, begun, first)) (omega (arith, rest, clock))
      (λ r setup now. comes f.moment came r setup (omega (arith, now)) (omega (arith, begun, first)) within.1
      (λ k g e. taken (suc k) g e))

-- ---- from a new port on

module _ (ps mtu room : ℕ) (change : Change) (traffic : ℕ → List ClassTraffic) (judged silent : ℕ → Bool) (came : List Came) (until : ℕ)
    (c : CanShare ps mtu room change traffic judged silent came until) where
  abbrev fresh : AbstractPort
  fresh = new_port ps mtu room

  abbrev base : AbstractPort
  base = scheduled ps mtu room change

  abbrev command : Accepted
  command = new_command fresh (Replace change)

  some : 0 < ps
  some = (let rate = c.rate in omega (arith, rate))

  coming : Comes base command until some refl c.clock came base
  coming = comes base command until some refl c.clock (in_force_from ps mtu room change) came base refl (omega arith)
      (le_refl (in_force_from ps mtu room change)) c.within c.taken

  abbrev first : Event
  first = Install (record { ref_ptr = (0, 0); now = Replace change })

  abbrev all : List Event
  all = first ∷ coming.events

  behind : (answers_to first fresh).1 ≡ base
  behind = ap (λ o. (installs_by o fresh (Replace change)).1) c.accepted

  one : (class : ℕ) → class < 8 → IsOnePlan ps mtu room class all command (plan_asked change)
  one class less = record {
    rate = c.rate;
    large = c.large;
    listed = less;
    is = refl;
    above = has_cycle ps (plan_asked change) c.rate (accepted_plan fresh change c.accepted);
    only = (λ none. (refl, refl), subst (IsOnly command coming.events) (sym behind) coming.only);
  }

  since : (class : ℕ) → AreScheduled class all fresh
  since class = (tt, subst (AreScheduled class coming.events) (sym behind) (coming.scheduled class))

  offers : (class : ℕ) → offered ps mtu room class all ≡ frames_to base class came
  offers class = ap (λ q. offered_in class coming.events q) behind ∙ coming.come class

  -- a frame of another class that is taken is one of those
  takes : (class j : ℕ) → class < 8 → judged class ≡ true → j < 8 → (judged j || silent j) ≡ false
      → TakesUpTo ps mtu room all j (needs (traffic class) j)
  takes class j listed is_judged less other k f e =
      let there = part_at (queued_in j all fresh) (offered_in j all fresh) k f (are_part j all fresh c.large) e in
      let neither = or_parts (judged j) (silent j) other in
      c.others class j there.0 f listed is_judged less neither.0 neither.1 (sym (ap (λ xs. slice_get xs there.0) (offers j)) ∙ there.1)

  neither : (a b : Bool) → a ≡ false → b ≡ false → (a || b) ≡ false
  neither true b e f = e
  neither false b e f = f

  short : (class k : ℕ) (x : Start) → class < 8 → judged class ≡ true → slice_get (starts_in (answers_of all fresh)) k ≡ Some x
      → judged x.class ≡ false → silent x.class ≡ false → x.«end» ≤ x.at + needs (traffic class) x.class
  short class k x less j e other sends =
      others_law ps mtu room (needs (traffic class)) (λ i. judged i || silent i) all c.rate c.large
      (λ i listed mine. takes class i less j listed mine) k x e (neither (judged x.class) (silent x.class) other sends)

  is_run : IsSharingRun ps mtu room (plan_asked change) traffic judged silent all
  is_run = record {
    command = command;
    one = one;
    conform = λ class less j. subst (λ xs. ConformTo ps (needs (traffic class) class)
        (arrivals_of (traffic class) class) xs) (sym (offers class)) (c.conform class less j);
    cover = λ class pitch less j some. subst (CoverUpTo ps pitch (covered_by (traffic class) pitch class)) (sym (offers class))
        (c.cover class pitch less j some);
    scheduled = λ class less j. since class;
    quiet = λ class less quiet. offers class ∙ c.quiet class less quiet;
    others = short;
  }

  begins : (is_run.command).change ≡ in_force_from ps mtu room change
  unfolding is_run
  begins = refl

  ends : end_of_run ps mtu room all ≡ until
  ends = ap (λ q. (port_after coming.events q).now) behind ∙ coming.ends

pub runs : SharedRunsExist
runs ps mtu room change traffic judged silent came until c = (
  all ps mtu room change traffic judged silent came until c,
  is_run ps mtu room change traffic judged silent came until c,
  offers ps mtu room change traffic judged silent came until c,
  ends ps mtu room change traffic judged silent came until c,
  begins ps mtu room change traffic judged silent came until c,
)
