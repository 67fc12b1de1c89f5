-- A run in which the frames of flows come: the command, and for each frame a clock event to its moment and the frame.
use Rattle.std.proofs.Common.{◌≡◌, ◌<◌, ◌≤◌, ℕ, zero, suc, ◌+◌, ◌-◌, true, cond, ◌&&◌, List, [], ◌∷◌, ◌++◌, length, slice_get, Option, Some, None, Result, is_some, refl, sym, ap, ◌∙◌, subst, arith}
use Rattle.std.specs.Prelude.{All, slice_index_or}
use Rattle.std.specs.Option.{option_map_or}
use Rattle.std.proofs.lemmas.Bool.{false≢true, le-leb}
use Rattle.std.proofs.lemmas.List.{length-map, length-set}
use Rattle.wire_time.specs.Moment.{greatest_moment}
use Rattle.wire_time.specs.declared.Frame.{Frame}
use Rattle.gates.specs.History.{Accepted, in_force}
use Rattle.abstract_port.specs.AbstractPort.{AbstractPort, after_arrival, class_for, installs_by, limit_of, new_command, new_port, plan_asked, refusal, verdict}
use Rattle.abstract_port.specs.Answers.{answers_to}
use Rattle.abstract_port.specs.declared.Change.{Change}
use Rattle.abstract_port.specs.declared.Command.{Command}
use Rattle.abstract_port.specs.declared.Command.TheVariants.{Replace}
use Rattle.abstract_port.specs.declared.Dropped.{Dropped}
use Rattle.abstract_port.specs.declared.Event.{Event}
use Rattle.abstract_port.specs.declared.Event.TheVariants.{Arrive, Clock, Install}
use Rattle.abstract_port.proofs.RunLaws.{arrival-keeps}
use Rattle.abstract_port.specs.Separation.{IsApart, IsKeptApart}
use Rattle.abstract_port.specs.Traffic.{IsOnly, offered_in}
use Rattle.delay_bounds.specs.Claim.{AreComing, IsRun, coming, earliest, flow_at, offsets_of}
use Rattle.delay_bounds.specs.declared.Flow.{Flow}
use Rattle.delay_bounds.proofs.MomentLaws.{some_least}
use Rattle.delay_bounds.proofs.StepLaws.{coming_at, first_of, next_behind, nexts_after, rises, rises_once}
use Rattle.delay_bounds.proofs.Words.{coming_on}
use Rattle.claims.proofs.FrameEvents.{goes_on, offered_own, setup-arrival, setup_of}
use Rattle.claims.specs.Runs.{CanCome, IsTaken, NoneDeletes, RunsExist, scheduled}

-- ---- the frames, one after another

long_after : (flows : List Flow) (n : ℕ) (nexts : List ℕ) → length (nexts_after flows n nexts) ≡ length nexts
unfolding nexts_after
long_after flows zero nexts = refl
long_after flows (suc n) nexts = go (earliest nexts) (long_after flows n)
  where
    go : (o : Option (ℕ × ℕ)) → ((xs : List ℕ) → length (nexts_after flows n xs) ≡ length xs) → length (option_map_or (λ e. nexts_after flows n (next_behind flows nexts e)) o nexts) ≡ length nexts
    go None on = refl
    go (Some e) on = on (next_behind flows nexts e) ∙ length-set nexts e.1 (e.0 + (flow_at flows e.1).period)

-- the first comes no later than the last
before_last : (flows : List Flow) (n : ℕ) (nexts : List ℕ) (e : ℕ × ℕ) → earliest nexts ≡ Some e → (d : ℕ × ℕ) × (slice_get (coming flows (suc n) nexts) n ≡ Some d) × (e.0 ≤ d.0)
before_last flows n nexts e first = go (earliest (nexts_after flows n nexts)) refl
  where
    go : (o : Option (ℕ × ℕ)) → earliest (nexts_after flows n nexts) ≡ o → (d : ℕ × ℕ) × (slice_get (coming flows (suc n) nexts) n ≡ Some d) × (e.0 ≤ d.0)
    go None none =
        let inside = (first_of nexts e first).0 in
        let long = long_after flows n nexts in
        absurd (false≢true (sym (ap is_some none) ∙ some_least (nexts_after flows n nexts) (omega (arith, inside, long))))
    go (Some d) last =
        let count : n + 1 ≡ suc n = omega arith in
        (d, subst (λ k. slice_get (coming flows k nexts) n ≡ Some d) count (coming_at flows n nexts d last), rises flows n nexts e d first last)

-- On a port whose one command has been accepted, and which takes frames of each flow into the class.
module _ (base : AbstractPort) (a : Accepted) (class : ℕ) (flows : List Flow) (some : 0 < base.ps) (history : base.history ≡ a ∷ []) (taken : All (λ f. IsTaken base class f.need) flows) where
  -- events in which these frames come
  record Comes (es : List (ℕ × ℕ)) (p : AbstractPort) : Type 0 where
    pub events : List Event
    pub only : IsOnly a events p
    pub apart : IsKeptApart class events p
    pub come : AreComing base.ps a.change flows es (offered_in class events p)

  none_comes : (p : AbstractPort) → Comes [] p
  none_comes p = record { events = []; only = tt; apart = tt; come = tt }

  forced : (m : ℕ) → a.change ≤ m → is_some (in_force (a ∷ []) m) ≡ true
  forced m from = ap (λ b. is_some (cond (b && true) (Some a) None)) (le-leb a.change m from)

  one_comes : (es : List (ℕ × ℕ)) (p : AbstractPort) (e : ℕ × ℕ) → e.1 < length flows → setup_of p ≡ setup_of base → p.now ≤ a.change + e.0 → a.change + e.0 ≤ greatest_moment
      → ((r : AbstractPort) → setup_of r ≡ setup_of base → r.now ≡ a.change + e.0 → Comes es r) → Comes (e ∷ es) p
  one_comes es p e inside same from within behind =
      let m : ℕ = a.change + e.0 in
      let sent = taken e.1 (record { need = 0; period = 0; offset = 0 }) inside in
      let f : Frame = sent.frame in
      let later = goes_on p m (subst (λ n. 0 < n) (sym (ap (λ s. s.0) same)) some) from within in
      let q : AbstractPort = (answers_to (Clock m) p).1 in
      let here : setup_of q ≡ setup_of base = later.setup ∙ same in
      let leads : class_for q f.priority ≡ Some class = ap (λ s. class_for (record base { classes = s.3 }) f.priority) here ∙ sent.leads in
      let short : sent.sdu ≤ q.mtu = subst (λ n. sent.sdu ≤ n) (sym (ap (λ s. s.1) here)) sent.short in
      let limited : 0 < limit_of q class → sent.sdu ≤ limit_of q class = subst (λ xs. 0 < slice_index_or xs class 0 → sent.sdu ≤ slice_index_or xs class 0) (sym (ap (λ s. s.4) here)) sent.limited in
      let offers = offered_own class q f sent.sdu leads sent.whole short limited in
      let v : Result ℕ Dropped = verdict q f in
      let r : AbstractPort = after_arrival q f v in
      let rest = behind r (setup-arrival q f v ∙ here) ((arrival-keeps q f v).1 ∙ later.now) in
      let begun : a.change ≤ q.now = subst (λ n. a.change ≤ n) (sym later.now) (omega arith) in
      let force : is_some (in_force q.history q.now) ≡ true = subst (λ h. is_some (in_force h q.now) ≡ true) (sym (ap (λ s. s.2) here ∙ history)) (forced q.now begun) in
      record {
        events = Clock m ∷ Arrive f ∷ rest.events;
        only = (tt, (tt, rest.only));
        apart = (tt, (λ own. force, rest.apart));
        come = subst (λ xs. AreComing base.ps a.change flows (e ∷ es) (xs ++ offered_in class rest.events r)) (sym offers) (later.now, sent.lasts, rest.come);
      }

  comes : (n : ℕ) (nexts : List ℕ) (p : AbstractPort) → length nexts ≡ length flows → setup_of p ≡ setup_of base → ((e : ℕ × ℕ) → earliest nexts ≡ Some e → p.now ≤ a.change + e.0)
      → ((k : ℕ) (d : ℕ × ℕ) → n ≡ suc k → slice_get (coming flows n nexts) k ≡ Some d → a.change + d.0 ≤ greatest_moment) → Comes (coming flows n nexts) p
  unfolding coming
  comes zero nexts p long same from last = none_comes p
  comes (suc n) nexts p long same from last = go (earliest nexts) refl (comes n)
    where
      go : (o : Option (ℕ × ℕ)) → earliest nexts ≡ o
          → ((xs : List ℕ) (q : AbstractPort) → length xs ≡ length flows → setup_of q ≡ setup_of base → ((d : ℕ × ℕ) → earliest xs ≡ Some d → q.now ≤ a.change + d.0)
          → ((k : ℕ) (d : ℕ × ℕ) → n ≡ suc k → slice_get (coming flows n xs) k ≡ Some d → a.change + d.0 ≤ greatest_moment) → Comes (coming flows n xs) q)
          → Comes (coming_on (coming flows n) flows nexts o) p
      go None none on = none_comes p
      go (Some e) first on =
          let inside = (first_of nexts e first).0 in
          let end = before_last flows n nexts e first in
          let by_then = last n end.0 refl end.1 in
          let early = end.2 in
          one_comes (coming flows n (next_behind flows nexts e)) p e (omega (arith, inside, long)) same (from e first) (omega (arith, by_then, early))
          (λ r setup now. on (next_behind flows nexts e) r (length-set nexts e.1 (e.0 + (flow_at flows e.1).period) ∙ long) setup
          (λ d second. let more = rises_once flows nexts e d first second in omega (arith, now, more))
          (λ k d count is. last (suc k) d (ap suc count) (ap (λ o. slice_get (coming_on (coming flows n) flows nexts o) (suc k)) first ∙ is)))

-- ---- from a new port on

runs : (ps mtu room class n : ℕ) (change : Change) (flows : List Flow) → CanCome ps mtu room class change flows n → (events : List Event) × IsRun ps mtu room class (plan_asked change) flows n events
runs ps mtu room class n change flows c =
    let new : AbstractPort = new_port ps mtu room in
    let command : Command = Replace change in
    let a : Accepted = new_command new command in
    let base : AbstractPort = scheduled ps mtu room change in
    let rate = c.rate in
    let r = comes base a class flows (omega (arith, rate)) refl c.taken n (offsets_of flows) base (length-map flows (λ (f : Flow). f.offset)) refl (λ e first. omega arith)
    (λ k d count is. c.last d.0 d.1 (let at : n - 1 ≡ k = omega (arith, count) in ap (slice_get (coming flows n (offsets_of flows))) at ∙ is)) in
    let first : Event = Install (record { ref_ptr = (0, 0); now = command }) in
    let behind : (answers_to first new).1 ≡ base = ap (λ o. (installs_by o new command).1) c.accepted in (
      first ∷ r.events,
      record {
        rate = c.rate;
        large = c.large;
        command = a;
        is = refl;
        only = (λ none. (refl, refl), subst (IsOnly a r.events) (sym behind) r.only);
        apart = (λ none. c.apart, subst (IsKeptApart class r.events) (sym behind) r.apart);
        come = subst (λ q. AreComing ps a.change flows (coming flows n (offsets_of flows)) (offered_in class r.events q)) (sym behind) r.come;
      },
    )

pub runs_exist : RunsExist
runs_exist = runs

-- a deletion keeps no class apart
pub none_deleted : NoneDeletes
none_deleted ps mtu room class plan n flows command events is run = subst (λ d. refusal (new_port ps mtu room) d ≡ None → IsApart class d) is run.apart.0 refl
