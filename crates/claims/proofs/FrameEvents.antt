-- What a frame and a moment of the clock do to a port: neither changes what only a command does, and a frame that is taken is offered.
use Rattle.std.proofs.Common.{◌≡◌, ◌<◌, ◌≤◌, ℕ, zero, suc, ◌+◌, ◌-◌, Bool, true, false, cond, ◌&&◌, ◌||◌, not, eqb, leb, ltb, List, [], ◌∷◌, length, Option, Some, None, Result, Ok, Err, inl, inr, refl, ap, ◌∙◌, arith}
use Rattle.std.proofs.lemmas.Bool.{cases_Bool, eq-eqb}
use Rattle.wire_time.specs.Moment.{greatest_moment}
use Rattle.wire_time.specs.Wire.{sdu_of}
use Rattle.wire_time.specs.declared.Frame.{Frame}
use Rattle.abstract_port.specs.declared.class_map.ClassMap.{ClassMap}
use Rattle.abstract_port.specs.declared.class_map.Queues.{Queues}
use Rattle.gates.specs.History.{Accepted}
use Rattle.abstract_port.specs.AbstractPort.{AbstractPort, after_arrival, class_for, drop_in, limit_of, next_start, queue_of, verdict, verdict_in, waiting}
use Rattle.abstract_port.specs.Answers.{answers_to}
use Rattle.abstract_port.specs.declared.Dropped.{Dropped}
use Rattle.abstract_port.specs.declared.Dropped.TheVariants.{Full, OverSdu, TooLong}
use Rattle.abstract_port.specs.declared.Event.TheVariants.{Arrive, Clock}
use Rattle.abstract_port.proofs.ArrivalLaws.{verdict_with}
use Rattle.abstract_port.proofs.RunLaws.{clock_back, clock_on}
use Rattle.abstract_port.proofs.StartsLaws.{IsUnmoved, next_start-unmoved, starts_from-unmoved}
use Rattle.abstract_port.specs.Separation.{is_class}
use Rattle.abstract_port.specs.Traffic.{Came, offered_as, offered_by}
use Rattle.abstract_port.proofs.Lives.{starts_until_live}
use Rattle.abstract_port.proofs.Lockstep.{live, tick, with_moment}

-- ---- what only a command changes

abbrev pub setup_of : AbstractPort → ℕ × ℕ × List Accepted × Option (ClassMap × Queues) × List ℕ
setup_of p = (p.ps, p.mtu, p.history, p.classes, p.limits)

setup-drop : (p : AbstractPort) (why : Dropped) (o : Option ℕ) → setup_of (drop_in p why o) ≡ setup_of p
setup-drop p why None = refl
setup-drop p why (Some class) = refl

pub setup-arrival : (p : AbstractPort) (f : Frame) (v : Result ℕ Dropped) → setup_of (after_arrival p f v) ≡ setup_of p
setup-arrival p f (Ok class) = refl
setup-arrival p f (Err why) = setup-drop p why (class_for p f.priority)

setup-stays : IsUnmoved setup_of
setup-stays = record { moved = λ p m. refl; begun = λ p m finish queues counts. refl }

pub setup-clock : (m : ℕ) (p : AbstractPort) → setup_of (answers_to (Clock m) p).1 ≡ setup_of p
setup-clock m p = elim (cases_Bool (ltb m p.now || ltb greatest_moment m)) [
  | inl t ↦ ap (λ z. setup_of z.1) (clock_back m p t)
  | inr f ↦
      let r = next_start p m in
      ap (λ z. setup_of z.1) (clock_on m p f)
      ∙ (starts_from-unmoved setup_of setup-stays (waiting p + 1) m r.0 r.1 ∙ next_start-unmoved setup_of setup-stays p m)
]

-- ---- the clock goes on

now-live : (n : ℕ) (p : AbstractPort) → (live n p).1.now ≡ p.now + n
unfolding live
now-live zero p = omega arith
now-live (suc n) p = (let more : p.now + 1 + n ≡ p.now + suc n = omega arith in now-live n (with_moment (tick p).1 (p.now + 1)) ∙ more)

-- a port whose clock has gone on to a moment
pub record IsThen (p : AbstractPort) (m : ℕ) (q : AbstractPort) : Type 0 where
  pub now : q.now ≡ m
  pub setup : setup_of q ≡ setup_of p

pub goes_on : (p : AbstractPort) (m : ℕ) → 0 < p.ps → p.now ≤ m → m ≤ greatest_moment → IsThen p m (answers_to (Clock m) p).1
goes_on p m some from within =
    let on : (ltb m p.now || ltb greatest_moment m) ≡ false = grind (arith, from, within) in
    let is = ap (λ x. x.1) (clock_on m p on) in
    let there : p.now + (m - p.now) ≡ m = omega (arith, from) in
    record {
      now = ap (λ (x : AbstractPort). x.now) is ∙ (ap (λ x. x.1.now) (starts_until_live p m some from) ∙ (now-live (m - p.now) p ∙ there));
      setup = setup-clock m p;
    }

-- ---- a frame that is taken is offered to the queue of its class

abbrev pub came_at : AbstractPort → Frame → Came
came_at p f = record { moment = p.now; frame = f }

room_or_not : (b : Bool) (class own : ℕ) (p : AbstractPort) (f : Frame) → class_for p f.priority ≡ Some own
    → offered_as class p f (cond b (Err Full) (Ok own)) ≡ cond (eqb own class) (came_at p f ∷ []) []
room_or_not true class own p f leads = ap (λ o. cond (is_class class o) (came_at p f ∷ []) []) leads
room_or_not false class own p f leads = refl

not_over : (limit sdu : ℕ) → (0 < limit → sdu ≤ limit) → (not (eqb limit 0) && ltb limit sdu) ≡ false
not_over zero sdu within = refl
not_over (suc limit) sdu within = (let less = within (omega arith) in grind (arith, less))

pub offered_one : (class own : ℕ) (p : AbstractPort) (f : Frame) (sdu : ℕ) → class_for p f.priority ≡ Some own → sdu_of f ≡ Some sdu → sdu ≤ p.mtu
    → (0 < limit_of p own → sdu ≤ limit_of p own) → offered_by class (Arrive f) p ≡ cond (eqb own class) (came_at p f ∷ []) []
offered_one class own p f sdu leads whole short limited =
    let full : Bool = leb p.room (length (queue_of p own)) in
    let over : Bool = not (eqb (limit_of p own) 0) && ltb (limit_of p own) sdu in
    let fits : ltb p.mtu sdu ≡ false = grind (arith, short) in
    let is : verdict p f ≡ cond full (Err Full) (Ok own) =
    ap (verdict_with p f) leads
    ∙ (ap (verdict_in p own) whole
    ∙ (ap (λ b. cond b (Err TooLong) (cond over (Err OverSdu) (cond full (Err Full) (Ok own)))) fits
    ∙ ap (λ b. cond b (Err OverSdu) (cond full (Err Full) (Ok own))) (not_over (limit_of p own) sdu limited))) in
    ap (offered_as class p f) is ∙ room_or_not full class own p f leads

-- where that is the class in question, it is one of its frames
pub offered_own : (class : ℕ) (p : AbstractPort) (f : Frame) (sdu : ℕ) → class_for p f.priority ≡ Some class → sdu_of f ≡ Some sdu
    → sdu ≤ p.mtu → (0 < limit_of p class → sdu ≤ limit_of p class) → offered_by class (Arrive f) p ≡ came_at p f ∷ []
offered_own class p f sdu leads whole short limited =
    offered_one class class p f sdu leads whole short limited ∙ ap (λ b. cond b (came_at p f ∷ []) []) (eq-eqb class class refl)
