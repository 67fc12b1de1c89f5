-- What is known of all classes, where one is judged that shares its windows; and the answer about it.
use Rattle.std.proofs.Common.{Vec, ◌≡◌, ◌<◌, ℕ, zero, suc, ◌+◌, All, Bool, false, List, [], ◌∷◌, length, map, None, Result, Ok, Err, refl, sym, ap, ap₂, ◌∙◌, subst, arith, cond, ◌≤◌, eq-eqb, le-leb}
use Rattle.std.proofs.lemmas.List.Elements.{All-nil, All-cons}
use Rattle.std.specs.List.{list_any}
use Rattle.std.specs.Prelude.{◌≢◌, IfErr, IfOk}
use Rattle.abstract_port.specs.AbstractPort.{plan_asked}
use Rattle.abstract_port.specs.declared.Change.{Change}
use Rattle.burst_bounds.specs.Talkers.{IsTalker, longest_need}
use Rattle.burst_bounds.specs.declared.Bounds.{Bounds}
use Rattle.burst_bounds.specs.declared.Talker.{Talker}
use Rattle.burst_bounds.proofs.TalkerLaws.{curve_some}
use Rattle.gates.specs.Gate.{Plan}
use Rattle.shared_bounds.specs.Least.{AreLeastOf, IsUnbound}
use Rattle.shared_bounds.specs.Traffic.{IsTraffic, arrivals_of, needs}
use Rattle.shared_bounds.specs.declared.ClassTraffic.{ClassTraffic}
use Rattle.shared_bounds.specs.declared.Unbound.{Unbound}
use Rattle.shared_bounds.specs.declared.Unbound.TheVariants.{Blocked, Long, Memory, Stuck}
use Rattle.stream_bounds.specs.Classes.{most_sdu, streams_of, talker_of}
use Rattle.stream_bounds.specs.Shared.{AreBeside, AreBesideFrom, AreOpen, IsHighest, IsBesideAt, IsShared, need_beside, streams_beside, widest}
use Rattle.stream_bounds.specs.Standing.{standing_of}
use Rattle.stream_bounds.specs.Answers.{AreAnswersFrom, IsClassAnswer, standings_of}
use Rattle.stream_bounds.specs.Verdicts.{ClassAnswer, IsAnswerUnless, IsBoundedAnswer, IsSharedAnswer, burst_limit, shared_answer}
use Rattle.stream_bounds.specs.declared.settings.BoundsSettings.{BoundsSettings}
use Rattle.stream_bounds.specs.declared.standing.Standing.{Standing}
use Rattle.traffic.specs.declared.table.Stream.{Stream}

-- 1. Lists

-- what holds of each of eight holds of all
all_eight : {X : Type 0} (P : X → Type 0) {a b c d e f g h : X} → P a → P b → P c → P d → P e → P f → P g → P h
    → All P (a ∷ b ∷ c ∷ d ∷ e ∷ f ∷ g ∷ h ∷ [])
all_eight P {a} {b} {c} {d} {e} {f} {g} {h} of_a of_b of_c of_d of_e of_f of_g of_h =
    All-cons P a (b ∷ c ∷ d ∷ e ∷ f ∷ g ∷ h ∷ []) of_a (All-cons P b (c ∷ d ∷ e ∷ f ∷ g ∷ h ∷ []) of_b
    (All-cons P c (d ∷ e ∷ f ∷ g ∷ h ∷ []) of_c (All-cons P d (e ∷ f ∷ g ∷ h ∷ []) of_d
    (All-cons P e (f ∷ g ∷ h ∷ []) of_e (All-cons P f (g ∷ h ∷ []) of_f (All-cons P g (h ∷ []) of_g (All-cons P h [] of_h (All-nil P))))))))

-- and what holds of the talkers in each of eight vectors
pub all_eight_in : {A : Type 0} (P : List Talker → Type 0) (a b c d e f g h : Vec Talker A)
    → P a.items → P b.items → P c.items → P d.items → P e.items → P f.items → P g.items → P h.items
    → All (λ (talkers : Vec Talker A). P talkers.items) (a ∷ b ∷ c ∷ d ∷ e ∷ f ∷ g ∷ h ∷ [])
all_eight_in {A} P a b c d e f g h = all_eight (λ (talkers : Vec Talker A). P talkers.items) {a = a} {b = b} {c = c} {d = d} {e = e} {f = f} {g = g} {h = h}

-- as many are mapped
map_some : {X Y : Type 0} (f : X → Y) (xs : List X) → 0 < length xs → 0 < length (map f xs)
map_some f [] some = some
map_some f (x ∷ xs) some = omega arith

-- talkers need some time
need_some : (talkers : List Talker) → All IsTalker talkers → 0 < length talkers → 0 < longest_need talkers
need_some [] all some = absurd (omega (arith, some))
need_some (t ∷ talkers) all some = (let here = (all 0 t (omega arith)).some in omega (arith, here))

-- 2. The class that is judged

module _ (s : BoundsSettings) (c : Change) (table : List Stream) (above : List Standing) (streams : List Stream) (class : ℕ) where
  -- its own streams
  own_streams : (other : ℕ) → other ≡ class → streams_beside s c table streams class other ≡ streams
  own_streams other is = ap (λ (b : Bool). cond b streams (streams_of s c other table)) (eq-eqb other class is)

  -- its own need
  own_need : (other : ℕ) (talkers : List Talker) → other ≡ class → 0 < length talkers → need_beside s c class other talkers ≡ longest_need talkers
  own_need other [] is some = absurd (omega (arith, some))
  own_need other (t ∷ ts) is some =
      ap (λ (b : Bool). cond b (longest_need (t ∷ ts)) (widest s c other)) (le-leb class other (let up : class ≤ other = omega (arith, is) in up))

  -- there are some talkers
  own_talkers : (other : ℕ) (t : ClassTraffic) → other ≡ class → 0 < length streams → IsBesideAt s c table above streams class other t
      → 0 < length t.talkers.now
  own_talkers other t is some beside =
      let are : t.talkers.now ≡ map (talker_of s.port.rate (most_sdu s c other)) streams = beside.talkers ∙ ap (map (talker_of s.port.rate (most_sdu s c other))) (own_streams other is) in
      subst (λ (n : ℕ). 0 < n) (ap length (sym are)) (map_some (talker_of s.port.rate (most_sdu s c other)) streams some)

  -- its frames need some time
  pub need_above : (first j : ℕ) (traffic : List ClassTraffic) → AreBesideFrom s c table above streams class first traffic → All IsTraffic traffic
      → j < length traffic → first + j ≡ class → 0 < length streams → 0 < needs traffic j
  need_above first j [] beside all less is some = absurd (omega (arith, less))
  need_above first zero (t ∷ ts) beside all less is some =
      let own : first ≡ class = omega (arith, is) in
      let are = own_talkers first t own some beside.0 in
      let need : t.need ≡ longest_need t.talkers.now = (beside.0).need ∙ own_need first t.talkers.now own are in
      subst (λ (n : ℕ). 0 < n) (sym need) (need_some t.talkers.now (all 0 t (omega arith)).talkers are)
  need_above first (suc j) (t ∷ ts) beside all less is some =
      need_above (first + 1) j ts beside.1 (λ k d fits. all (suc k) d (omega (arith, fits))) (omega (arith, less)) (omega (arith, is)) some

  -- and some come
  pub come_above : (first j : ℕ) (traffic : List ClassTraffic) → AreBesideFrom s c table above streams class first traffic
      → j < length traffic → first + j ≡ class → 0 < length streams → 0 < arrivals_of traffic j 0
  come_above first j [] beside less is some = absurd (omega (arith, less))
  come_above first zero (t ∷ ts) beside less is some = curve_some t.talkers.now (own_talkers first t (omega (arith, is)) some beside.0) 0
  come_above first (suc j) (t ∷ ts) beside less is some = come_above (first + 1) j ts beside.1 (omega (arith, less)) (omega (arith, is)) some

-- 3. The answer

-- what the bounds of a class that shares its windows tell
told_is : (plan : Plan) (class limit : ℕ) (traffic : List ClassTraffic) (told : Result Bounds Unbound)
    → IfOk told (λ b. AreLeastOf plan class traffic limit b.wait b.most) → IfErr told (IsUnbound plan class traffic limit)
    → told ≢ Err Memory → IsShared plan class traffic limit told
told_is plan class limit traffic (Ok b) least why known = least
told_is plan class limit traffic (Err Stuck) least why known = why
told_is plan class limit traffic (Err Blocked) least why known = why
told_is plan class limit traffic (Err Long) least why known = why
told_is plan class limit traffic (Err Memory) least why known = known refl

-- and so the answer
pub if_shared : (s : BoundsSettings) (c : Change) (table : List Stream) (above : List Standing) (streams : List Stream) (class : ℕ)
    (plan : Plan) (limit : ℕ) (traffic : List ClassTraffic) (told : Result Bounds Unbound) {F : Type 0} (result : Result ClassAnswer F)
    → plan ≡ plan_asked c → limit ≡ burst_limit s → AreBeside s c table above streams class traffic
    → IfOk told (λ b. AreLeastOf plan class traffic (limit + 1) b.wait b.most) → IfErr told (IsUnbound plan class traffic (limit + 1))
    → IfOk result (λ a. told ≢ Err Memory) → IfOk result (λ a. a ≡ shared_answer s.port.room streams told)
    → IfOk result (λ a. IsBoundedAnswer s c table above streams class a)
if_shared s c table above streams class plan limit traffic told (Ok answer) plan_is limit_is beside least why known answered = record {
  traffic = traffic;
  beside = beside;
  told = told;
  is =
      let now : IsShared plan class traffic (limit + 1) told = told_is plan class (limit + 1) traffic told least why known in
      let at_limit : IsShared plan class traffic (burst_limit s + 1) told = subst (λ (n : ℕ). IsShared plan class traffic (n + 1) told) limit_is now in
      subst (λ (p : Plan). IsShared p class traffic (burst_limit s + 1) told) plan_is at_limit;
  answered = answered;
}
if_shared s c table above streams class plan limit traffic told (Err fault) plan_is limit_is beside least why known answered = tt

-- where none above it that shares its windows is open or without bounds
pub if_known : (s : BoundsSettings) (c : Change) (table : List Stream) (above : List Standing) (streams : List Stream) (class : ℕ)
    (plan : Plan) (to : List Bool) {F : Type 0} (result : Result ClassAnswer F)
    → plan ≡ plan_asked c → AreOpen plan above class to → list_any (λ is. is) to ≡ false → IsHighest plan above class None
    → IfOk result (λ a. IsBoundedAnswer s c table above streams class a) → IfOk result (λ a. IsSharedAnswer s c table above streams class a)
if_known s c table above streams class plan to (Ok answer) plan_is are none highest bounded = record {
  to = to;
  are = subst (λ (p : Plan). AreOpen p above class to) plan_is are;
  answered = subst (λ (b : Bool). IsAnswerUnless s c table above streams class answer b to) (sym none) (record {
    behind = None;
    highest = subst (λ (p : Plan). IsHighest p above class None) plan_is highest;
    answered = bounded;
  });
}
if_known s c table above streams class plan to (Err fault) plan_is are none highest bounded = tt

-- 4. From the highest class down

-- one class more below those that are answered
pub answered_below : (s : BoundsSettings) (c : Change) (table : List Stream) (class : ℕ) (answer : ClassAnswer) (standing : Standing)
    (above : List Standing) (answers : List ClassAnswer)
    → above ≡ standings_of s c table (class + 1) answers → standing ≡ standing_of s c class (streams_of s c class table) answer.verdict
    → IsClassAnswer s c table above class answer → AreAnswersFrom s c table (class + 1) answers
    → AreAnswersFrom s c table class (answer ∷ answers) × (standing ∷ above ≡ standings_of s c table class (answer ∷ answers))
answered_below s c table class answer standing above answers are stands right rest =
    ((subst (λ (xs : List Standing). IsClassAnswer s c table xs class answer) are right, rest), ap₂ (λ (x : Standing) (xs : List Standing). x ∷ xs) stands are)
