-- A class that has bounds though it shares windows: by what it was judged.
use Rattle.std.specs.List.{list_any}
use Rattle.std.proofs.Common.{◌≡◌, ◌<◌, ◌⊎◌, inl, inr, ℕ, zero, suc, ◌+◌, ◌&&◌, nat_le, Bool, true, false, List, [], ◌∷◌, length, map, Option, Some, None, slice_get, Result, Ok, Err, refl, sym, ap, ◌∙◌, subst, arith}
use Rattle.std.proofs.lemmas.Bool.{or_parts, true≢false}
use Rattle.std.proofs.lemmas.Option.{none-some, same_Some}
use Rattle.gates.specs.Gate.{Plan, keeps_apart}
use Rattle.abstract_port.specs.AbstractPort.{plan_asked}
use Rattle.burst_bounds.specs.declared.Bounds.{Bounds}
use Rattle.burst_bounds.specs.declared.Unbound.{Unbound as BurstUnbound}
use Rattle.burst_bounds.specs.declared.Unbound.TheVariants as BurstFaults
use Rattle.delay_bounds.specs.declared.Bound.{Bound}
use Rattle.shared_bounds.specs.Least.{AreLeastOf}
use Rattle.shared_bounds.specs.declared.ClassTraffic.{ClassTraffic}
use Rattle.shared_bounds.specs.declared.Unbound.{Unbound as SharedUnbound}
use Rattle.shared_bounds.specs.declared.Unbound.TheVariants as SharedFaults
use Rattle.window_bounds.specs.declared.Unbound.{Unbound as WindowUnbound}
use Rattle.window_bounds.specs.declared.Unbound.TheVariants as WindowFaults
use Rattle.stream_bounds.specs.Classes.{are_any, are_equal, has_any}
use Rattle.stream_bounds.specs.Shared.{AreBeside, AreOpen, AreOpenFrom, IsHighest, IsInTheWay, IsShared, is_open, is_unbounded}
use Rattle.stream_bounds.specs.Verdicts.{ClassAnswer, IsAnswerBehind, IsAnswerUnless, IsAnswerWith, IsApartAnswer, IsBoundedAnswer, LeastWindows, burst_answer, burst_limit, range_of, shared_answer, shared_within, unbounded, within_room}
use Rattle.stream_bounds.specs.declared.standing.Standing.{Standing}
use Rattle.stream_bounds.specs.declared.verdicts.Verdict.{Verdict}
use Rattle.stream_bounds.specs.declared.verdicts.Verdict.TheVariants as Verdicts
use Rattle.traffic.specs.declared.table.Stream.{Stream}
use Rattle.path_bounds.specs.Answers.{IsAnswerBy, pair_of, verdict_at, verdict_in}
use Rattle.path_bounds.specs.Hops.{entry_of}
use Rattle.path_bounds.specs.Judged.{Known, class_in, port_in}
use Rattle.path_bounds.specs.declared.hop.Hop.{Hop}
use Rattle.path_bounds.specs.declared.hop.PathPort.{PathPort}
use Rattle.path_bounds.specs.declared.standings.PairVerdict.{PairVerdict}
use Rattle.path_bounds.specs.declared.standings.PairVerdict.TheVariants as PairVerdicts
use Rattle.path_claim.specs.Answered.{AreGiven, IsAnswered, IsBeside, IsKnownSo, own_hops}

-- ---- verdicts

abbrev pub shares_by : Verdict → Bool
shares_by (Verdicts.Sharing b) = true
shares_by _ = false

abbrev pub no_bounds : Bounds
no_bounds = record { wait = 0; most = 0 }

abbrev pub bounds_by : Verdict → Bounds
bounds_by (Verdicts.Sharing b) = b
bounds_by _ = no_bounds

abbrev pub known_of : PairVerdict → Verdict
known_of (PairVerdicts.Known v) = v
known_of PairVerdicts.Unheard = Verdicts.Idle

-- an answer isn't one by priority
not_shared : {Z : Type 0} (answer other : ClassAnswer) → shares_by answer.verdict ≡ true → answer ≡ other → shares_by other.verdict ≡ false → Z
not_shared answer other is same none =
    absurd (true≢false (sym is ∙ (ap (λ (y : ClassAnswer). shares_by y.verdict) same ∙ none)))

-- ---- an answer by priority

module _ (p : PathPort) (table : List Stream) (above : List Standing) (streams : List Stream) (class : ℕ) (answer : ClassAnswer) where
  abbrev plan : Plan
  plan = plan_asked p.change

  -- it has the least bounds beside the other classes, of which none is in the way
  pub record IsByTraffic : Type 0 where
    pub bounds : Bounds
    pub verdict : answer.verdict ≡ Verdicts.Sharing bounds
    pub left : answer.left ≡ map (range_of bounds.wait) streams
    pub fits : nat_le bounds.most p.settings.port.room ≡ true
    pub traffic : List ClassTraffic
    pub are : AreBeside p.settings p.change table above streams class traffic
    pub least : AreLeastOf plan class traffic (burst_limit p.settings + 1) bounds.wait bounds.most
    pub none_open : (other : ℕ) → other < 8 → IsInTheWay plan above class is_open other → ⊥
    pub none_unbounded : (other : ℕ) → other < 8 → IsInTheWay plan above class is_unbounded other → ⊥

  module _ (is : shares_by answer.verdict ≡ true) where
    -- a class that is kept apart has no such answer
    room_not : {Z : Type 0} (t : Bool) (most : ℕ) (reached : Bool) (bounds : List Bound) → answer ≡ within_room t most reached bounds → Z
    room_not true most reached bounds same = not_shared answer _ is same refl
    room_not false most reached bounds same = not_shared answer _ is same refl

    burst_not : {Z : Type 0} (told : Result Bounds BurstUnbound) → answer ≡ burst_answer p.settings.port.room streams told → Z
    burst_not (Ok b) same = room_not (nat_le b.most p.settings.port.room) b.most (are_equal streams && are_any streams) (map (range_of b.wait) streams) same
    burst_not (Err BurstFaults.Overloaded) same = not_shared answer _ is same refl
    burst_not (Err BurstFaults.Stuck) same = not_shared answer _ is same refl
    burst_not (Err BurstFaults.Long) same = not_shared answer _ is same refl
    burst_not (Err BurstFaults.Memory) same = not_shared answer _ is same refl

    windows_not : {Z : Type 0} (told : Result LeastWindows WindowUnbound) → IsAnswerWith p.settings p.change streams class answer told → Z
    windows_not (Ok w) same = room_not (nat_le w.most p.settings.port.room) w.most (are_equal streams) w.bounds same
    windows_not (Err WindowFaults.Overloaded) same = not_shared answer _ is same refl
    windows_not (Err WindowFaults.Stuck) same = not_shared answer _ is same refl
    windows_not (Err WindowFaults.Long) same = burst_not same.told same.answered
    windows_not (Err WindowFaults.Late) same = burst_not same.told same.answered
    windows_not (Err WindowFaults.Memory) same = burst_not same.told same.answered

    apart_not : {Z : Type 0} (any : Bool) → IsApartAnswer any true p.settings p.change streams class answer → Z
    apart_not true same = burst_not same.told same.answered
    apart_not false same = windows_not same.told same.answered

    -- none is in the way
    open_none : (to : List Bool) (first n : ℕ) → AreOpenFrom plan above class first to → list_any (λ t. t) to ≡ false → n < length to
        → IsInTheWay plan above class is_open (first + n) → ⊥
    open_none [] first n are none less = absurd (omega (arith, less))
    open_none (t ∷ to) first zero are none less =
        let same : first + zero ≡ first = omega arith in
        λ way. are.1 (or_parts t (list_any (λ t. t) to) none).0 (subst (λ (m : ℕ). IsInTheWay plan above class is_open m) same way)
    open_none (t ∷ to) first (suc n) are none less =
        let same : first + suc n ≡ first + 1 + n = omega arith in
        λ way. open_none to (first + 1) n are.2 (or_parts t (list_any (λ t. t) to) none).1 (omega (arith, less))
        (subst (λ (m : ℕ). IsInTheWay plan above class is_open m) same way)

    module _ (none_open : (other : ℕ) → other < 8 → IsInTheWay plan above class is_open other → ⊥)
        (none_unbounded : (other : ℕ) → other < 8 → IsInTheWay plan above class is_unbounded other → ⊥)
        (it : IsBoundedAnswer p.settings p.change table above streams class answer) where
      within_by : (b : Bounds) (t : Bool) → nat_le b.most p.settings.port.room ≡ t
          → AreLeastOf plan class it.traffic (burst_limit p.settings + 1) b.wait b.most → answer ≡ shared_within t b streams → IsByTraffic
      within_by b true fits least same = record {
        bounds = b;
        verdict = ap (λ (y : ClassAnswer). y.verdict) same;
        left = ap (λ (y : ClassAnswer). y.left) same;
        fits = fits;
        traffic = it.traffic;
        are = it.beside;
        least = least;
        none_open = none_open;
        none_unbounded = none_unbounded;
      }
      within_by b false fits least same = not_shared answer _ is same refl

      told_by : (told : Result Bounds SharedUnbound) → IsShared plan class it.traffic (burst_limit p.settings + 1) told
          → answer ≡ shared_answer p.settings.port.room streams told → IsByTraffic
      told_by (Ok b) least same = within_by b (nat_le b.most p.settings.port.room) refl least same
      told_by (Err SharedFaults.Stuck) why same = not_shared answer _ is same refl
      told_by (Err SharedFaults.Blocked) why same = not_shared answer _ is same refl
      told_by (Err SharedFaults.Long) why same = not_shared answer _ is same refl
      told_by (Err SharedFaults.Memory) why same = absurd why

      bounded_by : IsByTraffic
      bounded_by = told_by it.told it.is it.answered

    behind_by : ((other : ℕ) → other < 8 → IsInTheWay plan above class is_open other → ⊥) → (behind : Option ℕ)
        → IsHighest plan above class behind → IsAnswerBehind p.settings p.change table above streams class answer behind → IsByTraffic
    behind_by clear (Some other) highest same = not_shared answer _ is same refl
    behind_by clear None highest it = bounded_by clear highest it

    unless_by : (to : List Bool) → AreOpen plan above class to → (any : Bool) → list_any (λ t. t) to ≡ any
        → IsAnswerUnless p.settings p.change table above streams class answer any to → IsByTraffic
    unless_by to are true any same = not_shared answer _ is same refl
    unless_by to are false none it =
        behind_by (λ (other : ℕ) small way.
        let long = are.0 in
        let same : other ≡ 0 + other = omega arith in
        open_none to 0 other are.1 none (omega (arith, small, long)) (subst (λ (m : ℕ). IsInTheWay plan above class is_open m) same way))
        it.behind it.highest it.answered

cons_some : {X : Type 0} (x : X) (xs : List X) → x ∷ xs ≡ [] → ⊥
cons_some x xs e = none-some x (sym (ap (λ ys. slice_get ys 0) e))

-- by the answer of a class
by_traffic : (apart : Bool) (p : PathPort) (table : List Stream) (above : List Standing) (streams : List Stream) (class : ℕ) (answer : ClassAnswer)
    → IsAnswerBy apart p table above streams class answer → shares_by answer.verdict ≡ true
    → IsByTraffic p table above streams class answer × (apart ≡ false) × (streams ≡ [] → ⊥)
by_traffic true p table above [] class answer same is = not_shared answer _ is same refl
by_traffic false p table above [] class answer same is = not_shared answer _ is same refl
by_traffic true p table above (x ∷ streams) class answer it is =
    apart_not p table above (x ∷ streams) class answer is (has_any (x ∷ streams)) it
by_traffic false p table above (x ∷ streams) class answer it is =
    (unless_by p table above (x ∷ streams) class answer is it.to it.are (list_any (λ t. t) it.to) refl it.answered, refl, cons_some x streams)

-- a class that shares windows and has bounds has them by priority
no_left_by : {Z : Type 0} (answer other : ClassAnswer) → (answer.left ≡ [] → ⊥) → answer ≡ other → other.left ≡ [] → Z
no_left_by answer other some same none = absurd (some (ap (λ (y : ClassAnswer). y.left) same ∙ none))

module _ (p : PathPort) (table : List Stream) (above : List Standing) (streams : List Stream) (class : ℕ) (answer : ClassAnswer)
    (some : answer.left ≡ [] → ⊥) where
  room_shares : (t : Bool) (b : Bounds) → answer ≡ shared_within t b streams → shares_by answer.verdict ≡ true
  room_shares true b same = ap (λ (y : ClassAnswer). shares_by y.verdict) same
  room_shares false b same = no_left_by answer _ some same refl

  told_shares : (told : Result Bounds SharedUnbound) → answer ≡ shared_answer p.settings.port.room streams told → shares_by answer.verdict ≡ true
  told_shares (Ok b) same = room_shares (nat_le b.most p.settings.port.room) b same
  told_shares (Err SharedFaults.Stuck) same = no_left_by answer _ some same refl
  told_shares (Err SharedFaults.Blocked) same = no_left_by answer _ some same refl
  told_shares (Err SharedFaults.Long) same = no_left_by answer _ some same refl
  told_shares (Err SharedFaults.Memory) same = no_left_by answer _ some same refl

  behind_shares : (behind : Option ℕ) → IsAnswerBehind p.settings p.change table above streams class answer behind → shares_by answer.verdict ≡ true
  behind_shares (Some other) same = no_left_by answer _ some same refl
  behind_shares None it = told_shares it.told it.answered

  unless_shares : (any : Bool) (to : List Bool) → IsAnswerUnless p.settings p.change table above streams class answer any to
      → shares_by answer.verdict ≡ true
  unless_shares true to same = no_left_by answer _ some same refl
  unless_shares false to it = behind_shares it.behind it.answered

pub answer_shares : (p : PathPort) (table : List Stream) (above : List Standing) (streams : List Stream) (class : ℕ) (answer : ClassAnswer)
    → IsAnswerBy false p table above streams class answer → (answer.left ≡ [] → ⊥) → shares_by answer.verdict ≡ true
answer_shares p table above [] class answer same some = no_left_by answer _ some same refl
answer_shares p table above (x ∷ streams) class answer it some =
    unless_shares p table above (x ∷ streams) class answer some (list_any (λ t. t) it.to) it.to it.answered

-- ---- a class of a port

-- A class of a port was judged by priority at a place, beside some classes.
pub record IsSharing (known : Known) (p : PathPort) (port class place : ℕ) : Type 0 where
  pub pair : ℕ
  pub at : slice_get known.order place ≡ Some pair
  pub port_is : port ≡ port_in pair
  pub class_is : class ≡ class_in pair
  pub answer : ClassAnswer
  pub told : verdict_at known.verdicts (pair_of port class) ≡ Some (PairVerdicts.Known answer.verdict)
  pub given : AreGiven answer.left 0 (own_hops port class known.hops)
  pub table : List Stream
  pub above : List Standing
  pub beside : IsBeside known place port class p table above
  pub traffic : IsByTraffic p table above (map entry_of (own_hops port class known.hops)) class answer
  pub shared : keeps_apart (plan_asked p.change).entries class ≡ false
  pub some : own_hops port class known.hops ≡ [] → ⊥

module _ (ports : List PathPort) (known : Known)
    (answered : (i pair : ℕ) → slice_get known.order i ≡ Some pair → IsAnswered ports known i pair) where
  sharing_pair : (p : PathPort) (place pair : ℕ) → slice_get known.order place ≡ Some pair → slice_get ports (port_in pair) ≡ Some p
      → shares_by (verdict_in (verdict_at known.verdicts (pair_of (port_in pair) (class_in pair)))) ≡ true
      → IsSharing known p (port_in pair) (class_in pair) place
  sharing_pair p place pair e there is =
      let a = answered place pair e in
      let same : a.port ≡ p = same_Some a.port p (sym a.is ∙ there) in
      let shares : shares_by (known_of a.verdict) ≡ true
      = sym (ap (λ (o : Option PairVerdict). shares_by (verdict_in o)) a.told ∙ verdict_known a.verdict) ∙ is in
      subst (λ (q : PathPort). IsSharing known q (port_in pair) (class_in pair) place) same (by a shares a.so)
    where
      verdict_known : (v : PairVerdict) → shares_by (verdict_in (Some v)) ≡ shares_by (known_of v)
      verdict_known (PairVerdicts.Known v) = refl
      verdict_known PairVerdicts.Unheard = refl

      by : (a : IsAnswered ports known place pair) → shares_by (known_of a.verdict) ≡ true
          → ((a.answer ≡ unbounded Verdicts.Idle) × (a.verdict ≡ PairVerdicts.Unheard)) ⊎ IsKnownSo ports known place pair a.port a.answer a.verdict
          → IsSharing known a.port (port_in pair) (class_in pair) place
      by a shares (inl none) = absurd (true≢false (sym shares ∙ ap (λ (v : PairVerdict). shares_by (known_of v)) none.1))
      by a shares (inr so) =
          let is_shared : shares_by (a.answer).verdict ≡ true = sym (ap (λ (v : PairVerdict). shares_by (known_of v)) so.is) ∙ shares in
          let it = by_traffic (keeps_apart (plan_asked (a.port).change).entries (class_in pair)) a.port so.table so.above
          (map entry_of (own_hops (port_in pair) (class_in pair) known.hops)) (class_in pair) a.answer so.answered is_shared in
          record {
            pair = pair;
            at = e;
            port_is = refl;
            class_is = refl;
            answer = a.answer;
            told = a.told ∙ ap (λ (v : PairVerdict). Some v) so.is;
            given = a.given;
            table = so.table;
            above = so.above;
            beside = so.beside;
            traffic = it.0;
            shared = it.1;
            some = λ none. it.2 (ap (λ (hs : List Hop). map entry_of hs) none);
          }

  -- so it is with each class that has a verdict of that kind
  pub is_sharing : (listed : (port class : ℕ) (v : PairVerdict) → class < 8 → verdict_at known.verdicts (pair_of port class) ≡ Some v
      → (j r : ℕ) × (slice_get known.order j ≡ Some r) × (port ≡ port_in r) × (class ≡ class_in r))
      → (p : PathPort) (port class : ℕ) → slice_get ports port ≡ Some p → class < 8
      → shares_by (verdict_in (verdict_at known.verdicts (pair_of port class))) ≡ true
      → (place : ℕ) × IsSharing known p port class place
  is_sharing listed p port class there small is = by (verdict_at known.verdicts (pair_of port class)) refl is
    where
      by : (o : Option PairVerdict) → verdict_at known.verdicts (pair_of port class) ≡ o → shares_by (verdict_in o) ≡ true
          → (place : ℕ) × IsSharing known p port class place
      by None told shares = absurd (true≢false (sym shares))
      by (Some v) told shares =
          let r = listed port class v small told in
          let at = sharing_pair p r.0 r.1 r.2 (sym (ap (λ (n : ℕ). slice_get ports n) r.3) ∙ there)
          (sym (ap (λ (n : ℕ). shares_by (verdict_in (verdict_at known.verdicts (pair_of n class)))) r.3
          ∙ ap (λ (n : ℕ). shares_by (verdict_in (verdict_at known.verdicts (pair_of (port_in r.1) n)))) r.4) ∙ is) in (
            r.0,
            subst (λ (n : ℕ). IsSharing known p n class r.0) (sym r.3)
                (subst (λ (n : ℕ). IsSharing known p (port_in r.1) n r.0) (sym r.4) at),
          )
