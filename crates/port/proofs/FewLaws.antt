-- What a port looks at in a step, by the longest list of its history, and how that grows.
use Rattle.std.proofs.Common.{◌≡◌, ◌≤◌, ◌+◌, ◌*◌, ℕ, zero, suc, max, List, [], ◌∷◌, ◌++◌, take, ltb, ◌||◌, true, false, Option, Some, None, IfSome, is_some, refl, sym, ap, ◌∙◌, subst, arith, le_refl, le_trans}
use Rattle.port.specs.Words.{greatest_moment, Answer, Refused, AbstractPort, installs_by, refusal, longest}
use Rattle.gates.specs.History.{Accepted}
use Rattle.gates.proofs.LongestLaws.{longest-kept}
use Rattle.abstract_port.specs.declared.Event.{Event}
use Rattle.abstract_port.specs.declared.Event.TheVariants.{Arrive, Install, Clock, Query, Count}
use Rattle.abstract_port.specs.AbstractPort.{PortState, settled, verdict, next_start, new_command}
use Rattle.abstract_port.specs.Answers.{answers_to, port_after}
use Rattle.abstract_port.specs.Asked.{IsOneStart}
use Rattle.abstract_port.proofs.RunLaws.{after_command-keeps, arrival-keeps}
use Rattle.abstract_port.proofs.StartsLaws.{starts_from-keeps, next_start-history}

longest-append : (h k : List Accepted) → longest h ≤ longest (h ++ k)
longest-append [] k = omega arith
longest-append (a ∷ rest) k = let l = longest-append rest k in omega (arith, l)

same_longest : (h k : List Accepted) → h ≡ k → longest k ≤ longest h
same_longest h k e = subst (λ x. longest k ≤ longest x) (sym e) (le_refl (longest k))

-- a command that comes later takes no list from the history
event_grows : (event : Event) (p : AbstractPort) → longest p.history ≤ longest (answers_to event p).1.history
event_grows (Arrive f) p = same_longest _ _ (arrival-keeps p f (verdict p f)).0
event_grows (Install c) p = by (refusal p c.now)
  where
    by : (r : Option Refused) → longest p.history ≤ longest (installs_by r p c.now).1.history
    by None = le_trans (longest-append p.history (new_command p c.now ∷ [])) (same_longest _ _ (after_command-keeps c.now p).0)
    by (Some r) = le_refl (longest p.history)
event_grows (Clock m) p = by (ltb m p.now || ltb greatest_moment m) refl
  where
    by : (b : _) → (ltb m p.now || ltb greatest_moment m) ≡ b → longest p.history ≤ longest (answers_to (Clock m) p).1.history
    by true is = rw is (le_refl (longest p.history))
    by false is = rw is (same_longest _ _ ((starts_from-keeps _ m (next_start p m).0 (next_start p m).1).0 ∙ next_start-history p m))
event_grows Query p = le_refl (longest p.history)
event_grows (Count class) p = le_refl (longest p.history)

grows : (events : List Event) (p : AbstractPort) → longest p.history ≤ longest (port_after events p).history
grows [] p = le_refl (longest p.history)
grows (event ∷ rest) p = le_trans (event_grows event p) (grows rest (answers_to event p).1)

grows_from : (n : ℕ) (events : List Event) (p : AbstractPort) → longest (port_after (take n events) p).history ≤ longest (port_after events p).history
grows_from zero events p = grows events p
grows_from (suc n) [] p = le_refl (longest p.history)
grows_from (suc n) (event ∷ rest) p = grows_from n rest (answers_to event p).1

-- So far of an event: no step has looked at more than the history before it lets it, and while it is asked on the history is no longer.
abbrev pub HasFew : Type 0 → PortState → Option Event → PortState → Type 0
HasFew Jumps p asked q = (Jumps → q.visits ≤ max p.visits (16 * (longest p.port.history + 1))) × IfSome asked (λ e. longest q.port.history ≤ longest p.port.history)

pub few_first : (Jumps : Type 0) (p : PortState) (asked : Option Event) → HasFew Jumps p asked p
few_first Jumps p None = (λ jumps. omega arith, tt)
few_first Jumps p (Some e) = (λ jumps. omega arith, le_refl (longest p.port.history))

pub few_more : (Jumps : Type 0) (p : PortState) (asked : Option Event) (q : PortState) → HasFew Jumps p asked q → is_some asked ≡ true
    → (answer : Option Answer) (left : Option Event) (r : PortState) → IfSome left (λ e. IsOneStart e asked q.port answer r.port) → (Jumps → r.visits ≤ max q.visits (16 * (longest q.port.history + 1)))
    → HasFew Jumps p left r
few_more Jumps p None q so_far some answer left r more few = absurd (cc)
few_more Jumps p (Some x) q so_far some answer left r more few = (λ jumps. (let visits = so_far.0 jumps in let longer = so_far.1 in let step = few jumps in omega (arith, visits, longer, step)), by left more)
  where
    by : (l : Option Event) → IfSome l (λ e. IsOneStart e (Some x) q.port answer r.port) → IfSome l (λ e. longest r.port.history ≤ longest p.port.history)
    by None one = tt
    by (Some e) one =
        le_trans (same_longest _ _ (sym (ap (λ y. y.history) one.port)))
        (le_trans (longest-kept (next_start q.port one.upto).1.history (next_start q.port one.upto).1.now)
        (le_trans (same_longest _ _ (sym (next_start-history q.port one.upto))) so_far.1))

-- So far of a list of events: no step has looked at more than the commands before its end let it.
pub few_run : (Jumps : Type 0) (events : List Event) (p q r : PortState) (taken : ℕ) → q.port ≡ settled (port_after (take taken events) p.port)
    → (Jumps → q.visits ≤ max p.visits (16 * (longest (port_after events p.port).history + 1)))
    → (Jumps → r.visits ≤ max q.visits (16 * (longest q.port.history + 1)))
    → Jumps → r.visits ≤ max p.visits (16 * (longest (port_after events p.port).history + 1))
few_run Jumps events p q r taken is so_far step jumps =
    let here = port_after (take taken events) p.port in
    let less = le_trans (same_longest _ _ (sym (ap (λ y. y.history) is))) (le_trans (longest-kept here.history here.now) (grows_from taken events p.port)) in
    let visits = so_far jumps in
    let more = step jumps in
    omega (arith, visits, more, less)
