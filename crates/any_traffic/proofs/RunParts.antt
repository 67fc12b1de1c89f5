-- Beginnings of a run: what comes behind them, and what holds of them.
use Rattle.std.proofs.Common.{◌≡◌, ◌≤◌, ℕ, ◌+◌, ◌-◌, true, Bool, Some, slice_get, subst, List, [], ◌∷◌, ◌++◌, length, refl, sym, ap, ◌∙◌, arith, append_assoc}
use Rattle.wire_time.specs.declared.Frame.{Frame}
use Rattle.gates.specs.History.{Accepted, open_through}
use Rattle.abstract_port.specs.declared.Event.{Event}
use Rattle.abstract_port.specs.declared.Start.{Start}
use Rattle.abstract_port.specs.AbstractPort.{AbstractPort, new_port}
use Rattle.abstract_port.specs.Answers.{answers_of, answers_to, port_after}
use Rattle.abstract_port.specs.Laws.{starts_in}
use Rattle.abstract_port.proofs.RunLaws.{answers_of-append}
use Rattle.abstract_port.proofs.RunTurns.{starts_in-append}
use Rattle.abstract_port.specs.Traffic.{Came, IsOnly, offered_by, offered_in, queued_by, queued_in}
use Rattle.abstract_port.specs.Hindsight.{IsOpenBy}
use Rattle.abstract_port.proofs.SeparateRunLaws.{keeping}
use Rattle.delay_bounds.proofs.QueueLaws.{room_kept}
use Rattle.any_traffic.specs.Runs.{AreScheduled}
use Rattle.any_traffic.proofs.PartLaws.{count_frames}
use Rattle.any_traffic.proofs.Offered.{still_large}
use Rattle.any_traffic.proofs.SharedSlots.{AreSound}
use Rattle.any_traffic.proofs.StartLaws.{apart_at, class_within, long_at, start_holds}
use Rattle.any_traffic.proofs.Sharing.{AreLong, AreShared}

module _ (may : ℕ → ℕ → Bool) (ps c : ℕ) where
  pub shared_count : (all : List Start) (free now : ℕ) (came : List Came) (starts : List Start) (wire : ℕ) (waiting : List Frame)
      → AreShared may ps c all free now came starts wire waiting → length starts + length waiting ≡ length came
  shared_count all free now came [] wire waiting s = (let same = ap length s.frames ∙ count_frames came in omega (arith, same))
  shared_count all free now [] (x ∷ starts) wire waiting s = absurd s
  shared_count all free now (f ∷ came) (x ∷ starts) wire waiting s =
      (let rest = shared_count all x.«end» now came starts wire waiting s.1 in omega (arith, rest))

-- ---- two parts of a run

pub queued_append : (c : ℕ) (xs ys : List Event) (p : AbstractPort)
    → queued_in c (xs ++ ys) p ≡ queued_in c xs p ++ queued_in c ys (port_after xs p)
queued_append c [] ys p = refl
queued_append c (x ∷ xs) ys p =
    ap (λ r. queued_by c x p ++ r) (queued_append c xs ys (answers_to x p).1)
    ∙ sym (append_assoc (queued_by c x p) (queued_in c xs (answers_to x p).1) (queued_in c ys (port_after xs (answers_to x p).1)))

pub offered_append : (c : ℕ) (xs ys : List Event) (p : AbstractPort)
    → offered_in c (xs ++ ys) p ≡ offered_in c xs p ++ offered_in c ys (port_after xs p)
offered_append c [] ys p = refl
offered_append c (x ∷ xs) ys p =
    ap (λ r. offered_by c x p ++ r) (offered_append c xs ys (answers_to x p).1)
    ∙ sym (append_assoc (offered_by c x p) (offered_in c xs (answers_to x p).1) (offered_in c ys (port_after xs (answers_to x p).1)))

pub starts_append : (xs ys : List Event) (p : AbstractPort)
    → starts_in (answers_of (xs ++ ys) p) ≡ starts_in (answers_of xs p) ++ starts_in (answers_of ys (port_after xs p))
starts_append xs ys p = ap starts_in (answers_of-append xs ys p) ∙ starts_in-append (answers_of xs p) (answers_of ys (port_after xs p))

pub scheduled_both : (c : ℕ) (xs ys : List Event) (p : AbstractPort) → AreScheduled c (xs ++ ys) p
    → AreScheduled c xs p × AreScheduled c ys (port_after xs p)
scheduled_both c [] ys p k = (tt, k)
scheduled_both c (x ∷ xs) ys p k = (let rest = scheduled_both c xs ys (answers_to x p).1 k.1 in ((k.0, rest.0), rest.1))

pub only_both : (a : Accepted) (xs ys : List Event) (p : AbstractPort) → IsOnly a (xs ++ ys) p
    → IsOnly a xs p × IsOnly a ys (port_after xs p)
only_both a [] ys p k = (tt, k)
only_both a (x ∷ xs) ys p k = (let rest = only_both a xs ys (answers_to x p).1 k.1 in ((k.0, rest.0), rest.1))

pub large_on : (xs : List Event) (p : AbstractPort) → 68 ≤ p.mtu → 68 ≤ (port_after xs p).mtu
large_on [] p large = large
large_on (x ∷ xs) p large = large_on xs (answers_to x p).1 (still_large x p large)

pub room_on : (xs : List Event) (p : AbstractPort) → (port_after xs p).room ≡ p.room
room_on [] p = refl
room_on (x ∷ xs) p = room_on xs (answers_to x p).1 ∙ room_kept x p

-- ---- all starts of a run

pub sound_of : (ps mtu room : ℕ) (a : Accepted) (events : List Event) (need : ℕ → ℕ) → 80 ≤ ps → 68 ≤ mtu
    → (port_after events (new_port ps mtu room)).history ≡ a ∷ [] → AreLong (starts_in (answers_of events (new_port ps mtu room)))
    → ((k : ℕ) (x : Start) → slice_get (starts_in (answers_of events (new_port ps mtu room))) k ≡ Some x → x.«end» ≤ x.at + need x.class)
    → AreSound (a ∷ []) need (starts_in (answers_of events (new_port ps mtu room)))
sound_of ps mtu room a events need rate large full long short =
    let p = new_port ps mtu room in
    let all = starts_in (answers_of events p) in
    let kept = keeping ps mtu room rate large events in
    record {
      through = λ i y e. subst (λ h. open_through h y.class y.at (y.«end» - y.at) ≡ true) full
          (start_holds (IsOpenBy (port_after events p).history) (answers_of events p) kept.open_by_end i y e);
      apart = λ i j x y e f less. apart_at 0 all i j x y long kept.apart e f less;
      some = λ i y e. long_at all i y long e;
      short = short;
      few = λ i y e. class_within all i y long e;
    }
