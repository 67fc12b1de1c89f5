-- A class that is judged by priority, and one to which nothing comes.
use Rattle.std.proofs.Common.{◌≡◌, ◌<◌, inl, inr, ℕ, ◌||◌, true, List, [], ◌∷◌, map, Some, slice_get, refl, sym, ap, ◌∙◌, subst, arith}
use Rattle.std.proofs.lemmas.Bool.{or_parts}
use Rattle.abstract_port.specs.AbstractPort.{new_port}
use Rattle.abstract_port.specs.Traffic.{Came}
use Rattle.any_traffic.specs.ArrivalCurve.{ConformTo}
use Rattle.any_traffic.specs.SlotCurve.{CoverUpTo, slot_curve}
use Rattle.any_traffic.specs.Runs.{IsOnePlan}
use Rattle.any_traffic.specs.SharedRuns.{IsSharedInTime}
use Rattle.any_traffic.specs.Sporadic.{AreFlows, curve_of_all}
use Rattle.any_traffic.proofs.ListLaws.{none_here, one_at}
use Rattle.any_traffic.proofs.Offered.{are_part}
use Rattle.any_traffic.proofs.PartLaws.{ArePart, part_at}
use Rattle.shared_bounds.specs.Traffic.{arrivals_of, covered_by, covered_of, frames_of, need_of, needs}
use Rattle.claims.specs.OtherClasses.{OthersLaw, TakesUpTo}
use Rattle.claims.specs.SharedClaim.{IsSharingRun, SharedClaim}
use Rattle.claims.proofs.CurveLaws.{by_wait, conform, cover}
use Rattle.claims.proofs.Lengths.{need_of_stream}
use Rattle.claims.specs.Network.{IsClassRun, Network, NetworkPort, PortRun, offered_at, queued_at}
use Rattle.claims.specs.Priority.{IsByPriority, NeedsUpTo, PriorityPromise}
use Rattle.claims.specs.Promise.{AreWithin, IsAsked, SilentPromise, talker_at}

-- ---- a class to which nothing comes

-- a list without places is empty
empty : (xs : List Came) → ((k : ℕ) (f : Came) → slice_get xs k ≡ Some f → ⊥) → xs ≡ []
empty [] none = refl
empty (x ∷ xs) none = absurd (none 0 x refl)

none_offered : (net : Network) (port class : ℕ) (r : PortRun) → IsClassRun net port class r → net.hops port class ≡ []
    → offered_at net port class r ≡ []
none_offered net port class r run silent = empty (offered_at net port class r) (λ k f e.
    let x = run.known k f e in
    let is = x.3 in
    none_here x.0 x.2 (sym (ap (λ hops. slice_get hops x.0) silent) ∙ is.hop))

no_part : (xs : List Came) → ArePart xs [] → xs ≡ []
no_part [] part = refl
no_part (x ∷ xs) part = absurd part

pub silent_promise : SilentPromise
silent_promise net port class judged silent r nominal asked =
    let setup = net.ports port in
    let run = asked.runs class judged in
    let none = none_offered net port class r run silent in
    let part = are_part class r.events (new_port setup.ps setup.mtu setup.room) ((run.run).one).large in
    let taken : queued_at net port class r ≡ [] = no_part (queued_at net port class r)
    (subst (λ xs. ArePart (queued_at net port class r) xs) none part) in
    record {
      all = taken ∙ sym none;
      each = λ k i n f h is. absurd (none_here k f (sym (ap (λ xs. slice_get xs k) none) ∙ is.came));
    }

-- ---- a class that shares its windows

module _ (law : SharedClaim) (others_law : OthersLaw) (net : Network) (port class : ℕ) (judged : net.judged port class ≡ true)
    (w : IsByPriority net port class) (r : PortRun) (nominal : (stream n : ℕ) → ℕ) (asked : IsAsked net port class r nominal) where
  abbrev setup : NetworkPort
  setup = net.ports port

  run_of : (j : ℕ) → w.beside j ≡ true → IsClassRun net port j r
  run_of j own = asked.runs j (w.sooner j own).0

  one_of : (j : ℕ) → j < 8 → IsOnePlan setup.ps setup.mtu setup.room j r.events r.command setup.plan
  one_of j less =
      let one = ((asked.runs class judged).run).one in
      record { rate = one.rate; large = one.large; listed = less; is = one.is; above = one.above; only = one.only }

  within : (j : ℕ) → w.beside j ≡ true → AreWithin net port j r nominal
  within j own = elim ((w.sooner j own).1) [
    | inl same ↦ subst (λ c. AreWithin net port c r nominal) (sym same) asked.come
    | inr sooner ↦ asked.before j (w.sooner j own).0 sooner
  ]

  conforms : (j : ℕ) → j < 8 → w.beside j ≡ true
      → ConformTo setup.ps (needs (w.traffic j) j) (arrivals_of (w.traffic j) j) (offered_at net port j r)
  conforms j less own =
      let size = (w.are).eight j own in
      let t = one_at (w.traffic j) j (omega (arith, less, size)) in
      let keeps : ConformTo setup.ps (needs (w.traffic j) j) (curve_of_all (map (talker_at net port) (net.hops port j)))
      (offered_at net port j r)
      = conform net port j r nominal asked.moments (run_of j own) (asked.long j (w.sooner j own).0) (within j own) (needs (w.traffic j) j)
      (w.flows j own) in
      subst (λ o. ConformTo setup.ps (needs (w.traffic j) j) (λ x. frames_of o x) (offered_at net port j r)) (sym t.1)
      (subst (λ flows. ConformTo setup.ps (needs (w.traffic j) j) (curve_of_all flows) (offered_at net port j r))
      (sym (w.talkers j t.0 own t.1)) keeps)

  covers : (j pitch : ℕ) → j < 8 → w.beside j ≡ true → 0 < pitch
      → CoverUpTo setup.ps pitch (covered_by (w.traffic j) pitch j) (offered_at net port j r)
  covers j pitch less own some =
      let size = (w.are).eight j own in
      let t = one_at (w.traffic j) j (omega (arith, less, size)) in
      let need : needs (w.traffic j) j ≡ (t.0).need = ap need_of t.1 in
      let keeps : CoverUpTo setup.ps pitch (slot_curve (t.0).need pitch (map (talker_at net port) (net.hops port j))) (offered_at net port j r)
      = cover net port j r nominal asked.moments (run_of j own) (asked.long j (w.sooner j own).0) (within j own) (t.0).need
      (subst (λ d. AreFlows d (map (talker_at net port) (net.hops port j))) need (w.flows j own)) pitch some in
      subst (λ o. CoverUpTo setup.ps pitch (λ x. covered_of o pitch x) (offered_at net port j r)) (sym t.1)
      (subst (λ flows. CoverUpTo setup.ps pitch (slot_curve (t.0).need pitch flows) (offered_at net port j r))
      (sym (w.talkers j t.0 own t.1)) keeps)

  takes : (k need : ℕ) → NeedsUpTo net port k need → TakesUpTo setup.ps setup.mtu setup.room r.events k need
  takes k need (inl mine) m f e =
      let run = asked.runs k mine.0 in
      let there = part_at (queued_at net port k r) (offered_at net port k r) m f
      (are_part k r.events (new_port setup.ps setup.mtu setup.room) ((run.run).one).large) e in
      let x = run.known there.0 f there.1 in
      let is = x.3 in
      let long = need_of_stream net port (net.streams (x.2).stream) f (asked.long k mine.0 there.0 x.0 x.1 f x.2 is) in
      let most = long.1 in
      let bound = mine.1 x.0 x.2 is.hop in
      omega (arith, most, bound)
  takes k need (inr limited) m f e =
      let short = asked.others k limited.0 limited.1 m f e in
      let bound = limited.2 in
      omega (arith, short, bound)

  sharing : IsSharingRun setup.ps setup.mtu setup.room setup.plan w.traffic w.beside w.silent r.events
  sharing = record {
    command = r.command;
    one = one_of;
    conform = conforms;
    cover = covers;
    scheduled = λ j less own. ((run_of j own).run).scheduled;
    quiet = λ j less e. none_offered net port j r (asked.runs j (w.quiet j e).0) (w.quiet j e).1;
    others = λ j k x less own e other sends.
        let one = one_of j less in
        others_law setup.ps setup.mtu setup.room (needs (w.traffic j)) (λ c. w.beside c || w.silent c) r.events one.rate one.large
        (λ c listed none.
        let parts = or_parts (w.beside c) (w.silent c) none in
        takes c (needs (w.traffic j) c) (w.others j c own listed parts.0 parts.1)) k x e
        (ap (λ b. b || w.silent x.class) other ∙ sends);
  }

  held : IsSharedInTime setup.ps setup.mtu setup.room r.events class (w.bounds class).wait (w.bounds class).most
  held = law setup.plan w.traffic w.bounds w.beside w.silent w.are setup.ps setup.mtu setup.room r.events sharing class
      (((asked.runs class judged).run).one).listed w.own

pub priority_promise : SharedClaim → OthersLaw → PriorityPromise
priority_promise law others_law net port class judged w r nominal asked =
    let is = held law others_law net port class judged w r nominal asked in
    by_wait net port class judged r nominal asked (w.bounds class).wait w.waits (is.all w.room) is.soon is.starts
