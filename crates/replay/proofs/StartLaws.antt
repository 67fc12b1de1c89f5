-- What a start is: the first of its class goes, and no other queue changes.
use Rattle.std.proofs.Common.{◌≡◌, ◌<◌, ◌≤◌, ◌+◌, ◌-◌, ℕ, zero, suc, List, [], ◌∷◌, length, map, drop, Option, Some, None, refl, sym, ap, ◌∙◌, subst, arith}
use Rattle.std.specs.Prelude.{slice_get}
use Rattle.std.proofs.Math.ListN.{get_or, set, get_or-map}
use Rattle.std.proofs.lemmas.List.{map-set, length-drop}
use Rattle.replay.specs.Words.{Frame, AbstractPort, queue_of, settled, starts_until, waiting, IsSoundPort, answer_lines, Kept, Origin, Stamping, Stored, kept, kept_at, Gave, Observed, noted, noted_all, joined, kept_in, last_end, nothing, output, stamped, start_record, IsTogether, Keeps, State, first_kept}
use Rattle.wire_time.specs.Wire.{occupancy_of}
use Rattle.abstract_port.specs.AbstractPort.{choice, next_start, scan, start_head, start_or}
use Rattle.abstract_port.specs.declared.Start.{Start}
use Rattle.abstract_port.specs.declared.Answer.TheVariants as Answered
use Rattle.abstract_port.proofs.TurnLaws.{next_start-started, scan-none_started}
use Rattle.abstract_port.proofs.StartsLaws.{next_start-history, next_start-onward, next_start-rate, next_start-within, settled-port, settled-starts, starts_until-none, starts_until-some, waiting-next_start}
use Rattle.abstract_port.proofs.RunLaws.{IsTimely, timely-later, timely-sound}
use Rattle.summary.proofs.WantedLaws.{noted_all-cons, noted_all-nil}

-- ---- the frame that starts

-- a start has its frame's name, and is before a moment
record IsNamed (p : AbstractPort) (upto : ℕ) (s : Start) : Type 0 where
  pub name : (f : Frame) (rest : List Frame) → queue_of p s.class ≡ f ∷ rest → s.id ≡ f.id
  pub early : s.at < upto

named_head : (p : AbstractPort) (m class upto : ℕ) (s : Start) (q : List Frame) → m < upto → queue_of p class ≡ q → (start_head p m class q).0 ≡ Some s → IsNamed p upto s
named_head p m class upto s [] less is e = absurd (cc)
named_head p m class upto s (f ∷ rest) less is e =
    let first : Start = record { id = f.id; class = class; at = m; «end» = m + occupancy_of p.ps f.len } in
    let same : first ≡ s = (cc) in
    subst (λ x. IsNamed p upto x) same (record {
      name = λ g more w. (let both : f ∷ rest ≡ g ∷ more = sym is ∙ w in cc);
      early = less;
    })

named_or : (p : AbstractPort) (m upto : ℕ) (s : Start) (o : Option ℕ) (later : Option Start × AbstractPort) → m < upto → (later.0 ≡ Some s → IsNamed p upto s) → (start_or p m o later).0 ≡ Some s → IsNamed p upto s
named_or p m upto s None later less next e = next e
named_or p m upto s (Some class) later less next e = named_head p m class upto s (queue_of p class) less refl e

named_scan : (p : AbstractPort) (m left upto : ℕ) (s : Start) → m + left ≡ upto → (scan p m left).0 ≡ Some s → IsNamed p upto s
unfolding scan
named_scan p m zero upto s sum e = absurd (cc)
named_scan p m (suc left) upto s sum e = named_or p m upto s (choice p m) (scan p (m + 1) left) (omega arith) (named_scan p (m + 1) left upto s (omega arith)) e

-- a start, from p to q
pub record Leaves (p : AbstractPort) (s : Start) (q : AbstractPort) : Type 0 where
  pub frame : Frame
  pub rest : List Frame
  pub head : queue_of p s.class ≡ frame ∷ rest
  pub name : s.id ≡ frame.id
  pub after : q.queues ≡ set p.queues s.class rest
  pub class : s.class < 8
  pub room : q.room ≡ p.room

module _ (p q : AbstractPort) (upto : ℕ) (later : p.now ≤ upto) (after : q ≡ settled (next_start p upto).1) (sound : IsSoundPort p) where
  next_timely : IsTimely (next_start p upto).1
  next_timely = timely-later p (next_start p upto).1 (timely-sound p sound) (next_start-history p upto) (next_start-onward p upto) (next_start-rate p upto)

  pub onward : q.now ≤ upto
  onward = subst (λ (n : ℕ). n ≤ upto) (sym (ap (λ (x : AbstractPort). x.now) after)) (next_start-within p upto later)

  module _ (s : Start) (e : (next_start p upto).0 ≡ Some s) where
    named : IsNamed p upto s
    named = named_scan p p.now (upto - p.now) upto s (omega arith) e

    pub early : s.at < upto
    early = named.early

    pub leaves : Leaves p s q
    leaves =
        let t = next_start-started p upto s e in
        record {
          frame = t.frame;
          rest = t.rest;
          head = t.waits;
          name = named.name t.frame t.rest t.waits;
          after = ap (λ (x : AbstractPort). x.queues) after ∙ ap (λ (x : AbstractPort). x.queues) t.port;
          class = t.less;
          room = ap (λ (x : AbstractPort). x.room) after ∙ ap (λ (x : AbstractPort). x.room) t.port;
        }

    pub fewer : waiting q < waiting p
    fewer =
        let one = waiting-next_start p upto s e in
        let same : waiting q ≡ waiting (next_start p upto).1 = ap (λ (x : AbstractPort). waiting x) after in
        omega arith

    pub same-end : settled (starts_until q upto).1 ≡ settled (starts_until p upto).1
    same-end =
        ap (λ (x : AbstractPort). settled (starts_until x upto).1) after
        ∙ settled-port (next_start p upto).1 upto next_timely.rising next_timely.past
        ∙ sym (ap (λ (x : List Start × AbstractPort). settled x.1) (starts_until-some p upto s e))

    starts-more : (starts_until p upto).0 ≡ s ∷ (starts_until q upto).0
    starts-more =
        ap (λ (x : List Start × AbstractPort). x.0) (starts_until-some p upto s e)
        ∙ ap (λ (x : List Start). s ∷ x) (sym (ap (λ (x : AbstractPort). (starts_until x upto).0) after ∙ settled-starts (next_start p upto).1 upto next_timely.rising next_timely.past))

    pub starts-out : (es : Origin) → output es (map Gave (map Answered.Start (starts_until p upto).0))
        ≡ joined (record { report = answer_lines (Answered.Start s); departures = start_record (stamped es.stamping s) (kept_in es.entries s.id) }) (output es (map Gave (map Answered.Start (starts_until q upto).0)))
    starts-out es = ap (λ (x : List Start). output es (map Gave (map Answered.Start x))) starts-more

    pub starts-last : (m : ℕ) → last_end m (starts_until p upto).0 ≡ last_end s.«end» (starts_until q upto).0
    starts-last m = ap (λ (x : List Start). last_end m x) starts-more

    pub starts-seen : (now : ℕ) (o : Option Observed) → noted_all now (map Answered.Start (starts_until p upto).0) o ≡ noted_all now (map Answered.Start (starts_until q upto).0) (noted now (Answered.Start s) o)
    starts-seen now o =
        ap (λ (x : List Start). noted_all now (map Answered.Start x) o) starts-more ∙ noted_all-cons now (Answered.Start s) (map Answered.Start (starts_until q upto).0) o

  module _ (e : (next_start p upto).0 ≡ None) where
    pub no-starts-out : (es : Origin) → output es (map Gave (map Answered.Start (starts_until p upto).0)) ≡ nothing
    no-starts-out es = ap (λ (x : List Start × AbstractPort). output es (map Gave (map Answered.Start x.0))) (starts_until-none p upto e)

    pub no-starts-last : (m : ℕ) → last_end m (starts_until p upto).0 ≡ m
    no-starts-last m = ap (λ (x : List Start × AbstractPort). last_end m x.0) (starts_until-none p upto e)

    pub no-starts-seen : (now : ℕ) (o : Option Observed) → noted_all now (map Answered.Start (starts_until p upto).0) o ≡ o
    no-starts-seen now o = ap (λ (x : List Start × AbstractPort). noted_all now (map Answered.Start x.0) o) (starts_until-none p upto e) ∙ noted_all-nil now o

    pub no-starts-end : q ≡ settled (starts_until p upto).1
    no-starts-end = after ∙ sym (ap (λ (x : List Start × AbstractPort). settled x.1) (starts_until-none p upto e))

    idle : (next_start p upto).1 ≡ record p { now = (next_start p upto).1.now }
    idle = scan-none_started p p.now (upto - p.now) e

    pub idle_queues : q.queues ≡ p.queues
    idle_queues = ap (λ (x : AbstractPort). x.queues) after ∙ ap (λ (x : AbstractPort). x.queues) idle

    pub idle_room : q.room ≡ p.room
    idle_room = ap (λ (x : AbstractPort). x.room) after ∙ ap (λ (x : AbstractPort). x.room) idle

no-time : (p : AbstractPort) (m left : ℕ) → left ≡ 0 → (scan p m left).0 ≡ None
unfolding scan
no-time p m left none = ap (λ (n : ℕ). (scan p m n).0) none

-- nothing starts before a moment that is past
pub none-before : (p : AbstractPort) (m last : ℕ) → m < p.now → last_end last (starts_until p m).0 ≡ last
none-before p m last past =
    let none : m - p.now ≡ 0 = omega arith in
    let e : (next_start p m).0 ≡ None = no-time p p.now (m - p.now) none in
    ap (λ (x : List Start × AbstractPort). last_end last x.0) (starts_until-none p m e)

-- ---- the store beside the port

-- what is together stays so where neither the queues nor the store change
pub still_together : (s t : State) → t.port.queues ≡ s.port.queues → t.port.room ≡ s.port.room → t.store ≡ s.store → IsSoundPort t.port → IsTogether s → IsTogether t
still_together s t queues room same sound i = record {
  lengths = ap (λ (w : Stored). map length w.kept) same ∙ i.lengths ∙ ap (λ (x : List (List Frame)). map length x) (sym queues);
  room = ap (λ (w : Stored). w.room) same ∙ i.room ∙ sym room;
  sound = sound;
}

pub still_keeps : (es : Origin) (s t : State) → t.port.queues ≡ s.port.queues → t.store ≡ s.store → t.stamping ≡ s.stamping → Keeps es s → Keeps es t
still_keeps es s t queues same how k =
    (ap (λ (w : Stored). w.kept) same ∙ k.0 ∙ ap (λ (x : List (List Frame)). map (map (λ (f : Frame). kept_in es.entries f.id)) x) (sym queues), how ∙ k.1)

pub length-at : (s : State) (class : ℕ) → IsTogether s → length (kept_at s.store.kept class) ≡ length (queue_of s.port class)
length-at s class i =
    sym (get_or-map (λ (ks : List Kept). length ks) s.store.kept class []) ∙ ap (λ ns. get_or ns class 0) i.lengths ∙ get_or-map (λ (fs : List Frame). length fs) s.port.queues class []

module _ (s : State) (q : AbstractPort) (x : Start) (is : Leaves s.port x q) where
  pub has_first : IsTogether s → 0 < length (kept_at s.store.kept x.class)
  has_first i = omega (arith, length-at s x.class i, ap (λ (fs : List Frame). length fs) is.head)

  at-class : (es : Origin) → Keeps es s → kept_at s.store.kept x.class ≡ kept_in es.entries is.frame.id ∷ map (λ (f : Frame). kept_in es.entries f.id) is.rest
  at-class es keeps = ap (λ ks. kept_at ks x.class) keeps.0 ∙ get_or-map (λ (fs : List Frame). map (λ (f : Frame). kept_in es.entries f.id) fs) s.port.queues x.class [] ∙ ap (λ fs. map (λ (f : Frame). kept_in es.entries f.id) fs) is.head

  first-kept : (es : Origin) → Keeps es s → first_kept s.store x.class ≡ kept_in es.entries x.id
  first-kept es keeps = ap (λ ks. get_or ks 0 (kept 0 [])) (at-class es keeps) ∙ ap (λ n. kept_in es.entries n) (sym is.name)

module _ (s t : State) (x : Start) (is : Leaves s.port x t.port) (given : t.store ≡ record s.store { kept = set s.store.kept x.class (drop 1 (kept_at s.store.kept x.class)) }) where
  pub together-after : IsSoundPort t.port → IsTogether s → IsTogether t
  together-after sound i = record {
    lengths = ap (λ (w : Stored). map length w.kept) given ∙ map-set length s.store.kept x.class (drop 1 (kept_at s.store.kept x.class))
        ∙ ap (λ n. set (map length s.store.kept) x.class n) (length-drop 1 (kept_at s.store.kept x.class) ∙ omega (arith, length-at s x.class i, ap (λ (fs : List Frame). length fs) is.head))
        ∙ ap (λ ns. set ns x.class (length is.rest)) i.lengths ∙ sym (map-set length s.port.queues x.class is.rest) ∙ sym (ap (λ qs. map length qs) is.after);
    room = ap (λ (w : Stored). w.room) given ∙ i.room ∙ sym is.room;
    sound = sound;
  }

  pub keeps-after : (es : Origin) → t.stamping ≡ s.stamping → Keeps es s → Keeps es t
  keeps-after es how keeps =
      let g : List Frame → List Kept = λ fs. map (λ (f : Frame). kept_in es.entries f.id) fs in (
        ap (λ (w : Stored). w.kept) given
            ∙ ap (λ ks. set s.store.kept x.class (drop 1 ks)) (at-class s t.port x is es keeps)
            ∙ ap (λ kss. set kss x.class (g is.rest)) keeps.0
            ∙ sym (map-set g s.port.queues x.class is.rest)
            ∙ ap (λ qs. map g qs) (sym is.after),
        how ∙ keeps.1,
      )

-- the outputs of the starts, of which the first is reported from the store
pub starts-kept : (s : State) (q : AbstractPort) (upto : ℕ) (later : s.port.now ≤ upto) (after : q ≡ settled (next_start s.port upto).1) (sound : IsSoundPort s.port) (x : Start) (e : (next_start s.port upto).0 ≡ Some x) (es : Origin) → Keeps es s
    → output es (map Gave (map Answered.Start (starts_until s.port upto).0))
    ≡ joined (record { report = answer_lines (Answered.Start x); departures = start_record (stamped s.stamping x) (first_kept s.store x.class) }) (output es (map Gave (map Answered.Start (starts_until q upto).0)))
starts-kept s q upto later after sound x e es k =
    let rest = output es (map Gave (map Answered.Start (starts_until q upto).0)) in
    starts-out s.port q upto later after sound x e es
    ∙ ap (λ (how : Stamping). joined (record { report = answer_lines (Answered.Start x); departures = start_record (stamped how x) (kept_in es.entries x.id) }) rest) (sym k.1)
    ∙ ap (λ (y : Kept). joined (record { report = answer_lines (Answered.Start x); departures = start_record (stamped s.stamping x) y }) rest)
    (sym (first-kept s q x (leaves s.port q upto later after sound x e) es k))

-- the first of a list
pub first-of : (ks : List Kept) (k d : Kept) → slice_get ks 0 ≡ Some k → get_or ks 0 d ≡ k
first-of [] k d e = cc
first-of (x ∷ ks) k d e = cc
