-- Two ports that differ in the other classes' frames, picosecond by picosecond.
use Rattle.std.proofs.Common.{◌≡◌, ◌<◌, ◌≤◌, ℕ, zero, suc, ◌+◌, Bool, true, false, cond, ◌&&◌, leb, eqb, List, [], ◌∷◌, ◌++◌, length, filter, get_or, set, option_to_list, Option, Some, None, is_some, inl, inr, refl, sym, ap, ◌∙◌, subst, arith, le_refl, le_trans, get_or-set_same, get_or-set_other, length-set}
use Rattle.std.proofs.lemmas.Bool.{cases_Bool, le-leb, lt-leb, leb-true, cases_lt, cases_eq, false≢true, and_parts, and_right, both_ways, ne_eqb, false_from_ne_true}
use Rattle.std.proofs.lemmas.List.{set_past}
use Rattle.std.proofs.lemmas.List.Elements.{filter-append}
use Rattle.wire_time.specs.Wire.{occupancy_of, lead_of}
use Rattle.wire_time.specs.declared.Frame.{Frame}
use Rattle.gates.specs.History.{Accepted, in_force, gates, is_open, open_through}
use Rattle.gates.specs.Choice.{may_start}
use Rattle.abstract_port.specs.declared.Start.{Start}
use Rattle.abstract_port.specs.AbstractPort.{AbstractPort, queue_of, counts_at, is_available, choice, start_head, head_need}
use Rattle.abstract_port.specs.declared.Counts.{Counts}
use Rattle.abstract_port.specs.FrameCounts.{no_counts, count_sent}
use Rattle.abstract_port.proofs.Histories.{AreApart, no_other, force_stays}
use Rattle.gates.proofs.OpenLaws.{open_at}
use Rattle.wire_time.proofs.WireLaws.{occupancy_pos}
use Rattle.gates.proofs.ChoiceLaws.{greatest_below-passes, greatest_below-less, greatest_below-alone, greatest_below-none}

-- ---- the part of a port in which the two differ

pub record Rest : Type 0 where
  pub free : ℕ
  pub queues : List (List Frame)
  pub counts : List Counts
  pub no_class : ℕ

abbrev pub rest_of : AbstractPort → Rest
rest_of p = record { free = p.free; queues = p.queues; counts = p.counts; no_class = p.no_class }

abbrev pub with_rest : AbstractPort → Rest → AbstractPort
with_rest p r = record p { free = r.free; queues = r.queues; counts = r.counts; no_class = r.no_class }

abbrev pub with_moment : AbstractPort → ℕ → AbstractPort
with_moment p m = record p { now = m }

abbrev pub rest_queue : Rest → ℕ → List Frame
rest_queue r c = get_or r.queues c []

abbrev pub rest_counts : Rest → ℕ → Counts
rest_counts r c = get_or r.counts c no_counts

-- whether the head of a queue may start at m
abbrev pub head_fits : AbstractPort → ℕ → ℕ → List Frame → Bool
head_fits p m class q = may_start p.history m class (head_need p.ps q)

-- ---- the choice

pub choice_passes : (p : AbstractPort) (m k : ℕ) → choice p m ≡ Some k → (is_available p m k ≡ true) × (k < 8)
unfolding choice
choice_passes p m k e = (greatest_below-passes 8 (is_available p m) k e, greatest_below-less 8 (is_available p m) k e)

-- Where one class alone can start, it is chosen.
pub choice_alone : (p : AbstractPort) (m k : ℕ) → k < 8 → is_available p m k ≡ true → ((j : ℕ) → j < 8 → (j ≡ k → ⊥) → is_available p m j ≡ false) → choice p m ≡ Some k
unfolding choice
choice_alone p m k l h others = greatest_below-alone 8 (is_available p m) k l h others

-- Where no class can start, none is chosen.
pub choice_none : (p : AbstractPort) (m : ℕ) → ((j : ℕ) → is_available p m j ≡ false) → choice p m ≡ None
unfolding choice
choice_none p m h = greatest_below-none 8 (is_available p m) (λ j _. h j)

-- ---- a life, picosecond by picosecond

abbrev pub start_with : AbstractPort → Option ℕ → Option Start × AbstractPort
start_with p None = (None, p)
start_with p (Some class) = start_head p p.now class (queue_of p class)

-- what a port does in one picosecond
abbrev pub tick : AbstractPort → Option Start × AbstractPort
tick p = start_with p (choice p p.now)

-- what a port does in so many picoseconds, one after another
unfoldable pub live : ℕ → AbstractPort → List Start × AbstractPort
live zero p = ([], p)
live (suc left) p =
    let t = tick p in
    let later = live left (with_moment t.1 (p.now + 1)) in
    (option_to_list t.0 ++ later.0, later.1)

abbrev pub is_start_of : ℕ → Start → Bool
is_start_of c s = eqb s.class c

-- the starts of a class
abbrev pub starts_of : ℕ → List Start → List Start
starts_of c = filter (is_start_of c)

-- ---- what holds of each of the two

abbrev pub AreFit : ℕ → ℕ → List Frame → Type 0
AreFit ps mtu [] = Unit {0}
AreFit ps mtu (f ∷ r) = (occupancy_of ps f.len ≤ lead_of ps mtu) × AreFit ps mtu r

pub record IsLawful (c : ℕ) (p : AbstractPort) : Type 0 where
  pub rate : 80 ≤ p.ps
  pub mtu : 68 ≤ p.mtu
  pub wire : p.free ≤ p.now + lead_of p.ps p.mtu
  pub fits : (d : ℕ) → AreFit p.ps p.mtu (queue_of p d)
  pub apart : AreApart c p.history
  pub waits : is_some (in_force p.history p.now) ≡ false → queue_of p c ≡ []
  pub queued : c < length p.queues
  pub counted : c < length p.counts

-- while a schedule is in force and c is open, the wire is free in both or in neither
abbrev pub IsSameWire : ℕ → List Accepted → ℕ → ℕ → ℕ → Type 0
IsSameWire c h now f g = (m : ℕ) → now ≤ m → is_some (in_force h m) ≡ true → is_open h c m ≡ true → (f ≤ m → g ≤ m) × (g ≤ m → f ≤ m)

pub record AreAlike (c : ℕ) (h : List Accepted) (now : ℕ) (r s : Rest) : Type 0 where
  pub queue : rest_queue r c ≡ rest_queue s c
  pub counts : rest_counts r c ≡ rest_counts s c
  pub wire : IsSameWire c h now r.free s.free

pub alike_sym : (c : ℕ) (h : List Accepted) (now : ℕ) (r s : Rest) → AreAlike c h now r s → AreAlike c h now s r
alike_sym c h now r s a = record { queue = sym a.queue; counts = sym a.counts; wire = λ m l f o. let w = a.wire m l f o in (w.1, w.0) }

pub alike_trans : (c : ℕ) (h : List Accepted) (now : ℕ) (r s t : Rest) → AreAlike c h now r s → AreAlike c h now s t → AreAlike c h now r t
alike_trans c h now r s t a b = record {
  queue = a.queue ∙ b.queue;
  counts = a.counts ∙ b.counts;
  wire = λ m l f o. let v = a.wire m l f o in let w = b.wire m l f o in (λ x. w.0 (v.0 x), λ x. v.1 (w.1 x));
}

pub alike_later : (c : ℕ) (h : List Accepted) (now n : ℕ) (r s : Rest) → now ≤ n → AreAlike c h now r s → AreAlike c h n r s
alike_later c h now n r s le a = record { queue = a.queue; counts = a.counts; wire = λ m l f o. a.wire m (le_trans le l) f o }

-- ---- one port: a start

abbrev pub start_of : AbstractPort → ℕ → Frame → Start
start_of p d f = record { id = f.id; class = d; at = p.now; «end» = p.now + occupancy_of p.ps f.len }

abbrev pub started : AbstractPort → ℕ → Frame → List Frame → Rest
started p d f r = record { free = p.now + occupancy_of p.ps f.len; queues = set p.queues d r; counts = set p.counts d (count_sent f (counts_at p d)); no_class = p.no_class }

-- a frame may start now
pub record Leaves (p : AbstractPort) (d : ℕ) : Type 0 where
  pub frame : Frame
  pub behind : List Frame
  pub queue : queue_of p d ≡ frame ∷ behind
  pub free : p.free ≤ p.now
  pub through : open_through p.history d p.now (occupancy_of p.ps frame.len) ≡ true

pub leaves_from : (p : AbstractPort) (d : ℕ) → is_available p p.now d ≡ true → Leaves p d
leaves_from p d h = go (queue_of p d) refl (and_parts _ _ h).1
  where
    go : (q : List Frame) → queue_of p d ≡ q → head_fits p p.now d q ≡ true → Leaves p d
    go [] e t = absurd (false≢true t)
    go (f ∷ r) e t = record { frame = f; behind = r; queue = e; free = leb-true _ _ (and_parts _ _ h).0; through = t }

-- The class that is chosen starts its first frame.
pub tick_start : (p : AbstractPort) (d : ℕ) (l : Leaves p d) → choice p p.now ≡ Some d → tick p ≡ (Some (start_of p d l.frame), with_rest p (started p d l.frame l.behind))
tick_start p d l e = ap (start_with p) e ∙ ap (start_head p p.now d) l.queue

pub fits_set : (ps mtu : ℕ) (qs : List (List Frame)) (d : ℕ) (v : List Frame) → AreFit ps mtu v → ((k : ℕ) → AreFit ps mtu (get_or qs k [])) → (k : ℕ) → AreFit ps mtu (get_or (set qs d v) k [])
fits_set ps mtu qs d v h all k =
    elim (cases_lt d (length qs)) [
      | inr past ↦ subst (λ x. AreFit ps mtu (get_or x k [])) (sym (set_past qs d v past)) (all k)
      | inl within ↦ elim (cases_eq k d) [
        | inl e ↦ subst (λ j. AreFit ps mtu (get_or (set qs d v) j [])) (sym e) (subst (AreFit ps mtu) (sym (get_or-set_same qs d v [] within)) h)
        | inr ne ↦ subst (AreFit ps mtu) (sym (get_or-set_other qs d k v [] ne)) (all k)
      ]
    ]

-- A lawful port is so a picosecond later.
pub lawful_next : (c : ℕ) (p : AbstractPort) → IsLawful c p → IsLawful c (with_moment p (p.now + 1))
lawful_next c p l = record {
  rate = l.rate;
  mtu = l.mtu;
  wire = le_trans l.wire (omega arith);
  fits = l.fits;
  apart = l.apart;
  waits = λ f. l.waits (not_yet p.history p.now (p.now + 1) (omega arith) f);
  queued = l.queued;
  counted = l.counted;
}
  where
    not_yet : (h : List Accepted) (m n : ℕ) → m ≤ n → is_some (in_force h n) ≡ false → is_some (in_force h m) ≡ false
    not_yet h m n le f = false_from_ne_true _ (λ t. both_ways _ f (force_stays h m n le t))

-- A lawful port is so after a start.
pub lawful_started : (c : ℕ) (p : AbstractPort) (d : ℕ) (f : Frame) (r : List Frame) → IsLawful c p → queue_of p d ≡ f ∷ r → IsLawful c (with_rest p (started p d f r))
lawful_started c p d f r l e =
    let fit : AreFit p.ps p.mtu (f ∷ r) = subst (AreFit p.ps p.mtu) e (l.fits d) in
    record {
      rate = l.rate;
      mtu = l.mtu;
      wire = add_le p.now (fit.0);
      fits = fits_set p.ps p.mtu p.queues d r fit.1 l.fits;
      apart = l.apart;
      waits = λ n. elim (cases_eq c d) [
        | inl same ↦ absurd (let q : f ∷ r ≡ [] = sym e ∙ (ap (λ k. get_or p.queues k []) (sym same) ∙ l.waits n) in cc)
        | inr ne ↦ get_or-set_other p.queues d c r [] ne ∙ l.waits n
      ];
      queued = subst (λ n. c < n) (sym (length-set p.queues d r)) l.queued;
      counted = subst (λ n. c < n) (sym (length-set p.counts d _)) l.counted;
    }
  where
    add_le : (a : ℕ) {b d : ℕ} → b ≤ d → a + b ≤ a + d
    add_le a le = omega arith

-- ---- one port: a picosecond in which no frame of c starts

pub record Quiet (c : ℕ) (p : AbstractPort) : Type 0 where
  pub first : Option Start
  pub rest : Rest
  pub is : tick p ≡ (first, with_rest p rest)
  pub silent : starts_of c (option_to_list first) ≡ []
  pub lawful : IsLawful c (with_rest p rest)
  pub alike : AreAlike c p.history p.now (rest_of p) rest

-- another class on the wire is open there, so c is closed
pub other_wire : (c d : ℕ) (p : AbstractPort) (l : Leaves p d) → c < 8 → d < 8 → (d ≡ c → ⊥) → AreApart c p.history → IsSameWire c p.history p.now p.free (p.now + occupancy_of p.ps (l.frame).len)
other_wire c d p l lc ld ne s m le f o = (
  λ x. elim (cases_lt m (p.now + occupancy_of p.ps (l.frame).len)) [
    | inl on ↦ absurd (both_ways _ (no_other c d p.history m lc ld ne s f o) (open_at (gates p.history) d p.now _ l.through m le on))
    | inr off ↦ off
  ],
  λ x. le_trans l.free le,
)

-- A picosecond in which the class starts nothing changes nothing that the class sees.
pub quiet : (c : ℕ) (p : AbstractPort) → c < 8 → IsLawful c p → (choice p p.now ≡ Some c → ⊥) → Quiet c p
quiet c p lc l never = go (choice p p.now) refl
  where
    go : (o : Option ℕ) → choice p p.now ≡ o → Quiet c p
    go None e = record {
      first = None;
      rest = rest_of p;
      is = ap (start_with p) e;
      silent = refl;
      lawful = l;
      alike = record { queue = refl; counts = refl; wire = λ m le f o. (λ x. x, λ x. x) };
    }
    go (Some d) e =
        let g = choice_passes p p.now d e in
        let v = leaves_from p d g.0 in
        let ne : d ≡ c → ⊥ = λ q. never (e ∙ ap Some q) in
        let ne' : c ≡ d → ⊥ = λ q. ne (sym q) in
        record {
          first = Some (start_of p d v.frame);
          rest = started p d v.frame v.behind;
          is = tick_start p d v e;
          silent = ap (λ b. cond b (start_of p d v.frame ∷ []) []) (ne_eqb d c ne);
          lawful = lawful_started c p d v.frame v.behind l v.queue;
          alike = record {
            queue = sym (get_or-set_other p.queues d c v.behind [] ne');
            counts = sym (get_or-set_other p.counts d c _ no_counts ne');
            wire = other_wire c d p v lc g.1 ne l.apart;
          };
        }

-- ---- one port: c may start

-- a schedule is in force and c is open
pub record IsOurs (c : ℕ) (p : AbstractPort) : Type 0 where
  pub forced : is_some (in_force p.history p.now) ≡ true
  pub opened : is_open p.history c p.now ≡ true

pub ours_from : (c : ℕ) (p : AbstractPort) → IsLawful c p → head_fits p p.now c (queue_of p c) ≡ true → IsOurs c p
ours_from c p l h = record { forced = forced; opened = opened }
  where
    forced : is_some (in_force p.history p.now) ≡ true
    forced = elim (cases_Bool (is_some (in_force p.history p.now))) [
      | inl t ↦ t
      | inr f ↦ absurd (false≢true (subst (λ q. head_fits p p.now c q ≡ true) (l.waits f) h))
    ]

    opened : is_open p.history c p.now ≡ true
    opened = go (queue_of p c) h
      where
        go : (q : List Frame) → head_fits p p.now c q ≡ true → is_open p.history c p.now ≡ true
        go [] t = absurd (false≢true t)
        go (f ∷ r) t =
            let rate = l.rate in
            let pos = occupancy_pos p.ps f.len (omega arith) in
            open_at (gates p.history) c p.now (occupancy_of p.ps f.len) t p.now (le_refl p.now) (omega arith)

not_available : (c d : ℕ) (p : AbstractPort) → c < 8 → d < 8 → (d ≡ c → ⊥) → IsLawful c p → IsOurs c p → is_available p p.now d ≡ false
not_available c d p lc ld ne l u =
    and_right _ _ (false_from_ne_true _ (λ t. go (queue_of p d) t))
  where
    go : (q : List Frame) → head_fits p p.now d q ≡ true → ⊥
    go [] t = false≢true t
    go (f ∷ r) t =
        let rate = l.rate in
        let pos = occupancy_pos p.ps f.len (omega arith) in
        both_ways _ (no_other c d p.history p.now lc ld ne l.apart u.forced u.opened)
        (open_at (gates p.history) d p.now (occupancy_of p.ps f.len) t p.now (le_refl p.now) (omega arith))

-- Where the class that is kept apart can start, it is chosen: no other one is open.
pub chosen : (c : ℕ) (p : AbstractPort) → c < 8 → IsLawful c p → is_available p p.now c ≡ true → choice p p.now ≡ Some c
chosen c p lc l h =
    let u = ours_from c p l (and_parts _ _ h).1 in
    choice_alone p p.now c lc h (λ d ld ne. not_available c d p lc ld ne l u)

-- ---- both ports: c may start in both or in neither

leb_same : (a b m : ℕ) → (a ≤ m → b ≤ m) × (b ≤ m → a ≤ m) → leb a m ≡ leb b m
leb_same a b m h =
    elim (cases_lt m a) [
      | inl x ↦ elim (cases_lt m b) [
        | inl y ↦ lt-leb a m x ∙ sym (lt-leb b m y)
        | inr y ↦ absurd (let z = h.1 y in omega arith)
      ]
      | inr x ↦ le-leb a m x ∙ sym (le-leb b m (h.0 x))
    ]

-- Ports that are alike for the class let it start at the same moments.
pub available_same : (c : ℕ) (p : AbstractPort) (s : Rest) → IsLawful c p → AreAlike c p.history p.now (rest_of p) s → is_available p p.now c ≡ is_available (with_rest p s) p.now c
available_same c p s l a = step ∙ ap (λ q. leb s.free p.now && head_fits p p.now c q) a.queue
  where
    step : (leb p.free p.now && head_fits p p.now c (queue_of p c)) ≡ (leb s.free p.now && head_fits p p.now c (queue_of p c))
    step = elim (cases_Bool (head_fits p p.now c (queue_of p c))) [
      | inl t ↦ let u = ours_from c p l t in
          ap (λ b. b && head_fits p p.now c (queue_of p c)) (leb_same p.free s.free p.now (a.wire p.now (le_refl p.now) u.forced u.opened))
      | inr f ↦ and_right _ _ f ∙ sym (and_right _ _ f)
    ]

pub record Ticked (c : ℕ) (p : AbstractPort) (s : Rest) : Type 0 where
  pub first : Option Start
  pub second : Option Start
  pub rest : Rest
  pub other : Rest
  pub one : tick p ≡ (first, with_rest p rest)
  pub two : tick (with_rest p s) ≡ (second, with_rest p other)
  pub same : starts_of c (option_to_list first) ≡ starts_of c (option_to_list second)
  pub lawful : IsLawful c (with_rest p rest)
  pub lawful_other : IsLawful c (with_rest p other)
  pub alike : AreAlike c p.history p.now rest other

-- Ports that are alike for the class give it the same starts in a picosecond, and stay alike.
pub ticked : (c : ℕ) (p : AbstractPort) (s : Rest) → c < 8 → IsLawful c p → IsLawful c (with_rest p s) → AreAlike c p.history p.now (rest_of p) s → Ticked c p s
ticked c p s lc l k a =
    elim (cases_Bool (is_available p p.now c)) [ inl t ↦ both t | inr f ↦ neither f ]
  where
    both : is_available p p.now c ≡ true → Ticked c p s
    both t =
        let v = leaves_from p c t in
        let t' : is_available (with_rest p s) p.now c ≡ true = sym (available_same c p s l a) ∙ t in
        let queue' : rest_queue s c ≡ v.frame ∷ v.behind = sym a.queue ∙ v.queue in
        let e = ap (start_with p) (chosen c p lc l t) ∙ ap (start_head p p.now c) v.queue in
        let e' = ap (start_with (with_rest p s)) (chosen c (with_rest p s) lc k t') ∙ ap (start_head (with_rest p s) p.now c) queue' in
        record {
          first = Some (start_of p c v.frame);
          second = Some (start_of p c v.frame);
          rest = started p c v.frame v.behind;
          other = started (with_rest p s) c v.frame v.behind;
          one = e;
          two = e';
          same = refl;
          lawful = lawful_started c p c v.frame v.behind l v.queue;
          lawful_other = lawful_started c (with_rest p s) c v.frame v.behind k queue';
          alike = record {
            queue = get_or-set_same p.queues c v.behind [] l.queued ∙ sym (get_or-set_same s.queues c v.behind [] k.queued);
            counts = get_or-set_same p.counts c _ no_counts l.counted ∙ (ap (count_sent v.frame) a.counts ∙ sym (get_or-set_same s.counts c _ no_counts k.counted));
            wire = λ m le f o. (λ x. x, λ x. x);
          };
        }

    neither : is_available p p.now c ≡ false → Ticked c p s
    neither f =
        let f' : is_available (with_rest p s) p.now c ≡ false = sym (available_same c p s l a) ∙ f in
        let x = quiet c p lc l (λ e. both_ways _ f (choice_passes p p.now c e).0) in
        let y = quiet c (with_rest p s) lc k (λ e. both_ways _ f' (choice_passes (with_rest p s) p.now c e).0) in
        record {
          first = x.first;
          second = y.first;
          rest = x.rest;
          other = y.rest;
          one = x.is;
          two = y.is;
          same = x.silent ∙ sym y.silent;
          lawful = x.lawful;
          lawful_other = y.lawful;
          alike = alike_trans c p.history p.now x.rest (rest_of p) y.rest (alike_sym c p.history p.now (rest_of p) x.rest x.alike) (alike_trans c p.history p.now (rest_of p) s y.rest a y.alike);
        }

-- ---- both ports, for a while

pub record Lived (c : ℕ) (p : AbstractPort) (s : Rest) (n upto : ℕ) : Type 0 where
  pub rest : Rest
  pub other : Rest
  pub one : (live n p).1 ≡ with_rest (with_moment p upto) rest
  pub two : (live n (with_rest p s)).1 ≡ with_rest (with_moment p upto) other
  pub same : starts_of c (live n p).0 ≡ starts_of c (live n (with_rest p s)).0
  pub lawful : IsLawful c (with_rest (with_moment p upto) rest)
  pub lawful_other : IsLawful c (with_rest (with_moment p upto) other)
  pub alike : AreAlike c p.history upto rest other

pub live_from : (n : ℕ) (p : AbstractPort) (o : Option Start) (r : Rest) → tick p ≡ (o, with_rest p r) → live (suc n) p ≡ (option_to_list o ++ (live n (with_moment (with_rest p r) (p.now + 1))).0, (live n (with_moment (with_rest p r) (p.now + 1))).1)
unfolding live
live_from n p o r e = ap (λ t. let later = live n (with_moment t.1 (p.now + 1)) in (option_to_list t.0 ++ later.0, later.1)) e

-- Ports that are alike for the class give it the same starts in any time, and stay alike.
pub lived : (c n : ℕ) (p : AbstractPort) (s : Rest) (upto : ℕ) → c < 8 → p.now + n ≡ upto → IsLawful c p → IsLawful c (with_rest p s) → AreAlike c p.history p.now (rest_of p) s → Lived c p s n upto
unfolding live
lived c zero p s upto lc e l k a =
    let e' : p.now ≡ upto = omega arith in
    record {
      rest = rest_of p;
      other = s;
      one = ap (with_moment p) e';
      two = ap (with_moment (with_rest p s)) e';
      same = refl;
      lawful = subst (λ m. IsLawful c (with_moment p m)) e' l;
      lawful_other = subst (λ m. IsLawful c (with_rest (with_moment p m) s)) e' k;
      alike = subst (λ m. AreAlike c p.history m (rest_of p) s) e' a;
    }
lived c (suc n) p s upto lc e l k a =
    let t = ticked c p s lc l k a in
    let next = with_moment (with_rest p t.rest) (p.now + 1) in
    let w = lived c n next t.other upto lc (omega arith) (lawful_next c (with_rest p t.rest) t.lawful) (lawful_next c (with_rest p t.other) t.lawful_other) (alike_later c p.history p.now (p.now + 1) t.rest t.other (omega arith) t.alike) in
    let x = live_from n p t.first t.rest t.one in
    let y = live_from n (with_rest p s) t.second t.other t.two in
    record {
      rest = w.rest;
      other = w.other;
      one = ap (λ z. z.1) x ∙ w.one;
      two = ap (λ z. z.1) y ∙ w.two;
      same =
          ap (λ z. starts_of c z.0) x
          ∙ (filter-append (is_start_of c) (option_to_list t.first) _
          ∙ (ap (λ z. z ++ starts_of c (live n next).0) t.same
          ∙ (ap (λ z. starts_of c (option_to_list t.second) ++ z) w.same
          ∙ (sym (filter-append (is_start_of c) (option_to_list t.second) _)
          ∙ sym (ap (λ z. starts_of c z.0) y)))));
      lawful = w.lawful;
      lawful_other = w.lawful_other;
      alike = w.alike;
    }
