-- The starts until a moment are those of a life picosecond by picosecond.
use Rattle.std.proofs.Common.{◌≡◌, ◌<◌, ◌≤◌, ℕ, zero, suc, ◌+◌, ◌-◌, List, [], ◌∷◌, ◌++◌, length, get_or, set, option_to_list, Option, Some, None, refl, sym, ap, ◌∙◌, subst, arith, le_refl}
use Rattle.std.proofs.lemmas.Bool.{and_left, lt-leb}
use Rattle.wire_time.specs.Wire.{occupancy_of}
use Rattle.wire_time.specs.declared.Frame.{Frame}
use Rattle.abstract_port.specs.declared.Start.{Start}
use Rattle.abstract_port.specs.AbstractPort.{AbstractPort, queue_of, choice, start_head, start_or, scan, next_start, waiting, starts_from, starts_until, frame_count}
use Rattle.wire_time.proofs.WireLaws.{occupancy_pos}
use Rattle.abstract_port.proofs.Lockstep.{choice_passes, choice_none, rest_of, with_rest, with_moment, start_with, live, live_from, Leaves, leaves_from, start_of, started, tick_start}

-- what a scan finds, and what a life then is
pub data Scanned (p : AbstractPort) (m left : ℕ) : Type 0 where
  nothing : scan p m left ≡ (None, with_moment p (m + left)) → live left (with_moment p m) ≡ ([], with_moment p (m + left)) → Scanned p m left
  something : (s : Start) (q : AbstractPort) → scan p m left ≡ (Some s, q) → m ≤ q.now → q.now < m + left → q.ps ≡ p.ps → waiting q < waiting p
      → live left (with_moment p m) ≡ (s ∷ (live (m + left - q.now) q).0, (live (m + left - q.now) q).1) → Scanned p m left

-- while the wire is taken nothing starts
taken : (p : AbstractPort) (n : ℕ) → p.now < p.free → live (suc n) p ≡ live n (with_moment p (p.now + 1))
unfolding live
taken p n busy = ap (λ t. let later = live n (with_moment t.1 (p.now + 1)) in (option_to_list t.0 ++ later.0, later.1)) (ap (start_with p) (choice_none p p.now (λ j. and_left _ _ (lt-leb p.free p.now busy))))

-- a start takes a frame off its queue
fewer_frames : (qs : List (List Frame)) (d : ℕ) (f : Frame) (r : List Frame) → get_or qs d [] ≡ f ∷ r → frame_count (set qs d r) < frame_count qs
fewer_frames [] d f r e = absurd (let e' : [] ≡ f ∷ r = e in cc)
fewer_frames (q ∷ qs) zero f r e = let n : length q ≡ suc (length r) = ap length e in omega arith
fewer_frames (q ∷ qs) (suc d) f r e = let h = fewer_frames qs d f r e in omega arith

fewer : (p : AbstractPort) (d : ℕ) (f : Frame) (r : List Frame) → queue_of p d ≡ f ∷ r → frame_count (set p.queues d r) < frame_count p.queues
fewer p d f r e = fewer_frames p.queues d f r e

abbrev pub scan_with : AbstractPort → ℕ → ℕ → Option ℕ → Option Start × AbstractPort
scan_with p m left o = start_or p m o (scan p (m + 1) left)

found : (p : AbstractPort) (m left d : ℕ) → 0 < p.ps → choice p m ≡ Some d → Scanned p m (suc left)
unfolding scan live choice
found p m left d pos e = go (leaves_from (with_moment p m) d (choice_passes p m d e).0)
  where
    go : Leaves (with_moment p m) d → Scanned p m (suc left)
    go l =
        let q = with_rest (with_moment p m) (started (with_moment p m) d l.frame l.behind) in
        let s = start_of (with_moment p m) d l.frame in
        let busy = occupancy_pos p.ps (l.frame).len pos in
        let at : start_head p m d (queue_of p d) ≡ (Some s, q) = ap (start_head p m d) l.queue in
        let n : m + suc left - m ≡ suc left = omega arith in
        let on : m < m + occupancy_of p.ps (l.frame).len = omega arith in
        something s q (ap (scan_with p m left) e ∙ at) (le_refl m) (omega arith) refl (fewer p d l.frame l.behind l.queue)
        (live_from left (with_moment p m) (Some s) (started (with_moment p m) d l.frame l.behind) (tick_start (with_moment p m) d l e)
        ∙ ap (λ (z : List Start × AbstractPort). (s ∷ z.0, z.1)) (sym (ap (λ k. live k q) n ∙ taken q left on)))

not_yet : (p : AbstractPort) (m left : ℕ) → choice p m ≡ None → Scanned p (m + 1) left → Scanned p m (suc left)
unfolding scan live choice
not_yet p m left e (nothing a b) =
    let n : m + 1 + left ≡ m + suc left = omega arith in
    nothing (ap (scan_with p m left) e ∙ (a ∙ ap (λ k. (None, with_moment p k)) n))
    (live_from left (with_moment p m) None (rest_of p) (ap (start_with (with_moment p m)) e) ∙ (b ∙ ap (λ k. ([], with_moment p k)) n))
not_yet p m left e (something s q a lo hi ps few b) =
    let n : m + 1 + left ≡ m + suc left = omega arith in
    something s q (ap (scan_with p m left) e ∙ a) (omega arith) (omega arith) ps few
    (live_from left (with_moment p m) None (rest_of p) (ap (start_with (with_moment p m)) e) ∙ (b ∙ ap (λ k. (s ∷ (live (k - q.now) q).0, (live (k - q.now) q).1)) n))

pub scanned : (left : ℕ) (p : AbstractPort) (m : ℕ) → 0 < p.ps → Scanned p m left
unfolding scan live choice
scanned zero p m pos =
    let e : m ≡ m + 0 = omega arith in
    nothing (ap (λ k. (None, with_moment p k)) e) (ap (λ k. ([], with_moment p k)) e)
scanned (suc left) p m pos = go (choice p m) refl (scanned left p (m + 1) pos)
  where
    go : (o : Option ℕ) → choice p m ≡ o → Scanned p (m + 1) left → Scanned p m (suc left)
    go (Some d) e h = found p m left d pos e
    go None e h = not_yet p m left e h

pub starts_from_live : (n : ℕ) (p : AbstractPort) (upto : ℕ) → 0 < p.ps → p.now ≤ upto → waiting p < n → starts_from n upto (next_start p upto) ≡ live (upto - p.now) p
unfolding starts_from
starts_from_live zero p upto pos le few = absurd (omega arith)
starts_from_live (suc n) p upto pos le few = go (scanned (upto - p.now) p p.now pos) (starts_from_live n)
  where
    go : Scanned p p.now (upto - p.now)
        → ((q : AbstractPort) (upto : ℕ) → 0 < q.ps → q.now ≤ upto → waiting q < n → starts_from n upto (next_start q upto) ≡ live (upto - q.now) q)
        → starts_from (suc n) upto (next_start p upto) ≡ live (upto - p.now) p
    go (nothing a b) ih = ap (starts_from (suc n) upto) a ∙ sym b
    go (something s q a lo hi ps less b) ih =
        let w : p.now + (upto - p.now) - q.now ≡ upto - q.now = omega arith in
        ap (starts_from (suc n) upto) a
        ∙ (ap (λ (z : List Start × AbstractPort). (s ∷ z.0, z.1)) (ih q upto (subst (λ k. 0 < k) (sym ps) pos) (omega arith) (omega arith))
        ∙ (ap (λ k. (s ∷ (live k q).0, (live k q).1)) (sym w)
        ∙ sym b))

pub starts_until_live : (p : AbstractPort) (upto : ℕ) → 0 < p.ps → p.now ≤ upto → starts_until p upto ≡ live (upto - p.now) p
starts_until_live p upto pos le = starts_from_live (waiting p + 1) p upto pos le (omega arith)
