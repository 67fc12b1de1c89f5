-- What the fields of a port keep true is what holds of the port.
use Rattle.std.proofs.Common.{◌≡◌, ◌<◌, ◌≤◌, ℕ, zero, suc, ◌+◌, List, [], ◌∷◌, ◌++◌, length, drop, Some, refl, sym, ap, ◌∙◌, subst, arith}
use Rattle.std.specs.Prelude.{All, slice_index_or, slice_get, slice_set}
use Rattle.port.specs.Words.{Frame, lead_of, occupancy_of, IsRoom, Queue, IsCurrent, AbstractPort, AreCapped, AreCounted, count_dropped, FitsLead, IsMtu, IsSoundPort, frames_of, queue_at, no_queue, with_frames, empty_queue, eight, IsKept}
use Rattle.abstract_port.specs.FrameCounts.{add_capped}
use Rattle.abstract_port.specs.declared.Counts.{Counts}
use Rattle.abstract_port.specs.declared.Dropped.{Dropped}
use Rattle.abstract_port.specs.declared.Dropped.TheVariants.{NoClass, Runt, TooLong, OverSdu, Full}
use Rattle.std.proofs.lemmas.List.{length-set, length-map}
use Rattle.std.specs.List.{AllByRecursion}
use Rattle.std.proofs.lemmas.List.Elements.{All-from_recursion, All-set, All-drop, All-append}

-- the waiting frames of a class fit
pub fits_at : (ps mtu : ℕ) (queues : List Queue) → All (λ q. All (FitsLead ps mtu) q.frames) queues → (class : ℕ) → All (FitsLead ps mtu) (slice_index_or (frames_of queues) class [])
fits_at ps mtu [] h class = λ k d lt. absurd (omega arith)
fits_at ps mtu (q ∷ qs) h zero = h 0 q (omega arith)
fits_at ps mtu (q ∷ qs) h (suc class) = fits_at ps mtu qs (λ k d lt. h (suc k) d (omega arith)) class

pub sound_by : (p : AbstractPort) (queues : List Queue) → IsCurrent p.history p.now → IsKept p.ps p.mtu p.room p.now p.free queues → AreCounted p.counts p.no_class → p.queues ≡ frames_of queues → IsSoundPort p
sound_by p queues current kept counts same = record {
  rate = kept.rate;
  mtu = kept.mtu_within;
  room = kept.room_within;
  queues = ap length same ∙ (length-map queues (λ (q : Queue). q.frames) ∙ kept.eight);
  counts = counts;
  current = current;
  fits = λ class. subst (λ qs. All (FitsLead p.ps p.mtu) (slice_index_or qs class [])) (sym same) (fits_at p.ps p.mtu queues kept.fits class);
  wire = kept.wire;
}

-- a later moment
pub kept_later : (ps mtu room now now' free : ℕ) (queues : List Queue) → IsKept ps mtu room now free queues → now ≤ now' → IsKept ps mtu room now' free queues
kept_later ps mtu room now now' free queues k l =
    record { eight = k.eight; rooms = k.rooms; rate = k.rate; mtu_within = k.mtu_within; room_within = k.room_within; fits = k.fits; wire = let w = k.wire in omega arith }

-- other frames of a class
kept_set : (ps mtu room now free free' class : ℕ) (queues : List Queue) (frames : List Frame) → IsKept ps mtu room now free queues → class < 8
    → All (FitsLead ps mtu) frames → free' ≤ now + lead_of ps mtu → IsKept ps mtu room now free' (slice_set queues class (with_frames (queue_at queues class) frames))
kept_set ps mtu room now free free' class queues frames k less fits wire =
    let within : class < length queues = let e = k.eight in omega arith in
    record {
      eight = length-set queues class (with_frames (queue_at queues class) frames) ∙ k.eight;
      rooms = All-set (λ q. q.room ≡ room) queues class (with_frames (queue_at queues class) frames) (k.rooms class no_queue within) k.rooms;
      rate = k.rate;
      mtu_within = k.mtu_within;
      room_within = k.room_within;
      fits = All-set (λ q. All (FitsLead ps mtu) q.frames) queues class (with_frames (queue_at queues class) frames) fits k.fits;
      wire = wire;
    }

alone : {X : Type 0} (P : X → Type 0) (x : X) → P x → All P (x ∷ [])
alone P x p zero d l = p
alone P x p (suc k) d l = absurd (omega arith)

-- a frame more
pub kept_queued : (ps mtu room now free class : ℕ) (queues : List Queue) (f : Frame) → IsKept ps mtu room now free queues → class < 8
    → FitsLead ps mtu f → IsKept ps mtu room now free (slice_set queues class (with_frames (queue_at queues class) ((queue_at queues class).frames ++ f ∷ [])))
kept_queued ps mtu room now free class queues f k less fits =
    let within : class < length queues = let e = k.eight in omega arith in
    kept_set ps mtu room now free free class queues _ k less
    (All-append (FitsLead ps mtu) (queue_at queues class).frames (f ∷ []) (k.fits class no_queue within) (alone (FitsLead ps mtu) f fits))
    k.wire

-- the first of a list where each passes
first_passes : {X : Type 0} (P : X → Type 0) (xs : List X) (x : X) → All P xs → slice_get xs 0 ≡ Some x → P x
first_passes P [] x h e = absurd (cc)
first_passes P (y ∷ ys) x h e = let same : y ≡ x = (cc) in subst P same (h 0 y (omega arith))

-- the first frame starts
pub kept_started : (ps mtu room now free class : ℕ) (queues : List Queue) (f : Frame) → IsKept ps mtu room now free queues → class < 8
    → slice_get (queue_at queues class).frames 0 ≡ Some f → IsKept ps mtu room now (now + occupancy_of ps f.len) (slice_set queues class (with_frames (queue_at queues class) (drop 1 (queue_at queues class).frames)))
kept_started ps mtu room now free class queues f k less e =
    let within : class < length queues = let e = k.eight in omega arith in
    let fits = k.fits class no_queue within in
    let fits_first : occupancy_of ps f.len ≤ lead_of ps mtu = first_passes (FitsLead ps mtu) (queue_at queues class).frames f fits e in
    kept_set ps mtu room now free (now + occupancy_of ps f.len) class queues _ k less
    (All-drop (FitsLead ps mtu) 1 (queue_at queues class).frames fits)
    (omega (arith, fits_first))

-- a new port: each class has the same queue
kept_eight : (ps mtu room now : ℕ) → 80 ≤ ps → IsMtu mtu → IsRoom room → IsKept ps mtu room now 0 (eight (empty_queue room))
kept_eight ps mtu room now rate mtu_within room_within =
    let queues : List Queue = eight (empty_queue room) in
    let none : All (FitsLead ps mtu) [] = λ k f l. absurd (omega arith) in
    let rooms : AllByRecursion (λ q. q.room ≡ room) queues = (refl, (refl, (refl, (refl, (refl, (refl, (refl, (refl, tt)))))))) in
    let fits : AllByRecursion (λ q. All (FitsLead ps mtu) q.frames) queues = (none, (none, (none, (none, (none, (none, (none, (none, tt)))))))) in
    record {
      eight = refl;
      rooms = All-from_recursion (λ q. q.room ≡ room) queues rooms;
      rate = rate;
      mtu_within = mtu_within;
      room_within = room_within;
      fits = All-from_recursion (λ q. All (FitsLead ps mtu) q.frames) queues fits;
      wire = omega arith;
    }

pub kept_new : (ps mtu room now : ℕ) (queues : List Queue) → 80 ≤ ps → IsMtu mtu → IsRoom room → queues ≡ eight (empty_queue room) → IsKept ps mtu room now 0 queues
kept_new ps mtu room now queues rate mtu_within room_within are = subst (IsKept ps mtu room now 0) (sym are) (kept_eight ps mtu room now rate mtu_within room_within)

-- ---- what is counted

-- a new port: each class has the same counts
pub counted_new : (c : Counts) → AreCapped c → AreCounted (c ∷ c ∷ c ∷ c ∷ c ∷ c ∷ c ∷ c ∷ []) 0
counted_new c k =
    let each : AllByRecursion AreCapped (c ∷ c ∷ c ∷ c ∷ c ∷ c ∷ c ∷ c ∷ []) = (k, (k, (k, (k, (k, (k, (k, (k, tt)))))))) in
    record { eight = refl; capped = All-from_recursion AreCapped (c ∷ c ∷ c ∷ c ∷ c ∷ c ∷ c ∷ c ∷ []) each; unclassed = omega arith }

pub counts_capped : (counts : List Counts) (no_class class : ℕ) (d : Counts) → AreCounted counts no_class → class < 8 → AreCapped (slice_index_or counts class d)
counts_capped counts no_class class d k less = k.capped class d (let e = k.eight in omega arith)

-- other counts of a class
pub counted_set : (counts : List Counts) (no_class class : ℕ) (c : Counts) → AreCounted counts no_class → AreCapped c → AreCounted (slice_set counts class c) no_class
counted_set counts no_class class c k capped = record {
  eight = length-set counts class c ∙ k.eight;
  capped = All-set AreCapped counts class c capped k.capped;
  unclassed = k.unclassed;
}

pub capped_accepted : (c : Counts) → AreCapped c → AreCapped (record c { accepted = add_capped c.accepted 1 })
capped_accepted c k = record { accepted = omega arith; sent = k.sent; sent_octets = k.sent_octets; runt = k.runt; too_long = k.too_long; over_sdu = k.over_sdu; full = k.full }

pub capped_sent : (c : Counts) (len : ℕ) → AreCapped c → AreCapped (record c { sent = add_capped c.sent 1; sent_octets = add_capped c.sent_octets len })
capped_sent c len k = record { accepted = k.accepted; sent = omega arith; sent_octets = omega arith; runt = k.runt; too_long = k.too_long; over_sdu = k.over_sdu; full = k.full }

pub capped_dropped : (why : Dropped) (c : Counts) → AreCapped c → AreCapped (count_dropped why c)
capped_dropped NoClass c k = k
capped_dropped Runt c k = record { accepted = k.accepted; sent = k.sent; sent_octets = k.sent_octets; runt = omega arith; too_long = k.too_long; over_sdu = k.over_sdu; full = k.full }
capped_dropped TooLong c k = record { accepted = k.accepted; sent = k.sent; sent_octets = k.sent_octets; runt = k.runt; too_long = omega arith; over_sdu = k.over_sdu; full = k.full }
capped_dropped OverSdu c k = record { accepted = k.accepted; sent = k.sent; sent_octets = k.sent_octets; runt = k.runt; too_long = k.too_long; over_sdu = omega arith; full = k.full }
capped_dropped Full c k = record { accepted = k.accepted; sent = k.sent; sent_octets = k.sent_octets; runt = k.runt; too_long = k.too_long; over_sdu = k.over_sdu; full = omega arith }

-- other frames of no class
pub counted_unclassed : (counts : List Counts) (no_class n : ℕ) → AreCounted counts no_class → n ≡ add_capped no_class 1 → AreCounted counts n
counted_unclassed counts no_class n k e = record { eight = k.eight; capped = k.capped; unclassed = omega (arith, e) }
