-- A class that is kept apart is served as if there were no other class.
use Rattle.std.proofs.Common.{◌≡◌, ◌<◌, ◌≤◌, ℕ, zero, suc, ◌+◌, Bool, true, false, cond, ◌&&◌, leb, List, [], ◌∷◌, ◌++◌, get_or, set, option_to_list, Option, Some, inl, inr, refl, sym, ap, ◌∙◌, subst, arith, le_refl, le_trans, get_or-set_same}
use Rattle.std.proofs.lemmas.Bool.{cases_Bool, le-leb, lt-leb, cases_lt, false≢true, and_right, both_ways, eq-eqb}
use Rattle.std.proofs.lemmas.List.Elements.{filter-append}
use Rattle.wire_time.specs.Wire.{occupancy_of}
use Rattle.wire_time.specs.declared.Frame.{Frame}
use Rattle.gates.specs.History.{Accepted, open_through}
use Rattle.abstract_port.specs.declared.Start.{Start}
use Rattle.abstract_port.specs.AbstractPort.{AbstractPort, queue_of, is_available, start_head}
use Rattle.abstract_port.specs.Served.{start_at}
use Rattle.abstract_port.proofs.Lockstep.{Rest, with_rest, with_moment, head_fits, choice_passes, start_with, tick, live, live_from, is_start_of, starts_of, IsLawful, IsSameWire, start_of, started, lawful_next, lawful_started, quiet, ours_from, chosen}

-- In so many picoseconds from m on: the frames that start, from when the wire is free, and the frames that still wait. `may` says at
-- which moments so much time can be had.
unfoldable pub serve : (ℕ → ℕ → Bool) → ℕ → ℕ → ℕ → ℕ → ℕ → List Frame → List Start × ℕ × List Frame
serve may ps class zero m free waiting = ([], free, waiting)
serve may ps class (suc n) m free [] = serve may ps class n (m + 1) free []
serve may ps class (suc n) m free (f ∷ rest) =
    cond (leb free m && may m (occupancy_of ps f.len))
    (let later = serve may ps class n (m + 1) (m + occupancy_of ps f.len) rest in (start_at ps class m f ∷ later.0, later.1, later.2))
    (serve may ps class n (m + 1) free (f ∷ rest))

-- at which moments a class may have so much time, by the gates
abbrev pub may_in : List Accepted → ℕ → ℕ → ℕ → Bool
may_in h c m d = open_through h c m d

pub record Serves (c n : ℕ) (p : AbstractPort) (w : ℕ) (q : List Frame) : Type 0 where
  pub port : AbstractPort
  pub lived : (live n p).1 ≡ port
  pub starts : starts_of c (live n p).0 ≡ (serve (may_in p.history c) p.ps c n p.now w q).0
  pub queue : queue_of port c ≡ (serve (may_in p.history c) p.ps c n p.now w q).2
  pub wire : IsSameWire c port.history port.now port.free (serve (may_in p.history c) p.ps c n p.now w q).1
  pub lawful : IsLawful c port
  pub moment : port.now ≡ p.now + n
  pub history : port.history ≡ p.history
  pub rate : port.ps ≡ p.ps

-- one picosecond, and then the others
step_on : (c n : ℕ) (p : AbstractPort) (w : ℕ) (q : List Frame) (o : Option Start) (r : Rest) (some : List Start) (v : ℕ) (k : List Frame)
    → tick p ≡ (o, with_rest p r) → starts_of c (option_to_list o) ≡ some
    → serve (may_in p.history c) p.ps c (suc n) p.now w q ≡ (some ++ (serve (may_in p.history c) p.ps c n (p.now + 1) v k).0, (serve (may_in p.history c) p.ps c n (p.now + 1) v k).1, (serve (may_in p.history c) p.ps c n (p.now + 1) v k).2)
    → Serves c n (with_moment (with_rest p r) (p.now + 1)) v k → Serves c (suc n) p w q
step_on c n p w q o r some v k e told is s =
    let x = live_from n p o r e in
    let later : p.now + 1 + n ≡ p.now + suc n = omega arith in
    record {
      port = s.port;
      lived = ap (λ z. z.1) x ∙ s.lived;
      starts =
          ap (λ z. starts_of c z.0) x
          ∙ (filter-append (is_start_of c) (option_to_list o) _
          ∙ (ap (λ y. y ++ starts_of c (live n (with_moment (with_rest p r) (p.now + 1))).0) told
          ∙ (ap (λ y. some ++ y) s.starts
          ∙ sym (ap (λ z. z.0) is))));
      queue = s.queue ∙ sym (ap (λ z. z.2) is);
      wire = subst (λ z. IsSameWire c s.port.history s.port.now s.port.free z) (sym (ap (λ z. z.1) is)) s.wire;
      lawful = s.lawful;
      moment = s.moment ∙ later;
      history = s.history;
      rate = s.rate;
    }

-- the wire is free for the class alike
leb_same : (a b m : ℕ) → (a ≤ m → b ≤ m) × (b ≤ m → a ≤ m) → leb a m ≡ leb b m
leb_same a b m h =
    elim (cases_lt m a) [
      | inl x ↦ elim (cases_lt m b) [
        | inl y ↦ lt-leb a m x ∙ sym (lt-leb b m y)
        | inr y ↦ absurd (let z = h.1 y in omega arith)
      ]
      | inr x ↦ le-leb a m x ∙ sym (le-leb b m (h.0 x))
    ]

available_is : (c : ℕ) (p : AbstractPort) (w : ℕ) (q : List Frame) → IsLawful c p → queue_of p c ≡ q → IsSameWire c p.history p.now p.free w → is_available p p.now c ≡ (leb w p.now && head_fits p p.now c q)
available_is c p w q l e s = ap (λ k. leb p.free p.now && head_fits p p.now c k) e ∙ step
  where
    step : (leb p.free p.now && head_fits p p.now c q) ≡ (leb w p.now && head_fits p p.now c q)
    step = elim (cases_Bool (head_fits p p.now c q)) [
      | inl t ↦ let u = ours_from c p l (ap (head_fits p p.now c) e ∙ t) in
          ap (λ b. b && head_fits p p.now c q) (leb_same p.free w p.now (s p.now (le_refl p.now) u.forced u.opened))
      | inr f ↦ and_right _ _ f ∙ sym (and_right _ _ f)
    ]

wire_later : (c : ℕ) (h : List Accepted) (m n f g : ℕ) → m ≤ n → IsSameWire c h m f g → IsSameWire c h n f g
wire_later c h m n f g le s i l a o = s i (le_trans le l) a o

wire_from : (c : ℕ) (h : List Accepted) (m f g k : ℕ) → IsSameWire c h m f g → IsSameWire c h m f k → IsSameWire c h m g k
wire_from c h m f g k s t i l a o = let x = s i l a o in let y = t i l a o in (λ z. y.0 (x.1 z), λ z. x.0 (y.1 z))

-- a frame of the class starts
module _ (c n : ℕ) (p : AbstractPort) (w : ℕ) (f : Frame) (r : List Frame) (lc : c < 8) (l : IsLawful c p) (e : queue_of p c ≡ f ∷ r) (s : IsSameWire c p.history p.now p.free w) where
  abbrev pub after_it : AbstractPort
  after_it = with_moment (with_rest p (started p c f r)) (p.now + 1)

  pub goes : (leb w p.now && head_fits p p.now c (f ∷ r)) ≡ true → Serves c n after_it (p.now + occupancy_of p.ps f.len) r → Serves c (suc n) p w (f ∷ r)
  unfolding serve
  goes t rest =
      let here = available_is c p w (f ∷ r) l e s ∙ t in
      let one = ap (start_with p) (chosen c p lc l here) ∙ ap (start_head p p.now c) e in
      let told : starts_of c (option_to_list (Some (start_of p c f))) ≡ start_at p.ps c p.now f ∷ [] = ap (λ b. cond b (start_of p c f ∷ []) []) (eq-eqb c c refl) in
      step_on c n p w (f ∷ r) (Some (start_of p c f)) (started p c f r) (start_at p.ps c p.now f ∷ []) (p.now + occupancy_of p.ps f.len) r one told
      (ap (λ b. cond b (start_at p.ps c p.now f ∷ later.0, later.1, later.2) (serve (may_in p.history c) p.ps c n (p.now + 1) w (f ∷ r))) t)
      rest
    where
      later : List Start × ℕ × List Frame
      later = serve (may_in p.history c) p.ps c n (p.now + 1) (p.now + occupancy_of p.ps f.len) r

-- none does
stays : (c n : ℕ) (p : AbstractPort) (w : ℕ) (q : List Frame) → (leb w p.now && head_fits p p.now c q) ≡ false
    → serve (may_in p.history c) p.ps c (suc n) p.now w q ≡ ([] ++ (serve (may_in p.history c) p.ps c n (p.now + 1) w q).0, (serve (may_in p.history c) p.ps c n (p.now + 1) w q).1, (serve (may_in p.history c) p.ps c n (p.now + 1) w q).2)
unfolding serve
stays c n p w [] f = refl
stays c n p w (g ∷ r) f = ap (λ b. cond b (start_at p.ps c p.now g ∷ later.0, later.1, later.2) (serve (may_in p.history c) p.ps c n (p.now + 1) w (g ∷ r))) f
  where
    later : List Start × ℕ × List Frame
    later = serve (may_in p.history c) p.ps c n (p.now + 1) (p.now + occupancy_of p.ps g.len) r

pub serves : (c n : ℕ) (p : AbstractPort) (w : ℕ) (q : List Frame) → c < 8 → IsLawful c p → queue_of p c ≡ q → IsSameWire c p.history p.now p.free w → Serves c n p w q
unfolding serve live
serves c zero p w q lc l e s = record {
  port = p;
  lived = refl;
  starts = refl;
  queue = e;
  wire = s;
  lawful = l;
  moment = (let same : p.now ≡ p.now + 0 = omega arith in same);
  history = refl;
  rate = refl;
}
serves c (suc n) p w q lc l e s =
    go (leb w p.now && head_fits p p.now c q) refl q e refl
    (λ (f : Frame) r h i. serves c n (with_moment (with_rest p (started p c f r)) (p.now + 1)) (p.now + occupancy_of p.ps f.len) r lc
    (lawful_next c (with_rest p (started p c f r)) (lawful_started c p c f r l h)) i (λ m a b d. (λ x. x, λ x. x)))
    (λ (r : Rest) h i j. serves c n (with_moment (with_rest p r) (p.now + 1)) w q lc (lawful_next c (with_rest p r) h) i j)
  where
    go : (b : Bool) → (leb w p.now && head_fits p p.now c q) ≡ b → (k : List Frame) → queue_of p c ≡ k → q ≡ k
        → ((f : Frame) (r : List Frame) → queue_of p c ≡ f ∷ r → get_or (set p.queues c r) c [] ≡ r → Serves c n (with_moment (with_rest p (started p c f r)) (p.now + 1)) (p.now + occupancy_of p.ps f.len) r)
        → ((r : Rest) → IsLawful c (with_rest p r) → get_or r.queues c [] ≡ q → IsSameWire c p.history (p.now + 1) r.free w → Serves c n (with_moment (with_rest p r) (p.now + 1)) w q)
        → Serves c (suc n) p w q
    go true t [] ek same on off = absurd (false≢true (sym (and_right (leb w p.now) false refl) ∙ (ap (λ k. leb w p.now && head_fits p p.now c k) (sym same) ∙ t)))
    go true t (f ∷ r) ek same on off =
        subst (λ k. Serves c (suc n) p w k) (sym same)
        (goes c n p w f r lc l ek s (ap (λ k. leb w p.now && head_fits p p.now c k) (sym same) ∙ t)
        (on f r ek (get_or-set_same p.queues c r [] l.queued)))
    go false t k ek same on off =
        let x = quiet c p lc l (λ h. both_ways _ (available_is c p w q l e s ∙ t) (choice_passes p p.now c h).0) in
        step_on c n p w q x.first x.rest [] w q x.is x.silent (stays c n p w q t)
        (off x.rest x.lawful (sym (x.alike).queue ∙ e)
        (wire_later c p.history p.now (p.now + 1) (x.rest).free w (omega arith) (wire_from c p.history p.now p.free (x.rest).free w (x.alike).wire s)))
