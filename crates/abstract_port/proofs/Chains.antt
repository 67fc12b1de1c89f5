-- What a class is served picosecond by picosecond is a chain of first moments.
use Rattle.std.proofs.Common.{◌≡◌, ◌<◌, ◌≤◌, ℕ, zero, suc, ◌+◌, Bool, true, false, cond, ◌&&◌, leb, List, [], ◌∷◌, ◌++◌, inl, inr, refl, sym, ap, ◌∙◌, subst, arith, append-nil, append_assoc}
use Rattle.std.proofs.lemmas.Bool.{and_parts, and_cases, leb-true, le-leb, cases_lt, both_ways}
use Rattle.wire_time.specs.Wire.{occupancy_of}
use Rattle.wire_time.proofs.WireLaws.{occupancy_pos}
use Rattle.wire_time.specs.declared.Frame.{Frame}
use Rattle.abstract_port.specs.declared.Start.{Start}
use Rattle.abstract_port.specs.Traffic.{Came}
use Rattle.abstract_port.specs.Served.{start_at, IsStart, frames_of, HaveCome, Waits, AreServed}
use Rattle.abstract_port.proofs.Alone.{serve}

pub have_come_later : (m n : ℕ) (came : List Came) → m ≤ n → HaveCome m came → HaveCome n came
have_come_later m n [] le h = tt
have_come_later m n (f ∷ rest) le h = (let before = h.0 in omega arith, have_come_later m n rest le h.1)

pub have_come_more : (now : ℕ) (came : List Came) (f : Came) → f.moment ≤ now → HaveCome now came → HaveCome now (came ++ f ∷ [])
have_come_more now [] f le h = (le, tt)
have_come_more now (g ∷ rest) f le h = (h.0, have_come_more now rest f le h.1)

pub frames_more : (came : List Came) (f : Came) → frames_of (came ++ f ∷ []) ≡ frames_of came ++ f.frame ∷ []
frames_more [] f = refl
frames_more (g ∷ rest) f = ap (λ xs. g.frame ∷ xs) (frames_more rest f)

-- ---- one more comes now

pub comes : (may : ℕ → ℕ → Bool) (ps class free now : ℕ) (came : List Came) (starts : List Start) (wire : ℕ) (waiting : List Frame) (f : Frame)
    → AreServed may ps class free now came starts wire waiting
    → AreServed may ps class free now (came ++ record { moment = now; frame = f } ∷ []) starts wire (waiting ++ f ∷ [])
comes may ps class free now came [] wire waiting f h = record {
  unused = h.unused;
  frames = ap (λ xs. xs ++ f ∷ []) h.frames ∙ sym (frames_more came (record { moment = now; frame = f }));
  come = have_come_more now came (record { moment = now; frame = f }) (let same : now ≤ now = omega arith in same) h.come;
  waits = go came h.waits;
}
  where
    go : (came : List Came) → Waits may ps free now came → Waits may ps free now (came ++ record { moment = now; frame = f } ∷ [])
    go [] w = λ m from below. absurd (omega arith)
    go (g ∷ rest) w = w
comes may ps class free now [] (s ∷ starts) wire waiting f h = absurd h
comes may ps class free now (g ∷ came) (s ∷ starts) wire waiting f h = (h.0, comes may ps class s.«end» now came starts wire waiting f h.1)

-- ---- a picosecond

start_later : (may : ℕ → ℕ → Bool) (ps class free now : ℕ) (f : Came) (s : Start) → IsStart may ps class free now f s → IsStart may ps class free (now + 1) f s
start_later may ps class free now f s h = record { first = h.first; before = (let b = h.before in omega arith); is = h.is }

-- none starts
pub passes : (may : ℕ → ℕ → Bool) (ps class free now : ℕ) (came : List Came) (starts : List Start) (wire : ℕ) (waiting : List Frame)
    → ((f : Frame) (rest : List Frame) → waiting ≡ f ∷ rest → (leb wire now && may now (occupancy_of ps f.len)) ≡ false)
    → AreServed may ps class free now came starts wire waiting → AreServed may ps class free (now + 1) came starts wire waiting
passes may ps class free now came [] wire waiting idle h = record {
  unused = h.unused;
  frames = h.frames;
  come = have_come_later now (now + 1) came (omega arith) h.come;
  waits = go came h.frames h.waits;
}
  where
    go : (came : List Came) → waiting ≡ frames_of came → Waits may ps free now came → Waits may ps free (now + 1) came
    go [] e w = tt
    go (g ∷ rest) e w = λ m from below. elim (cases_lt m now) [
      | inl before ↦ w m from before
      | inr here ↦
          let at : now ≡ m = omega arith in
          let is = h.unused in
          elim (and_cases _ _ (idle g.frame (frames_of rest) e)) [
            | inl busy ↦ absurd (both_ways _ busy (le-leb wire now (omega arith)))
            | inr shut ↦ subst (λ n. may n (occupancy_of ps (g.frame).len) ≡ false) at shut
          ]
    ]
passes may ps class free now [] (s ∷ starts) wire waiting idle h = absurd h
passes may ps class free now (f ∷ came) (s ∷ starts) wire waiting idle h =
    (start_later may ps class free now f s h.0, passes may ps class s.«end» now came starts wire waiting idle h.1)

-- the first of those that wait starts
pub starts_one : (may : ℕ → ℕ → Bool) (ps class free now : ℕ) (came : List Came) (starts : List Start) (wire : ℕ) (f : Frame) (rest : List Frame)
    → 0 < ps → (leb wire now && may now (occupancy_of ps f.len)) ≡ true
    → AreServed may ps class free now came starts wire (f ∷ rest)
    → AreServed may ps class free (now + 1) came (starts ++ start_at ps class now f ∷ []) (now + occupancy_of ps f.len) rest
starts_one may ps class free now came [] wire f rest pos goes h = go came h.frames h.come h.waits
  where
    takes : 0 < occupancy_of ps f.len
    takes = occupancy_pos ps f.len pos

    head_waits : (came : List Came) → Waits may ps (now + occupancy_of ps f.len) (now + 1) came
    head_waits [] = tt
    head_waits (g ∷ more) = λ m from below. absurd (let t = takes in omega arith)

    go : (came : List Came) → f ∷ rest ≡ frames_of came → HaveCome now came → Waits may ps free now came → AreServed may ps class free (now + 1) came (start_at ps class now f ∷ []) (now + occupancy_of ps f.len) rest
    go [] e c w = absurd (cc)
    go (g ∷ more) e c w =
        let same : f ≡ g.frame = cc in
        let others : rest ≡ frames_of more = cc in
        let parts = and_parts _ _ goes in
        let free_now = leb-true wire now parts.0 in
        let is = h.unused in
        let come = c.0 in (
          record {
            first = record {
              from = omega arith;
              fits = subst (λ (x : Frame). may now (occupancy_of ps x.len) ≡ true) same parts.1;
              least = λ m from below. w m from below;
            };
            before = omega arith;
            is = ap (λ (x : Frame). start_at ps class now x) same;
          },
          record { unused = refl; frames = others; come = have_come_later now (now + 1) more (omega arith) c.1; waits = head_waits more },
        )
starts_one may ps class free now [] (s ∷ starts) wire f rest pos goes h = absurd h
starts_one may ps class free now (g ∷ came) (s ∷ starts) wire f rest pos goes h =
    (start_later may ps class free now g s h.0, starts_one may ps class s.«end» now came starts wire f rest pos goes h.1)

-- ---- a while

pub served : (n : ℕ) (may : ℕ → ℕ → Bool) (ps class free now : ℕ) (came : List Came) (starts : List Start) (wire : ℕ) (waiting : List Frame)
    → 0 < ps → AreServed may ps class free now came starts wire waiting
    → AreServed may ps class free (now + n) came (starts ++ (serve may ps class n now wire waiting).0) (serve may ps class n now wire waiting).1 (serve may ps class n now wire waiting).2
unfolding serve
served zero may ps class free now came starts wire waiting pos h =
    let same : now ≡ now + 0 = omega arith in
    subst (λ k. AreServed may ps class free k came (starts ++ []) wire waiting) same
    (subst (λ xs. AreServed may ps class free now came xs wire waiting) (sym (append-nil starts)) h)
served (suc n) may ps class free now came starts wire [] pos h =
    let same : now + 1 + n ≡ now + suc n = omega arith in
    subst (λ k. AreServed may ps class free k came (starts ++ (serve may ps class n (now + 1) wire []).0) (serve may ps class n (now + 1) wire []).1 (serve may ps class n (now + 1) wire []).2) same
    (served n may ps class free (now + 1) came starts wire [] pos (passes may ps class free now came starts wire [] (λ f rest e. absurd (cc)) h))
served (suc n) may ps class free now came starts wire (f ∷ rest) pos h =
    by (leb wire now && may now (occupancy_of ps f.len)) refl
    (λ t. served n may ps class free (now + 1) came (starts ++ start_at ps class now f ∷ []) (now + occupancy_of ps f.len) rest pos (starts_one may ps class free now came starts wire f rest pos t h))
    (λ t. served n may ps class free (now + 1) came starts wire (f ∷ rest) pos (passes may ps class free now came starts wire (f ∷ rest) (λ g more e. subst (λ (x : Frame). (leb wire now && may now (occupancy_of ps x.len)) ≡ false) (let e' : f ≡ g = cc in e') t) h))
  where
    on : List Start × ℕ × List Frame
    on = serve may ps class n (now + 1) (now + occupancy_of ps f.len) rest

    off : List Start × ℕ × List Frame
    off = serve may ps class n (now + 1) wire (f ∷ rest)

    by : (b : Bool) → (leb wire now && may now (occupancy_of ps f.len)) ≡ b
        → ((leb wire now && may now (occupancy_of ps f.len)) ≡ true → AreServed may ps class free (now + 1 + n) came ((starts ++ start_at ps class now f ∷ []) ++ on.0) on.1 on.2)
        → ((leb wire now && may now (occupancy_of ps f.len)) ≡ false → AreServed may ps class free (now + 1 + n) came (starts ++ off.0) off.1 off.2)
        → AreServed may ps class free (now + suc n) came (starts ++ (cond (leb wire now && may now (occupancy_of ps f.len)) (start_at ps class now f ∷ on.0, on.1, on.2) off).0)
        (cond (leb wire now && may now (occupancy_of ps f.len)) (start_at ps class now f ∷ on.0, on.1, on.2) off).1
        (cond (leb wire now && may now (occupancy_of ps f.len)) (start_at ps class now f ∷ on.0, on.1, on.2) off).2
    by true t goes stays =
        let same : now + 1 + n ≡ now + suc n = omega arith in
        subst (λ b. AreServed may ps class free (now + suc n) came (starts ++ (cond b (start_at ps class now f ∷ on.0, on.1, on.2) off).0) (cond b (start_at ps class now f ∷ on.0, on.1, on.2) off).1 (cond b (start_at ps class now f ∷ on.0, on.1, on.2) off).2) (sym t)
        (subst (λ k. AreServed may ps class free k came (starts ++ start_at ps class now f ∷ on.0) on.1 on.2) same
        (subst (λ xs. AreServed may ps class free (now + 1 + n) came xs on.1 on.2) (append_assoc starts (start_at ps class now f ∷ []) on.0) (goes t)))
    by false t goes stays =
        let same : now + 1 + n ≡ now + suc n = omega arith in
        subst (λ b. AreServed may ps class free (now + suc n) came (starts ++ (cond b (start_at ps class now f ∷ on.0, on.1, on.2) off).0) (cond b (start_at ps class now f ∷ on.0, on.1, on.2) off).1 (cond b (start_at ps class now f ∷ on.0, on.1, on.2) off).2) (sym t)
        (subst (λ k. AreServed may ps class free k came (starts ++ off.0) off.1 off.2) same (stays t))
