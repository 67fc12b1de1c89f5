-- Bands are the longest times for which a class is open.
use Rattle.std.proofs.Common.{◌≡◌, ◌<◌, ◌≤◌, ℕ, zero, suc, ◌+◌, ◌-◌, Bool, true, false, ◌⊎◌, List, [], ◌∷◌, ◌++◌, Option, Some, None, inl, inr, refl, sym, ap, ◌∙◌, subst, arith, le_refl, le_trans}
use Rattle.std.proofs.lemmas.Bool.{cases_lt, false≢true}
use Rattle.picture.specs.Words.{opens, Span, Going, after, bands_from, AreBands}
use Rattle.gates.specs.Open.{open_while}
use Rattle.gates.proofs.OpenLaws.{open_at, open_from, same_while}
use Rattle.picture.specs.Laws.{MayBegin, IsOpenSince, IsLongest, AreLongest, AreInOrder, LiesIn, RunsSo}

longest_push : (masks : ℕ → ℕ) (class start m : ℕ) (bs : List Span) (b : Span) → AreLongest masks class start m bs → IsLongest masks class start m b → AreLongest masks class start m (bs ++ b ∷ [])
longest_push masks class start m [] b all l = (l, tt)
longest_push masks class start m (a ∷ rest) b all l = (all.0, longest_push masks class start m rest b all.1 l)

longest_later : (masks : ℕ → ℕ) (class start m : ℕ) (bs : List Span) → AreLongest masks class start m bs → AreLongest masks class start (m + 1) bs
longest_later masks class start m [] all = tt
longest_later masks class start m (a ∷ rest) all =
    (record { opened = all.0.opened; ends = all.0.ends; before = omega (arith, all.0.before) }, longest_later masks class start m rest all.1)

lies_before : (k : ℕ) (bs : List Span) (b : Span) → LiesIn k bs → LiesIn k (bs ++ b ∷ [])
lies_before k [] b lies = absurd lies
lies_before k (a ∷ rest) b (inl here) = inl here
lies_before k (a ∷ rest) b (inr later) = inr (lies_before k rest b later)

lies_last : (k : ℕ) (bs : List Span) (b : Span) → b.from ≤ k → k < b.to → LiesIn k (bs ++ b ∷ [])
lies_last k [] b from to = inl (from, to)
lies_last k (a ∷ rest) b from to = inr (lies_last k rest b from to)

order_later : (bs : List Span) (m n : ℕ) → m ≤ n → AreInOrder bs m → AreInOrder bs n
order_later [] m n l ordered = tt
order_later (a ∷ []) m n l ordered = le_trans ordered l
order_later (a ∷ b ∷ rest) m n l ordered = (ordered.0, order_later (b ∷ rest) m n l ordered.1)

order_push : (bs : List Span) (b : Span) (n : ℕ) → b.to ≤ n → AreInOrder bs b.from → AreInOrder (bs ++ b ∷ []) n
order_push [] b n l ordered = l
order_push (a ∷ []) b n l ordered = (ordered, l)
order_push (a ∷ c ∷ rest) b n l ordered = (ordered.0, order_push (c ∷ rest) b n l ordered.1)

module _ (masks : ℕ → ℕ) (class start m : ℕ) where
  -- one moment more of a class that is open
  open_more : (from : ℕ) → from ≤ m → (from < m → open_while masks class from (m - from) ≡ true) → opens (masks m) class ≡ true → open_while masks class from (m + 1 - from) ≡ true
  open_more from l before here =
      open_from masks class from (m + 1 - from) (λ n after below.
      elim (cases_lt n m) [
        | inl early ↦ open_at masks class from (m - from) (before (omega arith)) n after (omega arith)
        | inr late ↦ (let e : m ≡ n = omega (arith, below) in subst (λ k. opens (masks k) class ≡ true) e here)
      ])

  open_step : (since : Option ℕ) (bands : List Span) → opens (masks m) class ≡ true → AreBands masks class start m (record { since = since; bands = bands })
      → AreBands masks class start (m + 1) (after true m (record { since = since; bands = bands }))
  open_step None bands here g = record {
    onward = omega (arith, g.onward);
    runs = record { within = g.onward; some = omega arith; through = open_more m (le_refl m) (λ l. absurd (omega arith)) here; begins = g.runs };
    complete = longest_later masks class start m bands g.complete;
    ordered = g.ordered;
    all = λ k from below opened.
        elim (cases_lt k m) [
          | inl early ↦ still (g.all k from early opened)
          | inr late ↦ inr late
        ];
  }
    where
      still : {k : ℕ} → LiesIn k bands ⊎ ⊥ → LiesIn k bands ⊎ (m ≤ k)
      still (inl lies) = inl lies
      still (inr none) = absurd none
  open_step (Some since) bands here g = record {
    onward = omega (arith, g.onward);
    runs = record { within = g.runs.within; some = omega (arith, g.runs.some); through = open_more since (omega (arith, g.runs.some)) (λ _. g.runs.through) here; begins = g.runs.begins };
    complete = longest_later masks class start m bands g.complete;
    ordered = g.ordered;
    all = λ k from below opened.
        elim (cases_lt k m) [
          | inl early ↦ g.all k from early opened
          | inr late ↦ inr (omega (arith, g.runs.some, late))
        ];
  }

  closed_step : (since : Option ℕ) (bands : List Span) → opens (masks m) class ≡ false → AreBands masks class start m (record { since = since; bands = bands })
      → AreBands masks class start (m + 1) (after false m (record { since = since; bands = bands }))
  closed_step None bands here g = record {
    onward = omega (arith, g.onward);
    runs = begin_next;
    complete = longest_later masks class start m bands g.complete;
    ordered = order_later bands m (m + 1) (omega arith) g.ordered;
    all = λ k from below opened.
        elim (cases_lt k m) [
          | inl early ↦ g.all k from early opened
          | inr late ↦ (let e : k ≡ m = omega (arith, below) in absurd (false≢true (sym here ∙ subst (λ i. opens (masks i) class ≡ true) e opened)))
        ];
  }
    where
      begin_next : MayBegin masks class start (m + 1)
      begin_next = let e : m ≡ m + 1 - 1 = omega arith in inr (omega (arith, g.onward), subst (λ i. opens (masks i) class ≡ false) e here)
  closed_step (Some since) bands here g = record {
    onward = omega (arith, g.onward);
    runs = begin_next;
    complete = longest_push masks class start (m + 1) bands (record { from = since; to = m }) (longest_later masks class start m bands g.complete) (record { opened = g.runs; ends = here; before = omega arith });
    ordered = order_push bands (record { from = since; to = m }) (m + 1) (omega arith) g.ordered;
    all = λ k from below opened.
        elim (cases_lt k m) [
          | inl early ↦ inl (lies k early (g.all k from early opened))
          | inr late ↦ (let e : k ≡ m = omega (arith, below) in absurd (false≢true (sym here ∙ subst (λ i. opens (masks i) class ≡ true) e opened)))
        ];
  }
    where
      begin_next : MayBegin masks class start (m + 1)
      begin_next = let e : m ≡ m + 1 - 1 = omega arith in inr (omega (arith, g.onward), subst (λ i. opens (masks i) class ≡ false) e here)

      lies : (k : ℕ) → k < m → LiesIn k bands ⊎ (since ≤ k) → LiesIn k (bands ++ record { from = since; to = m } ∷ [])
      lies k early (inl before) = lies_before k bands (record { from = since; to = m }) before
      lies k early (inr last) = lies_last k bands (record { from = since; to = m }) last early

  one_step : (g : Going) (b : Bool) → opens (masks m) class ≡ b → AreBands masks class start m g → AreBands masks class start (m + 1) (after b m g)
  one_step g true here are = open_step g.since g.bands here are
  one_step g false here are = closed_step g.since g.bands here are

pub no_bands_yet : (masks : ℕ → ℕ) (class start : ℕ) → AreBands masks class start start (record { since = None; bands = [] })
no_bands_yet masks class start = record { onward = le_refl start; runs = inl refl; complete = tt; ordered = tt; all = λ k from below opened. absurd (omega arith) }

pub bands_on : (masks : ℕ → ℕ) (class start m n : ℕ) (g : Going) → AreBands masks class start m g → AreBands masks class start (m + n) (bands_from masks class m n g)
unfolding bands_from
bands_on masks class start m zero g are = let e : m ≡ m + zero = omega arith in subst (λ i. AreBands masks class start i g) e are
bands_on masks class start m (suc n) g are =
    let e : m + 1 + n ≡ m + suc n = omega arith in
    subst (λ i. AreBands masks class start i (bands_from masks class (m + 1) n (after (opens (masks m) class) m g))) e
    (bands_on masks class start (m + 1) n (after (opens (masks m) class) m g) (one_step masks class start m g (opens (masks m) class) refl are))

-- ---- of other masks that were the same before

module _ (old new : ℕ → ℕ) (class start m : ℕ) (same : (k : ℕ) → k < m → old k ≡ new k) where
  begin_same : (k : ℕ) → k ≤ m → MayBegin old class start k → MayBegin new class start k
  begin_same k l (inl e) = inl e
  begin_same k l (inr both) = inr (both.0, ap (λ x. opens x class) (sym (same (k - 1) (omega (arith, both.0)))) ∙ both.1)

  since_same : (from to : ℕ) → to ≤ m → IsOpenSince old class start from to → IsOpenSince new class start from to
  since_same from to l is = record {
    within = is.within;
    some = is.some;
    through = same_while new old class from (to - from) (λ n after below. sym (same n (omega (arith, is.some)))) ∙ is.through;
    begins = begin_same from (omega (arith, is.some)) is.begins;
  }

  longest_same : (bs : List Span) → AreLongest old class start m bs → AreLongest new class start m bs
  longest_same [] all = tt
  longest_same (b ∷ rest) all = (
    record {
      opened = since_same b.from b.to (omega (arith, all.0.before)) all.0.opened;
      ends = ap (λ x. opens x class) (sym (same b.to all.0.before)) ∙ all.0.ends;
      before = all.0.before;
    },
    longest_same rest all.1,
  )

  runs_same : (since : Option ℕ) → RunsSo old class start m since → RunsSo new class start m since
  runs_same None runs = begin_same m (le_refl m) runs
  runs_same (Some from) runs = since_same from m (le_refl m) runs

  pub bands_kept : (g : Going) → AreBands old class start m g → AreBands new class start m g
  bands_kept g are = record {
    onward = are.onward;
    runs = runs_same g.since are.runs;
    complete = longest_same g.bands are.complete;
    ordered = are.ordered;
    all = λ k from below opened. are.all k from below (ap (λ x. opens x class) (same k below) ∙ opened);
  }
