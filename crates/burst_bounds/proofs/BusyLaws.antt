-- The longest wait and the most that wait at once, frame by frame.
use Rattle.std.proofs.Common.{◌≡◌, ◌<◌, ◌≤◌, ℕ, ◌+◌, ◌-◌, max, List, length, get_or, inl, inr, subst, arith}
use Rattle.std.proofs.lemmas.Bool.{cases_lt}
use Rattle.burst_bounds.specs.Busy.{IsLongest, IsMost}

module _ (from : ℕ) (slots moments : List ℕ) where
  abbrev slot : ℕ → ℕ
  slot i = get_or slots i 0

  abbrev come : ℕ → ℕ
  come i = from + get_or moments i 0

  -- one frame more
  pub longer : (i wait next : ℕ) → IsLongest from slots moments i wait → next ≡ max (slot i - come i) wait
      → IsLongest from slots moments (i + 1) next
  longer i wait next h is = record {
    within = λ j less. elim (cases_lt j i) [
      | inl before ↦ (let w = h.within j before in omega (arith, w, is))
      | inr at ↦ subst (λ k. slot k ≤ come k + next) (let e : i ≡ j = omega (arith, at, less) in e) (omega (arith, is))
    ];
    reached = elim (cases_lt wait (slot i - come i)) [
      | inl more ↦ inr (i, omega arith, omega (arith, more, is))
      | inr less ↦ elim h.reached [
        | inl none ↦ inl (omega (arith, none, less, is))
        | inr one ↦ (let at = one.2 in let in_front = one.1 in inr (one.0, omega (arith, in_front), omega (arith, at, less, is)))
      ]
    ];
  }

  -- the same for the most that wait at once, where so many slots are before the frame comes
  pub more_waiting : (i most begun next : ℕ) → IsMost from slots moments i most → i < length slots
      → ((n : ℕ) → n < begun → slot n < come i) → (begun < length slots → come i ≤ slot begun)
      → next ≡ max (i + 1 - begun) most → IsMost from slots moments (i + 1) next
  more_waiting i most begun next h less before at is = record {
    within = λ j n inside listed waits. elim (cases_lt j i) [
      | inl front ↦ (let w = h.within j n front listed waits in omega (arith, w, is))
      | inr here ↦
          let same : i ≡ j = omega (arith, here, inside) in
          elim (cases_lt n begun) [
            | inl early ↦
                let b = before n early in
                let w = subst (λ k. come k ≤ slot n) (let e : j ≡ i = omega (arith, same) in e) waits in
                absurd (omega (arith, b, w))
            | inr late ↦ omega (arith, late, is, same)
          ]
    ];
    reached = elim (cases_lt most (i + 1 - begun)) [
      | inl more ↦ inr (i, begun, omega arith, omega (arith, more, less), at (omega (arith, more, less)), omega (arith, more, is))
      | inr fewer ↦ elim h.reached [
        | inl none ↦ inl (omega (arith, none, fewer, is))
        | inr one ↦
            let in_front = one.2 in
            let sum = one.5 in
            inr (one.0, one.1, omega (arith, in_front), one.3, one.4, omega (arith, sum, fewer, is))
      ]
    ];
  }
