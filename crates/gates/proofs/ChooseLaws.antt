-- The greatest class that may start, among those that wait and are open now.
use Rattle.std.proofs.Common.{◌≡◌, ◌<◌, ◌≤◌, ℕ, zero, suc, Bool, ◌&&◌, inl, inr, List, Option, Some, None, is_some, true, false, refl, sym, ap, ◌∙◌, subst, arith, le_refl}
use Rattle.std.specs.Prelude.{slice_index_or}
use Rattle.std.specs.Int.Bits.{bit_and}
use Rattle.std.proofs.lemmas.Bool.{cases_eq, false≢true, false_from_ne_true}
use Rattle.gates.specs.Gate.{opens}
use Rattle.gates.proofs.OpenLaws.{open_at}
use Rattle.gates.proofs.TableLaws.{opens_both, opens_none}
use Rattle.gates.specs.History.{Accepted, gates, open_through}
use Rattle.gates.specs.Choice.{may_start, may_go, greatest_below, first_choice}
use Rattle.gates.proofs.ChoiceLaws.{greatest_below-pass, greatest_below-fail, greatest_below-none}

-- what passes is chosen where nothing above it does
greatest_below-top : (n : ℕ) (pass : ℕ → Bool) (k : ℕ) → k < n → pass k ≡ true → ((j : ℕ) → k < j → j < n → pass j ≡ false) → greatest_below n pass ≡ Some k
greatest_below-top zero pass k l here above = absurd (omega arith)
greatest_below-top (suc n) pass k l here above =
    elim (cases_eq n k) [
      | inl same ↦ greatest_below-pass n pass (subst (λ j. pass j ≡ true) (sym same) here) ∙ ap (λ j. Some j) same
      | inr apart ↦
          greatest_below-fail n pass (above n (omega (arith, apart)) (omega arith))
          ∙ greatest_below-top n pass k (omega (arith, apart)) here (λ j more less. above j more (omega (arith, less)))
    ]

module _ (h : List Accepted) (m : ℕ) (needs : List (Option ℕ)) where
  -- the mask has each class that may start, and classes alone in which a frame waits
  pub record AreLeft (left : ℕ) : Type 0 where
    pub starts : (class : ℕ) → class < 8 → may_go h m needs class ≡ true → opens left class ≡ true
    pub waits : (class : ℕ) → class < 8 → opens left class ≡ true → is_some (slice_index_or needs class None) ≡ true

  -- those that wait and are open now
  pub left_first : (waits mask : ℕ) → ((class : ℕ) → class < 8 → opens waits class ≡ is_some (slice_index_or needs class None)) → ((class d : ℕ) → slice_index_or needs class None ≡ Some d → 0 < d) → mask ≡ gates h m → AreLeft (bit_and waits mask)
  left_first waits mask marks some is = record {
    starts = λ class low go. opens_both waits mask class ∙ both class low go;
    waits = λ class low on. sym (marks class low) ∙ first _ _ (sym (opens_both waits mask class) ∙ on);
  }
    where
      first : (a b : Bool) → (a && b) ≡ true → a ≡ true
      first true b on = refl
      first false b on = on

      open_now : (class : ℕ) → (need : Option ℕ) → slice_index_or needs class None ≡ need → may_start h m class need ≡ true → (is_some need ≡ true) × (opens mask class ≡ true)
      open_now class None at go = absurd (false≢true go)
      open_now class (Some d) at go = (refl, ap (λ k. opens k class) is ∙ open_at (gates h) class m d go m (le_refl m) (let above = some class d at in omega (arith, above)))

      both : (class : ℕ) → class < 8 → may_go h m needs class ≡ true → (opens waits class && opens mask class) ≡ true
      both class low go =
          let now = open_now class (slice_index_or needs class None) refl go in
          ap (λ a. a && opens mask class) (marks class low ∙ now.0) ∙ now.1

  -- what is asked of a class that waits
  pub asked_is : (class need : ℕ) → is_some (slice_index_or needs class None) ≡ true → ((d : ℕ) → slice_index_or needs class None ≡ Some d → need ≡ d) → may_go h m needs class ≡ open_through h class m need
  asked_is class need waits is = by (slice_index_or needs class None) refl waits
    where
      by : (o : Option ℕ) → slice_index_or needs class None ≡ o → is_some o ≡ true → may_start h m class o ≡ open_through h class m need
      by None at some = absurd (false≢true some)
      by (Some d) at some = ap (λ n. open_through h class m n) (sym (is d at))

  module _ (left : ℕ) (among : AreLeft left) where
    -- one fewer
    pub left_fewer : (class fewer : ℕ) → may_go h m needs class ≡ false → opens fewer class ≡ false → ((other : ℕ) → other < 8 → (other ≡ class → ⊥) → opens fewer other ≡ opens left other) → AreLeft fewer
    left_fewer class fewer shut gone others = record {
      starts = λ k low go. others k low (λ same. false≢true (sym shut ∙ subst (λ j. may_go h m needs j ≡ true) same go)) ∙ among.starts k low go;
      waits = λ k low on. among.waits k low (sym (others k low (λ same. false≢true (sym gone ∙ subst (λ j. opens fewer j ≡ true) same on))) ∙ on);
    }

    pub chosen_top : (class : ℕ) → class < 8 → may_go h m needs class ≡ true → ((other : ℕ) → opens left other ≡ true → other ≤ class) → first_choice h m needs ≡ Some class
    chosen_top class low go highest =
        greatest_below-top 8 (may_go h m needs) class low go (λ j above below. false_from_ne_true (may_go h m needs j) (λ other. let most = highest j (among.starts j below other) in omega (arith, most, above)))

    pub none_left : left ≡ 0 → first_choice h m needs ≡ None
    none_left none =
        greatest_below-none 8 (may_go h m needs) (λ j low. false_from_ne_true (may_go h m needs j) (λ go. false≢true (sym (opens_none j) ∙ (ap (λ k. opens k j) (sym none) ∙ among.starts j low go))))

-- no frame waits
pub none_waits : (h : List Accepted) (m : ℕ) (needs : List (Option ℕ)) → ((class : ℕ) → class < 8 → is_some (slice_index_or needs class None) ≡ false) → first_choice h m needs ≡ None
none_waits h m needs none = greatest_below-none 8 (may_go h m needs) (λ class low. by class (slice_index_or needs class None) (none class low))
  where
    by : (class : ℕ) (need : Option ℕ) → is_some need ≡ false → may_start h m class need ≡ false
    by class None shut = refl
    by class (Some d) shut = absurd (false≢true (sym shut))
