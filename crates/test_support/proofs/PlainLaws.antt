-- Laws of what is kept of a list of commands, and of gates that are looked at picosecond by picosecond.
use Rattle.std.proofs.Common.{◌≡◌, ◌<◌, ◌≤◌, ℕ, zero, suc, ◌+◌, Bool, true, false, cond, ◌&&◌, ◌-◌, drop, length, slice_get, ltb, is_none, List, Option, Some, None, [], ◌∷◌, ◌++◌, ◌==◌, map, refl, sym, ap, ◌∙◌, subst, arith, le_refl, inl, inr}
use Rattle.std.proofs.lemmas.Bool.{cases_lt, false≢true, false_from_ne_true, le-leb, le-ltb, lt-ltb}
use Rattle.std.proofs.lemmas.Option.{same_Some}
use Rattle.gates.specs.declared.gate_list.Entry.{Entry}
use Rattle.gates.specs.Gate.{in_ps, mask_at, opens}
use Rattle.gates.specs.Open.{open_while}
use Rattle.gates.proofs.OpenLaws.{open_at, open_from}
use Rattle.std.specs.Option.{option_or}
use Rattle.gates.specs.History.{Accepted, announced, cons_some, gates, in_force, is_in_time, kept, last, latest, only_if, pending, three, IsRising, IsSound}
use Rattle.wire_time.specs.Moment.{greatest_moment}
use Rattle.gates.specs.Current.{IsCurrent, IsSteady}
use Rattle.gates.proofs.HistoryLaws.{append_kept, append_past, append_rising, kept_kept, kept_past, kept_rising, past_later, force_ahead, latest_ahead, latest_come, option_or_hides}
use Rattle.test_support.specs.Plain.{AreSound, accepted_in, counts, has_none}
use Rattle.test_support.specs.declared.reference.accepted.RecordedCommand.{RecordedCommand}
use Rattle.std.specs.List.{remove}

-- ---- what is kept of a list, command by command

pub sound_of : (e : ℕ) (h : List Accepted) → IsRising e h → AreSound h
sound_of e [] s = tt
sound_of e (a ∷ rest) s = ((s.1).timely, sound_of a.lead rest s.2)

-- where no lead moment has come, no command is in force
none_in_force : (h : List Accepted) (m : ℕ) → AreSound h → latest h m ≡ None → in_force h m ≡ None
none_in_force [] m s e = refl
none_in_force (a ∷ rest) m s e =
    elim (cases_lt m a.lead) [
      | inl ahead ↦
          (let timely = s.0 in
          force_ahead a rest m (omega arith) ∙ none_in_force rest m s.1 (sym (latest_ahead a rest m ahead) ∙ e))
      | inr come ↦ absurd (some (latest rest m) (sym (latest_come a rest m come) ∙ e))
    ]
  where
    some : (x : Option Accepted) → option_or x (Some a) ≡ None → ⊥
    some None e = cc
    some (Some b) e = cc

-- a command that another follows is not the last
followed : (a : Accepted) (rest : List Accepted) (m : ℕ) → a.lead ≤ m → announced (a ∷ rest) m ≡ announced rest m
followed a [] m come = ap (λ b. cond b (Some a) None) (le-ltb m a.lead come)
followed a (b ∷ rest) m come = ap (only_if (λ k. ltb m k.lead)) (option_or_hides (last rest) b (Some a))

module _ (a : Accepted) (rest : List Accepted) (m : ℕ) (s : AreSound (a ∷ rest)) where
  pub kept_ahead : m < a.lead → kept (a ∷ rest) m ≡ cond (has_none rest) (a ∷ kept rest m) (kept rest m)
  kept_ahead ahead =
      ap (λ f. three f (pending (a ∷ rest) m) (announced (a ∷ rest) m)) (force_ahead a rest m (let timely = s.0 in omega arith))
      ∙ (ap (λ p. three (in_force rest m) (only_if (λ k. ltb m k.change) p) (announced (a ∷ rest) m)) (latest_ahead a rest m ahead)
      ∙ by rest)
    where
      by : (r : List Accepted) → three (in_force r m) (pending r m) (announced (a ∷ r) m) ≡ cond (has_none r) (a ∷ kept r m) (kept r m)
      by [] = ap (λ b. cons_some (cond b (Some a) None) []) (lt-ltb m a.lead ahead)
      by (b ∷ r) = ap (λ x. three (in_force (b ∷ r) m) (pending (b ∷ r) m) (only_if (λ k. ltb m k.lead) x)) (option_or_hides (last r) b (Some a))

  pub kept_waiting : a.lead ≤ m → m < a.change → kept (a ∷ rest) m ≡ cond (is_none (latest rest m)) (a ∷ kept rest m) (kept rest m)
  kept_waiting come waits =
      ap (λ f. three f (pending (a ∷ rest) m) (announced (a ∷ rest) m)) (force_ahead a rest m waits)
      ∙ (ap (λ p. three (in_force rest m) (only_if (λ k. ltb m k.change) p) (announced (a ∷ rest) m)) (latest_come a rest m come)
      ∙ (ap (λ x. three (in_force rest m) (only_if (λ k. ltb m k.change) (option_or (latest rest m) (Some a))) x) (followed a rest m come)
      ∙ by (latest rest m) refl))
    where
      by : (p : Option Accepted) → latest rest m ≡ p → three (in_force rest m) (only_if (λ k. ltb m k.change) (option_or p (Some a))) (announced rest m) ≡ cond (is_none p) (a ∷ three (in_force rest m) (only_if (λ k. ltb m k.change) p) (announced rest m)) (three (in_force rest m) (only_if (λ k. ltb m k.change) p) (announced rest m))
      by (Some p) e = refl
      by None e =
          ap (λ b. three (in_force rest m) (cond b (Some a) None) (announced rest m)) (lt-ltb m a.change waits)
          ∙ (ap (λ f. three f (Some a) (announced rest m)) (none_in_force rest m s.1 e)
          ∙ ap (λ f. a ∷ three f None (announced rest m)) (sym (none_in_force rest m s.1 e)))

  pub kept_begun : a.change ≤ m → kept (a ∷ rest) m ≡ cond (is_none (in_force rest m) && is_in_time a rest) (a ∷ kept rest m) (kept rest m)
  kept_begun begun =
      (let timely = s.0 in
      ap (λ p. three (in_force (a ∷ rest) m) (only_if (λ k. ltb m k.change) p) (announced (a ∷ rest) m)) (latest_come a rest m (omega arith))
      ∙ (ap (λ p. three (in_force (a ∷ rest) m) p (announced (a ∷ rest) m)) (no_more (latest rest m))
      ∙ (ap (λ x. three (in_force (a ∷ rest) m) (pending rest m) x) (followed a rest m (omega arith))
      ∙ (ap (λ t. three (option_or (in_force rest m) (cond (t && is_in_time a rest) (Some a) None)) (pending rest m) (announced rest m)) (le-leb a.change m begun)
      ∙ by (in_force rest m) (is_in_time a rest)))))
    where
      no_more : (p : Option Accepted) → only_if (λ k. ltb m k.change) (option_or p (Some a)) ≡ only_if (λ k. ltb m k.change) p
      no_more (Some p) = refl
      no_more None = ap (λ b. cond b (Some a) None) (le-ltb m a.change begun)

      by : (f : Option Accepted) (t : Bool) → three (option_or f (cond t (Some a) None)) (pending rest m) (announced rest m) ≡ cond (is_none f && t) (a ∷ three f (pending rest m) (announced rest m)) (three f (pending rest m) (announced rest m))
      by (Some f) t = refl
      by None true = refl
      by None false = refl

pub open_none : (f : ℕ → ℕ) (class s : ℕ) → open_while f class s 0 ≡ true
unfolding open_while
open_none f class s = refl

pub open_more : (f : ℕ → ℕ) (class s d : ℕ) → open_while f class s d ≡ true → opens (f (s + d)) class ≡ true → open_while f class s (d + 1) ≡ true
open_more f class s d before here = open_from f class s (d + 1) (λ n from below.
    elim (cases_lt n (s + d)) [
      | inl early ↦ open_at f class s d before n from early
      | inr late ↦ subst (λ k. opens (f k) class ≡ true) (let e : s + d ≡ n = omega arith in e) here
    ])

pub open_stops : (f : ℕ → ℕ) (class s i d : ℕ) → i < d → opens (f (s + i)) class ≡ false → open_while f class s d ≡ false
open_stops f class s i d below shut =
    false_from_ne_true (open_while f class s d) (λ all. false≢true (sym shut ∙ open_at f class s d all (s + i) (omega arith) (omega arith)))

pub steady_none : (h : List Accepted) (m : ℕ) → IsSteady h m (m + 1)
steady_none h m n from below = let e : n ≡ m = omega arith in ap (gates h) e

pub steady_more : (h : List Accepted) (m n : ℕ) → IsSteady h m n → gates h n ≡ gates h m → IsSteady h m (n + 1)
steady_more h m n s e k from below =
    elim (cases_lt k n) [
      | inl early ↦ s k from early
      | inr late ↦ (let same : k ≡ n = omega arith in ap (gates h) same ∙ e)
    ]

pub steady_less : (h : List Accepted) (m n k : ℕ) → IsSteady h m n → k ≤ n → IsSteady h m k
steady_less h m n k s l i from below = s i from (omega arith)

-- without a command all classes are open, and nothing changes
opens_all : (class : ℕ) → class < 8 → opens 255 class ≡ true
opens_all zero l = refl
opens_all (suc zero) l = refl
opens_all (suc (suc zero)) l = refl
opens_all (suc (suc (suc zero))) l = refl
opens_all (suc (suc (suc (suc zero)))) l = refl
opens_all (suc (suc (suc (suc (suc zero))))) l = refl
opens_all (suc (suc (suc (suc (suc (suc zero)))))) l = refl
opens_all (suc (suc (suc (suc (suc (suc (suc zero))))))) l = refl
opens_all (suc (suc (suc (suc (suc (suc (suc (suc k)))))))) l = absurd (omega arith)

open_all : (class s d : ℕ) → class < 8 → open_while (gates []) class s d ≡ true
unfolding open_while
open_all class s zero l = refl
open_all class s (suc d) l = rw (opens_all class l) (open_all class (s + 1) d l)

pub open_idle : (h : List Accepted) (class s d : ℕ) → h ≡ [] → class < 8 → open_while (gates h) class s d ≡ true
open_idle h class s d none l = ap (λ x. open_while (gates x) class s d) none ∙ open_all class s d l

pub steady_idle : (h : List Accepted) (m n : ℕ) → h ≡ [] → IsSteady h m n
steady_idle h m n none = λ k from upto. ap (λ x. gates x k) none ∙ ap (λ x. gates x m) (sym none)

-- ---- a list, entry after entry

drop_more : (d : Entry) (es : List Entry) (i : ℕ) → drop (i + 1) es ≡ drop (suc i + 1) (d ∷ es)
drop_more d es i = let e : suc i + 1 ≡ suc (i + 1) = omega arith in ap (λ k. drop k (d ∷ es)) (sym e)

pub mask_step : (es : List Entry) (i p : ℕ) (e : Entry) → slice_get es i ≡ Some e → i + 1 < length es → mask_at (drop i es) p ≡ cond (ltb p (in_ps e.interval)) e.mask (mask_at (drop (i + 1) es) (p - in_ps e.interval))
mask_step [] i p e there more = absurd (omega arith)
mask_step (d ∷ []) i p e there more = absurd (omega arith)
mask_step (d ∷ f ∷ es) zero p e there more = ap (λ (k : Entry). cond (ltb p (in_ps k.interval)) k.mask (mask_at (f ∷ es) (p - in_ps k.interval))) (same_Some d e there)
mask_step (d ∷ f ∷ es) (suc i) p e there more =
    mask_step (f ∷ es) i p e there (omega arith)
    ∙ ap (λ k. cond (ltb p (in_ps e.interval)) e.mask (mask_at k (p - in_ps e.interval))) (drop_more d (f ∷ es) i)

pub mask_end : (es : List Entry) (i p : ℕ) (e : Entry) → slice_get es i ≡ Some e → i + 1 ≡ length es → mask_at (drop i es) p ≡ e.mask
mask_end [] i p e there last = absurd (omega arith)
mask_end (d ∷ []) zero p e there last = ap (λ (k : Entry). k.mask) (same_Some d e there)
mask_end (d ∷ []) (suc i) p e there last = absurd (omega arith)
mask_end (d ∷ f ∷ es) zero p e there last = absurd (omega arith)
mask_end (d ∷ f ∷ es) (suc i) p e there last = mask_end (f ∷ es) i p e there (omega arith)

-- one command of a list less, by whether it counts
pub kept_step : (a : Accepted) (rest : List Accepted) (m : ℕ) → AreSound (a ∷ rest) → kept (a ∷ rest) m ≡ cond (counts a rest m) (a ∷ kept rest m) (kept rest m)
kept_step a rest m s =
    elim (cases_lt m a.lead) [
      | inl ahead ↦
          kept_ahead a rest m s ahead
          ∙ ap (λ b. cond (cond b (has_none rest) (cond (ltb m a.change) (is_none (latest rest m)) (is_none (in_force rest m) && is_in_time a rest))) (a ∷ kept rest m) (kept rest m)) (sym (lt-ltb m a.lead ahead))
      | inr come ↦ elim (cases_lt m a.change) [
        | inl waits ↦
            kept_waiting a rest m s come waits
            ∙ (ap (λ b. cond (cond b (is_none (latest rest m)) (is_none (in_force rest m) && is_in_time a rest)) (a ∷ kept rest m) (kept rest m)) (sym (lt-ltb m a.change waits))
            ∙ ap (λ b. cond (cond b (has_none rest) (cond (ltb m a.change) (is_none (latest rest m)) (is_none (in_force rest m) && is_in_time a rest))) (a ∷ kept rest m) (kept rest m)) (sym (le-ltb m a.lead come)))
        | inr begun ↦
            kept_begun a rest m s begun
            ∙ (ap (λ b. cond (cond b (is_none (latest rest m)) (is_none (in_force rest m) && is_in_time a rest)) (a ∷ kept rest m) (kept rest m)) (sym (le-ltb m a.change begun))
            ∙ ap (λ b. cond (cond b (has_none rest) (cond (ltb m a.change) (is_none (latest rest m)) (is_none (in_force rest m) && is_in_time a rest))) (a ∷ kept rest m) (kept rest m)) (sym (le-ltb m a.lead come)))
      ]
    ]

-- ---- the list command by command

pub first_of : (h : List RecordedCommand) (a : RecordedCommand) (rest : List RecordedCommand) → slice_get h 0 ≡ Some a → rest ≡ remove h 0 → h ≡ a ∷ rest
first_of [] a rest there is = cc
first_of (b ∷ h) a rest there is = ap (λ x. x ∷ h) (same_Some b a there) ∙ ap (λ r. a ∷ r) (sym is)

push_map : (done : List RecordedCommand) (a : RecordedCommand) (r : List Accepted) → map accepted_in (done ++ a ∷ []) ++ r ≡ map accepted_in done ++ (accepted_in a ∷ r)
push_map [] a r = refl
push_map (d ∷ done) a r = ap (λ k. accepted_in d ∷ k) (push_map done a r)

module _ (m : ℕ) (done : List RecordedCommand) (a : RecordedCommand) (rest h : List RecordedCommand) (is : h ≡ a ∷ rest) (sound : AreSound (map accepted_in (a ∷ rest))) where
  pub told_more : counts (accepted_in a) (map accepted_in rest) m ≡ true → (all : List Accepted) → map accepted_in done ++ kept (map accepted_in h) m ≡ all → (new : List RecordedCommand) → new ≡ done ++ a ∷ [] → map accepted_in new ++ kept (map accepted_in rest) m ≡ all
  told_more counted all told new made =
      ap (λ n. map accepted_in n ++ kept (map accepted_in rest) m) made
      ∙ (push_map done a (kept (map accepted_in rest) m)
      ∙ (sym (ap (λ k. map accepted_in done ++ kept (map accepted_in k) m) is ∙ ap (λ k. map accepted_in done ++ k) (kept_step (accepted_in a) (map accepted_in rest) m sound ∙ ap (λ b. cond b (accepted_in a ∷ kept (map accepted_in rest) m) (kept (map accepted_in rest) m)) counted))
      ∙ told))

  pub told_less : counts (accepted_in a) (map accepted_in rest) m ≡ false → (all : List Accepted) → map accepted_in done ++ kept (map accepted_in h) m ≡ all → map accepted_in done ++ kept (map accepted_in rest) m ≡ all
  told_less counted all told =
      sym (ap (λ k. map accepted_in done ++ kept (map accepted_in k) m) is ∙ ap (λ k. map accepted_in done ++ k) (kept_step (accepted_in a) (map accepted_in rest) m sound ∙ ap (λ b. cond b (accepted_in a ∷ kept (map accepted_in rest) m) (kept (map accepted_in rest) m)) counted))
      ∙ told

-- ---- the history of a value

pub begun_empty : IsCurrent [] 0
begun_empty = record { within = omega arith; rising = tt; past = tt; kept_whole = refl }

-- what is kept at a later moment is a history of then
pub current_later : (h : List Accepted) (m t : ℕ) → IsCurrent h m → m ≤ t → t ≤ greatest_moment → IsCurrent (kept h t) t
current_later h m t c l within =
    let past = past_later m t h l c.past in
    record {
      within = within;
      rising = kept_rising 0 t h c.rising past;
      past = kept_past 0 t h c.rising past;
      kept_whole = kept_kept 0 t h c.rising past t (le_refl t);
    }

-- and so is a history with a new command, where none is announced
pub current_more : (h : List Accepted) (m : ℕ) (x : Accepted) → IsCurrent h m → announced h m ≡ None → m < x.lead → IsSound x → IsCurrent (h ++ x ∷ []) m
current_more h m x c free ahead sound = record {
  within = c.within;
  rising = append_rising 0 m h c.rising c.past free x (omega arith) ahead sound;
  past = append_past 0 m h c.rising c.past free x (omega arith) ahead sound;
  kept_whole = append_kept 0 m h c.rising c.past free x (omega arith) ahead sound ∙ ap (λ k. k ++ x ∷ []) c.kept_whole;
}

three_at_most : (f p : Option Accepted) → length (three f p None) < 3
three_at_most None None = omega arith
three_at_most None (Some p) = omega arith
three_at_most (Some f) None = omega arith
three_at_most (Some f) (Some p) = omega arith

-- where none is announced, there is room for one more
pub room_for_one : (h : List Accepted) (m : ℕ) → IsCurrent h m → announced h m ≡ None → length h < 3
room_for_one h m c free =
    subst (λ k. length k < 3) (ap (λ x. three (in_force h m) (pending h m) x) (sym free) ∙ c.kept_whole) (three_at_most (in_force h m) (pending h m))

pub none_left : (xs : List RecordedCommand) → (length xs == 0) ≡ true → map accepted_in xs ≡ []
none_left [] e = refl
none_left (x ∷ xs) e = absurd (grind (arith, e))

pub more_map : (done : List RecordedCommand) (a : RecordedCommand) → map accepted_in (done ++ a ∷ []) ≡ map accepted_in done ++ accepted_in a ∷ []
more_map [] a = refl
more_map (d ∷ done) a = ap (λ k. accepted_in d ∷ k) (more_map done a)
