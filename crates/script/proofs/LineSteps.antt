-- The next line in hand, and a port that runs in the place of an abstract one.
pub use Rattle.script.specs.AnsweredAll.{StandsFor}
use Rattle.std.proofs.Common.{◌≡◌, ◌≤◌, ℕ, List, [], ◌∷◌, ◌++◌, map, drop, take, length, ◌<◌, ◌+◌, ◌-◌, Option, Some, None, Ok, true, refl, sym, ap, ◌∙◌, subst, arith}
use Rattle.std.proofs.lemmas.List.{append-nil, drop-drop, length-drop}
use Rattle.abstract_port.specs.declared.Event.TheVariants.{Arrive, Count, Install, Query}
use Rattle.text.specs.LineReader.{EndsLine, hand, lines_left, script_past}
use Rattle.text.specs.declared.line_reader.lines.TheConstants.{MAX_LINE_OCTETS}
use Rattle.text.specs.declared.line_reader.lines.LineReader.{LineReader}
use Rattle.text.proofs.LineRunLaws.{none_passed, one_passed, unended}
use Rattle.abstract_port.specs.Settled.{IsPossible, IsSettling}
use Rattle.script.specs.Told.{cause_of, told_answers, told_to}
use Rattle.script.specs.Words.{AbstractPort, Advances, Asks, Clock, Event, Gave, IsCommandInHand, IsSoundPort, NoCommand, Observed, Request, answers_to, end_lines, ending_text, lines_of, noted_after, noted_at, responses_to, script_left, seen_all, settled}
use Rattle.script.proofs.LeftLaws.{end-settled}
use Rattle.script.proofs.StartsLaws.{settled-sound}
use Rattle.summary.proofs.WantedLaws.{noted_after-one}

-- a line that stands whole in front of what is left in hand is the next one
pub next_in_hand : {R A : Type 0} (remaining : R → Option (List ℕ)) (lines : LineReader R A) (octets rest : List ℕ) (k n most left : ℕ) → rest ≡ drop k octets → octets ≡ hand lines → most ≡ lines_left lines
    → left ≤ most → 0 < left → EndsLine rest n → n ≤ MAX_LINE_OCTETS
    → Advances (script_past remaining lines rest (most - left)) (Ok true) (lines.breaks + (most - left) + 1) (take n rest) (script_past remaining lines (drop (n + 1) rest) (most - (left - 1)))
next_in_hand remaining lines octets rest k n most left front all count few some ends short =
    let there : 0 < length (drop k (hand lines)) = omega (arith, ends.within, ap length (front ∙ ap (drop k) all)) in
    let law = one_passed remaining lines rest (most - left) n (unended lines k there) ends short (omega (arith, count)) in
    subst (λ m. Advances (script_past remaining lines rest (most - left)) (Ok true) (lines.breaks + (most - left) + 1) (take n rest) (script_past remaining lines (drop (n + 1) rest) m)) (omega arith) law

-- a command that stands whole in hand is the next line
pub command_next : {R A : Type 0} (remaining : R → Option (List ℕ)) (lines : LineReader R A) (line : List ℕ) → IsCommandInHand lines line
    → Advances (script_left remaining lines) (Ok true) (lines.breaks + 0 + 1) line (script_past remaining lines (drop (length line + 1) (hand lines)) 1)
command_next remaining lines line here =
    let law = one_passed remaining lines (hand lines) 0 (length line) (unended lines 0 (omega (arith, here.ends.within))) here.ends here.short here.left in
    subst (λ s. Advances s (Ok true) (lines.breaks + 0 + 1) line (script_past remaining lines (drop (length line + 1) (hand lines)) 1)) (none_passed remaining lines)
    (subst (λ l. Advances (script_past remaining lines (hand lines) 0) (Ok true) (lines.breaks + 0 + 1) l (script_past remaining lines (drop (length line + 1) (hand lines)) 1)) (sym here.front) law)

-- octets end themselves
pub end_whole : (octets : List ℕ) → octets ≡ drop (length octets - length octets) octets
end_whole octets =
    let none : length octets - length octets ≡ 0 = omega arith in
    sym (ap (λ n. drop n octets) none)

-- octets that end others are no longer than they
pub end_within : (octets rest : List ℕ) → rest ≡ drop (length octets - length rest) octets → length rest ≤ length octets
end_within octets rest front = omega (arith, ap length front, length-drop (length octets - length rest) octets)

-- what comes behind the first of them ends these too
pub end_behind : (octets rest : List ℕ) (n : ℕ) → n ≤ length rest → rest ≡ drop (length octets - length rest) octets → drop n rest ≡ drop (length octets - length (drop n rest)) octets
end_behind octets rest n short front =
    let k = length octets - length rest in
    let within = end_within octets rest front in
    let at : k + n ≡ length octets - length (drop n rest) = omega (arith, length-drop n rest, within, short) in
    ap (drop n) front ∙ drop-drop n k octets ∙ ap (λ j. drop j octets) at

pub stands_for_itself : (q : AbstractPort) → IsSoundPort q → StandsFor q q
stands_for_itself q sound = record { same = sym (settled-sound q sound); possible = record { rising = sound.current.rising; past = sound.current.past }; sound = sound }

paced : (q p : AbstractPort) → StandsFor q p → 80 ≤ p.ps
paced q p s = let P : ℕ → Type 0 = λ n. 80 ≤ n in subst P (ap (λ x. x.ps) s.same) s.sound.rate

-- a port and the settled one lead a frame to the same class
cause-settled : (event : Event) (p : AbstractPort) → cause_of event (settled p) ≡ cause_of event p
cause-settled (Arrive frame) p = refl
cause-settled (Install command) p = refl
cause-settled (Clock until) p = refl
cause-settled Query p = refl
cause-settled (Count class) p = refl

module _ (law : IsSettling) (q p : AbstractPort) (s : StandsFor q p) where
  pub event-answers : (e : Event) → (answers_to e q).0 ≡ (answers_to e p).0
  event-answers e =
      ap (λ x. (answers_to e x).0) s.same
      ∙ (sym (append-nil (answers_to e (settled p)).0) ∙ (law p (paced q p s) s.possible (e ∷ [])).answers_same ∙ append-nil (answers_to e p).0)

  pub event-port : (e : Event) → settled (answers_to e q).1 ≡ settled (answers_to e p).1
  event-port e = ap (λ x. settled (answers_to e x).1) s.same ∙ (law p (paced q p s) s.possible (e ∷ [])).port_same

  event-possible : (e : Event) → IsPossible (answers_to e p).1.history (answers_to e p).1.now
  event-possible e = (law p (paced q p s) s.possible (e ∷ [])).current

  unchanged : settled q ≡ settled p
  unchanged = settled-sound q s.sound ∙ s.same

  same-port : (r : Request) → settled (responses_to r q).1 ≡ settled (responses_to r p).1
  same-port (Asks event) = event-port event
  same-port (NoCommand fault) = unchanged

  still-possible : (r : Request) → IsPossible (responses_to r p).1.history (responses_to r p).1.now
  still-possible (Asks event) = event-possible event
  still-possible (NoCommand fault) = s.possible

  event-seen : (e : Event) (o : Option Observed) → noted_at e q o ≡ noted_at e p o
  event-seen e (Some o) =
      ap (λ n. Some (seen_all n (answers_to e q).0 o)) (ap (λ x. x.now) s.same) ∙ ap (λ answers. Some (seen_all p.now answers o)) (event-answers e)
  event-seen e None = refl

  -- what is told of a request
  pub same-told : (r : Request) → told_to r q ≡ told_to r p
  same-told (Asks event) =
      ap (λ n. told_answers n (cause_of event q) (answers_to event q).0) (ap (λ x. x.now) s.same)
      ∙ ap (λ cause. told_answers p.now cause (answers_to event q).0) (ap (cause_of event) s.same ∙ cause-settled event p)
      ∙ ap (told_answers p.now (cause_of event p)) (event-answers event)
  same-told (NoCommand fault) = refl

  -- the port after a request
  pub stands-after : (r : Request) (q' : AbstractPort) → q' ≡ settled (responses_to r q).1 → IsSoundPort q' → StandsFor q' (responses_to r p).1
  stands-after r q' e sound = record { same = e ∙ same-port r; possible = still-possible r; sound = sound }

  -- the clock event after the lines, and what ends the output
  clocked : (m : ℕ) (o : Option Observed) → end_lines (answers_to (Clock m) q).1 (noted_after (Clock m ∷ []) q o) ≡ end_lines (answers_to (Clock m) p).1 (noted_after (Clock m ∷ []) p o)
  clocked m o =
      let e = Clock m in
      ap (λ n. end_lines (answers_to e q).1 n) (noted_after-one e q o ∙ event-seen e o ∙ sym (noted_after-one e p o))
      ∙ (sym (end-settled (answers_to e q).1 (noted_after (e ∷ []) p o))
      ∙ ap (λ x. end_lines x (noted_after (e ∷ []) p o)) (event-port e)
      ∙ end-settled (answers_to e p).1 (noted_after (e ∷ []) p o))

  pub same-ending : (until : Option ℕ) (o : Option Observed) → ending_text until q o ≡ ending_text until p o
  same-ending None (Some o) = ap (λ x. end_lines x (Some o)) s.same ∙ end-settled p (Some o)
  same-ending None None = ap (λ x. end_lines x None) s.same ∙ end-settled p None
  same-ending (Some m) o =
      ap (λ x. lines_of (map Gave x ++ []) ++ end_lines (answers_to (Clock m) q).1 (noted_after (Clock m ∷ []) q o)) (event-answers (Clock m))
      ∙ ap (λ x. lines_of (map Gave (answers_to (Clock m) p).0 ++ []) ++ x) (clocked m o)
