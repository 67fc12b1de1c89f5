-- A class that is kept apart sees nothing of the others.
use Rattle.std.proofs.Common.{◌≡◌, ◌<◌, ◌≤◌, ℕ, zero, suc, Bool, true, false, List, [], ◌∷◌, ◌++◌, map, get_or, replicate, Option, Some, None, inl, inr, refl, sym, ap, ◌∙◌, if◌then◌else◌, subst, arith}
use Rattle.std.proofs.lemmas.Bool.{cases_Bool, eqb-true, not-true, not-false, false≢true}
use Rattle.std.proofs.lemmas.List.{map-append}
use Rattle.std.proofs.lemmas.List.Elements.{filter-append}
use Rattle.abstract_port.specs.declared.Event.{Event}
use Rattle.abstract_port.specs.AbstractPort.{AbstractPort, new_port, class_for, queue_of}
use Rattle.abstract_port.specs.declared.Answer.{Answer}
use Rattle.abstract_port.specs.Answers.{answers_to}
use Rattle.abstract_port.specs.Separation.{Noted, note, noted, concerning, is_class, is_other, only, IsApartAt, IsKeptApart, IsNoting, IsSeparation}
use Rattle.abstract_port.proofs.Lockstep.{Rest, rest_of, with_rest, AreFit, IsLawful}
use Rattle.abstract_port.proofs.Steps.{AreHeld, Step, Skip, arrive_own, arrive_other, install_step, clock_step, query_step, count_step}
use Rattle.abstract_port.specs.declared.Event.TheVariants.{Arrive, Install, Clock, Query, Count}

class_is : (c : ℕ) (o : Option ℕ) → is_class c o ≡ true → o ≡ Some c
class_is c None e = absurd (false≢true e)
class_is c (Some d) e = ap Some (eqb-true d c e)

-- An event that is no other class's arrival gets the same answers for the class from ports that are alike for it.
pub step : (c : ℕ) (event : Event) (p : AbstractPort) (s : Rest) → c < 8 → AreHeld c p s → IsApartAt c event p → is_other c event p ≡ false → Step c event p s
step c (Arrive f) p s lc h k o = let e = class_is c (class_for p f.priority) (not-false _ o) in arrive_own c f p s h e (k e)
step c (Install b) p s lc h k o = install_step c b p s h k
step c (Clock m) p s lc h k o = clock_step c m p s lc h
step c Query p s lc h k o = query_step c p s h
step c (Count n) p s lc h k o = count_step c n p s h

-- Another class's arrival gives the class nothing, and ports that are alike for it stay so.
pub skip : (c : ℕ) (event : Event) (p : AbstractPort) (s : Rest) → AreHeld c p s → is_other c event p ≡ true → Skip c event p s
skip c (Arrive f) p s h o = arrive_other c f p s h (not-true _ o)
skip c (Install b) p s h o = absurd (false≢true o)
skip c (Clock m) p s h o = absurd (false≢true o)
skip c Query p s h o = absurd (false≢true o)
skip c (Count n) p s h o = absurd (false≢true o)

-- ---- a list of events

abbrev after_answers : ℕ → Event → List Event → AbstractPort → List Answer × AbstractPort → List Noted
after_answers c event rest p a = concerning c (map (note event p) a.0 ++ noted rest a.1)

-- the list without the other classes' arrivals, where the first is left out or not
abbrev only_with : ℕ → Event → List Event → Bool → AbstractPort → List Event
only_with c event rest b after = let later = only c rest after in if b then later else event ∷ later

-- What concerns a class that is kept apart is what concerns it without the other classes' arrivals, from ports that are alike for it.
pub separates : (c : ℕ) (events : List Event) (p : AbstractPort) (s : Rest) → c < 8 → AreHeld c p s → IsKeptApart c events p → concerning c (noted events p) ≡ concerning c (noted (only c events p) (with_rest p s))
separates c [] p s lc h k = refl
separates c (event ∷ rest) p s lc h k =
    elim (cases_Bool (is_other c event p)) [
      | inl t ↦
          let w = skip c event p s h t in
          let k' = subst (λ a. IsKeptApart c rest a.1) w.one k.1 in
          without c event rest p s t w (separates c rest w.after s lc w.held k')
      | inr f ↦
          let w = step c event p s lc h k.0 f in
          let k' = subst (λ a. IsKeptApart c rest a.1) w.one k.1 in
          with_it c event rest p s f w (separates c rest w.after w.rest lc w.held k')
    ]
  where
    without : (c : ℕ) (event : Event) (rest : List Event) (p : AbstractPort) (s : Rest) → is_other c event p ≡ true → (w : Skip c event p s)
        → concerning c (noted rest w.after) ≡ concerning c (noted (only c rest w.after) (with_rest w.after s))
        → concerning c (noted (event ∷ rest) p) ≡ concerning c (noted (only c (event ∷ rest) p) (with_rest p s))
    without c event rest p s t w ih =
        ap (after_answers c event rest p) w.one
        ∙ (filter-append (λ n. is_class c n.class) (map (note event p) w.given) (noted rest w.after)
        ∙ (ap (λ x. x ++ concerning c (noted rest w.after)) w.silent
        ∙ (ih
        ∙ (ap (λ q. concerning c (noted (only c rest w.after) q)) w.stays
        ∙ (sym (ap (λ a. concerning c (noted (only c rest a.1) (with_rest p s))) w.one)
        ∙ sym (ap (λ b. concerning c (noted (only_with c event rest b (answers_to event p).1) (with_rest p s))) t))))))

    with_it : (c : ℕ) (event : Event) (rest : List Event) (p : AbstractPort) (s : Rest) → is_other c event p ≡ false → (w : Step c event p s)
        → concerning c (noted rest w.after) ≡ concerning c (noted (only c rest w.after) (with_rest w.after w.rest))
        → concerning c (noted (event ∷ rest) p) ≡ concerning c (noted (only c (event ∷ rest) p) (with_rest p s))
    with_it c event rest p s f w ih =
        ap (after_answers c event rest p) w.one
        ∙ (filter-append (λ n. is_class c n.class) (map (note event p) w.given) (noted rest w.after)
        ∙ (ap (λ x. x ++ concerning c (noted rest w.after)) w.same
        ∙ (ap (λ x. concerning c (map (note event (with_rest p s)) w.other) ++ x) ih
        ∙ (sym (filter-append (λ n. is_class c n.class) (map (note event (with_rest p s)) w.other) (noted (only c rest w.after) (with_rest w.after w.rest)))
        ∙ (sym (ap (after_answers c event (only c rest w.after) (with_rest p s)) w.two)
        ∙ (sym (ap (λ a. concerning c (noted (event ∷ only c rest a.1) (with_rest p s))) w.one)
        ∙ sym (ap (λ b. concerning c (noted (only_with c event rest b (answers_to event p).1) (with_rest p s))) f)))))))

-- ---- a new port

-- a list of one value shows that value everywhere, where it stands for what is missing too
pub index_replicate : {X : Type 0} (x : X) (n k : ℕ) → get_or (replicate n x) k x ≡ x
index_replicate x zero k = refl
index_replicate x (suc n) zero = refl
index_replicate x (suc n) (suc k) = index_replicate x n k

pub no_queue : (class : ℕ) → queue_of (new_port 80 68 1) class ≡ []
no_queue class = index_replicate [] 8 class

-- what holds of every new port
pub new_lawful : (ps mtu room c : ℕ) → 80 ≤ ps → 68 ≤ mtu → c < 8 → IsLawful c (new_port ps mtu room)
new_lawful ps mtu room c rate large lc = record {
  rate = rate;
  mtu = large;
  wire = omega arith;
  fits = λ d. subst (AreFit ps mtu) (sym (no_queue d)) tt;
  apart = tt;
  waits = λ n. no_queue c;
  queued = lc;
  counted = lc;
}

-- the law of separation
pub separation : IsSeparation
separation ps mtu room c rate large lc events k =
    let p = new_port ps mtu room in
    let l = new_lawful ps mtu room c rate large lc in
    separates c events p (rest_of p) lc
    (record { lawful = l; lawful_other = l; alike = record { queue = refl; counts = refl; wire = λ m le f o. (λ x. x, λ x. x) } })
    k

note_answers : (event : Event) (p : AbstractPort) (xs : List Answer) → map (λ n. n.answer) (map (note event p) xs) ≡ xs
note_answers event p [] = refl
note_answers event p (x ∷ xs) = ap (λ r. x ∷ r) (note_answers event p xs)

-- the law that what is noted are the answers
pub noting : IsNoting
noting [] p = refl
noting (event ∷ rest) p =
    let a = answers_to event p in
    map-append (λ (n : Noted). n.answer) (map (note event p) a.0) (noted rest a.1)
    ∙ (ap (λ x. x ++ map (λ n. n.answer) (noted rest a.1)) (note_answers event p a.0)
    ∙ ap (λ x. a.0 ++ x) (noting rest a.1))
