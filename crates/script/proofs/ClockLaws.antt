-- One start more of a clock event, or its last.
use Rattle.std.proofs.Common.{◌≡◌, ◌≤◌, ◌<◌, ℕ, [], Option, Some, None, false, ◌||◌, ltb, refl, sym, ◌∙◌, subst}
use Rattle.std.proofs.lemmas.Bool.{le-ltb}
use Rattle.script.specs.Words.{greatest_moment, AbstractPort, settled, answers_to, IsSoundPort, Clock}
use Rattle.abstract_port.specs.AbstractPort.{next_start}
use Rattle.abstract_port.specs.Asked.{Gives}
use Rattle.abstract_port.specs.declared.Answer.TheVariants as Answered
use Rattle.abstract_port.specs.declared.Start.{Start}
use Rattle.abstract_port.proofs.AskedLaws.{gives_start, gives_end, given_fewer, given_last, left_count}
use Rattle.abstract_port.proofs.StartsLaws.{next_start-within}

module _ (m : ℕ) (p q : AbstractPort) (sound : IsSoundPort p) (later : p.now ≤ m) (within : m ≤ greatest_moment) (r : Option Start) (is_start : r ≡ (next_start p m).0) (is_next : q ≡ settled (next_start p m).1) where
  forward : (ltb m p.now || ltb greatest_moment m) ≡ false
  forward = rw (le-ltb m p.now later, le-ltb greatest_moment m within) refl

  pub given_start : (s : Start) → r ≡ Some s → Gives (Some (Clock m)) p (Some (Answered.Start s)) (Some (Clock m)) q
  given_start s is = gives_start m p q sound forward is_next s (sym is_start ∙ is)

  pub start_fewer : (s : Start) → r ≡ Some s → left_count (Some (Clock m)) q < left_count (Some (Clock m)) p
  start_fewer s is = given_fewer (Some (Clock m)) p (Some (Answered.Start s)) (Answered.Start s) (Some (Clock m)) q refl (given_start s is)

  pub start_none : IsSoundPort q → r ≡ None → ((answers_to (Clock m) p).0 ≡ []) × (q ≡ settled (answers_to (Clock m) p).1)
  start_none sound_q is = given_last (Some (Clock m)) p None None q refl (gives_end m p q sound forward is_next sound_q (sym is_start ∙ is)) sound_q

  pub later_still : q.now ≤ m
  later_still = subst (λ (x : AbstractPort). x.now ≤ m) (sym is_next) (next_start-within p m later)
