-- What an arrival and a single answer do to the store and the outputs.
use Rattle.std.proofs.Common.{◌≡◌, ◌<◌, ◌+◌, ◌++◌, ℕ, List, [], ◌∷◌, length, map, Option, Some, None, refl, sym, ap, ◌∙◌, append-nil, arith}
use Rattle.std.proofs.Math.ListN.{set, get_or-map}
use Rattle.std.proofs.lemmas.List.{map-set, map-append, length-append}
use Rattle.replay.specs.Words.{Frame, AbstractPort, queue_of, IsSoundPort, Answer, Dropped, answer_lines, Kept, Origin, Stored, kept_at, Gave, answer_record, kept_in, output, IsTogether, Keeps, State}
use Rattle.abstract_port.specs.AbstractPort.{drop_in}
use Rattle.replay.proofs.StartLaws.{length-at}

-- an answer without a record
pub one_answer : (es : Origin) (a : Answer) → answer_record es a ≡ [] → output es (Gave a ∷ []) ≡ record { report = answer_lines a; departures = [] }
one_answer es a none =
    ap (λ (t : List ℕ). record { report = t; departures = answer_record es a ++ [] }) (append-nil (answer_lines a))
    ∙ ap (λ (t : List ℕ). record { report = answer_lines a; departures = t }) (append-nil (answer_record es a) ∙ none)

pub dropped_queues : (p : AbstractPort) (why : Dropped) (class : Option ℕ) → (drop_in p why class).queues ≡ p.queues
dropped_queues p why None = refl
dropped_queues p why (Some class) = refl

pub dropped_room : (p : AbstractPort) (why : Dropped) (class : Option ℕ) → (drop_in p why class).room ≡ p.room
dropped_room p why None = refl
dropped_room p why (Some class) = refl

-- there is room in the store where there is room in the queue
pub has_room : (s : State) (class : ℕ) → IsTogether s → length (queue_of s.port class) < s.port.room → length (kept_at s.store.kept class) < s.store.room
has_room s class i room = omega (arith, length-at s class i, room, i.room)

module _ (s t : State) (class : ℕ) (f : Frame) (k : Kept) (queues : t.port.queues ≡ set s.port.queues class (queue_of s.port class ++ f ∷ [])) (room : t.port.room ≡ s.port.room)
    (put : t.store ≡ record s.store { kept = set s.store.kept class (kept_at s.store.kept class ++ k ∷ []) }) where
  pub together-put : IsSoundPort t.port → IsTogether s → IsTogether t
  together-put sound i = record {
    lengths = ap (λ (w : Stored). map length w.kept) put ∙ map-set length s.store.kept class (kept_at s.store.kept class ++ k ∷ [])
        ∙ ap (λ n. set (map length s.store.kept) class n) (length-append (kept_at s.store.kept class) (k ∷ []) ∙ ap (λ n. n + 1) (length-at s class i) ∙ sym (length-append (queue_of s.port class) (f ∷ [])))
        ∙ ap (λ ns. set ns class (length (queue_of s.port class ++ f ∷ []))) i.lengths ∙ sym (map-set length s.port.queues class (queue_of s.port class ++ f ∷ [])) ∙ sym (ap (λ qs. map length qs) queues);
    room = ap (λ (w : Stored). w.room) put ∙ i.room ∙ sym room;
    sound = sound;
  }

  pub keeps-put : (es : Origin) → kept_in es.entries f.id ≡ k → t.stamping ≡ s.stamping → Keeps es s → Keeps es t
  keeps-put es is how keeps =
      let h : Frame → Kept = λ f. kept_in es.entries f.id in
      let g : List Frame → List Kept = λ fs. map h fs in
      let at : kept_at s.store.kept class ≡ g (queue_of s.port class) = ap (λ ks. kept_at ks class) keeps.0 ∙ get_or-map g s.port.queues class [] in (
        ap (λ (w : Stored). w.kept) put
            ∙ ap (λ ks. set s.store.kept class (ks ++ k ∷ [])) at
            ∙ ap (λ x. set s.store.kept class (g (queue_of s.port class) ++ x ∷ [])) (sym is)
            ∙ ap (λ ks. set s.store.kept class ks) (sym (map-append h (queue_of s.port class) (f ∷ [])))
            ∙ ap (λ kss. set kss class (g (queue_of s.port class ++ f ∷ []))) keeps.0
            ∙ sym (map-set g s.port.queues class (queue_of s.port class ++ f ∷ []))
            ∙ ap (λ qs. map g qs) (sym queues),
        how ∙ keeps.1,
      )
