-- What is reported of requests, and of more after them.
use Rattle.std.specs.Io.KnownBytes.{Keeps as Holds}
use Rattle.std.specs.List.{flat_map}
use Rattle.std.proofs.Common.{◌≡◌, ℕ, List, [], ◌∷◌, ◌++◌, map, Result, Ok, Err, refl, sym, ap, ◌∙◌, append_assoc, append-nil, subst}
use Rattle.std.proofs.lemmas.Grind.{flat_map-append}
use Rattle.replay.specs.Words.{AbstractPort, settled, answers_to, port_after, IsSoundPort, Answer, Origin, Request, Asks, NoCommand, Gave, Response, events_of, responses_of, responses_to, Got, PutsBoth, joined, nothing, output, response_record, Answers, IsTogether, Keeps, State, Stop}
use Rattle.abstract_port.proofs.RunLaws.{IsTimely, same-event, settled-after, settled-current, timely-after, timely-settled, timely-sound}
use Rattle.script.specs.Responses.{Faulted, response_lines}
use Rattle.replay.specs.SeenLaws.{seen-append, seen-nil, seen-settled, seen_of}
use Rattle.replay.specs.Sends.{both_all, both_exit, both_none, both_stop, both_then, never, on_ok_map, puts_kept}

-- the port after requests
abbrev pub after : List Request → AbstractPort → AbstractPort
after requests p = port_after (events_of requests) p

pub after-more : (r : Request) (rest : List Request) (p : AbstractPort) → after (r ∷ rest) p ≡ after rest (responses_to r p).1
after-more (Asks event) rest p = refl
after-more (NoCommand fault) rest p = refl

pub after-append : (xs ys : List Request) (p : AbstractPort) → after (xs ++ ys) p ≡ after ys (after xs p)
after-append [] ys p = refl
after-append (Asks event ∷ xs) ys p = after-append xs ys (answers_to event p).1
after-append (NoCommand fault ∷ xs) ys p = after-append xs ys p

pub responses-append : (xs ys : List Request) (p : AbstractPort) → responses_of (xs ++ ys) p ≡ responses_of xs p ++ responses_of ys (after xs p)
responses-append [] ys p = refl
responses-append (Asks event ∷ xs) ys p =
    let a = answers_to event p in
    ap (λ (x : List Response). map Gave a.0 ++ x) (responses-append xs ys a.1) ∙ sym (append_assoc (map Gave a.0) (responses_of xs a.1) (responses_of ys (after xs a.1)))
responses-append (NoCommand fault ∷ xs) ys p = ap (λ (x : List Response). Faulted fault ∷ x) (responses-append xs ys p)

-- what is past changes nothing that is reported
pub responses-settled : (requests : List Request) (p : AbstractPort) → IsTimely p → responses_of requests (settled p) ≡ responses_of requests p
responses-settled [] p fit = refl
responses-settled (Asks event ∷ rest) p fit =
    let here = same-event event p fit in
    let q = (answers_to event (settled p)).1 in
    let there : IsTimely q = (same-event event (settled p) (timely-settled p fit)).fit in
    ap (λ (x : List Answer). map Gave x ++ responses_of rest q) here.answers
    ∙ ap (λ (x : List Response). map Gave (answers_to event p).0 ++ x)
    (sym (responses-settled rest q there) ∙ (ap (λ (x : AbstractPort). responses_of rest x) here.port ∙ responses-settled rest (answers_to event p).1 here.fit))
responses-settled (NoCommand fault ∷ rest) p fit = ap (λ (x : List Response). Faulted fault ∷ x) (responses-settled rest p fit)

pub output-append : (es : Origin) (xs ys : List Response) → output es (xs ++ ys) ≡ joined (output es xs) (output es ys)
output-append es xs ys =
    ap (λ (t : List ℕ). record { report = t; departures = flat_map (response_record es) (xs ++ ys) }) (flat_map-append response_lines xs ys)
    ∙ ap (λ (t : List ℕ). record { report = flat_map response_lines xs ++ flat_map response_lines ys; departures = t }) (flat_map-append (response_record es) xs ys)

-- nothing is asked
pub answers_none : {T : Type 0} (x : T) (es : Origin) (s : State) → IsSoundPort s.port → Keeps es s → Answers {T = T} es (Ok x) [] s s
answers_none x es s sound k = record { port = sym (settled-current s.port sound.current); keeps = k; seen = sym (seen-nil s.port s.seen); out = both_all x (both_none s.got nothing) refl }

-- the parts of what is reported, where the port after the first is known
module _ (es : Origin) (s t : State) (sound : IsSoundPort s.port) (xs ys : List Request) (is : t.port ≡ settled (after xs s.port)) where
  fit : IsTimely (after xs s.port)
  fit = timely-after (events_of xs) s.port (timely-sound s.port sound)

  pub later_responses : responses_of ys t.port ≡ responses_of ys (after xs s.port)
  later_responses = ap (λ (p : AbstractPort). responses_of ys p) is ∙ responses-settled ys (after xs s.port) fit

  pub later_port : settled (after ys t.port) ≡ settled (after (xs ++ ys) s.port)
  later_port =
      ap (λ (p : AbstractPort). settled (after ys p)) is ∙ settled-after (events_of ys) (after xs s.port) fit ∙ ap (λ (p : AbstractPort). settled p) (sym (after-append xs ys s.port))

  pub later_seen : t.seen ≡ seen_of xs s.port s.seen → seen_of ys t.port t.seen ≡ seen_of (xs ++ ys) s.port s.seen
  later_seen seen =
      ap (λ o. seen_of ys t.port o) seen
      ∙ (ap (λ (p : AbstractPort). seen_of ys p (seen_of xs s.port s.seen)) is ∙ seen-settled ys (after xs s.port) (seen_of xs s.port s.seen) fit)
      ∙ sym (seen-append xs ys s.port s.seen)

  pub parts : output es (responses_of (xs ++ ys) s.port) ≡ joined (output es (responses_of xs s.port)) (output es (responses_of ys t.port))
  parts =
      ap (λ (x : List Response). output es x) (responses-append xs ys s.port)
      ∙ output-append es (responses_of xs s.port) (responses_of ys (after xs s.port))
      ∙ ap (λ (x : List Response). joined (output es (responses_of xs s.port)) (output es x)) (sym later_responses)

-- requests are answered, and then more
pub answers_then : {T U : Type 0} {y : U} (r : Result T Stop) (es : Origin) (xs ys : List Request) (s t u : State) → IsSoundPort s.port
    → Answers {T = U} es (Ok y) xs s t → Answers es r ys t u → Answers es r (xs ++ ys) s u
answers_then r es xs ys s t u sound a b = record {
  port = on_ok_map r (λ e. e ∙ later_port es s t sound xs ys a.port) b.port;
  keeps = b.keeps;
  seen = on_ok_map r (λ e. e ∙ later_seen es s t sound xs ys a.port a.seen) b.seen;
  out = both_then r u.got _ _ (parts es s t sound xs ys a.port) a.out b.out;
}

-- the exit of a call that failed in the first of them
pub answers_exit : {T U : Type 0} {y : Stop} (r : Result T Stop) (es : Origin) (xs ys : List Request) (s t : State)
    → r ≡ Err y → Answers {T = U} es (Err y) xs s t → Answers es r (xs ++ ys) s t
answers_exit r es xs ys s t is a = record {
  port = never _ is;
  keeps = never _ is;
  seen = never _ is;
  out = both_exit r t.got (output es (responses_of xs s.port)) (output es (responses_of ys (after xs s.port))) is (both_none s.got _)
      (ap (λ (x : List Response). output es x) (responses-append xs ys s.port) ∙ output-append es (responses_of xs s.port) (responses_of ys (after xs s.port))) a.out;
}

-- ---- a run so far

-- of all that is asked so much is answered, and `left` is still to come
pub record Done (es : Origin) (s t : State) (left all : List Request) : Type 0 where
  pub done : List Request
  pub parts : done ++ left ≡ all
  pub answers : Answers {T = Unit {0}} es (Ok tt) done s t

pub done_none : (es : Origin) (s : State) (all : List Request) → IsSoundPort s.port → Keeps es s → Done es s s all all
done_none es s all sound k = record { done = []; parts = refl; answers = answers_none tt es s sound k }

-- what was written is let out
pub together_kept : (s : State) (h : Got) → IsTogether s → IsTogether (record s { got = h })
together_kept s h w = record { lengths = w.lengths; room = w.room; sound = w.sound }

pub done_kept : {es : Origin} {s t : State} {left all : List Request} (h : Got) → Done es s t left all → Holds t.got.report h.report → Holds t.got.departures h.departures → Done es s (record t { got = h }) left all
done_kept h d report departures = record {
  done = d.done;
  parts = d.parts;
  answers = record { port = d.answers.port; keeps = d.answers.keeps; seen = d.answers.seen; out = puts_kept (Ok tt) h d.answers.out report departures };
}

module _ {es : Origin} {s t : State} {all : List Request} (sound : IsSoundPort s.port) where
  -- all of it
  pub done_all : Done es s t [] all → Answers {T = Unit {0}} es (Ok tt) all s t
  done_all d = subst (λ (x : List Request). Answers {T = Unit {0}} es (Ok tt) x s t) (sym (append-nil d.done) ∙ d.parts) d.answers

  -- the exit where nothing was asked
  pub done_stop : {T : Type 0} {y : Stop} {left : List Request} (r : Result T Stop) → r ≡ Err y → Done es s t left all → Answers es r all s t
  done_stop {T} {y} {left} r is d =
      let last : Answers es r left t t = record { port = never _ is; keeps = never _ is; seen = never _ is; out = both_stop r is (both_none t.got _) } in
      subst (λ (x : List Request). Answers es r x s t) d.parts (answers_then {U = Unit {0}} {y = tt} r es d.done left s t t sound d.answers last)
