-- One text appended after another.
use Rattle.std.proofs.Common.{◌≡◌, ℕ, List, [], ◌++◌, Option, Some, None, Result, Ok, Err, ◌<◌, refl, sym, ap, ◌∙◌, append_assoc, subst, arith}
use Rattle.std.proofs.lemmas.List.{append-nil, length-append}
use Rattle.std.specs.Io.KnownBytes.{Appends}
use Rattle.text.specs.Writes.{Sent, AppendsFront, FallsShort, Writes}

-- what two calls append
pub Appends-append : (a b c : Option (List ℕ)) (x y : List ℕ) → Appends a b x → Appends b c y → Appends a c (x ++ y)
Appends-append None b c x y p q = tt
Appends-append (Some a) None c x y p q = absurd p
Appends-append (Some a) (Some b) None x y p q = absurd q
Appends-append (Some a) (Some b) (Some c) x y p q = q ∙ ap (λ t. t ++ y) p ∙ append_assoc a x y

pub Appends-nil : (a : Option (List ℕ)) → Appends a a []
Appends-nil None = tt
Appends-nil (Some a) = sym (append-nil a)

-- before the first
pub sent_none : (a : Option (List ℕ)) (text : List ℕ) → Sent a a text text
sent_none a text = record { done = []; appended = Appends-nil a; parts = refl }

-- one part more
pub sent_more : {a b : Option (List ℕ)} {text left : List ℕ} (c : Option (List ℕ)) (x rest : List ℕ) → Sent a b text left → left ≡ x ++ rest → Appends b c x → Sent a c text rest
sent_more {a} {b} c x rest s e p = record {
  done = s.done ++ x;
  appended = Appends-append a b c s.done x s.appended p;
  parts = s.parts ∙ ap (λ t. s.done ++ t) e ∙ sym (append_assoc s.done x rest);
}

-- a prefix of the next part, and not all of it
pub sent_short : {a b : Option (List ℕ)} {text left : List ℕ} (c : Option (List ℕ)) (x rest : List ℕ) → Sent a b text left → left ≡ x ++ rest → FallsShort b c x → FallsShort a c text
sent_short {a} {b} c x rest s e (back, some, t) = (
  back ++ rest,
  subst (λ n. 0 < n) (sym (length-append back rest)) (omega arith),
  record {
    done = s.done ++ t.done;
    appended = Appends-append a b c s.done t.done s.appended t.appended;
    parts = s.parts ∙ ap (λ u. s.done ++ u) (e ∙ ap (λ u. u ++ rest) t.parts ∙ append_assoc t.done back rest) ∙ sym (append_assoc s.done t.done (back ++ rest));
  },
)

-- what falls short is a prefix
pub front_of_short : (a b : Option (List ℕ)) (text : List ℕ) → FallsShort a b text → AppendsFront a b text
front_of_short a b text (left, some, sent) = (left, sent)

-- after the last
pub sent_all : {a b : Option (List ℕ)} {text left : List ℕ} → Sent a b text left → left ≡ [] → Appends a b text
sent_all {a} {b} s e = let P : List ℕ → Type 0 = λ t. Appends a b t in subst P (sym (s.parts ∙ ap (λ t. s.done ++ t) e ∙ append-nil s.done)) s.appended

-- the last part, by a call whose result is returned as it is
pub sent_last : {T E : Type 0} {a b : Option (List ℕ)} {text left : List ℕ} (r : Result T E) (c : Option (List ℕ)) → Sent a b text left → Writes r b c left → Writes r a c text
sent_last (Ok x) c s p = sent_all (sent_more c _ [] s (sym (append-nil _)) p) refl
sent_last (Err x) c s p = sent_short c _ [] s (sym (append-nil _)) p

-- the exit of a `?` of a call that wrote a prefix of the next part
pub sent_exit : {T E : Type 0} {y : E} {a b : Option (List ℕ)} {text left : List ℕ} {r : Result T E} (c : Option (List ℕ)) (x rest : List ℕ) → r ≡ Err y → Sent a b text left → left ≡ x ++ rest → FallsShort b c x → Writes r a c text
sent_exit {T} {E} {y} {a} {b} {text} {left} {r} c x rest h s e p = let P : Result T E → Type 0 = λ q. Writes q a c text in subst P (sym h) (sent_short c x rest s e p)
