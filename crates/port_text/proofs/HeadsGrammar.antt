-- What is read of heads is in the grammar, and what is in the grammar is read.
use Rattle.std.proofs.Common.{◌≡◌, Bool, true, false, cond, List, [], ◌∷◌, ◌++◌, None, Some, Result, Ok, Err, refl, sym, ap, subst, ◌∙◌, codes}
use Rattle.std.specs.Prelude.{MatchBool}
use Rattle.std.specs.declared.option.Option.{Option}
use Rattle.std.specs.List.{list_any}
use Rattle.std.specs.Str.{bytes_eq}
use Rattle.std.proofs.lemmas.Slice.Eq.{bytes_eq-Decides}
use Rattle.port_text.specs.Words.{Opt, Dev, Parent, Handle, TcFault, Word, Head, dev, root, parent, handle, is_dev, is_parent, is_handle, named, head_at, ReadsHeads, head_words, heads_before, AreNewHeads}
use Rattle.port_text.specs.declared.tc_reader.fault.TcFault.TheVariants as faults
use Rattle.port_text.specs.Grammar.{has_kind}
use Rattle.port_text.proofs.RunLemmas.{ok_is}
use Rattle.port_text.proofs.GrammarLemmas.{guard_not}

-- how the heads of a line end
abbrev pub End : Type 0
End = Result (Option (List Word)) TcFault

-- what comes after the heads
abbrev pub IsTail : Option (List Word) → List Word → Type 0
IsTail None tail = tail ≡ []
IsTail (Some rest) tail = tail ≡ codes "taprio" ∷ rest

-- ---- one head

abbrev at_root : List Word → Result (Head × List Word) TcFault
at_root ws = Ok (root, ws)

abbrev pub IsHead : List Head → List Word → Head × List Word → Type 0
IsHead before ws x = (ws ≡ head_words x.0 ++ x.1) × (has_kind before x.0 ≡ false)

pub is_word : (w v : Word) → bytes_eq w v ≡ true → w ≡ v
is_word w v is = (bytes_eq-Decides w v).0 is

named_take : (make : Word → Head) (o : Opt) (before : List Head) (name : Word) (ws : List Word) (h : Head) (rest : List Word)
    → ((v : Word) → (has_kind before (make v) ≡ false) × (head_words (make v) ≡ name ∷ v ∷ [])) → named make o ws ≡ Ok (h, rest) → IsHead before (name ∷ ws) (h, rest)
named_take make o before name [] h rest new e = absurd cc
named_take make o before name (v ∷ ws) h rest new e =
    subst (IsHead before (name ∷ v ∷ ws)) (ok_is (make v, ws) (h, rest) e) (ap (λ (l : List Word). l ++ ws) (sym (new v).1), (new v).0)

pub head_take : (before : List Head) (w : Word) (ws : List Word) (h : Head) (rest : List Word) → head_at before w ws ≡ Ok (h, rest) → IsHead before (w ∷ ws) (h, rest)
head_take before w ws h rest e = by_tests (bytes_eq w (codes "dev")) (bytes_eq w (codes "root")) (bytes_eq w (codes "parent")) (bytes_eq w (codes "handle")) refl refl refl refl e
  where
    is_named : (make : Word → Head) (o : Opt) (name : Word) (d : Bool) → bytes_eq w name ≡ true → ((v : Word) → has_kind before (make v) ≡ d) → ((v : Word) → head_words (make v) ≡ name ∷ v ∷ [])
        → cond d (Err (faults.Repeated o)) (named make o ws) ≡ Ok (h, rest) → IsHead before (w ∷ ws) (h, rest)
    is_named make o name d is kind spelled e =
        let g = guard_not d (faults.Repeated o) (named make o ws) (h, rest) e in
        subst (λ (v : Word). IsHead before (v ∷ ws) (h, rest)) (sym (is_word w name is)) (named_take make o before name ws h rest (λ v. (kind v ∙ g.0, spelled v)) g.1)

    is_root : (d : Bool) → bytes_eq w (codes "root") ≡ true → has_kind before root ≡ d → cond d (Err (faults.Repeated Parent)) (at_root ws) ≡ Ok (h, rest) → IsHead before (w ∷ ws) (h, rest)
    is_root d is kind e =
        let g = guard_not d (faults.Repeated Parent) (at_root ws) (h, rest) e in
        subst (IsHead before (w ∷ ws)) (ok_is (root, ws) (h, rest) g.1) (ap (λ (v : Word). v ∷ ws) (is_word w (codes "root") is), kind ∙ g.0)

    by_tests : (a b c d : Bool) → bytes_eq w (codes "dev") ≡ a → bytes_eq w (codes "root") ≡ b → bytes_eq w (codes "parent") ≡ c → bytes_eq w (codes "handle") ≡ d
        → cond a (cond (list_any is_dev before) (Err (faults.Repeated Dev)) (named dev Dev ws))
        (cond b (cond (list_any is_parent before) (Err (faults.Repeated Parent)) (at_root ws))
        (cond c (cond (list_any is_parent before) (Err (faults.Repeated Parent)) (named parent Parent ws))
        (cond d (cond (list_any is_handle before) (Err (faults.Repeated Handle)) (named handle Handle ws)) (Err faults.NotTaprio)))) ≡ Ok (h, rest)
        → IsHead before (w ∷ ws) (h, rest)
    by_tests true b c d p q r s e = is_named dev Dev (codes "dev") (list_any is_dev before) p (λ v. refl) (λ v. refl) e
    by_tests false true c d p q r s e = is_root (list_any is_parent before) q refl e
    by_tests false false true d p q r s e = is_named parent Parent (codes "parent") (list_any is_parent before) r (λ v. refl) (λ v. refl) e
    by_tests false false false true p q r s e = is_named handle Handle (codes "handle") (list_any is_handle before) s (λ v. refl) (λ v. refl) e
    by_tests false false false false p q r s e = absurd cc

-- ---- all heads

heads_end : (before : List Head) (w : Word) (ws : List Word) (o : Option (List Word)) → (b : Bool) → bytes_eq w (codes "taprio") ≡ b
    → MatchBool b (◌≡◌ {A = End} (Ok o) (Ok (Some ws))) ((f : TcFault) × (head_at before w ws ≡ Err f) × (◌≡◌ {A = End} (Ok o) (Err f))) → IsTail o (w ∷ ws)
heads_end before w ws o true is e =
    subst (λ (p : Option (List Word)). IsTail p (w ∷ ws)) (sym (ok_is o (Some ws) e)) (ap (λ (v : Word). v ∷ ws) (is_word w (codes "taprio") is))
heads_end before w ws o false is e = absurd (let x = e.2 in cc)

-- heads that are read stand there, each kind at most once
pub heads_take : (before : List Head) (ws : List Word) (heads : List Head) (o : Option (List Word)) → ReadsHeads before ws heads (Ok o)
    → (tail : List Word) × (ws ≡ heads_before heads tail) × AreNewHeads before heads × IsTail o tail
heads_take before [] [] o r = ([], refl, tt, subst (λ (p : Option (List Word)). IsTail p []) (sym (ok_is o None r)) refl)
heads_take before (w ∷ ws) [] o r = (w ∷ ws, refl, tt, heads_end before w ws o (bytes_eq w (codes "taprio")) refl r)
heads_take before [] (h ∷ hs) o r = absurd r
heads_take before (w ∷ ws) (h ∷ hs) o (other, rest, at, r) =
    let one = head_take before w ws h rest at in
    let more = heads_take (before ++ h ∷ []) rest hs o r in
    (more.0, one.0 ∙ ap (λ (l : List Word). head_words h ++ l) more.1, (one.1, more.2), more.3)

-- heads that stand there are read
pub heads_again : (before heads : List Head) (tail : List Word) (end : End) → ((b : List Head) → ReadsHeads b tail [] end) → AreNewHeads before heads
    → ReadsHeads before (heads_before heads tail) heads end
heads_again before [] tail end ends new = ends before
heads_again before (dev v ∷ hs) tail end ends new =
    (refl, heads_before hs tail, rw new.0 refl, heads_again (before ++ dev v ∷ []) hs tail end ends new.1)
heads_again before (root ∷ hs) tail end ends new =
    (refl, heads_before hs tail, rw new.0 refl, heads_again (before ++ root ∷ []) hs tail end ends new.1)
heads_again before (parent v ∷ hs) tail end ends new =
    (refl, heads_before hs tail, rw new.0 refl, heads_again (before ++ parent v ∷ []) hs tail end ends new.1)
heads_again before (handle v ∷ hs) tail end ends new =
    (refl, heads_before hs tail, rw new.0 refl, heads_again (before ++ handle v ∷ []) hs tail end ends new.1)

-- ---- heads are read in one way

abbrev EndsAt : List Head → Word → List Word → Bool → End → Type 0
EndsAt before w ws b end = MatchBool b (end ≡ Ok (Some ws)) ((f : TcFault) × (head_at before w ws ≡ Err f) × (end ≡ Err f))

ends_one : (before : List Head) (w : Word) (ws : List Word) (b : Bool) (d e : End) → EndsAt before w ws b d → EndsAt before w ws b e → d ≡ e
ends_one before w ws true d e p q = p ∙ sym q
ends_one before w ws false d e p q = let same : p.0 ≡ q.0 = (let x = sym p.1 ∙ q.1 in cc) in p.2 ∙ ap (λ (f : TcFault). Err f) same ∙ sym q.2

words_remain : (before : List Head) (w : Word) (ws : List Word) (b : Bool) (d : End) (x : Head × List Word) → EndsAt before w ws b d → b ≡ false → head_at before w ws ≡ Ok x → ⊥
words_remain before w ws true d x p is at = absurd cc
words_remain before w ws false d x p is at = absurd (let y = sym p.1 ∙ at in cc)

pub heads_one : (before : List Head) (ws : List Word) (hs ks : List Head) (d e : End) → ReadsHeads before ws hs d → ReadsHeads before ws ks e → (hs ≡ ks) × (d ≡ e)
heads_one before [] [] [] d e p q = (refl, p ∙ sym q)
heads_one before (w ∷ ws) [] [] d e p q = (refl, ends_one before w ws (bytes_eq w (codes "taprio")) d e p q)
heads_one before [] (h ∷ hs) ks d e p q = absurd p
heads_one before [] [] (k ∷ ks) d e p q = absurd q
heads_one before (w ∷ ws) [] (k ∷ ks) d e p (other, rest, at, r) = absurd (words_remain before w ws (bytes_eq w (codes "taprio")) d (k, rest) p other at)
heads_one before (w ∷ ws) (h ∷ hs) [] d e (other, rest, at, r) q = absurd (words_remain before w ws (bytes_eq w (codes "taprio")) e (h, rest) q other at)
heads_one before (w ∷ ws) (h ∷ hs) (k ∷ ks) d e a b =
    let p = ok_is (h, a.1) (k, b.1) (sym a.2 ∙ b.2) in
    let same_head : h ≡ k = ap (λ (q : Head × List Word). q.0) p in
    let same_rest : a.1 ≡ b.1 = ap (λ (q : Head × List Word). q.1) p in
    let moved : ReadsHeads (before ++ k ∷ []) b.1 hs d = subst (λ (l : List Word). ReadsHeads (before ++ k ∷ []) l hs d) same_rest (subst (λ (j : Head). ReadsHeads (before ++ j ∷ []) a.1 hs d) same_head a.3) in
    let more = heads_one (before ++ k ∷ []) b.1 hs ks d e moved b.3 in
    (ap (λ (l : List Head). h ∷ l) more.0 ∙ ap (λ (j : Head). j ∷ ks) same_head, more.1)
