-- Reading one head more.
use Rattle.std.proofs.Common.{◌≡◌, Bool, true, false, cond, List, [], ◌∷◌, ◌++◌, None, Some, Result, Ok, Err, refl, sym, ap, subst, ◌∙◌, append_assoc, append-nil}
use Rattle.std.specs.declared.option.Option.{Option}
use Rattle.std.specs.Prelude.{codes, MatchBool}
use Rattle.std.proofs.lemmas.List.Folds.{list_any-append}
use Rattle.std.proofs.Math.Bool.{or-true, or-false}
use Rattle.std.specs.List.{list_any}
use Rattle.std.specs.Str.{bytes_eq}
use Rattle.port_text.specs.Words.{Dev, Parent, Handle, TcFault, Word, Head, dev, root, parent, handle, is_dev, is_parent, is_handle, named, head_at, ReadsHeads, seen_of}
use Rattle.port_text.specs.declared.tc_reader.fault.TcFault.TheVariants as faults
use Rattle.port_text.specs.declared.tc_reader.heads.Seen.{Seen}
use Rattle.port_text.specs.Seen.{head_word, seen_at}
use Rattle.port_text.proofs.RunLemmas.{ok_is}

abbrev seen_as : Bool → Bool → Bool → Seen
seen_as d p h = record { dev = d; parent = p; handle = h }

any_yes : (p : Head → Bool) (hs : List Head) (h : Head) → p h ≡ true → list_any p (hs ++ h ∷ []) ≡ true
any_yes p hs h e = list_any-append p hs (h ∷ []) ∙ rw e (or-true (list_any p hs))

any_no : (p : Head → Bool) (hs : List Head) (h : Head) → p h ≡ false → list_any p (hs ++ h ∷ []) ≡ list_any p hs
any_no p hs h e = list_any-append p hs (h ∷ []) ∙ rw e (or-false (list_any p hs))

seen-dev : (hs : List Head) (v : Word) → seen_of (hs ++ dev v ∷ []) ≡ seen_as true (list_any is_parent hs) (list_any is_handle hs)
seen-dev hs v = rw (any_yes is_dev hs (dev v) refl, any_no is_parent hs (dev v) refl, any_no is_handle hs (dev v) refl) refl

seen-parent : (hs : List Head) (h : Head) → is_dev h ≡ false → is_parent h ≡ true → is_handle h ≡ false → seen_of (hs ++ h ∷ []) ≡ seen_as (list_any is_dev hs) true (list_any is_handle hs)
seen-parent hs h a b d = rw (any_no is_dev hs h a, any_yes is_parent hs h b, any_no is_handle hs h d) refl

seen-handle : (hs : List Head) (v : Word) → seen_of (hs ++ handle v ∷ []) ≡ seen_as (list_any is_dev hs) (list_any is_parent hs) true
seen-handle hs v = rw (any_no is_dev hs (handle v) refl, any_no is_parent hs (handle v) refl, any_yes is_handle hs (handle v) refl) refl

abbrev pub as_seen : List Head → Result (Head × List Word) TcFault → Result (Seen × List Word) TcFault
as_seen hs (Ok x) = Ok (seen_of (hs ++ x.0 ∷ []), x.1)
as_seen hs (Err f) = Err f

-- what was seen says as much as the heads
pub seen_at-head_at : (hs : List Head) (w : Word) (ws : List Word) → seen_at (seen_of hs) w ws ≡ as_seen hs (head_at hs w ws)
seen_at-head_at hs w ws = by_tests (bytes_eq w (codes "dev")) (bytes_eq w (codes "root")) (bytes_eq w (codes "parent")) (bytes_eq w (codes "handle")) (list_any is_dev hs) (list_any is_parent hs) (list_any is_handle hs) ws
  where
    by_tests : (a b c e d p q : Bool) (ws : List Word) →
        cond a (cond d (Err (faults.Repeated Dev)) (head_word Dev (seen_as true (list_any is_parent hs) (list_any is_handle hs)) ws))
        (cond b (cond p (Err (faults.Repeated Parent)) (Ok (seen_as (list_any is_dev hs) true (list_any is_handle hs), ws)))
        (cond c (cond p (Err (faults.Repeated Parent)) (head_word Parent (seen_as (list_any is_dev hs) true (list_any is_handle hs)) ws))
        (cond e (cond q (Err (faults.Repeated Handle)) (head_word Handle (seen_as (list_any is_dev hs) (list_any is_parent hs) true) ws)) (Err faults.NotTaprio))))
        ≡ as_seen hs (cond a (cond d (Err (faults.Repeated Dev)) (named dev Dev ws))
        (cond b (cond p (Err (faults.Repeated Parent)) (Ok (root, ws)))
        (cond c (cond p (Err (faults.Repeated Parent)) (named parent Parent ws))
        (cond e (cond q (Err (faults.Repeated Handle)) (named handle Handle ws)) (Err faults.NotTaprio)))))
    by_tests true b c e true p q ws = refl
    by_tests true b c e false p q [] = refl
    by_tests true b c e false p q (v ∷ ws) = ap (λ (s : Seen). Ok (s, ws)) (sym (seen-dev hs v))
    by_tests false true c e d true q ws = refl
    by_tests false true c e d false q ws = ap (λ (s : Seen). Ok (s, ws)) (sym (seen-parent hs root refl refl refl))
    by_tests false false true e d true q ws = refl
    by_tests false false true e d false q [] = refl
    by_tests false false true e d false q (v ∷ ws) = ap (λ (s : Seen). Ok (s, ws)) (sym (seen-parent hs (parent v) refl refl refl))
    by_tests false false false true d p true ws = refl
    by_tests false false false true d p false [] = refl
    by_tests false false false true d p false (v ∷ ws) = ap (λ (s : Seen). Ok (s, ws)) (sym (seen-handle hs v))
    by_tests false false false false d p q ws = refl

-- what the code has read of the heads
pub record HeadsSoFar (start now : List Word) (seen : Seen) : Type 0 where
  pub heads : List Head
  pub seen_is : seen ≡ seen_of heads
  pub rest_reads : (more : List Head) (end : Result (Option (List Word)) TcFault) → ReadsHeads heads now more end → ReadsHeads [] start (heads ++ more) end

pub HeadsSoFar-begin : (start : List Word) → HeadsSoFar start start (seen_as false false false)
HeadsSoFar-begin start = record { heads = []; seen_is = refl; rest_reads = λ more end r. r }

as_seen-ok : (hs : List Head) (r : Result (Head × List Word) TcFault) (new : Seen) (rest : List Word) → as_seen hs r ≡ Ok (new, rest) → (h : Head) × (r ≡ Ok (h, rest)) × (new ≡ seen_of (hs ++ h ∷ []))
as_seen-ok hs (Ok x) new rest e =
    let p = ok_is (seen_of (hs ++ x.0 ∷ []), x.1) (new, rest) e in
    (x.0, ap (λ (ws : List Word). Ok (x.0, ws)) (ap (λ (q : Seen × List Word). q.1) p), sym (ap (λ (q : Seen × List Word). q.0) p))
as_seen-ok hs (Err f) new rest e = absurd cc

as_seen-err : (hs : List Head) (r : Result (Head × List Word) TcFault) (f : TcFault) → as_seen hs r ≡ Err f → r ≡ Err f
as_seen-err hs (Ok x) f e = absurd cc
as_seen-err hs (Err g) f e = (let same : g ≡ f = cc in ap (λ (x : TcFault). Err x) same)

pub HeadsSoFar-more : (start : List Word) (w : Word) (ws rest : List Word) (have new : Seen) → HeadsSoFar start (w ∷ ws) have → bytes_eq w (codes "taprio") ≡ false → seen_at have w ws ≡ Ok (new, rest) → HeadsSoFar start rest new
HeadsSoFar-more start w ws rest have new was other took =
    let k = as_seen-ok was.heads (head_at was.heads w ws) new rest (sym (seen_at-head_at was.heads w ws) ∙ ap (λ (s : Seen). seen_at s w ws) (sym was.seen_is) ∙ took) in
    record {
      heads = was.heads ++ k.0 ∷ [];
      seen_is = k.2;
      rest_reads = λ more end r. subst (λ (hs : List Head). ReadsHeads [] start hs end) (sym (append_assoc was.heads (k.0 ∷ []) more)) (was.rest_reads (k.0 ∷ more) end (other, rest, k.1, r));
    }

pub ends_fault : (hs : List Head) (w : Word) (ws : List Word) (f : TcFault) → bytes_eq w (codes "taprio") ≡ false → head_at hs w ws ≡ Err f → ReadsHeads hs (w ∷ ws) [] (Err f)
ends_fault hs w ws f other k = by_test (bytes_eq w (codes "taprio")) other
  where
    by_test : (b : Bool) → b ≡ false → MatchBool b (◌≡◌ {A = Result (Option (List Word)) TcFault} (Err f) (Ok (Some ws))) ((g : TcFault) × (head_at hs w ws ≡ Err g) × (◌≡◌ {A = Result (Option (List Word)) TcFault} (Err f) (Err g)))
    by_test true e = absurd cc
    by_test false e = (f, k, refl)

pub ends_taprio : (hs : List Head) (w : Word) (ws : List Word) → bytes_eq w (codes "taprio") ≡ true → ReadsHeads hs (w ∷ ws) [] (Ok (Some ws))
ends_taprio hs w ws is = by_test (bytes_eq w (codes "taprio")) is
  where
    by_test : (b : Bool) → b ≡ true → MatchBool b (◌≡◌ {A = Result (Option (List Word)) TcFault} (Ok (Some ws)) (Ok (Some ws))) ((g : TcFault) × (head_at hs w ws ≡ Err g) × (◌≡◌ {A = Result (Option (List Word)) TcFault} (Ok (Some ws)) (Err g)))
    by_test true e = refl
    by_test false e = absurd cc

pub HeadsSoFar-fault : (start : List Word) (w : Word) (ws : List Word) (have : Seen) (f : TcFault) → HeadsSoFar start (w ∷ ws) have → bytes_eq w (codes "taprio") ≡ false → seen_at have w ws ≡ Err f
    → (heads : List Head) × ReadsHeads [] start heads (Err f)
HeadsSoFar-fault start w ws have f was other failed =
    let k = as_seen-err was.heads (head_at was.heads w ws) f (sym (seen_at-head_at was.heads w ws) ∙ ap (λ (s : Seen). seen_at s w ws) (sym was.seen_is) ∙ failed) in
    (was.heads ++ [], was.rest_reads [] (Err f) (ends_fault was.heads w ws f other k))

pub HeadsSoFar-taprio : (start : List Word) (w : Word) (ws : List Word) (have : Seen) → HeadsSoFar start (w ∷ ws) have → bytes_eq w (codes "taprio") ≡ true
    → (heads : List Head) × ReadsHeads [] start heads (Ok (Some ws)) × (have ≡ seen_of heads)
HeadsSoFar-taprio start w ws have was is =
    (was.heads, subst (λ (hs : List Head). ReadsHeads [] start hs (Ok (Some ws))) (append-nil was.heads) (was.rest_reads [] (Ok (Some ws)) (ends_taprio was.heads w ws is)), was.seen_is)

pub HeadsSoFar-end : (start : List Word) (have : Seen) → HeadsSoFar start [] have → (heads : List Head) × ReadsHeads [] start heads (Ok None) × (have ≡ seen_of heads)
HeadsSoFar-end start have was =
    (was.heads, subst (λ (hs : List Head). ReadsHeads [] start hs (Ok None)) (append-nil was.heads) (was.rest_reads [] (Ok None) refl), was.seen_is)
