-- Octets have one reading, and calls of `next` answer it.
use Rattle.std.proofs.Common.{◌≡◌, ◌≢◌, ℕ, zero, suc, ◌+◌, ◌<◌, List, [], ◌∷◌, length, drop, Option, None, Some, Result, Ok, Err, refl, sym, ap, subst, ◌∙◌, arith, inl, inr}
use Rattle.std.specs.Prelude.{◌⊎◌, IfSome, MatchOption}
use Rattle.std.proofs.lemmas.List.{length-drop}
use Rattle.capture.specs.Words.{CapFault, ShortHeader, BadMagic, BadVersion, BadLink, ShortRecord, LongRecord, BadFraction, TooManyRecords, BadShift, Read, Write, Memory, Format, Whole, Entry, entry_at, rest_after, fault_at, AreRecords, HasOneReading, AnswersRecords}
use Rattle.capture.specs.declared.reader.End.{End}
use Rattle.capture.specs.declared.reader.End.TheVariants.{Broken}
use Rattle.capture.specs.CaptureReader.{Left, octets_left, again, IsWanting, ReadsNext, Next}
use Rattle.capture.specs.Captures.{Calls, AreFailed, AreAnswers}

-- nothing is no record
fault_of_none : (format : Format) (number : ℕ) (octets : List ℕ) → octets ≡ [] → fault_at format number octets ≡ None → ⊥
fault_of_none format number octets e p = let q : fault_at format number [] ≡ None = subst (λ (l : List ℕ). fault_at format number l ≡ None) e p in cc

-- two readings are one
pub unique : (format : Format) (number : ℕ) (octets : List ℕ) (es : List Entry) (end : End) → AreRecords format number octets es end
    → (fs : List Entry) (last : End) → AreRecords format number octets fs last → (fs ≡ es) × (last ≡ end)
unique format number octets [] Whole p [] Whole q = (refl, refl)
unique format number octets [] Whole p [] (Broken g) q = absurd (q.0 p)
unique format number octets [] Whole p (x ∷ fs) last q = absurd (fault_of_none format number octets p q.0)
unique format number octets [] (Broken f) p [] Whole q = absurd (p.0 q)
unique format number octets [] (Broken f) p [] (Broken g) q = (refl, let same = sym q.1 ∙ p.1 in cc)
unique format number octets [] (Broken f) p (x ∷ fs) last q = absurd (let same = sym q.0 ∙ p.1 in cc)
unique format number octets (e ∷ es) end p [] Whole q = absurd (fault_of_none format number octets q p.0)
unique format number octets (e ∷ es) end p [] (Broken g) q = absurd (let same = sym q.1 ∙ p.0 in cc)
unique format number octets (e ∷ es) end p (x ∷ fs) last q =
    let rest = unique format (number + 1) (rest_after format octets) es end p.2 fs last q.2 in
    (let one = q.1 ∙ sym p.1 in let more = rest.0 in cc, rest.1)

-- a reading of octets of which the first record's fault is known, from one of what comes after it
one_more : (format : Format) (number : ℕ) (octets : List ℕ) (fault : Option CapFault) → fault_at format number octets ≡ fault → octets ≢ []
    → ((es : List Entry) × (end : End) × AreRecords format (number + 1) (rest_after format octets) es end)
    → (es : List Entry) × (end : End) × AreRecords format number octets es end
one_more format number octets (Some fault) e some rest = ([], Broken fault, (some, e))
one_more format number octets None e some (es, end, rest) = (entry_at format octets ∷ es, end, (e, refl, rest))

-- each record is taken off the octets, and there are fewer left
reading : (fuel : ℕ) (format : Format) (number : ℕ) (octets : List ℕ) → length octets < fuel → (es : List Entry) × (end : End) × AreRecords format number octets es end
reading zero format number octets few = absurd (omega arith)
reading (suc fuel) format number [] few = ([], Whole, refl)
reading (suc fuel) format number (b ∷ bs) few =
    let octets : List ℕ = b ∷ bs in
    one_more format number octets (fault_at format number octets) refl (λ e. cc)
    (reading fuel format (number + 1) (rest_after format octets) (omega (arith, length-drop {A = ℕ})))

pub one_reading_law : HasOneReading
one_reading_law format number octets =
    let one = reading (suc (length octets)) format number octets (omega arith) in
    (one.0, one.1, one.2, unique format number octets one.0 one.1 one.2)

read_or_not : (f : CapFault) → (f ≡ Read) ⊎ (f ≢ Read)
read_or_not Read = inl refl
read_or_not ShortHeader = inr (λ e. cc)
read_or_not BadMagic = inr (λ e. cc)
read_or_not BadVersion = inr (λ e. cc)
read_or_not BadLink = inr (λ e. cc)
read_or_not ShortRecord = inr (λ e. cc)
read_or_not LongRecord = inr (λ e. cc)
read_or_not BadFraction = inr (λ e. cc)
read_or_not TooManyRecords = inr (λ e. cc)
read_or_not BadShift = inr (λ e. cc)
read_or_not Write = inr (λ e. cc)
read_or_not Memory = inr (λ e. cc)

-- what `next` says of a reader that has met no end
going : {R : Type 0} (remaining : R → Option (List ℕ)) (l after : Left R) (a : Result (Option Entry) CapFault) → l.ended ≡ None → Next remaining l a after
    → ReadsNext remaining l a after × (after.format ≡ l.format) × ((IsWanting l → ⊥) → after.source ≡ l.source)
going remaining l after a e p =
    let P : Option End → Type 0 = λ o. MatchOption o
    (ReadsNext remaining l a after × (after.format ≡ l.format) × ((IsWanting l → ⊥) → after.source ≡ l.source))
    (λ end. (a ≡ again end) × (after ≡ l)) in
    subst P e p

-- and of one that has met this end
stopped : {R : Type 0} (remaining : R → Option (List ℕ)) (l after : Left R) (a : Result (Option Entry) CapFault) (end : End) → l.ended ≡ Some end → Next remaining l a after
    → (a ≡ again end) × (after ≡ l)
stopped remaining l after a end e p =
    let P : Option End → Type 0 = λ o. MatchOption o
    (ReadsNext remaining l a after × (after.format ≡ l.format) × ((IsWanting l → ⊥) → after.source ≡ l.source))
    (λ end. (a ≡ again end) × (after ≡ l)) in
    subst P e p

-- once the end was met, it is answered for ever
after_end : {R : Type 0} (remaining : R → Option (List ℕ)) (l : Left R) (end : End) (answers : List (Result (Option Entry) CapFault)) → l.ended ≡ Some end
    → Calls remaining l answers → AreAnswers [] end answers
after_end remaining l end [] e p = tt
after_end remaining l end (a ∷ later) e (after, one, more) =
    let is = stopped remaining l after a end e one in
    inl (is.0, after_end remaining after end later (ap (λ x. x.ended) is.1 ∙ e) more)

after_failure : {R : Type 0} (remaining : R → Option (List ℕ)) (l : Left R) (answers : List (Result (Option Entry) CapFault)) → l.ended ≡ Some (Broken Read)
    → Calls remaining l answers → AreFailed answers
after_failure remaining l [] e p = tt
after_failure remaining l (a ∷ later) e (after, one, more) =
    let is = stopped remaining l after a (Broken Read) e one in
    (is.0, after_failure remaining after later (ap (λ x. x.ended) is.1 ∙ e) more)

known_at : (P : List ℕ → Type 0) (known : Option (List ℕ)) (octets : List ℕ) → known ≡ Some octets → IfSome known P → P octets
known_at P known octets e p = let Q : Option (List ℕ) → Type 0 = λ o. IfSome o P in subst Q e p

-- a record was answered
at_record : {R : Type 0} (remaining : R → Option (List ℕ)) (l after : Left R) (e : Entry) (octets : List ℕ) (es : List Entry) (end : End) (later : List (Result (Option Entry) CapFault))
    → octets_left remaining l ≡ Some octets → AreRecords l.format l.number octets es end
    → ReadsNext remaining l (Ok (Some e)) after → after.format ≡ l.format
    → (AreRecords after.format after.number (rest_after l.format octets) (drop 1 es) end → octets_left remaining after ≡ Some (rest_after l.format octets) → AreAnswers (drop 1 es) end later)
    → AreAnswers es end (Ok (Some e) ∷ later)
at_record remaining l after e octets [] Whole later known p r same more =
    absurd (let now = known_at _ (octets_left remaining l) octets known r.3 in fault_of_none l.format l.number octets p now.0)
at_record remaining l after e octets [] (Broken f) later known p r same more =
    absurd (let now = known_at _ (octets_left remaining l) octets known r.3 in let both = sym p.1 ∙ now.0 in cc)
at_record remaining l after e octets (x ∷ es) end later known p r same more =
    let now = known_at _ (octets_left remaining l) octets known r.3 in
    let is : x ≡ e = p.1 ∙ sym now.1 in
    let next : AreRecords after.format after.number (rest_after l.format octets) es end =
    subst (λ (f : Format). AreRecords f after.number (rest_after l.format octets) es end) (sym same)
    (subst (λ (k : ℕ). AreRecords l.format k (rest_after l.format octets) es end) (sym r.1) p.2) in
    inl (ap (λ (y : Entry). Ok (Some y)) (sym is), more next now.2)

-- the end was answered
at_end : {R : Type 0} (remaining : R → Option (List ℕ)) (l after : Left R) (octets : List ℕ) (es : List Entry) (end : End) (later : List (Result (Option Entry) CapFault))
    → octets_left remaining l ≡ Some octets → AreRecords l.format l.number octets es end
    → ReadsNext remaining l (Ok None) after → Calls remaining after later → AreAnswers es end (Ok None ∷ later)
at_end remaining l after octets [] Whole later known p r more = inl (refl, after_end remaining after Whole later r.0 more)
at_end remaining l after octets [] (Broken f) later known p r more = absurd (p.0 (known_at _ (octets_left remaining l) octets known r.2))
at_end remaining l after octets (x ∷ es) end later known p r more =
    absurd (fault_of_none l.format l.number octets (known_at _ (octets_left remaining l) octets known r.2) p.0)

-- a fault of the octets was answered
at_fault : {R : Type 0} (remaining : R → Option (List ℕ)) (l after : Left R) (f : CapFault) (octets : List ℕ) (es : List Entry) (end : End) (later : List (Result (Option Entry) CapFault))
    → AreRecords l.format l.number octets es end → octets ≢ [] → fault_at l.format l.number octets ≡ Some f
    → after.ended ≡ Some (Broken f) → Calls remaining after later → AreAnswers es end (Err f ∷ later)
at_fault remaining l after f octets [] Whole later p some is ended more = absurd (some p)
at_fault remaining l after f octets [] (Broken x) later p some is ended more =
    let same : x ≡ f = let both = sym p.1 ∙ is in cc in
    inl (ap (λ (y : CapFault). Err y) (sym same), subst (λ (y : CapFault). AreAnswers [] (Broken y) later) (sym same) (after_end remaining after (Broken f) later ended more))
at_fault remaining l after f octets (x ∷ es) end later p some is ended more = absurd (let both = sym p.0 ∙ is in cc)

pub answers_law : {R : Type 0} (remaining : R → Option (List ℕ)) (l : Left R) → AnswersRecords remaining l
answers_law remaining l octets es end [] begun known p calls = tt
answers_law remaining l octets es end (Ok (Some e) ∷ later) begun known p (after, one, more) =
    let now = going remaining l after (Ok (Some e)) begun one in
    at_record remaining l after e octets es end later known p now.0 now.1
    (λ next left. answers_law remaining after (rest_after l.format octets) (drop 1 es) end later now.0.0 left next more)
answers_law remaining l octets es end (Ok None ∷ later) begun known p (after, one, more) =
    let now = going remaining l after (Ok None) begun one in
    at_end remaining l after octets es end later known p now.0 more
answers_law remaining l octets es end (Err f ∷ later) begun known p (after, one, more) =
    let now = going remaining l after (Err f) begun one in
    elim (read_or_not f) [
      | inl read ↦ inr (ap (λ (y : CapFault). Err y) read, after_failure remaining after later (now.0.0 ∙ ap (λ (y : CapFault). Some (Broken y)) read) more)
      | inr other ↦ (let told = known_at _ (octets_left remaining l) octets known now.0.4 other in
          at_fault remaining l after f octets es end later p told.0 told.1 now.0.0 more)
    ]
