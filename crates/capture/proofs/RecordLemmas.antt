-- A record that is held is the record at the front of what comes.
use Rattle.std.proofs.Common.{◌≡◌, ℕ, ◌+◌, ◌≤◌, ◌<◌, Bool, true, false, cond, ltb, leb, List, [], ◌∷◌, ◌++◌, length, take, drop, None, Some, Result, Ok, Err, inl, inr, refl, sym, ap, subst, ◌∙◌, arith, append-nil}
use Rattle.std.specs.Prelude.{◌≢◌, IfSome, IsTrue}
use Rattle.std.proofs.lemmas.List.{take-append-le, drop-append-le, drop-drop, length-append, length-drop}
use Rattle.std.proofs.lemmas.Bool.{cases_lt, le-leb, le-ltb, lt-ltb}
use Rattle.std.specs.Io.KnownBytes.{Keeps, IsAtEnd, prepend_known}
use Rattle.std.specs.declared.option.Option.{Option}
use Rattle.capture.specs.Words.{big_from-append, little_from-append, CapFault, ShortRecord, LongRecord, BadFraction, TooManyRecords, Read, Endian, Big, Little, Format, RecordHeader, MAX_RECORDS, MAX_RECORD_OCTETS, ReadAhead, last_given, u32_at, fractions_of, header_at, rest_after, header_fault, ok_unless, fault_with, fault_at, Step, is_record_fault}
use Rattle.std.specs.Option.{option_or}

pub u32_at-front : (endian : Endian) (xs ys : List ℕ) → 4 ≤ length xs → u32_at endian (xs ++ ys) ≡ u32_at endian xs
u32_at-front Big xs ys le = big_from-append 4 xs ys le
u32_at-front Little xs ys le = little_from-append 4 xs ys le

pub u32_at-inner : (endian : Endian) (k : ℕ) (xs ys : List ℕ) → k + 4 ≤ length xs → u32_at endian (drop k (xs ++ ys)) ≡ u32_at endian (drop k xs)
u32_at-inner endian k xs ys le =
    let fits : k ≤ length xs = omega arith in
    let room : 4 ≤ length (drop k xs) = omega (arith, length-drop k xs) in
    ap (u32_at endian) (drop-append-le k xs ys fits) ∙ u32_at-front endian (drop k xs) ys room

-- the head is read of the first 16 octets
pub header_at-front : (format : Format) (xs ys : List ℕ) → 16 ≤ length xs → header_at format (xs ++ ys) ≡ header_at format xs
header_at-front format xs ys le =
    let a = u32_at-front format.endian xs ys (omega arith) in
    let b = u32_at-inner format.endian 4 xs ys (omega arith) in
    let d = u32_at-inner format.endian 8 xs ys (omega arith) in
    let e = u32_at-inner format.endian 12 xs ys (omega arith) in
    rw (a, b, d, e) refl

-- what is known to come, where a part of it is held
pub record Holds (octets held : List ℕ) (after : Option (List ℕ)) : Type 0 where
  pub rest : List ℕ
  pub known : after ≡ Some rest
  pub whole : octets ≡ held ++ rest

pub Holds-from : (octets held : List ℕ) (after : Option (List ℕ)) → Keeps (Some octets) (prepend_known held after) → Holds octets held after
Holds-from octets held None k = absurd k
Holds-from octets held (Some rest) k = record { rest = rest; known = refl; whole = sym k }

no_fault : (o : Option CapFault) → ok_unless o ≡ Ok tt → o ≡ None
no_fault None e = refl
no_fault (Some f) e = absurd cc

pub is_record : {A : Type 0} (format : Format) (number : ℕ) (octets held1 held2 held3 : List ℕ) (o1 o2 : Option (List ℕ)) (head : RecordHeader) (w : ReadAhead A)
    → Keeps (Some octets) (prepend_known held1 o1) → 16 ≤ length held1
    → head ≡ header_at format held1 → ok_unless (header_fault format number head) ≡ Ok tt
    → Keeps (prepend_known held1 o1) (prepend_known held2 o2) → 16 + head.captured ≤ length held2
    → last_given w head.captured ≡ take head.captured (drop 16 held2) → held3 ≡ drop head.captured (drop 16 held2)
    → Step format number octets (Ok (Some head)) w (prepend_known held3 o2)
is_record {A} format number octets held1 held2 held3 o1 o2 head w k1 long1 h ok k2 long2 last left =
    let a = Holds-from octets held1 o1 k1 in
    let b = Holds-from octets held2 o2 (subst (λ x. Keeps x (prepend_known held2 o2)) (ap Some (sym a.whole)) (subst (λ o. Keeps (prepend_known held1 o) (prepend_known held2 o2)) a.known k2)) in
    let is : header_at format octets ≡ head = ap (header_at format) a.whole ∙ header_at-front format held1 a.rest long1 ∙ sym h in
    let long : 16 + head.captured ≤ length octets = omega (arith, ap length b.whole, length-append held2 b.rest) in
    let t1 : ltb (length octets) 16 ≡ false = le-ltb _ _ (omega arith) in
    let t2 : ltb (length octets) (16 + head.captured) ≡ false = le-ltb _ _ long in
    let inner : drop 16 octets ≡ drop 16 held2 ++ b.rest = ap (drop 16) b.whole ∙ drop-append-le 16 held2 b.rest (omega arith) in
    let room : head.captured ≤ length (drop 16 held2) = omega (arith, length-drop 16 held2) in
    let took : take head.captured (drop 16 octets) ≡ take head.captured (drop 16 held2) = ap (take head.captured) inner ∙ take-append-le head.captured (drop 16 held2) b.rest room in
    let rest : rest_after format octets ≡ held3 ++ b.rest =
    ap (λ (x : RecordHeader). drop (16 + x.captured) octets) is ∙ sym (drop-drop head.captured 16 octets) ∙ ap (drop head.captured) inner ∙ drop-append-le head.captured (drop 16 held2) b.rest room ∙ ap (λ (l : List ℕ). l ++ b.rest) (sym left) in (
      rw t1 (ap (fault_with format number (length octets)) is ∙ ap (λ (o : Option CapFault). option_or o (cond (ltb (length octets) (16 + head.captured)) (Some ShortRecord) None)) (no_fault (header_fault format number head) ok) ∙ rw t2 refl),
      sym is,
      last ∙ sym took,
      ap (prepend_known held3) b.known ∙ ap Some (sym rest),
    )

pub when_known : (o : Option (List ℕ)) (P : List ℕ → Type 0) → ((octets : List ℕ) → o ≡ Some octets → P octets) → IfSome o P
when_known None P f = tt
when_known (Some octets) P f = f octets refl

-- ---- octets that end within a record

short_head : (format : Format) (number : ℕ) (held : List ℕ) → length held < 16 → fault_at format number held ≡ Some ShortRecord
short_head format number held short = rw (lt-ltb _ _ short) refl

long_head : (format : Format) (number : ℕ) (held : List ℕ) → 16 ≤ length held → fault_at format number held ≡ fault_with format number (length held) (header_at format held)
long_head format number held long = rw (le-ltb _ _ long) refl

short_octets : (format : Format) (number : ℕ) (held : List ℕ) (head : RecordHeader) → 16 ≤ length held → head ≡ header_at format held → ok_unless (header_fault format number head) ≡ Ok tt
    → length held < 16 + head.captured → fault_at format number held ≡ Some ShortRecord
short_octets format number held head long is ok short =
    long_head format number held long ∙ ap (fault_with format number (length held)) (sym is)
    ∙ ap (λ (o : Option CapFault). option_or o (cond (ltb (length held) (16 + head.captured)) (Some ShortRecord) None)) (no_fault (header_fault format number head) ok)
    ∙ rw (lt-ltb _ _ short) refl

-- octets in hand that hold the head, or the record
pub head_held : (format : Format) (number : ℕ) (held : List ℕ) → fault_at format number held ≢ Some ShortRecord → 16 ≤ length held
head_held format number held never =
    elim (cases_lt (length held) 16) [
      | inl short ↦ absurd (never (short_head format number held short))
      | inr long ↦ long
    ]

pub record_held : (format : Format) (number : ℕ) (held : List ℕ) (head : RecordHeader) → fault_at format number held ≢ Some ShortRecord → head ≡ header_at format held → ok_unless (header_fault format number head) ≡ Ok tt
    → 16 + head.captured ≤ length held
record_held format number held head never is ok =
    elim (cases_lt (length held) (16 + head.captured)) [
      | inl short ↦ absurd (never (short_octets format number held head (head_held format number held never) is ok short))
      | inr long ↦ long
    ]

-- and that don't
pub head_wanting : (format : Format) (number : ℕ) (held : List ℕ) → (16 ≤ length held → ⊥) → fault_at format number held ≡ Some ShortRecord
head_wanting format number held never =
    elim (cases_lt (length held) 16) [
      | inl short ↦ short_head format number held short
      | inr long ↦ absurd (never long)
    ]

pub record_wanting : (format : Format) (number : ℕ) (held : List ℕ) (head : RecordHeader) → (16 ≤ length held → head ≡ header_at format held) → ok_unless (header_fault format number head) ≡ Ok tt
    → (16 ≤ length held → 16 + head.captured ≤ length held → ⊥) → fault_at format number held ≡ Some ShortRecord
record_wanting format number held head is ok never =
    elim (cases_lt (length held) 16) [
      | inl short ↦ short_head format number held short
      | inr long ↦ elim (cases_lt (length held) (16 + head.captured)) [
        | inl short ↦ short_octets format number held head long (is long) ok short
        | inr whole ↦ absurd (never long whole)
      ]
    ]

-- ---- what is answered then

pub nothing_left : (known after : Option (List ℕ)) (held : List ℕ) → Keeps known (prepend_known held after) → IsAtEnd after → length held ≡ 0 → IfSome known (λ octets. octets ≡ [])
nothing_left None after held k end none = tt
nothing_left (Some octets) None held k end none = absurd k
nothing_left (Some octets) (Some rest) [] k end none = sym k ∙ end
nothing_left (Some octets) (Some rest) (b ∷ bs) k end none = absurd (omega arith)

pub read_failed : (format : Format) (number : ℕ) (known : Option (List ℕ)) (f : CapFault) → f ≡ Read → IfSome known (λ octets. f ≢ Read → (octets ≢ []) × (fault_at format number octets ≡ Some f))
read_failed format number None f is = tt
read_failed format number (Some octets) f is = λ never. absurd (never is)

pub head_short : (format : Format) (number : ℕ) (known after : Option (List ℕ)) (held : List ℕ) → Keeps known (prepend_known held after) → IsAtEnd after → length held < 16 → (length held ≡ 0 → ⊥)
    → IfSome known (λ octets. ShortRecord ≢ Read → (octets ≢ []) × (fault_at format number octets ≡ Some ShortRecord))
head_short format number None after held k end short some = tt
head_short format number (Some octets) None held k end short some = absurd k
head_short format number (Some octets) (Some rest) held k end short some =
    let whole : octets ≡ held = sym k ∙ ap (λ (l : List ℕ). held ++ l) end ∙ append-nil held in
    λ _. (λ none. some (ap length (sym whole ∙ none)), ap (fault_at format number) whole ∙ short_head format number held short)

fault_told : (o : Option CapFault) (f : CapFault) → Err f ≡ ok_unless o → o ≡ Some f
fault_told None f e = absurd cc
fault_told (Some g) f e = cc

pub head_faulty : (format : Format) (number : ℕ) (known after : Option (List ℕ)) (held : List ℕ) (head : RecordHeader) (f : CapFault) → Keeps known (prepend_known held after) → 16 ≤ length held
    → head ≡ header_at format held → Err f ≡ ok_unless (header_fault format number head) → IfSome known (λ octets. f ≢ Read → (octets ≢ []) × (fault_at format number octets ≡ Some f))
head_faulty format number None after held head f k long is bad = tt
head_faulty format number (Some octets) after held head f k long is bad =
    let a = Holds-from octets held after k in
    let same : header_at format octets ≡ head = ap (header_at format) a.whole ∙ header_at-front format held a.rest long ∙ sym is in
    let enough : 16 ≤ length octets = omega (arith, long, ap length a.whole, length-append held a.rest) in
    λ _. (
      λ none. omega (arith, enough, ap length none),
      long_head format number octets enough ∙ ap (fault_with format number (length octets)) same
          ∙ ap (λ (o : Option CapFault). option_or o (cond (ltb (length octets) (16 + head.captured)) (Some ShortRecord) None)) (fault_told (header_fault format number head) f bad),
    )

pub record_short : (format : Format) (number : ℕ) (known o1 o2 : Option (List ℕ)) (held1 held2 : List ℕ) (head : RecordHeader) → Keeps known (prepend_known held1 o1) → 16 ≤ length held1
    → head ≡ header_at format held1 → ok_unless (header_fault format number head) ≡ Ok tt → Keeps (prepend_known held1 o1) (prepend_known held2 o2) → IsAtEnd o2 → length held2 < 16 + head.captured
    → IfSome known (λ octets. ShortRecord ≢ Read → (octets ≢ []) × (fault_at format number octets ≡ Some ShortRecord))
record_short format number None o1 o2 held1 held2 head k1 long is ok k2 end short = tt
record_short format number (Some octets) o1 o2 held1 held2 head k1 long is ok k2 end short =
    let a = Holds-from octets held1 o1 k1 in
    let b = Holds-from octets held2 o2 (subst (λ x. Keeps x (prepend_known held2 o2)) (ap Some (sym a.whole)) (subst (λ o. Keeps (prepend_known held1 o) (prepend_known held2 o2)) a.known k2)) in
    let same : header_at format octets ≡ head = ap (header_at format) a.whole ∙ header_at-front format held1 a.rest long ∙ sym is in
    let enough : 16 ≤ length octets = omega (arith, long, ap length a.whole, length-append held1 a.rest) in
    let none : b.rest ≡ [] = subst IsAtEnd b.known end in
    let few : length octets < 16 + head.captured = omega (arith, short, ap length b.whole, length-append held2 b.rest, ap length none) in
    λ _. (λ nil. omega (arith, enough, ap length nil), short_octets format number octets head enough (sym same) ok few)

bad_fraction : (long many : Bool) → ok_unless (cond long (Some LongRecord) (cond true (Some BadFraction) (cond many (Some TooManyRecords) None))) ≡ Ok tt → ⊥
bad_fraction true many e = cc
bad_fraction false many e = cc

pub small_fraction : (format : Format) (number : ℕ) (head : RecordHeader) → ok_unless (header_fault format number head) ≡ Ok tt → head.fraction < fractions_of format.resolution
small_fraction format number head ok =
    elim (cases_lt head.fraction (fractions_of format.resolution)) [
      | inl small ↦ small
      | inr big ↦ absurd (bad_fraction (ltb MAX_RECORD_OCTETS head.captured) (leb MAX_RECORDS number) (rw (le-leb (fractions_of format.resolution) head.fraction big) at ok))
    ]

-- ---- answers that are none of a failed read

pub not_failed : {P : Type 0} (x : Option RecordHeader) → Ok x ≡ Err Read → P
not_failed x e = absurd cc

pub short_not_failed : {P : Type 0} (r : Result (Option RecordHeader) CapFault) → r ≡ Err ShortRecord → r ≡ Err Read → P
short_not_failed r short failed = absurd cc

pub failed_not_held : (f : CapFault) → Err f ≡ Ok true → ⊥
failed_not_held f e = cc

none_reads : (long bad many : Bool) → ok_unless (cond long (Some LongRecord) (cond bad (Some BadFraction) (cond many (Some TooManyRecords) None))) ≡ Err Read → ⊥
none_reads true bad many e = cc
none_reads false true many e = cc
none_reads false false true e = cc
none_reads false false false e = cc

pub header_not_failed : {P : Type 0} (format : Format) (number : ℕ) (head : RecordHeader) (f : CapFault) (r : Result (Option RecordHeader) CapFault) → Err f ≡ ok_unless (header_fault format number head) → r ≡ Err f → r ≡ Err Read → P
header_not_failed format number head f r bad is failed =
    let read : f ≡ Read = cc in
    absurd (none_reads (ltb MAX_RECORD_OCTETS head.captured) (leb (fractions_of format.resolution) head.fraction) (leb MAX_RECORDS number) (sym bad ∙ ap Err read))

fault_kind : (long bad many : Bool) (f : CapFault) → cond long (Some LongRecord) (cond bad (Some BadFraction) (cond many (Some TooManyRecords) None)) ≡ Some f → IsTrue (is_record_fault f)
fault_kind true bad many f e = let is : f ≡ LongRecord = cc in rw is refl
fault_kind false true many f e = let is : f ≡ BadFraction = cc in rw is refl
fault_kind false false true f e = let is : f ≡ TooManyRecords = cc in rw is refl
fault_kind false false false f e = absurd cc

pub header_fault_kind : (format : Format) (number : ℕ) (head : RecordHeader) (f : CapFault) → Err f ≡ ok_unless (header_fault format number head) → IsTrue (is_record_fault f)
header_fault_kind format number head f bad =
    fault_kind (ltb MAX_RECORD_OCTETS head.captured) (leb (fractions_of format.resolution) head.fraction) (leb MAX_RECORDS number) f (fault_told (header_fault format number head) f bad)
