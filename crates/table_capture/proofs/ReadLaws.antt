-- A record of a frame is read as that frame.
use Rattle.std.proofs.Common.{◌≡◌, ℕ, ◌+◌, ◌*◌, ◌/◌, ◌^◌, ◌<◌, ◌≤◌, Bool, true, false, cond, eqb, leb, max, min, List, [], ◌∷◌, ◌++◌, length, map, refl, sym, ap, ap₂, ◌∙◌, subst, arith}
use Rattle.std.specs.Prelude.{◌&&◌, ◌||◌, ◌==◌, not, slice_index, if◌then◌else◌}
use Rattle.std.proofs.lemmas.Bool.{eqb-true, le-leb}
use Rattle.wire_time.specs.declared.Frame.{Frame}
use Rattle.capture.specs.CaptureWriter.{written_format}
use Rattle.capture.specs.Captures.{IsCapture}
use Rattle.capture.specs.Layout.{AreWithin, IsSpelling, rounded}
use Rattle.capture.specs.Record.{frame_of, is_tagged}
use Rattle.capture.specs.Records.{Entry, IsWithin}
use Rattle.capture.specs.declared.format.Resolution.TheVariants.{Nanos}
use Rattle.capture.specs.declared.format.TheConstants.{MAX_RECORDS, MAX_RECORD_OCTETS}
use Rattle.capture.specs.declared.reader.End.TheVariants.{Whole}
use Rattle.std.specs.List.{AllByRecursion}
use Rattle.traffic.specs.declared.course.Coming.{Coming}
use Rattle.table_capture.specs.Carried.{AreCarried, IsCarried}
use Rattle.table_capture.specs.Law.{read_record, told_frame}
use Rattle.table_capture.specs.Octets.{addresses, body, captured_of, filled, frame_octets, front_of, has_tag, record_of, tag}
use Rattle.table_capture.specs.Outcome.{capture_of}
use Rattle.table_capture.proofs.Filled.{filled_at, filled_long}

-- ---- its tag

-- whether octets have a tag, by how many they are and by two of them
abbrev tag_test : ℕ → ℕ → ℕ → Bool
tag_test n a b = leb 16 n && (a == 0x81) && (b == 0)

abbrev front_by : Bool → Frame → List ℕ
front_by t f = addresses ++ (if t then tag f.priority ++ body f.id else body f.id)

-- octets that are filled up from a front
octet_is : (f : Frame) (t : Bool) (n i : ℕ) → has_tag f.tagged f.priority ≡ t → i < n → i < 22 → slice_index (filled n (front_of f)) i ≡ slice_index (front_by t f) i
octet_is f true n i e less few = ap (λ xs. slice_index (filled n xs) i) (ap (λ t. front_by t f) e) ∙ filled_at n (front_by true f) i less (omega (arith, few))
octet_is f false n i e less few = ap (λ xs. slice_index (filled n xs) i) (ap (λ t. front_by t f) e) ∙ filled_at n (front_by false f) i less (omega (arith, few))

tagged_is : (f : Frame) (t : Bool) (n : ℕ) → has_tag f.tagged f.priority ≡ t → (t ≡ true → 18 ≤ n) → is_tagged (filled n (front_of f)) ≡ t
tagged_is f true n e long =
    let most = long refl in
    let at12 = octet_is f true n 12 e (omega (arith, most)) (omega arith) in
    let at13 = octet_is f true n 13 e (omega (arith, most)) (omega arith) in
    let enough : leb 16 n ≡ true = le-leb 16 n (omega (arith, most)) in
    ap (λ k. tag_test k (slice_index (filled n (front_of f)) 12) (slice_index (filled n (front_of f)) 13)) (filled_long n (front_of f))
    ∙ ap (λ a. tag_test n a (slice_index (filled n (front_of f)) 13)) at12 ∙ ap (λ b. tag_test n 0x81 b) at13 ∙ ap (λ (t : Bool). t && true && true) enough
tagged_is f false n e long =
    ap (λ k. tag_test k (slice_index (filled n (front_of f)) 12) (slice_index (filled n (front_of f)) 13)) (filled_long n (front_of f)) ∙ by_test (leb 16 n) refl
  where
    by_test : (t : Bool) → leb 16 n ≡ t → tag_test n (slice_index (filled n (front_of f)) 12) (slice_index (filled n (front_of f)) 13) ≡ false
    by_test true g =
        let at12 = octet_is f false n 12 e (grind (arith, g)) (omega arith) in
        ap (λ a. tag_test n a (slice_index (filled n (front_of f)) 13)) at12 ∙ ap (λ (t : Bool). t && false && (slice_index (filled n (front_of f)) 13 == 0)) g
    by_test false g = ap (λ (t : Bool). t && (slice_index (filled n (front_of f)) 12 == 0x81) && (slice_index (filled n (front_of f)) 13 == 0)) g

-- ---- its priority

abbrev priority_by : Bool → List ℕ → ℕ
priority_by t octets = if t then slice_index octets 14 / 32 else 0

no_priority : (tagged : Bool) (priority : ℕ) → has_tag tagged priority ≡ false → 0 ≡ priority
no_priority true priority e = absurd cc
no_priority false priority e = by_test (eqb priority 0) refl e
  where
    by_test : (t : Bool) → eqb priority 0 ≡ t → not t ≡ false → 0 ≡ priority
    by_test true g h = sym (eqb-true priority 0 g)
    by_test false g h = absurd cc

priority_is : (f : Frame) (t : Bool) (n : ℕ) → has_tag f.tagged f.priority ≡ t → (t ≡ true → 18 ≤ n) → priority_by t (filled n (front_of f)) ≡ f.priority
priority_is f true n e long =
    let most = long refl in
    let at14 = octet_is f true n 14 e (omega (arith, most)) (omega arith) in
    ap (λ a. a / 32) at14 ∙ (let is : f.priority * 32 / 32 ≡ f.priority = omega arith in is)
priority_is f false n e long = no_priority f.tagged f.priority e

-- ---- the frame

long_enough : (f : Frame) → (has_tag f.tagged f.priority ≡ true → 18 ≤ f.len) → (t : Bool) → has_tag f.tagged f.priority ≡ t → t ≡ true → 18 ≤ captured_of f.len
long_enough f told t e is = (let most = told (e ∙ is) in omega (arith, most))

pub frame_read : (c : Coming) → IsCarried c → (number : ℕ) → frame_of (read_record c) number ≡ told_frame c.frame number
frame_read c is number =
    let f = c.frame in
    let n = captured_of f.len in
    let t = has_tag f.tagged f.priority in
    let long : t ≡ true → 18 ≤ n = long_enough f is.told t refl in
    let tagged : is_tagged (frame_octets f) ≡ t = tagged_is f t n refl long in
    let priority : priority_by t (frame_octets f) ≡ f.priority = priority_is f t n refl long in
    let len : max n f.len ≡ f.len = omega arith in
    let made : Bool → ℕ → ℕ → Frame = λ tagged priority len. record { id = number; priority = priority; len = len; tagged = tagged } in
    ap (λ (b : Bool). made b (priority_by b (frame_octets f)) (max n f.len)) tagged ∙ ap (λ p. made t p (max n f.len)) priority ∙ ap (made t f.priority) len

-- ---- the capture

-- a frame whose length has 32 bits
abbrev pub IsShort : Coming → Type 0
IsShort c = c.frame.len < 2 ^ 32

record_within : (c : Coming) → IsCarried c → IsShort c → IsWithin (record_of c)
record_within c is short = record {
  whole = filled_long (captured_of c.frame.len) (front_of c.frame);
  short = (let least : captured_of c.frame.len ≤ MAX_RECORD_OCTETS = omega arith in least);
  fits = short;
  early = is.moment;
}

all_within : (cs : List Coming) → AreCarried cs → AllByRecursion IsShort cs → AreWithin (map record_of cs)
all_within [] are short = tt
all_within (c ∷ cs) are short = (record_within c are.0 short.0, all_within cs are.1 short.1)

read_as : (cs : List Coming) → map (rounded Nanos) (map record_of cs) ≡ map read_record cs
read_as [] = refl
read_as (c ∷ cs) = ap (λ (es : List Entry). read_record c ∷ es) (read_as cs)

as_many : (cs : List Coming) → length (map record_of cs) ≡ length cs
as_many [] = refl
as_many (c ∷ cs) = (let rest = as_many cs in omega (arith, rest))

pub capture_read : IsSpelling → (cs : List Coming) → AreCarried cs → AllByRecursion IsShort cs → length cs ≤ MAX_RECORDS → IsCapture (capture_of cs) written_format (map read_record cs) Whole
capture_read spelling cs are short few =
    let P : List Entry → Type 0 = λ es. IsCapture (capture_of cs) written_format es Whole in
    subst P (read_as cs) (spelling written_format 0 0 MAX_RECORD_OCTETS (map record_of cs) (all_within cs are short) (let long = as_many cs in omega (arith, long, few)))
