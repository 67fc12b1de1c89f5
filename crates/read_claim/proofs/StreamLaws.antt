-- What is known of a stream that a line says.
use Rattle.std.proofs.Common.{◌≡◌, ◌<◌, ◌≤◌, ℕ, zero, suc, ◌-◌, ◌^◌, ◌==◌, nat_le, Bool, true, false, cond, List, [], ◌∷◌, Option, Some, None, unwrap_or, Result, Ok, Err, refl, subst, arith}
use Rattle.std.specs.Prelude.{codes}
use Rattle.std.specs.Str.{bytes_eq}
use Rattle.std.proofs.lemmas.Bool.{eqb-false, leb-true}
use Rattle.std.proofs.lemmas.Option.{cond_some}
use Rattle.wire_time.specs.Moment.{greatest_moment}
use Rattle.text.specs.Numbers.{number_in}
use Rattle.text.specs.Times.{time_in}
use Rattle.text.specs.Words.{words_of}
use Rattle.script.specs.Requests.{is_comment}
use Rattle.script.specs.declared.faults.ScriptFault.{ScriptFault}
use Rattle.script.specs.declared.faults.ScriptFault.TheVariants.{BadNumber, UnknownLine, WordCount}
use Rattle.traffic.specs.Parts.{are_parts, by_part, ends_in, length_of, said_as, said_by, tagged_in, time_of, value_of, values_in}
use Rattle.traffic.specs.Table.{IsSaid, by_ends, by_number, by_offset, by_word, in_line, line_said, offset_at, offset_in, shortest_of, stream_in_words, stream_said}
use Rattle.traffic.specs.declared.table.Stream.{Stream}
use Rattle.network.specs.Lines.{front_at, stream_said as read_stream, stream_with, via_in}
use Rattle.network.specs.declared.network_table.faults.NetworkFault.TheVariants as Faults
use Rattle.read_claim.proofs.WordLaws.{no_ok, number_law, same_ok, time_law}

-- A stream is one that a line says, and has a period; its lengths are numbers of 32 bits.
pub record IsReadStream (x : Stream) : Type 0 where
  pub said : IsSaid x
  pub period : 0 < x.period
  pub len : x.len < 2 ^ 32

-- ---- what stands at the end of a line

part_ok : (r : Result (Option ℕ) ScriptFault) (f : Option ℕ → Result _ ScriptFault) (y : _) → by_part r f ≡ Ok y
    → (x : Option ℕ) × (r ≡ Ok x) × (f x ≡ Ok y)
part_ok (Ok x) f y e = (x, refl, e)
part_ok (Err fault) f y e = no_ok fault y e

-- a time that is said, or none
said_time : (o : Option (List ℕ)) (t : Option ℕ) → said_by (time_in greatest_moment) o ≡ Ok t → unwrap_or t 0 ≤ greatest_moment
said_time None t e = subst (λ (u : Option ℕ). unwrap_or u 0 ≤ greatest_moment) (same_ok None t e) (omega arith)
said_time (Some w) t e = by (time_in greatest_moment w) refl e
  where
    by : (u : Option ℕ) → time_in greatest_moment w ≡ u → said_as u ≡ Ok t → unwrap_or t 0 ≤ greatest_moment
    by None is same = no_ok BadNumber t same
    by (Some n) is same =
        subst (λ (v : Option ℕ). unwrap_or v 0 ≤ greatest_moment) (same_ok (Some n) t same) (time_law greatest_moment w n is)

values_law : (tagged : Bool) (ws : List (List ℕ)) (ends : _) → values_in tagged ws ≡ Ok ends → unwrap_or ends.jitter 0 ≤ greatest_moment
values_law tagged ws ends e =
    let one = part_ok (length_of (codes "shortest") ws) _ ends e in
    let two = part_ok (time_of (codes "jitter") ws) _ ends one.2 in
    let three = part_ok (time_of (codes "deadline") ws) _ ends two.2 in
    subst (λ y. unwrap_or y.jitter 0 ≤ greatest_moment) (same_ok _ ends three.2) (said_time (value_of (codes "jitter") ws) two.0 two.1)

ends_law : (ws : List (List ℕ)) (ends : _) → ends_in ws ≡ Ok ends → unwrap_or ends.jitter 0 ≤ greatest_moment
ends_law ws ends e = by (are_parts (tagged_in ws).1) e
  where
    by : (t : Bool) → cond t (values_in (tagged_in ws).0 (tagged_in ws).1) (Err WordCount) ≡ Ok ends → unwrap_or ends.jitter 0 ≤ greatest_moment
    by true is = values_law (tagged_in ws).0 (tagged_in ws).1 ends is
    by false is = no_ok WordCount ends is

-- ---- the words of a line

number_ok : (o : Option ℕ) (f : ℕ → Result Stream ScriptFault) (y : Stream) → by_number o f ≡ Ok y → (n : ℕ) × (o ≡ Some n) × (f n ≡ Ok y)
number_ok None f y e = no_ok BadNumber y e
number_ok (Some n) f y e = (n, refl, e)

offset_ok : (r : Result (Option ℕ) ScriptFault) (f : Option ℕ → Result Stream ScriptFault) (y : Stream) → by_offset r f ≡ Ok y
    → (x : Option ℕ) × (r ≡ Ok x) × (f x ≡ Ok y)
offset_ok (Ok x) f y e = (x, refl, e)
offset_ok (Err fault) f y e = no_ok fault y e

word_ok : (ws : List (List ℕ)) (f : List ℕ → List (List ℕ) → Result Stream ScriptFault) (y : Stream) → by_word ws f ≡ Ok y
    → (w : List ℕ) × (more : List (List ℕ)) × (f w more ≡ Ok y)
word_ok [] f y e = no_ok WordCount y e
word_ok (w ∷ ws) f y e = (w, ws, e)

ends_ok : (r : Result _ ScriptFault) (f : _ → Result Stream ScriptFault) (y : Stream) → by_ends r f ≡ Ok y
    → (x : _) × (r ≡ Ok x) × (f x ≡ Ok y)
ends_ok (Ok x) f y e = (x, refl, e)
ends_ok (Err fault) f y e = no_ok fault y e

offset_law : (w : List ℕ) (offset : Option ℕ) → offset_in w ≡ Ok offset → unwrap_or offset 0 ≤ greatest_moment
offset_law w offset e = by (bytes_eq w (codes "any")) (time_in greatest_moment w) refl e
  where
    by : (t : Bool) (u : Option ℕ) → time_in greatest_moment w ≡ u → cond t (Ok None) (offset_at u) ≡ Ok offset → unwrap_or offset 0 ≤ greatest_moment
    by true u is same = subst (λ (v : Option ℕ). unwrap_or v 0 ≤ greatest_moment) (same_ok None offset same) (omega arith)
    by false None is same = no_ok BadNumber offset same
    by false (Some n) is same =
        subst (λ (v : Option ℕ). unwrap_or v 0 ≤ greatest_moment) (same_ok (Some n) offset same) (time_law greatest_moment w n is)

-- all that is known, without the period
pub record IsLine (x : Stream) : Type 0 where
  pub said : IsSaid x
  pub len : x.len < 2 ^ 32

below : (n : ℕ) → n ≤ 4294967295 → n < 2 ^ 32
below n le = omega (arith, le)

in_words_law : (id priority len period offset count : List ℕ) (ends : _) (x : Stream)
    → stream_in_words id priority len period offset count ends ≡ Ok x → unwrap_or ends.jitter 0 ≤ greatest_moment → IsLine x
in_words_law id priority len period offset count ends x e jitter =
    let a = number_ok (number_in 10 (2 ^ 64 - 1) id) _ x e in
    let b = number_ok (number_in 10 (2 ^ 8 - 1) priority) _ x a.2 in
    let c = number_ok (number_in 10 (2 ^ 32 - 1) len) _ x b.2 in
    let d = number_ok (time_in greatest_moment period) _ x c.2 in
    let f = offset_ok (offset_in offset) _ x d.2 in
    let g = number_ok (number_in 10 (2 ^ 32 - 1) count) _ x f.2 in
    let h = number_ok (shortest_of ends.shortest c.0) _ x g.2 in
    let short = cond_some (nat_le (unwrap_or ends.shortest c.0) c.0) (unwrap_or ends.shortest c.0) h.0 h.1 in
    subst IsLine (same_ok _ x h.2) (record {
      said = record {
        times = record {
          period = time_law greatest_moment period d.0 d.1;
          offset = offset_law offset f.0 f.1;
          jitter = jitter;
        };
        lengths = subst (λ (n : ℕ). n ≤ c.0) short.1 (leb-true (unwrap_or ends.shortest c.0) c.0 short.0);
      };
      len = below c.0 (number_law 10 (2 ^ 32 - 1) len c.0 c.1);
    })

said_law : (ws : List (List ℕ)) (x : Stream) → stream_said ws ≡ Ok x → IsLine x
said_law ws x e =
    let a = word_ok ws _ x e in
    let b = word_ok a.1 _ x a.2 in
    let c = word_ok b.1 _ x b.2 in
    let d = word_ok c.1 _ x c.2 in
    let f = word_ok d.1 _ x d.2 in
    let g = word_ok f.1 _ x f.2 in
    let h = ends_ok (ends_in g.1) (λ ends. stream_in_words a.0 b.0 c.0 d.0 f.0 g.0 ends) x g.2 in
    in_words_law a.0 b.0 c.0 d.0 f.0 g.0 h.0 x h.2 (ends_law g.1 h.0 h.1)

in_line_law : (r : Result Stream ScriptFault) (x : Stream) → in_line r ≡ Ok (Some x) → r ≡ Ok x
in_line_law (Ok y) x e = cc
in_line_law (Err fault) x e = no_ok fault (Some x) e

table_law : (ws : List (List ℕ)) (x : Stream) → line_said ws ≡ Ok (Some x) → IsLine x
table_law [] x e = absurd cc
table_law (w ∷ ws) x e = by (is_comment w) (bytes_eq w (codes "stream")) e
  where
    by : (t u : Bool) → cond t (Ok None) (cond u (in_line (stream_said ws)) (Err UnknownLine)) ≡ Ok (Some x) → IsLine x
    by true u is = absurd cc
    by false true is = said_law ws x (in_line_law (stream_said ws) x is)
    by false false is = no_ok UnknownLine (Some x) is

-- ---- a stream of a network

above : (n : ℕ) → (n == 0) ≡ false → 0 < n
above n other = by n (eqb-false n 0 other)
  where
    by : (m : ℕ) → (m ≡ 0 → ⊥) → 0 < m
    by zero none = absurd (none refl)
    by (suc m) none = omega arith

pub stream_law : (octets : List ℕ) (x : Stream) → read_stream octets ≡ Ok x → IsReadStream x
stream_law octets x e = by (line_said (words_of (front_at (via_in octets) octets))) refl e
  where
    with_period : (y : Stream) (t : Bool) → (y.period == 0) ≡ t → IsLine y → cond t (Err (Faults.Line BadNumber)) (Ok y) ≡ Ok x → IsReadStream x
    with_period y true none line is = no_ok (Faults.Line BadNumber) x is
    with_period y false none line is =
        subst IsReadStream (same_ok y x is) (record { said = line.said; period = above y.period none; len = line.len })

    by : (r : Result (Option Stream) ScriptFault) → line_said (words_of (front_at (via_in octets) octets)) ≡ r → stream_with r ≡ Ok x → IsReadStream x
    by (Err fault) read is = no_ok (Faults.Line fault) x is
    by (Ok None) read is = no_ok (Faults.Line WordCount) x is
    by (Ok (Some y)) read is = with_period y (y.period == 0) refl (table_law (words_of (front_at (via_in octets) octets)) y read) is
