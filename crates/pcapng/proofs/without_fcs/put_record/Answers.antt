use Rattle.std.proofs.Common.{◌≡◌, ◌+◌, ◌-◌, ◌++◌, ◌∙◌, ℕ, List, length, take, drop, ap, append_assoc, arith, length-append, length-take, length-drop}
use Rattle.std.proofs.lemmas.List.{take_all}
use Rattle.capture.specs.Numbers.{u32_at, u32_octets}
use Rattle.capture.proofs.WriterLemmas.{length-u32_octets}
use Rattle.pcapng.specs.WithoutFcs.{cut_with, cut_captured, cut_original}
use Rattle.pcapng.proofs.without_fcs.put_record.Goals as goal

joined : (before a b d : List ℕ) → ((before ++ a) ++ b) ++ d ≡ before ++ ((a ++ b) ++ d)
joined before a b d = simp append_assoc

pub returns-clause-put : goal.returns-clause-put
returns-clause-put g c =
    let e = c.args.endian in
    let whole = c.args.whole.now in
    let before = c.args.out.now.items in
    let n = c.cut_lengths-captured.result.0 in
    let o = c.cut_lengths-captured.result.1 in
    let at_8 : take (length whole - 8) (drop 8 whole) ≡ drop 8 whole = take_all (length whole - 8) (drop 8 whole) (omega (arith, length-drop 8 whole)) in
    let at_12 : take (length whole - 12) (drop 12 whole) ≡ drop 12 whole = take_all (length whole - 12) (drop 12 whole) (omega (arith, length-drop 12 whole)) in
    let said : c.read_u32-said.result ≡ u32_at e (drop 8 whole) = c.read_u32-said.ensures ∙ ap (u32_at e) at_8 in
    let frame : c.read_u32.result ≡ u32_at e (drop 12 whole) = c.read_u32.ensures ∙ ap (u32_at e) at_12 in
    let captured : n ≡ cut_captured (u32_at e (drop 8 whole)) (u32_at e (drop 12 whole)) =
    c.cut_lengths-captured.ensures.captured ∙ ap (λ (k : ℕ). cut_captured k c.read_u32.result) said ∙ ap (cut_captured (u32_at e (drop 8 whole))) frame in
    let original : o ≡ cut_original (u32_at e (drop 12 whole)) = c.cut_lengths-captured.ensures.original ∙ ap cut_original frame in
    let size : 16 + n - 16 ≡ n = omega arith in
    let first : c.put_all.new.out.items ≡ before ++ take 8 whole =
    c.put_all.ensures.items ∙ ap (λ (l : List ℕ). l ++ take 8 whole) c.in_ok-reserve.ensures.items in
    let second : c.put_all-2.new.out.items ≡ (before ++ take 8 whole) ++ (u32_octets e n ++ u32_octets e o) =
    c.put_all-2.ensures.items ∙ ap (λ (l : List ℕ). l ++ c.lengths_octets-lengths.result) first
    ∙ ap (λ (l : List ℕ). (before ++ take 8 whole) ++ l) c.lengths_octets-lengths.ensures in
    let third : c.put_all-3.new.out.items ≡ ((before ++ take 8 whole) ++ (u32_octets e n ++ u32_octets e o)) ++ take n (drop 16 whole) =
    c.put_all-3.ensures.items ∙ ap (λ (l : List ℕ). l ++ take (16 + n - 16) (drop 16 whole)) second
    ∙ ap (λ (k : ℕ). ((before ++ take 8 whole) ++ (u32_octets e n ++ u32_octets e o)) ++ take k (drop 16 whole)) size in
    third ∙ joined before (take 8 whole) (u32_octets e n ++ u32_octets e o) (take n (drop 16 whole))
    ∙ ap (λ (k : ℕ). before ++ cut_with e whole k o) captured
    ∙ ap (λ (k : ℕ). before ++ cut_with e whole (cut_captured (u32_at e (drop 8 whole)) (u32_at e (drop 12 whole))) k) original

pub put_all-requires-3 : goal.put_all-requires-3
put_all-requires-3 g c =
    let e = c.args.endian in
    let whole = c.args.whole.now in
    let n = c.cut_lengths-captured.result.0 in
    let o = c.cut_lengths-captured.result.1 in
    let lengths = c.lengths_octets-lengths.result in
    let eight : length lengths ≡ 8 =
    omega (arith, ap length c.lengths_octets-lengths.ensures, length-append (u32_octets e n) (u32_octets e o), length-u32_octets e n, length-u32_octets e o) in
    let first : length c.put_all.new.out.items ≡ length c.reserve.new.self.items + length (take 8 whole) =
    ap length c.put_all.ensures.items ∙ length-append c.reserve.new.self.items (take 8 whole) in
    let second : length c.put_all-2.new.out.items ≡ length c.put_all.new.out.items + length lengths =
    ap length c.put_all-2.ensures.items ∙ length-append c.put_all.new.out.items lengths in
    omega (
      arith,
      first,
      second,
      eight,
      length-take 8 whole,
      length-take (16 + n - 16) (drop 16 whole),
      ap length c.in_ok-reserve.ensures.items,
      c.in_ok-reserve.ensures.ok,
      c.put_all.ensures.room,
      c.put_all-2.ensures.room,
    )
