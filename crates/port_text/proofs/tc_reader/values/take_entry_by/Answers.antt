use Rattle.std.proofs.Common.{length, ◌≡◌, ◌+◌, ◌-◌, ◌^◌, List, ◌∷◌, true, Ok, sym, ap, subst, ◌∙◌, rules, arith}
use Rattle.std.specs.Prelude.{codes}
use Rattle.port_text.specs.Words.{number_in, words_left, words_taken, Word, hex_in, value_at, SchedEntry}
use Rattle.port_text.proofs.PlainLemmas.{plain_entry}
use Rattle.port_text.proofs.tc_reader.values.take_entry_by.Goals as goal

pub returns : goal.returns
returns c =
    let place = words_taken c.args.words.now in
    let behind = words_left c.skip_text.new.self in
    let skips : c.skip_text.result ≡ true = search rules in
    let skipped = c.skip_text.ensures.left skips in
    let second : words_taken c.skip_text.new.self ≡ place + 2 = c.skip_text.ensures.taken skips in
    let third : words_taken c.take_plain_mask.new.words ≡ place + 3 = omega (arith, c.in_ok-mask.ensures.place, second) in
    let stands : words_left c.args.words.now ≡ codes "sched-entry" ∷ codes "S" ∷ behind = skipped.1 ∙ ap (λ (ws : List Word). codes "sched-entry" ∷ codes "S" ∷ ws) (sym skipped.2) in
    let masked = subst (λ n. value_at SchedEntry (hex_in 255) n behind ≡ Ok (c.in_ok-mask.mask, words_left c.take_plain_mask.new.words)) second c.in_ok-mask.ensures.value in
    let timed = subst (λ n. value_at SchedEntry (number_in 10 (2 ^ 32 - 1)) n (words_left c.take_plain_mask.new.words) ≡ Ok (c.in_ok-interval.interval, words_left c.take_interval.new.words)) third c.in_ok-interval.ensures.value in
    let moved = c.in_ok-interval.ensures.moves in
    record {
      entry = (codes "sched-entry", codes "S" ∷ behind, stands, plain_entry place behind (words_left c.take_plain_mask.new.words) (words_left c.take_interval.new.words) c.in_ok-mask.mask c.in_ok-interval.interval masked timed);
      moves = (omega (arith, moved.0, c.take_plain_mask.ensures.moves.0, second, ap length stands), omega (arith, third, moved.1));
      onward = omega (arith, third, moved.1);
    }
