use Rattle.std.proofs.Common.{◌≡◌, ◌≤◌, ℕ, List, ◌∙◌, ◌+◌, [], refl, sym, ap, rules, arith, true, false, length, max, None, Some}
use Rattle.std.specs.Prelude.{nat_le}
use Rattle.text.specs.WordsLeft.{words_left}
use Rattle.text.specs.Numbers.{number_in}
use Rattle.wire_time.specs.declared.TheConstants.{PRIORITIES}
use Rattle.abstract_port.specs.Map.{map_of}
use Rattle.schedule_check.specs.Refusals.{map_if_good, map_on}
use Rattle.schedule_check.proofs.MapLaws.{map_end, map_full, map_more, map_wrong}
use Rattle.schedule_check.proofs.refusals.read_map.Goals as goal

pub loop-word-init : goal.loop-word-init
loop-word-init c = record {
  same = rw (c.new-classes.ensures, c.new-words.ensures.left) refl;
  few = omega arith;
}

pub returns-then-len-ge-PRIORITIES : goal.returns-then-len-ge-PRIORITIES
returns-then-len-ge-PRIORITIES c =
    let full : nat_le PRIORITIES (length c.loop-word.classes.items) ≡ true = search rules in
    sym (map_full c.loop-word.count c.loop-word.classes.items c.in-Some.word.now (words_left c.next_word.new.self) _ c.in-Some.ensures.word full) ∙ c.loop-word.invariant.same

pub returns-in_err-class : goal.returns-in_err-class
returns-in_err-class c =
    let few : nat_le PRIORITIES (length c.loop-word.classes.items) ≡ false = search rules in
    let none : number_in 10 7 c.in-Some.word.now ≡ None = sym c.number.ensures.number ∙ c.in_err-class.was in
    c.from_residual.ensures ∙ sym (map_wrong c.loop-word.count c.loop-word.classes.items c.in-Some.word.now (words_left c.next_word.new.self) _ c.in-Some.ensures.word few none) ∙ c.loop-word.invariant.same

pub loop-word-preserved : goal.loop-word-preserved
loop-word-preserved c =
    let class = c.in_ok-class.field-0 in
    let few : nat_le PRIORITIES (length c.loop-word.classes.items) ≡ false = search rules in
    let is : number_in 10 7 c.in-Some.word.now ≡ Some class = sym c.number.ensures.number ∙ c.in_ok-class.was in
    let within : class ≤ 7 = rw c.in_ok-class.was at c.number.ensures.bound in
    let more = map_more c.loop-word.count c.loop-word.classes.items c.in-Some.word.now (words_left c.next_word.new.self) _ c.in-Some.ensures.word few class is in
    record {
      same = ap (λ n. map_on n c.push.new.self.items (words_left c.next_word.new.self)) c.max-count.ensures
          ∙ (ap (λ (cs : List ℕ). map_on (max c.loop-word.count (class + 1)) cs (words_left c.next_word.new.self)) c.push.ensures.items
          ∙ (sym more ∙ c.loop-word.invariant.same));
      few = omega (arith, c.max-count.ensures, within, c.loop-word.invariant.few);
    }

pub returns : goal.returns
returns c =
    let none : words_left c.loop-word.words ≡ [] = search rules in
    let classes : c.as_slice.result.now ≡ c.loop-word.classes.items = search rules in
    c.map_of_classes.ensures ∙ ap (λ (cs : List ℕ). map_if_good (map_of c.loop-word.count cs)) classes ∙ sym (map_end c.loop-word.count c.loop-word.classes.items _ none) ∙ c.loop-word.invariant.same
