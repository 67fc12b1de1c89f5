use Rattle.std.proofs.Common.{◌≡◌, ◌≤◌, ◌+◌, ◌*◌, ◌^◌, ap, ◌∙◌, sym, length, take, drop, Some, rules, arith}
use Rattle.std.specs.List.{list_all}
use Rattle.std.proofs.lemmas.List.{drop-drop, length-drop, take-take}
use Rattle.text.specs.Numbers.{is_digit, value_behind}
use Rattle.text.proofs.FrontLaws.{begins}
use Rattle.text.proofs.DigitRunLaws.{joined_runs, tens}
use Rattle.text.proofs.words.numbers.long_number.Goals as goal

pub returns-then-more-eq0-clause-number : goal.returns-then-more-eq0-clause-number
returns-then-more-eq0-clause-number c =
    let same : c.args.number ≡ c.from.result = search rules in
    begins 16 _ c.args.octets.now _ (omega arith) c.requires.there (c.requires.value ∙ ap Some same) c.requires.rest

pub digits_of-last-requires-clause-digits : goal.digits_of-last-requires-clause-digits
digits_of-last-requires-clause-digits c =
    let more = c.digits_in_front-more.result in
    let front : c.in_ok-first_chunk.field-0.now ≡ take 16 c.args.rest.now = search rules in
    ap (list_all is_digit) (sym (take-take more 16 c.args.rest.now c.digits_in_front-more.ensures.within) ∙ ap (take more) (sym front)) ∙ c.digits_in_front-more.ensures.digits

pub returns-clause-number : goal.returns-clause-number
returns-clause-number c =
    let octets = c.args.octets.now in
    let more = c.digits_in_front-more.result in
    let number = c.args.number in
    let last = ap (λ xs. value_behind 10 0 (take more xs)) (sym c.requires.rest) ∙ c.digits_of-last.ensures.value in
    let few : more ≤ 8 = c.if-more-gt8.false in
    let there : 16 ≤ length c.args.rest.now = search (rules, arith) in
    let long : 16 + more ≤ length octets = omega (arith, there, ap length c.requires.rest, length-drop 16 octets, few) in
    let is : c.from-2.result * c.from-3.result + c.from-4.result ≡ number * 10 ^ more + c.digits_of-last.result =
    ap (λ x. x * c.from-3.result + c.from-4.result) c.from-2.ensures
    ∙ ap (λ x. number * x + c.from-4.result) (c.from-3.ensures ∙ tens more (omega (arith, few)))
    ∙ ap (λ x. number * 10 ^ more + x) c.from-4.ensures in
    begins (16 + more) _ octets _ (omega arith) long (joined_runs _ _ 16 more octets long c.requires.value last ∙ ap Some (sym is)) (c.split_at.ensures.back ∙ ap (drop more) c.requires.rest ∙ drop-drop more 16 octets)
