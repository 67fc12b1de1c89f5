use Rattle.std.proofs.Common.{◌≡◌, ◌≤◌, ◌-◌, ◌∷◌, [], length, get_or, take, drop, refl, sym, ap, ◌∙◌, rules, arith}
use Rattle.std.proofs.lemmas.List.{length-drop, take_all}
use Rattle.text.specs.Words.{words_of}
use Rattle.text.proofs.PlainWord.{pair_first}
use Rattle.text.proofs.words.cursor.Words.next_hex_pair.Goals as goal

pub returns-clause-word : goal.returns-clause-word
returns-clause-word c =
    let rest = c.args.self.now.rest.now in
    let there : 3 ≤ length rest = search (rules, arith) in
    let space : get_or rest 2 0 ≡ 32 = search (rules, arith) in
    let left : take (length rest - 3) (drop 3 rest) ≡ drop 3 rest = take_all (length rest - 3) (drop 3 rest) (omega (arith, length-drop 3 rest)) in (
      get_or rest 0 0 ∷ get_or rest 1 0 ∷ [],
      record { high = get_or rest 0 0; low = get_or rest 1 0; word_is = refl; front_is = c.in_ok-front.ensures.digit; behind_is = c.in_ok-behind.ensures.digit },
      pair_first rest there c.in_ok-front.ensures.dark c.in_ok-behind.ensures.dark space
          ∙ ap (λ w. (get_or rest 0 0 ∷ get_or rest 1 0 ∷ []) ∷ w) (sym (c.go_on.ensures.left ∙ ap words_of left)),
    )
