use Rattle.std.proofs.Common.{◌≡◌, ◌≤◌, ◌-◌, take, drop, length, sym, ap, ◌∙◌, subst, rules}
use Rattle.text.proofs.TextLaws.{ends_same}
use Rattle.text.proofs.words.cursor.are_same.Goals as goal

pub returns : goal.returns
returns g c = λ same.
    let octets = c.args.octets.now in
    let text = c.args.text.now in
    let long : length octets ≡ g.row.N = search rules in
    let like : length text ≡ g.row.N = search rules in
    let some : 8 ≤ g.row.N = subst (λ n. 8 ≤ n) long c.in-Some-Some.ensures.cases.enough in
    let front : take 8 octets ≡ take 8 text = sym c.in-Some-Some.ensures.cases.same ∙ (c.are_eight.ensures c.if-not-are_eight.false ∙ c.in-Some-Some.ensures'.cases.same) in
    let back : drop (g.row.N - 8) octets ≡ drop (g.row.N - 8) text =
    ap (λ n. drop (n - 8) octets) (sym long)
    ∙ (sym (c.in-Some-Some-2.ensures.cases.1).same ∙ (c.are_eight-2.ensures same ∙ ((c.in-Some-Some-2.ensures'.cases.1).same ∙ ap (λ n. drop (n - 8) text) like))) in
    ends_same octets text g.row.N long like c.if-this-gt16.false some front back
