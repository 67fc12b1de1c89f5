use Rattle.std.proofs.Common.{sym, rules}
use Rattle.text.proofs.FrontLaws.{behind_is, first_is, space_first}
use Rattle.text.proofs.words.cursor.split_front.Goals as goal

pub returns-in-32-clause-first : goal.returns-in-32-clause-first
returns-in-32-clause-first c =
    let octets = c.args.octets.now in
    let number = c.in_ok-number.number in
    let rest = c.in_ok-number.rest.now in
    let space = space_first rest c.in-32.len_at_least (search rules) in
    record {
      number = first_is number octets rest c.in_ok-number.ensures.number space.0 space.1;
      left = sym (behind_is number octets rest c.in_ok-number.ensures.number space.0 space.1);
    }
