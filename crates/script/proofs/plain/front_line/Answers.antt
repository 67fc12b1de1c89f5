use Rattle.std.proofs.Common.{◌≡◌, ◌≤◌, length, take, refl, rules, arith}
use Rattle.script.proofs.FrontLaws.{window_line}
use Rattle.script.proofs.plain.front_line.Goals as goal

pub returns-clause-line : goal.returns-clause-line
returns-clause-line c =
    let octets = c.args.octets.now in
    let there : 64 ≤ length octets = search (rules, arith) in
    let window : c.in_ok-window.window.now ≡ take 64 octets = search rules in
    window_line 64 _ octets _ _ _ there window c.in_ok-event.ensures refl
