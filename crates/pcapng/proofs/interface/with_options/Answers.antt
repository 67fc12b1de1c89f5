use Rattle.std.proofs.Common.{◌≡◌, ◌≤◌, ◌-◌, ℕ, List, length, take, drop, Ok, Err, ap, subst, sym, ◌∙◌, arith, length-drop}
use Rattle.std.proofs.lemmas.List.{take_all, drop-drop}
use Rattle.pcapng.specs.Interfaces.{first_option, told, with_options}
use Rattle.pcapng.proofs.OptionLaws.{option_taken, option_fault}
use Rattle.pcapng.proofs.interface.with_options.Goals as goal

pub loop-at-preserved : goal.loop-at-preserved
loop-at-preserved c =
    let xs = c.args.octets.now in
    let at = c.loop-at.at in
    let e = c.args.endian in
    let n = c.in-Ok.count in
    let old = c.loop-at.interface in
    let new = c.take_option.new.interface in
    let whole : take (length xs - at) (drop at xs) ≡ drop at xs = take_all (length xs - at) (drop at xs) (omega (arith, length-drop at xs)) in
    let is : first_option e old (drop at xs) ≡ told n (Ok new) = subst (λ (l : List ℕ). first_option e old l ≡ told n (Ok new)) whole c.in-Ok.ensures.told in
    let most : n ≤ length (drop at xs) = subst (λ (l : List ℕ). n ≤ length l) whole c.in-Ok.ensures.count.1 in
    let taken = option_taken e old new (drop at xs) n is c.in-Ok.ensures.count.0 most in
    record {
      same = c.loop-at.invariant.same ∙ taken ∙ ap (with_options e new) (drop-drop n at xs);
      bound = omega (arith, most, length-drop at xs, c.loop-at.invariant.bound);
    }

pub returns-in-Err : goal.returns-in-Err
returns-in-Err c =
    let xs = c.args.octets.now in
    let at = c.loop-at.at in
    let e = c.args.endian in
    let old = c.loop-at.interface in
    let whole : take (length xs - at) (drop at xs) ≡ drop at xs = take_all (length xs - at) (drop at xs) (omega (arith, length-drop at xs)) in
    let is = subst (λ (l : List ℕ). (first_option e old l).state ≡ Err c.in-Err.kind) whole c.in-Err.ensures.fault in
    sym (c.loop-at.invariant.same ∙ option_fault e old (drop at xs) c.in-Err.kind is (omega (arith, length-drop at xs, c.loop-at-test.true)))
