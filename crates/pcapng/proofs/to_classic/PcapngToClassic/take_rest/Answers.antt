use Rattle.std.proofs.Common.{◌≡◌, ◌-◌, ◌∙◌, take, drop, length, refl, sym, ap, arith, length-drop}
use Rattle.std.specs.Prelude.{◌≢◌}
use Rattle.std.proofs.lemmas.List.{take_all}
use Rattle.capture.specs.Numbers.{u32_at}
use Rattle.pcapng.specs.declared.fault.BlockKind.TheVariants.{BadLength, ShortBlock}
use Rattle.pcapng.specs.Classic.{fails}
use Rattle.pcapng.specs.Classic.{step}
use Rattle.pcapng.specs.Steps.{GoesOn}
use Rattle.pcapng.specs.Reader.{reading, Takes}
use Rattle.pcapng.proofs.ReadingLaws.{if_ok, failed_goes_on, rest_bad_later, rest_short_last, rest_goes_on, part_goes_on, moved}
use Rattle.pcapng.proofs.to_classic.PcapngToClassic.take_rest.Goals as goal

pub returns-then-read_u32-passage-clause-goes_on : goal.returns-then-read_u32-passage-clause-goes_on
returns-then-read_u32-passage-clause-goes_on g c =
    let old = c.args.self.now in
    let new = c.fail.new.self in
    let p = c.args.passage in
    let octets = c.args.octets.now in
    let before = c.args.out.now.items in
    let now = c.fail.new.out.items in
    let whole : take (length octets - p.left) (drop p.left octets) ≡ drop p.left octets = take_all (length octets - p.left) (drop p.left octets) (omega (arith, length-drop p.left octets)) in
    let other : u32_at p.endian (drop p.left octets) ≢ p.length = λ same. c.if-read_u32-passage.true (c.read_u32.ensures ∙ ap (u32_at p.endian) whole ∙ same) in
    if_ok c.fail.result (λ n. Takes (fails (reading old) BadLength octets) n before now old new) (λ n. GoesOn step (reading old) (reading new) octets c.args.is_last n before now)
    (λ n k. failed_goes_on old new BadLength octets c.args.is_last n before now
    (λ later last. rest_bad_later (reading old) p octets later c.requires c.if-octets-left.true other) k)
    c.fail.ensures.taken

pub returns-then-octets-left-clause-goes_on : goal.returns-then-octets-left-clause-goes_on
returns-then-octets-left-clause-goes_on g c =
    let p = c.args.passage in
    let octets = c.args.octets.now in
    let whole : take (length octets - p.left) (drop p.left octets) ≡ drop p.left octets = take_all (length octets - p.left) (drop p.left octets) (omega (arith, length-drop p.left octets)) in
    let same : u32_at p.endian (drop p.left octets) ≡ p.length = sym (c.read_u32.ensures ∙ ap (u32_at p.endian) whole) ∙ c.if-read_u32-passage.false in
    rest_goes_on (reading c.args.self.now) (reading c.pass.new.self) p octets c.args.is_last c.args.out.now.items c.requires c.if-octets-left.true same c.pass.ensures.reading

pub returns-then-is_last-clause-goes_on : goal.returns-then-is_last-clause-goes_on
returns-then-is_last-clause-goes_on g c =
    let old = c.args.self.now in
    let new = c.fail-then-is_last.new.self in
    let p = c.args.passage in
    let octets = c.args.octets.now in
    let before = c.args.out.now.items in
    let now = c.fail-then-is_last.new.out.items in
    if_ok c.fail-then-is_last.result (λ n. Takes (fails (reading old) ShortBlock octets) n before now old new) (λ n. GoesOn step (reading old) (reading new) octets c.args.is_last n before now)
    (λ n k. failed_goes_on old new ShortBlock octets c.args.is_last n before now
    (λ later last. rest_short_last (reading old) p octets later c.requires c.if-octets-left.false (last c.if-is_last.true)) k)
    c.fail-then-is_last.ensures.taken

pub returns-clause-goes_on : goal.returns-clause-goes_on
returns-clause-goes_on g c =
    let old = reading c.args.self.now in
    let p = c.args.passage in
    let k = c.min-count.result in
    let octets = c.args.octets.now in
    part_goes_on old (moved old p k) p k octets c.args.is_last c.args.out.now.items c.requires
    (omega (arith, c.min-count.ensures)) (omega (arith, c.min-count.ensures)) refl
